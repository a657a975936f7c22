use Rattle.std.proofs.Common.{◌≡◌, refl, subst}
use Rattle.std.specs.Prelude.{None}
use Rattle.standby_core.specs.Scans.{scan_with}
use Rattle.standby_core.specs.View.{standby}
use Rattle.standby_session.specs.Scanning.{IsLastPrinted}
use Rattle.standby_session.proofs.Paging.{page_onward, page_pushed}
use Rattle.standby_session.proofs.scan.push_page.Goals as goal

pub returns-in-Ok-push_last_line-clause-told : goal.returns-in-Ok-push_last_line-clause-told
returns-in-Ok-push_last_line-clause-told c =
    let old = standby c.args.node.now in
    let page = rw c.in-Ok-Some.field-0-is at c.in-Ok-Some.ensures.page in
    page_pushed c.args.id (scan_with c.args.id old.scans) old (standby c.print_page.new.self) c.tables.result.now c.in-Ok-Some.page
    c.args.text.now.items c.print_page.new.text.items c.push_last_line.new.text.items c.status_behind.result page c.tables.ensures
    c.in-Ok-push_last_line.ensures c.status_behind.ensures.last

pub returns-in-Ok-push_last_line-clause-onward : goal.returns-in-Ok-push_last_line-clause-onward
returns-in-Ok-push_last_line-clause-onward c = λ e.
    let old = standby c.args.node.now in
    let page = rw c.in-Ok-Some.field-0-is at c.in-Ok-Some.ensures.page in
    let none : c.status_behind.result ≡ None = cc in
    page_onward c.args.id (scan_with c.args.id old.scans) old (standby c.print_page.new.self) c.in-Ok-Some.page _
    c.args.text.now.items c.print_page.new.text.items refl page
    (subst (λ last. IsLastPrinted last c.in-Ok-Some.page) none c.status_behind.ensures.last)
