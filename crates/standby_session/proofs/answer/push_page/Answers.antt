use Rattle.std.proofs.Common.{◌≡◌, ◌++◌, Bool, false, subst, sym}
use Rattle.standby_core.specs.View.{standby}
use Rattle.session_text.specs.Requests as requests
use Rattle.session_model.specs.Events.{NoScan}
use Rattle.session_model.specs.Texts.{reply_text}
use Rattle.standby_session.specs.Answering.{AnswersAnyhow}
use Rattle.standby_session.proofs.Replies.{both_ok, no_page_anyhow, some_page_anyhow}
use Rattle.standby_session.proofs.answer.push_page.Goals as goal

pub returns-in-Ok-None-clause-told : goal.returns-in-Ok-None-clause-told
returns-in-Ok-None-clause-told c =
    let old = standby c.args.node.now in
    let new = standby c.print_page.new.self in
    let page = rw c.in-Ok-None.field-0-is at c.in-Ok-None.ensures.page in
    both_ok c.push_no_scan.result
    (λ (b : Bool). c.push_no_scan.new.text.items ≡ c.print_page.new.text.items ++ reply_text NoScan) (λ (b : Bool). b ≡ false)
    (AnswersAnyhow (requests.Reads c.args.id) old new c.args.text.now.items c.push_no_scan.new.text.items)
    (λ b says quiet.
    subst (λ (d : Bool). AnswersAnyhow (requests.Reads c.args.id) old new c.args.text.now.items c.push_no_scan.new.text.items d) (sym quiet)
    (no_page_anyhow c.args.id old new _ c.args.text.now.items c.print_page.new.text.items c.push_no_scan.new.text.items page says))
    c.push_no_scan.ensures.told c.push_no_scan.ensures.quiet

pub returns-in-Ok-clause-told : goal.returns-in-Ok-clause-told
returns-in-Ok-clause-told c =
    let page = rw c.in-Ok-Some.field-0-is at c.in-Ok-Some.ensures.page in
    some_page_anyhow c.args.id (standby c.args.node.now) (standby c.print_page.new.self) c.tables.result.now c.in-Ok-Some.page
    c.args.text.now.items c.print_page.new.text.items c.push_last_line.new.text.items c.is_damaged.result page c.tables.ensures
    c.in-Ok.ensures c.is_damaged.ensures
