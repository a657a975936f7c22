use Rattle.std.proofs.Common.{◌<◌, ◌∙◌, ap, length, slice_index_or, sym}
use Rattle.std.proofs.lemmas.List.Elements.{All-get_or, All-same}
use Rattle.page_store.specs.Content.{content}
use Rattle.page_store.specs.Seen.{view_of}
use Rattle.xact_redo.specs.State.{transactions}
use Rattle.standby_core.specs.declared.scans.NodeScan.{NodeScan}
use Rattle.standby_core.specs.Scans.{is_more}
use Rattle.standby_core.proofs.Paged.{prints, prints_cancelled, prints_none, described_onward, kept_described, stands_there}
use Rattle.standby_core.proofs.Places.{all_left, none_found}
use Rattle.standby_core.proofs.scans.Scans.print_page.Goals as goal

pub returns-in_default-clause-page : goal.returns-in_default-clause-page
returns-in_default-clause-page c =
    let scans = c.args.self.now.open.items in
    λ node reads. prints_none c.args.id scans (none_found c.args.id 0 scans (sym c.in_default.ensures.first)) node reads.open_scans c.args.head.now c.args.text.now.items

pub returns-in-Some-cause_at-clause-page : goal.returns-in-Some-cause_at-clause-page
unfolding transactions
returns-in-Some-cause_at-clause-page c =
    let scans = c.args.self.now.open.items in
    let place = c.in-Some.place in
    let stands = stands_there c.args.id scans place c.in-Some.ensures.first in
    λ node reads. prints_cancelled c.args.id place scans c.remove.result stands c.remove.ensures.value
    node c.args.tables.now (view_of (content c.args.pool.now)) (transactions c.args.state.now) reads c.args.head.now c.args.text.now.items
    c.in-Some-cause_at.cause c.remove.new.self.items
    (ap (λ (o : NodeScan). o.cause) c.remove.ensures.value ∙ sym (c.cause_at.ensures c.remove.result) ∙ c.in-Some-cause_at.is) c.remove.ensures.items

pub returns-in-Some-cause_at-clause-still : goal.returns-in-Some-cause_at-clause-still
returns-in-Some-cause_at-clause-still c =
    let P : NodeScan → Type 0 = λ other. other.scan.table < length c.args.tables.now.tables in
    All-same P c.remove.new.self.items _ c.remove.ensures.items (all_left P c.args.self.now.open.items c.in-Some.place c.requires.described)

pub returns-clause-page : goal.returns-clause-page
unfolding transactions
returns-clause-page c =
    let scans = c.args.self.now.open.items in
    let stands = stands_there c.args.id scans c.in-Some.place c.in-Some.ensures.first in
    λ node reads. prints c.args.id c.in-Some.place scans c.index_mut.result.now stands c.index_mut.ensures.value
    node c.args.tables.now (view_of (content c.args.pool.now)) (transactions c.args.state.now) reads
    (ap (λ (o : NodeScan). o.cause) c.index_mut.ensures.value ∙ sym (c.cause_at.ensures c.index_mut.result.now) ∙ c.in-None.is)
    c.args.head.now c.args.text.now.items c.print_page.new.out.items c.table-table.result c.in_ok-end.end c.print_page.new.self c.keep.new.self.open.items
    c.table-table.ensures c.in_ok-end.ensures.page c.in_ok-end.ensures.onward c.keep.ensures.open

pub returns-clause-still : goal.returns-clause-still
returns-clause-still c =
    let scans = c.args.self.now.open.items in
    let one = c.index_mut.result.now in
    let tables = c.args.tables.now in
    let after : NodeScan = record { id = one.id; scan = c.print_page.new.self; cause = one.cause } in
    let was = All-get_or (λ (other : NodeScan). other.scan.table < length tables.tables) scans c.in-Some.place one c.in-Some.ensures.inside c.requires.described in
    let has = described_onward (length tables.tables) one (slice_index_or scans c.in-Some.place one) c.print_page.new.self c.index_mut.ensures.value c.in_ok-end.ensures.onward was in
    kept_described tables (is_more c.in_ok-end.end) scans c.keep.new.self.open.items c.in-Some.place after c.keep.ensures.open c.requires.described has
