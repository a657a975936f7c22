use Rattle.std.proofs.Common.{ap, sym, ◌∙◌}
use Rattle.heap_page.specs.Page.{items_of}
use Rattle.heap_redo.specs.After.{put, tuple_of}
use Rattle.heap_redo.proofs.Versions.{listed-empty, listed-one}
use Rattle.heap_redo.proofs.Updates.{first-none, first-there, first-is}
use Rattle.heap_redo.proofs.version.insert.Goals as goal

pub returns-in_default-clause-answer : goal.returns-in_default-clause-answer
returns-in_default-clause-answer c =
    let tuples = c.args.tuples.now in
    listed-empty c.args.xid c.args.block c.args.line tuples (items_of c.args.page.now) (first-none tuples (sym c.in_default.is ∙ c.first.ensures))

pub returns-clause-answer : goal.returns-clause-answer
returns-clause-answer c =
    let tuples = c.args.tuples.now in
    let items = items_of c.args.page.now in
    let tuple = c.in-Some.tuple in
    let first = sym c.in-Some.is ∙ c.first.ensures in
    c.put_new.ensures.answer
    ∙ ap (λ rest. put c.args.line (tuple_of c.args.xid 0 c.args.block c.args.line tuple rest) items) c.as_slice.ensures
    ∙ listed-one c.args.xid c.args.block c.args.line tuple tuples items (first-there tuples tuple first) (first-is tuples tuple first)
