use Rattle.std.proofs.Common.{ap, sym, ◌∙◌, []}
use Rattle.heap_page.specs.Page.{items_of}
use Rattle.heap_redo.specs.After.{put, tuple_of}
use Rattle.heap_redo.proofs.Updates.{joined-none, put_version-none, put_version-first, first-none, first-there, first-is}
use Rattle.heap_redo.proofs.update.put_version.Goals as goal

pub returns-in_default-clause-answer : goal.returns-in_default-clause-answer
returns-in_default-clause-answer c =
    let block = c.args.block.now in
    let none = first-none block.tuples (sym c.in_default.is ∙ c.first.ensures) in
    sym (put_version-none c.args.rec.now.head.xid.0 c.args.versions.new_xmax block.block c.args.versions.new_line [] (items_of c.args.page.now) block.tuples none)

pub returns-clause-answer : goal.returns-clause-answer
returns-clause-answer c =
    let block = c.args.block.now in
    let xid = c.args.rec.now.head.xid.0 in
    let versions = c.args.versions in
    let items = items_of c.args.page.now in
    let tuple = c.in-Some.tuple in
    let first = sym c.in-Some.is ∙ c.first.ensures in
    c.put_new.ensures.answer
    ∙ ap (λ rest. put versions.new_line (tuple_of xid versions.new_xmax block.block versions.new_line tuple rest) items) (c.as_slice.ensures ∙ sym (joined-none tuple))
    ∙ sym (put_version-first xid versions.new_xmax block.block versions.new_line [] items block.tuples tuple (first-there block.tuples tuple first) (first-is block.tuples tuple first))
