use Rattle.std.proofs.Common.{arith, ◌∙◌, take}
use Rattle.std.proofs.lemmas.Grind.{common_steps}
use Rattle.heap_page.specs.Page.{items_of}
use Rattle.heap_redo.specs.TupleHeads.{Head, replaced}
use Rattle.heap_redo.specs.After.{tuple_of}
use Rattle.heap_redo.specs.Heads.{headed}
use Rattle.heap_redo.specs.Refused.{refusal_of}
use Rattle.heap_redo.proofs.Marks.{last-in_use, put-refused_after, put-ok_after, never-err}
use Rattle.heap_redo.proofs.Updates.{within-refused, within-short, within-put, not-true, not-false}
use Rattle.heap_redo.proofs.update.replace.Goals as goal

pub returns-in_default-clause-answer : goal.returns-in_default-clause-answer
returns-in_default-clause-answer c =
    let v = c.args.versions in
    let block = c.args.block.now in
    let items = items_of c.args.page.now in
    let next = headed items v.old_line (λ (head : Head). replaced v.old_xmax v.old_bits v.is_hot block.block v.new_line head) in
    within-short c.args.rec.now block v.is_hot v.old_xmax v.old_line v.old_bits v.new_xmax v.new_line items
    c.args.tuple.now next c.requires.some c.requires.tuple c.requires.marks (not-false _ c.in_default.ensures.short)

pub returns-in_err-check_new-clause-answer : goal.returns-in_err-check_new-clause-answer
returns-in_err-check_new-clause-answer c =
    let v = c.args.versions in
    let rec = c.args.rec.now in
    let block = c.args.block.now in
    let items = items_of c.args.page.now in
    let tuple = c.args.tuple.now in
    let next = headed items v.old_line (λ (head : Head). replaced v.old_xmax v.old_bits v.is_hot block.block v.new_line head) in
    let rest = take c.in-Some.len c.joined.new.bytes in
    let refused = put-refused_after items v.is_hot v.old_xmax v.old_line v.old_bits block.block v.new_line next (last-in_use c.args.page.now) c.requires.marks
    v.new_line (tuple_of rec.head.xid.0 v.new_xmax block.block v.new_line tuple rest) (refusal_of c.in_err-check_new.field-0.0) c.in_err-check_new.ensures
    ∙ within-put rec block v.is_hot v.old_xmax v.old_line v.old_bits v.new_xmax v.new_line items
    tuple next rest c.requires.some c.requires.tuple c.requires.marks
    (not-true _ c.in-Some.ensures.short) c.in-Some.ensures.small (c.in-Some.ensures.taken ∙ c.requires.room) in
    grind (arith, common_steps, refused)

pub returns-in_err-mark_old-clause-answer : goal.returns-in_err-mark_old-clause-answer
returns-in_err-mark_old-clause-answer c =
    let v = c.args.versions in
    let refused = within-refused c.args.rec.now c.args.block.now v.is_hot v.old_xmax v.old_line v.old_bits v.new_xmax v.new_line (items_of c.args.page.now)
    (refusal_of c.in_err-mark_old.field-0.0) c.in_err-mark_old.ensures.answer in
    grind (arith, common_steps, refused)

pub returns-clause-answer : goal.returns-clause-answer
returns-clause-answer c =
    let v = c.args.versions in
    c.put_new.ensures.answer
    ∙ within-put c.args.rec.now c.args.block.now v.is_hot v.old_xmax v.old_line v.old_bits v.new_xmax v.new_line (items_of c.args.page.now)
    c.args.tuple.now (items_of c.mark_old.new.page) (take c.in-Some.len c.joined.new.bytes) c.requires.some c.requires.tuple c.in_ok-mark_old.ensures.answer
    (not-true _ c.in-Some.ensures.short) c.in-Some.ensures.small (c.in-Some.ensures.taken ∙ c.requires.room)

pub returns-clause-err : goal.returns-clause-err
returns-clause-err c =
    let v = c.args.versions in
    let rec = c.args.rec.now in
    let block = c.args.block.now in
    let items = items_of c.args.page.now in
    let rest = take c.in-Some.len c.joined.new.bytes in
    never-err _ (items_of c.put_new.new.page) c.put_new.result _ c.put_new.ensures.answer
    (put-ok_after items v.is_hot v.old_xmax v.old_line v.old_bits block.block v.new_line (items_of c.mark_old.new.page) (last-in_use c.args.page.now) c.in_ok-mark_old.ensures.answer
    v.new_line (tuple_of rec.head.xid.0 v.new_xmax block.block v.new_line c.args.tuple.now rest) _ c.in_ok-check_new.ensures)
