use Rattle.std.proofs.Common.{arith, ap, sym, ◌∙◌, ◌≡◌, length, replicate, take, ℕ}
use Rattle.std.proofs.lemmas.Grind.{common_steps}
use Rattle.std.proofs.lemmas.List.{length-replicate}
use Rattle.heap_page.specs.Item.{numbered, tuple_in}
use Rattle.heap_page.specs.Page.{items_of}
use Rattle.heap_redo.specs.After.{user_data, joined}
use Rattle.heap_redo.specs.Refused.{refusal_of}
use Rattle.heap_redo.proofs.Versions.{short-room}
use Rattle.heap_redo.proofs.Updates.{within-none, within-refused, first-none, first-there, first-is}
use Rattle.heap_redo.proofs.update.update_within.Goals as goal

pub returns-in_default-clause-answer : goal.returns-in_default-clause-answer
returns-in_default-clause-answer c =
    let v = c.args.versions in
    let block = c.args.block.now in
    let none = first-none block.tuples (sym c.in_default.is ∙ c.first.ensures) in
    c.mark_old.ensures.answer
    ∙ sym (within-none c.args.rec.now block v.is_hot v.old_xmax v.old_line v.old_bits v.new_xmax v.new_line (items_of c.args.page.now) none)

pub returns-in_err-check_mark-clause-answer : goal.returns-in_err-check_mark-clause-answer
returns-in_err-check_mark-clause-answer c =
    let v = c.args.versions in
    let refused = within-refused c.args.rec.now c.args.block.now v.is_hot v.old_xmax v.old_line v.old_bits v.new_xmax v.new_line (items_of c.args.page.now)
    (refusal_of c.in_err-check_mark.field-0.0) c.in_err-check_mark.ensures in
    grind (arith, common_steps, refused)

pub replace-requires-clause-some : goal.replace-requires-clause-some
replace-requires-clause-some c =
    first-there c.args.block.now.tuples c.in-Some.tuple (sym c.in-Some.is ∙ c.first.ensures)

pub replace-requires-clause-tuple : goal.replace-requires-clause-tuple
replace-requires-clause-tuple c =
    first-is c.args.block.now.tuples c.in-Some.tuple (sym c.in-Some.is ∙ c.first.ensures)

pub replace-requires-clause-marks : goal.replace-requires-clause-marks
replace-requires-clause-marks c = c.in_ok-check_mark.ensures

pub replace-requires-clause-room : goal.replace-requires-clause-room
replace-requires-clause-room c =
    let size : length {A = ℕ} (replicate 512 0) ≡ 512 = length-replicate {A = ℕ} 512 0 in
    short-room c.in-Some.tuple (user_data (tuple_in (numbered (items_of c.args.page.now) c.args.versions.old_line))) _ size (omega (arith, c.joined_bound.ensures))

pub replace-requires-2-clause-some : goal.replace-requires-2-clause-some
replace-requires-2-clause-some c =
    first-there c.args.block.now.tuples c.in-Some.tuple (sym c.in-Some.is ∙ c.first.ensures)

pub replace-requires-2-clause-tuple : goal.replace-requires-2-clause-tuple
replace-requires-2-clause-tuple c =
    first-is c.args.block.now.tuples c.in-Some.tuple (sym c.in-Some.is ∙ c.first.ensures)

pub replace-requires-2-clause-marks : goal.replace-requires-2-clause-marks
replace-requires-2-clause-marks c = c.in_ok-check_mark.ensures

pub replace-requires-2-clause-room : goal.replace-requires-2-clause-room
replace-requires-2-clause-room c =
    let size : length {A = ℕ} (replicate 8192 0) ≡ 8192 = length-replicate {A = ℕ} 8192 0 in
    ap (λ n. take n (joined c.in-Some.tuple (user_data (tuple_in (numbered (items_of c.args.page.now) c.args.versions.old_line))))) size
