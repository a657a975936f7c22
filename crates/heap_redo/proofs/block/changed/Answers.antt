use Rattle.std.proofs.Common.{arith, ap, ◌∙◌, Ok, Result, List}
use Rattle.std.proofs.lemmas.Grind.{common_steps}
use Rattle.heap_page.specs.Item.{Item}
use Rattle.heap_redo.specs.After.{BlockRefusal}
use Rattle.heap_redo.specs.Refused.{refusal_of}
use Rattle.heap_redo.proofs.OneBlock.{below-last, page-done, page-refused, page-changed}
use Rattle.heap_redo.proofs.block.changed.Goals as goal

pub returns-then-rec-lsn-clause-answer : goal.returns-then-rec-lsn-clause-answer
returns-then-rec-lsn-clause-answer c =
    page-done c.args.rec.now c.args.block.now (below-last c.args.block.now.block c.requires.changes.below) c.requires.anew c.requires.changes.left c.args.page.now c.keeps_rule.ensures (omega arith)

pub returns-in_err-change-clause-answer : goal.returns-in_err-change-clause-answer
returns-in_err-change-clause-answer c =
    let refused = page-refused c.args.rec.now c.args.block.now (below-last c.args.block.now.block c.requires.changes.below) c.requires.anew c.requires.changes.left c.args.page.now c.keeps_rule.ensures (omega arith)
    (refusal_of c.in_err-change.field-0.0) c.in_err-change.ensures.answer in
    grind (arith, common_steps, refused)

pub returns-clause-answer : goal.returns-clause-answer
returns-clause-answer c =
    let ok : List Item → Result (List Item) BlockRefusal = λ items. Ok items in
    page-changed c.args.rec.now c.args.block.now (below-last c.args.block.now.block c.requires.changes.below) c.requires.anew c.requires.changes.left c.args.page.now c.keeps_rule.ensures (omega arith)
    c.set_lsn.new.self c.set_lsn.ensures.page c.set_lsn.ensures.lsn (ap ok c.set_lsn.ensures.items ∙ c.in_ok-change.ensures.answer)
