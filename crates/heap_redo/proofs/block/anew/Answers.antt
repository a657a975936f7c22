use Rattle.std.proofs.Common.{arith, ap, ◌∙◌, Ok, Result, List}
use Rattle.std.proofs.lemmas.Grind.{common_steps}
use Rattle.heap_page.specs.Item.{Item}
use Rattle.heap_redo.specs.After.{BlockRefusal, Content, page, paged, changed}
use Rattle.heap_redo.specs.Refused.{refusal_of}
use Rattle.heap_redo.specs.Redone.{content_of}
use Rattle.heap_redo.proofs.OneBlock.{below-last, after-anew, redone-anew, refused-anew}
use Rattle.heap_redo.proofs.block.anew.Goals as goal

pub returns-in_err-change : goal.returns-in_err-change
returns-in_err-change c before =
    let rec = c.args.rec.now in
    let block = c.args.block.now in
    let below = below-last c.args.block.now.block c.requires.changes.below in
    let refused = refused-anew rec block below c.requires.anew before (refusal_of c.in_err-change.field-0.0)
    (ap paged (c.in_err-change.ensures.answer ∙ ap (changed rec block rec.kind) c.requires.items)
    ∙ after-anew rec block below c.requires.plain c.requires.anew c.requires.changes.left (content_of before)) in
    grind (arith, common_steps, refused)

pub returns : goal.returns
returns c before =
    let rec = c.args.rec.now in
    let block = c.args.block.now in
    let below = below-last c.args.block.now.block c.requires.changes.below in
    let paged_items : List Item → Result Content BlockRefusal = λ items. Ok (page items) in
    redone-anew rec block below c.requires.anew c.requires.changes.left before c.set_lsn.new.self
    c.set_lsn.ensures.page c.set_lsn.ensures.lsn
    (ap paged_items c.set_lsn.ensures.items
    ∙ ap paged (c.in_ok-change.ensures.answer ∙ ap (changed rec block rec.kind) c.requires.items)
    ∙ after-anew rec block below c.requires.plain c.requires.anew c.requires.changes.left (content_of before))
