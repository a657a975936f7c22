use Rattle.heap_redo.proofs.OneBlock.{no_image, unapplied, restored-image}
use Rattle.heap_redo.proofs.replay.remake.Goals as goal
use Rattle.heap_redo.proofs.replay.remake.Goals.{in-Some+else-image, in_default}

pub restore-requires-clause-image : goal.restore-requires-clause-image
restore-requires-clause-image c =
    restored-image c.args.block.now.image c.in-Some.image c.in-Some.is c.if-image.true

pub rebuild-requires-clause-plain : goal.rebuild-requires-clause-plain
rebuild-requires-clause-plain c =
    elim c.match-block.branch [
      | in-Some+else-image w ↦ unapplied c.args.block.now.image w.in-Some.image w.in-Some.is w.if-image.false
      | in_default w ↦ no_image c.args.block.now.image w.in_default.not-Some
    ]
