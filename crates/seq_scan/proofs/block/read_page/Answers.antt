use Rattle.std.proofs.Common.{arith, ◌∙◌}
use Rattle.seq_scan.proofs.PageLoop.{nothing_read, row_read, end_read, all_read}
use Rattle.seq_scan.proofs.block.read_page.Goals.{in-Nothing, in-Row+in_ok-push-in-Row}
use Rattle.seq_scan.proofs.block.read_page.Goals as goal

pub returns-in-End : goal.returns-in-End
returns-in-End g c =
    end_read _ _ _ _ _ c.loop-k.rows c.in-End.end _ (omega arith) c.in_ok-read_line.ensures c.loop-k.invariant c.in-End.is

pub loop-k-preserved : goal.loop-k-preserved
loop-k-preserved g c = elim c.match-branch-2.branch [
  | in-Nothing w ↦ nothing_read _ _ _ _ _ c.loop-k.rows c.match-branch-2.rows _ (omega arith) c.in_ok-read_line.ensures c.loop-k.invariant w.in-Nothing.is w.rows-is
  | in-Row+in_ok-push-in-Row w ↦ row_read _ _ _ _ _ c.loop-k.rows c.match-branch-2.rows w.in-Row.row _ (omega arith) c.in_ok-read_line.ensures c.loop-k.invariant w.in-Row.is (w.rows-is ∙ w.in_ok-push-in-Row.ensures.ok)
]

pub returns : goal.returns
returns g c = all_read _ _ _ _ c.loop-k.rows _ (omega arith) c.loop-k.invariant
