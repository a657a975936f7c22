-- Each clause is broken alone.
use Rattle.std.specs.Prelude.{[], ◌∷◌}
use Rattle.row_model.specs.WorkedRows.{worked_log, worked_origin, worked_table}
use Rattle.row_model.specs.LegalRows.{LegalLog}
use Rattle.worked_logs.specs.BrokenLogs.{EachBreaks}
use Rattle.worked_logs.proofs.Legal.{legal_keeps_holds}
use Rattle.worked_logs.proofs.BrokenBirths.{births_only}
use Rattle.worked_logs.proofs.BrokenDeleters.{deleters_only}
use Rattle.worked_logs.proofs.BrokenBlocks.{blocks_only}
use Rattle.worked_logs.proofs.BrokenMultixacts.{multixacts_only}
use Rattle.worked_logs.proofs.BrokenNewMultixacts.{again_only, updaters_only, zero_only}
use Rattle.worked_logs.proofs.BrokenRedo.{redone_only}
use Rattle.worked_logs.proofs.BrokenTransactions.{transactions_only}
use Rattle.worked_logs.proofs.BrokenApart.{apart_only}
use Rattle.worked_logs.proofs.BrokenShutdowns.{shutdowns_only}
use Rattle.worked_logs.proofs.BrokenCheckpoint.{checkpoint_only}
use Rattle.worked_logs.proofs.RunningAgain.{running_keeps}
use Rattle.worked_logs.proofs.CheckpointAgain.{again_keeps}
use Rattle.worked_logs.proofs.BrokenRenews.{renews_only}
use Rattle.worked_logs.proofs.BrokenRemovals.{removals_only}
use Rattle.worked_logs.proofs.BrokenHorizon.{horizon_only}
use Rattle.worked_logs.proofs.BrokenFreeze.{frozen_only}
use Rattle.worked_logs.proofs.LockedLog.{locked_keeps}
use Rattle.worked_logs.proofs.BrokenMarks.{marks_only}
use Rattle.worked_logs.proofs.BrokenLive.{inserted_keeps, live_only}
use Rattle.worked_logs.proofs.BrokenBorn.{born_only}
use Rattle.worked_logs.proofs.BrokenOther.{other_only}
use Rattle.worked_logs.proofs.BrokenCut.{cut_only}
use Rattle.worked_logs.proofs.BrokenLocks.{unlocked_cut_only, unlocked_drop_only}
use Rattle.worked_logs.proofs.DroppedLog.{dropped_keeps}
use Rattle.worked_logs.proofs.BrokenGone.{gone_only}
use Rattle.worked_logs.proofs.RunningLocked.{running_keeps as holder_runs}
use Rattle.worked_logs.proofs.BrokenRewritten.{rewritten_only}

pub each_breaks_holds : LegalLog worked_origin (worked_table ∷ []) worked_log → EachBreaks
each_breaks_holds legal =
    let keeps = legal_keeps_holds worked_origin worked_table worked_log legal in
    record {
      births = births_only keeps;
      deleters = deleters_only keeps;
      blocks = blocks_only keeps;
      multixacts = multixacts_only keeps;
      zero_multixact = zero_only keeps;
      made_again = again_only keeps;
      two_updaters = updaters_only keeps;
      redone = redone_only keeps;
      transactions = transactions_only keeps;
      apart = apart_only keeps;
      shutdowns = shutdowns_only keeps;
      checkpoint = checkpoint_only keeps;
      renews = renews_only (again_keeps (running_keeps keeps));
      removals = removals_only keeps;
      horizon = horizon_only keeps;
      frozen = frozen_only keeps;
      marks = marks_only keeps;
      live = live_only (inserted_keeps keeps);
      born_frozen = born_only keeps;
      cut = cut_only (locked_keeps keeps);
      cut_unlocked = unlocked_cut_only keeps;
      other_lock = other_only (locked_keeps keeps);
      drop_unlocked = unlocked_drop_only keeps;
      gone = gone_only (dropped_keeps (locked_keeps keeps));
      rewritten = rewritten_only (holder_runs (locked_keeps keeps));
    }
