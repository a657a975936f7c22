-- What a node answers over the example's files is answered by the log alone.
use Rattle.std.proofs.Common.{lit<}
use Rattle.std.specs.Prelude.{codes}
use Rattle.transaction_model.specs.TransactionLaws.{OneXmin}
use Rattle.row_model.specs.Rows.{OneRows}
use Rattle.session_model.specs.Laws.{NodeOneScan, OneScan, Simulates}
use Rattle.session_model.proofs.Follows.{sessions_follow}
use Rattle.session_model.proofs.Once.{scans_once}
use Rattle.session_model.proofs.ScansFollow.{scans_follow}
use Rattle.session_model.specs.Answers.{Steps}
use Rattle.session_model.specs.Scans.{IsScan}
use Rattle.standby_model.specs.Archived.{told_by}
use Rattle.legal_session.specs.AbstractStandby.{life_begins}
use Rattle.legal_session.specs.Represents.{BeginsSo, NodeSimulates, Represents}
use Rattle.legal_session.proofs.Fitting.{files_tell_bytes}
use Rattle.run_model.specs.Origin.{origin, start}
use Rattle.worked_archive.specs.WorkedArchive.{IsWorkedArchive, files}
use Rattle.worked_premise.specs.Premise.{FilesAreLegal, ScanIsAnswered, ScansSo, SessionIsAnswered, legal_step, node_step, scan_text, session_text, source, top, world}
use Rattle.worked_premise.specs.WorkedSchema.{SchemaIsRead, tables, text}
use Rattle.worked_premise.proofs.Bytes.{have_bytes}
use Rattle.worked_premise.proofs.Scanned.{is_scan, is_session, scan_starts, session_starts}
use Rattle.worked_premise.proofs.StandbyOnce.{standby_once}

scans_so :
    {S : Type 0} (step : Steps S) (s : S) → OneScan step → IsScan step s (codes "t") scan_text 0 → ScansSo step s
scans_so step s once is =
    record { is = is; only = λ text status other. once s (codes "t") text scan_text status 0 other is }

module _ (worked : IsWorkedArchive) (described : SchemaIsRead) (legal : FilesAreLegal) (simulates : NodeSimulates) (begins_so : BeginsSo) where
  simulated : Simulates (Represents world origin.redo.0) node_step legal_step
  simulated = simulates world origin.redo.0 text (lit< tt) (files_tell_bytes files have_bytes) described legal

  stand : Represents world origin.redo.0 (start tables) (life_begins origin.redo)
  stand = begins_so tables origin (told_by files).byte top

  pub scan_is_answered : OneXmin → OneRows → NodeOneScan → ScanIsAnswered
  scan_is_answered one_xmin one_rows one_scan =
      let follows = scans_follow (Represents world origin.redo.0) node_step legal_step simulated (start tables) (life_begins origin.redo) stand in
      record {
        starts = scan_starts;
        node = scans_so node_step (start tables) (one_scan (told_by files).byte) (is_scan worked);
        legal =
            scans_so legal_step (life_begins origin.redo) (scans_once legal_step (standby_once world one_rows one_xmin))
            (follows.whole (codes "t") scan_text 0 (is_scan worked));
      }

  pub session_is_answered : SessionIsAnswered
  session_is_answered =
      let follows = sessions_follow (Represents world origin.redo.0) node_step legal_step simulated (start tables) (life_begins origin.redo) stand in
      record {
        starts = session_starts;
        node = is_session worked;
        legal = follows.whole source session_text 0 (is_session worked);
      }
