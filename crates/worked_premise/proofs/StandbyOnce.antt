-- The abstract standby is led by an event to one reply and one standby.
use Rattle.std.proofs.Common.{◌≡◌, ℕ, Bool, true, false, not, List, Option, None, Some, refl, sym, ap, ◌∙◌, if◌then◌else◌}
use Rattle.std.specs.Prelude.{◌&&◌, filter}
use Rattle.seq_scan.specs.BlockRows.{BlockRows}
use Rattle.recovery_conflict.specs.declared.locks.Cause.{Cause}
use Rattle.transaction_model.specs.TransactionLaws.{OneXmin}
use Rattle.xact_redo.specs.TransactionsOf.{transactions_of}
use Rattle.row_model.specs.Locks.{locks}
use Rattle.row_model.specs.Versions.{Version}
use Rattle.row_model.specs.Rows.{OneRows}
use Rattle.row_model.specs.RowSteps.{versions}
use Rattle.row_model.specs.Origins.{committed_in}
use Rattle.row_model.specs.Multixacts.{multixacts}
use Rattle.row_pages.specs.Pages.{is_in_block, rows_of_versions}
use Rattle.standby_core.specs.Scans.{is_whole}
use Rattle.table_schema.specs.Tables.{columns_of, file_of, number_named, table_with}
use Rattle.session_model.specs.Events.{AsksStatus, ReplayOne, Open, Next, Close, NotAdmitted, Page, Reply, TooMany}
use Rattle.session_model.specs.Laws.{OneStep}
use Rattle.legal_session.specs.AbstractStandby.{AbstractScan, AbstractStandby, GivesRows, ReadsScan, ReadsUnlessCancelled, Step, World, admits, after_block, gone_at, is_crowded, last_lock, log_origin, opened, opened_unless, scan_in, status_in}

one_pair :
    (reply other : Reply) (now later : AbstractStandby) (both : Reply × AbstractStandby) → (reply, now) ≡ both
    → (other, later) ≡ both → (reply ≡ other) × (now ≡ later)
one_pair reply other now later both e f =
    (ap (λ (p : Reply × AbstractStandby). p.0) (e ∙ sym f), ap (λ (p : Reply × AbstractStandby). p.1) (e ∙ sym f))

-- what is said only where scans are admitted is the same
same_admitted :
    (crowded admitted : Bool) (many not_admitted one other : Reply × AbstractStandby) → (admitted ≡ true → one ≡ other)
    → (if crowded then many else if not admitted then not_admitted else one)
    ≡ (if crowded then many else if not admitted then not_admitted else other)
same_admitted true admitted many not_admitted one other same = refl
same_admitted false true many not_admitted one other same = same refl
same_admitted false false many not_admitted one other same = refl

module _ (w : World) where
  -- the least live id matters only there
  same_opened :
      (x y : ℕ) (s : AbstractStandby) (found : Option ℕ) → (admits s ≡ true → x ≡ y) → opened w x s found ≡ opened w y s found
  same_opened x y s None same = refl
  same_opened x y s (Some table) same =
      let opens : ℕ → Reply × AbstractStandby =
      λ xmin.
      opened_unless (gone_at (file_of w.tables table) s.life) (last_lock (locks (log_origin w) (file_of w.tables table) s.life)) table xmin s in
      same_admitted (is_crowded s) (admits s) (TooMany, s) (NotAdmitted (status_in s), s) (opens x) (opens y)
      (λ is. ap opens (same is))

  module _ (one_rows : OneRows) where
    gives_once :
        (scan : AbstractScan) (page other : BlockRows) (more further : Bool) → GivesRows w scan page more
        → GivesRows w scan other further → (page ≡ other) × (more ≡ further)
    gives_once scan page other more further is was =
        let same =
        one_rows (multixacts scan.opened) (committed_in (log_origin w) scan.opened)
        (versions (log_origin w) (file_of w.tables scan.table) scan.opened) is.rows was.rows is.are_rows was.are_rows in (
          is.gives
              ∙ ap (λ (rows : List Version). rows_of_versions (columns_of w.tables scan.table) (filter (is_in_block scan.given) rows)) same
              ∙ sym was.gives,
          is.further ∙ sym was.further,
        )

    reads_unless_cancelled_once :
        (id : ℕ) (scan : AbstractScan) (cause : Option Cause) (s : AbstractStandby) (reply other : Reply)
        (now later : AbstractStandby) → ReadsUnlessCancelled w id scan cause s reply now
        → ReadsUnlessCancelled w id scan cause s other later → (reply ≡ other) × (now ≡ later)
    reads_unless_cancelled_once id scan (Some cause) s reply other now later (e, f) (g, h) = (e ∙ sym g, f ∙ sym h)
    reads_unless_cancelled_once id scan None s reply other now later (page, more, gives, e, f) (rows, further, gave, g, h) =
        let same = gives_once scan page rows more further gives gave in (
          e
              ∙ ap (λ (p : BlockRows). Page id (table_with w.tables scan.table) scan.given more p) same.0
              ∙ ap (λ (m : Bool). Page id (table_with w.tables scan.table) scan.given m rows) same.1
              ∙ sym g,
          f
              ∙ ap (λ (p : BlockRows). after_block id (more && is_whole p.end) s) same.0
              ∙ ap (λ (m : Bool). after_block id (m && is_whole rows.end) s) same.1
              ∙ sym h,
        )

    reads_once :
        (id : ℕ) (found : Option AbstractScan) (s : AbstractStandby) (reply other : Reply) (now later : AbstractStandby)
        → ReadsScan w id found s reply now → ReadsScan w id found s other later → (reply ≡ other) × (now ≡ later)
    reads_once id None s reply other now later (e, f) (g, h) = (e ∙ sym g, f ∙ sym h)
    reads_once id (Some scan) s reply other now later one two =
        reads_unless_cancelled_once id scan scan.cause s reply other now later one two

    pub standby_once : OneXmin → OneStep (Step w)
    standby_once one_xmin AsksStatus s reply other now later (e, f) (g, h) = (e ∙ sym g, f ∙ sym h)
    standby_once one_xmin ReplayOne s reply other now later one two = one_pair reply other now later _ one two
    standby_once one_xmin (Open name) s reply other now later (x, least, e) (y, lowest, f) =
        let same =
        same_opened x y s (number_named w.tables name)
        (λ is. one_xmin (log_origin w).transactions.at (transactions_of s.life) x y (least is) (lowest is)) in
        one_pair reply other now later (opened w y s (number_named w.tables name)) (e ∙ same) f
    standby_once one_xmin (Next id) s reply other now later one two =
        reads_once id (scan_in id s.scans) s reply other now later one two
    standby_once one_xmin (Close id) s reply other now later (e, f) (g, h) = (e ∙ sym g, f ∙ sym h)
