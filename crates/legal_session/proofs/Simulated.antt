-- Each step of a node is one of the abstract standby that it stands for, and where a life begins the one stands for the other.
use Rattle.std.proofs.Common.{◌≡◌, ℕ, List, Option, Some, None, Ok, refl, ap}
use Rattle.std.proofs.Math.Path.{fun_ext}
use Rattle.std.specs.Prelude.{slice_get}
use Rattle.pg_types.specs.declared.names.Locator.{Locator}
use Rattle.page_store.specs.Seen.{absent}
use Rattle.row_model.specs.RowSteps.{blocks_of, view_after, view_before}
use Rattle.row_redo.specs.Shown.{BlocksShowVersions}
use Rattle.row_visibility.specs.Sees.{NoneBelowXmin, StateAlong, XminAlong}
use Rattle.record_numbers.specs.Laws.{ToldNumbersFit}
use Rattle.kept_rows.specs.Kept.{KeepsRows}
use Rattle.table_schema.specs.Description.{locators}
use Rattle.table_schema.specs.Laws.{TablesAreApart}
use Rattle.table_schema.specs.Reading as schema
use Rattle.standby_model.specs.Laws.{LogRises}
use Rattle.standby_core.specs.Standby.{Standby, at_origin}
use Rattle.session_model.specs.Events.{Event, AsksStatus, ReplayOne, Open, Next, Close, Reply}
use Rattle.session_model.specs.NodeSteps.{NodeStep}
use Rattle.legal_session.specs.AbstractStandby.{AbstractStandby, Step, World, log_origin}
use Rattle.legal_session.specs.Represents.{BeginsSo, NodeSimulates, Represents, gone_along, locks_along, world_at}
use Rattle.legal_session.proofs.Facts.{IsGood, Laws, LogLaws}
use Rattle.legal_session.proofs.Pages.{reads_scan}
use Rattle.legal_session.proofs.Steps.{LeadsTo, asks_status, closes_scan, opens_scan, replays_one}

by_event :
    (laws : Laws) (w : World) (start : ℕ) (text : List ℕ) (good : IsGood w start) (described : schema.Answers text (Ok w.tables))
    (s : AbstractStandby) (node : Standby) (is : Represents w start node s) (event : Event) (reply : Reply) (now : Standby) → NodeStep w.told.byte event node reply now → LeadsTo w start (Step w event s reply) now
by_event laws w start text good described s node is AsksStatus reply now step = asks_status laws w start good s node is reply now step
by_event laws w start text good described s node is ReplayOne reply now step = replays_one laws w start good s node is reply now step
by_event laws w start text good described s node is (Open name) reply now step = opens_scan laws w start good s node is text name reply now described step
by_event laws w start text good described s node is (Next id) reply now step = reads_scan laws w start good s node is id reply now step
by_event laws w start text good described s node is (Close id) reply now step = closes_scan laws w start good s node is id reply now step

pub node_simulates_holds : TablesAreApart → LogRises → ToldNumbersFit → BlocksShowVersions → StateAlong → XminAlong → NoneBelowXmin → KeepsRows → NodeSimulates
node_simulates_holds apart all_rise fits shown along xmin none_below keeps w start text sized tells described legal node s is event reply now step =
    let logs : LogLaws = record { all_rise = all_rise; fits = fits; shown = shown } in
    let laws : Laws = record { logs = logs; apart = apart; along = along; xmin = xmin; none_below = none_below; keeps = keeps } in
    by_event laws w start text (record { sized = sized; tells = tells; legal = legal }) described s node is event reply now step

none_before : (w : World) (found : Option Locator) (block : ℕ) → blocks_of (log_origin w) found block ≡ absent
none_before w None block = refl
none_before w (Some table) block = refl

no_blocks : (w : World) → view_before (log_origin w) (locators w.tables) ≡ (λ table block. absent)
no_blocks w = fun_ext (λ table. fun_ext (λ block. none_before w (slice_get (locators w.tables) table) block))

pub begins_so_holds : BeginsSo
unfolding at_origin view_after locks_along gone_along
begins_so_holds tables origin byte top = record {
  begins = refl;
  stands = tt;
  tables = refl;
  told = refl;
  at = refl;
  prev = refl;
  min = refl;
  awaited = refl;
  blocks = ap Ok (no_blocks (world_at tables origin byte top));
  transactions = refl;
  scans = tt;
  next_id = refl;
  held = refl;
  gone = refl;
}
