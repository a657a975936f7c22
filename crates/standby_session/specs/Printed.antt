-- What is said of a page whose rows were printed.
use Rattle.std.specs.Prelude.{◌≡◌, ℕ, Bool, false, List, ◌++◌}
use Rattle.table_schema.specs.Description.{Description}
use Rattle.table_schema.specs.Tables.{table_with}
use Rattle.seq_scan.specs.BlockRows.{BlockEnd}
use Rattle.seq_scan.specs.Scans.{end_at}
use Rattle.standby_core.specs.declared.scans.PrintedPage.{PrintedPage}
use Rattle.standby_core.specs.declared.scans.PrintedPage.TheVariants as printed
use Rattle.session_model.specs.Events.{Cancelled, is_damage}
use Rattle.session_model.specs.Texts.{end_line, reply_text}

-- the line of its end, whatever block it is of; or that of a scan that was cancelled
abbrev pub SaysLast : ℕ → Description → PrintedPage → List ℕ → List ℕ → Type 0
SaysLast id tables (printed.Given table end) before now =
    (block : ℕ) (more : Bool) (last : BlockEnd) → end ≡ end_at block more last
    → now ≡ before ++ end_line id (table_with tables table) block more last
SaysLast id tables (printed.Cancelled cause) before now = now ≡ before ++ reply_text (Cancelled id cause)

-- whether it met damage
abbrev pub IsDamaged : PrintedPage → Bool → Type 0
IsDamaged (printed.Given table end) damaged =
    (block : ℕ) (more : Bool) (last : BlockEnd) → end ≡ end_at block more last → damaged ≡ is_damage last
IsDamaged (printed.Cancelled cause) damaged = damaged ≡ false
