-- What lines mean that are read where they stand in a record.
use Rattle.std.specs.Prelude.{ℕ, ◌+◌, ◌*◌, ◌≤◌, ◌^◌, Bool, true, false, List, length}
use Rattle.std.specs.List.{range_with_len}
use Rattle.record_fields.specs.Fields.{lines_at, planned_lines}

-- n lines: those that stand in the text from the next one on, or those in a row
abbrev pub lines_in : Bool → List ℕ → ℕ → ℕ → List ℕ
lines_in true text next n = lines_at text next n
lines_in false text next n = range_with_len next n

-- they stand within the text, or are numbers of two bytes
abbrev pub DoLinesStand : Bool → List ℕ → ℕ → ℕ → Type 0
DoLinesStand true text next n = next + 2 * n ≤ length text
DoLinesStand false text next n = next + n ≤ 2 ^ 16

-- n plans stand within the text, and their lines from another place on
pub record DoPlansStand (text : List ℕ) (at lines n : ℕ) : Type 0 where
  pub plans : at + 12 * n ≤ length text
  pub listed : lines + 2 * planned_lines text at n ≤ length text
