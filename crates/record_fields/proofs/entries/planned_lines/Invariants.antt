use Rattle.std.proofs.Common.{◌≡◌, ◌+◌, ◌*◌, ◌≤◌, ℕ, List}
use Rattle.record_fields.specs.Fields.{planned_lines}
use Rattle.record_fields.proofs.entries.planned_lines.Given as goal

pub record Counts (text : List ℕ) (at lines left count : ℕ) : Type 0 where
  pub place : at + 12 * left ≡ 12 * count
  pub so_far : lines + planned_lines text at left ≡ planned_lines text 0 count
  pub few : lines + 65536 * left ≤ 65536 * count

abbrev pub invariant-loop-left : goal.invariant-loop-left
invariant-loop-left l = Counts l.text l.at l.lines l.left l.count

abbrev pub decreases-loop-left : goal.decreases-loop-left
decreases-loop-left l = l.left
