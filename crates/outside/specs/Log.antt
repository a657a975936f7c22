-- The told bytes of a log: the byte at each position, where it is told.
use Rattle.std.specs.Prelude.{ℕ, ◌≡◌, ◌+◌, ◌-◌, ◌^◌, ◌<◌, ◌≤◌, ◌||◌, nat_lt, nat_le, min, if◌then◌else◌, List, length, slice_get, slice_index, Option, None, Some, Result, IfOk, IfSome}
use Rattle.pg_types.specs.declared.fail.Fail.{Fail}

-- positions end here: no byte at or past it is told
abbrev pub log_limit : ℕ
log_limit = 2 ^ 63

-- the bytes at the buffer's front are those that are told from a position on; there are none only where that position's
-- byte is not told or the buffer is empty
pub record GivesRun (told : ℕ → Option ℕ) (at : ℕ) (buffer : List ℕ) (count : ℕ) : Type 0 where
  pub bytes : (index : ℕ) → index < count → told (at + index) ≡ Some (slice_index buffer index)
  pub none : 0 < length buffer → count ≡ 0 → told at ≡ None

-- where the bytes are told, a call that succeeds gives a run of them; else nothing is claimed
abbrev pub GivesBytes : Option (ℕ → Option ℕ) → ℕ → List ℕ → Result ℕ Fail → Type 0
GivesBytes None at buffer answer = Unit {0}
GivesBytes (Some told) at buffer answer = IfOk answer (GivesRun told at buffer)

-- told or not, no count is above the buffer's length, and no byte at or past the limit is given
abbrev pub FitsLog : ℕ → List ℕ → Result ℕ Fail → Type 0
FitsLog at buffer answer = IfOk answer (λ count. (count ≤ length buffer) × (0 < count → at + count ≤ log_limit))

-- no byte at or past the limit is told
abbrev pub EndsAtLimit : Option (ℕ → Option ℕ) → Type 0
EndsAtLimit told = IfSome told (λ byte_at. (at : ℕ) → log_limit ≤ at → byte_at at ≡ None)

-- the told bytes of a text that stands from a position on
abbrev pub text_from : ℕ → List ℕ → ℕ → Option ℕ
text_from start text at = if nat_lt at start || nat_le log_limit at then None else slice_get text (at - start)

-- how many bytes of that text are told in a row from a position on
abbrev pub run_from : ℕ → List ℕ → ℕ → ℕ
run_from start text at = if nat_lt at start || nat_le log_limit at then 0 else min (length text - (at - start)) (log_limit - at)
