-- Counts of faults. Each object of the outside counts its own faults in a number that never falls. It rises by one
-- for each fault; at its last value it stands still.
use Rattle.std.specs.Prelude.{ℕ, ◌≡◌, ◌<◌, ◌≤◌, ◌^◌, ◌⊎◌, ◌+◌, ◌-◌, nat_lt, if◌then◌else◌, Result, Err}
use Rattle.pg_types.specs.declared.fail.Fail.{Fail}
use Rattle.pg_types.specs.declared.fail.Fail.TheVariants.{Failed, Memory}

-- the last value of a count
abbrev pub last_count : ℕ
last_count = 2 ^ 63

-- a count that has not come to its last value leaves room for the sum of two
abbrev pub IsCount : ℕ → Type 0
IsCount count = (count < 2 ^ 62) ⊎ (count ≡ last_count)

-- in memory and in the real objects a count goes from 2^62 - 1 to its last value
abbrev pub next_count : ℕ → ℕ
next_count count = if nat_lt count (2 ^ 62 - 1) then count + 1 else last_count

-- the count after so many faults
abbrev pub counted : ℕ → ℕ
counted faults = if nat_lt faults (2 ^ 62) then faults else last_count

-- the count rose, or it stands at its last value
abbrev pub Rose : ℕ → ℕ → Type 0
Rose before now = (before < now) ⊎ (now ≡ last_count)

-- over a call the count does not fall, and the call answers Failed only where the count rose
pub record HasCause {T : Type 0} (before now : ℕ) (answer : Result T Fail) : Type 0 where
  pub grows : before ≤ now
  pub cause : answer ≡ Err Failed → Rose before now

-- over a call the count of shortages does not fall, and the call answers Memory only where it rose
pub record HasShortage {T : Type 0} (before now : ℕ) (answer : Result T Fail) : Type 0 where
  pub grows : before ≤ now
  pub cause : answer ≡ Err Memory → Rose before now
