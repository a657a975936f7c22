-- The positions of a log only grow.
use Rattle.std.proofs.Common.{ℕ, ◌≤◌, Result, Ok, Err, IfErr, arith}
use Rattle.wal_reader.specs.declared.types.Trouble.{Trouble}
use Rattle.wal_reader.specs.declared.types.Trouble.TheVariants.{Stops, GivesUp, Log, Memory}
use Rattle.wal_reader.specs.Calls.{GivesUpPast}

pub given_up_before : (at later : ℕ) (trouble : Trouble) → at ≤ later → GivesUpPast later trouble → GivesUpPast at trouble
given_up_before at later (Stops stop) h past = tt
given_up_before at later (GivesUp place) h past = omega arith
given_up_before at later Log h past = tt
given_up_before at later Memory h past = tt

pub errors_before : {A : Type 0} (r : Result A Trouble) (at later : ℕ) → at ≤ later → IfErr r (GivesUpPast later) → IfErr r (GivesUpPast at)
errors_before (Ok x) at later h past = tt
errors_before (Err e) at later h past = given_up_before at later e h past
