-- A record and what may stand in its place.
use Rattle.std.proofs.Common.{◌≡◌, ℕ, List, Option, Some, None, Result, Ok, Err, refl, ◌∙◌}
use Rattle.wal_record.specs.declared.types.PrevRule.{PrevRule}
use Rattle.std.specs.Prelude.{IsSome}
use Rattle.pg_types.specs.declared.names.Lsn.{Lsn}
use Rattle.wal_record.specs.declared.types.RecordFault.{RecordFault}
use Rattle.wal_record.specs.declared.view.RecordShape.{RecordShape}
use Rattle.wal_record.specs.Shapes.{HasShape}
use Rattle.wal_reader.specs.Standing.{HasGiven}
use Rattle.wal_record.specs.Record.{Record}
use Rattle.wal_reader.specs.Halt.{Halt, Stops, GivesUp}
use Rattle.wal_reader.specs.declared.types.Taken.{Taken}
use Rattle.wal_reader.specs.declared.types.Trouble.{Trouble}
use Rattle.wal_reader.specs.declared.types.Trouble.TheVariants as trouble
use Rattle.wal_reader.specs.Told.{Told}
use Rattle.wal_reader.specs.Gathered.{place_at}
use Rattle.wal_reader.specs.Step.{Entry, attempt, in_place_of, unless_given_up, step}
use Rattle.wal_reader.specs.Calls.{Gathering, Says}
use Rattle.wal_reader.specs.Records.{SaysAttempt, SaysStep, given_up_at}
use Rattle.wal_reader.proofs.Halted.{halts-map}

-- bytes are one record
pub one_record : (r : Result Record RecordFault) (x y : Record) → r ≡ Ok x → r ≡ Ok y → x ≡ y
one_record r x y p q = cc

-- the record that is given has its shape
pub given_has : (given : Option (Lsn × Lsn)) (text : List ℕ) (prev : PrevRule) (shape : RecordShape) → IsSome given → HasGiven given text prev shape → HasShape text shape
given_has None text prev shape some has = absurd (cc)
given_has (Some given) text prev shape some has = let whole = has given refl in whole.has

module _ (told : Told) (at : ℕ) (prev : PrevRule) where
  pub step_nowhere : (trouble : Trouble) (source : Gathering) → Says {A = ℕ} (Err trouble) (place_at told None at)
      → SaysStep (Err trouble) source prev (step told at prev)
  unfolding step
  step_nowhere (trouble.Stops why) source says = rw says refl
  step_nowhere (trouble.GivesUp place) source says = rw says refl
  step_nowhere trouble.Log source says = tt
  step_nowhere trouble.Memory source says = tt

  started : (start : ℕ) (x : Result Entry Halt) → place_at told None at ≡ Ok start → attempt told start prev ≡ x
      → step told at prev ≡ unless_given_up told start prev x
  unfolding step
  started start x here e = rw (here, e) refl

  -- where no other record begins, the attempt's answer is the step's
  pub step_attempted : (start : ℕ) (r : Result Taken Trouble) (source : Gathering) → place_at told None at ≡ Ok start → given_up_at r ≡ None
      → SaysAttempt r source prev (attempt told start prev) → SaysStep r source prev (step told at prev)
  step_attempted start (Ok taken) source here none (record_, whole, says) =
      (record_, whole, started start (Ok (record { start = taken.start; end = taken.end; record_ = record_ })) here says)
  step_attempted start (Err (trouble.Stops why)) source here none says = started start (Err (Stops why)) here says
  step_attempted start (Err (trouble.GivesUp place)) source here none says = cc
  step_attempted start (Err trouble.Log) source here none says = tt
  step_attempted start (Err trouble.Memory) source here none says = tt

  -- the attempt was given up, and another record begins there
  pub gives_up : (start place : ℕ) (r : Result Taken Trouble) (source : Gathering) → given_up_at r ≡ Some place
      → SaysAttempt r source prev (attempt told start prev) → attempt told start prev ≡ Err (GivesUp place)
  gives_up start place (Ok taken) source is says = cc
  gives_up start place (Err (trouble.Stops why)) source is says = cc
  gives_up start place (Err (trouble.GivesUp p)) source is says = let same : p ≡ place = cc in rw same at says
  gives_up start place (Err trouble.Log) source is says = cc
  gives_up start place (Err trouble.Memory) source is says = cc

  pub step_replaced : (start place : ℕ) (r : Result Taken Trouble) (source : Gathering) → place_at told None at ≡ Ok start
      → attempt told start prev ≡ Err (GivesUp place) → SaysStep r source prev (in_place_of start (attempt told place prev)) → SaysStep r source prev (step told at prev)
  step_replaced start place (Ok taken) source here up (record_, whole, says) = (record_, whole, started start (Err (GivesUp place)) here up ∙ says)
  step_replaced start place (Err e) source here up says = halts-map e says (λ halt s. started start (Err (GivesUp place)) here up ∙ s)
