-- What the calls of a reader say, of a log whose bytes are told.
use Rattle.std.specs.Prelude.{ℕ, ◌≡◌, ◌<◌, ◌≤◌, ◌-◌, ◌++◌, Option, Some, None, option_map, Result, Ok, Err, List, IfSome}
use Rattle.pg_types.specs.declared.fail.Fail.{Fail}
use Rattle.pg_types.specs.declared.fail.Fail.TheVariants as fail
use Rattle.wal_reader.specs.Halt.{Halt, Stops, GivesUp}
use Rattle.wal_reader.specs.declared.types.NoRecord.TheVariants.{End}
use Rattle.wal_reader.specs.declared.types.EndWhy.TheVariants.{Missing}
use Rattle.wal_reader.specs.declared.types.Trouble.{Trouble}
use Rattle.wal_reader.specs.declared.types.Trouble.TheVariants as trouble
use Rattle.wal_reader.specs.Told.{Told}
use Rattle.std.specs.Option.{ForSome}
use Rattle.wal_reader.specs.Kept.{Kept, AreTold, Covers, piece_of}

-- a call leaves of a log its told bytes and their owners, and no fewer faults
pub record LogStays (told told' : Option (ℕ → Option ℕ)) (owner owner' : ℕ → ℕ) (faults faults' : ℕ) : Type 0 where
  pub told_stays : told' ≡ told
  pub owner_stays : owner' ≡ owner
  pub grows : faults ≤ faults'

-- what texts are gathered from: what pages have to name, what is kept, and the text so far
pub record Gathering : Type 0 where
  pub system : ℕ
  pub segsize : ℕ
  pub kept : Kept
  pub text : List ℕ

-- what is told to it
abbrev pub told_to : Gathering → (ℕ → Option ℕ) → (ℕ → ℕ) → Told
told_to source byte owner = record { byte = byte; owner = owner; system = source.system; segsize = source.segsize }

-- where the bytes are told and those that are kept are among them, this holds, and what is kept is so afterwards
abbrev pub WhereTold : Option (ℕ → Option ℕ) → (ℕ → ℕ) → Gathering → Gathering → (Told → Type 0) → Type 0
WhereTold told owner old new P = IfSome told (λ byte. AreTold byte old.kept → AreTold byte new.kept × P (told_to old byte owner))

-- where a trouble is the halt of a text, this holds of it; not where the log failed or memory ran out
abbrev pub IfHalts : Trouble → (Halt → Type 0) → Type 0
IfHalts (trouble.Stops why) P = P (Stops why)
IfHalts (trouble.GivesUp place) P = P (GivesUp place)
IfHalts trouble.Log P = Unit {0}
IfHalts trouble.Memory P = Unit {0}

-- the answer is the expected one, unless the log failed or memory ran out
abbrev pub Says : {A : Type 0} → Result A Trouble → Result A Halt → Type 0
Says (Ok x) expected = expected ≡ Ok x
Says (Err fault) expected = IfHalts fault (λ halt. expected ≡ Err halt)

-- the bytes are told, or else their want is the answer
abbrev pub SaysBytes : {A : Type 0} → Result A Trouble → List ℕ → Option (List ℕ) → Type 0
SaysBytes (Ok x) bytes told = told ≡ Some bytes
SaysBytes (Err fault) bytes told = IfHalts fault (λ halt. (told ≡ None) × (halt ≡ Stops (End Missing)))

-- the expected bytes are added to the text
abbrev pub SaysText : Result ℕ Trouble → List ℕ → List ℕ → Result (List ℕ × ℕ) Halt → Type 0
SaysText (Ok end) old new expected = (bytes : List ℕ) × (expected ≡ Ok (bytes, end)) × (new ≡ old ++ bytes)
SaysText (Err fault) old new expected = IfHalts fault (λ halt. expected ≡ Err halt)

-- the error of a call of the log
abbrev pub trouble_of : Fail → Trouble
trouble_of fail.Failed = trouble.Log
trouble_of fail.Memory = trouble.Memory

-- so many less
abbrev pub less : Option ℕ → ℕ → Option ℕ
less missing n = option_map (λ m. m - n) missing

-- some of the expected bytes are added to the text: so many that at least one is and no more than were asked for
abbrev pub SaysPart : Result (ℕ × ℕ) Trouble → ℕ → List ℕ → List ℕ → (ℕ → Result (List ℕ × ℕ) Halt) → Type 0
SaysPart (Ok part) left old new expected =
    (bytes : List ℕ) × (0 < part.1) × (part.1 ≤ left) × (expected part.1 ≡ Ok (bytes, part.0)) × (new ≡ old ++ bytes)
SaysPart (Err fault) left old new expected = IfHalts fault (λ halt. expected left ≡ Err halt)

-- the length of a record and the position behind its text so far, which is this
abbrev pub SaysHead : Result (ℕ × ℕ) Trouble → List ℕ → Result (ℕ × (List ℕ × ℕ)) Halt → Type 0
SaysHead (Ok part) text expected = expected ≡ Ok (part.0, (text, part.1))
SaysHead (Err fault) text expected = IfHalts fault (λ halt. expected ≡ Err halt)

-- there is a value
abbrev pub SaysSome : {A B : Type 0} → Result A Trouble → Result B Halt → Type 0
SaysSome {B = B} (Ok x) expected = (y : B) × (expected ≡ Ok y)
SaysSome (Err fault) expected = IfHalts fault (λ halt. expected ≡ Err halt)

-- a record's text: that which was gathered, or that of so many bytes in the page that is kept
abbrev pub text_at : Gathering → ℕ → Option ℕ → List ℕ
text_at source start None = source.text
text_at source start (Some len) = piece_of source.kept start len

-- a text of the page that is kept is there
abbrev pub IsThere : Gathering → ℕ → Option ℕ → Type 0
IsThere source start lent = ForSome lent (λ len. Covers source.kept start len)

-- where a record is given up that was read from a position on, the one in its place begins no earlier
abbrev pub GivesUpPast : ℕ → Trouble → Type 0
GivesUpPast at (trouble.Stops stop) = Unit {0}
GivesUpPast at (trouble.GivesUp place) = at ≤ place
GivesUpPast at trouble.Log = Unit {0}
GivesUpPast at trouble.Memory = Unit {0}
