-- The texts that a reader gathers of told bytes are bytes, and the record that it finds is read of such a text.
use Rattle.std.proofs.Common.{◌≡◌, ℕ, zero, suc, ◌+◌, ◌-◌, ◌<◌, List, ◌++◌, Option, Some, None, Result, Ok, Err, IfOk, refl}
use Rattle.std.proofs.lemmas.Bool.{cond_both}
use Rattle.std.proofs.lemmas.List.Elements.{All-append, All-cons, All-nil}
use Rattle.std.proofs.lemmas.Result.{IfOk-at_ok}
use Rattle.wal_record.specs.declared.types.PrevRule.{PrevRule}
use Rattle.wal_record.specs.declared.types.RecordFault.{RecordFault}
use Rattle.wal_record.specs.Decoded.{decoded, head_of}
use Rattle.pg_types.specs.Bytes.{AreBytes}
use Rattle.wal_reader.specs.declared.types.NoRecord.TheVariants.{End, Compressed, TooLong}
use Rattle.wal_reader.specs.declared.types.EndWhy.TheVariants.{Layout}
use Rattle.wal_reader.specs.Halt.{Halt, Stops, GivesUp}
use Rattle.wal_reader.specs.Gathered.{◌>>=◌, gathered, one_less, place_at, told_at}
use Rattle.wal_reader.specs.Step.{Entry, attempt, begun, begun_at, headed, in_place_of, length_in, overwrites, step, unless_faulty, unless_given_up}
use Rattle.wal_reader.specs.Told.{Told}
use Rattle.wal_record.specs.OfBytes.{IsOfBytes, ReadIsOfBytes}
use Rattle.record_numbers.specs.Bytes.{TellsBytes}
use Rattle.record_numbers.specs.Laws.{ToldNumbersFit, TypedFits}
use Rattle.record_numbers.proofs.Numbers.{if_ok-from}

bound : {A B : Type 0} (P : A → Type 0) (Q : B → Type 0) (r : Result A Halt) (f : A → Result B Halt) → IfOk r P → ((x : A) → P x → IfOk (f x) Q) → IfOk (r >>= f) Q
bound P Q (Err halt) f h g = tt
bound P Q (Ok x) f h g = g x h

free : {A B : Type 0} (Q : B → Type 0) (r : Result A Halt) (f : A → Result B Halt) → ((x : A) → IfOk (f x) Q) → IfOk (r >>= f) Q
free Q (Err halt) f g = tt
free Q (Ok x) f g = g x

-- a text and where it ends
abbrev IsText : List ℕ × ℕ → Type 0
IsText x = AreBytes x.0

-- the text so far, behind the record's length
abbrev IsHead : ℕ × (List ℕ × ℕ) → Type 0
IsHead x = AreBytes x.1.0

told-is : (byte : Option ℕ) → ((b : ℕ) → byte ≡ Some b → b < 256) → IfOk (told_at byte) (λ b. b < 256)
told-is None h = tt
told-is (Some b) h = h b refl

gathered-are : (told : Told) (missing : Option ℕ) (n at : ℕ) → TellsBytes told → IfOk (gathered told missing n at) IsText
unfolding gathered
gathered-are told missing zero at tells = All-nil (λ b. b < 256)
gathered-are told missing (suc n) at tells =
    free IsText (place_at told missing at) _ (λ place.
    bound (λ b. b < 256) IsText (told_at (told.byte place)) _ (told-is (told.byte place) (tells place)) (λ byte below.
    bound IsText IsText (gathered told (one_less missing) n (place + 1)) _ (gathered-are told (one_less missing) n (place + 1) tells) (λ rest all.
    All-cons (λ b. b < 256) byte rest.0 below all)))

begun-are : (told : Told) (start : ℕ) → TellsBytes told → IfOk (begun told start) IsHead
unfolding begun
begun-are told start tells =
    bound IsText IsHead (gathered told None 4 start) _ (gathered-are told None 4 start tells) (λ four all.
    free IsHead (length_in four.0) _ (λ total. all))

headed-are : (told : Told) (start : ℕ) (rule : PrevRule) → TellsBytes told → IfOk (headed told start rule) IsHead
unfolding headed
headed-are told start rule tells =
    bound IsHead IsHead (begun told start) _ (begun-are told start tells) (λ four first.
    bound IsText IsHead (gathered told (Some (four.0 - 4)) 20 four.1.1) _ (gathered-are told (Some (four.0 - 4)) 20 four.1.1 tells) (λ twenty second.
    free IsHead (unless_faulty (head_of (four.1.0 ++ twenty.0) start rule)) _ (λ head.
    All-append (λ b. b < 256) four.1.0 twenty.0 first second)))

abbrev IsFound : Entry → Type 0
IsFound entry = IsOfBytes entry.record_

unless-faulty-is : {A : Type 0} (P : A → Type 0) (r : Result A RecordFault) → IfOk r P → IfOk (unless_faulty r) P
unless-faulty-is P (Ok x) h = h
unless-faulty-is P (Err fault) h = tt

module _ (law : ReadIsOfBytes) (told : Told) (tells : TellsBytes told) where
  decoded-is : (text : List ℕ) (start : ℕ) (rule : PrevRule) → AreBytes text → IfOk (unless_faulty (decoded text start rule)) IsOfBytes
  decoded-is text start rule all =
      unless-faulty-is IsOfBytes (decoded text start rule) (if_ok-from (decoded text start rule) IsOfBytes (λ source e. law text start rule source all e))

  attempt-is : (start : ℕ) (rule : PrevRule) → IfOk (attempt told start rule) IsFound
  unfolding attempt
  attempt-is start rule =
      bound IsHead IsFound (headed told start rule) _ (headed-are told start rule tells) (λ head first.
      bound IsText IsFound (gathered told (Some (head.0 - 24)) (head.0 - 24) head.1.1) _ (gathered-are told (Some (head.0 - 24)) (head.0 - 24) head.1.1 tells) (λ rest second.
      bound IsOfBytes IsFound (unless_faulty (decoded (head.1.0 ++ rest.0) start rule)) _ (decoded-is (head.1.0 ++ rest.0) start rule (All-append (λ b. b < 256) head.1.0 rest.0 first second)) (λ source is. is)))

  in_place-is : (given_up : ℕ) (r : Result Entry Halt) → IfOk r IsFound → IfOk (in_place_of given_up r) IsFound
  in_place-is given_up (Ok entry) h = cond_both (overwrites given_up entry.record_) (Ok entry) (Err (End Layout)) (λ r. IfOk r IsFound) (λ _. h) (λ _. tt)
  in_place-is given_up (Err (Stops (End rule))) h = tt
  in_place-is given_up (Err (Stops Compressed)) h = tt
  in_place-is given_up (Err (Stops TooLong)) h = tt
  in_place-is given_up (Err (GivesUp place)) h = tt

  unless-given_up-is : (start : ℕ) (rule : PrevRule) (r : Result Entry Halt) → IfOk r IsFound → IfOk (unless_given_up told start rule r) IsFound
  unless-given_up-is start rule (Ok entry) h = h
  unless-given_up-is start rule (Err (Stops stop)) h = tt
  unless-given_up-is start rule (Err (GivesUp place)) h = in_place-is start (attempt told place rule) (attempt-is place rule)

  begun_at-is : (rule : PrevRule) (r : Result ℕ Halt) → IfOk (begun_at told rule r) IsFound
  begun_at-is rule (Ok start) = unless-given_up-is start rule (attempt told start rule) (attempt-is start rule)
  begun_at-is rule (Err (Stops stop)) = tt
  begun_at-is rule (Err (GivesUp place)) = tt

  step-is : (at : ℕ) (rule : PrevRule) → IfOk (step told at rule) IsFound
  unfolding step
  step-is at rule = begun_at-is rule (place_at told None at)

pub told-fit : ReadIsOfBytes → TypedFits → ToldNumbersFit
told-fit law typed-fits told at rule entry start end database known rec tells found is =
    typed-fits entry.record_ start end database known rec (IfOk-at_ok IsFound found (step-is law told tells at rule)) is
