-- A record that is lent from the page that is kept, or gathered.
use Rattle.std.proofs.Common.{◌≡◌, ◌≢◌, ◌+◌, ◌-◌, ◌%◌, ◌^◌, ◌≤◌, ℕ, Option, Some, None, IfSome, Result, Ok, Err, refl, sym, ap, subst, ◌∙◌, arith, drop}
use Rattle.pg_types.specs.Numbers.{number_at}
use Rattle.pg_types.specs.declared.fail.Fail.{Fail}
use Rattle.pg_types.specs.declared.fail.Fail.TheVariants as fail
use Rattle.wal_record.specs.declared.types.PrevRule.{PrevRule}
use Rattle.wal_record.specs.declared.types.RecordFault.{RecordFault}
use Rattle.wal_record.specs.Record.{Record}
use Rattle.wal_record.specs.Decoded.{decoded}
use Rattle.wal_reader.specs.Halt.{Halt, Stops}
use Rattle.wal_reader.specs.declared.types.Taken.{Taken}
use Rattle.wal_reader.specs.declared.types.Trouble.{Trouble}
use Rattle.wal_reader.specs.Told.{Told, told_bytes}
use Rattle.wal_reader.specs.Kept.{AreTold, Covers, IsInPage, Kept, piece_of}
use Rattle.wal_reader.specs.Step.{Entry, attempt, end_after, unless_faulty, stop_of}
use Rattle.wal_reader.specs.Calls.{Gathering, text_at, trouble_of}
use Rattle.wal_reader.specs.Records.{IsEntry, SaysAttempt, SaysEnd}
use Rattle.std.proofs.lemmas.Option.{same_Some}
use Rattle.std.specs.Option.{ForSome}
use Rattle.wal_reader.proofs.Halted.{halts-map}
use Rattle.wal_reader.proofs.WindowSteps.{covered_told}
use Rattle.wal_reader.proofs.InPage.{attempt_in_page, entry_of, number_front}

pub fault_says : (failed : Fail) (source : Gathering) (prev : PrevRule) (expected : Result Entry Halt)
    → SaysAttempt (Err (trouble_of failed)) source prev expected
fault_says fail.Failed source prev expected = tt
fault_says fail.Memory source prev expected = tt

faulty_entry : (segsize start behind : ℕ) (r : Result Record RecordFault) (halt : Halt) → unless_faulty r ≡ Err halt → entry_of segsize start behind r ≡ Err halt
faulty_entry segsize start behind (Ok record_) halt e = cc
faulty_entry segsize start behind (Err fault) halt e = let same : Stops (stop_of fault) ≡ halt = cc in ap Err same

pub lent_says : (told : Told) (source : Gathering) (start len : ℕ) (prev : PrevRule) (r : Result Taken Trouble) → IsInPage source.kept start len
    → told.segsize ≡ source.segsize → told_bytes told.byte len start ≡ Some (piece_of source.kept start len)
    → SaysEnd r source start (Some len) prev (start + len) → SaysAttempt r source prev (attempt told start prev)
lent_says told source start len prev (Ok taken) page size all (record_, whole, same) =
    let a = attempt_in_page told start len (piece_of source.kept start len) page.inside page.within page.header_fits all page.says prev in
    let there : decoded (piece_of source.kept start len) start prev ≡ Ok record_ = whole in
    let b : entry_of told.segsize start (start + len) (decoded (piece_of source.kept start len) start prev)
    ≡ Ok (record { start = start; end = end_after source.segsize record_.head (start + len); record_ = record_ }) = rw (there, size) refl in
    let P : Taken → Type 0 = λ t. IsEntry (text_at source t.start t.lent) t.start t.end prev (attempt told start prev) in
    subst P (sym same) (record_, there, a ∙ b)
lent_says told source start len prev (Err e) page size all says =
    halts-map e says (λ halt s.
    attempt_in_page told start len (piece_of source.kept start len) page.inside page.within page.header_fits all page.says prev
    ∙ faulty_entry told.segsize start (start + len) (decoded (piece_of source.kept start len) start prev) halt s)

-- a record of a length that stands in the room that is kept up to its page's end
pub in_page : (kept : Kept) (start room len : ℕ) → Covers kept start room → start % 8192 ≢ 0 → start % 8192 + room ≤ 8192 → start + room ≤ 2 ^ 63
    → 24 ≤ len → len ≤ room → len ≡ number_at 4 (piece_of kept start room) 0 → IsInPage kept start len
in_page kept start room len covers inside within below header_fits fits says =
    let from = covers.0 in
    let end = covers.1 in
    let whole = drop (start - kept.from) kept.bytes in
    record {
      covered = (from, omega arith);
      inside = inside;
      within = omega arith;
      header_fits = header_fits;
      below = omega arith;
      says = number_front 4 0 len whole (omega arith) ∙ sym (number_front 4 0 room whole (omega arith)) ∙ sym says;
    }

-- its bytes are told, where those that are kept are
pub told_in_page : (told : Option (ℕ → Option ℕ)) (window old kept : Kept) (start room len : ℕ) → window ≡ old → Covers kept start room → len ≤ room
    → IfSome told (λ byte. AreTold byte window → AreTold byte kept)
    → IfSome told (λ byte. AreTold byte old → ForSome (Some len) (λ n. told_bytes byte n start ≡ Some (piece_of kept start n)))
told_in_page None window old kept start room len same covers fits told = tt
told_in_page (Some byte) window old kept start room len same covers fits told = λ before x e.
    let end = covers.1 in
    let covered : Covers kept start len = (covers.0, omega arith) in
    let before' : AreTold byte window = subst (λ (k : Kept). AreTold byte k) (sym same) before in
    subst (λ n. told_bytes byte n start ≡ Some (piece_of kept start n)) (same_Some len x e) (covered_told (Some byte) window kept start len covered told before')
