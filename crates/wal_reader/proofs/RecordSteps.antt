-- A record read in steps.
use Rattle.std.proofs.Common.{◌≡◌, ℕ, ◌-◌, Option, Some, None, Result, Ok, Err, List, [], ◌++◌, refl, sym, subst, ◌∙◌}
use Rattle.wal_record.specs.declared.types.PrevRule.{PrevRule}
use Rattle.wal_record.specs.Decoded.{head_of, decoded}
use Rattle.wal_reader.specs.Halt.{Halt}
use Rattle.wal_reader.specs.declared.types.Taken.{Taken}
use Rattle.wal_reader.specs.declared.types.Trouble.{Trouble}
use Rattle.wal_reader.specs.Told.{Told}
use Rattle.wal_reader.specs.Gathered.{◌>>=◌, gathered}
use Rattle.wal_reader.specs.Step.{Entry, length_in, unless_faulty, begun, headed, attempt, end_after}
use Rattle.wal_reader.specs.Calls.{Gathering, WhereTold, Says, SaysText, SaysHead, SaysSome, text_at}
use Rattle.wal_reader.specs.Records.{IsEntry, SaysAttempt, SaysEnd}
use Rattle.wal_reader.proofs.Halted.{halts-map}

-- the text so far does not matter to what is told
pub where_from : (told : Option (ℕ → Option ℕ)) (owner : ℕ → ℕ) (old other new : Gathering) (P : Told → Type 0)
    → other ≡ record old { text = [] } → WhereTold told owner other new P → WhereTold told owner old new P
where_from told owner old other new P same w = subst (λ (s : Gathering). WhereTold told owner s new P) same w

-- a text that was empty
pub text_whole : (expected : Result (List ℕ × ℕ) Halt) (old new : List ℕ) (at : ℕ) → old ≡ [] → SaysText (Ok at) old new expected → expected ≡ Ok (new, at)
text_whole expected old new at empty (bytes, e, t) =
    let t' = rw empty at t in
    let same : new ≡ bytes = t' in
    rw same e

module _ (told : Told) (start : ℕ) where
  pub begin_unread : (e : Trouble) (old new text : List ℕ) → SaysText (Err e) old new (gathered told None 4 start) → SaysHead (Err e) text (begun told start)
  unfolding begun
  begin_unread e old new text says = halts-map e says (λ halt s. rw s refl)

  pub begin_refused : (e : Trouble) (old new text : List ℕ) (at : ℕ) → old ≡ [] → SaysText (Ok at) old new (gathered told None 4 start)
      → Says {A = ℕ} (Err e) (length_in new) → SaysHead (Err e) text (begun told start)
  unfolding begun
  begin_refused e old new text at empty read says =
      let first = text_whole (gathered told None 4 start) old new at empty read in
      let f : (gathered told None 4 start >>= λ four. length_in four.0 >>= λ total. Ok (total, four)) ≡ (length_in new >>= λ total. Ok (total, (new, at))) = rw first refl in
      halts-map e says (λ halt s. f ∙ rw s refl)

  pub begin_there : (old new : List ℕ) (at total : ℕ) → old ≡ [] → SaysText (Ok at) old new (gathered told None 4 start)
      → length_in new ≡ Ok total → SaysHead (Ok (total, at)) new (begun told start)
  unfolding begun
  begin_there old new at total empty read says =
      let first = text_whole (gathered told None 4 start) old new at empty read in
      let f : (gathered told None 4 start >>= λ four. length_in four.0 >>= λ total. Ok (total, four)) ≡ (length_in new >>= λ total. Ok (total, (new, at))) = rw first refl in
      f ∙ rw says refl

  module _ (prev : PrevRule) where
    pub head_unbegun : (e : Trouble) (old new : List ℕ) → SaysHead (Err e) old (begun told start) → SaysHead (Err e) new (headed told start prev)
    unfolding headed
    head_unbegun e old new says = halts-map e says (λ halt s. rw s refl)

    -- what is left of a header's reading, once its length is known
    rest_of_head : ℕ → List ℕ → ℕ → Result (ℕ × (List ℕ × ℕ)) Halt
    rest_of_head total text at =
        gathered told (Some (total - 4)) 20 at
        >>= λ twenty. unless_faulty (head_of (text ++ twenty.0) start prev)
        >>= λ head. Ok (total, (text ++ twenty.0, twenty.1))

    begun_head : (total at : ℕ) (text : List ℕ) → begun told start ≡ Ok (total, (text, at)) → headed told start prev ≡ rest_of_head total text at
    unfolding headed rest_of_head
    begun_head total at text first = rw first refl

    pub head_unread : (e : Trouble) (total at : ℕ) (text new text' : List ℕ) → begun told start ≡ Ok (total, (text, at))
        → SaysText (Err e) text new (gathered told (Some (total - 4)) 20 at) → SaysHead (Err e) text' (headed told start prev)
    unfolding rest_of_head
    head_unread e total at text new text' first says = halts-map e says (λ halt s. begun_head total at text first ∙ rw s refl)

    pub head_refused : (e : Trouble) (total at end : ℕ) (text new text' : List ℕ) → begun told start ≡ Ok (total, (text, at))
        → SaysText (Ok end) text new (gathered told (Some (total - 4)) 20 at)
        → SaysSome {A = Unit {0}} (Err e) (unless_faulty (head_of new start prev)) → SaysHead (Err e) text' (headed told start prev)
    unfolding rest_of_head
    head_refused e total at end text new text' first (bytes, read, t) says =
        halts-map e says (λ halt s. let s' = rw t at s in begun_head total at text first ∙ rw read (rw s' refl))

    pub head_there : (total at end : ℕ) (text new : List ℕ) → begun told start ≡ Ok (total, (text, at))
        → SaysText (Ok end) text new (gathered told (Some (total - 4)) 20 at)
        → SaysSome {A = Unit {0}} (Ok tt) (unless_faulty (head_of new start prev)) → SaysHead (Ok (total, end)) new (headed told start prev)
    unfolding rest_of_head
    head_there total at end text new first (bytes, read, t) (head, says) =
        let s = rw t at says in
        rw t (begun_head total at text first ∙ rw read (rw s refl))

    pub record_headless : (e : Trouble) (old : List ℕ) (source : Gathering) → SaysHead (Err e) old (headed told start prev)
        → SaysAttempt (Err e) source prev (attempt told start prev)
    unfolding attempt
    record_headless e old source says = halts-map e says (λ halt s. rw s refl)

    -- what is left of a record's reading, once its header is read
    rest_of_record : ℕ → List ℕ → ℕ → Result Entry Halt
    rest_of_record total text at =
        gathered told (Some (total - 24)) (total - 24) at
        >>= λ rest. unless_faulty (decoded (text ++ rest.0) start prev)
        >>= λ record_. Ok (record { start = start; end = end_after told.segsize record_.head rest.1; record_ = record_ })

    headed_record : (total at : ℕ) (text : List ℕ) → headed told start prev ≡ Ok (total, (text, at)) → attempt told start prev ≡ rest_of_record total text at
    unfolding attempt rest_of_record
    headed_record total at text first = rw first refl

    pub record_unread : (e : Trouble) (total at : ℕ) (text new : List ℕ) (source : Gathering) → headed told start prev ≡ Ok (total, (text, at))
        → SaysText (Err e) text new (gathered told (Some (total - 24)) (total - 24) at) → SaysAttempt (Err e) source prev (attempt told start prev)
    unfolding rest_of_record
    record_unread e total at text new source first says = halts-map e says (λ halt s. headed_record total at text first ∙ rw s refl)

    pub record_read : (result : Result Taken Trouble) (total at behind : ℕ) (text : List ℕ) (source : Gathering) → headed told start prev ≡ Ok (total, (text, at))
        → SaysText (Ok behind) text source.text (gathered told (Some (total - 24)) (total - 24) at)
        → source.segsize ≡ told.segsize → SaysEnd result source start None prev behind → SaysAttempt result source prev (attempt told start prev)
    unfolding rest_of_record
    record_read (Ok taken) total at behind text source first (bytes, read, t) size (record_, whole, same) =
        let there : decoded source.text start prev ≡ Ok record_ = whole in
        let w = rw t at there in
        let made : attempt told start prev ≡ Ok (record { start = start; end = end_after source.segsize record_.head behind; record_ = record_ }) =
        headed_record total at text first ∙ rw read (rw (w, size) refl) in
        let P : Taken → Type 0 = λ x. IsEntry (text_at source x.start x.lent) x.start x.end prev (attempt told start prev) in
        subst P (sym same) (record_, there, made)
    record_read (Err e) total at behind text source first (bytes, read, t) size says =
        halts-map e says (λ halt there. let s = rw t at there in headed_record total at text first ∙ rw read (rw s refl))
