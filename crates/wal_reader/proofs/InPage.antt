-- A record that stands whole in one page.
use Rattle.std.proofs.Common.{◌≡◌, ◌≢◌, ◌==◌, ℕ, zero, suc, ◌+◌, ◌-◌, ◌%◌, ◌<◌, ◌≤◌, false, Option, Some, None, Result, Ok, Err, List, [], ◌++◌, length, take, drop, slice_index, refl, sym, ◌∙◌, inl, inr, arith, add-zero, length-drop, lit≤, lit<}
use Rattle.std.proofs.Math.Dec.{ltb}
use Rattle.std.proofs.Math.Seq.{take-add}
use Rattle.std.proofs.lemmas.Bool.{ne_eqb, le-ltb, cases_eq}
use Rattle.std.proofs.lemmas.List.{length-take, get_or-take, get_or-drop, take-append-drop, drop_all, take_all}
use Rattle.byteorder.specs.Endian.{little_from}
use Rattle.pg_types.specs.Numbers.{number_at}
use Rattle.wal_record.specs.declared.types.PrevRule.{PrevRule}
use Rattle.wal_record.specs.declared.types.RecordFault.{RecordFault}
use Rattle.wal_record.specs.Record.{Record}
use Rattle.wal_record.specs.Decoded.{head_of, total_at, fields_of, decoded}
use Rattle.wal_reader.specs.Halt.{Halt, Stops}
use Rattle.wal_reader.specs.Told.{Told, told_bytes}
use Rattle.wal_reader.specs.Gathered.{◌>>=◌, gathered}
use Rattle.wal_reader.specs.Step.{Entry, unless_faulty, stop_of, begun, headed, attempt, end_after}
use Rattle.wal_reader.proofs.ToldBytes.{told_part, run_from_told}
use Rattle.wal_reader.proofs.GatheredSteps.{cases_Result, inside_page, gathered_in_page}

-- a number by its bytes
little_same : (i n : ℕ) (xs ys : List ℕ) → ((j : ℕ) → j < i + n → slice_index xs j ≡ slice_index ys j) → little_from i n xs ≡ little_from i n ys
little_same i zero xs ys same = refl
little_same i (suc n) xs ys same =
    let first = same i (omega arith) in
    let later = little_same (suc i) n xs ys (λ j h. same j (omega arith)) in
    rw (first, later) refl

pub number_front : (n k m : ℕ) (text : List ℕ) → k + n ≤ m → number_at n (take m text) k ≡ number_at n text k
unfolding number_at
number_front n k m text h =
    little_same 0 n (drop k (take m text)) (drop k text)
    (λ j small. get_or-drop k (take m text) j 0 ∙ get_or-take m text (k + j) 0 (omega arith) ∙ sym (get_or-drop k text j 0))

-- the tests of a header read no more than its 24 bytes
head_front : (text : List ℕ) (at : ℕ) (prev : PrevRule) → 24 ≤ length text → head_of (take 24 text) at prev ≡ head_of text at prev
unfolding head_of total_at fields_of
head_front text at prev header_fits =
    let l : length (take 24 text) ≡ 24 = simp length-take (omega arith) in
    let a : ltb (length text) 4 ≡ false = le-ltb (length text) 4 (omega arith) in
    let b : ltb (length text) 18 ≡ false = le-ltb (length text) 18 (omega arith) in
    let total = number_front 4 0 24 text (lit≤ tt) in
    let xid = number_front 4 4 24 text (lit≤ tt) in
    let link = number_front 8 8 24 text (lit≤ tt) in
    let info = get_or-take 24 text 16 0 (lit< tt) in
    let manager = get_or-take 24 text 17 0 (lit< tt) in
    rw (l, a, b, total, xid, link, info, manager) refl

-- a record without a header is none
headless : (text : List ℕ) (start : ℕ) (prev : PrevRule) (fault : RecordFault) → head_of text start prev ≡ Err fault → decoded text start prev ≡ Err fault
unfolding decoded
headless text start prev fault e = rw e refl

no_more : (told : Told) (missing : Option ℕ) (at : ℕ) → gathered told missing 0 at ≡ Ok ([], at)
unfolding gathered
no_more told missing at = refl

-- a record as an entry of the log, by what its bytes are
abbrev pub entry_of : ℕ → ℕ → ℕ → Result Record RecordFault → Result Entry Halt
entry_of segsize start behind (Ok record_) = Ok (record { start = start; end = end_after segsize record_.head behind; record_ = record_ })
entry_of segsize start behind (Err fault) = Err (Stops (stop_of fault))

module _ (told : Told) (start len : ℕ) (text : List ℕ) (inside : start % 8192 ≢ 0) (within : start % 8192 + len ≤ 8192) (header_fits : 24 ≤ len)
    (all : told_bytes told.byte len start ≡ Some text) (says : number_at 4 text 0 ≡ len) where
  text_length : length text ≡ len
  text_length = (run_from_told told.byte len start text all).len

  begun_in_page : begun told start ≡ Ok (len, (take 4 text, start + 4))
  unfolding begun
  begun_in_page =
      let part = told_part told.byte len start text 0 4 all (omega arith) in
      let z : start + 0 ≡ start = add-zero start in
      let part' = rw z at part in
      let four = gathered_in_page told 4 start start None (take 4 text) (inside_page told None start inside) (lit< tt) (omega arith) part' in
      let n : number_at 4 (take 4 text) 0 ≡ len = number_front 4 0 4 text (lit≤ tt) ∙ says in
      let a : (len == 0) ≡ false = ne_eqb len 0 (omega arith) in
      let b : ltb len 24 ≡ false = le-ltb len 24 header_fits in
      rw (four, n, a, b) refl

  headed_in_page : (prev : PrevRule) → headed told start prev ≡ (unless_faulty (head_of text start prev) >>= λ head. Ok (len, (take 24 text, start + 24)))
  unfolding headed
  headed_in_page prev =
      let part = told_part told.byte len start text 4 20 all (omega arith) in
      let twenty = gathered_in_page told 20 (start + 4) (start + 4) (Some (len - 4)) (take 20 (drop 4 text)) (inside_page told (Some (len - 4)) (start + 4) (omega arith)) (lit< tt) (omega arith) part in
      let joined : take 4 text ++ take 20 (drop 4 text) ≡ take 24 text = sym (take-add 4 20 text) in
      let l = text_length in
      let front = head_front text start prev (omega arith) in
      let s : start + 4 + 20 ≡ start + 24 = omega arith in
      rw (begun_in_page, twenty, joined, front, s) refl

  rest_in_page : gathered told (Some (len - 24)) (len - 24) (start + 24) ≡ Ok (drop 24 text, start + len)
  rest_in_page = elim (cases_eq len 24) [
    | inl e ↦
        let z : len - 24 ≡ 0 = omega arith in
        let l = text_length in
        let none : drop 24 text ≡ [] = drop_all 24 text (omega arith) in
        let s : start + len ≡ start + 24 = omega arith in
        rw (z, none, s) (no_more told (Some 0) (start + 24))
    | inr more ↦
        let part = told_part told.byte len start text 24 (len - 24) all (omega arith) in
        let l = text_length in
        let whole_rest : take (len - 24) (drop 24 text) ≡ drop 24 text = take_all (len - 24) (drop 24 text) (omega (arith, length-drop 24 text)) in
        let p = rw whole_rest at part in
        let g = gathered_in_page told (len - 24) (start + 24) (start + 24) (Some (len - 24)) (drop 24 text) (inside_page told (Some (len - 24)) (start + 24) (omega arith)) (omega arith) (omega arith) p in
        let s : start + 24 + (len - 24) ≡ start + len = omega arith in
        rw s at g
  ]

  pub attempt_in_page : (prev : PrevRule) → attempt told start prev ≡ entry_of told.segsize start (start + len) (decoded text start prev)
  unfolding attempt
  attempt_in_page prev =
      let joined : take 24 text ++ drop 24 text ≡ text = take-append-drop 24 text in
      elim (cases_Result (head_of text start prev)) [
        | inr (fault, e) ↦
            let h = rw e at (headed_in_page prev) in
            let d = headless text start prev fault e in
            rw (h, d) refl
        | inl (head, e) ↦
            let h = rw e at (headed_in_page prev) in
            elim (cases_Result (decoded text start prev)) [
              | inr (fault, d) ↦ rw (h, rest_in_page, joined, d) refl
              | inl (record_, d) ↦ rw (h, rest_in_page, joined, d) refl
            ]
      ]
