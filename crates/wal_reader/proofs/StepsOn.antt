-- A record ends behind the position where it is read: each byte of its text stands behind the one before, and where a
-- record is given up, the one in its place begins no earlier.
use Rattle.std.proofs.Common.{◌≡◌, ℕ, zero, suc, ◌+◌, ◌-◌, ◌*◌, ◌/◌, ◌%◌, ◌<◌, ◌≤◌, ◌==◌, Bool, true, false, Option, Some, None, Result, Ok, Err, List, ◌∷◌, ◌++◌, nat_lt, not, ◌&&◌, sym, subst, arith}
use Rattle.std.proofs.Math.Nat.{div-add-mod, mod-lt}
use Rattle.std.specs.Prelude.{if◌then◌else◌}
use Rattle.pg_types.specs.Numbers.{number_at, has_bits}
use Rattle.wal_page.specs.declared.PageHead.{PageHead}
use Rattle.wal_page.specs.declared.PageFault.{PageFault}
use Rattle.wal_page.specs.Page.{page_header}
use Rattle.wal_record.specs.declared.types.PrevRule.{PrevRule}
use Rattle.wal_record.specs.declared.types.RecordFault.{RecordFault}
use Rattle.wal_record.specs.declared.types.RecordHead.{RecordHead}
use Rattle.wal_record.specs.Record.{Record}
use Rattle.wal_record.specs.Decoded.{head_of, decoded}
use Rattle.wal_reader.specs.declared.types.EndWhy.TheVariants as why
use Rattle.wal_reader.specs.Halt.{Halt, Stops, GivesUp}
use Rattle.wal_reader.specs.declared.types.NoRecord.{NoRecord}
use Rattle.wal_reader.specs.declared.types.NoRecord.TheVariants.{End, Compressed, TooLong}
use Rattle.wal_reader.specs.Told.{Told, accepted, expected_at, header_at, page_header_length, read_at, told_bytes}
use Rattle.wal_reader.specs.Gathered.{◌>>=◌, enters, gathered, goes_on, one_less, place_at, told_at}
use Rattle.wal_reader.specs.Step.{Entry, attempt, begun, begun_at, end_after, headed, in_place_of, is_kind, length_in, overwrites, rounded_up, step, unless_faulty, unless_given_up}
use Rattle.wal_reader.specs.Log.{StepsOn}

-- an answer's position is no less than `low`, and where it is that a record is given up, no less than `at`
abbrev pub IsPast : {A : Type 0} → (A → ℕ) → ℕ → ℕ → Result A Halt → Type 0
IsPast position low at (Ok x) = low ≤ position x
IsPast position low at (Err (Stops stop)) = Unit {0}
IsPast position low at (Err (GivesUp place)) = at ≤ place

past_then :
    {A B : Type 0} (f : A → ℕ) (g : B → ℕ) (low further at : ℕ) (r : Result A Halt) (h : A → Result B Halt) → IsPast f low at r
    → ((x : A) → low ≤ f x → IsPast g further at (h x)) → IsPast g further at (r >>= h)
past_then f g low further at (Ok x) h p q = q x p
past_then f g low further at (Err (Stops stop)) h p q = tt
past_then f g low further at (Err (GivesUp place)) h p q = p

past_less :
    {A : Type 0} (f : A → ℕ) (low at lower before : ℕ) (r : Result A Halt) → lower ≤ low → before ≤ at → IsPast f low at r
    → IsPast f lower before r
past_less f low at lower before (Ok x) l b p = omega arith
past_less f low at lower before (Err (Stops stop)) l b p = tt
past_less f low at lower before (Err (GivesUp place)) l b p = omega arith

faulty_past : {A : Type 0} (at : ℕ) (r : Result A RecordFault) → IsPast (λ (x : A). at) at at (unless_faulty r)
faulty_past at (Ok x) = omega arith
faulty_past at (Err fault) = tt

told_past : (at : ℕ) (byte : Option ℕ) → IsPast (λ (x : ℕ). at) at at (told_at byte)
told_past at None = tt
told_past at (Some byte) = omega arith

accepted_past : (at : ℕ) (r : Result PageHead PageFault) → IsPast (λ (x : PageHead). at) at at (accepted r)
accepted_past at (Ok head) = omega arith
accepted_past at (Err fault) = tt

read_past : (told : Told) (at : ℕ) (bytes : Option (List ℕ)) → IsPast (λ (x : PageHead). at) at at (read_at told at bytes)
read_past told at None = tt
read_past told at (Some bytes) = accepted_past at (page_header bytes at (expected_at told at))

header_past : (told : Told) (at : ℕ) → IsPast (λ (x : PageHead). at) at at (header_at told at)
unfolding header_at
header_past told at = read_past told at (told_bytes told.byte (page_header_length told at) at)

-- by two tests
tested_past :
    (given goes : Bool) (at behind : ℕ) → at ≤ behind
    → IsPast (λ (x : ℕ). x) at at (if given then Err (GivesUp behind) else if goes then Ok behind else Err (Stops (End why.Page)))
tested_past true goes at behind le = le
tested_past false true at behind le = le
tested_past false false at behind le = tt

enters_past :
    (head : PageHead) (missing : Option ℕ) (at behind : ℕ) → at ≤ behind → IsPast (λ (x : ℕ). x) at at (enters head missing behind)
enters_past head None at behind le = le
enters_past head (Some missing) at behind le =
    tested_past (has_bits head.info 8 && not (has_bits head.info 1)) (has_bits head.info 1 && head.rem == missing) at behind le

place_past_when :
    (page : Bool) (told : Told) (missing : Option ℕ) (at : ℕ)
    → IsPast (λ (x : ℕ). x) at at
    (if page then (header_at told at >>= λ head. enters head missing (at + page_header_length told at)) else Ok at)
place_past_when true told missing at =
    past_then (λ (x : PageHead). at) (λ (x : ℕ). x) at at at (header_at told at)
    (λ head. enters head missing (at + page_header_length told at)) (header_past told at)
    (λ head low. enters_past head missing at (at + page_header_length told at) (omega arith))
place_past_when false told missing at = omega arith

place_past : (told : Told) (missing : Option ℕ) (at : ℕ) → IsPast (λ (x : ℕ). x) at at (place_at told missing at)
unfolding place_at
place_past told missing at = place_past_when (at % 8192 == 0) told missing at

-- so many bytes of a text end so far behind its begin
gathered_past :
    (told : Told) (missing : Option ℕ) (n at : ℕ) → IsPast (λ (r : List ℕ × ℕ). r.1) (at + n) at (gathered told missing n at)
unfolding gathered
gathered_past told missing zero at = omega arith
gathered_past told missing (suc n) at =
    past_then (λ (x : ℕ). x) (λ (r : List ℕ × ℕ). r.1) at (at + suc n) at (place_at told missing at)
    (λ place. told_at (told.byte place) >>= λ byte. gathered told (one_less missing) n (place + 1) >>= λ rest. Ok (byte ∷ rest.0, rest.1))
    (place_past told missing at)
    (λ place low. past_less (λ (r : List ℕ × ℕ). r.1) (place + 1 + n) place (at + suc n) at _ (omega arith) low
    (past_then (λ (x : ℕ). place) (λ (r : List ℕ × ℕ). r.1) place (place + 1 + n) place (told_at (told.byte place))
    (λ byte. gathered told (one_less missing) n (place + 1) >>= λ rest. Ok (byte ∷ rest.0, rest.1)) (told_past place (told.byte place))
    (λ byte same. past_then (λ (r : List ℕ × ℕ). r.1) (λ (r : List ℕ × ℕ). r.1) (place + 1 + n) (place + 1 + n) place
    (gathered told (one_less missing) n (place + 1)) (λ rest. Ok (byte ∷ rest.0, rest.1))
    (past_less (λ (r : List ℕ × ℕ). r.1) (place + 1 + n) (place + 1) (place + 1 + n) place _ (omega arith) (omega arith)
    (gathered_past told (one_less missing) n (place + 1)))
    (λ rest far. far))))

length_past_when :
    (none short : Bool) (at total : ℕ)
    → IsPast (λ (x : ℕ). at) at at (if none then Err (Stops (End why.Zero)) else if short then Err (Stops (End why.Short)) else Ok total)
length_past_when true short at total = tt
length_past_when false true at total = tt
length_past_when false false at total = omega arith

length_past : (at : ℕ) (bytes : List ℕ) → IsPast (λ (x : ℕ). at) at at (length_in bytes)
length_past at bytes = length_past_when (number_at 4 bytes 0 == 0) (nat_lt (number_at 4 bytes 0) 24) at (number_at 4 bytes 0)

begun_past : (told : Told) (start : ℕ) → IsPast (λ (b : ℕ × (List ℕ × ℕ)). b.1.1) (start + 1) start (begun told start)
unfolding begun
begun_past told start =
    past_then (λ (r : List ℕ × ℕ). r.1) (λ (b : ℕ × (List ℕ × ℕ)). b.1.1) (start + 4) (start + 1) start (gathered told None 4 start)
    (λ four. length_in four.0 >>= λ total. Ok (total, four)) (gathered_past told None 4 start)
    (λ four far. past_then (λ (x : ℕ). start) (λ (b : ℕ × (List ℕ × ℕ)). b.1.1) start (start + 1) start (length_in four.0)
    (λ total. Ok (total, four)) (length_past start four.0) (λ total same. omega arith))

headed_past : (told : Told) (start : ℕ) (prev : PrevRule) → IsPast (λ (b : ℕ × (List ℕ × ℕ)). b.1.1) (start + 1) start (headed told start prev)
unfolding headed
headed_past told start prev =
    past_then (λ (b : ℕ × (List ℕ × ℕ)). b.1.1) (λ (b : ℕ × (List ℕ × ℕ)). b.1.1) (start + 1) (start + 1) start (begun told start)
    (λ four. gathered told (Some (four.0 - 4)) 20 four.1.1
    >>= λ twenty. unless_faulty (head_of (four.1.0 ++ twenty.0) start prev)
    >>= λ head. Ok (four.0, (four.1.0 ++ twenty.0, twenty.1)))
    (begun_past told start)
    (λ four far. past_then (λ (r : List ℕ × ℕ). r.1) (λ (b : ℕ × (List ℕ × ℕ)). b.1.1) (start + 1) (start + 1) start
    (gathered told (Some (four.0 - 4)) 20 four.1.1)
    (λ twenty. unless_faulty (head_of (four.1.0 ++ twenty.0) start prev) >>= λ head. Ok (four.0, (four.1.0 ++ twenty.0, twenty.1)))
    (past_less (λ (r : List ℕ × ℕ). r.1) (four.1.1 + 20) four.1.1 (start + 1) start _ (omega arith) (omega arith)
    (gathered_past told (Some (four.0 - 4)) 20 four.1.1))
    (λ twenty on. past_then (λ (x : RecordHead). start) (λ (b : ℕ × (List ℕ × ℕ)). b.1.1) start (start + 1) start
    (unless_faulty (head_of (four.1.0 ++ twenty.0) start prev)) (λ head. Ok (four.0, (four.1.0 ++ twenty.0, twenty.1)))
    (faulty_past start (head_of (four.1.0 ++ twenty.0) start prev)) (λ head same. on)))

-- the first multiple from a position on is no less
up : (unit at : ℕ) → 0 < unit → at ≤ rounded_up unit at
up unit at some =
    let n = at + (unit - 1) in
    let parts = div-add-mod n unit in
    let less = mod-lt n some in
    omega arith

end_past_when : (switch : Bool) (segsize behind : ℕ) → 0 < segsize
    → behind ≤ (if switch then rounded_up segsize (rounded_up 8 behind) else rounded_up 8 behind)
end_past_when true segsize behind some =
    let a = up 8 behind (omega arith) in
    let b = up segsize (rounded_up 8 behind) some in
    omega arith
end_past_when false segsize behind some = up 8 behind (omega arith)

end_past : (segsize : ℕ) (head : RecordHead) (behind : ℕ) → 0 < segsize → behind ≤ end_after segsize head behind
unfolding end_after
end_past segsize head behind some = end_past_when (is_kind 0 64 head) segsize behind some

attempt_past :
    (told : Told) (start : ℕ) (prev : PrevRule) → 0 < told.segsize → IsPast (λ (e : Entry). e.end) (start + 1) start (attempt told start prev)
unfolding attempt
attempt_past told start prev some =
    past_then (λ (b : ℕ × (List ℕ × ℕ)). b.1.1) (λ (e : Entry). e.end) (start + 1) (start + 1) start (headed told start prev)
    (λ head. gathered told (Some (head.0 - 24)) (head.0 - 24) head.1.1
    >>= λ rest. unless_faulty (decoded (head.1.0 ++ rest.0) start prev)
    >>= λ record_. Ok (record { start = start; end = end_after told.segsize record_.head rest.1; record_ = record_ }))
    (headed_past told start prev)
    (λ head far. past_then (λ (r : List ℕ × ℕ). r.1) (λ (e : Entry). e.end) (start + 1) (start + 1) start
    (gathered told (Some (head.0 - 24)) (head.0 - 24) head.1.1)
    (λ rest. unless_faulty (decoded (head.1.0 ++ rest.0) start prev)
    >>= λ record_. Ok (record { start = start; end = end_after told.segsize record_.head rest.1; record_ = record_ }))
    (past_less (λ (r : List ℕ × ℕ). r.1) (head.1.1 + (head.0 - 24)) head.1.1 (start + 1) start _ (omega arith) (omega arith)
    (gathered_past told (Some (head.0 - 24)) (head.0 - 24) head.1.1))
    (λ rest on. past_then (λ (x : Record). start) (λ (e : Entry). e.end) start (start + 1) start
    (unless_faulty (decoded (head.1.0 ++ rest.0) start prev))
    (λ record_. Ok (record { start = start; end = end_after told.segsize record_.head rest.1; record_ = record_ }))
    (faulty_past start (decoded (head.1.0 ++ rest.0) start prev))
    (λ record_ same. let e = end_past told.segsize record_.head rest.1 some in omega arith)))

overwriting_past :
    (test : Bool) (found entry : Entry) (low : ℕ) → low ≤ found.end
    → ◌≡◌ {A = Result Entry NoRecord} (if test then Ok found else Err (End why.Layout)) (Ok entry) → low ≤ entry.end
overwriting_past true found entry low le e =
    let same : found ≡ entry = cc in
    subst (λ (x : Entry). low ≤ x.end) same le
overwriting_past false found entry low le e = cc

in_place_past :
    (begun : ℕ) (r : Result Entry Halt) (entry : Entry) (low at : ℕ) → IsPast (λ (e : Entry). e.end) low at r
    → in_place_of begun r ≡ Ok entry → low ≤ entry.end
in_place_past begun (Ok found) entry low at past e = overwriting_past (overwrites begun found.record_) found entry low past e
in_place_past begun (Err (Stops (End rule))) entry low at past e = cc
in_place_past begun (Err (Stops Compressed)) entry low at past e = cc
in_place_past begun (Err (Stops TooLong)) entry low at past e = cc
in_place_past begun (Err (GivesUp place)) entry low at past e = cc

given_up_past :
    (told : Told) (start : ℕ) (prev : PrevRule) (r : Result Entry Halt) (entry : Entry) → 0 < told.segsize
    → IsPast (λ (e : Entry). e.end) (start + 1) start r → unless_given_up told start prev r ≡ Ok entry → start < entry.end
given_up_past told start prev (Ok found) entry some past e =
    let same : found ≡ entry = cc in
    let far = subst (λ (x : Entry). start + 1 ≤ x.end) same past in
    omega arith
given_up_past told start prev (Err (Stops stop)) entry some past e = cc
given_up_past told start prev (Err (GivesUp place)) entry some past e =
    let far = in_place_past start (attempt told place prev) entry (place + 1) place (attempt_past told place prev some) e in
    omega arith

begun_at_past :
    (told : Told) (at : ℕ) (prev : PrevRule) (r : Result ℕ Halt) (entry : Entry) → 0 < told.segsize → IsPast (λ (x : ℕ). x) at at r
    → begun_at told prev r ≡ Ok entry → at < entry.end
begun_at_past told at prev (Ok start) entry some past e =
    let far = given_up_past told start prev (attempt told start prev) entry some (attempt_past told start prev some) e in
    omega arith
begun_at_past told at prev (Err (Stops stop)) entry some past e = cc
begun_at_past told at prev (Err (GivesUp place)) entry some past e = cc

pub steps_on_lem : StepsOn
unfolding step
steps_on_lem told at prev entry some e = begun_at_past told at prev (place_at told None at) entry some (place_past told None at) e
