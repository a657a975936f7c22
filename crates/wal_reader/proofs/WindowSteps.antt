-- What a read leaves in a page.
use Rattle.std.proofs.Common.{◌≡◌, ℕ, ◌+◌, ◌-◌, ◌^◌, ◌<◌, ◌≤◌, Option, Some, None, Result, Ok, Err, IfSome, IfOk, List, ◌++◌, length, take, drop, sym, subst, ◌∙◌, arith, add-zero}
use Rattle.std.proofs.lemmas.List.{length-take, get_or-take, take-append-le, take_all}
use Rattle.std.proofs.Math.Seq.{drop-append_seam, take-add}
use borrow.Rule.Slice.PartMut.{put_mid, post_of}
use Rattle.pg_types.specs.declared.fail.Fail.{Fail}
use Rattle.outside.specs.Log.{GivesBytes, FitsLog, GivesRun, EndsAtLimit}
use Rattle.wal_reader.specs.Told.{told_bytes}
use Rattle.wal_reader.specs.Kept.{Kept, AreTold, Covers, piece_of}
use Rattle.wal_reader.proofs.ToldBytes.{told_from_run, told_part, told_joined, told_none}

-- what stands behind a place after a write there
behind : (a k : ℕ) (page buffer : List ℕ) → a ≤ length page → drop a (put_mid a k page buffer) ≡ buffer ++ post_of a k page
behind a k page buffer h =
    let n : length (take a page) ≡ a = simp length-take (omega arith) in
    let e = drop-append_seam (take a page) (buffer ++ post_of a k page) in
    rw n at e

-- the bytes that a log gave stand where they were asked for
run_told : (byte : ℕ → Option ℕ) (at n a k : ℕ) (page buffer : List ℕ) → a ≤ length page → n ≤ length buffer → GivesRun byte at buffer n
    → told_bytes byte n at ≡ Some (take n (drop a (put_mid a k page buffer)))
run_told byte at n a k page buffer h fits gives =
    let e : take n (drop a (put_mid a k page buffer)) ≡ take n buffer = rw (behind a k page buffer h) (take-append-le n buffer (post_of a k page) fits) in
    rw e (told_from_run byte n at (take n buffer) (record {
      len = simp length-take (omega arith);
      each = λ i small. let t = get_or-take n buffer i 0 small in rw t (gives.bytes i small);
    }))

pub given_told : (told : Option (ℕ → Option ℕ)) (at a k : ℕ) (page old buffer : List ℕ) (answer : Result ℕ Fail)
    → a ≤ length page → length old ≡ length buffer → FitsLog at old answer → GivesBytes told at buffer answer
    → IfSome told (λ byte. IfOk answer (λ n. told_bytes byte n at ≡ Some (take n (drop a (put_mid a k page buffer)))))
given_told None at a k page old buffer answer h same fits gives = tt
given_told (Some byte) at a k page old buffer (Err fail) h same fits gives = tt
given_told (Some byte) at a k page old buffer (Ok n) h same fits gives = run_told byte at n a k page buffer h (let f = fits.0 in omega arith) gives

-- bytes that are read on after those that are kept
pub kept_more : (byte : ℕ → Option ℕ) (from have n : ℕ) (page page' : List ℕ)
    → have + n ≤ length page' → take have page' ≡ take have page → told_bytes byte n (from + have) ≡ Some (take n (drop have page'))
    → AreTold byte (record { from = from; bytes = take have page })
    → AreTold byte (record { from = from; bytes = take (have + n) page' })
kept_more byte from have n page page' fits same more kept =
    let l : length (take have page') ≡ have = simp length-take (omega arith) in
    let m : length (take (have + n) page') ≡ have + n = simp length-take (omega arith) in
    let k = rw (← same) at kept in
    let k' = rw l at k in
    let joined = told_joined byte have n from (take have page') (take n (drop have page')) k' more in
    rw (m, take-add have n page') joined

-- a vector whose slice was written
written_back : (len : ℕ) (page items : List ℕ) → len ≡ length page → take len (page ++ drop (length page) items) ≡ page
written_back len page items e = rw e (take-append-le (length page) page (drop (length page) items) (omega arith) ∙ take_all (length page) page (omega arith))

pub kept_more_if : (told : Option (ℕ → Option ℕ)) (old : Kept) (from have n len : ℕ) (page page' items : List ℕ)
    → record { from = from; bytes = take have page } ≡ old
    → len ≡ length page' → have + n ≤ length page' → take have page' ≡ take have page
    → IfSome told (λ byte. told_bytes byte n (from + have) ≡ Some (take n (drop have page')))
    → IfSome told (λ byte. AreTold byte old → AreTold byte (record { from = from; bytes = take (have + n) (take len (page' ++ drop (length page') items)) }))
kept_more_if None old from have n len page page' items view l fits same more = tt
kept_more_if (Some byte) old from have n len page page' items view l fits same more = λ kept.
    rw (written_back len page' items l)
    (kept_more byte from have n page page' fits same more (subst (λ (k : Kept). AreTold byte k) (sym view) kept))

-- no byte at or past the limit is told
pub none_at_limit : (told : Option (ℕ → Option ℕ)) (Q : (ℕ → Option ℕ) → Type 0) (n at : ℕ) → EndsAtLimit told → 2 ^ 63 ≤ at → 0 < n
    → IfSome told (λ byte. Q byte → told_bytes byte n at ≡ None)
none_at_limit None Q n at ends past some = tt
none_at_limit (Some byte) Q n at ends past some = λ q. told_none byte n at 0 some (rw (add-zero at) (ends at past))

-- no byte is told behind what a log gave, where it gave nothing
pub none_behind : (told told' : Option (ℕ → Option ℕ)) (Q : (ℕ → Option ℕ) → Type 0) (n at end : ℕ) (answer : Result ℕ Fail)
    → told' ≡ told → at ≤ end → end < at + n → answer ≡ Ok 0
    → IfSome told' (λ byte. answer ≡ Ok 0 → byte end ≡ None)
    → IfSome told (λ byte. Q byte → told_bytes byte n at ≡ None)
none_behind None told' Q n at end answer same from below zero_ none = tt
none_behind (Some byte) told' Q n at end answer same from below zero_ none =
    let h = rw same at none in
    λ q. told_none byte n at (end - at) (omega arith) (let e : at + (end - at) ≡ end = omega arith in rw e (h zero_))

-- what is kept and told is told in each part
pub covered_told : (told : Option (ℕ → Option ℕ)) (old kept : Kept) (at n : ℕ) → Covers kept at n
    → IfSome told (λ byte. AreTold byte old → AreTold byte kept)
    → IfSome told (λ byte. AreTold byte old → told_bytes byte n at ≡ Some (piece_of kept at n))
covered_told None old kept at n covers told = tt
covered_told (Some byte) old kept at n covers told = λ before.
    let k = covers.0 in
    let l = covers.1 in
    let e : kept.from + (at - kept.from) ≡ at = omega arith in
    let p = told_part byte (length kept.bytes) kept.from kept.bytes (at - kept.from) n (told before) (omega arith) in
    rw e at p
