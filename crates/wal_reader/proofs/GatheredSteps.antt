-- Texts gathered in parts.
use Rattle.std.proofs.Common.{◌≡◌, ◌≢◌, ◌==◌, ℕ, zero, suc, ◌+◌, ◌%◌, ◌<◌, ◌≤◌, Option, Some, None, Result, Ok, Err, List, [], ◌∷◌, ◌++◌, refl, sym, ap, ◌∙◌, inl, inr, arith, zero-add, ◌⊎◌, false}
use Rattle.std.proofs.lemmas.Bool.{ne_eqb}
use Rattle.std.proofs.lemmas.Option.{same_Some}
use Rattle.wal_reader.specs.Halt.{Halt, Stops}
use Rattle.wal_reader.specs.declared.types.NoRecord.TheVariants.{End}
use Rattle.wal_reader.specs.declared.types.EndWhy.TheVariants.{Missing}
use Rattle.wal_reader.specs.Told.{Told, told_bytes}
use Rattle.wal_reader.specs.Gathered.{place_at, one_less, told_at, gathered}
use Rattle.wal_reader.specs.Calls.{less}
use Rattle.wal_reader.proofs.ToldBytes.{cases_Option}

pub cases_Result : {X E : Type 0} (r : Result X E) → ((x : X) × (r ≡ Ok x)) ⊎ ((e : E) × (r ≡ Err e))
cases_Result (Ok x) = inl (x, refl)
cases_Result (Err e) = inr (e, refl)

pub less-zero : (missing : Option ℕ) → less missing 0 ≡ missing
less-zero None = refl
less-zero (Some m) = ap Some (omega arith)

less-suc : (missing : Option ℕ) (n : ℕ) → less (one_less missing) n ≡ less missing (suc n)
less-suc None n = refl
less-suc (Some m) n = ap Some (omega arith)

pub less-less : (missing : Option ℕ) (a b : ℕ) → less (less missing a) b ≡ less missing (a + b)
less-less None a b = refl
less-less (Some m) a b = ap Some (omega arith)

-- within a page the next byte stands here
pub inside_page : (told : Told) (missing : Option ℕ) (at : ℕ) → at % 8192 ≢ 0 → place_at told missing at ≡ Ok at
unfolding place_at
inside_page told missing at h = let e : (at % 8192 == 0) ≡ false = ne_eqb (at % 8192) 0 h in rw e refl

pair_parts : (xs ys : List ℕ) (m n : ℕ) → ◌≡◌ {A = Result (List ℕ × ℕ) Halt} (Ok (xs, m)) (Ok (ys, n)) → (xs ≡ ys) × (m ≡ n)
pair_parts xs ys m n e = let p : ◌≡◌ {A = List ℕ × ℕ} (xs, m) (ys, n) = cc in (ap (λ (q : List ℕ × ℕ). q.0) p, ap (λ (q : List ℕ × ℕ). q.1) p)

module _ (told : Told) where
  -- the bytes of a page from their place on
  pub gathered_in_page : (n at place : ℕ) (missing : Option ℕ) (bytes : List ℕ) → place_at told missing at ≡ Ok place
      → 0 < n → place % 8192 + n ≤ 8192 → told_bytes told.byte n place ≡ Some bytes
      → gathered told missing n at ≡ Ok (bytes, place + n)
  unfolding gathered told_bytes
  gathered_in_page zero at place missing bytes here some within all = absurd (omega arith)
  gathered_in_page (suc zero) at place missing bytes here some within all = elim (cases_Option (told.byte place)) [
    | inl none ↦ let h = rw none at all in cc
    | inr (b, first) ↦ let h = rw first at all in let s = same_Some (b ∷ []) bytes h in rw (here, first, ← s) refl
  ]
  gathered_in_page (suc (suc n)) at place missing bytes here some within all = elim (cases_Option (told.byte place)) [
    | inl none ↦ let h = rw none at all in cc
    | inr (b, first) ↦
        let g = rw first at all in
        elim (cases_Option (told_bytes told.byte (suc n) (place + 1))) [
          | inl none ↦ let h = rw none at g in cc
          | inr (rest, later) ↦
              let h = rw later at g in
              let s : b ∷ rest ≡ bytes = same_Some (b ∷ rest) bytes h in
              let next : place_at told (one_less missing) (place + 1) ≡ Ok (place + 1) = inside_page told (one_less missing) (place + 1) (omega arith) in
              let ih = gathered_in_page (suc n) (place + 1) (place + 1) (one_less missing) rest next (omega arith) (omega arith) later in
              let e : place + 1 + suc n ≡ place + suc (suc n) = omega arith in
              rw (here, first, ih, ← s, e) refl
        ]
  ]

  -- where the page's bytes are not all told, more than they are not gathered either
  pub gathered_missing : (n at place : ℕ) (missing : Option ℕ) → place_at told missing at ≡ Ok place
      → 0 < n → place % 8192 + n ≤ 8192 → told_bytes told.byte n place ≡ None
      → gathered told missing n at ≡ Err (Stops (End Missing))
  unfolding gathered told_bytes
  gathered_missing zero at place missing here some within none = absurd (omega arith)
  gathered_missing (suc zero) at place missing here some within none = elim (cases_Option (told.byte place)) [
    | inl first ↦ rw (here, first) refl
    | inr (b, first) ↦ let h = rw first at none in cc
  ]
  gathered_missing (suc (suc n)) at place missing here some within none = elim (cases_Option (told.byte place)) [
    | inl first ↦ rw (here, first) refl
    | inr (b, first) ↦
        let g = rw first at none in
        elim (cases_Option (told_bytes told.byte (suc n) (place + 1))) [
          | inr (rest, later) ↦ let h = rw later at g in cc
          | inl later ↦
              let next : place_at told (one_less missing) (place + 1) ≡ Ok (place + 1) = inside_page told (one_less missing) (place + 1) (omega arith) in
              let ih = gathered_missing (suc n) (place + 1) (place + 1) (one_less missing) next (omega arith) (omega arith) later in
              rw (here, first, ih) refl
        ]
  ]

  -- where the next byte has no place, no text is gathered
  pub gathered_nowhere : (n at : ℕ) (missing : Option ℕ) (halt : Halt) → place_at told missing at ≡ Err halt → 0 < n → gathered told missing n at ≡ Err halt
  unfolding gathered
  gathered_nowhere zero at missing halt here some = absurd (omega arith)
  gathered_nowhere (suc n) at missing halt here some = rw here refl

  -- what a text's first byte and the rest are
  record FirstByte (missing : Option ℕ) (a at mid : ℕ) (xs : List ℕ) : Type 0 where
    place : ℕ
    byte : ℕ
    rest : List ℕ
    here : place_at told missing at ≡ Ok place
    first : told_at (told.byte place) ≡ Ok byte
    later : gathered told (one_less missing) a (place + 1) ≡ Ok (rest, mid)
    same : xs ≡ byte ∷ rest

  first_byte : (missing : Option ℕ) (a at mid : ℕ) (xs : List ℕ) → gathered told missing (suc a) at ≡ Ok (xs, mid) → FirstByte missing a at mid xs
  unfolding gathered
  first_byte missing a at mid xs e = elim (cases_Result (place_at told missing at)) [
    | inr (halt, here) ↦ let f = rw here at e in cc
    | inl (place, here) ↦
        let f = rw here at e in
        elim (cases_Result (told_at (told.byte place))) [
          | inr (halt, first) ↦ let g = rw first at f in cc
          | inl (b, first) ↦
              let g = rw first at f in
              elim (cases_Result (gathered told (one_less missing) a (place + 1))) [
                | inr (halt, later) ↦ let h = rw later at g in cc
                | inl (rest, later) ↦
                    let h = rw later at g in
                    let both = pair_parts (b ∷ rest.0) xs rest.1 mid h in
                    record { place = place; byte = b; rest = rest.0; here = here; first = first; later = later ∙ ap (λ (m : ℕ). Ok (rest.0, m)) both.1; same = sym both.0 }
              ]
        ]
  ]

  more_bytes : (missing : Option ℕ) (n at place b end : ℕ) (rest : List ℕ) → place_at told missing at ≡ Ok place → told_at (told.byte place) ≡ Ok b
      → gathered told (one_less missing) n (place + 1) ≡ Ok (rest, end) → gathered told missing (suc n) at ≡ Ok (b ∷ rest, end)
  unfolding gathered
  more_bytes missing n at place b end rest here first later = rw (here, first, later) refl

  more_err : (missing : Option ℕ) (n at place b : ℕ) (halt : Halt) → place_at told missing at ≡ Ok place → told_at (told.byte place) ≡ Ok b
      → gathered told (one_less missing) n (place + 1) ≡ Err halt → gathered told missing (suc n) at ≡ Err halt
  unfolding gathered
  more_err missing n at place b halt here first later = rw (here, first, later) refl

  no_bytes : (missing : Option ℕ) (at mid : ℕ) (xs : List ℕ) → gathered told missing 0 at ≡ Ok (xs, mid) → (xs ≡ []) × (mid ≡ at)
  unfolding gathered
  no_bytes missing at mid xs e = let both = pair_parts [] xs at mid e in (sym both.0, sym both.1)

  -- a text is gathered in two parts
  pub gathered_then : (a b at mid end : ℕ) (missing : Option ℕ) (xs ys : List ℕ) → gathered told missing a at ≡ Ok (xs, mid)
      → gathered told (less missing a) b mid ≡ Ok (ys, end) → gathered told missing (a + b) at ≡ Ok (xs ++ ys, end)
  gathered_then zero b at mid end missing xs ys first later =
      let none = no_bytes missing at mid xs first in
      let z : zero + b ≡ b = zero-add b in
      let l = rw (none.1, less-zero missing) at later in
      rw (z, none.0) l
  gathered_then (suc a) b at mid end missing xs ys first later =
      let f = first_byte missing a at mid xs first in
      let m = rw (← less-suc missing a) at later in
      let ih = gathered_then a b (f.place + 1) mid end (one_less missing) f.rest ys f.later m in
      let z : suc a + b ≡ suc (a + b) = omega arith in
      rw (z, f.same) (more_bytes missing (a + b) at f.place f.byte end (f.rest ++ ys) f.here f.first ih)

  pub gathered_then_err : (a b at mid : ℕ) (missing : Option ℕ) (xs : List ℕ) (halt : Halt) → gathered told missing a at ≡ Ok (xs, mid)
      → gathered told (less missing a) b mid ≡ Err halt → gathered told missing (a + b) at ≡ Err halt
  gathered_then_err zero b at mid missing xs halt first later =
      let none = no_bytes missing at mid xs first in
      let z : zero + b ≡ b = zero-add b in
      let l = rw (none.1, less-zero missing) at later in
      rw z l
  gathered_then_err (suc a) b at mid missing xs halt first later =
      let f = first_byte missing a at mid xs first in
      let m = rw (← less-suc missing a) at later in
      let ih = gathered_then_err a b (f.place + 1) mid (one_less missing) f.rest halt f.later m in
      let z : suc a + b ≡ suc (a + b) = omega arith in
      rw z (more_err missing (a + b) at f.place f.byte halt f.here f.first ih)

  pub gathered_err : (a b at : ℕ) (missing : Option ℕ) (halt : Halt) → gathered told missing a at ≡ Err halt → gathered told missing (a + b) at ≡ Err halt
  unfolding gathered
  gathered_err zero b at missing halt e = cc
  gathered_err (suc a) b at missing halt e =
      let z : suc a + b ≡ suc (a + b) = omega arith in
      elim (cases_Result (place_at told missing at)) [
        | inr (other, here) ↦ let f = rw here at e in rw (z, here) f
        | inl (place, here) ↦
            let f = rw here at e in
            elim (cases_Result (told_at (told.byte place))) [
              | inr (other, first) ↦ let g = rw first at f in rw (z, here, first) g
              | inl (x, first) ↦
                  let g = rw first at f in
                  elim (cases_Result (gathered told (one_less missing) a (place + 1))) [
                    | inr (other, later) ↦
                        let h = rw later at g in
                        let ih = gathered_err a b (place + 1) (one_less missing) other later in
                        rw (z, here, first, ih) h
                    | inl (rest, later) ↦ let h = rw later at g in cc
                  ]
            ]
      ]
