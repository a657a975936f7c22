-- Told bytes by their positions, in parts and joined.
use Rattle.std.proofs.Common.{◌≡◌, ℕ, zero, suc, ◌+◌, ◌<◌, ◌≤◌, ◌⊎◌, inl, inr, Option, Some, None, List, [], ◌∷◌, ◌++◌, length, take, drop, slice_index, refl, sym, ap, subst, ◌∙◌, arith, length-drop, add-zero}
use Rattle.std.proofs.lemmas.List.{length-take, get_or-take, get_or-drop}
use Rattle.std.proofs.lemmas.Option.{same_Some}
use Rattle.wal_reader.specs.Told.{told_bytes}

-- a choice of the two variants
pub cases_Option : {X : Type 0} (o : Option X) → (o ≡ None) ⊎ ((x : X) × (o ≡ Some x))
cases_Option None = inl refl
cases_Option (Some x) = inr (x, refl)

-- every byte at its position
pub record Run (byte : ℕ → Option ℕ) (n at : ℕ) (bytes : List ℕ) : Type 0 where
  pub len : length bytes ≡ n
  pub each : (i : ℕ) → i < n → byte (at + i) ≡ Some (slice_index bytes i)

each_cons : (byte : ℕ → Option ℕ) (n at b : ℕ) (rest : List ℕ) → byte at ≡ Some b → Run byte n (at + 1) rest
    → (i : ℕ) → i < suc n → byte (at + i) ≡ Some (slice_index (b ∷ rest) i)
each_cons byte n at b rest first run zero h = rw (add-zero at) first
each_cons byte n at b rest first run (suc i) h = let e : at + suc i ≡ at + 1 + i = omega arith in rw e (run.each i (omega arith))

pub told_from_run : (byte : ℕ → Option ℕ) (n at : ℕ) (bytes : List ℕ) → Run byte n at bytes → told_bytes byte n at ≡ Some bytes
unfolding told_bytes
told_from_run byte zero at [] run = refl
told_from_run byte zero at (x ∷ xs) run = absurd (let h = run.len in omega arith)
told_from_run byte (suc n) at [] run = absurd (let h = run.len in omega arith)
told_from_run byte (suc n) at (x ∷ xs) run =
    let first : byte at ≡ Some x = ap byte (sym (add-zero at)) ∙ run.each 0 (omega arith) in
    let later = told_from_run byte n (at + 1) xs (record {
      len = let h = run.len in omega arith;
      each = λ i h. let e : at + 1 + i ≡ at + suc i = omega arith in rw e (run.each (suc i) (omega arith));
    }) in
    rw (first, later) refl

pub run_from_told : (byte : ℕ → Option ℕ) (n at : ℕ) (bytes : List ℕ) → told_bytes byte n at ≡ Some bytes → Run byte n at bytes
unfolding told_bytes
run_from_told byte zero at bytes e = record { len = ap length (sym (same_Some [] bytes e)); each = λ i h. absurd (omega arith) }
run_from_told byte (suc n) at bytes e = elim (cases_Option (byte at)) [
  | inl none ↦ let h = rw none at e in cc
  | inr (b, first) ↦
      let f = rw first at e in
      elim (cases_Option (told_bytes byte n (at + 1))) [
        | inl none ↦ let h = rw none at f in cc
        | inr (rest, later) ↦
            let h = rw later at f in
            let same : b ∷ rest ≡ bytes = same_Some (b ∷ rest) bytes h in
            let run = run_from_told byte n (at + 1) rest later in
            let whole : Run byte (suc n) at (b ∷ rest) = record { len = ap suc run.len; each = each_cons byte n at b rest first run } in
            subst (λ (l : List ℕ). Run byte (suc n) at l) same whole
      ]
]

-- a part of told bytes is told
pub told_part : (byte : ℕ → Option ℕ) (n at : ℕ) (bytes : List ℕ) (k m : ℕ) → told_bytes byte n at ≡ Some bytes → k + m ≤ n
    → told_bytes byte m (at + k) ≡ Some (take m (drop k bytes))
told_part byte n at bytes k m e h =
    let run = run_from_told byte n at bytes e in
    told_from_run byte m (at + k) (take m (drop k bytes)) (record {
      len = let l = run.len in simp (length-take, length-drop) (omega arith);
      each = λ i small.
          let p : at + k + i ≡ at + (k + i) = omega arith in
          let t = get_or-take m (drop k bytes) i 0 small in
          let d = get_or-drop k bytes i 0 in
          rw (p, t, d) (run.each (k + i) (omega arith));
    })

-- told bytes joined
pub told_joined : (byte : ℕ → Option ℕ) (n m at : ℕ) (xs ys : List ℕ) → told_bytes byte n at ≡ Some xs → told_bytes byte m (at + n) ≡ Some ys
    → told_bytes byte (n + m) at ≡ Some (xs ++ ys)
unfolding told_bytes
told_joined byte zero m at xs ys e f =
    let x : [] ≡ xs = same_Some [] xs e in
    let z : zero + m ≡ m = omega arith in
    let a : at + zero ≡ at = add-zero at in
    let g = rw a at f in
    rw (← x, z) g
told_joined byte (suc n) m at xs ys e f = elim (cases_Option (byte at)) [
  | inl none ↦ let h = rw none at e in cc
  | inr (b, first) ↦
      let g = rw first at e in
      elim (cases_Option (told_bytes byte n (at + 1))) [
        | inl none ↦ let h = rw none at g in cc
        | inr (rest, later) ↦
            let h = rw later at g in
            let same : b ∷ rest ≡ xs = same_Some (b ∷ rest) xs h in
            let p : at + suc n ≡ at + 1 + n = omega arith in
            let f' = rw p at f in
            let joined = told_joined byte n m (at + 1) rest ys later f' in
            let s : suc n + m ≡ suc (n + m) = omega arith in
            rw (s, first, joined, ← same) refl
      ]
]

-- where one byte is not told, the bytes are not
pub told_none : (byte : ℕ → Option ℕ) (n at k : ℕ) → k < n → byte (at + k) ≡ None → told_bytes byte n at ≡ None
told_none byte n at k h e = elim (cases_Option (told_bytes byte n at)) [
  | inl none ↦ none
  | inr (xs, all) ↦ let run = run_from_told byte n at xs all in let s = run.each k h in cc
]
