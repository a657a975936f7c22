-- A tree of ids, one id after another.
use Rattle.std.proofs.Common.{◌≡◌, ℕ, ◌+◌, ◌<◌, ◌/◌, ◌==◌, ◌&&◌, ◌||◌, Bool, true, false, cond, leb, List, [], ◌∷◌, length, get_or, take, max, refl, arith}
use Rattle.std.specs.List.{list_any}
use Rattle.std.proofs.lemmas.List.Folds.{list_any_more}
use Rattle.pg_types.specs.declared.names.Xid.{Xid}
use Rattle.pg_types.specs.declared.status.Status.{Status}
use Rattle.commit_log.specs.Log.{status_after, changed_after}

-- one more test c joins a choice by the tests p and q
choice_more : {X : Type 0} (a p q c : Bool) (s b : X) → cond (a && (c || false)) s (cond (a && (p || q)) s b) ≡ cond (a && (p || (q || c))) s b
choice_more true true q true s b = refl
choice_more true true q false s b = refl
choice_more true false true true s b = refl
choice_more true false true false s b = refl
choice_more true false false true s b = refl
choice_more true false false false s b = refl
choice_more false p q c s b = refl

greatest_more : (p q c : Bool) (b at : ℕ) → cond (c || false) (max (cond (p || q) (max b at) b) at) (cond (p || q) (max b at) b) ≡ cond (p || (q || c)) (max b at) b
greatest_more true q true b at = omega arith
greatest_more true q false b at = refl
greatest_more false true true b at = omega arith
greatest_more false true false b at = refl
greatest_more false false true b at = refl
greatest_more false false false b at = refl

pub status_after-more : (before now : ℕ → Status) (xid : Xid) (subs : List Xid) (i : ℕ) (y : Xid) (s : Status) → i < length subs → y ≡ get_or subs i y → (x : ℕ) → now x ≡ status_after before (xid ∷ take i subs) s x → status_after now (y ∷ []) s x ≡ status_after before (xid ∷ take (i + 1) subs) s x
status_after-more before now xid subs i y s within is x so_far =
    let test : Xid → Bool = λ (z : Xid). z.0 == x in
    rw (so_far, list_any_more test subs i y within, ← is) (choice_more (leb 3 x) (test xid) (list_any test (take i subs)) (test y) s (before x))

pub changed_after-more : (before now : ℕ → ℕ) (xid : Xid) (subs : List Xid) (i : ℕ) (y : Xid) (at : ℕ) → i < length subs → y ≡ get_or subs i y → (n : ℕ) → now n ≡ changed_after before (xid ∷ take i subs) at n → changed_after now (y ∷ []) at n ≡ changed_after before (xid ∷ take (i + 1) subs) at n
changed_after-more before now xid subs i y at within is n so_far =
    let test : Xid → Bool = λ (z : Xid). leb 3 z.0 && (z.0 / 32768 == n) in
    rw (so_far, list_any_more test subs i y within, ← is) (greatest_more (test xid) (list_any test (take i subs)) (test y) (before n) at)
