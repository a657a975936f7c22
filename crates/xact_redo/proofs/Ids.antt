-- Facts that hold of each id of a list, and the greatest one.
use Rattle.std.proofs.Common.{◌≡◌, ℕ, zero, suc, ◌+◌, ◌*◌, ◌/◌, ◌≤◌, ◌<◌, Bool, true, false, cond, List, [], ◌∷◌, All, filter, fold, max, arith, refl}
use Rattle.std.proofs.lemmas.List.Elements.{All-tail}
use Rattle.pg_types.specs.declared.names.Xid.{Xid}
use Rattle.known_assigned.specs.Ids.{greatest, numbers}
use Rattle.transaction_model.specs.StandbyStates.{last_named}
use Rattle.transaction_model.specs.Transactions.{Abort, Commit}

-- what holds of each id of a running record holds of its oldest and its latest id, and of each that is listed
pub of_running :
    (P : Xid → Type 0) (own next oldest latest : Xid) (xids : List Xid) → All P (own ∷ next ∷ oldest ∷ latest ∷ xids)
    → P oldest × P latest × All P xids
of_running P own next oldest latest xids all =
    (all 2 own (omega arith), all 3 own (omega arith), λ k d h. all (suc (suc (suc (suc k)))) d (omega arith))

-- a greatest id that began at m is at least m and each of the list
pub fold-max-start : (m : ℕ) (xs : List Xid) → m ≤ fold max m (numbers xs)
fold-max-start m [] = omega arith
fold-max-start m (x ∷ xs) = omega (arith, fold-max-start (max m x.0) xs)

pub fold-max-each : (m : ℕ) (xs : List Xid) → All (λ (x : Xid). x.0 ≤ fold max m (numbers xs)) xs
fold-max-each m [] k d h = absurd (omega arith)
fold-max-each m (x ∷ xs) zero d h = omega (arith, fold-max-start (max m x.0) xs)
fold-max-each m (x ∷ xs) (suc k) d h = fold-max-each (max m x.0) xs k d (omega arith)

-- each is below the end of the page of the greatest one
pub below_page_end : (xs : List Xid) (last end : ℕ) → last ≡ greatest (numbers xs) → 32768 * (last / 32768 + 1) ≤ end → All (λ (x : Xid). x.0 < end) xs
below_page_end xs last end is fits k d h = omega (arith, fold-max-each 0 xs k d h)

-- a commit and an abort name the same ids
pub named_at_end :
    (commit : Bool) (xid : ℕ) (subs : List ℕ)
    → last_named xid (cond commit (Commit subs) (Abort subs)) ≡ greatest (xid ∷ subs)
named_at_end true xid subs = refl
named_at_end false xid subs = refl

-- the greatest of some ids is in range where all of them are
pub greatest-some : (p : ℕ → Bool) (m bound : ℕ) (xs : List Xid) → m ≤ bound → All (λ (x : Xid). x.0 ≤ bound) xs → fold max m (filter p (numbers xs)) ≤ bound
greatest-some p m bound [] low all = low
greatest-some p m bound (x ∷ xs) low all =
    elim (p x.0) as (λ t. fold max m (cond t (x.0 ∷ filter p (numbers xs)) (filter p (numbers xs))) ≤ bound) [
      | true ↦ greatest-some p (max m x.0) bound xs (omega (arith, low, all 0 x (omega arith))) (All-tail (λ (y : Xid). y.0 ≤ bound) x xs all)
      | false ↦ greatest-some p m bound xs low (All-tail (λ (y : Xid). y.0 ≤ bound) x xs all)
    ]
