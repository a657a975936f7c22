-- Transactions since an opening: who had committed then, and whom a horizon below the least live id covers.
use Rattle.std.proofs.Common.{◌≡◌, ℕ, ◌<◌, ◌≤◌, true, false, List, [], ◌∷◌, ◌++◌, arith, sym, refl, ◌∙◌, subst, inl, inr}
use Rattle.std.proofs.lemmas.Bool.{both_ways, cases_lt, false_from_ne_true, or_left, or_right}
use Rattle.typed_records.specs.declared.types.Rec.{Rec}
use Rattle.transaction_model.specs.Transactions.{IsXmin, Statuses, TransactionRecord, commits, committed}
use Rattle.transaction_model.specs.LegalTransactions.{Legal}
use Rattle.transaction_model.proofs.Endings.{committed_stays, committed_top, legal_rest, live_before, live_not_committed, live_top, origin_rule}
use Rattle.xact_redo.specs.TransactionsOf.{kind_of, transaction_of, transactions_of}
use Rattle.row_model.specs.Origins.{HasFailed, IsLive, IsSameTree, LogOrigin, committed_in}
use Rattle.row_model.specs.LegalSteps.{AtLeast, Covers, Outlived, WasOutlived}

-- who had committed has
pub committed_since : (o : LogOrigin) (later opened : List Rec) (x : ℕ) → committed_in o opened x ≡ true → committed_in o (later ++ opened) x ≡ true
unfolding committed transaction_of
committed_since o [] opened x h = h
committed_since o (rec ∷ later) opened x h =
    or_right (commits x rec.head.xid.0 (kind_of rec.head rec.kind)) (committed_in o (later ++ opened) x) (committed_since o later opened x h)

-- who is live was
pub live_since : (o : LogOrigin) (later opened : List Rec) (x : ℕ) → IsLive o (later ++ opened) x → IsLive o opened x
live_since o [] opened x live = live
live_since o (rec ∷ later) opened x live =
    live_since o later opened x (live_before o.transactions.at x (transaction_of rec) (transactions_of (later ++ opened)) live)

-- so who is live, or has failed, had not committed
pub live_then : (o : LogOrigin) (later opened : List Rec) (x : ℕ) → IsLive o (later ++ opened) x → committed_in o opened x ≡ false
live_then o later opened x live = live_not_committed o.transactions.at x (transactions_of opened) (live_since o later opened x live)

pub failed_then : (o : LogOrigin) (later opened : List Rec) (x : ℕ) → HasFailed o (later ++ opened) x → committed_in o opened x ≡ false
failed_then o later opened x failed =
    false_from_ne_true (committed_in o opened x)
    (λ h. both_ways (committed_in o (later ++ opened) x) failed.not_committed (committed_since o later opened x h))

-- who was not live has committed only where it had
pub no_more :
    (o : LogOrigin) (later opened : List Rec) → Legal o.transactions (transactions_of (later ++ opened)) → (x : ℕ)
    → (IsLive o opened x → ⊥) → committed_in o (later ++ opened) x ≡ committed_in o opened x
no_more o [] opened legal x dead = refl
no_more o (rec ∷ later) opened legal x dead =
    committed_stays o.transactions (transaction_of rec) (transactions_of (later ++ opened)) legal x
    (λ live. dead (live_since o later opened x live))
    ∙ no_more o later opened (legal_rest o.transactions (transaction_of rec) (transactions_of (later ++ opened)) legal) x dead

pub legal_since : (o : LogOrigin) (later opened : List Rec) → Legal o.transactions (transactions_of (later ++ opened)) → Legal o.transactions (transactions_of opened)
legal_since o [] opened legal = legal
legal_since o (rec ∷ later) opened legal =
    legal_since o later opened (legal_rest o.transactions (transaction_of rec) (transactions_of (later ++ opened)) legal)

-- no transaction of a tree is live of which one has committed
tree_ended :
    (o : LogOrigin) (log : List Rec) → Legal o.transactions (transactions_of log) → (x y : ℕ) → committed_in o log x ≡ true
    → IsSameTree o x y → IsLive o log y → ⊥
tree_ended o log legal x y done same live =
    let top = live_top o.transactions (transactions_of log) legal y live in
    elim (cases_lt x 3) [
      | inl less ↦
          let first = (origin_rule o.transactions (transactions_of log) legal).top_first x in
          let normal = top.normal in omega arith
      | inr normal ↦
          both_ways (committed_in o log (o.transactions.top y))
          (live_not_committed o.transactions.at (o.transactions.top y) (transactions_of log) top)
          (subst (λ (t : ℕ). committed_in o log t ≡ true) same
          (committed_top o.transactions (transactions_of log) legal x normal done))
    ]

-- so if one had committed, another that has had too
pub tree_then :
    (o : LogOrigin) (later opened : List Rec) → Legal o.transactions (transactions_of (later ++ opened)) → (x y : ℕ)
    → committed_in o opened x ≡ true → committed_in o (later ++ opened) y ≡ true → IsSameTree o x y → committed_in o opened y ≡ true
tree_then o later opened legal x y had done same =
    sym (no_more o later opened legal y (tree_ended o opened (legal_since o later opened legal) x y had same)) ∙ done

-- who was outlived has committed
outlived_committed : (s : Statuses) (horizon x : ℕ) (log : List TransactionRecord) → WasOutlived s horizon x log → committed s x log ≡ true
unfolding committed
outlived_committed s horizon x [] was = absurd was
outlived_committed s horizon x (r ∷ older) (inl (names, rest)) = or_left (commits x r.xid r.kind) (committed s x older) names
outlived_committed s horizon x (r ∷ older) (inr was) =
    or_right (commits x r.xid r.kind) (committed s x older) (outlived_committed s horizon x older was)

module _ (o : LogOrigin) (opened : List Rec) (xmin horizon : ℕ) (is_xmin : IsXmin o.transactions.at xmin (transactions_of opened))
    (below : horizon < xmin) where
  -- none up to the horizon was live
  none_live : (x : ℕ) → x ≤ horizon → IsLive o opened x → ⊥
  none_live x upto live = let least = is_xmin.least x live in omega arith

  outlived_then : (later : List Rec) (x : ℕ) → WasOutlived o.transactions.at horizon x (transactions_of (later ++ opened)) → committed_in o opened x ≡ true
  outlived_then [] x was = outlived_committed o.transactions.at horizon x (transactions_of opened) was
  outlived_then (rec ∷ later) x (inl (names, (y, upto, live))) = absurd (none_live y upto (live_since o later opened y live))
  outlived_then (rec ∷ later) x (inr was) = outlived_then later x was

  -- one that the horizon covers had committed
  pub covered_then :
      (later : List Rec) → Legal o.transactions (transactions_of (later ++ opened)) → (x : ℕ)
      → committed_in o (later ++ opened) x ≡ true → Covers o (later ++ opened) horizon x → committed_in o opened x ≡ true
  covered_then later legal x done (AtLeast upto) = sym (no_more o later opened legal x (none_live x upto)) ∙ done
  covered_then later legal x done (Outlived was) = outlived_then later x was
