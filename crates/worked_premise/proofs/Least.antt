-- The least live id at the end of the log: each id below 700 had ended before it, as its first record says, and 700 has
-- committed.
use Rattle.std.proofs.Common.{◌≡◌, ℕ, ◌<◌, false, true, ◌==◌, ◌||◌, nat_lt, [], ◌∷◌, arith, inl, inr, refl, subst, ◌∙◌}
use Rattle.std.proofs.lemmas.Bool.{both_ways, cases_lt, lt-ltb, or_left, or_right}
use Rattle.known_assigned.specs.Ids.{is_among}
use Rattle.transaction_model.specs.Transactions.{IsXmin, Statuses, ended}
use Rattle.xact_redo.specs.TransactionsOf.{transaction_of, transactions_of}
use Rattle.legal_session.specs.AbstractStandby.{log_origin}
use Rattle.worked_archive.specs.WorkedArchive.{log}
use Rattle.worked_premise.specs.Premise.{scan, world}

abbrev at : Statuses
at = (log_origin world).transactions.at

ended_is :
    (x : ℕ) → ended at x (transactions_of log) ≡ is_among x (700 ∷ []) || (nat_lt x 700 || (((x == 1 || x == 2) || false) || false))
unfolding ended transaction_of
ended_is x = refl

committed_ends : ended at 700 (transactions_of log) ≡ true
unfolding ended transaction_of
committed_ends = refl

ids_end : (x : ℕ) → x < 701 → ended at x (transactions_of log) ≡ true
ids_end x less =
    elim (cases_lt x 700) [
      | inl below ↦
          ended_is x
          ∙ or_right (is_among x (700 ∷ [])) (nat_lt x 700 || (((x == 1 || x == 2) || false) || false))
          (or_left (nat_lt x 700) (((x == 1 || x == 2) || false) || false) (lt-ltb x 700 below))
      | inr from ↦
          let is : 700 ≡ x = omega arith in subst (λ (n : ℕ). ended at n (transactions_of log) ≡ true) is committed_ends
    ]

pub least : IsXmin (log_origin world).transactions.at scan.xmin (transactions_of scan.opened)
unfolding ended transaction_of
least =
    record {
      live = record { normal = omega arith; not_ended = refl };
      least =
          λ x live.
          elim (cases_lt x 701) [
            | inl less ↦ absurd (both_ways (ended at x (transactions_of log)) live.not_ended (ids_end x less))
            | inr from ↦ from
          ];
    }
