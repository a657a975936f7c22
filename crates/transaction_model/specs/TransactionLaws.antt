-- What the rules of running transactions and snapshots promise over a legal log.
use Rattle.std.specs.Prelude.{◌≡◌, ℕ, Bool, true, ◌&&◌, not, List, ◌++◌}
use Rattle.standby_snapshot.specs.Snapshot.{in_progress, take_of}
use Rattle.subtrans.specs.Parents.{topmost_of}
use Rattle.known_assigned.specs.declared.state.State.TheVariants.{Ready}
use Rattle.transaction_model.specs.Transactions.{TransactionRecord, Statuses, committed, finished, ended, Live, state_of, IsXmin}
use Rattle.transaction_model.specs.LegalTransactions.{IsNext, Legal, TransactionOrigin}
use Rattle.transaction_model.specs.Promotions.{assigned_anew, promoted, promotion_next}
use Rattle.transaction_model.specs.StandbyStates.{Leads, LeadsOn, StandbyState}

-- the commit log of a life's start shows at least what had committed or aborted by then
abbrev pub ShowsFinished : Statuses → (ℕ → Bool) → List TransactionRecord → Type 0
ShowsFinished s first old = (x : ℕ) → finished s x old ≡ true → first x ≡ true

-- what the commit log of the life's start showed has come to pass
abbrev pub IsCaughtUp : Statuses → (ℕ → Bool) → List TransactionRecord → Type 0
IsCaughtUp s first log = (x : ℕ) → first x ≡ true → ended s x log ≡ true

-- the state of the rules is that of the life
abbrev pub StateAgrees : Type 0
StateAgrees =
    (o : TransactionOrigin) (first : ℕ → Bool) (old life : List TransactionRecord) (k : StandbyState) → Legal o (life ++ old) → Leads first life k
    → k.known.mode ≡ state_of life

-- where a standby knows the running transactions and has caught up, its snapshot's xmin is the least live id
abbrev pub XminAgrees : Type 0
XminAgrees =
    (o : TransactionOrigin) (first : ℕ → Bool) (old life : List TransactionRecord) (k : StandbyState) → Legal o (life ++ old)
    → ShowsFinished o.at first old → IsCaughtUp o.at first (life ++ old) → state_of life ≡ Ready → Leads first life k
    → IsXmin o.at (take_of k.known).xmin (life ++ old)

-- and each live id is in progress by the snapshot, whatever parents later records add or let forget
abbrev pub LiveInProgress : Type 0
LiveInProgress =
    (o : TransactionOrigin) (first : ℕ → Bool) (old life more : List TransactionRecord) (k now : StandbyState)
    → Legal o ((more ++ life) ++ old) → ShowsFinished o.at first old → IsCaughtUp o.at first (life ++ old)
    → state_of life ≡ Ready → Leads first life k → LeadsOn first life k (take_of k.known).xmin more now
    → (x : ℕ) → Live o.at x (life ++ old) → in_progress (take_of k.known) (topmost_of now.parents) x ≡ true

-- and at every later position of the life an id that is not in progress by the snapshot has committed exactly
-- where it had as the snapshot was taken
abbrev pub SnapshotDecides : Type 0
SnapshotDecides =
    (o : TransactionOrigin) (first : ℕ → Bool) (old life more : List TransactionRecord) (k now : StandbyState)
    → Legal o ((more ++ life) ++ old) → ShowsFinished o.at first old → IsCaughtUp o.at first (life ++ old)
    → state_of life ≡ Ready → Leads first life k → LeadsOn first life k (take_of k.known).xmin more now
    → (x : ℕ)
    → (not (in_progress (take_of k.known) (topmost_of now.parents) x) && committed o.at x ((more ++ life) ++ old))
    ≡ committed o.at x (life ++ old)

-- one xmin stands at a position
abbrev pub OneXmin : Type 0
OneXmin = (s : Statuses) (log : List TransactionRecord) (a b : ℕ) → IsXmin s a log → IsXmin s b log → a ≡ b

-- a legal log with the two records of a promotion is legal again, with the ids from the promotion's next one on
-- assigned anew; the control's next id had not been assigned where the life began
abbrev pub PromotionLegal : Type 0
PromotionLegal =
    (o : TransactionOrigin) (old life : List TransactionRecord) (control from middle to : ℕ) → Legal o (life ++ old)
    → IsNext o.at control old
    → Legal (assigned_anew (promotion_next control life) o)
    (promoted (promotion_next control life) from middle to (life ++ old))
