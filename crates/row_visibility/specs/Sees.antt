-- What a standby's snapshot and commit log say after a legal log.
use Rattle.std.specs.Prelude.{◌≡◌, ℕ, ◌≤◌, true, false, List, [], ◌∷◌, ◌++◌, Ok}
use Rattle.typed_records.specs.declared.types.Rec.{Rec}
use Rattle.known_assigned.specs.declared.state.State.TheVariants.{Ready}
use Rattle.standby_snapshot.specs.Snapshot.{take_of, xmin_of}
use Rattle.xact_redo.specs.Sees.{sees, sees_by}
use Rattle.xact_redo.specs.State.{TransactionState, before_records, forgetting, standby_of, state_after}
use Rattle.transaction_model.specs.Transactions.{Statuses, IsXmin, state_of}
use Rattle.transaction_model.specs.LegalTransactions.{Legal, TransactionOrigin}
use Rattle.transaction_model.specs.StandbyStates.{MayForget}
use Rattle.xact_redo.specs.TransactionsOf.{transactions_of}
use Rattle.row_model.specs.Versions.{Version}
use Rattle.row_model.specs.Rows.{counts, is_row}
use Rattle.row_model.specs.Origins.{LogOrigin, committed_in}
use Rattle.row_model.specs.Multixacts.{multixacts}
use Rattle.row_model.specs.Shows.{Shows}
use Rattle.row_model.specs.Shown.{IsSound}

-- what a standby knows of transactions after a log, the newest record first, that forgets no parent
unfoldable pub state_along : List Rec → TransactionState
state_along [] = before_records
state_along (rec ∷ older) = state_after rec (state_along older)

-- a standby may know this of transactions after a log: after each record parents below a bound may be forgotten, where no
-- id that is known to run is below it (0: none)
abbrev pub IsAlong : List Rec → TransactionState → Type 0
IsAlong [] state = state ≡ before_records
IsAlong (rec ∷ older) state =
    (was : TransactionState) × (bound : ℕ) × IsAlong older was × MayForget bound (standby_of (state_after rec was))
    × (state ≡ forgetting bound (state_after rec was))

-- and this after further records, while a snapshot of this xmin is open, whose parents are kept
abbrev pub IsAlongFrom : TransactionState → ℕ → List Rec → TransactionState → Type 0
IsAlongFrom opened xmin [] now = now ≡ opened
IsAlongFrom opened xmin (rec ∷ later) now =
    (was : TransactionState) × (bound : ℕ) × IsAlongFrom opened xmin later was
    × MayForget bound (standby_of (state_after rec was)) × (bound ≤ xmin)
    × (now ≡ forgetting bound (state_after rec was))

-- at the log's origin no transaction has a status
abbrev pub HasNoStatuses : Statuses → Type 0
HasNoStatuses s = (x : ℕ) → (s.is_committed x ≡ false) × (s.is_aborted x ≡ false)

-- a standby may forget none
abbrev pub AllKept : Type 0
AllKept = (log : List Rec) → IsAlong log (state_along log)

-- no id that is known to run after a record is below the xmin that a snapshot has then
abbrev pub NoneBelowXmin : Type 0
NoneBelowXmin =
    (log : List Rec) (rec : Rec) (state : TransactionState) → IsAlong log state
    → MayForget (xmin_of (state_after rec state).known) (standby_of (state_after rec state))

-- the state of the rules is that of the log
abbrev pub StateAlong : Type 0
StateAlong =
    (o : TransactionOrigin) (log : List Rec) (state : TransactionState) → Legal o (transactions_of log) → IsAlong log state
    → state.known.mode ≡ state_of (transactions_of log)

-- the xmin of a snapshot is the least live id
abbrev pub XminAlong : Type 0
XminAlong =
    (o : TransactionOrigin) (log : List Rec) (state : TransactionState) → HasNoStatuses o.at → Legal o (transactions_of log)
    → IsAlong log state → state.known.mode ≡ Ready
    → IsXmin o.at (take_of state.known).xmin (transactions_of log)

-- a snapshot sees exactly the tuples whose versions are rows
abbrev pub SeesRows : Type 0
SeesRows =
    (o : LogOrigin) (log : List Rec) (state : TransactionState) → HasNoStatuses o.transactions.at
    → Legal o.transactions (transactions_of log) → IsAlong log state → state.known.mode ≡ Ready
    → (v : Version) (tuple : List ℕ) → Shows o log v tuple → IsSound o log v
    → sees state tuple ≡ Ok (is_row (multixacts log) (committed_in o log) v)

-- a snapshot that was taken earlier sees exactly the tuples whose versions are rows by what was committed then, where the
-- inserter of one that is marked frozen counted then; a multixact that shows a deleter of then may have been made later
abbrev pub SeesOpened : Type 0
SeesOpened =
    (o : LogOrigin) (later opened : List Rec) (was now : TransactionState) → HasNoStatuses o.transactions.at
    → Legal o.transactions (transactions_of (later ++ opened)) → IsAlong opened was → was.known.mode ≡ Ready
    → IsAlongFrom was (take_of was.known).xmin later now
    → (v : Version) (tuple : List ℕ) → Shows o (later ++ opened) v tuple → IsSound o (later ++ opened) v
    → (v.frozen ≡ true → counts (committed_in o opened) v.inserter ≡ true)
    → sees_by (take_of was.known) now tuple ≡ Ok (is_row (multixacts (later ++ opened)) (committed_in o opened) v)
