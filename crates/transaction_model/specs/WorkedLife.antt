-- A life, worked by hand: it begins with a running record that had overflowed, is ready once what that record missed
-- has ended, and then takes a snapshot while a subtransaction runs that is known by its parent alone.
use Rattle.std.specs.Prelude.{◌≡◌, ℕ, ◌+◌, Bool, true, false, ◌==◌, ◌||◌, List, [], ◌∷◌, if◌then◌else◌}
use Rattle.known_assigned.specs.declared.state.RunningHead.{RunningHead}
use Rattle.known_assigned.specs.declared.state.State.TheVariants.{Pending, Ready}
use Rattle.standby_snapshot.specs.Snapshot.{in_progress, take_of}
use Rattle.subtrans.specs.Parents.{topmost_of}
use Rattle.transaction_model.specs.Transactions.{Kind, Commit, Assignment, Running, Other, TransactionRecord, committed, state_of}
use Rattle.transaction_model.specs.LegalTransactions.{TransactionOrigin, Legal}
use Rattle.transaction_model.specs.StandbyStates.{Leads, StandbyState}

-- nothing has committed or aborted, 4 will be a subtransaction of 3, and 6 of 5
abbrev pub worked_origin : TransactionOrigin
worked_origin =
    record {
      at = record { is_committed = λ (x : ℕ). false; is_aborted = λ (x : ℕ). false };
      top = λ (x : ℕ). if x == 4 then 3 else if x == 6 then 5 else x;
    }

abbrev pub worked_head : ℕ → ℕ → ℕ → RunningHead
worked_head next oldest latest =
    record {
      overflow = true;
      tops = 1;
      next = record { 0 = next };
      oldest = record { 0 = oldest };
      latest = record { 0 = latest };
    }

abbrev pub at_place : ℕ → ℕ → Kind → TransactionRecord
at_place place xid kind = record { start = place; end = place + 1; xid = xid; kind = kind }

-- 3 and its subtransaction 4 run, of which the list has 3 alone; both commit
abbrev pub while_pending : List TransactionRecord
while_pending = at_place 1 3 (Commit (4 ∷ [])) ∷ at_place 0 0 (Running (worked_head 5 3 2) (3 ∷ [])) ∷ []

-- 5 runs, nothing below it does, and 6 is its subtransaction; 7 commits; 9 writes, so that 8 is assigned too
abbrev pub at_opening : List TransactionRecord
at_opening =
    at_place 5 9 Other
    ∷ at_place 4 7 (Commit [])
    ∷ at_place 3 5 (Assignment 5 (6 ∷ []))
    ∷ at_place 2 0 (Running (worked_head 6 5 4) (5 ∷ []))
    ∷ while_pending

-- 5 commits, and 6 with it
abbrev pub afterwards : List TransactionRecord
afterwards = at_place 6 5 (Commit (6 ∷ [])) ∷ at_opening

-- the commit log shows the bootstrap and the frozen id committed
abbrev pub worked_first : ℕ → Bool
worked_first x = x == 1 || x == 2

pub record IsWorkedLife : Type 0 where
  pub legal : Legal worked_origin afterwards
  pub pending : state_of while_pending ≡ Pending (record { 0 = 4 })
  pub ready : state_of at_opening ≡ Ready
  pub state : StandbyState
  pub leads : Leads worked_first at_opening state
  pub set : state.known.xids ≡ 5 ∷ 8 ∷ 9 ∷ []
  pub xmin : (take_of state.known).xmin ≡ 5
  pub missing : (take_of state.known).overflowed ≡ true
  pub runs : in_progress (take_of state.known) (topmost_of state.parents) 6 ≡ true
  pub not_yet : committed worked_origin.at 6 at_opening ≡ false
  pub commits : committed worked_origin.at 6 afterwards ≡ true
