-- The state of a standby's transactions along its life, by the rules of known assigned ids and of parents
-- (PostgreSQL's xlogrecovery.c, ApplyWalRecord; xact.c, xact_redo; standby.c, standby_redo; xlog.c, xlog_redo).
use Rattle.std.specs.Prelude.{◌≡◌, ℕ, ◌≤◌, Bool, true, ◌||◌, not, List, [], ◌∷◌, ◌++◌, filter, nat_lt, if◌then◌else◌}
use Rattle.known_assigned.specs.Ids.{greatest, is_among}
use Rattle.known_assigned.specs.Known.{Known, after_assign, after_end, after_observe, after_running, after_shutdown, nothing_known}
use Rattle.subtrans.specs.declared.Pair.{Pair}
use Rattle.subtrans.specs.Parents.{from_sub, with_parent}
use Rattle.transaction_model.specs.Transactions.{Abort, Assignment, Commit, Kind, Online, Other, Running, Shutdown, TransactionRecord, finishes}

-- an assignment gives each of its ids above the top transaction that parent
unfoldable pub set_parents : ℕ → List ℕ → List Pair → List Pair
set_parents top [] pairs = pairs
set_parents top (x ∷ subs) pairs =
    set_parents top subs (if nat_lt top x then with_parent pairs (record { sub = x; parent = top }) else pairs)

-- the state: the known ids, and the known parents of subtransactions in rising order
pub record StandbyState : Type 0 where
  pub known : Known
  pub parents : List Pair

-- a life begins with none
abbrev pub at_start : StandbyState
at_start = record { known = nothing_known; parents = [] }

-- the greatest id that a record names, in its header, as ended or as assigned: 0 is no id, and none is named by it
abbrev pub last_named : ℕ → Kind → ℕ
last_named xid (Commit subs) = greatest (xid ∷ subs)
last_named xid (Abort subs) = greatest (xid ∷ subs)
last_named xid (Assignment top subs) = greatest (xid ∷ top ∷ subs)
last_named xid (Running head xids) = xid
last_named xid (Shutdown next) = xid
last_named xid (Online redo next) = xid
last_named xid Other = xid

-- what a record does beyond the observation of the ids that it names, beside a commit log that shows these ids ended
abbrev pub effect : (ℕ → Bool) → ℕ → Kind → StandbyState → StandbyState
effect shows xid (Commit subs) k = record k { known = after_end k.known (xid ∷ subs) }
effect shows xid (Abort subs) k = record k { known = after_end k.known (xid ∷ subs) }
effect shows xid (Assignment top subs) k =
    record { known = after_assign k.known top subs; parents = set_parents top subs k.parents }
effect shows xid (Running head xids) k =
    record k { known = after_running k.known head (filter (λ x. not (shows x)) xids) (greatest (filter shows xids)) }
effect shows xid (Shutdown next) k = record k { known = after_shutdown k.known next }
effect shows xid (Online redo next) k = k
effect shows xid Other k = k

-- what a record does to the state: the ids that it names, of whatever kind it is, are observed first (ApplyWalRecord)
abbrev pub replay : (ℕ → Bool) → ℕ → Kind → StandbyState → StandbyState
replay shows xid kind k = effect shows xid kind (record k { known = after_observe k.known (last_named xid kind) })

-- what the commit log shows ended after a life's records, beside what it showed as the life began
unfoldable pub shown : (ℕ → Bool) → List TransactionRecord → ℕ → Bool
shown first [] x = first x
shown first (r ∷ life) x = finishes x r.xid r.kind || shown first life x

-- parents below a bound may be forgotten where no known id is below it
abbrev pub MayForget : ℕ → StandbyState → Type 0
MayForget bound k = (x : ℕ) → is_among x k.known.xids ≡ true → bound ≤ x

abbrev pub forget_below : ℕ → StandbyState → StandbyState
forget_below bound k = record k { parents = from_sub k.parents bound }

-- a life's records lead to this state: after each, parents below a bound may be forgotten (0: none)
abbrev pub Leads : (ℕ → Bool) → List TransactionRecord → StandbyState → Type 0
Leads first [] k = k ≡ at_start
Leads first (r ∷ life) k =
    (was : StandbyState) × (bound : ℕ) × Leads first life was × MayForget bound (replay (shown first life) r.xid r.kind was)
    × (k ≡ forget_below bound (replay (shown first life) r.xid r.kind was))

-- further records lead from one state to another, with an open snapshot of this xmin, whose parents are kept
abbrev pub LeadsOn : (ℕ → Bool) → List TransactionRecord → StandbyState → ℕ → List TransactionRecord → StandbyState → Type 0
LeadsOn first life k xmin [] now = now ≡ k
LeadsOn first life k xmin (r ∷ more) now =
    (was : StandbyState) × (bound : ℕ) × LeadsOn first life k xmin more was
    × MayForget bound (replay (shown first (more ++ life)) r.xid r.kind was) × (bound ≤ xmin)
    × (now ≡ forget_below bound (replay (shown first (more ++ life)) r.xid r.kind was))
