-- Transactions along the log: which records end them, which are committed, ended or live at a position, what a
-- standby knows of the running ones there, and the xmin of a snapshot taken there.
-- Sources: xact.c (xact_redo), access/transam/README, procarray.c (ProcArrayApplyRecoveryInfo, GetSnapshotData).
use Rattle.std.specs.Prelude.{◌≡◌, ℕ, ◌-◌, ◌≤◌, Bool, true, false, ◌==◌, ◌||◌, not, List, [], ◌∷◌, nat_lt, nat_le, Option, Some, None, unwrap_or, if◌then◌else◌}
use Rattle.known_assigned.specs.declared.state.RunningHead.{RunningHead}
use Rattle.known_assigned.specs.declared.state.State.{State}
use Rattle.known_assigned.specs.declared.state.State.TheVariants.{Initialized, Pending, Ready}
use Rattle.known_assigned.specs.Ids.{is_among}
use Rattle.known_assigned.specs.Known.{overflows}

-- what a record says of transactions: a commit or an abort of its own id with these subtransactions; subtransactions
-- assigned to a top transaction; the running transactions; a shutdown checkpoint with the next id; an online one
-- with its redo position and the next id there; nothing
pub data Kind : Type 0 where
  Commit : List ℕ → Kind
  Abort : List ℕ → Kind
  Assignment : ℕ → List ℕ → Kind
  Running : RunningHead → List ℕ → Kind
  Shutdown : ℕ → Kind
  Online : ℕ → ℕ → Kind
  Other : Kind

-- a record of the log: where it starts and ends, the transaction id of its header (0: none), and its kind
pub record TransactionRecord : Type 0 where
  pub start : ℕ
  pub end : ℕ
  pub xid : ℕ
  pub kind : Kind

-- the statuses of transaction ids at the log's origin
pub record Statuses : Type 0 where
  pub is_committed : ℕ → Bool
  pub is_aborted : ℕ → Bool

-- a commit or abort names its own id and those of its list
abbrev pub is_named : ℕ → List ℕ → ℕ → Bool
is_named xid subs x = is_among x (xid ∷ subs)

abbrev pub commits : ℕ → ℕ → Kind → Bool
commits x xid (Commit subs) = is_named xid subs x
commits x xid (Abort subs) = false
commits x xid (Assignment top subs) = false
commits x xid (Running head xids) = false
commits x xid (Shutdown next) = false
commits x xid (Online redo next) = false
commits x xid Other = false

abbrev pub finishes : ℕ → ℕ → Kind → Bool
finishes x xid (Commit subs) = is_named xid subs x
finishes x xid (Abort subs) = is_named xid subs x
finishes x xid (Assignment top subs) = false
finishes x xid (Running head xids) = false
finishes x xid (Shutdown next) = false
finishes x xid (Online redo next) = false
finishes x xid Other = false

-- a running record abandons each id below its oldest one, a shutdown checkpoint each below its next one
abbrev pub ends : ℕ → ℕ → Kind → Bool
ends x xid (Commit subs) = is_named xid subs x
ends x xid (Abort subs) = is_named xid subs x
ends x xid (Assignment top subs) = false
ends x xid (Running head xids) = nat_lt x head.oldest.0
ends x xid (Shutdown next) = nat_lt x next
ends x xid (Online redo next) = false
ends x xid Other = false

-- committed along the log, the newest record first: a commit names it, or it was at the origin, or it is the
-- bootstrap or the frozen id (TransactionIdDidCommit, transam.c)
unfoldable pub committed : Statuses → ℕ → List TransactionRecord → Bool
committed s x [] = (x == 1 || x == 2) || s.is_committed x
committed s x (r ∷ older) = commits x r.xid r.kind || committed s x older

-- committed or aborted
unfoldable pub finished : Statuses → ℕ → List TransactionRecord → Bool
finished s x [] = ((x == 1 || x == 2) || s.is_committed x) || s.is_aborted x
finished s x (r ∷ older) = finishes x r.xid r.kind || finished s x older

-- committed, aborted or abandoned
unfoldable pub ended : Statuses → ℕ → List TransactionRecord → Bool
ended s x [] = ((x == 1 || x == 2) || s.is_committed x) || s.is_aborted x
ended s x (r ∷ older) = ends x r.xid r.kind || ended s x older

-- a normal transaction id (from FirstNormalTransactionId, transam.h) that has not ended
pub record Live (s : Statuses) (x : ℕ) (log : List TransactionRecord) : Type 0 where
  pub normal : 3 ≤ x
  pub not_ended : ended s x log ≡ false

-- a record names an id in its header, or in its commit, abort or assignment list
abbrev pub names : ℕ → ℕ → Kind → Bool
names x xid (Commit subs) = is_named xid subs x
names x xid (Abort subs) = is_named xid subs x
names x xid (Assignment top subs) = is_named xid subs x
names x xid (Running head xids) = xid == x
names x xid (Shutdown next) = xid == x
names x xid (Online redo next) = xid == x
names x xid Other = xid == x

unfoldable pub named : ℕ → List TransactionRecord → Bool
named x [] = false
named x (r ∷ older) = names x r.xid r.kind || named x older

-- the next id of the first running record
abbrev pub first_or : Kind → Option ℕ → Option ℕ
first_or (Running head xids) first = Some (unwrap_or first head.next.0)
first_or (Commit subs) first = first
first_or (Abort subs) first = first
first_or (Assignment top subs) first = first
first_or (Shutdown next) first = first
first_or (Online redo next) first = first
first_or Other first = first

unfoldable pub first_next : List TransactionRecord → Option ℕ
first_next [] = None
first_next (r ∷ life) = first_or r.kind (first_next life)

-- all is known after a shutdown checkpoint, a running record that misses no subtransaction, or one whose oldest id
-- has reached the next id of the first running record
abbrev pub reaches : Option ℕ → ℕ → Bool
reaches None oldest = false
reaches (Some n) oldest = nat_le n oldest

abbrev pub settles : Option ℕ → Kind → Bool
settles first (Running head xids) = not (overflows head) || reaches first head.oldest.0
settles first (Shutdown next) = true
settles first (Commit subs) = false
settles first (Abort subs) = false
settles first (Assignment top subs) = false
settles first (Online redo next) = false
settles first Other = false

unfoldable pub is_settled : List TransactionRecord → Bool
is_settled [] = false
is_settled (r ∷ life) = settles (first_next life) r.kind || is_settled life

-- what a standby knows of the running transactions after a life's records: all, or what the first running record
-- knew, which misses subtransactions up to the id before its next one, or nothing (STANDBY_SNAPSHOT_READY,
-- STANDBY_SNAPSHOT_PENDING and STANDBY_INITIALIZED, xlogutils.h)
abbrev pub unsettled : Option ℕ → State
unsettled None = Initialized
unsettled (Some n) = Pending (record { 0 = n - 1 })

unfoldable pub state_of : List TransactionRecord → State
state_of life = if is_settled life then Ready else unsettled (first_next life)

-- the xmin of a snapshot: the least live id (GetSnapshotData)
pub record IsXmin (s : Statuses) (xmin : ℕ) (log : List TransactionRecord) : Type 0 where
  pub live : Live s xmin log
  pub least : (x : ℕ) → Live s x log → xmin ≤ x
