-- What a primary keeps to when it writes of transactions, record by record. A later part of the product adds
-- clauses on tables, locks and timelines beside these.
-- Sources: xact.c (RecordTransactionCommit, RecordTransactionAbort, AssignTransactionId), procarray.c
-- (GetRunningTransactionData), xlog.c (CreateCheckPoint), varsup.c (GetNewTransactionId).
use Rattle.std.specs.Prelude.{◌≡◌, ℕ, ◌<◌, ◌≤◌, max, Bool, true, false, ◌==◌, ◌||◌, ◌≢◌, List, [], ◌∷◌, nat_lt, if◌then◌else◌}
use Rattle.known_assigned.specs.declared.state.RunningHead.{RunningHead}
use Rattle.known_assigned.specs.Ids.{is_among}
use Rattle.known_assigned.specs.Known.{overflows}
use Rattle.transaction_model.specs.Transactions.{Kind, Commit, Abort, Assignment, Running, Shutdown, Online, Other, TransactionRecord, Statuses, committed, finished, ended, Live, named}

-- where a log begins: the statuses there, and the top transaction of each id, which is its own where it is none's
-- subtransaction
pub record TransactionOrigin : Type 0 where
  pub at : Statuses
  pub top : ℕ → ℕ

-- the map leads from a subtransaction to its top transaction, whose id is the lower; at the origin the top
-- transaction of a live subtransaction is live, and that of a committed one committed
pub record TransactionOriginRule (o : TransactionOrigin) : Type 0 where
  pub top_of_top : (x : ℕ) → o.top (o.top x) ≡ o.top x
  pub top_first : (x : ℕ) → o.top x ≤ x
  pub top_live : (x : ℕ) → Live o.at x [] → Live o.at (o.top x) []
  pub top_committed : (x : ℕ) → 3 ≤ x → committed o.at x [] ≡ true → committed o.at (o.top x) [] ≡ true
  pub zero_not_committed : committed o.at 0 [] ≡ false

-- the greatest next id of the running records
abbrev pub next_in : Kind → ℕ
next_in (Running head xids) = head.next.0
next_in (Commit subs) = 0
next_in (Abort subs) = 0
next_in (Assignment top subs) = 0
next_in (Shutdown next) = 0
next_in (Online redo next) = 0
next_in Other = 0

unfoldable pub greatest_next : List TransactionRecord → ℕ
greatest_next [] = 0
greatest_next (r ∷ older) = max (next_in r.kind) (greatest_next older)

-- an id that had not been assigned: it and those above it were not seen, no running record had a greater one as its
-- next, and none has ended
pub record IsNext (s : Statuses) (next : ℕ) (log : List TransactionRecord) : Type 0 where
  pub normal : 3 ≤ next
  pub above_seen : (x : ℕ) → named x log ≡ true → x < next
  pub not_below : greatest_next log ≤ next
  pub none_ended : (x : ℕ) → next ≤ x → ended s x log ≡ false

-- these are subtransactions of that top transaction
abbrev pub AreSubsOf : TransactionOrigin → ℕ → List ℕ → Type 0
AreSubsOf o top subs = (x : ℕ) → is_among x subs ≡ true → (o.top x ≡ top) × (top < x)

-- a commit or an abort names live ids
abbrev pub NamesLive : TransactionOrigin → ℕ → List ℕ → List TransactionRecord → Type 0
NamesLive o xid subs older = (x : ℕ) → is_among x (xid ∷ subs) ≡ true → Live o.at x older

-- that of a top transaction names all its live subtransactions
abbrev pub NamesAllOf : TransactionOrigin → ℕ → List ℕ → List TransactionRecord → Type 0
NamesAllOf o xid subs older =
    o.top xid ≡ xid → (x : ℕ) → Live o.at x older → o.top x ≡ xid → is_among x (xid ∷ subs) ≡ true

-- a commit is a top transaction's
pub record CommitRule (o : TransactionOrigin) (xid : ℕ) (subs : List ℕ) (older : List TransactionRecord) : Type 0 where
  pub is_top : o.top xid ≡ xid
  pub live : NamesLive o xid subs older
  pub are_subs : AreSubsOf o xid subs
  pub all : NamesAllOf o xid subs older

-- an abort is also a subtransaction's, and then lists others of its top transaction
pub record AbortRule (o : TransactionOrigin) (xid : ℕ) (subs : List ℕ) (older : List TransactionRecord) : Type 0 where
  pub live : NamesLive o xid subs older
  pub are_subs : AreSubsOf o (o.top xid) subs
  pub all : NamesAllOf o xid subs older

pub record AssignmentRule (o : TransactionOrigin) (top : ℕ) (subs : List ℕ) : Type 0 where
  pub some : subs ≢ []
  pub are_subs : AreSubsOf o top subs

-- a subtransaction is not live after a record that ends its top transaction
abbrev pub SubsEnd : TransactionOrigin → ℕ → List TransactionRecord → Type 0
SubsEnd o low now = (x : ℕ) → o.top x < low → ended o.at x now ≡ true

-- x is from a running record's oldest id up to below its next one
pub record IsSpanned (head : RunningHead) (x : ℕ) : Type 0 where
  pub from_oldest : head.oldest.0 ≤ x
  pub below_next : x < head.next.0

-- a running record lists each live top transaction and, unless its list had overflowed, each live subtransaction
-- between its oldest and its next id; besides them only ids that committed or aborted. Its latest completed id has
-- ended, and where no subtransaction is missing each one that ended after it is listed
pub record RunningRule (o : TransactionOrigin) (head : RunningHead) (xids : List ℕ) (now : List TransactionRecord) : Type 0 where
  pub is_next : IsNext o.at head.next.0 now
  pub tops : (x : ℕ) → IsSpanned head x → Live o.at x now → o.top x ≡ x → is_among x xids ≡ true
  pub subs : (x : ℕ) → IsSpanned head x → Live o.at x now → head.overflow ≡ false → is_among x xids ≡ true
  pub no_tops : (x : ℕ) → head.tops ≡ 0 → is_among x xids ≡ true → Live o.at x now → o.top x < x
  pub spanned : (x : ℕ) → is_among x xids ≡ true → IsSpanned head x
  pub normal : (x : ℕ) → is_among x xids ≡ true → 3 ≤ x
  pub listed : (x : ℕ) → is_among x xids ≡ true → ended o.at x now ≡ true → finished o.at x now ≡ true
  pub subs_end : SubsEnd o head.oldest.0 now
  pub latest : ended o.at head.latest.0 now ≡ true
  pub after_latest :
      (x : ℕ) → overflows head ≡ false → head.latest.0 < x → x < head.next.0 → ended o.at x now ≡ true
      → is_among x xids ≡ true

-- a shutdown checkpoint's next id had not been assigned: its own header names none from there on, as the checkpointer
-- runs no transaction (xlog.c, CreateCheckPoint)
pub record ShutdownRule (o : TransactionOrigin) (next : ℕ) (now : List TransactionRecord) : Type 0 where
  pub is_next : IsNext o.at next now
  pub subs_end : SubsEnd o next now

-- the log before a position
unfoldable pub before : ℕ → List TransactionRecord → List TransactionRecord
before at [] = []
before at (r ∷ older) = if nat_lt r.start at then r ∷ older else before at older

-- a record starts at a position
unfoldable pub starts_at : ℕ → List TransactionRecord → Bool
starts_at at [] = false
starts_at at (r ∷ older) = r.start == at || starts_at at older

-- the redo position of the last checkpoint: a shutdown checkpoint's is its own start
abbrev pub redo_in : Kind → ℕ → ℕ → ℕ
redo_in (Online redo next) start older = redo
redo_in (Shutdown next) start older = start
redo_in (Commit subs) start older = older
redo_in (Abort subs) start older = older
redo_in (Assignment top subs) start older = older
redo_in (Running head xids) start older = older
redo_in Other start older = older

unfoldable pub last_redo : List TransactionRecord → ℕ
last_redo [] = 0
last_redo (r ∷ older) = redo_in r.kind r.start (last_redo older)

-- an online checkpoint's redo is the start of a record up to it, not before that of the last checkpoint, and its
-- next id had not been assigned there
pub record OnlineRule (o : TransactionOrigin) (redo next : ℕ) (older now : List TransactionRecord) : Type 0 where
  pub is_start : starts_at redo now ≡ true
  pub not_before : last_redo older ≤ redo
  pub is_next : IsNext o.at next (before redo now)

-- what a record keeps to, beside the older records and the log with it
abbrev pub RuleOf : TransactionOrigin → ℕ → Kind → List TransactionRecord → List TransactionRecord → Type 0
RuleOf o xid (Commit subs) older now = CommitRule o xid subs older
RuleOf o xid (Abort subs) older now = AbortRule o xid subs older
RuleOf o xid (Assignment top subs) older now = AssignmentRule o top subs
RuleOf o xid (Running head xids) older now = RunningRule o head xids now
RuleOf o xid (Shutdown next) older now = ShutdownRule o next now
RuleOf o xid (Online redo next) older now = OnlineRule o redo next older now
RuleOf o xid Other older now = Unit {0}

-- a log, the newest record first, that keeps to the rules of transactions from its origin on
unfoldable pub Legal : TransactionOrigin → List TransactionRecord → Type 0
Legal o [] = TransactionOriginRule o
Legal o (r ∷ older) = RuleOf o r.xid r.kind older (r ∷ older) × Legal o older
