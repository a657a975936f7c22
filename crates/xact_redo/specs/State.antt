-- What each record of the log does to a standby's state of transactions (PostgreSQL's xact.c, xact_redo;
-- standby.c, standby_redo; xlog.c, xlog_redo; xlogrecovery.c, ApplyWalRecord).
use Rattle.std.specs.Prelude.{◌≡◌, ℕ, ◌+◌, ◌^◌, ◌≤◌, ◌<◌, Bool, true, false, not, List, [], ◌∷◌, All, filter, length, if◌then◌else◌}
use Rattle.pg_types.specs.declared.names.Lsn.{Lsn}
use Rattle.pg_types.specs.declared.names.Xid.{Xid}
use Rattle.pg_types.specs.declared.status.Status.{Status}
use Rattle.pg_types.specs.declared.status.Status.TheVariants.{None as Unset, Committed, Aborted, Sub}
use Rattle.wal_record.specs.declared.types.RecordHead.{RecordHead}
use Rattle.typed_records.specs.declared.types.Rec.{Rec}
use Rattle.typed_records.specs.declared.types.RecKind.{RecKind}
use Rattle.typed_records.specs.declared.types.RecKind.TheVariants.{Assignment, Checkpoint, Ended, Multixact, Running}
use Rattle.wal_bodies.specs.Typed.{listed_in}
use Rattle.wal_bodies.specs.Xids.{record_xids}
use Rattle.commit_log.specs.Log.{changed_after, changed_at, initial_status, reserved_end, status_after, status_of}
use Rattle.subtrans.specs.declared.Pair.{Pair}
use Rattle.subtrans.specs.Parents.{from_sub}
use Rattle.multixact.specs.Made.{Made, none_made, with_multixact}
use Rattle.multixact.specs.Entries.{made_in}
use Rattle.known_assigned.specs.Ids.{greatest, numbers}
use Rattle.known_assigned.specs.Known.{Known, count_added, nothing_known}
use Rattle.transaction_model.specs.StandbyStates.{StandbyState, last_named, replay}
use Rattle.xact_redo.specs.declared.state.XactState.{XactState}
use Rattle.xact_redo.specs.TransactionsOf.{at_shutdown, is_commit, kind_of}

-- what contracts see of the state: the status of each transaction, the position at which a status on each page
-- of the commit log was set last, the parents of subtransactions, the multixacts that were made, and what is known of
-- running transactions
pub record TransactionState : Type 0 where
  pub statuses : ℕ → Status
  pub changed : ℕ → ℕ
  pub parents : List Pair
  pub updaters : Made
  pub known : Known

unfoldable pub transactions : XactState → TransactionState
transactions state = record {
  statuses = status_of state.log;
  changed = changed_at state.log;
  parents = state.subs.pairs;
  updaters = made_in state.multis.entries;
  known = state.known.known;
}

-- before the first record
unfoldable pub before_records : TransactionState
before_records = record {
  statuses = initial_status;
  changed = λ n. 0;
  parents = [];
  updaters = none_made;
  known = nothing_known;
}

-- what the rules of running transactions work on: what is known of them, with the parents of subtransactions
abbrev pub standby_of : TransactionState → StandbyState
standby_of s = record { known = s.known; parents = s.parents }

-- whether a status says that the transaction has ended; a sub-committed one does not
abbrev pub has_ended : Status → Bool
has_ended Unset = false
has_ended Committed = true
has_ended Aborted = true
has_ended Sub = false

-- whether the commit log shows a transaction ended
abbrev pub shows_ended : (ℕ → Status) → ℕ → Bool
shows_ended statuses x = has_ended (statuses x)

-- how a record ends its transaction
abbrev pub outcome_of : RecordHead → Status
outcome_of head = if is_commit head then Committed else Aborted

-- the statuses after a record: those that it ends have ended so (xact_redo_commit, xact_redo_abort)
abbrev pub statuses_after : RecordHead → RecKind → (ℕ → Status) → ℕ → Status
statuses_after head (Ended time xinfo xids files) before = status_after before (head.xid ∷ xids) (outcome_of head)
statuses_after head _ before = before

-- the positions at which a status on each page was set last, after a record that ends here
abbrev pub positions_after : RecordHead → RecKind → Lsn → (ℕ → ℕ) → ℕ → ℕ
positions_after head (Ended time xinfo xids files) end before = changed_after before (head.xid ∷ xids) end.0
positions_after head _ end before = before

-- the multixacts after a record: one more where it makes one (multixact_redo)
abbrev pub updaters_after : RecKind → Made → Made
updaters_after (Multixact id offset members) made = with_multixact id members made
updaters_after _ made = made

-- the state after a record: known ids and parents by the rules of running transactions, beside the commit log and the
-- multixacts
unfoldable pub state_after : Rec → TransactionState → TransactionState
state_after rec s =
    let standby = replay (shows_ended s.statuses) rec.head.xid.0 (kind_of rec.head rec.kind) (standby_of s) in
    record {
      statuses = statuses_after rec.head rec.kind s.statuses;
      changed = positions_after rec.head rec.kind rec.end s.changed;
      parents = standby.parents;
      updaters = updaters_after rec.kind s.updaters;
      known = standby.known;
    }

-- a record ends ids: a commit or an abort those that it names, a running record those below its oldest one, and a
-- shutdown checkpoint all of them
abbrev pub ends_ids : RecordHead → RecKind → Bool
ends_ids head (Ended time xinfo xids files) = true
ends_ids head (Running tops subs overflow next oldest latest xids) = true
ends_ids head (Checkpoint redo timeline previous writes next multi member oldest active) = at_shutdown head
ends_ids head _ = false

-- the parents of the subtransactions below a bound are forgotten (TruncateSUBTRANS, subtrans.c)
unfoldable pub forgetting : ℕ → TransactionState → TransactionState
forgetting bound s = record s { parents = from_sub s.parents bound }

-- the greatest id that a record names
abbrev pub last_named_in : RecordHead → RecKind → ℕ
last_named_in head kind = last_named head.xid.0 (kind_of head kind)

-- of these ids those that the commit log does not show ended
abbrev pub still_live : (ℕ → Status) → List ℕ → List ℕ
still_live statuses xids = filter (λ x. not (shows_ended statuses x)) xids

-- the greatest of these ids that the commit log shows ended, or 0
abbrev pub greatest_ended : (ℕ → Status) → List ℕ → ℕ
greatest_ended statuses xids = greatest (filter (shows_ended statuses) xids)

-- the ids whose status a record sets
abbrev pub ended_ids : RecordHead → RecKind → List Xid
ended_ids head (Ended time xinfo xids files) = head.xid ∷ xids
ended_ids head _ = []

-- the ids that a record lists as running
abbrev pub listed_running : RecKind → List Xid
listed_running (Running tops subs overflow next oldest latest xids) = xids
listed_running _ = []

-- the ids whose parent a record may tell
abbrev pub listed_assigned : RecKind → List Xid
listed_assigned (Assignment top xids) = xids
listed_assigned _ = []

-- how many multixacts a record makes
abbrev pub count_made : RecKind → ℕ
count_made (Multixact id offset members) = 1
count_made _ = 0

-- the room that a record needs: for the statuses that it sets, for the parents that it tells, for the multixact that it
-- makes, for the ids that it shows to run, and for those of a running record that have not ended, which are chosen
-- beforehand, with the greatest one that has; the subtransactions that it ends or assigns are kept
pub record HasRoom (rec : Rec) (state : XactState) : Type 0 where
  pub statuses : All (λ (x : Xid). x.0 < reserved_end state.log) (ended_ids rec.head rec.kind)
  pub live : numbers state.scratch ≡ still_live (status_of state.log) (numbers (listed_running rec.kind))
  pub ended : state.ended.0 ≡ greatest_ended (status_of state.log) (numbers (listed_running rec.kind))
  pub tree : state.tree ≡ listed_in rec.kind
  pub parents : length (listed_assigned rec.kind) ≤ state.subs.spare
  pub multixacts : count_made rec.kind ≤ state.multis.spare
  pub places :
      count_added state.known.known (last_named_in rec.head rec.kind) + length state.scratch ≤ state.known.spare

-- the ids of a record are so small that one more always fits
abbrev pub AreIdsInRange : Rec → Type 0
AreIdsInRange rec = All (λ (x : Xid). x.0 ≤ 2 ^ 63 + 2 ^ 32) (record_xids rec.head rec.kind)
