-- What a promotion adds to the log of transactions: an end-of-recovery record, and a running record without ids.
-- Sources: xlog.c (CreateEndOfRecoveryRecord), standby.c (LogStandbySnapshot).
use Rattle.std.specs.Prelude.{ℕ, ◌+◌, ◌-◌, max, false, List, [], ◌∷◌, nat_le, if◌then◌else◌}
use Rattle.known_assigned.specs.Ids.{greatest}
use Rattle.transaction_model.specs.Transactions.{Kind, Commit, Abort, Assignment, Running, Shutdown, Online, Other, TransactionRecord}
use Rattle.transaction_model.specs.LegalTransactions.{TransactionOrigin}

-- one past each id that a record names, and the next id of a running record or a checkpoint
abbrev pub next_past : ℕ → Kind → ℕ
next_past xid (Commit subs) = greatest (xid ∷ subs) + 1
next_past xid (Abort subs) = greatest (xid ∷ subs) + 1
next_past xid (Assignment top subs) = greatest (xid ∷ subs) + 1
next_past xid (Running head xids) = max (xid + 1) head.next.0
next_past xid (Shutdown next) = max (xid + 1) next
next_past xid (Online redo next) = max (xid + 1) next
next_past xid Other = xid + 1

-- the next id that a promotion's running record bears: the greatest of the control's, and of those of the life
unfoldable pub promotion_next : ℕ → List TransactionRecord → ℕ
promotion_next control [] = control
promotion_next control (r ∷ life) = max (next_past r.xid r.kind) (promotion_next control life)

-- an end-of-recovery record, and a running record by which each id below the next one has ended
abbrev pub nothing_runs : ℕ → Kind
nothing_runs next =
    Running
    (record {
      overflow = false;
      tops = 0;
      next = record { 0 = next };
      oldest = record { 0 = next };
      latest = record { 0 = next - 1 };
    })
    []

abbrev pub promoted : ℕ → ℕ → ℕ → ℕ → List TransactionRecord → List TransactionRecord
promoted next from middle to log =
    record { start = middle; end = to; xid = 0; kind = nothing_runs next }
    ∷ record { start = from; end = middle; xid = 0; kind = Other }
    ∷ log

-- the ids from the next one on are assigned anew: none of them is a subtransaction yet
abbrev pub assigned_anew : ℕ → TransactionOrigin → TransactionOrigin
assigned_anew next o = record o { top = λ (x : ℕ). if nat_le next x then x else o.top x }
