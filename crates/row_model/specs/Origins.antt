-- Where a log begins, and what is known of transactions after a log that begins there.
-- Sources: xlogrecovery.c (InitWalRecovery), access/transam/README.
use Rattle.std.specs.Prelude.{◌≡◌, ℕ, Bool, true, false, List, []}
use Rattle.pg_types.specs.declared.names.Locator.{Locator}
use Rattle.typed_records.specs.declared.types.Rec.{Rec}
use Rattle.page_store.specs.Seen.{Seen, absent}
use Rattle.transaction_model.specs.Transactions.{Live, committed, ended}
use Rattle.transaction_model.specs.LegalTransactions.{TransactionOrigin}
use Rattle.xact_redo.specs.TransactionsOf.{transactions_of}
use Rattle.row_model.specs.Versions.{Version}

-- a table where a log begins: its oid, by which locks name it, the versions of its rows, how many blocks it has, and these
-- blocks
pub record TableOrigin : Type 0 where
  pub oid : ℕ
  pub versions : List Version
  pub count : ℕ
  pub blocks : ℕ → Seen

abbrev pub empty_table : ℕ → TableOrigin
empty_table oid = record { oid = oid; versions = []; count = 0; blocks = λ (block : ℕ). absent }

-- where a log begins, which is the redo position of a base backup: the statuses of transactions and their tree, and
-- each table by its file
pub record LogOrigin : Type 0 where
  pub transactions : TransactionOrigin
  pub tables : Locator → TableOrigin

-- each table is empty there, and no transaction has a status
pub record BeginsEmpty (o : LogOrigin) : Type 0 where
  pub tables : (table : Locator) → o.tables table ≡ empty_table (o.tables table).oid
  pub none_committed : (x : ℕ) → o.transactions.at.is_committed x ≡ false
  pub none_aborted : (x : ℕ) → o.transactions.at.is_aborted x ≡ false

-- a transaction has committed
abbrev pub committed_in : LogOrigin → List Rec → ℕ → Bool
committed_in o log x = committed o.transactions.at x (transactions_of log)

-- it is live: an id from 3 on that has not ended
abbrev pub IsLive : LogOrigin → List Rec → ℕ → Type 0
IsLive o log x = Live o.transactions.at x (transactions_of log)

-- it has ended, and not by a commit
pub record HasFailed (o : LogOrigin) (log : List Rec) (x : ℕ) : Type 0 where
  pub has_ended : ended o.transactions.at x (transactions_of log) ≡ true
  pub not_committed : committed_in o log x ≡ false

-- one is the other, or both have one top transaction
abbrev pub IsSameTree : LogOrigin → ℕ → ℕ → Type 0
IsSameTree o x y = o.transactions.top x ≡ o.transactions.top y
