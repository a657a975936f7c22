-- Each part of the rules on checkpoints is broken by one, at the log's begin, that keeps the other parts; 703 is a
-- subtransaction of 702.
-- Source: xlog.c (CreateCheckPoint).
use Rattle.std.specs.Prelude.{◌≡◌, ℕ, ◌≤◌, true, List, [], ◌∷◌}
use Rattle.transaction_model.specs.Transactions.{Online, Other, Shutdown, TransactionRecord}
use Rattle.transaction_model.specs.LegalTransactions.{IsNext, OnlineRule, ShutdownRule, SubsEnd, before, last_redo, starts_at}
use Rattle.worked_logs.specs.SecondLog.{second_ids}

-- a record at 4, and a shutdown checkpoint at 8 with this next id
abbrev pub shut : ℕ → List TransactionRecord
shut next = record { start = 8; end = 16; xid = 0; kind = Shutdown next } ∷ record { start = 4; end = 8; xid = 0; kind = Other } ∷ []

-- an online one at 16 behind the first
abbrev pub online : ℕ → ℕ → List TransactionRecord
online redo next = record { start = 16; end = 24; xid = 0; kind = Online redo next } ∷ shut 3

abbrev pub IsNextAt : ℕ → List TransactionRecord → Type 0
IsNextAt next log = IsNext second_ids.at next log

abbrev pub NoOnline : ℕ → ℕ → Type 0
NoOnline redo next = OnlineRule second_ids redo next (shut 3) (online redo next) → ⊥

-- its redo position is no record's start; is before that of the last checkpoint; its next id is not from 3 on
pub record OnlineParts : Type 0 where
  pub start : (last_redo (shut 3) ≤ 12) × IsNextAt 3 (before 12 (online 12 3)) × NoOnline 12 3
  pub order : (starts_at 4 (online 4 3) ≡ true) × IsNextAt 3 (before 4 (online 4 3)) × NoOnline 4 3
  pub next : (starts_at 16 (online 16 2) ≡ true) × (last_redo (shut 3) ≤ 16) × NoOnline 16 2

-- its next id is not from 3 on; 703 does not end with 702, its top transaction
pub record ShutdownParts : Type 0 where
  pub next : SubsEnd second_ids 2 (shut 2) × (ShutdownRule second_ids 2 (shut 2) → ⊥)
  pub subs : IsNextAt 703 (shut 703) × (ShutdownRule second_ids 703 (shut 703) → ⊥)

pub record CheckpointRulesBreak : Type 0 where
  pub online : OnlineParts
  pub shutdown : ShutdownParts
