-- Fields of a record's main data and of a block's data.
use Rattle.std.specs.Prelude.{ℕ, zero, suc, ◌+◌, ◌*◌, List, [], ◌∷◌, slice_index}
use Rattle.std.specs.List.{range_with_len}
use Rattle.pg_types.specs.Numbers.{number_at}
use Rattle.pg_types.specs.declared.names.Lsn.{Lsn}
use Rattle.pg_types.specs.declared.names.Tli.{Tli}
use Rattle.pg_types.specs.declared.names.Xid.{Xid}
use Rattle.pg_types.specs.declared.names.Locator.{Locator}
use Rattle.record_fields.specs.declared.entries.Redirect.{Redirect}
use Rattle.record_fields.specs.declared.entries.FreezePlan.{FreezePlan}
use Rattle.record_fields.specs.declared.entries.LockEntry.{LockEntry}
use Rattle.record_fields.specs.declared.members.Member.{Member}

-- a position of eight bytes (XLogRecPtr)
abbrev pub lsn_at : List ℕ → ℕ → Lsn
lsn_at text at = record { 0 = number_at 8 text at }

-- a timeline of four bytes (TimeLineID)
abbrev pub tli_at : List ℕ → ℕ → Tli
tli_at text at = record { 0 = number_at 4 text at }

-- a transaction id of four bytes (TransactionId)
abbrev pub xid_at : List ℕ → ℕ → Xid
xid_at text at = record { 0 = number_at 4 text at }

-- n transaction ids that stand one after another
unfoldable pub xids_at : List ℕ → ℕ → ℕ → List Xid
xids_at text at zero = []
xids_at text at (suc n) = xid_at text at ∷ xids_at text (at + 4) n

-- n lines of two bytes (OffsetNumber) that stand one after another
unfoldable pub lines_at : List ℕ → ℕ → ℕ → List ℕ
lines_at text at zero = []
lines_at text at (suc n) = number_at 2 text at ∷ lines_at text (at + 2) n

-- the first n lines, which are numbered from 1
unfoldable pub first_lines : ℕ → List ℕ
first_lines n = range_with_len 1 n

-- n lines that lead to others, each of two times two bytes (xl_heap_prune, heapam_xlog.h)
unfoldable pub redirects_at : List ℕ → ℕ → ℕ → List Redirect
redirects_at text at zero = []
redirects_at text at (suc n) =
    record { from = number_at 2 text at; to = number_at 2 text (at + 2) } ∷ redirects_at text (at + 4) n

-- a file of three times four bytes (RelFileLocator)
abbrev pub locator_at : List ℕ → ℕ → Locator
locator_at text at =
    record { space = number_at 4 text at; db = number_at 4 text (at + 4); rel = number_at 4 text (at + 8) }

-- n files that stand one after another
unfoldable pub locators_at : List ℕ → ℕ → ℕ → List Locator
locators_at text at zero = []
locators_at text at (suc n) = locator_at text at ∷ locators_at text (at + 12) n

-- n locks of three times four bytes (xl_standby_lock, lockdefs.h)
unfoldable pub lock_entries_at : List ℕ → ℕ → ℕ → List LockEntry
lock_entries_at text at zero = []
lock_entries_at text at (suc n) =
    record { xid = xid_at text at; database = number_at 4 text (at + 4); relation = number_at 4 text (at + 8) }
    ∷ lock_entries_at text (at + 12) n

-- n members of two times four bytes (MultiXactMember, multixact.h)
unfoldable pub members_at : List ℕ → ℕ → ℕ → List Member
members_at text at zero = []
members_at text at (suc n) =
    record { xid = xid_at text at; status = number_at 4 text (at + 4) } ∷ members_at text (at + 8) n

-- how many lines the plan has that stands at this place
abbrev pub plan_count_at : List ℕ → ℕ → ℕ
plan_count_at text at = number_at 2 text (at + 10)

-- n plans of 12 bytes each (xl_heap_freeze_plan, heapam_xlog.h), whose lines stand from another place on, plan by plan
unfoldable pub plans_at : List ℕ → ℕ → ℕ → ℕ → List FreezePlan
plans_at text at lines zero = []
plans_at text at lines (suc n) =
    record {
      xmax = xid_at text at;
      mask2 = number_at 2 text (at + 4);
      mask = number_at 2 text (at + 6);
      flags = slice_index text (at + 8);
      lines = lines_at text lines (plan_count_at text at);
    }
    ∷ plans_at text (at + 12) (lines + 2 * plan_count_at text at) n

-- how many lines these n plans have together
unfoldable pub planned_lines : List ℕ → ℕ → ℕ → ℕ
planned_lines text at zero = 0
planned_lines text at (suc n) = plan_count_at text at + planned_lines text (at + 12) n
