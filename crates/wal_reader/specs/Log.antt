-- The log from a position on.
use Rattle.std.specs.Prelude.{ℕ, ◌≡◌, ◌<◌, Ok, Err, List, [], ◌∷◌}
use Rattle.wal_record.specs.declared.types.PrevRule.{PrevRule}
use Rattle.wal_record.specs.declared.types.PrevRule.TheVariants.{Is}
use Rattle.wal_reader.specs.declared.types.NoRecord.{NoRecord}
use Rattle.wal_reader.specs.Told.{Told}
use Rattle.wal_reader.specs.Step.{Entry, step}

-- The records stand one after the other, the newest first: the first one at the position `from`, after
-- the record that `before` names, and the next one would stand at `at`, after the one that `prev` names.
abbrev pub Stands : Told → ℕ → PrevRule → List Entry → ℕ → PrevRule → Type 0
Stands told from before [] at prev = (at ≡ from) × (prev ≡ before)
Stands told from before (entry ∷ older) at prev =
    (here : ℕ) × (link : PrevRule) × Stands told from before older here link
    × (step told here link ≡ Ok entry) × (at ≡ entry.end) × (prev ≡ Is (record { 0 = entry.start }))

-- the whole log from a position on: where it ends and by which rule
pub record IsLog (told : Told) (from : ℕ) (before : PrevRule) (log : List Entry) (end : ℕ) (stop : NoRecord) : Type 0 where
  pub prev : PrevRule
  pub stands : Stands told from before log end prev
  pub stops : step told end prev ≡ Err stop

-- from a position there is one log, with one end and one cause
abbrev pub OneLog : Type 0
OneLog =
    (told : Told) (from : ℕ) (before : PrevRule) (log other : List Entry) (end end' : ℕ) (stop stop' : NoRecord)
    → IsLog told from before log end stop → IsLog told from before other end' stop'
    → (log ≡ other) × (end ≡ end') × (stop ≡ stop')

-- where segments have a size, a record ends behind the position where it is read
abbrev pub StepsOn : Type 0
StepsOn = (told : Told) (at : ℕ) (prev : PrevRule) (entry : Entry) → 0 < told.segsize → step told at prev ≡ Ok entry → at < entry.end
