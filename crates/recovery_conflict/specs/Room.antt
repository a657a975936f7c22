-- Locks in memory.
use Rattle.std.specs.Prelude.{ℕ, List}
use Rattle.recovery_conflict.specs.declared.locks.HeldLock.{HeldLock}

-- what contracts see: the locks, and how many more fit
pub record LocksInRoom : Type 0 where
  pub locks : List HeldLock
  pub spare : ℕ
