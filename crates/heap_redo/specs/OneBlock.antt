-- The change of one block.
use Rattle.std.specs.Prelude.{◌≡◌, ◌<◌, false, Result, OnErr}
use Rattle.page_store.specs.declared.pool.Pool.{Pool}
use Rattle.page_store.specs.Content.{content, table_count}
use Rattle.page_store.specs.Seen.{View, view_of}
use Rattle.typed_records.specs.declared.types.Rec.{Rec}
use Rattle.typed_records.specs.declared.types.RecBlock.{RecBlock}
use Rattle.heap_redo.specs.declared.fault.RedoFault.{RedoFault}
use Rattle.heap_redo.specs.Redone.{is_left, Follows}

-- a table may have the block, and the record does not leave it as it is
pub record IsChanged (rec : Rec) (block : RecBlock) : Type 0 where
  pub left : is_left rec block ≡ false
  pub below : block.block < 4294967295

-- what is left of a pool, and the answer: those that are given, or want of memory where no refusal is given; after a
-- refusal the pool is as before
pub record IsRedone (old new : Pool) (result : Result (Unit {0}) RedoFault) (given : Result View RedoFault) : Type 0 where
  pub answer : Follows (view_of (content new)) result given
  pub err : OnErr result (content new ≡ content old)
  pub tables : table_count new ≡ table_count old
