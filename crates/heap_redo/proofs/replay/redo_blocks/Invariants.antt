use Rattle.std.proofs.Common.{◌≡◌, Ok, ◌++◌}
use Rattle.page_store.specs.Content.{content, table_count}
use Rattle.page_store.specs.Seen.{view_of}
use Rattle.heap_redo.specs.Redone.{redone}
use Rattle.heap_redo.proofs.replay.redo_blocks.Given as goal

abbrev pub invariant-loop-block : goal.invariant-loop-block
invariant-loop-block l = record {
  whole : l.yielded ++ l.block-iterator ≡ l.rec.blocks;
  done : redone l.rec l.known l.yielded (view_of (content l.initial.pool)) ≡ (view_of (content l.pool), Ok tt);
  tables : table_count l.pool ≡ table_count l.initial.pool;
}
