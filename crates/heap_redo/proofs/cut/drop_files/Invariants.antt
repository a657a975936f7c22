use Rattle.std.proofs.Common.{◌≡◌}
use Rattle.page_store.specs.Content.{content, table_count}
use Rattle.page_store.specs.Seen.{view_of}
use Rattle.heap_redo.specs.Redone.{drop_files}
use Rattle.heap_redo.proofs.cut.drop_files.Given as goal

abbrev pub invariant-loop-file : goal.invariant-loop-file
invariant-loop-file l = record {
  view : drop_files l.known l.file-iterator (view_of (content l.pool)) ≡ drop_files l.known l.files (view_of (content l.initial.pool));
  tables : table_count l.pool ≡ table_count l.initial.pool;
}
