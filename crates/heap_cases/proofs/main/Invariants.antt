use Rattle.std.proofs.Common.{◌≡◌}
use Rattle.page_store.specs.Content.{table_count}
use Rattle.heap_cases.proofs.main.Given as goal

-- the bench's pool has its two tables
abbrev pub invariant-loop-index : goal.invariant-loop-index
invariant-loop-index l =
    (goal.iterator-loop-index).can_next l.index-iterator ×
    (goal.iterator-loop-index).is_finite l.index-iterator ×
    (table_count l.bench.pool ≡ 2)
