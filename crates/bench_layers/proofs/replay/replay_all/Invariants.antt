use Rattle.std.proofs.Common.{◌≡◌}
use Rattle.page_store.specs.Content.{table_count}
use Rattle.bench_layers.proofs.replay.replay_all.Given as goal

-- the pool keeps its tables
abbrev pub invariant-loop : goal.invariant-loop
invariant-loop g l = table_count l.pool ≡ table_count l.fn.pool
