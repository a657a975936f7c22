use Rattle.std.proofs.Common.{◌≡◌, vec_len, All, length}
use Rattle.page_store.specs.declared.table.Table.{Table}
use Rattle.page_store.proofs.pool.Pool.plain.Given as goal

abbrev pub invariant-loop : goal.invariant-loop
invariant-loop l = record {
  count : vec_len l.pool.tables ≡ l.counter;
  empty : All (λ (table : Table). length table.pages.items ≡ 0) l.pool.tables.items;
}
