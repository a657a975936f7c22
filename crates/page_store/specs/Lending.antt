-- What a pool holds after a page of it was lent.
use Rattle.std.specs.Prelude.{◌≡◌, ℕ, List, Result, ⊤}
use Rattle.std.specs.Borrow.{Lends, LendsSoOk, follows_so, MutBor, Fml}
use Rattle.std.specs.Vec.{with_item}
use mathlib.Core.Option.{none}
use Rattle.pg_types.specs.declared.names.Tag.{Tag}
use Rattle.heap_page.specs.contracts.typed_page.HeapPage.{the_row as page_row}
use Rattle.page_store.specs.declared.table.Table.{Table}
use Rattle.page_store.specs.contracts.table.Table.{the_row as table_row}
use Rattle.page_store.specs.declared.pool.Pool.{Pool}
use Rattle.page_store.specs.declared.pool.PoolFault.{PoolFault}
use Rattle.page_store.specs.contracts.pool.Pool.{the_row as pool_row}
use Rattle.page_store.specs.Content.{Blocks, content, table_count, with_block, filled_below}

-- the table with these bytes as one of its blocks
abbrev pub with_page : Table → ℕ → List ℕ → Table
with_page table block bytes = record table { pages = with_item table.pages block bytes }

-- the table ends with the last bytes behind r as this block
abbrev pub LendsBlock : MutBor Table → ℕ → MutBor (List ℕ) → Fml
LendsBlock table block r = Lends table_row page_row table r (with_page table.now block)

-- the pool has these blocks, and as many tables
pub record Holds (old new : Pool) (held : Blocks) : Type 0 where
  pub blocks : content new ≡ held
  pub tables : table_count new ≡ table_count old

-- the last bytes behind r are the content of the block; all other blocks are as before, as all are after an error
abbrev pub LendsPage : MutBor Pool → Tag → Result (MutBor (List ℕ)) PoolFault → Fml
LendsPage pool tag r = LendsSoOk pool_row page_row pool r
    (λ new bytes. Holds pool.now new (with_block (content pool.now) tag bytes))
    (λ new. Holds pool.now new (content pool.now))

-- the same, and the blocks below that were missing are of zeros
abbrev pub LendsFresh : MutBor Pool → Tag → Result (MutBor (List ℕ)) PoolFault → Fml
LendsFresh pool tag r = LendsSoOk pool_row page_row pool r
    (λ new bytes. Holds pool.now new (with_block (filled_below (content pool.now) tag) tag bytes))
    (λ new. Holds pool.now new (content pool.now))

-- the pool's blocks stay
abbrev pub LendsLook : MutBor Pool → Fml
LendsLook pool = follows_so pool_row pool_row pool.ghost_name none (λ _ _. ⊤) (λ new. Holds pool.now new (content pool.now))
