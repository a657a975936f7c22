-- What the calls inside a pool tell of its blocks.
use Rattle.std.specs.Prelude.{◌≡◌, ℕ, ◌+◌, ◌<◌, List, [], Some, slice_get, slice_set, vec_len}
use Rattle.pg_types.specs.declared.names.Tag.{Tag}
use Rattle.heap_page.specs.Page.{IsPage, items_of, lsn_of}
use Rattle.page_store.specs.declared.table.Table.{Table}
use Rattle.page_store.specs.declared.pool.Pool.{Pool}
use Rattle.page_store.specs.Content.{content, table_count, extended, with_block, filled_below}

-- the pool has the block
pub record HasBlock (pool : Pool) (tag : Tag) : Type 0 where
  pub in_tables : tag.table < vec_len pool.tables
  pub in_table : (table : Table) → slice_get pool.tables.items tag.table ≡ Some table → tag.block < vec_len table.pages
  pub below : tag.block < 4294967295

-- the page has no items, and the position 0
pub record IsInitial (bytes : List ℕ) : Type 0 where
  pub page : IsPage bytes
  pub items : items_of bytes ≡ []
  pub lsn : lsn_of bytes ≡ 0

-- the table was extended up to this block, which is now a page without items
pub record Freshened (old new : Table) (block : ℕ) : Type 0 where
  pub page : List ℕ
  pub pages : new.pages.items ≡ slice_set (extended old.pages.items (block + 1)) block page
  pub initial : IsInitial page

-- the same of the pool
pub record HasFresh (old new : Pool) (tag : Tag) : Type 0 where
  pub page : List ℕ
  pub has : HasBlock new tag
  pub blocks : content new ≡ with_block (filled_below (content old) tag) tag page
  pub tables : table_count new ≡ table_count old
  pub initial : IsInitial page
