-- What a pool holds: the bytes of each block that a table has.
use Rattle.std.specs.Prelude.{ℕ, ◌-◌, ◌==◌, Bool, ◌&&◌, nat_le, nat_lt, List, ◌++◌, length, slice_get, vec_len, replicate, Option, Some, None, Result, Ok, Err, if◌then◌else◌}
use Rattle.std.specs.Borrow.{Bor, MutBor}
use Rattle.pg_types.specs.declared.names.Tag.{Tag}
use Rattle.heap_page.specs.Page.{is_page}
use Rattle.page_store.specs.declared.table.Table.{Table}
use Rattle.page_store.specs.declared.pool.Pool.{Pool}
use Rattle.page_store.specs.declared.pool.PoolFault.{PoolFault}
use Rattle.page_store.specs.declared.pool.PoolFault.TheVariants.{Missing, BadPage}

-- by a table's number and a block's number, both from 0, the bytes of the block, if the table has it
abbrev pub Blocks : Type 0
Blocks = ℕ → ℕ → Option (List ℕ)

-- a block of zeros, as a table grows by it (PageIsNew, bufpage.h)
unfoldable pub zeros : List ℕ
zeros = replicate 8192 0

-- the pages of a table, filled up with blocks of zeros to this many
abbrev pub extended : List (List ℕ) → ℕ → List (List ℕ)
extended pages blocks = pages ++ replicate (blocks - length pages) zeros

-- how many tables the pool has
unfoldable pub table_count : Pool → ℕ
table_count pool = vec_len pool.tables

-- a block of a table, if that is there
abbrev pub block_in : Option Table → ℕ → Option (List ℕ)
block_in None block = None
block_in (Some table) block = slice_get table.pages.items block

-- the blocks of a pool; no table has the block with the greatest number (InvalidBlockNumber, block.h)
unfoldable pub content : Pool → Blocks
content pool table block =
    if nat_lt block 4294967295
    then block_in (slice_get pool.tables.items table) block
    else None

-- whether this is the block of the tag
abbrev pub is_at : Tag → ℕ → ℕ → Bool
is_at tag table block = (table == tag.table) && (block == tag.block)

-- the block of the tag has these bytes, and all others are as before
unfoldable pub with_block : Blocks → Tag → List ℕ → Blocks
with_block blocks tag bytes table block = if is_at tag table block then Some bytes else blocks table block

-- a block that is missing becomes one of zeros
abbrev pub or_zeros : Option (List ℕ) → Option (List ℕ)
or_zeros None = Some zeros
or_zeros (Some bytes) = Some bytes

-- the table of the tag has each block below the tag's, those that were missing as zeros
unfoldable pub filled_below : Blocks → Tag → Blocks
filled_below blocks tag table block =
    if (table == tag.table) && nat_lt block tag.block then or_zeros (blocks table block) else blocks table block

-- the table is cut to so many blocks (smgrtruncate, smgr.c)
unfoldable pub truncated : Blocks → ℕ → ℕ → Blocks
truncated blocks number count table block = if (table == number) && nat_le count block then None else blocks table block

-- the page that is lent of a block, or why it is not
unfoldable pub page_answer : Option (List ℕ) → Result (List ℕ) PoolFault
page_answer None = Err Missing
page_answer (Some bytes) = if is_page bytes then Ok bytes else Err BadPage

-- what a result that lends a page shows
abbrev pub lent : Result (MutBor (List ℕ)) PoolFault → Result (List ℕ) PoolFault
lent (Ok page) = Ok page.now
lent (Err fault) = Err fault

-- the same for a page that is lent for reading
abbrev pub lent_to_read : Result (Bor (List ℕ)) PoolFault → Result (List ℕ) PoolFault
lent_to_read (Ok page) = Ok page.now
lent_to_read (Err fault) = Err fault
