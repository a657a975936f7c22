-- How a record that is refused at a block is answered.
use Rattle.std.specs.Prelude.{ℕ, List, Result, Ok, Err}
use Rattle.pg_types.specs.declared.names.Place.{Place}
use Rattle.heap_page.specs.Item.{Item}
use Rattle.heap_page.specs.Page.{items_of}
use Rattle.page_store.specs.declared.pool.PoolFault.{PoolFault}
use Rattle.page_store.specs.declared.pool.PoolFault.TheVariants.{Missing, BadPage as BrokenPage, Memory as NoRoom}
use Rattle.typed_records.specs.declared.types.RecBlock.{RecBlock}
use Rattle.heap_redo.specs.After.{BlockRefusal, no_page, no_tuple, page_full, bad_page, Content, page}
use Rattle.heap_redo.specs.declared.fault.BlockFault.{BlockFault}
use Rattle.heap_redo.specs.declared.fault.BlockFault.TheVariants.{NoPage, NoTuple, PageFull, BadPage}
use Rattle.heap_redo.specs.declared.fault.RedoFault.{RedoFault}
use Rattle.heap_redo.specs.declared.fault.RedoFault.TheVariants.{PageMissing, NoTuple as NoTupleAt, PageFull as PageFullAt, BadPage as BadPageAt, Memory}

-- the refusal of a block that the code answers
abbrev pub refusal_of : BlockFault → BlockRefusal
refusal_of NoPage = no_page
refusal_of (NoTuple line) = no_tuple line
refusal_of (PageFull line) = page_full line
refusal_of BadPage = bad_page

-- a line of the record's block, 0 where there is none
abbrev pub place_in : RecBlock → ℕ → Place
place_in block line = record { block = block.block; line = line }

-- the fault of a record that is refused at this block: the place
unfoldable pub fault_at : RecBlock → BlockRefusal → RedoFault
fault_at block no_page = PageMissing (place_in block 0)
fault_at block (no_tuple line) = NoTupleAt (place_in block line)
fault_at block (page_full line) = PageFullAt (place_in block line)
fault_at block bad_page = BadPageAt (place_in block 0)

-- the fault of a record whose block the pool does not lend
abbrev pub pool_fault_at : RecBlock → PoolFault → RedoFault
pool_fault_at block Missing = fault_at block no_page
pool_fault_at block BrokenPage = fault_at block bad_page
pool_fault_at block NoRoom = Memory

-- the items that a change leaves, if it is not refused
abbrev pub outcome : List Item → Result (Unit {0}) BlockFault → Result (List Item) BlockRefusal
outcome items (Ok done) = Ok items
outcome items (Err refusal) = Err (refusal_of refusal)

-- the same of a block
abbrev pub content_outcome : List ℕ → Result (Unit {0}) BlockFault → Result Content BlockRefusal
content_outcome bytes (Ok done) = Ok (page (items_of bytes))
content_outcome bytes (Err refusal) = Err (refusal_of refusal)
