-- The blocks of tables as those who read them see them.
use Rattle.std.specs.Prelude.{ℕ, List, Option, Some, None, if◌then◌else◌}
use Rattle.heap_page.specs.Item.{Item}
use Rattle.heap_page.specs.Page.{lsn_of, items_of, is_page}
use Rattle.page_store.specs.Content.{Blocks}

-- a block as its readers see it: past the table's end, bytes that are no page, or a page with its position and
-- its items
pub data Seen : Type 0 where
  absent : Seen
  bad_block : Seen
  seen_page : ℕ → List Item → Seen

-- the block with these bytes
unfoldable pub seen : Option (List ℕ) → Seen
seen None = absent
seen (Some bytes) = if is_page bytes then seen_page (lsn_of bytes) (items_of bytes) else bad_block

-- by a table's number and a block's number, the block
abbrev pub View : Type 0
View = ℕ → ℕ → Seen

abbrev pub view_of : Blocks → View
view_of blocks table block = seen (blocks table block)
