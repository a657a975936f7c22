-- The items that the calls give and take, as items of a page.
use Rattle.std.specs.Prelude.{◌<◌, ◌^◌}
use Rattle.heap_tuple.specs.Tuple.{IsTuple}
use Rattle.heap_page.specs.Item.{Item, unused, normal, redirect, dead}
use Rattle.heap_page.specs.declared.line.Item.{Item as LentItem}
use Rattle.heap_page.specs.declared.line.Item.TheVariants.{Unused, Normal, Redirect, Dead}
use Rattle.heap_page.specs.declared.line.LineState.{LineState}
use Rattle.heap_page.specs.declared.line.LineState.TheVariants.{Unused as ToUnused, Redirect as ToRedirect, Dead as ToDead}

-- the item that a lent one shows
abbrev pub shown : LentItem → Item
shown Unused = unused
shown (Normal bytes) = normal bytes.now
shown (Redirect line) = redirect line
shown Dead = dead

-- the item that a line of this state is
abbrev pub item_to : LineState → Item
item_to ToUnused = unused
item_to (ToRedirect line) = redirect line
item_to ToDead = dead

-- the line that a redirect names fits its 15 bits
abbrev pub IsState : LineState → Type 0
IsState ToUnused = Unit {0}
IsState (ToRedirect line) = line < 2 ^ 15
IsState ToDead = Unit {0}

-- the bytes of a tuple that is lent keep the tuple rule, and a redirect names a line of 15 bits
abbrev pub KeepsRule : LentItem → Type 0
KeepsRule Unused = Unit {0}
KeepsRule (Normal bytes) = IsTuple bytes.now
KeepsRule (Redirect line) = line < 2 ^ 15
KeepsRule Dead = Unit {0}
