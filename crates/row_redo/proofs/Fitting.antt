-- The tuples of lines as bytes.
use Rattle.std.specs.Prelude.{◌≡◌, ℕ, List}
use Rattle.heap_tuple.specs.Tuple.{IsTuple}
use Rattle.heap_page.specs.Item.{Item, normal, numbered}
use Rattle.pg_types.specs.Bytes.{AreBytes}

-- the tuples of these lines are bytes and keep the tuple rule
abbrev pub TuplesFit : List Item → Type 0
TuplesFit items = (line : ℕ) (tuple : List ℕ) → numbered items line ≡ normal tuple → AreBytes tuple × IsTuple tuple
