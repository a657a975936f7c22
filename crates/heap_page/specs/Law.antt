-- Laws on the items of a page.
use Rattle.std.specs.Prelude.{◌≡◌, ◌≢◌, ℕ, ◌+◌, IsTrue, List, []}
use Rattle.heap_tuple.specs.Tuple.{IsTuple}
use Rattle.heap_page.specs.Item.{Item, normal, trimmed, with_item, numbered}
use Rattle.heap_page.specs.Page.{items_of, is_zeros, IsPage}

-- a changed line shows its new item, and each other line, numbered from 1, what it showed
abbrev pub OneLineChanges : Type 0
OneLineChanges =
    (items : List Item) (k : ℕ) (item : Item)
    → (numbered (with_item items k item) (k + 1) ≡ item)
    × ((n : ℕ) → n ≢ k + 1 → numbered (with_item items k item) n ≡ numbered items n)

-- unused lines at the end are left out
abbrev pub ItemsEndInUse : Type 0
ItemsEndInUse = (page : List ℕ) → trimmed (items_of page) ≡ items_of page

-- a block of zeros is a page without items
abbrev pub ZerosHaveNone : Type 0
ZerosHaveNone = (page : List ℕ) → IsTrue (is_zeros page) → items_of page ≡ []

-- the tuples among the items of a page keep the tuple rule
abbrev pub TuplesKeepRule : Type 0
TuplesKeepRule =
    (page : List ℕ) (n : ℕ) (bytes : List ℕ)
    → IsPage page
    → numbered (items_of page) n ≡ normal bytes
    → IsTuple bytes
