-- What a change of a page leaves.
use Rattle.std.specs.Prelude.{◌≡◌, ℕ, List, [], Result, IsTrue, OnOk, OnErr}
use Rattle.heap_page.specs.Item.{Item}
use Rattle.heap_page.specs.Page.{lsn_of, lower_of, upper_of, items_of, is_laid, IsPage}
use Rattle.heap_page.specs.declared.line.PageError.{PageError}

-- the page keeps its rule and its position; it has these items, and its free part reaches from `low` up
-- to `high`
pub record Becomes (old new : List ℕ) (content : List Item) (low high : ℕ) : Type 0 where
  pub laid : IsTrue (is_laid new)
  pub items : items_of new ≡ content
  pub lsn : lsn_of new ≡ lsn_of old
  pub lower : lower_of new ≡ low
  pub upper : upper_of new ≡ high

-- the page is laid out, and has the items and the position that it had
pub record IsLaid (old new : List ℕ) : Type 0 where
  pub laid : IsTrue (is_laid new)
  pub items : items_of new ≡ items_of old
  pub lsn : lsn_of new ≡ lsn_of old

-- a page that is laid out, without items and of position 0
pub record IsEmpty (bytes : List ℕ) : Type 0 where
  pub page : IsPage bytes
  pub laid : IsTrue (is_laid bytes)
  pub items : items_of bytes ≡ []
  pub lsn : lsn_of bytes ≡ 0

-- the page has the items that it had, and this position
pub record IsSet (old new : List ℕ) (position : ℕ) : Type 0 where
  pub page : IsPage new
  pub items : items_of new ≡ items_of old
  pub lsn : lsn_of new ≡ position

-- A change that may be refused gives this answer. It leaves these items, and the page as before where it is
-- refused; the position stays.
pub record Changes (answer_is : Result (Unit {0}) PageError) (content : List Item) (old new : List ℕ) (result : Result (Unit {0}) PageError) : Type 0 where
  pub answer : result ≡ answer_is
  pub ok : OnOk result (items_of new ≡ content)
  pub err : OnErr result (new ≡ old)
  pub lsn : lsn_of new ≡ lsn_of old
