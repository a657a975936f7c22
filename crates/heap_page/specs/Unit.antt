-- The units of 8 bytes of a page, as a list that says of each whether it is taken.
use Rattle.std.specs.Prelude.{◌≡◌, ◌↔◌, ℕ, ◌<◌, ◌≤◌, Bool, true, false, List, get_or, IsTrue}
use Rattle.heap_page.specs.Page.{pointer_of, line_count, is_header, is_placed, all_below}

-- no unit from `first` up to `end` is taken
pub record AreFree (taken : List Bool) (first end : ℕ) : Type 0 where
  pub each : (unit : ℕ) → first ≤ unit → unit < end → get_or taken unit false ≡ false

-- What is left where the units from `first` up to `end` are taken, up to one that was not free; the answer says
-- whether each was.
pub record TakesUnits (old new : List Bool) (first end : ℕ) (answer : Bool) : Type 0 where
  pub free : IsTrue answer ↔ AreFree old first end
  pub inside : IsTrue answer → (unit : ℕ) → first ≤ unit → unit < end → get_or new unit false ≡ true
  pub before : (unit : ℕ) → unit < first → get_or new unit false ≡ get_or old unit false
  pub past : (unit : ℕ) → end ≤ unit → get_or new unit false ≡ get_or old unit false

-- the header is that of a heap page, and its lines are placed
pub record ArePlaced (page : List ℕ) : Type 0 where
  pub header : IsTrue (is_header page)
  pub placed : IsTrue (all_below (λ k. is_placed page (pointer_of page k)) (line_count page))
