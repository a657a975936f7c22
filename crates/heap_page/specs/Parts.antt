-- The parts of a line pointer, as the code reads them.
use Rattle.std.specs.Prelude.{◌≡◌, ℕ}
use Rattle.heap_page.specs.Page.{offset_in, state_in, length_in}
use Rattle.heap_page.specs.declared.pointer.Pointer.{Pointer}

-- they are those of this word
pub record HasParts (pointer : Pointer) (word : ℕ) : Type 0 where
  pub offset : pointer.offset ≡ offset_in word
  pub state : pointer.state ≡ state_in word
  pub length : pointer.length ≡ length_in word
