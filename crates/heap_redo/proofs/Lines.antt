-- What a change of a line answers.
use Rattle.std.proofs.Common.{ap, sym, refl, ◌∙◌, ◌≡◌, ℕ, Bool, false, List, Err}
use Rattle.heap_page.specs.Item.{Item, numbered, is_normal, tuple_in}
use Rattle.std.specs.Borrow.{Bor}
use Rattle.heap_page.specs.Shown.{shown}
use Rattle.heap_page.specs.declared.line.Item.{Item as LentItem}
use Rattle.heap_page.specs.declared.line.Item.TheVariants.{Unused, Normal, Redirect, Dead}
use Rattle.heap_page.specs.Put.{set_head_answer}
use Rattle.heap_page.specs.declared.line.PageError.TheVariants.{NoLine}
use Rattle.heap_redo.specs.TupleHeads.{Head, head_of, head_bytes}
use Rattle.heap_redo.specs.After.{no_tuple, answered, with_header, change_head}

-- an item that is lent, and is no tuple
pub not-normal : (item : LentItem) → ((bytes : Bor (List ℕ)) → item ≡ Normal bytes → ⊥) → is_normal (shown item) ≡ false
not-normal Unused h = refl
not-normal (Normal bytes) h = absurd (h bytes refl)
not-normal (Redirect line) h = refl
not-normal Dead h = refl

refused-at : (items : List Item) (line : ℕ) (head : List ℕ) (v : Bool) → is_normal (numbered items line) ≡ v → v ≡ false → set_head_answer items line head ≡ Err NoLine
unfolding set_head_answer
refused-at items line head v e h = let f : is_normal (numbered items line) ≡ false = e ∙ h in rw f refl

-- a line without a tuple is refused, however its header would change
pub change_head-refused : (line : ℕ) (f : Head → Head) (items : List Item) → is_normal (numbered items line) ≡ false → Err (no_tuple line) ≡ change_head line f items
unfolding change_head
change_head-refused line f items h =
    let head = head_bytes (f (head_of (tuple_in (numbered items line)))) in
    sym (ap (answered line (with_header items line head)) (refused-at items line head false h refl))
