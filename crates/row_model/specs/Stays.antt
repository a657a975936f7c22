-- What a deleter stands for does not change.
use Rattle.std.specs.Prelude.{◌≡◌, List, ◌∷◌}
use Rattle.typed_records.specs.declared.types.Rec.{Rec}
use Rattle.heap_tuple.specs.declared.tuple_view.MaxOf.{MaxOf}
use Rattle.row_model.specs.Multixacts.{WasMade, deleter_in}
use Rattle.row_model.specs.LegalRows.{MakesMultixacts}

-- a deleter that was made stands for the same transaction, or for none, after each further record: so it may be looked
-- up when the step is made, or at any time after it
pub record DeletersStay (rec : Rec) (older : List Rec) (d : MaxOf) : Type 0 where
  pub made : WasMade (rec ∷ older) d
  pub same : deleter_in (rec ∷ older) d ≡ deleter_in older d

abbrev pub AlwaysStay : Type 0
AlwaysStay = (rec : Rec) (older : List Rec) (d : MaxOf) → MakesMultixacts (rec ∷ older) → WasMade older d → DeletersStay rec older d
