-- What follows of redo's definition.
use Rattle.std.specs.Prelude.{◌≡◌, List, Result}
use Rattle.pg_types.specs.declared.names.Locator.{Locator}
use Rattle.typed_records.specs.declared.types.Rec.{Rec}
use Rattle.heap_redo.specs.declared.fault.RedoFault.{RedoFault}
use Rattle.page_store.specs.Seen.{View}
use Rattle.heap_redo.specs.Redone.{redone_record, Stands}

-- Where a call left the blocks, whatever it answered, a repeated call leaves and answers what one call does:
-- a record that was refused is refused again, one that was applied changes nothing more, and after want of
-- memory the record is applied as once.
abbrev pub Repeats : Type 0
Repeats = (rec : Rec) (known : List Locator) (old new : View) (result : Result (Unit {0}) RedoFault)
    → Stands rec known old new result → redone_record rec known new ≡ redone_record rec known old
