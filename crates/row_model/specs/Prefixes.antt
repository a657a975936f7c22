-- The prefixes of a legal log.
use Rattle.std.specs.Prelude.{List, ◌∷◌}
use Rattle.pg_types.specs.declared.names.Locator.{Locator}
use Rattle.typed_records.specs.declared.types.Rec.{Rec}
use Rattle.row_model.specs.Origins.{LogOrigin}
use Rattle.row_model.specs.LegalRows.{LegalLog}

-- a legal log without its last record is legal
abbrev pub PrefixIsLegal : Type 0
PrefixIsLegal =
    (o : LogOrigin) (known : List Locator) (rec : Rec) (older : List Rec) → LegalLog o known (rec ∷ older) → LegalLog o known older
