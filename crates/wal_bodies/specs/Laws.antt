-- Laws of the typed form.
use Rattle.std.specs.Prelude.{◌≡◌, ℕ, List, Ok, Err}
use Rattle.pg_types.specs.declared.names.Locator.{Locator}
use Rattle.pg_types.specs.declared.names.Lsn.{Lsn}
use Rattle.wal_record.specs.Record.{Record}
use Rattle.typed_records.specs.declared.types.BodyFault.{BodyFault}
use Rattle.typed_records.specs.declared.types.Rec.{Rec}
use Rattle.wal_bodies.specs.Typed.{typed}

-- rec is the typed form of a record that begins and ends at these positions, for this database and these tables
abbrev pub IsTyped : Record → Lsn → Lsn → ℕ → List Locator → Rec → Type 0
IsTyped source start end database known rec = typed source start end database known ≡ Ok rec

-- the record is refused with this fault
abbrev pub IsRefused : Record → Lsn → Lsn → ℕ → List Locator → BodyFault → Type 0
IsRefused source start end database known fault = typed source start end database known ≡ Err fault

-- a record has at most one typed form
abbrev pub OneForm : Type 0
OneForm = (source : Record) (start end : Lsn) (database : ℕ) (known : List Locator) (a b : Rec)
    → IsTyped source start end database known a → IsTyped source start end database known b → a ≡ b

-- a record that is refused has no typed form, and is refused with one fault
abbrev pub OneRefusal : Type 0
OneRefusal = (source : Record) (start end : Lsn) (database : ℕ) (known : List Locator) (fault : BodyFault)
    → IsRefused source start end database known fault
    → ((rec : Rec) → IsTyped source start end database known rec → ⊥)
    × ((other : BodyFault) → IsRefused source start end database known other → other ≡ fault)
