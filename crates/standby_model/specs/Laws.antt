-- What the definitions promise together.
use Rattle.std.specs.Prelude.{◌≡◌, ◌<◌, ℕ, List, [], ◌∷◌}
use Rattle.wal_reader.specs.Told.{Told}
use Rattle.typed_records.specs.declared.types.Rec.{Rec}
use Rattle.wal_bodies.specs.Ends.{end_of, Rises}
use Rattle.standby_model.specs.Log.{Described, IsLog, Stands, Stop}

-- from a position one log is told, with one cause why it goes no further
abbrev pub OneLog : Type 0
OneLog =
    (told : Told) (described : Described) (from : ℕ) (log other : List Rec) (stop why : Stop)
    → IsLog told described from log stop → IsLog told described from other why → (log ≡ other) × (stop ≡ why)

-- where segments have a size, a log that stands rises
abbrev pub LogRises : Type 0
LogRises =
    (told : Told) (described : Described) (from : ℕ) (log : List Rec) → 0 < told.segsize → Stands told described from log
    → Rises from log
