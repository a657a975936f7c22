-- The multixacts as they are kept: each id with its updater.
use Rattle.std.specs.Prelude.{◌≡◌, ℕ, suc, ◌<◌, ◌≤◌, List, [], ◌∷◌, length, slice_index_or, take, drop}
use Rattle.multixact.specs.declared.entries.Entry.{Entry}
use Rattle.multixact.specs.Made.{Made, none_made, with_updater}

-- what contracts see: the entries in rising order of the id, and how many more fit without taking memory
pub record Entries : Type 0 where
  pub entries : List Entry
  pub spare : ℕ

-- what the ids of these entries stand for
unfoldable pub made_in : List Entry → Made
made_in [] = none_made
made_in (entry ∷ above) = with_updater entry.id entry.updater (made_in above)

-- the ids of all entries are below x
abbrev pub IdsBelow : ℕ → List Entry → Type 0
IdsBelow x [] = Unit {0}
IdsBelow x (entry ∷ above) = (entry.id < x) × IdsBelow x above

-- they are x or above it
abbrev pub IdsFrom : ℕ → List Entry → Type 0
IdsFrom x [] = Unit {0}
IdsFrom x (entry ∷ above) = (x ≤ entry.id) × IdsFrom x above

-- they are above x
abbrev pub IdsAbove : ℕ → List Entry → Type 0
IdsAbove x entries = IdsFrom (suc x) entries

-- each entry's id is below those of the next ones
abbrev pub InOrder : List Entry → Type 0
InOrder [] = Unit {0}
InOrder (entry ∷ above) = IdsAbove entry.id above × InOrder above

-- the entry of x stands at a place, behind those of lesser ids
pub record IsFound (entries : List Entry) (x at : ℕ) : Type 0 where
  pub within : at < length entries
  pub id : (d : Entry) → (slice_index_or entries at d).id ≡ x
  pub before : IdsBelow x (take at entries)

-- there is no entry of x, and it would stand at a place, between those of lesser and of greater ids
pub record IsAbsent (entries : List Entry) (x at : ℕ) : Type 0 where
  pub within : at ≤ length entries
  pub before : IdsBelow x (take at entries)
  pub after : IdsAbove x (drop at entries)
