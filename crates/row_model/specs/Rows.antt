-- The rows of a table after a log: the versions with a committed inserter and no committed deleter, in order of place.
-- Sources: access/transam/README (a transaction commits by its commit record), heapam.c (heapgettup).
use Rattle.std.specs.Prelude.{◌≡◌, ℕ, ◌<◌, Bool, true, false, not, ◌&&◌, List, [], ◌∷◌, Option, Some, None, filter, ◌⊎◌}
use Rattle.std.specs.List.Sorted.{IsPermutation}
use Rattle.heap_tuple.specs.declared.tuple_view.MaxOf.{MaxOf}
use Rattle.row_model.specs.Versions.{Version, Inserter, Nobody, Always, By}
use Rattle.multixact.specs.Made.{Made}
use Rattle.row_model.specs.Multixacts.{deleting}

-- the inserter counts, for a test of what committed
abbrev pub counts : (ℕ → Bool) → Inserter → Bool
counts committed Nobody = false
counts committed Always = true
counts committed (By xid) = committed xid

-- a transaction is there, and committed
abbrev pub has_committed : (ℕ → Bool) → Option ℕ → Bool
has_committed committed None = false
has_committed committed (Some xid) = committed xid

-- a deleter committed
abbrev pub is_deleted : Made → (ℕ → Bool) → MaxOf → Bool
is_deleted made committed d = has_committed committed (deleting made d)

abbrev pub is_row : Made → (ℕ → Bool) → Version → Bool
is_row made committed v = counts committed v.inserter && not (is_deleted made committed v.deleter)

-- a place comes before another: by its block, then by its line
abbrev pub IsBefore : Version → Version → Type 0
IsBefore a b = (a.block < b.block) ⊎ ((a.block ≡ b.block) × (a.line < b.line))

-- each row comes before all that follow it
abbrev pub IsBeforeAll : Version → List Version → Type 0
IsBeforeAll a [] = Unit {0}
IsBeforeAll a (b ∷ rows) = (IsBefore a b) × (IsBeforeAll a rows)

abbrev pub IsInPlaceOrder : List Version → Type 0
IsInPlaceOrder [] = Unit {0}
IsInPlaceOrder (a ∷ rows) = (IsBeforeAll a rows) × (IsInPlaceOrder rows)

-- the rows among these versions: each one once, in order of place
pub record IsRows (made : Made) (committed : ℕ → Bool) (vs rows : List Version) : Type 0 where
  pub same : IsPermutation (filter (is_row made committed) vs) rows
  pub in_order : IsInPlaceOrder rows

-- one list of rows is that of some versions
abbrev pub OneRows : Type 0
OneRows =
    (made : Made) (committed : ℕ → Bool) (vs rows others : List Version)
    → IsRows made committed vs rows → IsRows made committed vs others → rows ≡ others
