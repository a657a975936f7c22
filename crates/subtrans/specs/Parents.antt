-- The parents of subtransactions, as assignment records tell them (PostgreSQL's subtrans.c). Ids are plain numbers.
use Rattle.std.specs.Prelude.{◌≡◌, ◌≢◌, ℕ, suc, ◌<◌, ◌≤◌, ◌==◌, List, [], ◌∷◌, ◌++◌, length, slice_index_or, take, drop, filter, nat_le, nat_lt, if◌then◌else◌}
use Rattle.subtrans.specs.declared.Pair.{Pair}

-- what contracts see: the pairs in rising order of the subtransaction, and how many more fit without taking memory
pub record Parents : Type 0 where
  pub pairs : List Pair
  pub spare : ℕ

-- the topmost parent of x: from the last subtransaction down, x is replaced by its parent, which is always
-- a lower id (SubTransGetTopmostTransaction)
unfoldable pub topmost_of : List Pair → ℕ → ℕ
topmost_of [] x = x
topmost_of (p ∷ above) x = let y = topmost_of above x in if y == p.sub then p.parent else y

-- the pairs of lesser and of greater subtransactions than x
abbrev pub before_sub : List Pair → ℕ → List Pair
before_sub pairs x = filter (λ (q : Pair). nat_lt q.sub x) pairs

abbrev pub after_sub : List Pair → ℕ → List Pair
after_sub pairs x = filter (λ (q : Pair). nat_lt x q.sub) pairs

-- the parent of one more subtransaction is known, in place of what was known of it (SubTransSetParent)
abbrev pub with_parent : List Pair → Pair → List Pair
with_parent pairs p = before_sub pairs p.sub ++ p ∷ after_sub pairs p.sub

-- the parents of subtransactions from this one on (TruncateSUBTRANS)
abbrev pub from_sub : List Pair → ℕ → List Pair
from_sub pairs x = filter (λ (q : Pair). nat_le x q.sub) pairs

-- the subtransactions of all pairs are above x
abbrev pub SubsAbove : ℕ → List Pair → Type 0
SubsAbove x [] = Unit {0}
SubsAbove x (q ∷ qs) = (x < q.sub) × SubsAbove x qs

-- each pair's subtransaction is below that of the next ones, and above its parent
abbrev pub InOrder : List Pair → Type 0
InOrder [] = Unit {0}
InOrder (p ∷ above) = (p.parent < p.sub) × SubsAbove p.sub above × InOrder above

-- the pair of x stands at a place, between those of lesser and of greater subtransactions
pub record IsFound (pairs : List Pair) (x at : ℕ) : Type 0 where
  pub within : at < length pairs
  pub sub : (d : Pair) → (slice_index_or pairs at d).sub ≡ x
  pub before : take at pairs ≡ before_sub pairs x
  pub after : drop (suc at) pairs ≡ after_sub pairs x

-- there is no pair of x, and it would stand at a place
pub record IsAbsent (pairs : List Pair) (x at : ℕ) : Type 0 where
  pub within : at ≤ length pairs
  pub before : take at pairs ≡ before_sub pairs x
  pub after : drop at pairs ≡ after_sub pairs x

-- topmost parents are where following parents ends: a subtransaction has that of its parent, the topmost
-- parent has none, and what has no parent is its own
pub record FollowsParents (pairs : List Pair) : Type 0 where
  pub step : (k : ℕ) (d : Pair) → k < length pairs → topmost_of pairs (slice_index_or pairs k d).sub ≡ topmost_of pairs (slice_index_or pairs k d).parent
  pub ends : (k : ℕ) (d : Pair) (x : ℕ) → k < length pairs → (slice_index_or pairs k d).sub ≢ topmost_of pairs x
  pub itself : (x : ℕ) → ((k : ℕ) (d : Pair) → k < length pairs → (slice_index_or pairs k d).sub ≢ x) → topmost_of pairs x ≡ x

-- it is so for all pairs in order
abbrev pub AlwaysFollowsParents : Type 0
AlwaysFollowsParents = (pairs : List Pair) → InOrder pairs → FollowsParents pairs
