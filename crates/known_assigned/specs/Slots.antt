-- The set of running ids as it lies in memory: places in rising order, of which some have ended.
use Rattle.std.specs.Prelude.{◌≡◌, ℕ, ◌+◌, ◌≤◌, ◌<◌, Bool, true, false, ◌&&◌, List, [], ◌∷◌, length, take, drop, nat_lt, slice_index_or, if◌then◌else◌}
use Rattle.std.specs.List.{list_all}
use Rattle.known_assigned.specs.declared.running_set.Slot.{Slot}

-- what contracts see of the places: the ids that have not ended, how many more fit, and how many places
-- are taken, by an id or a mark
pub record Places : Type 0 where
  pub xids : List ℕ
  pub spare : ℕ
  pub taken : ℕ

-- the ids that have not ended
abbrev pub live_ids : List Slot → List ℕ
live_ids [] = []
live_ids (s ∷ rest) = if s.live then s.xid ∷ live_ids rest else live_ids rest

-- whether each id is below all later ones
abbrev pub is_rising : List Slot → Bool
is_rising [] = true
is_rising (s ∷ rest) = list_all (λ (t : Slot). nat_lt s.xid t.xid) rest && is_rising rest

-- whether the first place has not ended, if there is one
abbrev pub is_led : List Slot → Bool
is_led [] = true
is_led (s ∷ rest) = s.live

-- the places rise; those before `first` have ended, and that at `first` has not
pub record InOrder (slots : List Slot) (first : ℕ) : Type 0 where
  pub rising : is_rising slots ≡ true
  pub within : first ≤ length slots
  pub ended : live_ids (take first slots) ≡ []
  pub led : is_led (drop first slots) ≡ true

-- and no more than `marked` of them have ended
pub record AreCounted (slots : List Slot) (first marked : ℕ) : Type 0 where
  pub order : InOrder slots first
  pub few : length slots ≤ length (live_ids slots) + marked

-- the place of the id x
pub record AtPlace (slots : List Slot) (at x : ℕ) : Type 0 where
  pub rising : is_rising slots ≡ true
  pub within : at < length slots
  pub lower : list_all (λ (s : Slot). nat_lt s.xid x) (take at slots) ≡ true
  pub same : (slice_index_or slots at (record { xid = 0; live = false })).xid ≡ x

-- no place has the id x, and those before `at` are the ones below it
pub record NoPlace (slots : List Slot) (at x : ℕ) : Type 0 where
  pub rising : is_rising slots ≡ true
  pub within : at ≤ length slots
  pub lower : list_all (λ (s : Slot). nat_lt s.xid x) (take at slots) ≡ true
  pub higher : list_all (λ (s : Slot). nat_lt x s.xid) (drop at slots) ≡ true
