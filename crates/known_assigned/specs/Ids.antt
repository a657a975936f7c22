-- Sets of transaction ids as strictly rising lists.
use Rattle.std.specs.Prelude.{ℕ, ◌+◌, ◌-◌, ◌==◌, Bool, not, List, [], ◌∷◌, filter, fold, map, max, nat_lt, if◌then◌else◌}
use Rattle.std.specs.List.{list_any, range_with_len}
use Rattle.pg_types.specs.declared.names.Xid.{Xid}

-- the ids of a list as numbers
abbrev pub numbers : List Xid → List ℕ
numbers xids = map (λ (x : Xid). x.0) xids

-- whether x is one of these
abbrev pub is_among : ℕ → List ℕ → Bool
is_among x xs = list_any (λ y. y == x) xs

-- x put into a rising list, once
abbrev pub with_id : ℕ → List ℕ → List ℕ
with_id x [] = x ∷ []
with_id x (y ∷ ys) = if nat_lt x y then x ∷ y ∷ ys else if x == y then y ∷ ys else y ∷ with_id x ys

-- these ids put into a rising list, each once
abbrev pub with_ids : List ℕ → List ℕ → List ℕ
with_ids new xs = fold (λ set x. with_id x set) xs new

-- the ids but these
abbrev pub without : List ℕ → List ℕ → List ℕ
without out xs = filter (λ x. not (is_among x out)) xs

-- the ids but this one
abbrev pub minus : ℕ → List ℕ → List ℕ
minus x xs = filter (λ y. not (x == y)) xs

-- the ids above low, up to high
abbrev pub ids_above : ℕ → ℕ → List ℕ
ids_above low high = range_with_len (low + 1) (high - low)

-- the greatest of them, or 0
abbrev pub greatest : List ℕ → ℕ
greatest xs = fold max 0 xs
