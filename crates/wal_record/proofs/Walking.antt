-- Steps of the walk over the headers of a record's parts.
use Rattle.std.proofs.Common.{◌≡◌, ℕ, zero, suc, ◌≤◌, ◌<◌, Bool, true, false, ◌||◌, List, ◌∷◌, length, Option, Some, None, option_map, refl, nat_le}
use Rattle.wal_record.specs.declared.parts.Part.{Part}
use Rattle.wal_record.specs.declared.parts.HeadersRead.{HeadersRead}
use Rattle.wal_record.specs.Parts.{◌>>=◌, part_at, parts_from, after, seen_after}
use Rattle.wal_record.specs.Decoded.{walked_from}
use Rattle.std.proofs.lemmas.Bool.{le-leb, lt-leb, or_right}

-- no more parts are read: main data's header was there, or nothing but payloads is left
abbrev pub is_done : HeadersRead → List ℕ → Bool
is_done seen text = seen.closed || nat_le (length text) seen.blocks

pub done-closed : (seen : HeadersRead) (text : List ℕ) → seen.closed ≡ true → is_done seen text ≡ true
done-closed seen text h = rw h refl

pub done-full : (seen : HeadersRead) (text : List ℕ) → length text ≤ seen.blocks → is_done seen text ≡ true
done-full seen text h = or_right seen.closed (nat_le (length text) seen.blocks) (le-leb (length text) seen.blocks h)

pub done-false : (seen : HeadersRead) (text : List ℕ) → seen.closed ≡ false → seen.blocks < length text → is_done seen text ≡ false
done-false seen text h lt = rw (h, lt-leb (length text) seen.blocks lt) refl

-- where no more parts are read, the walk ends
pub walked_from-done : (n : ℕ) (seen : HeadersRead) (text : List ℕ) → is_done seen text ≡ true → walked_from n seen text ≡ Some (seen, text)
unfolding walked_from parts_from
walked_from-done zero seen text h = refl
walked_from-done (suc n) seen text h = rw h refl

-- the walk ends after as many parts as may be read
pub walked_from-zero : (n : ℕ) (seen : HeadersRead) (text : List ℕ) → n ≡ 0 → walked_from n seen text ≡ Some (seen, text)
unfolding walked_from parts_from
walked_from-zero n seen text h = rw h refl

-- a part that cannot be read ends it with nothing
pub walked_from-none : (m n : ℕ) (seen : HeadersRead) (text : List ℕ) → m ≡ suc n → is_done seen text ≡ false → part_at seen text ≡ None → walked_from m seen text ≡ None
unfolding walked_from parts_from
walked_from-none m n seen text k h none = rw (k, h, none) refl

walked-again : (seen : HeadersRead) (part : Part) (others : Option (List Part × List ℕ)) →
    option_map {U = HeadersRead × List ℕ} (λ (x : List Part × List ℕ). (seen_after seen x.0, x.1)) (others >>= λ x. Some (part ∷ x.0, x.1)) ≡ option_map {U = HeadersRead × List ℕ} (λ (x : List Part × List ℕ). (seen_after (after seen part) x.0, x.1)) others
walked-again seen part None = refl
walked-again seen part (Some x) = refl

-- a part that is read leads on
pub walked_from-next : (m n : ℕ) (seen : HeadersRead) (text : List ℕ) (part : Part) (behind : List ℕ) → m ≡ suc n → is_done seen text ≡ false → part_at seen text ≡ Some (part, behind)
    → walked_from m seen text ≡ walked_from n (after seen part) behind
unfolding walked_from parts_from
walked_from-next m n seen text part behind k h some = rw (k, h, some) (walked-again seen part (parts_from n (after seen part) behind))
