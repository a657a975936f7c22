-- The tuples of a page fit between the begin of the tuples and the page's end, since no two share a unit of
-- 8 bytes. So a tuple that has its room in the free part has it by the sum of all lines too.
use Rattle.std.proofs.Common.{◌≡◌, ◌≢◌, inl, inr, ℕ, zero, suc, ◌+◌, ◌-◌, ◌*◌, ◌/◌, ◌%◌, ◌<◌, ◌≤◌, min, max, Bool, true, false, ◌&&◌, ◌||◌, nat_lt, List, length, take, sum_by, IsTrue, refl, sym, ap, ◌∙◌, arith}
use Rattle.std.specs.Prelude.{nat_le}
use Rattle.std.proofs.lemmas.Bool.{cases_eq, cases_lt, cases_Bool, both_ways, or_from}
use Rattle.std.proofs.lemmas.Bool.Decides.{nat_tests}
use Rattle.std.proofs.lemmas.List.Sums.{sum_by_more}
use Rattle.heap_page.specs.Item.{unused, item_in, aligned, room_of, room_in}
use Rattle.heap_page.specs.Page.{upper_of, line_count, pointer_of, offset_in, state_in, length_in, end_of_room, lines_of, items_of, is_normal_pointer, is_laid, IsPage}
use Rattle.heap_page.proofs.Laid.{Laid, laid-true}
use Rattle.heap_page.proofs.Changes.{bounds}
use Rattle.heap_page.proofs.Header.{page-cases, page-size, length-lines, length-items}
use Rattle.heap_page.proofs.Rooms.{room-normal, room-empty, room_in-lines}
use Rattle.heap_page.proofs.Taken.{IsRoom, room-placed, apart-no_unit}

abbrev one : Bool → ℕ
one true = 1
one false = 0

-- for how many numbers below n the test holds
abbrev count : (ℕ → Bool) → ℕ → ℕ
count p zero = 0
count p (suc n) = one (p n) + count p n

one-most : (a : Bool) → one a ≤ 1
one-most true = omega arith
one-most false = omega arith

one-or : (a b : Bool) → (a ≡ true → b ≡ true → ⊥) → one (a || b) ≡ one a + one b
one-or true true h = absurd (h refl refl)
one-or true false h = refl
one-or false true h = refl
one-or false false h = refl

-- two tests that never hold together
count-or : (p q : ℕ → Bool) (n : ℕ) → ((u : ℕ) → u < n → p u ≡ true → q u ≡ true → ⊥) → count (λ u. p u || q u) n ≡ count p n + count q n
count-or p q zero h = refl
count-or p q (suc n) h =
    omega (arith, one-or (p n) (q n) (h n (omega arith)), count-or p q n (λ u b. h u (omega (arith, b))))

-- a test that does not hold below m
count-past : (p : ℕ → Bool) (n m : ℕ) → ((u : ℕ) → u < m → p u ≡ false) → count p n + min m n ≤ n
count-past p zero m h = omega arith
count-past p (suc n) m h =
    elim (cases_lt n m) [
      | inl below ↦ omega (arith, ap one (h n below), count-past p n m h, below)
      | inr past ↦ omega (arith, one-most (p n), count-past p n m h, past)
    ]

count-none : (p : ℕ → Bool) (n : ℕ) → ((u : ℕ) → p u ≡ false) → count p n ≡ 0
count-none p zero h = refl
count-none p (suc n) h = omega (arith, ap one (h n), count-none p n h)

-- whether a pointer is one to a tuple that takes this unit
abbrev covers : ℕ → ℕ → Bool
covers pointer unit =
    is_normal_pointer pointer && nat_le (offset_in pointer / 8) unit && nat_lt unit (end_of_room pointer / 8)

covers-normal : (pointer unit : ℕ) → covers pointer unit ≡ true → state_in pointer ≡ 1
covers-normal pointer unit h = grind (arith, nat_tests)

covers-from : (pointer unit : ℕ) → covers pointer unit ≡ true → offset_in pointer / 8 ≤ unit
covers-from pointer unit h = grind (arith, nat_tests)

covers-below : (pointer unit : ℕ) → covers pointer unit ≡ true → unit < end_of_room pointer / 8
covers-below pointer unit h = grind (arith, nat_tests)

covers-in : (pointer unit : ℕ) → state_in pointer ≡ 1 → offset_in pointer / 8 ≤ unit → unit < end_of_room pointer / 8 → covers pointer unit ≡ true
covers-in pointer unit normal from below = grind (arith, nat_tests)

covers-low : (pointer unit : ℕ) → unit < offset_in pointer / 8 → covers pointer unit ≡ false
covers-low pointer unit low = grind (arith, nat_tests)

covers-high : (pointer unit : ℕ) → end_of_room pointer / 8 ≤ unit → covers pointer unit ≡ false
covers-high pointer unit high = grind (arith, nat_tests)

covers-other : (pointer unit : ℕ) → (state_in pointer ≢ 1) → covers pointer unit ≡ false
covers-other pointer unit other = grind (arith, nat_tests)

-- how many units below n a tuple takes
count-covers : (pointer n : ℕ) → state_in pointer ≡ 1 → IsRoom pointer → count (covers pointer) n ≡ min n (end_of_room pointer / 8) - offset_in pointer / 8
count-covers pointer zero normal room = omega arith
count-covers pointer (suc n) normal room =
    let before = count-covers pointer n normal room in
    let order : offset_in pointer / 8 ≤ end_of_room pointer / 8 = omega (arith, room.not_empty) in
    elim (cases_lt n (offset_in pointer / 8)) [
      | inl low ↦ omega (arith, ap one (covers-low pointer n low), before, low, order)
      | inr from ↦ elim (cases_lt n (end_of_room pointer / 8)) [
        | inl below ↦ omega (arith, ap one (covers-in pointer n normal from below), before, from, below)
        | inr high ↦ omega (arith, ap one (covers-high pointer n high), before, high)
      ]
    ]

units-of : (offset room : ℕ) → offset % 8 ≡ 0 → (offset + room) % 8 ≡ 0 → offset + room ≤ 8192 → room ≡ 8 * (min 1024 ((offset + room) / 8) - offset / 8)
units-of offset room begin end inside = omega arith

eight : (s r a b c : ℕ) → s ≡ 8 * a → r ≡ 8 * b → c ≡ a + b → s + r ≡ 8 * c
eight s r a b c e f g = omega arith

fit : (s c upper : ℕ) → s ≡ 8 * c → c + min (upper / 8) 1024 ≤ 1024 → upper ≤ 8192 → s + upper / 8 * 8 ≤ 8192
fit s c upper e few inside = omega arith

room-count : (pointer : ℕ) → state_in pointer ≡ 1 → IsRoom pointer → aligned (length_in pointer) ≡ 8 * count (covers pointer) 1024
room-count pointer normal room =
    units-of (offset_in pointer) (aligned (length_in pointer)) room.begin room.end room.inside
    ∙ sym (ap (λ n. 8 * n) (count-covers pointer 1024 normal room))

-- whether the tuple of one of the first k lines takes this unit
abbrev taken : List ℕ → ℕ → ℕ → Bool
taken page zero unit = false
taken page (suc k) unit = taken page k unit || covers (pointer_of page k) unit

taken-by : (page : List ℕ) (k unit : ℕ) → ((j : ℕ) → j < k → covers (pointer_of page j) unit ≡ true → ⊥) → taken page k unit ≡ false
taken-by page zero unit h = refl
taken-by page (suc k) unit h =
    or_from (taken page k unit) (covers (pointer_of page k) unit)
    (taken-by page k unit (λ j l. h j (omega (arith, l))))
    (elim (cases_Bool (covers (pointer_of page k) unit)) [ inl yes_ ↦ absurd (h k (omega arith) yes_) | inr no_ ↦ no_ ])

-- a further line takes none of the units of those before
taken-apart : (page : List ℕ) (k unit : ℕ) → Laid page → k < line_count page → taken page k unit ≡ true → covers (pointer_of page k) unit ≡ true → ⊥
taken-apart page k unit laid b before here =
    both_ways (taken page k unit)
    (taken-by page k unit (λ j l there. apart-no_unit (offset_in (pointer_of page j)) (end_of_room (pointer_of page j)) (offset_in (pointer_of page k)) (end_of_room (pointer_of page k)) unit
    (laid.apart k b j l (covers-normal (pointer_of page j) unit there) (covers-normal (pointer_of page k) unit here))
    (covers-from (pointer_of page j) unit there) (covers-below (pointer_of page j) unit there)
    (covers-from (pointer_of page k) unit here) (covers-below (pointer_of page k) unit here)))
    before

-- the room of a line is that of the units that it takes
room-line : (page : List ℕ) (k : ℕ) → IsPage page → Laid page → k < line_count page → room_of (item_in (lines_of page) k) ≡ 8 * count (covers (pointer_of page k)) 1024
room-line page k rule laid b =
    elim (cases_eq (state_in (pointer_of page k)) 1) [
      | inl normal ↦ sym (room-normal page k (state_in (pointer_of page k)) (length_in (pointer_of page k)) rule b refl refl normal)
          ∙ room-count (pointer_of page k) normal (room-placed page (pointer_of page k) (laid.placed k b normal) (page-size page rule))
      | inr other ↦ sym (room-empty page k (state_in (pointer_of page k)) b refl other)
          ∙ sym (ap (λ n. 8 * n) (count-none (covers (pointer_of page k)) 1024 (λ unit. covers-other (pointer_of page k) unit other)))
    ]

-- the room of the first k lines is that of the units that they take
room-taken : (page : List ℕ) (k : ℕ) → IsPage page → Laid page → k ≤ line_count page → sum_by room_of (take k (lines_of page)) ≡ 8 * count (taken page k) 1024
room-taken page zero rule laid b = sym (ap (λ n. 8 * n) (count-none (taken page 0) 1024 (λ unit. refl)))
room-taken page (suc k) rule laid b =
    let number : suc k ≡ k + 1 = omega arith in
    ap (λ n. sum_by room_of (take n (lines_of page))) number
    ∙ sum_by_more room_of (lines_of page) k unused (omega (arith, b, length-lines page))
    ∙ eight (sum_by room_of (take k (lines_of page))) (room_of (item_in (lines_of page) k)) (count (taken page k) 1024) (count (covers (pointer_of page k)) 1024) (count (taken page (suc k)) 1024)
    (room-taken page k rule laid (omega (arith, b)))
    (room-line page k rule laid (omega (arith, b)))
    (count-or (taken page k) (covers (pointer_of page k)) 1024 (λ unit _. taken-apart page k unit laid (omega (arith, b))))

taken-low : (page : List ℕ) (unit : ℕ) → Laid page → unit < upper_of page / 8 → taken page (line_count page) unit ≡ false
taken-low page unit laid low =
    taken-by page (line_count page) unit
    (λ j l there. let placed = laid.placed j l (covers-normal (pointer_of page j) unit there) in
    omega (arith, placed.past, covers-from (pointer_of page j) unit there, low))

-- the tuples of a page that is laid out fit behind the begin of the tuples
rooms-fit : (page : List ℕ) → IsPage page → IsTrue (is_laid page) → room_in (items_of page) + upper_of page / 8 * 8 ≤ 8192
rooms-fit page rule laid =
    let n : ℕ = line_count page in
    let facts = laid-true page laid in
    let sum = sym (room_in-lines page n (omega arith)) ∙ room-taken page n rule facts (omega arith) in
    let few = count-past (taken page n) 1024 (upper_of page / 8) (λ unit low. taken-low page unit facts low) in
    fit (room_in (items_of page)) (count (taken page n) 1024) (upper_of page) sum few (bounds page laid).inside

-- a tuple that has its room in the free part has it by the sum of all lines
pub gap-fits : (page : List ℕ) (line len : ℕ) → IsPage page → 24 + 4 * max (line_count page) line + aligned len ≤ upper_of page / 8 * 8 → 24 + 4 * max (length (items_of page)) line + (room_in (items_of page) + aligned len) ≤ 8192
gap-fits page line len rule gap =
    elim (page-cases page rule) [
      | inl none ↦ absurd (omega (arith, none.upper, gap))
      | inr laid ↦ omega (arith, rooms-fit page rule laid, length-items page, gap)
    ]

le-of : (a b : ℕ) → nat_le a b ≡ true → a ≤ b
le-of a b h = grind (arith, nat_tests)

not-less : (a b : ℕ) → b ≤ a → false ≡ nat_lt a b
not-less a b h = grind (arith, nat_tests)

pub gap-not_full : (page : List ℕ) (line len : ℕ) → IsPage page → nat_le (24 + 4 * max (line_count page) line + aligned len) (upper_of page / 8 * 8) ≡ true → false ≡ nat_lt 8192 (24 + 4 * max (length (items_of page)) line + (room_in (items_of page) + aligned len))
gap-not_full page line len rule gap =
    not-less 8192 _ (gap-fits page line len rule (le-of _ _ gap))
