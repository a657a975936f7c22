-- The room that tuples take, and changes one after another.
use Rattle.std.proofs.Common.{◌≡◌, ◌≢◌, inl, inr, ℕ, ◌+◌, ◌-◌, ◌*◌, ◌/◌, ◌%◌, ◌<◌, ◌≤◌, max, true, false, List, [], ◌∷◌, ◌++◌, length, take, drop, sum_by, IsTrue, subst, refl, sym, ap, ◌∙◌, arith}
use Rattle.std.proofs.lemmas.Bool.Decides.{nat_tests}
use Rattle.std.proofs.lemmas.Bool.{cases_eq, cases_lt, false≢true}
use Rattle.std.proofs.lemmas.List.{take_all, take-append-drop, length-take-le, length-drop, length-append}
use Rattle.std.proofs.lemmas.List.Sums.{sum_by-cons, sum_by_more, sum_by_more_le, sum_by-take-le}
use Rattle.heap_tuple.specs.Tuple.{IsTuple}
use Rattle.heap_page.specs.Item.{Item, unused, normal, redirect, dead, before_trimmed, trimmed, with_item, item_in, aligned, room_of, room_in, numbered, is_normal, is_unused, tuple_in}
use Rattle.heap_page.specs.Page.{lower_of, upper_of, line_count, pointer_of, offset_in, state_in, length_in, bytes_at, item_of, lines_of, items_of, is_laid, IsPage}
use Rattle.heap_page.specs.Change.{Becomes}
use Rattle.heap_page.proofs.Laid.{Placed, laid-true, item_in-lines}
use Rattle.heap_page.proofs.LineLists.{trimmed-same, trimmed-with_item, item_in-trimmed, item_in-take, item_in-take_past, normal-used}
use Rattle.heap_page.proofs.Changes.{item_of-normal, bounds}
use Rattle.heap_page.proofs.Header.{placed-at, page-size, length-lines, in_use, numbered-at, lines-bound}
use Rattle.heap_page.proofs.Overwrite.{long-tuple}

room_in-before_trimmed : (item : Item) (items : List Item) → room_in (before_trimmed item items) ≡ room_of item + room_in items
room_in-before_trimmed unused [] = refl
room_in-before_trimmed unused (x ∷ xs) = sum_by-cons room_of unused (x ∷ xs)
room_in-before_trimmed (normal b) xs = sum_by-cons room_of (normal b) xs
room_in-before_trimmed (redirect n) xs = sum_by-cons room_of (redirect n) xs
room_in-before_trimmed dead xs = sum_by-cons room_of dead xs

-- unused lines take no room
pub room_in-trimmed : (items : List Item) → room_in (trimmed items) ≡ room_in items
room_in-trimmed [] = refl
room_in-trimmed (x ∷ xs) =
    room_in-before_trimmed x (trimmed xs) ∙ ap (λ n. room_of x + n) (room_in-trimmed xs) ∙ sym (sum_by-cons room_of x xs)

-- each tuple's room is a multiple of 8
room_of-multiple : (item : Item) → room_of item % 8 ≡ 0
room_of-multiple unused = refl
room_of-multiple (normal b) = omega arith
room_of-multiple (redirect n) = refl
room_of-multiple dead = refl

pub room_in-multiple : (items : List Item) → room_in items % 8 ≡ 0
room_in-multiple [] = refl
room_in-multiple (x ∷ xs) = omega (arith, sum_by-cons room_of x xs, room_of-multiple x, room_in-multiple xs)

pub room-normal : (page : List ℕ) (k state len : ℕ) → IsPage page → k < line_count page → state ≡ state_in (pointer_of page k) → len ≡ length_in (pointer_of page k) → state ≡ 1 → aligned len ≡ room_of (item_in (lines_of page) k)
room-normal page k state len rule b s l one =
    let p = placed-at page k state rule b s one in
    let w : ℕ = pointer_of page k in
    let long : length (bytes_at page w) ≡ length_in w =
    length-take-le (length_in w) (drop (offset_in w) page) (omega (arith, length-drop (offset_in w) page, page-size page rule, p.inside)) in
    ap aligned (l ∙ sym long) ∙ sym (ap room_of (item_in-lines page k b ∙ item_of-normal page w (sym s ∙ one)))

pub room-empty : (page : List ℕ) (k state : ℕ) → k < line_count page → state ≡ state_in (pointer_of page k) → (state ≢ 1) → 0 ≡ room_of (item_in (lines_of page) k)
unfolding item_of
room-empty page k state b s other =
    let here : room_of (item_of page (pointer_of page k)) ≡ 0 =
    elim (cases_eq (state_in (pointer_of page k)) 2) [
      | inl two ↦ let is : item_of page (pointer_of page k) ≡ redirect (offset_in (pointer_of page k)) = grind (arith, nat_tests) in ap room_of is
      | inr n2 ↦ elim (cases_eq (state_in (pointer_of page k)) 3) [
        | inl three ↦ let is : item_of page (pointer_of page k) ≡ dead = grind (arith, nat_tests) in ap room_of is
        | inr n3 ↦ let is : item_of page (pointer_of page k) ≡ unused = grind (arith, nat_tests) in ap room_of is
      ]
    ] in
    sym (ap room_of (item_in-lines page k b) ∙ here)

-- one change after another
pub becomes-then : (a b c : List ℕ) (i j : List Item) (l u m v : ℕ) → Becomes a b i l u → Becomes b c j m v → Becomes a c j m v
becomes-then a b c i j l u m v first second =
    record { laid = second.laid; items = second.items; lsn = second.lsn ∙ first.lsn; lower = second.lower; upper = second.upper }

pub becomes-as : (a b : List ℕ) (i j : List Item) (l u m v : ℕ) → Becomes a b i l u → i ≡ j → l ≡ m → u ≡ v → Becomes a b j m v
becomes-as a b i j l u m v h e f g =
    record { laid = h.laid; items = h.items ∙ e; lsn = h.lsn; lower = h.lower ∙ f; upper = h.upper ∙ g }

pub same-becomes : (page : List ℕ) (count : ℕ) → IsTrue (is_laid page) → count ≤ line_count page → Becomes page page (items_of page) (24 + 4 * max (line_count page) count) (upper_of page)
same-becomes page count rule more =
    let b = bounds page rule in
    record { laid = rule; items = refl; lsn = refl; lower = omega (arith, b.lines); upper = refl }

-- a tuple in two parts
pub parts-join : (bytes first rest : List ℕ) → 23 ≤ length bytes → first ≡ take 23 (drop 0 bytes) → rest ≡ take (length bytes - 23) (drop 23 bytes) → first ++ rest ≡ bytes
parts-join bytes first rest long ef er =
    let whole : rest ≡ drop 23 bytes = er ∙ take_all (length bytes - 23) (drop 23 bytes) (omega (arith, length-drop 23 bytes)) in
    ap (λ xs. xs ++ rest) ef ∙ ap (λ xs. take 23 bytes ++ xs) whole ∙ take-append-drop 23 bytes

-- the first lines, and one more
pub take-with_item : (xs : List Item) (k : ℕ) (item : Item) → item ≡ item_in xs k → with_item (trimmed (take k xs)) k item ≡ trimmed (take (k + 1) xs)
take-with_item xs k item e =
    sym (trimmed-with_item (take k xs) (take (k + 1) xs) k item
    (item_in-take xs (k + 1) k (omega arith) ∙ sym e)
    (λ j n. elim (cases_lt j k) [
      | inl below ↦ item_in-take xs (k + 1) j (omega arith) ∙ sym (item_in-take xs k j below)
      | inr past ↦ item_in-take_past xs (k + 1) j (omega (arith, n, past)) ∙ sym (item_in-take_past xs k j past)
    ]))

pub trimmed-all : (page : List ℕ) (n : ℕ) → length (items_of page) ≤ n → trimmed (take n (items_of page)) ≡ items_of page
unfolding items_of
trimmed-all page n h =
    ap trimmed (take_all n (trimmed (lines_of page)) h)
    ∙ trimmed-same (trimmed (lines_of page)) (lines_of page) (λ k. item_in-trimmed (lines_of page) k)

pub item_in-items : (page : List ℕ) (k : ℕ) → item_in (lines_of page) k ≡ item_in (items_of page) k
unfolding items_of
item_in-items page k = sym (item_in-trimmed (lines_of page) k)

pub room_in-lines : (page : List ℕ) (n : ℕ) → line_count page ≤ n → sum_by room_of (take n (lines_of page)) ≡ room_in (items_of page)
unfolding items_of
room_in-lines page n h =
    ap (sum_by room_of) (take_all n (lines_of page) (omega (arith, h, length-lines page))) ∙ sym (room_in-trimmed (lines_of page))

-- the lines of a page are added to another, one by one
pub packed-room : (page packed : List ℕ) (k : ℕ) → k < length (items_of page) → 24 + 4 * length (items_of page) + room_in (items_of page) ≤ 8192 → upper_of packed ≡ 8192 - room_in (take k (items_of page)) → 24 + 4 * (k + 1) + room_of (item_in (lines_of page) k) ≤ upper_of packed
packed-room page packed k below room upper =
    let more = sum_by_more_le room_of (items_of page) k unused below in
    let same : room_of (item_in (lines_of page) k) ≡ room_of (item_in (items_of page) k) = ap room_of (item_in-items page k) in
    omega arith

pub packed-multiple : (page packed : List ℕ) (k : ℕ) → room_in (items_of page) ≤ 8192 → upper_of packed ≡ 8192 - room_in (take k (items_of page)) → upper_of packed % 8 ≡ 0
packed-multiple page packed k room upper =
    omega (arith, room_in-multiple (take k (items_of page)), sum_by-take-le room_of (items_of page) k)

pub packed-more : (page packed next : List ℕ) (k : ℕ) → k < length (items_of page) → Becomes page packed (trimmed (take k (items_of page))) (24 + 4 * k) (8192 - room_in (take k (items_of page))) → Becomes packed next (with_item (items_of packed) k (item_in (lines_of page) k)) (24 + 4 * (k + 1)) (upper_of packed - room_of (item_in (lines_of page) k)) → Becomes page next (trimmed (take (k + 1) (items_of page))) (24 + 4 * (k + 1)) (8192 - room_in (take (k + 1) (items_of page)))
packed-more page packed next k below before step =
    let more = sum_by_more room_of (items_of page) k unused below in
    let same : room_of (item_in (lines_of page) k) ≡ room_of (item_in (items_of page) k) = ap room_of (item_in-items page k) in
    let upper : upper_of packed - room_of (item_in (lines_of page) k) ≡ 8192 - room_in (take (k + 1) (items_of page)) = omega (arith, before.upper) in
    becomes-as page next _ _ _ _ _ _
    (becomes-then page packed next _ _ _ _ _ _ before step)
    (ap (λ xs. with_item xs k (item_in (lines_of page) k)) before.items ∙ take-with_item (items_of page) k (item_in (lines_of page) k) (item_in-items page k))
    refl upper

pub packed-all : (page packed : List ℕ) (k : ℕ) → k ≡ length (items_of page) → Becomes page packed (trimmed (take k (items_of page))) (24 + 4 * k) (8192 - room_in (take k (items_of page))) → Becomes page packed (items_of page) (24 + 4 * length (items_of page)) (8192 - room_in (items_of page))
packed-all page packed k e before =
    becomes-as page packed _ _ _ _ _ _ before
    (trimmed-all page k (omega arith))
    (ap (λ n. 24 + 4 * n) e)
    (ap (λ xs. 8192 - room_in xs) (take_all k (items_of page) (omega arith)))

-- after the tuples were packed there is the room
pub packed-fits : (page packed : List ℕ) (line len : ℕ) → 24 + 4 * max (length (items_of page)) line + (room_in (items_of page) + aligned len) ≤ 8192 → Becomes page packed (items_of page) (24 + 4 * length (items_of page)) (8192 - room_in (items_of page)) → 24 + 4 * max (line_count packed) line + aligned len ≤ upper_of packed / 8 * 8
packed-fits page packed line len room h =
    let count : line_count packed ≡ length (items_of page) = omega (arith, h.lower) in
    let whole : upper_of packed / 8 * 8 ≡ 8192 - room_in (items_of page) = omega (arith, h.upper, room_in-multiple (items_of page)) in
    subst (λ n. 24 + 4 * max n line + aligned len ≤ upper_of packed / 8 * 8) (sym count) (omega (arith, whole))

-- a tuple is put into the free part
pub tuple-placed : (a b c d : List ℕ) (k at len low high : ℕ) (bytes : List ℕ) → Becomes a b (items_of a) low (upper_of a) → Becomes b c (items_of b) (lower_of b) (upper_of b) → take len (drop at c) ≡ bytes → Becomes c d (with_item (items_of c) k (normal (take len (drop at c)))) (lower_of c) at → at ≡ high → Becomes a d (with_item (items_of a) k (normal bytes)) low high
tuple-placed a b c d k at len low high bytes first second part third e =
    becomes-as a d _ _ _ _ _ _
    (becomes-then a b d _ _ _ _ _ _ first (becomes-then b c d _ _ _ _ _ _ second third))
    (ap (λ xs. with_item xs k (normal (take len (drop at c)))) (second.items ∙ first.items) ∙ ap (λ xs. with_item (items_of a) k (normal xs)) part)
    (second.lower ∙ first.lower)
    e

pub tuple-added : (page next : List ℕ) (k : ℕ) (bytes first rest : List ℕ) (item : Item) → line_count page ≡ k → upper_of page % 8 ≡ 0 → first ++ rest ≡ bytes → normal bytes ≡ item → Becomes page next (with_item (items_of page) k (normal (first ++ rest))) (24 + 4 * max (line_count page) (k + 1)) (upper_of page / 8 * 8 - aligned (length first + length rest)) → Becomes page next (with_item (items_of page) k item) (24 + 4 * (k + 1)) (upper_of page - room_of item)
tuple-added page next k bytes first rest item count multiple joined is h =
    let long : length first + length rest ≡ length bytes = sym (length-append first rest) ∙ ap length joined in
    let whole : upper_of page / 8 * 8 ≡ upper_of page = omega arith in
    becomes-as page next _ _ _ _ _ _ h
    (ap (λ xs. with_item (items_of page) k xs) (ap normal joined ∙ is))
    (let low : 24 + 4 * max (line_count page) (k + 1) ≡ 24 + 4 * (k + 1) = omega (arith, count) in low)
    (ap (λ n. n - aligned (length first + length rest)) whole ∙ ap (λ n. upper_of page - aligned n) long ∙ ap (λ x. upper_of page - room_of x) is)

normal-state : (page : List ℕ) (pointer : ℕ) → is_normal (item_of page pointer) ≡ true → state_in pointer ≡ 1
unfolding item_of
normal-state page pointer h =
    elim (cases_eq (state_in pointer) 1) [
      | inl one ↦ one
      | inr n1 ↦ absurd (false≢true (sym (
          elim (cases_eq (state_in pointer) 2) [
            | inl two ↦ let is : item_of page pointer ≡ redirect (offset_in pointer) = grind (arith, nat_tests) in ap is_normal is
            | inr n2 ↦ elim (cases_eq (state_in pointer) 3) [
              | inl three ↦ let is : item_of page pointer ≡ dead = grind (arith, nat_tests) in ap is_normal is
              | inr n3 ↦ let is : item_of page pointer ≡ unused = grind (arith, nat_tests) in ap is_normal is
            ]
          ]) ∙ h))
    ]

-- a line that has a tuple, by its number
pub record NormalLine (page : List ℕ) (n : ℕ) : Type 0 where
  pub laid : IsTrue (is_laid page)
  pub low : 0 < n
  pub below : n - 1 < line_count page
  pub few : n - 1 < 2042
  pub points : state_in (pointer_of page (n - 1)) ≡ 1
  pub placed : Placed page (pointer_of page (n - 1))
  pub header_fits : 24 ≤ length_in (pointer_of page (n - 1))
  pub bytes : tuple_in (numbered (items_of page) n) ≡ bytes_at page (pointer_of page (n - 1))

pub normal_line : (page : List ℕ) (n : ℕ) → IsPage page → is_normal (numbered (items_of page) n) ≡ true → NormalLine page n
normal_line page n rule h =
    let used = in_use page n rule (normal-used _ h) in
    let w : ℕ = pointer_of page (n - 1) in
    let is : numbered (items_of page) n ≡ item_of page w = sym (numbered-at page n used.low) ∙ item_in-lines page (n - 1) used.below in
    let points = normal-state page w (ap is_normal (sym is) ∙ h) in
    let p = (laid-true page used.laid).placed (n - 1) used.below points in
    record {
      laid = used.laid;
      low = used.low;
      below = used.below;
      few = omega (arith, used.below, lines-bound page rule);
      points = points;
      placed = p;
      header_fits = long-tuple page w p (page-size page rule);
      bytes = ap tuple_in (is ∙ item_of-normal page w points);
    }

-- a tuple among the items of a page keeps the tuple rule
pub tuple-of-page : (page : List ℕ) (n : ℕ) (bytes : List ℕ) → IsPage page → numbered (items_of page) n ≡ normal bytes → IsTuple bytes
tuple-of-page page n bytes h e =
    let line = normal_line page n h (ap is_normal e) in
    subst IsTuple (sym line.bytes ∙ ap tuple_in e) line.placed.tuple
