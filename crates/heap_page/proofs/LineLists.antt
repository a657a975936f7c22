-- Lists of lines: what stands at a line, and when two lists show the same items.
use Rattle.std.proofs.Common.{◌-◌, true, false, arith, ◌≡◌, ◌≢◌, inl, inr, ℕ, zero, suc, ◌+◌, ◌<◌, ◌≤◌, List, [], ◌∷◌, length, take, refl, sym, ap, ◌∙◌, Bool}
use Rattle.std.proofs.lemmas.Bool.{cases_eq, cases_lt, false≢true}
use Rattle.std.proofs.lemmas.List.{get_or-take, get_or_past, length-take}
use Rattle.heap_page.specs.Item.{Item, unused, normal, redirect, dead, before_trimmed, trimmed, with_line, with_item, item_in, is_unused, numbered, is_normal}

-- a line shows the same with and without the unused lines at the end
item_in-before_trimmed : (item : Item) (items : List Item) (k : ℕ) → item_in (before_trimmed item items) k ≡ item_in (item ∷ items) k
item_in-before_trimmed unused [] zero = refl
item_in-before_trimmed unused [] (suc k) = refl
item_in-before_trimmed unused (x ∷ xs) k = refl
item_in-before_trimmed (normal b) xs k = refl
item_in-before_trimmed (redirect n) xs k = refl
item_in-before_trimmed dead xs k = refl

pub item_in-trimmed : (items : List Item) (k : ℕ) → item_in (trimmed items) k ≡ item_in items k
item_in-trimmed [] k = refl
item_in-trimmed (x ∷ xs) zero = item_in-before_trimmed x (trimmed xs) zero
item_in-trimmed (x ∷ xs) (suc k) = item_in-before_trimmed x (trimmed xs) (suc k) ∙ item_in-trimmed xs k

trimmed-unused : (items : List Item) → ((k : ℕ) → item_in items k ≡ unused) → trimmed items ≡ []
trimmed-unused [] h = refl
trimmed-unused (x ∷ xs) h =
    ap (before_trimmed x) (trimmed-unused xs (λ k. h (suc k))) ∙ ap (λ item. before_trimmed item []) (h 0)

-- lists that show the same at each line show the same items
pub trimmed-same : (xs ys : List Item) → ((k : ℕ) → item_in xs k ≡ item_in ys k) → trimmed xs ≡ trimmed ys
trimmed-same [] ys h = sym (trimmed-unused ys (λ k. sym (h k)))
trimmed-same (x ∷ xs) [] h = trimmed-unused (x ∷ xs) h
trimmed-same (x ∷ xs) (y ∷ ys) h =
    ap (before_trimmed x) (trimmed-same xs ys (λ k. h (suc k))) ∙ ap (λ item. before_trimmed item (trimmed ys)) (h 0)

pub item_in-with_line_same : (items : List Item) (k : ℕ) (item : Item) → item_in (with_line items k item) k ≡ item
item_in-with_line_same [] zero item = refl
item_in-with_line_same [] (suc k) item = item_in-with_line_same [] k item
item_in-with_line_same (x ∷ xs) zero item = refl
item_in-with_line_same (x ∷ xs) (suc k) item = item_in-with_line_same xs k item

pub item_in-with_line_other : (items : List Item) (k j : ℕ) (item : Item) → j ≢ k → item_in (with_line items k item) j ≡ item_in items j
item_in-with_line_other [] zero zero item n = absurd (n refl)
item_in-with_line_other [] zero (suc j) item n = refl
item_in-with_line_other [] (suc k) zero item n = refl
item_in-with_line_other [] (suc k) (suc j) item n = item_in-with_line_other [] k j item (λ e. n (ap suc e))
item_in-with_line_other (x ∷ xs) zero zero item n = absurd (n refl)
item_in-with_line_other (x ∷ xs) zero (suc j) item n = refl
item_in-with_line_other (x ∷ xs) (suc k) zero item n = refl
item_in-with_line_other (x ∷ xs) (suc k) (suc j) item n = item_in-with_line_other xs k j item (λ e. n (ap suc e))

-- the items of a list that differs from another at one line
pub trimmed-with_item : (old new : List Item) (k : ℕ) (item : Item) → item_in new k ≡ item → ((j : ℕ) → j ≢ k → item_in new j ≡ item_in old j) → trimmed new ≡ with_item (trimmed old) k item
unfolding with_item
trimmed-with_item old new k item here others =
    trimmed-same new (with_line (trimmed old) k item)
    (λ j. elim (cases_eq j k) [
      | inl e ↦ ap (item_in new) e ∙ here ∙ sym (item_in-with_line_same (trimmed old) k item) ∙ ap (item_in (with_line (trimmed old) k item)) (sym e)
      | inr n ↦ others j n ∙ sym (item_in-with_line_other (trimmed old) k j item n ∙ item_in-trimmed old j)
    ])

-- the first lines of a list
pub item_in-take : (xs : List Item) (n k : ℕ) → k < n → item_in (take n xs) k ≡ item_in xs k
item_in-take xs n k h = get_or-take n xs k unused h

pub item_in-take_past : (xs : List Item) (n k : ℕ) → n ≤ k → item_in (take n xs) k ≡ unused
item_in-take_past xs n k h = get_or_past (take n xs) k unused (omega (arith, length-take n xs))

pub trimmed-take_unused : (xs : List Item) (k : ℕ) → item_in xs k ≡ unused → trimmed (take (k + 1) xs) ≡ trimmed (take k xs)
trimmed-take_unused xs k e =
    trimmed-same (take (k + 1) xs) (take k xs)
    (λ j. elim (cases_lt j k) [
      | inl below ↦ item_in-take xs (k + 1) j (omega arith) ∙ sym (item_in-take xs k j below)
      | inr past ↦ elim (cases_eq j k) [
        | inl here ↦ item_in-take xs (k + 1) j (omega arith) ∙ ap (item_in xs) here ∙ e ∙ sym (item_in-take_past xs k j past)
        | inr other ↦ item_in-take_past xs (k + 1) j (omega (arith, other, past)) ∙ sym (item_in-take_past xs k j past)
      ]
    ])

length-before_trimmed : (item : Item) (items : List Item) → length (before_trimmed item items) ≤ length items + 1
length-before_trimmed unused [] = omega arith
length-before_trimmed unused (x ∷ xs) = omega arith
length-before_trimmed (normal b) xs = omega arith
length-before_trimmed (redirect n) xs = omega arith
length-before_trimmed dead xs = omega arith

pub length-trimmed : (xs : List Item) → length (trimmed xs) ≤ length xs
length-trimmed [] = omega arith
length-trimmed (x ∷ xs) = omega (arith, length-before_trimmed x (trimmed xs), length-trimmed xs)

-- a line that is in use is among the items
pub in_trimmed : (xs : List Item) (k : ℕ) → is_unused (item_in xs k) ≡ false → k < length (trimmed xs)
in_trimmed xs k e =
    elim (cases_lt k (length (trimmed xs))) [
      | inl below ↦ below
      | inr past ↦
          let none : item_in xs k ≡ unused = sym (item_in-trimmed xs k) ∙ get_or_past (trimmed xs) k unused past in
          absurd (false≢true (sym e ∙ ap is_unused none))
    ]

pub length-trimmed_take : (xs : List Item) (k : ℕ) → is_unused (item_in xs k) ≡ false → length (trimmed (take (k + 1) xs)) ≡ k + 1
length-trimmed_take xs k e =
    let low = in_trimmed (take (k + 1) xs) k (ap is_unused (item_in-take xs (k + 1) k (omega arith)) ∙ e) in
    let high = length-trimmed (take (k + 1) xs) in
    omega (arith, length-take (k + 1) xs)

pub unused-is : (item : Item) → is_unused item ≡ true → item ≡ unused
unused-is unused e = refl
unused-is (normal b) e = absurd (false≢true e)
unused-is (redirect n) e = absurd (false≢true e)
unused-is dead e = absurd (false≢true e)

-- a line number that is in use
pub used-number : (items : List Item) (n : ℕ) → is_unused (numbered items n) ≡ false → (0 < n) × (n - 1 < length items) × (numbered items n ≡ item_in items (n - 1))
used-number items zero e = absurd (false≢true (sym e))
used-number items (suc k) e =
    let same : suc k - 1 ≡ k = omega arith in
    let low : k < length items = elim (cases_lt k (length items)) [
      | inl below ↦ below
      | inr past ↦ absurd (false≢true (sym e ∙ ap is_unused (get_or_past items k unused past)))
    ] in
    (omega arith, omega arith, ap (item_in items) (sym same))

-- a changed line, and the others, by their numbers from 1
pub changed-line : (items : List Item) (k : ℕ) (item : Item) → numbered (with_item items k item) (k + 1) ≡ item
unfolding with_item
changed-line items k item =
    let one : k + 1 ≡ suc k = omega arith in
    ap (numbered (trimmed (with_line items k item))) one
    ∙ item_in-trimmed (with_line items k item) k ∙ item_in-with_line_same items k item

pub other-line : (items : List Item) (k : ℕ) (item : Item) (n : ℕ) → n ≢ k + 1 → numbered (with_item items k item) n ≡ numbered items n
unfolding with_item
other-line items k item zero h = refl
other-line items k item (suc j) h =
    item_in-trimmed (with_line items k item) j ∙ item_in-with_line_other items k j item (λ e. h (omega (arith, e)))

pub trimmed-trimmed : (items : List Item) → trimmed (trimmed items) ≡ trimmed items
trimmed-trimmed items = trimmed-same (trimmed items) items (item_in-trimmed items)

-- a line with a tuple is used
pub normal-used : (item : Item) → is_normal item ≡ true → is_unused item ≡ false
normal-used unused h = absurd (false≢true h)
normal-used (normal b) h = refl
normal-used (redirect n) h = absurd (false≢true h)
normal-used dead h = absurd (false≢true h)
