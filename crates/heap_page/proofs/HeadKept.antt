-- A tuple that gets another header leaves what `put` answers.
use Rattle.std.proofs.Common.{◌≡◌, inl, inr, ℕ, zero, suc, ◌+◌, ◌-◌, ◌*◌, ◌<◌, ◌≤◌, ◌==◌, ◌&&◌, max, Bool, true, false, not, cond, nat_lt, List, [], ◌∷◌, length, drop, Result, Ok, Err, is_ok, refl, sym, ap, ◌∙◌, arith, length-append}
use Rattle.std.proofs.lemmas.Bool.{cases_eq, false≢true}
use Rattle.std.proofs.lemmas.List.{length-drop}
use Rattle.std.proofs.lemmas.List.Sums.{sum_by-cons}
use Rattle.heap_tuple.specs.Tuple.{is_tuple}
use Rattle.heap_tuple.proofs.TupleFacts.{tuple_facts}
use Rattle.heap_page.specs.Item.{Item, unused, normal, redirect, dead, before_trimmed, trimmed, with_line, with_item, item_in, numbered, aligned, room_of, room_in, is_unused, is_normal, tuple_in}
use Rattle.heap_page.specs.Put.{put_answer, set_head_answer, with_head}
use Rattle.heap_page.specs.declared.line.PageError.{PageError}
use Rattle.heap_page.specs.declared.line.PageError.TheVariants.{Full, NoLine, BadPage}
use Rattle.heap_page.proofs.LineLists.{used-number, changed-line, other-line, normal-used}

before-tail : (x : Item) (ys xs : List Item) → before_trimmed x ys ≡ x ∷ xs → ys ≡ xs
before-tail unused [] xs e = absurd (omega (arith, ap (length {A = Item}) e))
before-tail unused (y ∷ ys) xs e = ap (drop 1) e
before-tail (normal b) ys xs e = ap (drop 1) e
before-tail (redirect n) ys xs e = ap (drop 1) e
before-tail dead ys xs e = ap (drop 1) e

before-more : (x : Item) (ys : List Item) → 0 < length ys → before_trimmed x ys ≡ x ∷ ys
before-more unused [] h = absurd (omega arith)
before-more unused (y ∷ ys) h = refl
before-more (normal b) ys h = refl
before-more (redirect n) ys h = refl
before-more dead ys h = refl

length-with_line : (items : List Item) (k : ℕ) (item : Item) → k < length items → length (with_line items k item) ≡ length items
length-with_line [] k item h = absurd (omega arith)
length-with_line (x ∷ xs) zero item h = refl
length-with_line (x ∷ xs) (suc k) item h = ap suc (length-with_line xs k item (omega arith))

room-with_line : (items : List Item) (k : ℕ) (item : Item) → k < length items → room_of item ≡ room_of (item_in items k) → room_in (with_line items k item) ≡ room_in items
room-with_line [] k item h e = absurd (omega arith)
room-with_line (x ∷ xs) zero item h e =
    sum_by-cons room_of item xs ∙ ap (λ n. n + room_in xs) e ∙ sym (sum_by-cons room_of x xs)
room-with_line (x ∷ xs) (suc k) item h e =
    sum_by-cons room_of x (with_line xs k item) ∙ ap (λ n. room_of x + n) (room-with_line xs k item (omega arith) e) ∙ sym (sum_by-cons room_of x xs)

-- a line in use that becomes a tuple leaves the last line in use
with_item-kept : (items : List Item) (k : ℕ) (b : List ℕ) → k < length items → trimmed items ≡ items → trimmed (with_line items k (normal b)) ≡ with_line items k (normal b)
with_item-kept [] k b h e = absurd (omega arith)
with_item-kept (x ∷ xs) zero b h e = ap (λ ys. normal b ∷ ys) (before-tail x (trimmed xs) xs e)
with_item-kept (x ∷ xs) (suc k) b h e =
    let rest = with_item-kept xs k b (omega arith) (before-tail x (trimmed xs) xs e) in
    ap (before_trimmed x) rest
    ∙ before-more x (with_line xs k (normal b)) (omega (arith, length-with_line xs k (normal b) (omega arith)))

normal-is : (item : Item) → is_normal item ≡ true → item ≡ normal (tuple_in item)
normal-is unused e = absurd (false≢true e)
normal-is (normal b) e = refl
normal-is (redirect n) e = absurd (false≢true e)
normal-is dead e = absurd (false≢true e)

abbrev head_by : Bool → Bool → Result (Unit {0}) PageError
head_by line tuple = cond (not line) (Err NoLine) (cond (not tuple) (Err BadPage) (Ok tt))

head-ok : (line tuple : Bool) → head_by line tuple ≡ Ok tt → (line ≡ true) × (tuple ≡ true)
head-ok true true e = (refl, refl)
head-ok true false e = absurd (false≢true (ap is_ok e))
head-ok false tuple e = absurd (false≢true (ap is_ok e))

pub head-answered : (items : List Item) (line : ℕ) (head : List ℕ) → set_head_answer items line head ≡ Ok tt → (is_normal (numbered items line) ≡ true) × (is_tuple (with_head (tuple_in (numbered items line)) head) ≡ true)
unfolding set_head_answer
head-answered items line head e = head-ok (is_normal (numbered items line)) (is_tuple (with_head (tuple_in (numbered items line)) head)) e

same-room : (head tuple : List ℕ) → length head ≡ 23 → 24 ≤ length (with_head tuple head) → aligned (length (with_head tuple head)) ≡ aligned (length tuple)
same-room head tuple h header_fits =
    let n : length (with_head tuple head) ≡ length tuple = omega (arith, h, header_fits, length-append head (drop 23 tuple), length-drop 23 tuple) in
    ap aligned n

module _ (items : List Item) (line : ℕ) (head : List ℕ) (last : trimmed items ≡ items) (size : length head ≡ 23) (answer : set_head_answer items line head ≡ Ok tt) where
  abbrev tuple : List ℕ
  tuple = with_head (tuple_in (numbered items line)) head

  abbrev after : List Item
  after = with_item items (line - 1) (normal tuple)

  used : (0 < line) × (line - 1 < length items) × (numbered items line ≡ item_in items (line - 1))
  used = used-number items line (normal-used (numbered items line) (head-answered items line head answer).0)

  after-is : after ≡ with_line items (line - 1) (normal tuple)
  unfolding with_item
  after-is = with_item-kept items (line - 1) tuple used.1 last

  same-length : length after ≡ length items
  same-length = ap length after-is ∙ length-with_line items (line - 1) (normal tuple) used.1

  same-rooms : room_in after ≡ room_in items
  same-rooms =
      let facts = tuple_facts tuple (head-answered items line head answer).1 in
      let here : item_in items (line - 1) ≡ normal (tuple_in (numbered items line)) = sym used.2 ∙ normal-is (numbered items line) (head-answered items line head answer).0 in
      ap room_in after-is
      ∙ room-with_line items (line - 1) (normal tuple) used.1
      (same-room head (tuple_in (numbered items line)) size (omega (arith, facts.header_fits)) ∙ sym (ap room_of here))

  same-use : (n : ℕ) → is_unused (numbered after n) ≡ is_unused (numbered items n)
  same-use n =
      let number : line - 1 + 1 ≡ line = omega (arith, used.0) in
      elim (cases_eq n line) [
        | inl here ↦ ap (λ m. is_unused (numbered after m)) (here ∙ sym number)
            ∙ ap is_unused (changed-line items (line - 1) (normal tuple))
            ∙ sym (ap (λ m. is_unused (numbered items m)) here ∙ normal-used (numbered items line) (head-answered items line head answer).0)
        | inr other ↦ ap is_unused (other-line items (line - 1) (normal tuple) n (omega (arith, other, used.0)))
      ]

  pub head-keeps_put : (n : ℕ) (new : List ℕ) → put_answer after n new ≡ put_answer items n new
  unfolding put_answer
  head-keeps_put n new =
      let answered : Bool → ℕ → ℕ → Result (Unit {0}) PageError =
      λ taken count room. cond (not (not (n == 0) && taken)) (Err NoLine) (cond (not (is_tuple new)) (Err BadPage) (cond (nat_lt 8192 (24 + 4 * max count n + (room + aligned (length new)))) (Err Full) (Ok tt))) in
      ap (λ v. answered v (length after) (room_in after)) (same-use n)
      ∙ ap (λ v. answered (is_unused (numbered items n)) v (room_in after)) same-length
      ∙ ap (λ v. answered (is_unused (numbered items n)) (length items) v) same-rooms
