-- A page after a change that leaves its tuples where they are.
use Rattle.std.proofs.Common.{◌≡◌, ◌≢◌, ◌⊎◌, inl, inr, ℕ, ◌+◌, ◌<◌, ◌≤◌, Bool, true, false, cond, List, length, subst, refl, sym, ap, ◌∙◌, arith}
use Rattle.std.proofs.lemmas.Bool.{cases_lt, eqb-true}
use Rattle.std.specs.Prelude.{◌==◌}
use Rattle.heap_tuple.specs.Tuple.{IsTuple}
use Rattle.heap_page.specs.Item.{Item, unused, normal, with_item, item_in}
use Rattle.heap_page.specs.Page.{upper_of, line_count, pointer_of, offset_in, state_in, length_in, bytes_at, item_of, lines_of, items_of, end_of_room}
use Rattle.heap_page.proofs.Written.{SameFrom, same-within, part-same}
use Rattle.heap_page.proofs.LineLists.{trimmed-same, trimmed-with_item}
use Rattle.heap_page.proofs.Laid.{Header, Placed, PlacedIf, Apart, Laid, item_in-lines, item_in-past}

-- the header stays one, and no byte from the tuples' begin on has changed
pub record Kept (old new : List ℕ) : Type 0 where
  pub old_length : length old ≡ 8192
  pub new_length : length new ≡ 8192
  pub header : Header new
  pub upper : upper_of new ≤ upper_of old
  pub tuples : SameFrom (upper_of old) 8192 new old

-- what has become of line k: it is as before, or shows no tuple, or is the one that now points to a
-- tuple before all others
pub data LineKept (old new : List ℕ) (fresh k : ℕ) : Type 0 where
  same : k < line_count old → pointer_of new k ≡ pointer_of old k → LineKept old new fresh k
  empty : (state_in (pointer_of new k) ≢ 1) → LineKept old new fresh k
  placed : k ≡ fresh → Placed new (pointer_of new k) → end_of_room (pointer_of new k) ≤ upper_of old → LineKept old new fresh k

bytes_at-kept : (old new : List ℕ) → Kept old new → (pointer : ℕ) → upper_of old ≤ offset_in pointer → offset_in pointer + length_in pointer ≤ 8192 → bytes_at new pointer ≡ bytes_at old pointer
bytes_at-kept old new h pointer past inside =
    part-same (offset_in pointer) (length_in pointer) new old (h.new_length ∙ sym h.old_length) (omega (arith, h.old_length))
    (same-within (upper_of old) 8192 _ _ new old h.tuples past inside)

placed-kept : (old new : List ℕ) → Kept old new → (pointer : ℕ) → Placed old pointer → Placed new pointer
placed-kept old new h pointer p = record {
  multiple = p.multiple;
  past = omega (arith, h.upper, p.past);
  inside = p.inside;
  tuple = subst IsTuple (sym (bytes_at-kept old new h pointer p.past p.inside)) p.tuple;
}

placed-line : (old new : List ℕ) → Laid old → Kept old new → (fresh k : ℕ) → LineKept old new fresh k → PlacedIf new (pointer_of new k)
placed-line old new laid h fresh k (same below e) points =
    subst (Placed new) (sym e)
    (placed-kept old new h (pointer_of old k) (laid.placed k below (ap state_in (sym e) ∙ points)))
placed-line old new laid h fresh k (empty other) points = absurd (other points)
placed-line old new laid h fresh k (placed e p _) points = p

apart-lines : (old new : List ℕ) → Laid old → (fresh k j : ℕ) → j < k → LineKept old new fresh k → LineKept old new fresh j → Apart (pointer_of new j) (pointer_of new k)
apart-lines old new laid fresh k j l (same below e) (same low f) first second =
    subst (λ p. (end_of_room p ≤ offset_in (pointer_of new k)) ⊎ (end_of_room (pointer_of new k) ≤ offset_in p)) (sym f)
    (subst (λ p. (end_of_room (pointer_of old j) ≤ offset_in p) ⊎ (end_of_room p ≤ offset_in (pointer_of old j))) (sym e)
    (laid.apart k below j l (ap state_in (sym f) ∙ first) (ap state_in (sym e) ∙ second)))
apart-lines old new laid fresh k j l (same below e) (empty other) first second = absurd (other first)
apart-lines old new laid fresh k j l (same below e) (placed f p room) first second =
    let q = laid.placed k below (ap state_in (sym e) ∙ second) in
    inl (subst (λ p. end_of_room (pointer_of new j) ≤ offset_in p) (sym e) (omega (arith, q.past, room)))
apart-lines old new laid fresh k j l (empty other) before first second = absurd (other second)
apart-lines old new laid fresh k j l (placed e p room) (same low f) first second =
    let q = laid.placed j low (ap state_in (sym f) ∙ first) in
    inr (subst (λ p. end_of_room (pointer_of new k) ≤ offset_in p) (sym f) (omega (arith, q.past, room)))
apart-lines old new laid fresh k j l (placed e p room) (empty other) first second = absurd (other first)
apart-lines old new laid fresh k j l (placed e p room) (placed f q roomy) first second = absurd (omega arith)

-- the page rule stands after such a change
pub laid-kept : (old new : List ℕ) → Laid old → Kept old new → (fresh : ℕ) → ((k : ℕ) → k < line_count new → LineKept old new fresh k) → Laid new
laid-kept old new laid h fresh each = record {
  header = h.header;
  placed = λ k b. placed-line old new laid h fresh k (each k b);
  apart = λ k b j l. apart-lines old new laid fresh k j l (each k b) (each j (omega (arith, b, l)));
}

if_same : (b : Bool) (x y z : Item) → (b ≡ true → x ≡ y) → cond b x z ≡ cond b y z
if_same true x y z h = h refl
if_same false x y z h = refl

pub item_of-same : (old new : List ℕ) (pointer : ℕ) → (state_in pointer ≡ 1 → bytes_at new pointer ≡ bytes_at old pointer) → item_of new pointer ≡ item_of old pointer
unfolding item_of
item_of-same old new pointer h = if_same (state_in pointer == 1) _ _ _ (λ e. ap normal (h (eqb-true _ _ e)))

-- a line whose pointer is as before shows the same item
pub item-kept : (old new : List ℕ) → Laid old → Kept old new → (k : ℕ) → k < line_count old → k < line_count new → pointer_of new k ≡ pointer_of old k → item_in (lines_of new) k ≡ item_in (lines_of old) k
item-kept old new laid h k below b e =
    item_in-lines new k b ∙ ap (item_of new) e
    ∙ item_of-same old new (pointer_of old k)
    (λ points. let p = laid.placed k below points in bytes_at-kept old new h (pointer_of old k) p.past p.inside)
    ∙ sym (item_in-lines old k below)

-- nothing changes where each line is as before, but for unused lines at the end
pub items-kept : (old new : List ℕ) → Laid old → Kept old new → line_count old ≤ line_count new → ((k : ℕ) → k < line_count old → pointer_of new k ≡ pointer_of old k) → ((k : ℕ) → line_count old ≤ k → k < line_count new → item_of new (pointer_of new k) ≡ unused) → items_of new ≡ items_of old
unfolding items_of
items-kept old new laid h more pointers added =
    trimmed-same (lines_of new) (lines_of old)
    (λ k. elim (cases_lt k (line_count old)) [
      | inl below ↦ item-kept old new laid h k below (omega (arith, more, below)) (pointers k below)
      | inr past ↦ elim (cases_lt k (line_count new)) [
        | inl b ↦ item_in-lines new k b ∙ added k past b ∙ sym (item_in-past old k past)
        | inr beyond ↦ item_in-past new k beyond ∙ sym (item_in-past old k past)
      ]
    ])

-- one line changes where the others are as before
pub items-changed : (old new : List ℕ) → Laid old → Kept old new → (k : ℕ) → k < line_count old → line_count new ≡ line_count old → ((j : ℕ) → j < line_count old → j ≢ k → pointer_of new j ≡ pointer_of old j) → items_of new ≡ with_item (items_of old) k (item_of new (pointer_of new k))
unfolding items_of
items-changed old new laid h k below count pointers =
    trimmed-with_item (lines_of old) (lines_of new) k (item_of new (pointer_of new k))
    (item_in-lines new k (omega (arith, count, below)))
    (λ j n. elim (cases_lt j (line_count old)) [
      | inl b ↦ item-kept old new laid h j b (omega (arith, count, b)) (pointers j b n)
      | inr past ↦ item_in-past new j (omega (arith, count, past)) ∙ sym (item_in-past old j past)
    ])
