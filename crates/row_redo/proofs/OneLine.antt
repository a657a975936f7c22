-- A change of one line of a page, where it is not refused.
use Rattle.std.proofs.Common.{◌≡◌, ◌≢◌, ℕ, zero, suc, ◌-◌, ◌<◌, Bool, true, false, not, nat_lt, List, Result, Ok, Err, refl, sym, ap, subst, ◌∙◌, arith, if◌then◌else◌}
use Rattle.std.proofs.lemmas.Bool.Decides.{nat_tests}
use Rattle.heap_tuple.specs.Tuple.{is_tuple, IsTuple}
use Rattle.heap_page.specs.Item.{Item, unused, normal, redirect, dead, trimmed, with_line, with_item, is_normal, is_unused, numbered, tuple_in}
use Rattle.heap_page.proofs.LineLists.{item_in-trimmed, item_in-with_line_same, item_in-with_line_other}
use Rattle.heap_page.specs.Put.{is_free, size_with, put_answer, with_head, set_head_answer, set_line_answer}
use Rattle.heap_page.specs.declared.line.PageError.{PageError}
use Rattle.heap_page.specs.declared.line.PageError.TheVariants.{Full, NoLine, BadPage}
use Rattle.heap_redo.specs.TupleHeads.{Head, head_of, head_bytes}
use Rattle.heap_redo.specs.After.{answered, put, change_head, set_line}

-- one line of the items became this one, and the others are as they were
pub record OneLine (line : ℕ) (item : Item) (items after : List Item) : Type 0 where
  pub here : numbered after line ≡ item
  pub others : (n : ℕ) → n ≢ line → numbered after n ≡ numbered items n

one-line : (line : ℕ) (item : Item) (items : List Item) → 0 < line → OneLine line item items (with_item items (line - 1) item)
unfolding with_item
one-line zero item items h = absurd (omega arith)
one-line (suc k) item items h =
    let same : suc k - 1 ≡ k = omega arith in
    let lines = with_line items k item in
    subst (λ (i : ℕ). OneLine (suc k) item items (trimmed (with_line items i item))) (sym same)
    (record {
      here = item_in-trimmed lines k ∙ item_in-with_line_same items k item;
      others = other;
    })
  where
    other : (n : ℕ) → n ≢ suc k → numbered (trimmed (with_line items k item)) n ≡ numbered items n
    other zero n = refl
    other (suc j) n = item_in-trimmed (with_line items k item) j ∙ item_in-with_line_other items k j item (λ e. n (ap suc e))

-- a tuple was put to a free line
pub record IsPut (line : ℕ) (tuple : List ℕ) (items after : List Item) : Type 0 where
  pub rule : IsTuple tuple
  pub lines : OneLine line (normal tuple) items after

put-tests :
    (line : ℕ) (items after : List Item) (free is_good long : Bool)
    → answered line items (if not free then Err NoLine else if not is_good then Err BadPage else if long then Err Full else Ok tt) ≡ Ok after
    → (free ≡ true) × (is_good ≡ true) × (items ≡ after)
put-tests line items after true true false e = (refl, refl, cc)
put-tests line items after true true true e = absurd (cc)
put-tests line items after true false long e = absurd (cc)
put-tests line items after false is_good long e = absurd (cc)

pub put-done : (line : ℕ) (tuple : List ℕ) (items after : List Item) → put line tuple items ≡ Ok after → IsPut line tuple items after
unfolding put put_answer
put-done line tuple items after e =
    let (free, is_good, same) = put-tests line (with_item items (line - 1) (normal tuple)) after (is_free items line) (is_tuple tuple) (nat_lt 8192 (size_with items line tuple)) e in
    let positive : 0 < line = grind (arith, nat_tests) in
    record {
      rule = grind (arith, nat_tests);
      lines = subst (OneLine line (normal tuple) items) same (one-line line (normal tuple) items positive);
    }

-- a tuple with its header changed in this way
abbrev pub changed_tuple : (Head → Head) → List ℕ → List ℕ
changed_tuple f tuple = with_head tuple (head_bytes (f (head_of tuple)))

-- the header of a line's tuple was changed in this way
pub record IsChanged (line : ℕ) (f : Head → Head) (items after : List Item) : Type 0 where
  pub tuple : List ℕ
  pub was : numbered items line ≡ normal tuple
  pub rule : IsTuple (changed_tuple f tuple)
  pub lines : OneLine line (normal (changed_tuple f tuple)) items after

abbrev head_answer : (Head → Head) → Item → Result (Unit {0}) PageError
head_answer f item =
    if not (is_normal item) then Err NoLine
    else if not (is_tuple (changed_tuple f (tuple_in item))) then Err BadPage
    else Ok tt

good-tests :
    (line : ℕ) (items after : List Item) (is_good : Bool)
    → answered line items (if not is_good then Err BadPage else Ok tt) ≡ Ok after → (is_good ≡ true) × (items ≡ after)
good-tests line items after true e = (refl, cc)
good-tests line items after false e = absurd (cc)

change-tests :
    (line : ℕ) (f : Head → Head) (items after : List Item) (item : Item) → numbered items line ≡ item
    → answered line (with_item items (line - 1) (normal (changed_tuple f (tuple_in item)))) (head_answer f item) ≡ Ok after
    → IsChanged line f items after
change-tests line f items after unused was e = absurd (cc)
change-tests line f items after (redirect to) was e = absurd (cc)
change-tests line f items after dead was e = absurd (cc)
change-tests line f items after (normal tuple) was e =
    let (is_good, same) = good-tests line (with_item items (line - 1) (normal (changed_tuple f tuple))) after (is_tuple (changed_tuple f tuple)) e in
    record {
      tuple = tuple;
      was = was;
      rule = grind (arith, nat_tests);
      lines = subst (OneLine line (normal (changed_tuple f tuple)) items) same
          (one-line line (normal (changed_tuple f tuple)) items (positive line was));
    }
  where
    positive : (n : ℕ) → numbered items n ≡ normal tuple → 0 < n
    positive zero h = absurd (cc)
    positive (suc n) h = omega arith

pub change-done : (line : ℕ) (f : Head → Head) (items after : List Item) → change_head line f items ≡ Ok after → IsChanged line f items after
unfolding change_head set_head_answer
change-done line f items after e = change-tests line f items after (numbered items line) refl e

set-tests :
    (line : ℕ) (items after : List Item) (free : Bool) → answered line items (if free then Err NoLine else Ok tt) ≡ Ok after
    → (free ≡ false) × (items ≡ after)
set-tests line items after true e = absurd (cc)
set-tests line items after false e = (refl, cc)

-- a line that is in use became this one
pub set-done : (line : ℕ) (item : Item) (items after : List Item) → set_line line item items ≡ Ok after → OneLine line item items after
unfolding set_line set_line_answer
set-done line item items after e =
    let (used, same) = set-tests line (with_item items (line - 1) item) after (is_unused (numbered items line)) e in
    subst (OneLine line item items) same (one-line line item items (positive line used))
  where
    positive : (n : ℕ) → is_unused (numbered items n) ≡ false → 0 < n
    positive zero h = absurd (cc)
    positive (suc n) h = omega arith
