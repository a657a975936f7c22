-- What follows where a change of a line is not refused.
use Rattle.std.proofs.Common.{◌≡◌, ℕ, ◌+◌, ◌-◌, ◌*◌, ◌<◌, ◌≤◌, ◌==◌, Bool, true, false, not, max, nat_lt, cond, List, ◌++◌, length, Result, Ok, Err, subst, refl, sym, ap, ◌∙◌, arith}
use Rattle.std.proofs.lemmas.Bool.{and_parts}
use Rattle.std.proofs.lemmas.Bool.Decides.{nat_tests}
use Rattle.std.proofs.lemmas.List.{length-append}
use Rattle.heap_tuple.specs.Tuple.{is_tuple, IsTuple}
use Rattle.heap_page.specs.Item.{Item, numbered, is_unused, is_normal, tuple_in, aligned, room_in}
use Rattle.heap_page.specs.Page.{pointer_of, bytes_at, items_of, IsPage}
use Rattle.heap_page.specs.Put.{is_free, size_with, put_answer, set_head_answer, with_head}
use Rattle.heap_page.specs.declared.line.PageError.{PageError}
use Rattle.heap_page.specs.declared.line.PageError.TheVariants.{NoLine, BadPage, Full}
use Rattle.heap_page.proofs.Rooms.{NormalLine, normal_line}

-- a tuple is put
pub record PutFits (items : List Item) (n : ℕ) (bytes : List ℕ) : Type 0 where
  pub line : 0 < n
  pub tuple : IsTuple bytes
  pub room : size_with items n bytes ≤ 8192

no-refusal : (a b c : Bool) (done : Unit {0}) → ◌≡◌ {A = Result (Unit {0}) PageError} (Ok done) (cond (not a) (Err NoLine) (cond (not b) (Err BadPage) (cond c (Err Full) (Ok tt))))
    → (a ≡ true) × (b ≡ true) × (c ≡ false)
no-refusal true true false done e = (refl, refl, refl)
no-refusal true true true done e = cc
no-refusal true false c done e = cc
no-refusal false b c done e = cc

not-zero : (n : ℕ) → not (n == 0) ≡ true → 0 < n
not-zero n h = grind (arith, nat_tests)

not-less : (a b : ℕ) → nat_lt a b ≡ false → b ≤ a
not-less a b h = grind (arith, nat_tests)

pub put-fits : (items : List Item) (n : ℕ) (tuple : List ℕ) (done : Unit {0}) → Ok done ≡ put_answer items n tuple → PutFits items n tuple
unfolding put_answer
put-fits items n tuple done e =
    let tests = no-refusal (is_free items n) (is_tuple tuple) (nat_lt 8192 (size_with items n tuple)) done e in
    record {
      line = not-zero n (and_parts (not (n == 0)) (is_unused (numbered items n)) tests.0).0;
      tuple = tests.1;
      room = not-less 8192 (size_with items n tuple) tests.2;
    }

pub room-after : (items other : List Item) (line : ℕ) (head rest : List ℕ) → length head ≡ 23 → other ≡ items → size_with items line (head ++ rest) ≤ 8192
    → 24 + 4 * max (length other) line + (room_in other + aligned (23 + length rest)) ≤ 8192
room-after items other line head rest h e fits =
    let long : length (head ++ rest) ≡ 23 + length rest = length-append head rest ∙ ap (λ n. n + length rest) h in
    subst (λ xs. 24 + 4 * max (length xs) line + (room_in xs + aligned (23 + length rest)) ≤ 8192) (sym e)
    (subst (λ n. 24 + 4 * max (length items) line + (room_in items + aligned n) ≤ 8192) long fits)

pub place-room : (count line rest head high : ℕ) → 0 < line → head ≡ 23 → 24 + 4 * max count line + aligned (23 + rest) ≤ high
    → 24 + 4 * max count (line - 1 + 1) + aligned (head + rest) ≤ high
place-room count line rest head high low h fits =
    let e : line ≡ line - 1 + 1 = omega arith in
    subst (λ n. 24 + 4 * max count n + aligned (head + rest) ≤ high) e
    (subst (λ n. 24 + 4 * max count line + aligned (n + rest) ≤ high) (sym h) fits)

-- a tuple gets another header
pub record HeadFits (page : List ℕ) (n : ℕ) (head : List ℕ) : Type 0 where
  pub line : NormalLine page n
  pub tuple : IsTuple (with_head (bytes_at page (pointer_of page (n - 1))) head)

none-refused : (a b : Bool) (done : Unit {0}) → ◌≡◌ {A = Result (Unit {0}) PageError} (Ok done) (cond (not a) (Err NoLine) (cond (not b) (Err BadPage) (Ok tt)))
    → (a ≡ true) × (b ≡ true)
none-refused true true done e = (refl, refl)
none-refused true false done e = cc
none-refused false b done e = cc

pub head-fits : (page value : List ℕ) (n : ℕ) (head : List ℕ) (done : Unit {0}) → page ≡ value → IsPage page → Ok done ≡ set_head_answer (items_of value) n head → HeadFits page n head
unfolding set_head_answer
head-fits page value n head done same rule e =
    let tests = none-refused (is_normal (numbered (items_of value) n)) (is_tuple (with_head (tuple_in (numbered (items_of value) n)) head)) done e in
    let line = normal_line page n rule (ap (λ bytes. is_normal (numbered (items_of bytes) n)) same ∙ tests.0) in
    record {
      line = line;
      tuple = subst (λ bytes. IsTuple (with_head bytes head)) line.bytes
          (ap (λ bytes. is_tuple (with_head (tuple_in (numbered (items_of bytes) n)) head)) same ∙ tests.1);
    }
