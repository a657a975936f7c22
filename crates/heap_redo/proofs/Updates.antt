-- An update, by the versions that it changes.
use Rattle.std.proofs.Common.{arith, ap, sym, refl, ◌∙◌, ◌++◌, ◌∷◌, [], ◌+◌, ◌-◌, ◌≡◌, ◌≤◌, ◌<◌, inl, inr, nat_lt, nat_le, not, cond, get_or, ℕ, zero, suc, Bool, true, false, List, length, take, drop, Some, None, Result, Ok, Err, length-append, take-append-drop, append-nil}
use Rattle.std.proofs.lemmas.Bool.{cases_lt}
use Rattle.std.proofs.lemmas.Bool.Decides.{nat_tests}
use Rattle.std.proofs.lemmas.List.{take_all, length-take, drop_all}
use Rattle.heap_tuple.specs.Tuple.{is_tuple, is_tuple_head, hoff_of}
use Rattle.heap_page.specs.Item.{Item, normal, with_item, aligned, numbered, tuple_in}
use Rattle.heap_page.specs.Put.{put_answer, is_free, size_with}
use Rattle.heap_page.specs.declared.line.PageError.{PageError}
use Rattle.heap_page.specs.declared.line.PageError.TheVariants.{Full, NoLine, BadPage}
use Rattle.heap_page.proofs.Overwrite.{joined-tuple}
use Rattle.typed_records.specs.declared.types.NewTuple.{NewTuple}
use Rattle.typed_records.specs.declared.types.Rec.{Rec}
use Rattle.typed_records.specs.declared.types.RecBlock.{RecBlock}
use Rattle.typed_records.specs.Stored.{first_of}
use Rattle.heap_redo.specs.TupleHeads.{head_bytes}
use Rattle.heap_redo.specs.After.{BlockRefusal, no_tuple, answered, put, tuple_of, joined, user_data, put_version, is_short, update_old, update_within, ◌>>=◌, new_head}
use Rattle.heap_redo.proofs.Versions.{drop-first}

take-none : {X : Type 0} → (n : ℕ) → take n (let xs : List X = [] in xs) ≡ []
take-none zero = refl
take-none (suc n) = refl

-- nothing is taken of a version that is not there
pub joined-none : (tuple : NewTuple) → joined tuple [] ≡ tuple.rest
unfolding joined
joined-none tuple =
    let n = tuple.hoff - 23 in
    let last : drop (0 - tuple.suffix) (let xs : List ℕ = [] in xs) ≡ [] = drop_all (0 - tuple.suffix) [] (omega arith) in
    ap (λ l. take n tuple.rest ++ l ++ drop n tuple.rest ++ drop (0 - tuple.suffix) []) (take-none tuple.prefix)
    ∙ ap (λ l. take n tuple.rest ++ [] ++ drop n tuple.rest ++ l) last
    ∙ append-nil (take n tuple.rest ++ [] ++ drop n tuple.rest)
    ∙ ap (λ l. l ++ drop n tuple.rest) (append-nil (take n tuple.rest))
    ∙ take-append-drop n tuple.rest

first : {X : Type 0} → (xs : List X) (x : X) → 0 < length xs → x ≡ get_or xs 0 x → xs ≡ x ∷ drop 1 xs
first xs x h e = drop-first xs 0 x h e

module _ (xid xmax block line : ℕ) (old : List ℕ) (items : List Item) where
  pub put_version-none : (tuples : List NewTuple) → length tuples ≡ 0 → put_version xid xmax block line tuples old items ≡ Ok items
  unfolding put_version
  put_version-none [] h = refl
  put_version-none (tuple ∷ tuples) h = absurd (omega arith)

  pub put_version-first : (tuples : List NewTuple) (tuple : NewTuple) → 0 < length tuples → tuple ≡ get_or tuples 0 tuple → put_version xid xmax block line tuples old items ≡ put line (tuple_of xid xmax block line tuple (joined tuple old)) items
  unfolding put_version
  put_version-first tuples tuple h e =
      ap (λ ts. put_version xid xmax block line ts old items) (first tuples tuple h e)

-- a tuple that is cut at the page's size is refused as the whole is
module _ (items : List Item) (line : ℕ) (head rest : List ℕ) (long : length head ≡ 23) (small : hoff_of head < 256) (past : 8192 < length rest) where
  same-head : (a b : ℕ) → hoff_of head ≤ a → hoff_of head ≤ b → is_tuple_head head a ≡ is_tuple_head head b
  unfolding is_tuple_head
  same-head a b h k =
      let x : nat_le (hoff_of head) a ≡ nat_le (hoff_of head) b = grind (arith, nat_tests) in
      rw x refl

  same-tuple : is_tuple (head ++ take 8192 rest) ≡ is_tuple (head ++ rest)
  same-tuple =
      sym (joined-tuple head (take 8192 rest) (23 + length (take 8192 rest)) long refl)
      ∙ same-head (23 + length (take 8192 rest)) (23 + length rest) (omega (arith, length-take 8192 rest)) (omega arith)
      ∙ joined-tuple head rest (23 + length rest) long refl

  refused : Bool → Bool → Result (Unit {0}) PageError
  refused free tuple = cond (not free) (Err NoLine) (cond (not tuple) (Err BadPage) (Err Full))

  too_long : (tuple : List ℕ) → 8192 < length tuple → nat_lt 8192 (size_with items line tuple) ≡ true
  too_long tuple h =
      let room : length tuple ≤ aligned (length tuple) = omega arith in
      let past : 8192 < size_with items line tuple = omega (arith, room) in
      grind (arith, nat_tests, past)

  refused-long : (tuple : List ℕ) → 8192 < length tuple → put_answer items line tuple ≡ refused (is_free items line) (is_tuple tuple)
  unfolding put_answer refused
  refused-long tuple h = rw (too_long tuple h) refl

  same-answer : put_answer items line (head ++ take 8192 rest) ≡ put_answer items line (head ++ rest)
  same-answer =
      refused-long (head ++ take 8192 rest) (omega (arith, length-append head (take 8192 rest), length-take 8192 rest))
      ∙ ap (refused (is_free items line)) same-tuple
      ∙ sym (refused-long (head ++ rest) (omega (arith, length-append head rest)))

  same-refusal : (xs ys : List Item) (free tuple : Bool) → answered line xs (refused free tuple) ≡ answered line ys (refused free tuple)
  unfolding refused
  same-refusal xs ys true true = refl
  same-refusal xs ys true false = refl
  same-refusal xs ys false tuple = refl

  put-long : put line (head ++ take 8192 rest) items ≡ put line (head ++ rest) items
  unfolding put
  put-long =
      let cut = head ++ take 8192 rest in
      let whole = head ++ rest in
      let answer = refused-long whole (omega (arith, length-append head rest)) in
      ap (answered line (with_item items (line - 1) (normal cut))) (same-answer ∙ answer)
      ∙ same-refusal (with_item items (line - 1) (normal cut)) (with_item items (line - 1) (normal whole)) (is_free items line) (is_tuple whole)
      ∙ sym (ap (answered line (with_item items (line - 1) (normal whole))) answer)

pub put-cut : (items : List Item) (line : ℕ) (head rest : List ℕ) → length head ≡ 23 → hoff_of head < 256 → put line (head ++ take 8192 rest) items ≡ put line (head ++ rest) items
put-cut items line head rest long small =
    elim (cases_lt 8192 (length rest)) [
      | inl past ↦ put-long items line head rest long small past
      | inr fits ↦ ap (λ r. put line (head ++ r) items) (take_all 8192 rest fits)
    ]

pub put-cut_tuple : (items : List Item) (xid xmax block line : ℕ) (tuple : NewTuple) (rest : List ℕ) → tuple.hoff < 256 → put line (tuple_of xid xmax block line tuple (take 8192 rest)) items ≡ put line (tuple_of xid xmax block line tuple rest) items
unfolding tuple_of head_bytes
put-cut_tuple items xid xmax block line tuple rest small =
    put-cut items line (head_bytes (new_head xid xmax block line tuple)) rest refl small

no_tuples : (tuples : List NewTuple) → length tuples ≡ 0 → tuples ≡ []
no_tuples [] h = refl
no_tuples (tuple ∷ tuples) h = absurd (omega arith)

-- what follows the change of the old version
module _ (rec : Rec) (block : RecBlock) (old_line new_xmax new_line : ℕ) (old : List ℕ) where
  abbrev then_new : List NewTuple → List Item → Result (List Item) BlockRefusal
  then_new tuples next =
      cond (is_short tuples old) (Err (no_tuple old_line)) (put_version rec.head.xid.0 new_xmax block.block new_line tuples old next)

  then_new-none : (marked : Result (List Item) BlockRefusal) → (marked >>= then_new []) ≡ marked
  unfolding put_version
  then_new-none (Ok next) = refl
  then_new-none (Err refusal) = refl

  then_new-short : (tuples : List NewTuple) (tuple : NewTuple) (next : List Item) → 0 < length tuples → tuple ≡ get_or tuples 0 tuple → nat_lt (length old) (tuple.prefix + tuple.suffix) ≡ true → then_new tuples next ≡ Err (no_tuple old_line)
  then_new-short tuples tuple next h e short =
      ap (λ ts. then_new ts next) (first tuples tuple h e)
      ∙ ap (λ v. cond v (Err (no_tuple old_line)) (put_version rec.head.xid.0 new_xmax block.block new_line (tuple ∷ drop 1 tuples) old next)) short

  then_new-put : (tuples : List NewTuple) (tuple : NewTuple) (next : List Item) → 0 < length tuples → tuple ≡ get_or tuples 0 tuple → nat_lt (length old) (tuple.prefix + tuple.suffix) ≡ false → then_new tuples next ≡ put new_line (tuple_of rec.head.xid.0 new_xmax block.block new_line tuple (joined tuple old)) next
  unfolding put_version
  then_new-put tuples tuple next h e long =
      ap (λ ts. then_new ts next) (first tuples tuple h e)
      ∙ ap (λ v. cond v (Err (no_tuple old_line)) (put_version rec.head.xid.0 new_xmax block.block new_line (tuple ∷ drop 1 tuples) old next)) long

module _ (rec : Rec) (block : RecBlock) (is_hot : Bool) (old_xmax old_line old_bits new_xmax new_line : ℕ) (items : List Item) where
  abbrev old_data : List ℕ
  old_data = user_data (tuple_in (numbered items old_line))

  within-is : update_within rec block is_hot old_xmax old_line old_bits new_xmax new_line items ≡ (update_old is_hot old_xmax old_line old_bits block.block new_line items >>= then_new rec block old_line new_xmax new_line old_data block.tuples)
  unfolding update_within
  within-is = refl

  pub within-none : length block.tuples ≡ 0 → update_within rec block is_hot old_xmax old_line old_bits new_xmax new_line items ≡ update_old is_hot old_xmax old_line old_bits block.block new_line items
  within-none h =
      within-is ∙ ap (λ ts. update_old is_hot old_xmax old_line old_bits block.block new_line items >>= then_new rec block old_line new_xmax new_line old_data ts) (no_tuples block.tuples h)
      ∙ then_new-none rec block old_line new_xmax new_line old_data (update_old is_hot old_xmax old_line old_bits block.block new_line items)

  pub within-refused : (refusal : BlockRefusal) → Err refusal ≡ update_old is_hot old_xmax old_line old_bits block.block new_line items → Err refusal ≡ update_within rec block is_hot old_xmax old_line old_bits new_xmax new_line items
  within-refused refusal e =
      sym (within-is ∙ ap (λ u. u >>= then_new rec block old_line new_xmax new_line old_data block.tuples) (sym e))

  pub within-short : (tuple : NewTuple) (next : List Item) → 0 < length block.tuples → tuple ≡ get_or block.tuples 0 tuple → Ok next ≡ update_old is_hot old_xmax old_line old_bits block.block new_line items → nat_lt (length old_data) (tuple.prefix + tuple.suffix) ≡ true → Err (no_tuple old_line) ≡ update_within rec block is_hot old_xmax old_line old_bits new_xmax new_line items
  within-short tuple next h e done short =
      sym (within-is ∙ ap (λ u. u >>= then_new rec block old_line new_xmax new_line old_data block.tuples) (sym done)
      ∙ then_new-short rec block old_line new_xmax new_line old_data block.tuples tuple next h e short)

  pub within-put : (tuple : NewTuple) (next : List Item) (rest : List ℕ) → 0 < length block.tuples → tuple ≡ get_or block.tuples 0 tuple → Ok next ≡ update_old is_hot old_xmax old_line old_bits block.block new_line items → nat_lt (length old_data) (tuple.prefix + tuple.suffix) ≡ false → tuple.hoff < 256 → rest ≡ take 8192 (joined tuple old_data) → put new_line (tuple_of rec.head.xid.0 new_xmax block.block new_line tuple rest) next ≡ update_within rec block is_hot old_xmax old_line old_bits new_xmax new_line items
  within-put tuple next rest h e done long small taken =
      ap (λ r. put new_line (tuple_of rec.head.xid.0 new_xmax block.block new_line tuple r) next) taken
      ∙ put-cut_tuple next rec.head.xid.0 new_xmax block.block new_line tuple (joined tuple old_data) small
      ∙ sym (within-is ∙ ap (λ u. u >>= then_new rec block old_line new_xmax new_line old_data block.tuples) (sym done)
      ∙ then_new-put rec block old_line new_xmax new_line old_data block.tuples tuple next h e long)

pub not-true : (b : Bool) → true ≡ not b → b ≡ false
not-true true e = e
not-true false e = refl

pub not-false : (b : Bool) → false ≡ not b → b ≡ true
not-false true e = refl
not-false false e = e

-- the first tuple of a list, which is there or not
pub first-none : (tuples : List NewTuple) → None ≡ first_of tuples → length tuples ≡ 0
first-none [] e = refl
first-none (tuple ∷ tuples) e = cc

pub first-there : (tuples : List NewTuple) (tuple : NewTuple) → Some tuple ≡ first_of tuples → 0 < length tuples
first-there [] tuple e = cc
first-there (first ∷ tuples) tuple e = omega arith

pub first-is : (tuples : List NewTuple) (tuple : NewTuple) → Some tuple ≡ first_of tuples → tuple ≡ get_or tuples 0 tuple
first-is [] tuple e = cc
first-is (first ∷ tuples) tuple e = cc
