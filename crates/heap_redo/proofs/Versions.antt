-- Tuples that go to several lines, and the bytes of a new version.
use Rattle.std.proofs.Common.{arith, ap, sym, refl, ◌∙◌, ◌++◌, ◌∷◌, [], ◌+◌, ◌-◌, ◌≡◌, ◌≤◌, ◌<◌, inl, inr, min, get_or, ℕ, suc, List, length, take, drop, Result, Ok, Err}
use Rattle.std.proofs.Math.Seq.{drop-cons, take-append-add}
use Rattle.std.proofs.lemmas.Bool.{cases_lt}
use Rattle.std.proofs.lemmas.List.{length-append, take_min, take_all, length-take, length-drop, get_or_default, take-append-le, take-take, drop_all}
use Rattle.heap_page.specs.Item.{Item}
use Rattle.typed_records.specs.declared.types.NewTuple.{NewTuple}
use Rattle.heap_redo.specs.After.{BlockRefusal, ◌>>=◌, put, put_listed, tuple_of, joined}

-- the end of a text, from where the first part ends on
pub take-append_more : {X : Type 0} → (n : ℕ) (xs ys : List X) → length xs ≤ n → take n (xs ++ ys) ≡ xs ++ take (n - length xs) ys
take-append_more n xs ys h =
    ap (λ m. take m (xs ++ ys)) (omega arith) ∙ take-append-add xs ys (n - length xs)

pub take-cut : {X : Type 0} → (n : ℕ) (xs ys : List X) → take n (take n xs ++ ys) ≡ take n (xs ++ ys)
take-cut n xs ys =
    elim (cases_lt (length xs) n) [
      | inl short ↦ ap (λ zs. take n (zs ++ ys)) (take_all n xs (omega arith))
      | inr long ↦ take-append-le n (take n xs) ys (omega (arith, length-take n xs)) ∙ take-take n n xs (omega arith) ∙ sym (take-append-le n xs ys long)
    ]

-- what fits behind the first bytes
pub appended : (at n : ℕ) (bytes part : List ℕ) → length bytes ≡ at → at ≤ n → bytes ++ take (min (length part) (n - at)) part ≡ take n (bytes ++ part)
appended at n bytes part e h =
    ap (λ l. bytes ++ l) (ap (λ m. take m part) (omega arith) ∙ take_min (n - length bytes) part)
    ∙ sym (take-append_more n bytes part (omega arith))

-- an element that was read, and those behind it
pub drop-first : {X : Type 0} → (xs : List X) (k : ℕ) (x : X) → k < length xs → x ≡ get_or xs k x → drop k xs ≡ x ∷ drop (k + 1) xs
drop-first xs k x h e =
    let next : suc k ≡ k + 1 = omega arith in
    drop-cons xs k x h ∙ ap (λ y. y ∷ drop (suc k) xs) (sym e) ∙ ap (λ n. x ∷ drop n xs) next

then-same : (r : Result (List Item) BlockRefusal) → r ≡ (r >>= λ next. Ok next)
then-same (Ok items) = refl
then-same (Err refusal) = refl

module _ (xid block : ℕ) where
  -- one line
  pub listed-empty : (line : ℕ) (tuples : List NewTuple) (items : List Item) → length tuples ≡ 0 → Ok items ≡ put_listed xid block (line ∷ []) tuples items
  unfolding put_listed
  listed-empty line [] items h = refl
  listed-empty line (tuple ∷ tuples) items h = absurd (omega arith)

  listed-single : (line : ℕ) (tuple : NewTuple) (tuples : List NewTuple) (items : List Item) → put line (tuple_of xid 0 block line tuple tuple.rest) items ≡ put_listed xid block (line ∷ []) (tuple ∷ tuples) items
  unfolding put_listed
  listed-single line tuple tuples items = then-same (put line (tuple_of xid 0 block line tuple tuple.rest) items)

  pub listed-one : (line : ℕ) (tuple : NewTuple) (tuples : List NewTuple) (items : List Item) → 0 < length tuples → tuple ≡ get_or tuples 0 tuple → put line (tuple_of xid 0 block line tuple tuple.rest) items ≡ put_listed xid block (line ∷ []) tuples items
  listed-one line tuple tuples items h e =
      listed-single line tuple (drop 1 tuples) items
      ∙ ap (λ ts. put_listed xid block (line ∷ []) ts items) (sym (drop-first tuples 0 tuple h e))

  listed-cons : (line : ℕ) (lines : List ℕ) (tuple : NewTuple) (tuples : List NewTuple) (items next : List Item) → put line (tuple_of xid 0 block line tuple tuple.rest) items ≡ Ok next → put_listed xid block (line ∷ lines) (tuple ∷ tuples) items ≡ put_listed xid block lines tuples next
  unfolding put_listed
  listed-cons line lines tuple tuples items next done = rw done refl

  listed-cons_refused : (line : ℕ) (lines : List ℕ) (tuple : NewTuple) (tuples : List NewTuple) (items : List Item) (refusal : BlockRefusal) → put line (tuple_of xid 0 block line tuple tuple.rest) items ≡ Err refusal → put_listed xid block (line ∷ lines) (tuple ∷ tuples) items ≡ Err refusal
  unfolding put_listed
  listed-cons_refused line lines tuple tuples items refusal done = rw done refl

  pub listed-none : (lines : List ℕ) (tuples : List NewTuple) (items : List Item) → tuples ≡ [] → put_listed xid block lines tuples items ≡ Ok items
  unfolding put_listed
  listed-none [] tuples items e = refl
  listed-none (line ∷ lines) [] items e = refl
  listed-none (line ∷ lines) (tuple ∷ tuples) items e = cc

  pub listed-no_lines : (lines : List ℕ) (tuples : List NewTuple) (items : List Item) → lines ≡ [] → put_listed xid block lines tuples items ≡ Ok items
  unfolding put_listed
  listed-no_lines [] tuples items e = refl
  listed-no_lines (line ∷ lines) tuples items e = cc

  -- the next line takes the next tuple
  pub listed-next : (lines more_lines : List ℕ) (tuples more : List NewTuple) (line : ℕ) (tuple : NewTuple) (items next : List Item) → lines ≡ line ∷ more_lines → tuples ≡ tuple ∷ more → Ok next ≡ put line (tuple_of xid 0 block line tuple tuple.rest) items → put_listed xid block more_lines more next ≡ put_listed xid block lines tuples items
  listed-next lines more_lines tuples more line tuple items next l t done =
      rw (l, t) (sym (listed-cons line more_lines tuple more items next (sym done)))

  pub listed-refused : (lines more_lines : List ℕ) (tuples more : List NewTuple) (line : ℕ) (tuple : NewTuple) (items : List Item) (refusal : BlockRefusal) → lines ≡ line ∷ more_lines → tuples ≡ tuple ∷ more → Err refusal ≡ put line (tuple_of xid 0 block line tuple tuple.rest) items → Err refusal ≡ put_listed xid block lines tuples items
  listed-refused lines more_lines tuples more line tuple items refusal l t done =
      rw (l, t) (sym (listed-cons_refused line more_lines tuple more items refusal (sym done)))

-- parts that are cut one after the other
pub cut-parts : {X : Type 0} → (n : ℕ) (a b c d : List X) → take n (take n (take n (take n a ++ b) ++ c) ++ d) ≡ take n (a ++ b ++ c ++ d)
cut-parts n a b c d =
    ap (λ l. take n (take n (l ++ c) ++ d)) (take-cut n a b)
    ∙ ap (λ l. take n (l ++ d)) (take-cut n (a ++ b) c)
    ∙ take-cut n (a ++ b ++ c) d

-- the bytes behind the header of a new version, part by part
pub join-parts : (tuple : NewTuple) (old p1 p2 p3 p4 : List ℕ) → p1 ≡ take (tuple.hoff - 23) tuple.rest → p2 ≡ take tuple.prefix old → p3 ≡ drop (tuple.hoff - 23) tuple.rest → p4 ≡ drop (length old - tuple.suffix) old → p1 ++ p2 ++ p3 ++ p4 ≡ joined tuple old
unfolding joined
join-parts tuple old p1 p2 p3 p4 a b c d =
    ap (λ l. l ++ p2 ++ p3 ++ p4) a
    ∙ ap (λ l. take (tuple.hoff - 23) tuple.rest ++ l ++ p3 ++ p4) b
    ∙ ap (λ l. take (tuple.hoff - 23) tuple.rest ++ take tuple.prefix old ++ l ++ p4) c
    ∙ ap (λ l. take (tuple.hoff - 23) tuple.rest ++ take tuple.prefix old ++ drop (tuple.hoff - 23) tuple.rest ++ l) d

pub drop_min : {X : Type 0} → (n : ℕ) (xs : List X) → drop (min n (length xs)) xs ≡ drop n xs
drop_min n xs =
    elim (cases_lt (length xs) n) [
      | inl past ↦ drop_all (min n (length xs)) xs (omega arith) ∙ sym (drop_all n xs (omega arith))
      | inr within ↦ let same : min n (length xs) ≡ n = omega arith in ap (λ m. drop m xs) same
    ]

pub take_rest : {X : Type 0} → (n : ℕ) (xs : List X) → take (length xs - n) (drop n xs) ≡ drop n xs
take_rest n xs = take_all (length xs - n) (drop n xs) (omega (arith, length-drop n xs))

-- an element that was read
pub read-at : {X : Type 0} → (xs : List X) (k : ℕ) (x d : X) → k < length xs → x ≡ get_or xs k x → x ≡ get_or xs k d
read-at xs k x d h e = e ∙ get_or_default xs k x d h

bound-of : (whole a b c d split own prefix suffix old : ℕ) → whole ≡ a + b + c + d → a ≡ min split own → b ≡ min prefix old → c ≡ own - split → d ≡ old - (old - suffix) → whole ≤ own + (prefix + suffix)
bound-of whole a b c d split own prefix suffix old e ea eb ec ed = omega arith

-- a new version that is short has its room in a short buffer
length-joined : (tuple : NewTuple) (old : List ℕ) → length (joined tuple old) ≤ length tuple.rest + (tuple.prefix + tuple.suffix)
unfolding joined
length-joined tuple old =
    let a : List ℕ = take (tuple.hoff - 23) tuple.rest in
    let b : List ℕ = take tuple.prefix old in
    let c : List ℕ = drop (tuple.hoff - 23) tuple.rest in
    let d : List ℕ = drop (length old - tuple.suffix) old in
    let la : length a ≡ min (tuple.hoff - 23) (length tuple.rest) = length-take (tuple.hoff - 23) tuple.rest in
    let lb : length b ≡ min tuple.prefix (length old) = length-take tuple.prefix old in
    let lc : length c ≡ length tuple.rest - (tuple.hoff - 23) = length-drop (tuple.hoff - 23) tuple.rest in
    let ld : length d ≡ length old - (length old - tuple.suffix) = length-drop (length old - tuple.suffix) old in
    let whole : length (a ++ b ++ c ++ d) ≡ length a + length b + length c + length d =
    length-append (a ++ b ++ c) d ∙ ap (λ n. n + length d) (length-append (a ++ b) c ∙ ap (λ n. n + length c) (length-append a b)) in
    bound-of (length (a ++ b ++ c ++ d)) (length a) (length b) (length c) (length d) (tuple.hoff - 23) (length tuple.rest) tuple.prefix tuple.suffix (length old) whole la lb lc ld

pub short-room : (tuple : NewTuple) (old : List ℕ) (n : ℕ) → n ≡ 512 → length tuple.rest + (tuple.prefix + tuple.suffix) ≤ 512 → take n (joined tuple old) ≡ take 8192 (joined tuple old)
short-room tuple old n e h =
    let long = length-joined tuple old in
    take_all n (joined tuple old) (omega (arith, e, h, long)) ∙ sym (take_all 8192 (joined tuple old) (omega (arith, h, long)))
