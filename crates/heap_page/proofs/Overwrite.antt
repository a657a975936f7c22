-- The header of a tuple is overwritten.
use Rattle.std.proofs.Common.{◌≡◌, ◌≢◌, ◌⊎◌, inl, inr, ℕ, ◌+◌, ◌-◌, ◌*◌, ◌/◌, ◌<◌, ◌≤◌, List, ◌++◌, length, take, drop, IsTrue, subst, sym, ap, ◌∙◌, arith}
use Rattle.std.proofs.lemmas.Bool.{cases_eq, cases_lt}
use Rattle.std.proofs.lemmas.List.{get_or_append_left, length-append, length-take, drop-drop, drop-take}
use Rattle.std.proofs.Math.Seq.{take-append-add}
use Rattle.pg_types.specs.Numbers.{number_at}
use Rattle.heap_tuple.specs.Tuple.{IsTuple, is_tuple, is_tuple_head, hoff_of, infomask_of, infomask2_of}
use Rattle.heap_page.specs.Item.{normal, with_item}
use Rattle.heap_page.specs.Page.{lower_of, upper_of, line_count, pointer_of, offset_in, state_in, length_in, bytes_at, item_of, lines_of, items_of, end_of_room, is_laid}
use Rattle.heap_page.specs.Write.{written}
use Rattle.heap_page.specs.Change.{Becomes}
use Rattle.heap_page.specs.Put.{with_head}
use Rattle.heap_page.proofs.Written.{number_at-same, length-written, before-written, after-written, part-same, drop-written}
use Rattle.heap_page.proofs.Laid.{Placed, Laid, Apart, laid-true, true-laid, item_in-lines, item_in-past}
use Rattle.heap_page.proofs.Kept.{item_of-same}
use Rattle.std.proofs.lemmas.Bool.Decides.{nat_tests}
use Rattle.heap_page.proofs.LineLists.{trimmed-with_item}
use Rattle.heap_page.proofs.Changes.{header-same, header-kept, item_of-normal, bounds}

head-same : (xs ys : List ℕ) (n m : ℕ) → hoff_of xs ≡ hoff_of ys → infomask_of xs ≡ infomask_of ys → infomask2_of xs ≡ infomask2_of ys → n ≡ m → is_tuple_head xs n ≡ is_tuple_head ys m
unfolding is_tuple_head
head-same xs ys n m h i j e = cc

-- whether head and rest are a tuple is seen by the head
pub joined-tuple : (head rest : List ℕ) (len : ℕ) → length head ≡ 23 → len ≡ 23 + length rest → is_tuple_head head len ≡ is_tuple (head ++ rest)
unfolding is_tuple
joined-tuple head rest len h e =
    let field : (at : ℕ) → at + 2 ≤ 23 → number_at 2 head at ≡ number_at 2 (head ++ rest) at =
    λ at l. number_at-same 2 at head (head ++ rest) (record { each = λ i p q. sym (get_or_append_left head rest 0 i (omega arith)) }) in
    head-same head (head ++ rest) len (length (head ++ rest))
    (sym (get_or_append_left head rest 0 22 (omega arith)))
    (field 20 (omega arith)) (field 18 (omega arith))
    (omega (arith, length-append head rest))

-- a tuple has 24 bytes
pub tuple-long : (bytes : List ℕ) → IsTuple bytes → 24 ≤ length bytes
unfolding is_tuple is_tuple_head
tuple-long bytes h = grind (arith, nat_tests)

take-append-more : (xs ys : List ℕ) (n m : ℕ) → length xs ≡ n → take (n + m) (xs ++ ys) ≡ xs ++ take m ys
take-append-more xs ys n m e = ap (λ k. take (k + m) (xs ++ ys)) (sym e) ∙ take-append-add xs ys m

-- the tuple's bytes after the write
bytes-overwritten : (old : List ℕ) (start len : ℕ) (head : List ℕ) → length head ≡ 23 → 23 ≤ len → start + len ≤ length old → take len (drop start (written old start head)) ≡ with_head (take len (drop start old)) head
bytes-overwritten old start len head h l u =
    let part = drop (start + 23) old in
    let more : len ≡ 23 + (len - 23) = omega arith in
    ap (take len) (drop-written old start head (omega arith))
    ∙ ap (λ n. take len (head ++ drop (start + n) old)) h
    ∙ ap (λ n. take n (head ++ part)) more
    ∙ take-append-more head part 23 (len - 23) h
    ∙ ap (λ xs. head ++ xs)
    (ap (take (len - 23)) (sym (drop-drop 23 start old))
    ∙ sym (drop-take 23 (len - 23) (drop start old))
    ∙ ap (λ n. drop 23 (take n (drop start old))) (sym more))

pub long-tuple : (page : List ℕ) (pointer : ℕ) → Placed page pointer → length page ≡ 8192 → 24 ≤ length_in pointer
long-tuple page pointer p size =
    let f = tuple-long (bytes_at page pointer) p.tuple in
    omega (arith, length-take (length_in pointer) (drop (offset_in pointer) page), f)

either-apart : (page : List ℕ) → Laid page → (j k : ℕ) → j < line_count page → k < line_count page → j ≢ k → state_in (pointer_of page j) ≡ 1 → state_in (pointer_of page k) ≡ 1 → (end_of_room (pointer_of page j) ≤ offset_in (pointer_of page k)) ⊎ (end_of_room (pointer_of page k) ≤ offset_in (pointer_of page j))
either-apart page laid j k a b n s t =
    elim (cases_lt j k) [
      | inl less ↦ laid.apart k b j less s t
      | inr more ↦ elim (laid.apart j a k (omega (arith, n, more)) t s) [ inl x ↦ inr x | inr x ↦ inl x ]
    ]

overwritten-items : (old new : List ℕ) (k : ℕ) {bytes : List ℕ} → k < line_count old → line_count new ≡ line_count old → ((j : ℕ) → j < line_count old → pointer_of new j ≡ pointer_of old j) → ((j : ℕ) → j < line_count old → j ≢ k → state_in (pointer_of old j) ≡ 1 → bytes_at new (pointer_of old j) ≡ bytes_at old (pointer_of old j)) → bytes_at new (pointer_of old k) ≡ bytes → state_in (pointer_of old k) ≡ 1 → items_of new ≡ with_item (items_of old) k (normal bytes)
unfolding items_of
overwritten-items old new k {bytes = bytes} below count pointers others mine points =
    trimmed-with_item (lines_of old) (lines_of new) k (normal bytes)
    (item_in-lines new k (omega (arith, count, below)) ∙ ap (item_of new) (pointers k below) ∙ item_of-normal new (pointer_of old k) points ∙ ap normal mine)
    (λ j n. elim (cases_lt j (line_count old)) [
      | inl b ↦ item_in-lines new j (omega (arith, count, b)) ∙ ap (item_of new) (pointers j b)
          ∙ item_of-same old new (pointer_of old j) (others j b n) ∙ sym (item_in-lines old j b)
      | inr past ↦ item_in-past new j (omega (arith, count, past)) ∙ sym (item_in-past old j past)
    ])

pub head-overwritten : (old : List ℕ) (k start : ℕ) (head : List ℕ) → IsTrue (is_laid old) → length old ≡ 8192 → k < line_count old → start ≡ offset_in (pointer_of old k) → state_in (pointer_of old k) ≡ 1 → length head ≡ 23 → IsTuple (with_head (bytes_at old (pointer_of old k)) head) → Becomes old (written old start head) (with_item (items_of old) k (normal (with_head (bytes_at old (pointer_of old k)) head))) (lower_of old) (upper_of old)
head-overwritten old k start head rule size below at points long tuple =
    let laid = laid-true old rule in
    let b = bounds old rule in
    let w : ℕ = pointer_of old k in
    let p = laid.placed k below points in
    let len : ℕ = length_in w in
    let min : 24 ≤ len = long-tuple old w p size in
    let new : List ℕ = written old start head in
    let fits : start + length head ≤ length old = omega (arith, p.inside) in
    let low : upper_of old ≤ start = omega (arith, p.past) in
    let fields = header-same old new (before-written old start head 0 24 (omega arith) fits) in
    let newsize : length new ≡ 8192 = length-written old start head fits ∙ size in
    let header = header-kept old new laid.header fields in
    let count : line_count new ≡ line_count old = ap (λ n. (n - 24) / 4) fields.lower in
    let pointers : (j : ℕ) → j < line_count old → pointer_of new j ≡ pointer_of old j =
    λ j l. number_at-same 4 (24 + 4 * j) new old (before-written old start head (24 + 4 * j) (24 + 4 * j + 4) (omega arith) fits) in
    let mine : bytes_at new w ≡ with_head (bytes_at old w) head =
    ap (λ n. take len (drop n new)) (sym at) ∙ bytes-overwritten old start len head long (omega arith) (omega (arith, p.inside))
    ∙ ap (λ n. with_head (take len (drop n old)) head) at in
    let others : (j : ℕ) → j < line_count old → j ≢ k → state_in (pointer_of old j) ≡ 1 → bytes_at new (pointer_of old j) ≡ bytes_at old (pointer_of old j) =
    λ j l n s. let q = laid.placed j l s in
    part-same (offset_in (pointer_of old j)) (length_in (pointer_of old j)) new old (newsize ∙ sym size) (omega (arith, q.inside))
    (elim (either-apart old laid j k l below n s points) [
      | inl before ↦ before-written old start head (offset_in (pointer_of old j)) (offset_in (pointer_of old j) + length_in (pointer_of old j)) (omega (arith, before)) fits
      | inr behind ↦ after-written old start head (offset_in (pointer_of old j)) (offset_in (pointer_of old j) + length_in (pointer_of old j)) (omega (arith, behind)) fits
    ]) in
    let placed : (j : ℕ) → j < line_count old → state_in (pointer_of old j) ≡ 1 → Placed new (pointer_of old j) =
    λ j l s. let q = laid.placed j l s in
    record {
      multiple = q.multiple;
      past = omega (arith, q.past, fields.upper);
      inside = q.inside;
      tuple = elim (cases_eq j k) [
        | inl e ↦ subst (λ i. IsTuple (bytes_at new (pointer_of old i))) (sym e) (subst IsTuple (sym mine) tuple)
        | inr n ↦ subst IsTuple (sym (others j l n s)) q.tuple
      ];
    } in
    record {
      laid = true-laid new (record {
        header = header;
        placed = λ j l s. let low_j : j < line_count old = omega (arith, count, l) in
            subst (Placed new) (sym (pointers j low_j)) (placed j low_j (ap state_in (sym (pointers j low_j)) ∙ s));
        apart = λ i l j m. let low_i : i < line_count old = omega (arith, count, l) in
            let low_j : j < line_count old = omega arith in
            subst (λ q. Apart q (pointer_of new i)) (sym (pointers j low_j))
            (subst (λ q. Apart (pointer_of old j) q) (sym (pointers i low_i)) (laid.apart i low_i j m));
      });
      items = overwritten-items old new k below count pointers others mine points;
      lsn = fields.lsn;
      lower = fields.lower;
      upper = fields.upper;
    }
