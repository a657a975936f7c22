-- A page that is all zero, a page that was just laid out, and the position in a page.
use Rattle.std.proofs.Common.{◌≡◌, ◌≢◌, ◌⊎◌, inl, inr, ℕ, zero, suc, ◌+◌, ◌-◌, ◌*◌, ◌/◌, ◌%◌, ◌^◌, ◌<◌, ◌≤◌, true, false, List, [], ◌∷◌, length, take, drop, get_or, map, IsTrue, subst, refl, sym, ap, ◌∙◌, arith}
use Rattle.std.specs.List.{range_with_len}
use Rattle.std.proofs.lemmas.Bool.{and_parts, or_cases, eqb-true}
use Rattle.std.proofs.lemmas.Bool.Decides.{nat_tests}
use Rattle.std.proofs.lemmas.List.{take_all, get_or_past, length-map}
use Rattle.std.proofs.lemmas.List.FromFn.{length-range_with_len}
use Rattle.pg_types.specs.Numbers.{number_at}
use Rattle.heap_page.specs.Item.{unused, normal, redirect, dead, trimmed, item_in, numbered, is_unused}
use Rattle.heap_page.specs.Page.{lsn_of, lower_of, upper_of, special_of, version_of, line_count, pointer_of, offset_in, state_in, length_in, item_of, lines_of, items_of, is_zeros, is_laid, is_page, IsPage}
use Rattle.heap_page.specs.Write.{number_bytes, written}
use Rattle.heap_page.proofs.Written.{SameFrom, same-then, same-within, number_at-same, number_at-zeros, number_at-written, length-written, length-number_bytes, before-written, after-written}
use Rattle.heap_page.proofs.Laid.{Header, Placed, laid-true, true-laid, item_in-lines}
use Rattle.heap_page.proofs.Changes.{item_of-normal, bounds}
use Rattle.heap_page.specs.Change.{Becomes, IsEmpty, IsSet}
use Rattle.heap_page.proofs.Kept.{Kept, same, laid-kept, items-kept}
use Rattle.heap_tuple.specs.Tuple.{IsTuple}
use Rattle.heap_page.proofs.LineLists.{length-trimmed, item_in-trimmed, trimmed-take_unused, length-trimmed_take, unused-is, used-number}

pub zeros-each : (page : List ℕ) → is_zeros page ≡ true → (i : ℕ) → get_or page i 0 ≡ 0
zeros-each [] h i = refl
zeros-each (x ∷ xs) h zero = eqb-true x 0 (and_parts _ _ h).0
zeros-each (x ∷ xs) h (suc i) = zeros-each xs (and_parts _ _ h).1 i

pub no-lines : (page : List ℕ) → line_count page ≡ 0 → items_of page ≡ []
unfolding items_of lines_of
no-lines page e = ap (λ n. trimmed (map (λ k. item_of page (pointer_of page k)) (range_with_len 0 n))) e

-- a page that is all zero
pub record Blank (page : List ℕ) : Type 0 where
  pub zero : (i : ℕ) → get_or page i 0 ≡ 0
  pub version : version_of page ≡ 0
  pub lsn : lsn_of page ≡ 0
  pub count : line_count page ≡ 0
  pub upper : upper_of page ≡ 0
  pub items : items_of page ≡ []

pub blank : (page : List ℕ) → ((i : ℕ) → get_or page i 0 ≡ 0) → Blank page
unfolding lsn_of
blank page h =
    let field : (n at : ℕ) → number_at n page at ≡ 0 = λ n at. number_at-zeros n at page (λ i a b. h i) in
    let count : line_count page ≡ 0 = ap (λ n. (n - 24) / 4) (field 2 12) in
    record {
      zero = h;
      version = field 2 18;
      lsn = omega (arith, field 4 0, field 4 4);
      count = count;
      upper = field 2 14;
      items = no-lines page count;
    }

pub page-cases : (page : List ℕ) → IsPage page → Blank page ⊎ IsTrue (is_laid page)
unfolding is_page
page-cases page h =
    elim (or_cases _ _ (and_parts _ _ h).1) [ inl zeros ↦ inl (blank page (zeros-each page zeros)) | inr laid ↦ inr laid ]

pub page-size : (page : List ℕ) → IsPage page → length page ≡ 8192
unfolding is_page
page-size page h = eqb-true (length page) 8192 (and_parts _ _ h).0

pub laid-page : (page : List ℕ) → length page ≡ 8192 → IsTrue (is_laid page) → IsPage page
unfolding is_page
laid-page page size h = grind (arith, nat_tests)

pub laid-version : (page : List ℕ) → IsPage page → (version_of page ≢ 0) → IsTrue (is_laid page)
laid-version page h v = elim (page-cases page h) [ inl none ↦ absurd (v none.version) | inr laid ↦ laid ]

pub blank-version : (page : List ℕ) → IsPage page → version_of page ≡ 0 → Blank page
blank-version page h v =
    elim (page-cases page h) [
      | inl none ↦ none
      | inr laid ↦ let header = (laid-true page laid).header in absurd (omega (arith, header.version, v))
    ]

pub laid-line : (page : List ℕ) (k : ℕ) → IsPage page → k < line_count page → IsTrue (is_laid page)
laid-line page k h b = elim (page-cases page h) [ inl none ↦ absurd (omega (arith, none.count, b)) | inr laid ↦ laid ]

pub length-lines : (page : List ℕ) → length (lines_of page) ≡ line_count page
unfolding lines_of
length-lines page = length-map (range_with_len 0 (line_count page)) (λ k. item_of page (pointer_of page k)) ∙ length-range_with_len 0 (line_count page)

pub length-items : (page : List ℕ) → length (items_of page) ≤ line_count page
unfolding items_of
length-items page = omega (arith, length-trimmed (lines_of page), length-lines page)

-- fields before and behind a write
field-before : (n p at : ℕ) (page bytes : List ℕ) → p + n ≤ at → at + length bytes ≤ length page → number_at n (written page at bytes) p ≡ number_at n page p
field-before n p at page bytes l h = number_at-same n p _ page (before-written page at bytes p (p + n) l h)

field-behind : (n p at : ℕ) (page bytes : List ℕ) → at + length bytes ≤ p → at + length bytes ≤ length page → number_at n (written page at bytes) p ≡ number_at n page p
field-behind n p at page bytes l h = number_at-same n p _ page (after-written page at bytes p (p + n) l h)

-- a page without line pointers
pub empty-laid : (page : List ℕ) → Header page → lower_of page ≡ 24 → IsTrue (is_laid page)
empty-laid page h e =
    let count : line_count page ≡ 0 = ap (λ n. (n - 24) / 4) e in
    true-laid page (record {
      header = h;
      placed = λ k b. absurd (omega (arith, count, b));
      apart = λ k b. absurd (omega (arith, count, b));
    })

-- a block of zeros with the header of an empty page
pub fresh : (zeros a b c d : List ℕ) → length zeros ≡ 8192 → ((i : ℕ) → get_or zeros i 0 ≡ 0) → a ≡ written zeros 12 (number_bytes 2 24) → b ≡ written a 14 (number_bytes 2 8192) → c ≡ written b 16 (number_bytes 2 8192) → d ≡ written c 18 (number_bytes 2 8196) → IsEmpty d
unfolding lsn_of
fresh zeros a b c d size none ea eb ec ed =
    let la = length-number_bytes 2 24 in
    let lb = length-number_bytes 2 8192 in
    let ld = length-number_bytes 2 8196 in
    let sa : length a ≡ 8192 = ap length ea ∙ length-written zeros 12 (number_bytes 2 24) (omega arith) ∙ size in
    let sb : length b ≡ 8192 = ap length eb ∙ length-written a 14 (number_bytes 2 8192) (omega arith) ∙ sa in
    let sc : length c ≡ 8192 = ap length ec ∙ length-written b 16 (number_bytes 2 8192) (omega arith) ∙ sb in
    let sd : length d ≡ 8192 = ap length ed ∙ length-written c 18 (number_bytes 2 8196) (omega arith) ∙ sc in
    let da : (n p : ℕ) → p + n ≤ 14 → number_at n d p ≡ number_at n a p =
    λ n p l. ap (λ x. number_at n x p) ed ∙ field-before n p 18 c (number_bytes 2 8196) (omega arith) (omega arith)
    ∙ ap (λ x. number_at n x p) ec ∙ field-before n p 16 b (number_bytes 2 8192) (omega arith) (omega arith)
    ∙ ap (λ x. number_at n x p) eb ∙ field-before n p 14 a (number_bytes 2 8192) (omega arith) (omega arith) in
    let dz : (n p : ℕ) → p + n ≤ 12 → number_at n d p ≡ 0 =
    λ n p l. da n p (omega arith) ∙ ap (λ x. number_at n x p) ea ∙ field-before n p 12 zeros (number_bytes 2 24) (omega arith) (omega arith)
    ∙ number_at-zeros n p zeros (λ i x y. none i) in
    let lower : lower_of d ≡ 24 = da 2 12 (omega arith) ∙ ap (λ x. number_at 2 x 12) ea ∙ number_at-written 2 24 12 zeros (omega arith) (omega arith) in
    let upper : upper_of d ≡ 8192 =
    ap (λ x. number_at 2 x 14) ed ∙ field-before 2 14 18 c (number_bytes 2 8196) (omega arith) (omega arith)
    ∙ ap (λ x. number_at 2 x 14) ec ∙ field-before 2 14 16 b (number_bytes 2 8192) (omega arith) (omega arith)
    ∙ ap (λ x. number_at 2 x 14) eb ∙ number_at-written 2 8192 14 a (omega arith) (omega arith) in
    let special : special_of d ≡ 8192 =
    ap (λ x. number_at 2 x 16) ed ∙ field-before 2 16 18 c (number_bytes 2 8196) (omega arith) (omega arith)
    ∙ ap (λ x. number_at 2 x 16) ec ∙ number_at-written 2 8192 16 b (omega arith) (omega arith) in
    let version : version_of d ≡ 8196 = ap (λ x. number_at 2 x 18) ed ∙ number_at-written 2 8196 18 c (omega arith) (omega arith) in
    let laid = empty-laid d (record {
      version = version;
      special = special;
      behind = omega (arith, lower);
      order = omega (arith, lower, upper);
      inside = omega (arith, upper);
      step = ap (λ n. n % 4) lower;
    }) lower in
    record {
      laid = laid;
      page = laid-page d sd laid;
      items = no-lines d (ap (λ n. (n - 24) / 4) lower);
      lsn = omega (arith, dz 4 0 (omega arith), dz 4 4 (omega arith));
    }

-- the item of a line, by its pointer's state
pub item-normal : (page : List ℕ) (k offset state len : ℕ) (bytes : List ℕ) → k < line_count page → offset ≡ offset_in (pointer_of page k) → state ≡ state_in (pointer_of page k) → len ≡ length_in (pointer_of page k) → state ≡ 1 → bytes ≡ take len (drop offset page) → normal bytes ≡ item_in (lines_of page) k
unfolding item_of
item-normal page k offset state len bytes b o s l one e =
    sym (item_in-lines page k b
    ∙ item_of-normal page (pointer_of page k) (sym s ∙ one)
    ∙ ap normal (sym (e ∙ ap (λ n. take n (drop offset page)) l ∙ ap (λ n. take (length_in (pointer_of page k)) (drop n page)) o)))

pub item-redirect : (page : List ℕ) (k offset state : ℕ) → k < line_count page → offset ≡ offset_in (pointer_of page k) → state ≡ state_in (pointer_of page k) → state ≡ 2 → redirect offset ≡ item_in (lines_of page) k
unfolding item_of
item-redirect page k offset state b o s two =
    let here : item_of page (pointer_of page k) ≡ redirect (offset_in (pointer_of page k)) = grind (arith, nat_tests) in
    ap redirect o ∙ sym (item_in-lines page k b ∙ here)

pub item-dead : (page : List ℕ) (k state : ℕ) → k < line_count page → state ≡ state_in (pointer_of page k) → state ≡ 3 → dead ≡ item_in (lines_of page) k
unfolding item_of
item-dead page k state b s three =
    let here : item_of page (pointer_of page k) ≡ dead = grind (arith, nat_tests) in
    sym (item_in-lines page k b ∙ here)

pub item-unused : (page : List ℕ) (k state : ℕ) → k < line_count page → state ≡ state_in (pointer_of page k) → (state ≢ 1) → (state ≢ 2) → (state ≢ 3) → unused ≡ item_in (lines_of page) k
unfolding item_of
item-unused page k state b s one two three =
    let here : item_of page (pointer_of page k) ≡ unused = grind (arith, nat_tests) in
    sym (item_in-lines page k b ∙ here)

-- the tuple of a line that points to one
pub placed-at : (page : List ℕ) (k state : ℕ) → IsPage page → k < line_count page → state ≡ state_in (pointer_of page k) → state ≡ 1 → Placed page (pointer_of page k)
placed-at page k state rule b s one = (laid-true page (laid-line page k rule b)).placed k b (sym s ∙ one)

-- a line number past the lines, or within
pub numbered-past : (page : List ℕ) (n : ℕ) → (n ≡ 0) ⊎ (line_count page < n) → unused ≡ numbered (items_of page) n
numbered-past page zero h = refl
numbered-past page (suc k) (inl none) = absurd (omega arith)
numbered-past page (suc k) (inr past) = sym (get_or_past (items_of page) k unused (omega (arith, length-items page)))

pub numbered-at : (page : List ℕ) (n : ℕ) → 0 < n → item_in (lines_of page) (n - 1) ≡ numbered (items_of page) n
unfolding items_of
numbered-at page zero h = absurd (omega arith)
numbered-at page (suc k) h =
    ap (item_in (lines_of page)) (let e : suc k - 1 ≡ k = omega arith in e) ∙ sym (item_in-trimmed (lines_of page) k)

pub placed-tuple : (page : List ℕ) (pointer offset len : ℕ) (bytes : List ℕ) → Placed page pointer → offset ≡ offset_in pointer → len ≡ length_in pointer → bytes ≡ take len (drop offset page) → IsTuple bytes
placed-tuple page pointer offset len bytes p o l e =
    subst IsTuple (sym (e ∙ ap (λ n. take n (drop offset page)) l ∙ ap (λ n. take (length_in pointer) (drop n page)) o)) p.tuple

pub lines-bound : (page : List ℕ) → IsPage page → line_count page ≤ 2042
lines-bound page h =
    elim (page-cases page h) [
      | inl none ↦ omega (arith, none.count)
      | inr laid ↦ let b = bounds page laid in omega arith
    ]

-- the walk from the last line pointer down to a line in use
pub all-lines : (page : List ℕ) → items_of page ≡ trimmed (take (line_count page) (lines_of page))
unfolding items_of
all-lines page = ap trimmed (sym (take_all (line_count page) (lines_of page) (omega (arith, length-lines page))))

pub one-line-less : (page : List ℕ) (n : ℕ) → 0 < n → items_of page ≡ trimmed (take n (lines_of page)) → is_unused (item_in (lines_of page) (n - 1)) ≡ true → items_of page ≡ trimmed (take (n - 1) (lines_of page))
one-line-less page zero low e u = absurd (omega arith)
one-line-less page (suc k) low e u =
    let back : suc k - 1 ≡ k = omega arith in
    let more : suc k ≡ k + 1 = omega arith in
    e ∙ ap (λ n. trimmed (take n (lines_of page))) more
    ∙ trimmed-take_unused (lines_of page) k (unused-is _ (ap (λ n. is_unused (item_in (lines_of page) n)) (sym back) ∙ u))
    ∙ ap (λ n. trimmed (take n (lines_of page))) (sym back)

pub last-line : (page : List ℕ) (n : ℕ) → 0 < n → items_of page ≡ trimmed (take n (lines_of page)) → is_unused (item_in (lines_of page) (n - 1)) ≡ false → n ≡ length (items_of page)
last-line page zero low e u = absurd (omega arith)
last-line page (suc k) low e u =
    let back : suc k - 1 ≡ k = omega arith in
    let more : suc k ≡ k + 1 = omega arith in
    more ∙ sym (ap length e ∙ ap (λ n. length (trimmed (take n (lines_of page)))) more
    ∙ length-trimmed_take (lines_of page) k (ap (λ n. is_unused (item_in (lines_of page) n)) (sym back) ∙ u))

pub no-line : (page : List ℕ) (n : ℕ) → n ≡ 0 → items_of page ≡ trimmed (take n (lines_of page)) → n ≡ length (items_of page)
no-line page n z e = z ∙ sym (ap length e ∙ ap (λ k. length (trimmed (take k (lines_of page)))) z)

-- a line that is in use
pub record InUse (page : List ℕ) (n : ℕ) : Type 0 where
  pub laid : IsTrue (is_laid page)
  pub low : 0 < n
  pub below : n - 1 < line_count page

pub in_use : (page : List ℕ) (n : ℕ) → IsPage page → is_unused (numbered (items_of page) n) ≡ false → InUse page n
in_use page n h u =
    let used = used-number (items_of page) n u in
    let below : n - 1 < line_count page = omega (arith, used.1, length-items page) in
    record { laid = laid-line page (n - 1) h below; low = used.0; below = below }

-- the position is set
pub position-set : (old mid new : List ℕ) (position : ℕ) → IsTrue (is_laid old) → length old ≡ 8192 → position < 2 ^ 64 → mid ≡ written old 0 (number_bytes 4 (position / 2 ^ 32)) → new ≡ written mid 4 (number_bytes 4 (position % 2 ^ 32)) → IsSet old new position
unfolding lsn_of
position-set old mid new position rule size small em en =
    let lm = length-number_bytes 4 (position / 2 ^ 32) in
    let ln = length-number_bytes 4 (position % 2 ^ 32) in
    let sm : length mid ≡ 8192 = ap length em ∙ length-written old 0 (number_bytes 4 (position / 2 ^ 32)) (omega arith) ∙ size in
    let sn : length new ≡ 8192 = ap length en ∙ length-written mid 4 (number_bytes 4 (position % 2 ^ 32)) (omega arith) ∙ sm in
    let bytes : SameFrom 8 8192 new old =
    same-then 8 8192 new mid old
    (subst (λ x. SameFrom 8 8192 x mid) (sym en) (after-written mid 4 (number_bytes 4 (position % 2 ^ 32)) 8 8192 (omega arith) (omega arith)))
    (subst (λ x. SameFrom 8 8192 x old) (sym em) (after-written old 0 (number_bytes 4 (position / 2 ^ 32)) 8 8192 (omega arith) (omega arith))) in
    let field : (n p : ℕ) → 8 ≤ p → p + n ≤ 8192 → number_at n new p ≡ number_at n old p =
    λ n p l u. number_at-same n p new old (same-within 8 8192 p (p + n) new old bytes l u) in
    let laid = laid-true old rule in
    let b = bounds old rule in
    let lower : lower_of new ≡ lower_of old = field 2 12 (omega arith) (omega arith) in
    let upper : upper_of new ≡ upper_of old = field 2 14 (omega arith) (omega arith) in
    let count : line_count new ≡ line_count old = ap (λ n. (n - 24) / 4) lower in
    let kept : Kept old new = record {
      old_length = size;
      new_length = sn;
      header = record {
        version = field 2 18 (omega arith) (omega arith) ∙ laid.header.version;
        special = field 2 16 (omega arith) (omega arith) ∙ laid.header.special;
        behind = omega (arith, lower);
        order = omega (arith, lower, upper);
        inside = omega (arith, upper);
        step = ap (λ n. n % 4) lower ∙ laid.header.step;
      };
      upper = omega (arith, upper);
      tuples = same-within 8 8192 (upper_of old) 8192 new old bytes (omega arith) (omega arith);
    } in
    let pointers : (k : ℕ) → k < line_count old → pointer_of new k ≡ pointer_of old k =
    λ k l. field 4 (24 + 4 * k) (omega arith) (omega arith) in
    let high : number_at 4 new 0 ≡ position / 2 ^ 32 =
    ap (λ x. number_at 4 x 0) en ∙ field-before 4 0 4 mid (number_bytes 4 (position % 2 ^ 32)) (omega arith) (omega arith)
    ∙ ap (λ x. number_at 4 x 0) em ∙ number_at-written 4 (position / 2 ^ 32) 0 old (omega arith) (omega arith) in
    let low : number_at 4 new 4 ≡ position % 2 ^ 32 =
    ap (λ x. number_at 4 x 4) en ∙ number_at-written 4 (position % 2 ^ 32) 4 mid (omega arith) (omega arith) in
    record {
      page = laid-page new sn (true-laid new (laid-kept old new laid kept 0 (λ k l. same (omega (arith, count, l)) (pointers k (omega (arith, count, l))))));
      items = items-kept old new laid kept (omega (arith, count)) pointers (λ k p l. absurd (omega (arith, count, p, l)));
      lsn = omega (arith, high, low);
    }

-- the lines are taken away
pub cleared : (old mid new : List ℕ) → IsTrue (is_laid old) → length old ≡ 8192 → mid ≡ written old 12 (number_bytes 2 24) → new ≡ written mid 14 (number_bytes 2 8192) → Becomes old new [] 24 8192
unfolding lsn_of
cleared old mid new rule size em en =
    let lm = length-number_bytes 2 24 in
    let ln = length-number_bytes 2 8192 in
    let sm : length mid ≡ 8192 = ap length em ∙ length-written old 12 (number_bytes 2 24) (omega arith) ∙ size in
    let header = (laid-true old rule).header in
    let outside : (n p : ℕ) → (p + n ≤ 12) ⊎ (16 ≤ p) → number_at n new p ≡ number_at n old p =
    λ n p h. ap (λ x. number_at n x p) en
    ∙ elim h [
      | inl l ↦ field-before n p 14 mid (number_bytes 2 8192) (omega arith) (omega arith)
          ∙ ap (λ x. number_at n x p) em ∙ field-before n p 12 old (number_bytes 2 24) l (omega arith)
      | inr g ↦ field-behind n p 14 mid (number_bytes 2 8192) (omega arith) (omega arith)
          ∙ ap (λ x. number_at n x p) em ∙ field-behind n p 12 old (number_bytes 2 24) (omega arith) (omega arith)
    ] in
    let lower : lower_of new ≡ 24 =
    ap (λ x. number_at 2 x 12) en ∙ field-before 2 12 14 mid (number_bytes 2 8192) (omega arith) (omega arith)
    ∙ ap (λ x. number_at 2 x 12) em ∙ number_at-written 2 24 12 old (omega arith) (omega arith) in
    let upper : upper_of new ≡ 8192 = ap (λ x. number_at 2 x 14) en ∙ number_at-written 2 8192 14 mid (omega arith) (omega arith) in
    record {
      laid = empty-laid new (record {
        version = outside 2 18 (inr (omega arith)) ∙ header.version;
        special = outside 2 16 (inr (omega arith)) ∙ header.special;
        behind = omega (arith, lower);
        order = omega (arith, lower, upper);
        inside = omega (arith, upper);
        step = ap (λ n. n % 4) lower;
      }) lower;
      items = no-lines new (ap (λ n. (n - 24) / 4) lower);
      lsn = omega (arith, outside 4 0 (inl (omega arith)), outside 4 4 (inl (omega arith)));
      lower = lower;
      upper = upper;
    }
