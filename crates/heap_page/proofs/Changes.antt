-- The changes inside a page, each by the bytes that it writes.
use Rattle.std.proofs.Common.{◌≡◌, ◌≢◌, inl, inr, ℕ, ◌+◌, ◌-◌, ◌*◌, ◌/◌, ◌%◌, ◌^◌, ◌<◌, ◌≤◌, List, length, take, drop, replicate, IsTrue, subst, refl, sym, ap, ◌∙◌, arith}
use Rattle.std.proofs.lemmas.Bool.Decides.{nat_tests}
use Rattle.std.proofs.lemmas.Bool.{cases_eq, cases_lt}
use Rattle.std.proofs.lemmas.List.{length-replicate, get_or-replicate}
use Rattle.pg_types.specs.Numbers.{number_at}
use Rattle.heap_tuple.specs.Tuple.{IsTuple}
use Rattle.heap_page.specs.Item.{Item, unused, normal, redirect, dead, with_item, aligned}
use Rattle.heap_page.specs.Page.{lsn_of, lower_of, upper_of, special_of, version_of, line_count, pointer_of, pointer_with, offset_in, state_in, length_in, bytes_at, item_of, items_of, end_of_room, is_laid}
use Rattle.heap_page.specs.declared.line.LineState.{LineState}
use Rattle.heap_page.specs.declared.line.LineState.TheVariants.{Redirect}
use Rattle.heap_page.specs.Shown.{IsState}
use Rattle.heap_page.specs.Write.{number_bytes, written}
use Rattle.heap_page.specs.Change.{Becomes}
use Rattle.heap_page.proofs.Written.{SameFrom, same-within, same-then, number_at-same, number_at-zeros, number_at-written, get_or-written_in, length-written, length-number_bytes, before-written, after-written, part-same}
use Rattle.heap_page.proofs.Laid.{Header, Placed, laid-true, true-laid}
use Rattle.heap_page.proofs.Kept.{Kept, same, empty, placed, laid-kept, items-kept, items-changed}

-- the bounds of a page's parts
pub record Bounds (page : List ℕ) : Type 0 where
  pub behind : 24 ≤ lower_of page
  pub order : lower_of page ≤ upper_of page
  pub inside : upper_of page ≤ 8192
  pub lines : 24 + 4 * line_count page ≡ lower_of page

pub bounds : (page : List ℕ) → IsTrue (is_laid page) → Bounds page
bounds page h =
    let header = (laid-true page h).header in
    record { behind = header.behind; order = header.order; inside = header.inside; lines = omega (arith, header.behind, header.step) }

pub item_of-zero : (page : List ℕ) → item_of page 0 ≡ unused
unfolding item_of
item_of-zero page = refl

-- the fields of the header after a write behind it
pub record HeaderSame (old new : List ℕ) : Type 0 where
  pub lsn : lsn_of new ≡ lsn_of old
  pub lower : lower_of new ≡ lower_of old
  pub upper : upper_of new ≡ upper_of old
  pub special : special_of new ≡ special_of old
  pub version : version_of new ≡ version_of old

lsn-same : (old new : List ℕ) → SameFrom 0 8 new old → lsn_of new ≡ lsn_of old
unfolding lsn_of
lsn-same old new s =
    let high = number_at-same 4 0 new old (same-within 0 8 0 4 new old s (omega arith) (omega arith)) in
    let low = number_at-same 4 4 new old (same-within 0 8 4 8 new old s (omega arith) (omega arith)) in
    cc

pub header-same : (old new : List ℕ) → SameFrom 0 24 new old → HeaderSame old new
header-same old new s = record {
  lsn = lsn-same old new (same-within 0 24 0 8 new old s (omega arith) (omega arith));
  lower = number_at-same 2 12 new old (same-within 0 24 12 14 new old s (omega arith) (omega arith));
  upper = number_at-same 2 14 new old (same-within 0 24 14 16 new old s (omega arith) (omega arith));
  special = number_at-same 2 16 new old (same-within 0 24 16 18 new old s (omega arith) (omega arith));
  version = number_at-same 2 18 new old (same-within 0 24 18 20 new old s (omega arith) (omega arith));
}

pub header-kept : (old new : List ℕ) → Header old → HeaderSame old new → Header new
header-kept old new h s = record {
  version = s.version ∙ h.version;
  special = s.special ∙ h.special;
  behind = omega (arith, h.behind, s.lower);
  order = omega (arith, h.order, s.lower, s.upper);
  inside = omega (arith, h.inside, s.upper);
  step = ap (λ n. n % 4) s.lower ∙ h.step;
}

-- one line pointer is written
pub record OnePointer (old new : List ℕ) (k w : ℕ) : Type 0 where
  pub kept : Kept old new
  pub fields : HeaderSame old new
  pub count : line_count new ≡ line_count old
  pub others : (j : ℕ) → j < line_count old → j ≢ k → pointer_of new j ≡ pointer_of old j
  pub here : pointer_of new k ≡ w

pub pointer-written : (old : List ℕ) (k w : ℕ) → IsTrue (is_laid old) → length old ≡ 8192 → k < line_count old → w < 2 ^ 32 → OnePointer old (written old (24 + 4 * k) (number_bytes 4 w)) k w
pointer-written old k w rule size below small =
    let b = bounds old rule in
    let len = length-number_bytes 4 w in
    let new = written old (24 + 4 * k) (number_bytes 4 w) in
    let fits : 24 + 4 * k + length (number_bytes 4 w) ≤ length old = omega arith in
    let fields = header-same old new (before-written old (24 + 4 * k) (number_bytes 4 w) 0 24 (omega arith) fits) in
    record {
      kept = record {
        old_length = size;
        new_length = length-written old (24 + 4 * k) (number_bytes 4 w) fits ∙ size;
        header = header-kept old new (laid-true old rule).header fields;
        upper = omega (arith, fields.upper);
        tuples = after-written old (24 + 4 * k) (number_bytes 4 w) (upper_of old) 8192 (omega arith) fits;
      };
      fields = fields;
      count = ap (λ n. (n - 24) / 4) fields.lower;
      others = λ j l n. elim (cases_lt j k) [
        | inl before ↦ number_at-same 4 (24 + 4 * j) new old (before-written old (24 + 4 * k) (number_bytes 4 w) (24 + 4 * j) (24 + 4 * j + 4) (omega arith) fits)
        | inr past ↦ number_at-same 4 (24 + 4 * j) new old (after-written old (24 + 4 * k) (number_bytes 4 w) (24 + 4 * j) (24 + 4 * j + 4) (omega (arith, n)) fits)
      ];
      here = number_at-written 4 w (24 + 4 * k) old small (omega arith);
    }

-- a line that gets a state without a tuple
pub line-changed : (old : List ℕ) (k w : ℕ) (item : Item) → IsTrue (is_laid old) → length old ≡ 8192 → k < line_count old → w < 2 ^ 32 → (state_in w ≢ 1) → ((page : List ℕ) → item_of page w ≡ item) → Becomes old (written old (24 + 4 * k) (number_bytes 4 w)) (with_item (items_of old) k item) (lower_of old) (upper_of old)
line-changed old k w item rule size below small other shows =
    let new = written old (24 + 4 * k) (number_bytes 4 w) in
    let one = pointer-written old k w rule size below small in
    let laid = laid-true old rule in
    record {
      laid = true-laid new (laid-kept old new laid one.kept k
          (λ j l. elim (cases_eq j k) [
            | inl here ↦ empty (λ points. other (ap state_in (sym (ap (pointer_of new) here ∙ one.here)) ∙ points))
            | inr n ↦ same (omega (arith, one.count, l)) (one.others j (omega (arith, one.count, l)) n)
          ]));
      items = items-changed old new laid one.kept k below one.count one.others ∙ ap (with_item (items_of old) k) (ap (item_of new) one.here ∙ shows new);
      lsn = one.fields.lsn;
      lower = one.fields.lower;
      upper = one.fields.upper;
    }

-- a tuple's bytes are written into the free part
pub hole-written : (old : List ℕ) (at : ℕ) (bytes : List ℕ) → IsTrue (is_laid old) → length old ≡ 8192 → lower_of old ≤ at → at + length bytes ≤ upper_of old → Becomes old (written old at bytes) (items_of old) (lower_of old) (upper_of old)
hole-written old at bytes rule size past room =
    let b = bounds old rule in
    let new = written old at bytes in
    let laid = laid-true old rule in
    let fits : at + length bytes ≤ length old = omega arith in
    let fields = header-same old new (before-written old at bytes 0 24 (omega arith) fits) in
    let kept : Kept old new = record {
      old_length = size;
      new_length = length-written old at bytes fits ∙ size;
      header = header-kept old new laid.header fields;
      upper = omega (arith, fields.upper);
      tuples = after-written old at bytes (upper_of old) 8192 (omega arith) fits;
    } in
    let count : line_count new ≡ line_count old = ap (λ n. (n - 24) / 4) fields.lower in
    let pointers : (k : ℕ) → k < line_count old → pointer_of new k ≡ pointer_of old k =
    λ k l. number_at-same 4 (24 + 4 * k) new old (before-written old at bytes (24 + 4 * k) (24 + 4 * k + 4) (omega arith) fits) in
    record {
      laid = true-laid new (laid-kept old new laid kept 0 (λ k l. same (omega (arith, count, l)) (pointers k (omega (arith, count, l)))));
      items = items-kept old new laid kept (omega (arith, count)) pointers (λ k p l. absurd (omega (arith, count, p, l)));
      lsn = fields.lsn;
      lower = fields.lower;
      upper = fields.upper;
    }

-- unused lines are added
pub lines-added : (old : List ℕ) (count : ℕ) → IsTrue (is_laid old) → length old ≡ 8192 → line_count old ≤ count → 24 + 4 * count ≤ upper_of old → Becomes old (written (written old (lower_of old) (replicate (24 + 4 * count - lower_of old) 0)) 12 (number_bytes 2 (24 + 4 * count))) (items_of old) (24 + 4 * count) (upper_of old)
lines-added old count rule size more room =
    let b = bounds old rule in
    let low : ℕ = lower_of old in
    let end : ℕ = 24 + 4 * count in
    let zeros : List ℕ = replicate (end - low) 0 in
    let zlen : length zeros ≡ end - low = length-replicate (end - low) 0 in
    let mid = written old low zeros in
    let len = length-number_bytes 2 end in
    let new = written mid 12 (number_bytes 2 end) in
    let laid = laid-true old rule in
    let fits : low + length zeros ≤ length old = omega arith in
    let midsize : length mid ≡ 8192 = length-written old low zeros fits ∙ size in
    let fits2 : 12 + length (number_bytes 2 end) ≤ length mid = omega arith in
    let head = header-same old mid (before-written old low zeros 0 24 (omega arith) fits) in
    let lower : lower_of new ≡ end = number_at-written 2 end 12 mid (omega arith) (omega arith) in
    let later : (n at : ℕ) → 14 ≤ at → number_at n new at ≡ number_at n mid at = λ n at p. number_at-same n at new mid (after-written mid 12 (number_bytes 2 end) at (at + n) (omega arith) fits2) in
    let upper : upper_of new ≡ upper_of old = later 2 14 (omega arith) ∙ head.upper in
    let kept : Kept old new = record {
      old_length = size;
      new_length = length-written mid 12 (number_bytes 2 end) fits2 ∙ midsize;
      header = record {
        version = later 2 18 (omega arith) ∙ head.version ∙ laid.header.version;
        special = later 2 16 (omega arith) ∙ head.special ∙ laid.header.special;
        behind = omega (arith, lower);
        order = omega (arith, lower, upper);
        inside = omega (arith, upper);
        step = ap (λ n. n % 4) lower ∙ (let e : (24 + 4 * count) % 4 ≡ 0 = omega arith in e);
      };
      upper = omega (arith, upper);
      tuples = same-then (upper_of old) 8192 new mid old
          (after-written mid 12 (number_bytes 2 end) (upper_of old) 8192 (omega arith) fits2)
          (after-written old low zeros (upper_of old) 8192 (omega arith) fits);
    } in
    let lines : line_count new ≡ count = omega (arith, lower) in
    let pointers : (k : ℕ) → k < line_count old → pointer_of new k ≡ pointer_of old k =
    λ k l. later 4 (24 + 4 * k) (omega arith) ∙ number_at-same 4 (24 + 4 * k) mid old (before-written old low zeros (24 + 4 * k) (24 + 4 * k + 4) (omega arith) fits) in
    let added : (k : ℕ) → line_count old ≤ k → k < line_count new → pointer_of new k ≡ 0 =
    λ k p l. later 4 (24 + 4 * k) (omega arith) ∙ number_at-zeros 4 (24 + 4 * k) mid
    (λ i. λ l1 l2. get_or-written_in old low zeros i (omega (arith, p)) (omega (arith, lines, l, l2)) fits ∙ get_or-replicate (end - low) (i - low) 0 0 (omega (arith, lines, l, l2, p, l1))) in
    record {
      laid = true-laid new (laid-kept old new laid kept 0
          (λ k l. elim (cases_lt k (line_count old)) [
            | inl below ↦ same below (pointers k below)
            | inr past ↦ empty (λ points. let zero_state : state_in 0 ≡ 1 = ap state_in (sym (added k past l)) ∙ points in omega arith)
          ]));
      items = items-kept old new laid kept (omega (arith, lines)) pointers (λ k p l. ap (item_of new) (added k p l) ∙ item_of-zero new);
      lsn = lsn-same mid new (before-written mid 12 (number_bytes 2 end) 0 8 (omega arith) fits2) ∙ head.lsn;
      lower = lower;
      upper = upper;
    }

-- the parts of a line pointer that was put together of them
pub record PointerParts (offset state len : ℕ) : Type 0 where
  pub small : pointer_with offset state len < 2 ^ 32
  pub offset_is : offset_in (pointer_with offset state len) ≡ offset
  pub state_is : state_in (pointer_with offset state len) ≡ state
  pub length_is : length_in (pointer_with offset state len) ≡ len

pub pointer_parts : (offset state len : ℕ) → offset < 2 ^ 15 → state < 2 ^ 2 → len < 2 ^ 15 → PointerParts offset state len
pointer_parts offset state len o s l = record { small = omega arith; offset_is = omega arith; state_is = omega arith; length_is = omega arith }

pub item_of-normal : (page : List ℕ) (pointer : ℕ) → state_in pointer ≡ 1 → item_of page pointer ≡ normal (bytes_at page pointer)
unfolding item_of
item_of-normal page pointer h = grind (arith, nat_tests)

end-of-room : (pointer at len high : ℕ) → offset_in pointer ≡ at → length_in pointer ≡ len → at + aligned len ≤ high → end_of_room pointer ≤ high
end-of-room pointer at len high o l room = subst (λ n. n + aligned (length_in pointer) ≤ high) (sym o) (subst (λ n. at + aligned n ≤ high) (sym l) room)

-- a line is pointed to a tuple in the free part, where the tuples now begin
pub tuple-pointed : (old : List ℕ) (k at len : ℕ) → IsTrue (is_laid old) → length old ≡ 8192 → k < line_count old → at % 8 ≡ 0 → lower_of old ≤ at → at + aligned len ≤ upper_of old → len < 2 ^ 15 → IsTuple (take len (drop at old)) → Becomes old (written (written old (24 + 4 * k) (number_bytes 4 (pointer_with at 1 len))) 14 (number_bytes 2 at)) (with_item (items_of old) k (normal (take len (drop at old)))) (lower_of old) at
tuple-pointed old k at len rule size below multiple past room short tuple =
    let b = bounds old rule in
    let w : ℕ = pointer_with at 1 len in
    let parts = pointer_parts at 1 len (omega arith) (omega arith) short in
    let one = pointer-written old k w rule size below parts.small in
    let laid = laid-true old rule in
    let mid : List ℕ = written old (24 + 4 * k) (number_bytes 4 w) in
    let l2 : length (number_bytes 2 at) ≡ 2 = length-number_bytes 2 at in
    let new : List ℕ = written mid 14 (number_bytes 2 at) in
    let midsize : length mid ≡ 8192 = one.kept.new_length in
    let fits : 14 + length (number_bytes 2 at) ≤ length mid = omega arith in
    let upper : upper_of new ≡ at = number_at-written 2 at 14 mid (omega arith) (omega arith) in
    let later : (n p : ℕ) → 16 ≤ p → number_at n new p ≡ number_at n mid p = λ n p q. number_at-same n p new mid (after-written mid 14 (number_bytes 2 at) p (p + n) (omega arith) fits) in
    let lower : lower_of new ≡ lower_of old = number_at-same 2 12 new mid (before-written mid 14 (number_bytes 2 at) 12 14 (omega arith) fits) ∙ one.fields.lower in
    let tuples : SameFrom (upper_of old) 8192 new old = same-then (upper_of old) 8192 new mid old (after-written mid 14 (number_bytes 2 at) (upper_of old) 8192 (omega arith) fits) one.kept.tuples in
    let kept : Kept old new = record {
      old_length = size;
      new_length = length-written mid 14 (number_bytes 2 at) fits ∙ midsize;
      header = record {
        version = later 2 18 (omega arith) ∙ one.fields.version ∙ laid.header.version;
        special = later 2 16 (omega arith) ∙ one.fields.special ∙ laid.header.special;
        behind = omega (arith, lower);
        order = omega (arith, lower, upper);
        inside = omega (arith, upper);
        step = ap (λ n. n % 4) lower ∙ laid.header.step;
      };
      upper = omega (arith, upper);
      tuples = tuples;
    } in
    let count : line_count new ≡ line_count old = ap (λ n. (n - 24) / 4) lower in
    let others : (j : ℕ) → j < line_count old → j ≢ k → pointer_of new j ≡ pointer_of old j =
    λ j l n. later 4 (24 + 4 * j) (omega arith) ∙ one.others j l n in
    let here : pointer_of new k ≡ w = later 4 (24 + 4 * k) (omega arith) ∙ one.here in
    let off : offset_in (pointer_of new k) ≡ at = ap offset_in here ∙ parts.offset_is in
    let size_is : length_in (pointer_of new k) ≡ len = ap length_in here ∙ parts.length_is in
    let free : SameFrom at (at + len) new old = same-then at (at + len) new mid old
    (after-written mid 14 (number_bytes 2 at) at (at + len) (omega arith) fits)
    (after-written old (24 + 4 * k) (number_bytes 4 w) at (at + len) (omega (arith, length-number_bytes 4 w)) (omega (arith, length-number_bytes 4 w))) in
    let bytes : bytes_at new (pointer_of new k) ≡ take len (drop at old) =
    ap (λ n. take n (drop (offset_in (pointer_of new k)) new)) size_is
    ∙ ap (λ n. take len (drop n new)) off
    ∙ part-same at len new old (kept.new_length ∙ sym size) (omega arith) free in
    let state : state_in (pointer_of new k) ≡ 1 = ap state_in here ∙ parts.state_is in
    let point : Placed new (pointer_of new k) = record {
      multiple = ap (λ n. n % 8) off ∙ multiple;
      past = omega (arith, upper, off);
      inside = omega (arith, off, size_is);
      tuple = subst IsTuple (sym bytes) tuple;
    } in
    record {
      laid = true-laid new (laid-kept old new laid kept k
          (λ j l. elim (cases_eq j k) [
            | inl e ↦ placed e (subst (λ i. Placed new (pointer_of new i)) (sym e) point)
                (subst (λ i. end_of_room (pointer_of new i) ≤ upper_of old) (sym e) (end-of-room (pointer_of new k) at len (upper_of old) off size_is room))
            | inr n ↦ same (omega (arith, count, l)) (others j (omega (arith, count, l)) n)
          ]));
      items = items-changed old new laid kept k below count others
          ∙ ap (with_item (items_of old) k) (item_of-normal new (pointer_of new k) state ∙ ap normal bytes);
      lsn = lsn-same mid new (before-written mid 14 (number_bytes 2 at) 0 8 (omega arith) fits) ∙ one.fields.lsn;
      lower = lower;
      upper = upper;
    }

pub item_of-dead : (page : List ℕ) → item_of page 98304 ≡ dead
unfolding item_of
item_of-dead page = refl

pub item_of-redirect : (page : List ℕ) (line : ℕ) → line < 2 ^ 15 → item_of page (pointer_with line 2 0) ≡ redirect line
unfolding item_of
item_of-redirect page line h =
    let parts = pointer_parts line 2 0 h (omega arith) (omega arith) in
    let named : redirect (offset_in (pointer_with line 2 0)) ≡ redirect line = ap redirect parts.offset_is in
    grind (arith, nat_tests)

pub redirect_fits : (to : LineState) (line : ℕ) → to ≡ Redirect line → IsState to → line < 2 ^ 15
redirect_fits to line e h = subst IsState e h
