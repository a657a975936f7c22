-- The bytes of a tuple whose header changes, and the fields that they show.
use Rattle.std.proofs.Common.{◌≡◌, ℕ, ◌+◌, ◌-◌, ◌/◌, ◌%◌, ◌^◌, ◌<◌, ◌≤◌, Bool, true, false, List, ◌∷◌, ◌++◌, length, drop, slice_index, refl, sym, ap, ◌∙◌, arith, if◌then◌else◌}
use Rattle.std.proofs.lemmas.Bool.Decides.{nat_tests}
use Rattle.std.proofs.lemmas.List.{get_or-drop, drop_more, drop-drop}
use Rattle.std.proofs.lemmas.List.Elements.{All-cons}
use Rattle.std.proofs.lemmas.Nat.{or_lt, and_le_l}
use Rattle.byteorder.specs.Endian.{little_bytes}
use Rattle.byteorder.specs.Numbers.{little_number-reads_back}
use Rattle.pg_types.specs.Numbers.{number_at, has_bits}
use Rattle.heap_tuple.specs.Tuple.{IsTuple, is_tuple, is_tuple_head, xmin_of, xmax_of, infomask_of, infomask2_of, hoff_of, is_lock_only}
use Rattle.heap_tuple.proofs.SameTuples.{same_hoff}
use Rattle.heap_redo.specs.TupleHeads.{Head, head_of, head_bytes, marked_mask, marked, pointing_to, hot, pointing_after_delete, deleted, replaced, locked}
use Rattle.heap_redo.specs.After.{user_data}
use Rattle.pg_types.specs.Bytes.{AreBytes}
use Rattle.row_redo.proofs.Bits.{mark-columns, mark2-small, with-columns, without-columns}
use Rattle.pg_types.proofs.Bytes.{both-bytes, byte-below, number-bytes, number-fits}

-- the fields of a header fit their bytes
pub record HeadFits (head : Head) : Type 0 where
  pub xmin : head.xmin < 2 ^ 32
  pub xmax : head.xmax < 2 ^ 32
  pub mask2 : head.mask2 < 2 ^ 16
  pub mask : head.mask < 2 ^ 16
  pub hoff : head.hoff < 2 ^ 8

pub head-fits : (tuple : List ℕ) → AreBytes tuple → HeadFits (head_of tuple)
unfolding head_of
head-fits tuple h = record {
  xmin = number-fits 4 tuple 0 h;
  xmax = number-fits 4 tuple 4 h;
  mask2 = number-fits 2 tuple 18 h;
  mask = number-fits 2 tuple 20 h;
  hoff = byte-below tuple h 22;
}

-- these bytes show the header, and the rest behind it
pub record Reads (head : Head) (rest tuple : List ℕ) : Type 0 where
  pub xmin : xmin_of tuple ≡ head.xmin
  pub xmax : xmax_of tuple ≡ head.xmax
  pub mask2 : infomask2_of tuple ≡ head.mask2
  pub mask : infomask_of tuple ≡ head.mask
  pub end : drop 22 tuple ≡ head.hoff ∷ rest

-- its masks are read back, whatever the other fields are
pub mask2-reads : (head : Head) (rest : List ℕ) → head.mask2 < 2 ^ 16 → infomask2_of (head_bytes head ++ rest) ≡ head.mask2
unfolding head_bytes number_at
mask2-reads head rest small = little_number-reads_back 2 head.mask2 (drop 20 (head_bytes head ++ rest)) small

pub mask-reads : (head : Head) (rest : List ℕ) → head.mask < 2 ^ 16 → infomask_of (head_bytes head ++ rest) ≡ head.mask
unfolding head_bytes number_at
mask-reads head rest small = little_number-reads_back 2 head.mask (drop 22 (head_bytes head ++ rest)) small

pub head-reads : (head : Head) (rest : List ℕ) → HeadFits head → Reads head rest (head_bytes head ++ rest)
unfolding head_bytes number_at
head-reads head rest fits = record {
  xmin = little_number-reads_back 4 head.xmin (drop 4 (head_bytes head ++ rest)) fits.xmin;
  xmax = little_number-reads_back 4 head.xmax (drop 8 (head_bytes head ++ rest)) fits.xmax;
  mask2 = mask2-reads head rest fits.mask2;
  mask = mask-reads head rest fits.mask;
  end = refl;
}

pub head-bytes : (head : Head) (rest : List ℕ) → head.hoff < 2 ^ 8 → AreBytes rest → AreBytes (head_bytes head ++ rest)
unfolding head_bytes
head-bytes head rest small h =
    let l0 = head.hoff ∷ rest in
    let l1 = little_bytes 2 head.mask ++ l0 in
    let l2 = little_bytes 2 head.mask2 ++ l1 in
    let l3 = little_bytes 2 head.ctid_line ++ l2 in
    let l4 = little_bytes 2 (head.ctid_block % 65536) ++ l3 in
    let l5 = little_bytes 2 (head.ctid_block / 65536) ++ l4 in
    let l6 = little_bytes 4 head.cid ++ l5 in
    let l7 = little_bytes 4 head.xmax ++ l6 in
    let h0 = All-cons (λ (byte : ℕ). byte < 256) head.hoff rest small h in
    let h1 = both-bytes (little_bytes 2 head.mask) l0 (number-bytes 2 head.mask) h0 in
    let h2 = both-bytes (little_bytes 2 head.mask2) l1 (number-bytes 2 head.mask2) h1 in
    let h3 = both-bytes (little_bytes 2 head.ctid_line) l2 (number-bytes 2 head.ctid_line) h2 in
    let h4 = both-bytes (little_bytes 2 (head.ctid_block % 65536)) l3 (number-bytes 2 (head.ctid_block % 65536)) h3 in
    let h5 = both-bytes (little_bytes 2 (head.ctid_block / 65536)) l4 (number-bytes 2 (head.ctid_block / 65536)) h4 in
    let h6 = both-bytes (little_bytes 4 head.cid) l5 (number-bytes 4 head.cid) h5 in
    let h7 = both-bytes (little_bytes 4 head.xmax) l6 (number-bytes 4 head.xmax) h6 in
    both-bytes (little_bytes 4 head.xmin) l7 (number-bytes 4 head.xmin) h7

-- a tuple has the byte of its hoff and one more
pub tuple-long : (tuple : List ℕ) → IsTuple tuple → (24 ≤ hoff_of tuple) × (hoff_of tuple ≤ length tuple)
unfolding is_tuple is_tuple_head
tuple-long tuple h = (grind (arith, nat_tests), grind (arith, nat_tests))

pub end-of : (tuple : List ℕ) → IsTuple tuple → drop 22 tuple ≡ hoff_of tuple ∷ drop 23 tuple
end-of tuple h = let long = tuple-long tuple h in drop_more tuple 22 0 (omega arith)

-- tuples that are the same from their hoff on have the same values
values-behind : (tuple : List ℕ) → 24 ≤ hoff_of tuple → user_data tuple ≡ drop (slice_index (drop 22 tuple) 0 - 22) (drop 22 tuple)
values-behind tuple long =
    let byte : slice_index (drop 22 tuple) 0 ≡ hoff_of tuple = get_or-drop 22 tuple 0 0 in
    let past : hoff_of tuple ≡ 22 + (hoff_of tuple - 22) = omega arith in
    ap (λ k. drop k tuple) past ∙ sym (drop-drop (hoff_of tuple - 22) 22 tuple) ∙ ap (λ b. drop (b - 22) (drop 22 tuple)) (sym byte)

pub same-values : (tuple written : List ℕ) → IsTuple tuple → drop 22 tuple ≡ drop 22 written → user_data tuple ≡ user_data written
same-values tuple written h e =
    let byte = same_hoff tuple written e in
    let long = tuple-long tuple h in
    values-behind tuple (omega arith) ∙ ap (λ l. drop (slice_index l 0 - 22) l) e ∙ sym (values-behind written (omega (arith, byte)))

-- how a record's mark changes a header: the inserter and the deleter are these, the masks are marked, and hoff stays
pub record Marks (xmin xmax bits : ℕ) (before after : Head) : Type 0 where
  pub xmin_is : after.xmin ≡ xmin
  pub xmax_is : after.xmax ≡ xmax
  pub mask_is : after.mask ≡ marked_mask bits before.mask
  pub columns : after.mask2 % 2 ^ 11 ≡ before.mask2 % 2 ^ 11
  pub small : after.mask2 < 2 ^ 16
  pub hoff_is : after.hoff ≡ before.hoff

pub marks-marked : (xmax bits : ℕ) (head : Head) → Marks head.xmin xmax bits head (marked xmax bits head)
marks-marked xmax bits head = record {
  xmin_is = refl;
  xmax_is = refl;
  mask_is = refl;
  columns = mark-columns bits head.mask2;
  small = mark2-small bits head.mask2;
  hoff_is = refl;
}

-- where a tuple points next is none of these fields, and whether that is heap-only stands in none of the masks' bits that count
pub marks-pointing :
    (xmin xmax bits block line : ℕ) (before after : Head) → Marks xmin xmax bits before after
    → Marks xmin xmax bits before (pointing_to block line after)
marks-pointing xmin xmax bits block line before after m = record {
  xmin_is = m.xmin_is;
  xmax_is = m.xmax_is;
  mask_is = m.mask_is;
  columns = m.columns;
  small = m.small;
  hoff_is = m.hoff_is;
}

pub marks-hot :
    (xmin xmax bits : ℕ) (is_hot : Bool) (before after : Head) → Marks xmin xmax bits before after
    → Marks xmin xmax bits before (hot is_hot after)
marks-hot xmin xmax bits true before after m =
    let small = m.small in
    record {
      xmin_is = m.xmin_is;
      xmax_is = m.xmax_is;
      mask_is = m.mask_is;
      columns = with-columns after.mask2 0x4000 refl ∙ m.columns;
      small = or_lt 16 after.mask2 0x4000 small (omega arith);
      hoff_is = m.hoff_is;
    }
marks-hot xmin xmax bits false before after m =
    let below = and_le_l after.mask2 (65535 - 0x4000) in
    let small = m.small in
    record {
      xmin_is = m.xmin_is;
      xmax_is = m.xmax_is;
      mask_is = m.mask_is;
      columns = without-columns after.mask2 0x4000 refl ∙ m.columns;
      small = omega arith;
      hoff_is = m.hoff_is;
    }

pub marks-replaced :
    (xmax bits : ℕ) (is_hot : Bool) (block line : ℕ) (head : Head)
    → Marks head.xmin xmax bits head (replaced xmax bits is_hot block line head)
unfolding replaced
marks-replaced xmax bits is_hot block line head =
    marks-pointing head.xmin xmax bits block line head (hot is_hot (marked xmax bits head))
    (marks-hot head.xmin xmax bits is_hot head (marked xmax bits head) (marks-marked xmax bits head))

pub marks-locked :
    (xmax bits block line : ℕ) (head : Head) → Marks head.xmin xmax bits head (locked xmax bits block line head)
unfolding locked
marks-locked xmax bits block line head = by_test (is_lock_only (marked xmax bits head).mask)
  where
    by_test : (b : Bool) → Marks head.xmin xmax bits head (if b then pointing_to block line (hot false (marked xmax bits head)) else marked xmax bits head)
    by_test true =
        marks-pointing head.xmin xmax bits block line head (hot false (marked xmax bits head))
        (marks-hot head.xmin xmax bits false head (marked xmax bits head) (marks-marked xmax bits head))
    by_test false = marks-marked xmax bits head

marks-after_delete :
    (xmin xmax bits flags block line : ℕ) (before after : Head) → Marks xmin xmax bits before after
    → Marks xmin xmax bits before (pointing_after_delete flags block line after)
marks-after_delete xmin xmax bits flags block line before after m = by_test (has_bits flags 0x10)
  where
    by_test : (b : Bool) → Marks xmin xmax bits before (if b then pointing_to 0xFFFFFFFF 0xFFFD after else pointing_to block line after)
    by_test true = marks-pointing xmin xmax bits 0xFFFFFFFF 0xFFFD before after m
    by_test false = marks-pointing xmin xmax bits block line before after m

-- a deletion marks as any, but one that takes an insertion back leaves no inserter, and xmax as it was
pub marks-deleted :
    (xmax bits flags block line : ℕ) (head : Head) → has_bits flags 0x08 ≡ false
    → Marks head.xmin xmax bits head (deleted xmax bits flags block line head)
unfolding deleted
marks-deleted xmax bits flags block line head e =
    rw e (marks-after_delete head.xmin xmax bits flags block line head (hot false (marked xmax bits head))
    (marks-hot head.xmin xmax bits false head (marked xmax bits head) (marks-marked xmax bits head)))

pub marks-undone :
    (xmax bits flags block line : ℕ) (head : Head) → has_bits flags 0x08 ≡ true
    → Marks 0 head.xmax bits head (deleted xmax bits flags block line head)
unfolding deleted
marks-undone xmax bits flags block line head e =
    let m = marks-after_delete head.xmin xmax bits flags block line head (hot false (marked xmax bits head))
    (marks-hot head.xmin xmax bits false head (marked xmax bits head) (marks-marked xmax bits head)) in
    rw e (record {
      xmin_is = refl;
      xmax_is = refl;
      mask_is = m.mask_is;
      columns = m.columns;
      small = m.small;
      hoff_is = m.hoff_is;
    })
