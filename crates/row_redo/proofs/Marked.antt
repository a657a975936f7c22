-- A tuple that shows a version still shows it once a record marked its header.
use Rattle.std.proofs.Common.{◌≡◌, ℕ, ◌%◌, ◌^◌, ◌<◌, ◌==◌, Bool, ◌||◌, List, ◌∷◌, drop, bit_and, refl, sym, ap, subst, ◌∙◌, if◌then◌else◌}
use Rattle.std.proofs.lemmas.Bool.{false≢true}
use Rattle.std.proofs.lemmas.List.Elements.{All-drop}
use Rattle.heap_tuple.specs.Tuple.{IsTuple, xmin_of, xmax_of, infomask_of, columns_of, is_lock_only, max_of}
use Rattle.heap_tuple.specs.declared.tuple_view.MaxOf.{MaxOf}
use Rattle.heap_tuple.specs.declared.tuple_view.MaxOf.TheVariants.{None as NoDeleter, Xid as DeletedBy, Multi}
use Rattle.heap_page.specs.Put.{with_head}
use Rattle.tuple_visibility.specs.Visible.{xmin_marks}
use Rattle.typed_records.specs.declared.types.Rec.{Rec}
use Rattle.row_model.specs.Origins.{LogOrigin}
use Rattle.pg_types.specs.Numbers.{has_bits}
use Rattle.heap_redo.specs.TupleHeads.{Head, head_of, head_bytes, marked_mask, pointing_to}
use Rattle.row_model.specs.Versions.{Version, Inserter, Nobody, Always, By, taken_back, with_deleter}
use Rattle.row_model.specs.RowSteps.{deleter_of_mark}
use Rattle.row_model.specs.Shows.{StoresSame, ShowsInserter, ShowsDeleter, Shows}
use Rattle.pg_types.specs.Bytes.{AreBytes}
use Rattle.row_redo.proofs.Bits.{mark-xmin_marks, mark-nulls, mark-committed, mark-invalid, mark-lock_only, mark-multi, mark-small}
use Rattle.row_redo.proofs.Heads.{HeadFits, head-fits, head-reads, head-bytes, end-of, Marks}

-- what stands in the fields of a tuple after a mark
pub record IsMarked (xmin xmax bits : ℕ) (tuple new : List ℕ) : Type 0 where
  pub xmin_is : xmin_of new ≡ xmin
  pub xmax_is : xmax_of new ≡ xmax
  pub mask_is : infomask_of new ≡ marked_mask bits (infomask_of tuple)
  pub columns : columns_of new ≡ columns_of tuple
  pub values : drop 22 new ≡ drop 22 tuple
  pub bytes : AreBytes new

pub is-marked :
    (xmin xmax bits : ℕ) (tuple : List ℕ) (after : Head) → AreBytes tuple → IsTuple tuple → xmin < 2 ^ 32 → xmax < 2 ^ 32
    → Marks xmin xmax bits (head_of tuple) after → IsMarked xmin xmax bits tuple (with_head tuple (head_bytes after))
unfolding head_of
is-marked xmin xmax bits tuple after bytes rule low high m =
    let was = head-fits tuple bytes in
    let fits : HeadFits after = record {
      xmin = subst (λ (n : ℕ). n < 2 ^ 32) (sym m.xmin_is) low;
      xmax = subst (λ (n : ℕ). n < 2 ^ 32) (sym m.xmax_is) high;
      mask2 = m.small;
      mask = subst (λ (n : ℕ). n < 2 ^ 16) (sym m.mask_is) (mark-small bits (head_of tuple).mask);
      hoff = subst (λ (n : ℕ). n < 2 ^ 8) (sym m.hoff_is) was.hoff;
    } in
    let shown = head-reads after (drop 23 tuple) fits in
    record {
      xmin_is = shown.xmin ∙ m.xmin_is;
      xmax_is = shown.xmax ∙ m.xmax_is;
      mask_is = shown.mask ∙ m.mask_is;
      columns = ap (λ n. n % 2 ^ 11) shown.mask2 ∙ m.columns;
      values = shown.end ∙ ap (λ b. b ∷ drop 23 tuple) m.hoff_is ∙ sym (end-of tuple rule);
      bytes = head-bytes after (drop 23 tuple) fits.hoff (All-drop (λ (byte : ℕ). byte < 256) 23 tuple bytes);
    }

-- the deleter that a mark shows is the one that its record says
pub max-by : (lock lock2 multi multi2 : Bool) (xmax xmax2 : ℕ) → lock ≡ lock2 → multi ≡ multi2 → xmax ≡ xmax2
    → (if lock || (xmax == 0) then NoDeleter else if multi then Multi xmax else DeletedBy (record { 0 = xmax }))
    ≡ (if lock2 || (xmax2 == 0) then NoDeleter else if multi2 then Multi xmax2 else DeletedBy (record { 0 = xmax2 }))
max-by lock lock2 multi multi2 xmax xmax2 a b c = rw (a, b, c) refl

pub marked-max : (xmin xmax bits : ℕ) (tuple new : List ℕ) → IsMarked xmin xmax bits tuple new → max_of new ≡ deleter_of_mark xmax bits
unfolding max_of deleter_of_mark
marked-max xmin xmax bits tuple new m =
    max-by (is_lock_only (infomask_of new)) (is_lock_only (marked_mask bits 0)) (has_bits (infomask_of new) 0x1000) (has_bits bits 1)
    (xmax_of new) xmax
    (ap is_lock_only m.mask_is ∙ mark-lock_only bits (infomask_of tuple))
    (ap (λ n. has_bits n 0x1000) m.mask_is ∙ mark-multi bits (infomask_of tuple))
    m.xmax_is

-- the same inserter is shown where xmin and its marks are the same
pub same-inserter :
    (tuple new : List ℕ) (i : Inserter) → xmin_of new ≡ xmin_of tuple → xmin_marks new ≡ xmin_marks tuple → ShowsInserter tuple i
    → ShowsInserter new i
same-inserter tuple new Nobody e m h = e ∙ h
same-inserter tuple new Always e m h = ap (λ n. n == 0x0300) m ∙ h
same-inserter tuple new (By id) e m h = e ∙ h

pub this-deleter : (tuple : List ℕ) (i : Inserter) (d : MaxOf) → max_of tuple ≡ d → ShowsDeleter tuple i d
this-deleter tuple Nobody d e = tt
this-deleter tuple Always d e = e
this-deleter tuple (By id) d e = e

same-deleter : (tuple new : List ℕ) (i : Inserter) (d : MaxOf) → max_of new ≡ max_of tuple → ShowsDeleter tuple i d → ShowsDeleter new i d
same-deleter tuple new Nobody d e h = tt
same-deleter tuple new Always d e h = e ∙ h
same-deleter tuple new (By id) d e h = e ∙ h

marked-xmin : (xmin xmax bits : ℕ) (tuple new : List ℕ) → IsMarked xmin xmax bits tuple new → xmin_marks new ≡ xmin_marks tuple
marked-xmin xmin xmax bits tuple new m = ap (λ n. bit_and n 0x0300) m.mask_is ∙ mark-xmin_marks bits (infomask_of tuple)

marked-stores :
    (xmin xmax bits : ℕ) (tuple new written : List ℕ) → IsMarked xmin xmax bits tuple new → StoresSame tuple written
    → StoresSame new written
marked-stores xmin xmax bits tuple new written m same = record {
  columns = m.columns ∙ same.columns;
  nulls = ap (λ n. has_bits n 0x0001) m.mask_is ∙ mark-nulls bits (infomask_of tuple) ∙ same.nulls;
  bytes = m.values ∙ same.bytes;
}

module _ (from : LogOrigin) (log : List Rec) (v : Version) (tuple new : List ℕ) (shows : Shows from log v tuple) where
  -- a deleter or locker is marked
  pub shows-deleter :
      (xmax bits : ℕ) → IsMarked (xmin_of tuple) xmax bits tuple new → Shows from log (with_deleter (deleter_of_mark xmax bits) v) new
  shows-deleter xmax bits m =
      let same = marked-xmin (xmin_of tuple) xmax bits tuple new m in
      let old = shows.marks in
      let cleared = ap (λ n. has_bits n 0x0400) m.mask_is ∙ mark-committed bits (infomask_of tuple) in
      let valid = ap (λ n. has_bits n 0x0800) m.mask_is ∙ mark-invalid bits (infomask_of tuple) in
      record {
        row = marked-stores (xmin_of tuple) xmax bits tuple new v.tuple m shows.row;
        inserter = same-inserter tuple new v.inserter m.xmin_is same shows.inserter;
        frozen = ap (λ n. n == 0x0300) same ∙ shows.frozen;
        deleter = this-deleter new v.inserter (deleter_of_mark xmax bits) (marked-max (xmin_of tuple) xmax bits tuple new m);
        marks = record {
          inserter_committed = λ x by mark. old.inserter_committed x by (sym same ∙ mark);
          inserter_failed = λ x by mark. old.inserter_failed x by (sym same ∙ mark);
          deleter_committed = λ x by mark. absurd (false≢true (sym cleared ∙ mark));
          deleter_failed = λ x by mark. absurd (false≢true (sym valid ∙ mark));
        };
      }

  -- an insertion is taken back
  pub shows-undone : (xmax bits : ℕ) → IsMarked 0 xmax bits tuple new → Shows from log (taken_back v) new
  shows-undone xmax bits m =
      let same = marked-xmin 0 xmax bits tuple new m in
      let cleared = ap (λ n. has_bits n 0x0400) m.mask_is ∙ mark-committed bits (infomask_of tuple) in
      let valid = ap (λ n. has_bits n 0x0800) m.mask_is ∙ mark-invalid bits (infomask_of tuple) in
      record {
        row = marked-stores 0 xmax bits tuple new v.tuple m shows.row;
        inserter = m.xmin_is;
        frozen = ap (λ n. n == 0x0300) same ∙ shows.frozen;
        deleter = tt;
        marks = record {
          inserter_committed = λ x by mark. absurd (cc);
          inserter_failed = λ x by mark. absurd (cc);
          deleter_committed = λ x by mark. absurd (false≢true (sym cleared ∙ mark));
          deleter_failed = λ x by mark. absurd (false≢true (sym valid ∙ mark));
        };
      }

-- what stands in the fields of a tuple that points to another next version
pub record IsPointed (tuple new : List ℕ) : Type 0 where
  pub xmin_is : xmin_of new ≡ xmin_of tuple
  pub xmax_is : xmax_of new ≡ xmax_of tuple
  pub mask_is : infomask_of new ≡ infomask_of tuple
  pub columns : columns_of new ≡ columns_of tuple
  pub values : drop 22 new ≡ drop 22 tuple
  pub bytes : AreBytes new

pub is-pointed :
    (block line : ℕ) (tuple : List ℕ) → AreBytes tuple → IsTuple tuple
    → IsPointed tuple (with_head tuple (head_bytes (pointing_to block line (head_of tuple))))
unfolding head_of
is-pointed block line tuple bytes rule =
    let was = head-fits tuple bytes in
    let after = pointing_to block line (head_of tuple) in
    let fits : HeadFits after = record { xmin = was.xmin; xmax = was.xmax; mask2 = was.mask2; mask = was.mask; hoff = was.hoff } in
    let shown = head-reads after (drop 23 tuple) fits in
    record {
      xmin_is = shown.xmin;
      xmax_is = shown.xmax;
      mask_is = shown.mask;
      columns = ap (λ n. n % 2 ^ 11) shown.mask2;
      values = shown.end ∙ sym (end-of tuple rule);
      bytes = head-bytes after (drop 23 tuple) fits.hoff (All-drop (λ (byte : ℕ). byte < 256) 23 tuple bytes);
    }

pointed-max : (tuple new : List ℕ) → IsPointed tuple new → max_of new ≡ max_of tuple
unfolding max_of
pointed-max tuple new m =
    max-by (is_lock_only (infomask_of new)) (is_lock_only (infomask_of tuple)) (has_bits (infomask_of new) 0x1000)
    (has_bits (infomask_of tuple) 0x1000) (xmax_of new) (xmax_of tuple)
    (ap is_lock_only m.mask_is) (ap (λ n. has_bits n 0x1000) m.mask_is) m.xmax_is

pub shows-pointed :
    (from : LogOrigin) (log : List Rec) (v : Version) (tuple new : List ℕ) → Shows from log v tuple → IsPointed tuple new
    → Shows from log v new
shows-pointed from log v tuple new shows m =
    let same : xmin_marks new ≡ xmin_marks tuple = ap (λ n. bit_and n 0x0300) m.mask_is in
    let old = shows.marks in
    record {
      row = record {
        columns = m.columns ∙ shows.row.columns;
        nulls = ap (λ n. has_bits n 0x0001) m.mask_is ∙ shows.row.nulls;
        bytes = m.values ∙ shows.row.bytes;
      };
      inserter = same-inserter tuple new v.inserter m.xmin_is same shows.inserter;
      frozen = ap (λ n. n == 0x0300) same ∙ shows.frozen;
      deleter = same-deleter tuple new v.inserter v.deleter (pointed-max tuple new m) shows.deleter;
      marks = record {
        inserter_committed = λ x by mark. old.inserter_committed x by (sym same ∙ mark);
        inserter_failed = λ x by mark. old.inserter_failed x by (sym same ∙ mark);
        deleter_committed = λ x by mark. old.deleter_committed x by (sym (ap (λ n. has_bits n 0x0400) m.mask_is) ∙ mark);
        deleter_failed = λ x by mark. old.deleter_failed x by (sym (ap (λ n. has_bits n 0x0800) m.mask_is) ∙ mark);
      };
    }
