-- A tuple that shows a version shows it once it was frozen by a plan that keeps the rule for plans.
use Rattle.std.proofs.Common.{◌≡◌, ℕ, ◌%◌, ◌^◌, ◌<◌, ◌==◌, List, drop, bit_and, sym, ap, ◌∙◌}
use Rattle.std.proofs.lemmas.List.Elements.{All-drop}
use Rattle.heap_tuple.specs.Tuple.{IsTuple, xmin_of, xmax_of, infomask2_of, infomask_of, is_lock_only, max_of}
use Rattle.heap_page.specs.Put.{with_head}
use Rattle.tuple_visibility.specs.Visible.{xmin_marks}
use Rattle.typed_records.specs.declared.types.Rec.{Rec}
use Rattle.pg_types.specs.Numbers.{has_bits}
use Rattle.heap_redo.specs.TupleHeads.{head_of, head_bytes, frozen}
use Rattle.row_model.specs.Origins.{LogOrigin}
use Rattle.row_model.specs.Versions.{Version, Inserter, Nobody, Always, By, FreezePlan, deleter_of_plan, frozen_by}
use Rattle.row_model.specs.Shows.{ShowsInserter, Shows}
use Rattle.row_model.specs.LegalSteps.{PlanRule, planned, shown_xmin}
use Rattle.pg_types.specs.Bytes.{AreBytes}
use Rattle.row_redo.proofs.Heads.{HeadFits, head-fits, head-reads, head-bytes, mask-reads, mask2-reads, end-of}
use Rattle.row_redo.proofs.Marked.{max-by, this-deleter}

-- the fields of a plan fit their bytes
pub record PlanSmall (plan : FreezePlan) : Type 0 where
  pub xmax : plan.xmax < 2 ^ 32
  pub mask2 : plan.mask2 < 2 ^ 16
  pub mask : plan.mask < 2 ^ 16

-- what stands in the fields of a tuple that was frozen
pub record IsFrozen (plan : FreezePlan) (tuple new : List ℕ) : Type 0 where
  pub xmin_is : xmin_of new ≡ xmin_of tuple
  pub xmax_is : xmax_of new ≡ plan.xmax
  pub mask2_is : infomask2_of new ≡ plan.mask2
  pub mask_is : infomask_of new ≡ plan.mask
  pub values : drop 22 new ≡ drop 22 tuple
  pub bytes : AreBytes new

pub is-frozen :
    (plan : FreezePlan) (tuple : List ℕ) → PlanSmall plan → AreBytes tuple → IsTuple tuple
    → IsFrozen plan tuple (with_head tuple (head_bytes (frozen plan.xmax plan.mask2 plan.mask (head_of tuple))))
unfolding head_of
is-frozen plan tuple small bytes rule =
    let was = head-fits tuple bytes in
    let after = frozen plan.xmax plan.mask2 plan.mask (head_of tuple) in
    let fits : HeadFits after = record { xmin = was.xmin; xmax = small.xmax; mask2 = small.mask2; mask = small.mask; hoff = was.hoff } in
    let shown = head-reads after (drop 23 tuple) fits in
    record {
      xmin_is = shown.xmin;
      xmax_is = shown.xmax;
      mask2_is = shown.mask2;
      mask_is = shown.mask;
      values = shown.end ∙ sym (end-of tuple rule);
      bytes = head-bytes after (drop 23 tuple) fits.hoff (All-drop (λ (byte : ℕ). byte < 256) 23 tuple bytes);
    }

-- the deleter is the plan's
frozen-max : (plan : FreezePlan) (tuple new : List ℕ) → IsFrozen plan tuple new → max_of new ≡ deleter_of_plan plan
unfolding max_of deleter_of_plan
frozen-max plan tuple new m =
    max-by (is_lock_only (infomask_of new)) (is_lock_only plan.mask) (has_bits (infomask_of new) 0x1000)
    (has_bits plan.mask 0x1000) (xmax_of new) plan.xmax
    (ap is_lock_only m.mask_is) (ap (λ n. has_bits n 0x1000) m.mask_is) m.xmax_is

-- the written tuple with the plan has its masks
planned-mask2 : (plan : FreezePlan) (v : Version) → plan.mask2 < 2 ^ 16 → infomask2_of (planned plan v) ≡ plan.mask2
unfolding planned
planned-mask2 plan v small =
    mask2-reads (record (head_of v.tuple) { xmin = shown_xmin v.inserter (xmin_of v.tuple); xmax = plan.xmax; mask2 = plan.mask2; mask = plan.mask })
    (drop 23 v.tuple) small

planned-mask : (plan : FreezePlan) (v : Version) → plan.mask < 2 ^ 16 → infomask_of (planned plan v) ≡ plan.mask
unfolding planned
planned-mask plan v small =
    mask-reads (record (head_of v.tuple) { xmin = shown_xmin v.inserter (xmin_of v.tuple); xmax = plan.xmax; mask2 = plan.mask2; mask = plan.mask })
    (drop 23 v.tuple) small

-- the inserter is shown by the same xmin, or by the plan's marks
frozen-inserter :
    (tuple new written : List ℕ) (i : Inserter) → xmin_of new ≡ xmin_of tuple → xmin_marks new ≡ xmin_marks written
    → ShowsInserter tuple i → ShowsInserter written i → ShowsInserter new i
frozen-inserter tuple new written Nobody e m h w = e ∙ h
frozen-inserter tuple new written Always e m h w = ap (λ n. n == 0x0300) m ∙ w
frozen-inserter tuple new written (By x) e m h w = e ∙ h

-- the plan's rule speaks of the version's written tuple, from which the block's own differs in what `Shows` leaves free
pub shows-frozen :
    (from : LogOrigin) (log : List Rec) (horizon : ℕ) (plan : FreezePlan) (v : Version) (tuple new : List ℕ) → PlanSmall plan
    → Shows from log v tuple → PlanRule from log horizon plan v → IsFrozen plan tuple new → Shows from log (frozen_by plan v) new
shows-frozen from log horizon plan v tuple new small shows rule m =
    let mask : infomask_of new ≡ infomask_of (planned plan v) = m.mask_is ∙ sym (planned-mask plan v small.mask) in
    let mask2 : infomask2_of new ≡ infomask2_of (planned plan v) = m.mask2_is ∙ sym (planned-mask2 plan v small.mask2) in
    let same : xmin_marks new ≡ xmin_marks (planned plan v) = ap (λ n. bit_and n 0x0300) mask in
    let told = rule.shows.marks in
    record {
      row = record {
        columns = ap (λ n. n % 2 ^ 11) mask2 ∙ rule.shows.row.columns;
        nulls = ap (λ n. has_bits n 0x0001) mask ∙ rule.shows.row.nulls;
        bytes = m.values ∙ shows.row.bytes;
      };
      inserter = frozen-inserter tuple new (planned plan v) v.inserter m.xmin_is same shows.inserter rule.shows.inserter;
      frozen = ap (λ n. n == 0x0300) same ∙ rule.shows.frozen;
      deleter = this-deleter new v.inserter (deleter_of_plan plan) (frozen-max plan tuple new m);
      marks = record {
        inserter_committed = λ x by mark. told.inserter_committed x by (sym same ∙ mark);
        inserter_failed = λ x by mark. told.inserter_failed x by (sym same ∙ mark);
        deleter_committed = λ x by mark. told.deleter_committed x by (sym (ap (λ n. has_bits n 0x0400) mask) ∙ mark);
        deleter_failed = λ x by mark. told.deleter_failed x by (sym (ap (λ n. has_bits n 0x0800) mask) ∙ mark);
      };
    }
