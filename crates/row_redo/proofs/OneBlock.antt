-- What redo of a record leaves of one of its blocks shows the versions.
use Rattle.std.proofs.Common.{◌≡◌, ◌⊎◌, inl, inr, ℕ, zero, suc, ◌<◌, Bool, true, false, not, ◌&&◌, ◌||◌, ◌==◌, cond, List, [], ◌++◌, Option, Some, None, is_some, Result, Ok, Err, refl, sym, ap, ◌∙◌, subst}
use Rattle.std.proofs.lemmas.Bool.{and_right, or_right, lt-leb, false≢true, both_ways}
use Rattle.heap_page.specs.Item.{Item, unused, is_normal, numbered}
use Rattle.heap_page.specs.Page.{is_page}
use Rattle.heap_page.specs.Law.{TuplesKeepRule}
use Rattle.typed_records.specs.declared.types.RecImage.{RecImage}
use Rattle.typed_records.specs.declared.types.RecBlock.{RecBlock}
use Rattle.typed_records.specs.declared.types.Rec.{Rec}
use Rattle.typed_records.specs.declared.types.RecKind.{RecKind}
use Rattle.typed_records.specs.declared.types.RecKind.TheVariants.{Checkpoint, BackupEnd, Parameters, FullPageWrites, Images, Overwrite, Ended, Assignment, Running, Insert, Delete, Update, Confirm, Lock, MultiInsert, LockUpdated, Prune, Vacuum, Freeze, Visible, Truncate, Locks, Multixact, Other}
use Rattle.heap_redo.specs.After.{BlockRefusal, no_page, bad_page, Content, page, page_of_image, after_restore, applied, is_images, made_anew, paged, changed, changed_page, after_change, after_image, after}
use Rattle.page_store.specs.Seen.{Seen, absent, bad_block, seen_page}
use Rattle.heap_redo.specs.Redone.{content_of, stamped, is_anew, is_left, has_reached, left_by, redone_block}
use Rattle.row_model.specs.Origins.{LogOrigin}
use Rattle.row_model.specs.Versions.{Version, RowStep, version_at, with_steps}
use Rattle.row_model.specs.RowSteps.{items_in, own_steps, whole_steps, block_steps}
use Rattle.row_model.specs.Shows.{ShowsPlace, ShowsBlock}
use Rattle.record_numbers.specs.Fits.{RecordFits, BlockFits, ImageFits}
use Rattle.row_model.specs.LegalRows.{ImageRule, AnewRule}
use Rattle.row_redo.proofs.Rules.{StepsRule}
use Rattle.row_model.specs.Shown.{HasNone}
use Rattle.row_redo.proofs.Fitting.{TuplesFit}
use Rattle.row_redo.proofs.Changes.{changed_shows}
use Rattle.row_redo.proofs.Places.{SameIn, same_back, steps_same, rules_same, none_same}
use Rattle.row_redo.proofs.Own.{own_in}
use Rattle.row_redo.proofs.Pages.{image_fits, none_fit}
use Rattle.row_redo.proofs.Standing.{Holds, IsBehind, block_same}
use Rattle.heap_redo.proofs.Again.{by_cases}

not_reached : (end : ℕ) (before : Seen) → IsBehind end before → has_reached end before ≡ false
not_reached end absent behind = refl
not_reached end bad_block behind = refl
not_reached end (seen_page lsn items) behind = lt-leb end lsn behind

-- a record of images, or of visibility, makes no steps of its own
own_none : (rec : Rec) (block : RecBlock) (kind : RecKind) (vs : List Version) → is_images kind ≡ true → own_steps rec block kind vs ≡ []
unfolding own_steps
own_none rec block Images vs h = refl
own_none rec block (Checkpoint redo timeline previous writes next multi member oldest active) vs h = absurd (false≢true h)
own_none rec block (BackupEnd start) vs h = absurd (false≢true h)
own_none rec block (Parameters connections processes senders prepared locks level) vs h = absurd (false≢true h)
own_none rec block (FullPageWrites on) vs h = absurd (false≢true h)
own_none rec block (Overwrite given_up time) vs h = absurd (false≢true h)
own_none rec block (Ended time xinfo xids files) vs h = absurd (false≢true h)
own_none rec block (Assignment top xids) vs h = absurd (false≢true h)
own_none rec block (Running tops subs overflow next oldest latest xids) vs h = absurd (false≢true h)
own_none rec block (Insert line flags) vs h = absurd (false≢true h)
own_none rec block (Delete xmax line bits flags) vs h = absurd (false≢true h)
own_none rec block (Update old_xmax old_line old_bits flags new_xmax new_line) vs h = absurd (false≢true h)
own_none rec block (Confirm line) vs h = absurd (false≢true h)
own_none rec block (Lock xmax line bits flags) vs h = absurd (false≢true h)
own_none rec block (MultiInsert flags lines) vs h = absurd (false≢true h)
own_none rec block (LockUpdated xmax line bits flags) vs h = absurd (false≢true h)
own_none rec block (Prune horizon catalogue redirected died freed) vs h = absurd (false≢true h)
own_none rec block (Vacuum freed) vs h = absurd (false≢true h)
own_none rec block (Freeze horizon catalogue plans) vs h = absurd (false≢true h)
own_none rec block (Visible horizon flags) vs h = refl
own_none rec block (Truncate number locator flags) vs h = absurd (false≢true h)
own_none rec block (Locks entries) vs h = absurd (false≢true h)
own_none rec block (Multixact id offset members) vs h = absurd (false≢true h)
own_none rec block Other vs h = absurd (false≢true h)

-- no image is restored: the steps are the record's own
steps_own :
    (rec : Rec) (block : RecBlock) (count : ℕ) (vs : List Version) → applied block.image ≡ None
    → block_steps rec block count vs ≡ own_steps rec block rec.kind vs
unfolding whole_steps
steps_own rec block count vs e =
    ap (λ (image : Option RecImage). whole_steps block rec.kind image count ++ own_steps rec block rec.kind vs) e

-- the block is left as it was
pub record IsKept (rec : Rec) (block : RecBlock) (steps : List RowStep) (before left : Seen) : Type 0 where
  pub same : left ≡ before
  pub is_left : is_left rec block ≡ true
  pub no_steps : steps ≡ []

-- the block has the record's change and shows its versions
pub record IsChanged (from : LogOrigin) (log : List Rec) (rec : Rec) (block : RecBlock) (count : ℕ) (vs : List Version) (left : Seen) : Type 0 where
  pub items : List Item
  pub is : left ≡ seen_page rec.end.0 items
  pub shows : ShowsBlock from log vs block.block items
  pub fits : TuplesFit items
  pub not_left : is_left rec block ≡ false
  pub there : is_anew block ≡ false → block.block < count

-- the image that is restored fits
applied_fits : (image : Option RecImage) → ImageFits image → ImageFits (applied image)
applied_fits None fits = tt
applied_fits (Some image) fits = fits_if image.apply
  where
    fits_if : (v : Bool) → ImageFits (cond v (Some image) None)
    fits_if true = fits
    fits_if false = tt

-- a block without versions is shown by a page without items
none_shown : (from : LogOrigin) (log : List Rec) (place : Option Version) (item : Item) → place ≡ None → item ≡ unused → ShowsPlace from log place item
none_shown from log None item e f = ap is_normal f
none_shown from log (Some v) item e f = cc

pub none_shows : (from : LogOrigin) (log : List Rec) (vs : List Version) (block : ℕ) → HasNone vs block → ShowsBlock from log vs block []
none_shows from log vs block none zero = none_shown from log (version_at block zero vs) unused (none zero) refl
none_shows from log vs block none (suc k) = none_shown from log (version_at block (suc k) vs) (numbered [] (suc k)) (none (suc k)) (no_item k)
  where
    no_item : (k : ℕ) → numbered [] (suc k) ≡ unused
    no_item zero = refl
    no_item (suc k) = refl

module _ (rec : Rec) (block : RecBlock) where
  -- a block that the record has not reached is changed, unless it is refused
  ran :
      (before left : Seen) → IsBehind rec.end.0 before → redone_block rec block before ≡ Ok left
      → left_by rec block before (after_image rec block (content_of before) (applied block.image)) ≡ Ok left
  unfolding redone_block after
  ran before left behind e =
      let change : Result Content BlockRefusal = after_image rec block (content_of before) (applied block.image) in
      let goal : Type 0 = left_by rec block before change ≡ Ok left in
      by_cases (block.block == 4294967295) (Err no_page)
      (cond (not (is_anew block) && has_reached rec.end.0 before) (Ok before) (left_by rec block before (after rec block (content_of before))))
      (Ok left) goal (λ last bad. cc)
      (λ other done.
      by_cases (not (is_anew block) && has_reached rec.end.0 before) (Ok before) (left_by rec block before (after rec block (content_of before)))
      (Ok left) goal
      (λ skipped kept.
      absurd (both_ways (not (is_anew block) && has_reached rec.end.0 before)
      (and_right (not (is_anew block)) (has_reached rec.end.0 before) (not_reached rec.end.0 before behind)) skipped))
      (λ new changes. ap (λ (v : Bool). left_by rec block before (cond v (Err no_page) change)) (sym other) ∙ changes) done) e

  left_page :
      (before left : Seen) (items : List Item) → is_left rec block ≡ false
      → left_by rec block before (Ok (page items)) ≡ Ok left → left ≡ seen_page rec.end.0 items
  left_page before left items stamps e =
      let made : Bool → Result Seen BlockRefusal = λ v. Ok (cond v before (seen_page rec.end.0 items)) in
      let stamp : Ok (seen_page rec.end.0 items) ≡ Ok left = sym (ap made stamps) ∙ e in cc

  left_same :
      (before left : Seen) (content : Content) → is_left rec block ≡ true
      → left_by rec block before (Ok content) ≡ Ok left → left ≡ before
  left_same before left content keeps e =
      let made : Bool → Result Seen BlockRefusal = λ v. Ok (cond v before (stamped rec.end.0 content)) in
      let kept : Ok before ≡ Ok left = sym (ap made keeps) ∙ e in cc

  -- what a change that is not refused leaves
  paged_left :
      (before left : Seen) (r : Result (List Item) BlockRefusal) → is_left rec block ≡ false
      → left_by rec block before (paged r) ≡ Ok left
      → (items : List Item) × (r ≡ Ok items) × (left ≡ seen_page rec.end.0 items)
  paged_left before left (Ok items) stamps e = (items, refl, left_page before left items stamps e)
  paged_left before left (Err refusal) stamps e = cc

  -- an image that is restored is a page
  restored_left :
      (v : Bool) (before left : Seen) (items : List Item) → is_left rec block ≡ false
      → left_by rec block before (cond v (Ok (page items)) (Err bad_page)) ≡ Ok left
      → (v ≡ true) × (left ≡ seen_page rec.end.0 items)
  restored_left true before left items stamps e = (refl, left_page before left items stamps e)
  restored_left false before left items stamps e = cc

  -- is the block left?
  left_with : (image : Option RecImage) → applied block.image ≡ image → is_left rec block ≡ (is_images rec.kind && not (is_some image))
  left_with image e = ap (λ (x : Option RecImage). is_images rec.kind && not (is_some x)) e

-- the block of the record, with the versions before the record and those before its steps in this block
module _ (keep : TuplesKeepRule) (from : LogOrigin) (log : List Rec) (rec : Rec) (block : RecBlock) (count now : ℕ) (vs ws last : List Version)
    (record_fits : RecordFits rec) (block_fits : BlockFits block) (same : SameIn block.block vs ws)
    (rule : StepsRule from log ws (block_steps rec block count vs)) (anew : AnewRule vs block)
    (later : SameIn block.block last (with_steps ws (block_steps rec block count vs))) where
  -- restored from its image
  one_restored :
      (image : RecImage) (before left : Seen) → applied block.image ≡ Some image → ImageRule from log last block.block (Some image)
      → ImageFits (Some image)
      → left_by rec block before (after_restore image) ≡ Ok left
      → IsChanged from log rec block now (with_steps ws (block_steps rec block count vs)) left
  one_restored image before left e shows fits ran =
      let stamps : is_left rec block ≡ false =
      left_with rec block (Some image) e ∙ and_right (is_images rec.kind) false refl in
      let (is_page_there, is) = restored_left rec block (is_page (page_of_image image)) before left (items_in image) stamps ran in
      record {
        items = items_in image;
        is = is;
        shows = block_same from log last (with_steps ws (block_steps rec block count vs)) block.block (items_in image) later shows;
        fits = image_fits keep image fits is_page_there;
        not_left = stamps;
        there = λ (not_anew : is_anew block ≡ false).
            absurd (both_ways (is_anew block) not_anew (ap (λ (x : Option RecImage). is_some x || block.will_init) e));
      }

  -- changed
  one_changed :
      (before left : Seen) (items after : List Item) → applied block.image ≡ None → is_images rec.kind ≡ false
      → ShowsBlock from log ws block.block items → TuplesFit items → changed rec block rec.kind items ≡ Ok after
      → left ≡ seen_page rec.end.0 after → (is_anew block ≡ false → block.block < now)
      → IsChanged from log rec block now (with_steps ws (block_steps rec block count vs)) left
  one_changed before left items after e other shows fits done is there =
      let own : List RowStep = own_steps rec block rec.kind vs in
      let steps : block_steps rec block count vs ≡ own = steps_own rec block count vs e in
      let old = same_back block.block vs ws same in
      let own_rule = rules_same from log block.block own ws vs (own_in rec block rec.kind vs) old
      (subst (λ (l : List RowStep). StepsRule from log ws l) steps rule) in
      let (shown, still) = changed_shows from log vs rec block items after record_fits block_fits e fits own_rule
      (block_same from log ws vs block.block items old shows) done in
      record {
        items = after;
        is = is;
        shows =
            block_same from log (with_steps ws own) (with_steps ws (block_steps rec block count vs)) block.block after
            (λ line. ap (λ (l : List RowStep). version_at block.block line (with_steps ws l)) (sym steps))
            (block_same from log (with_steps vs own) (with_steps ws own) block.block after (steps_same block.block own vs ws same) shown);
        fits = still;
        not_left = left_with rec block None e ∙ ap (λ (v : Bool). v && true) other;
        there = there;
      }

  -- what it is changed from: nothing, or the page
  one_from :
      (before left : Seen) (init : Bool) → block.will_init ≡ init → applied block.image ≡ None → is_images rec.kind ≡ false
      → Holds from log ws now rec.end.0 block.block before
      → left_by rec block before (changed_page rec block (made_anew init (content_of before))) ≡ Ok left
      → IsChanged from log rec block now (with_steps ws (block_steps rec block count vs)) left
  unfolding changed_page
  one_from before left true init e other holds ran =
      let stamps = left_with rec block None e ∙ ap (λ (v : Bool). v && true) other in
      let (after, done, is) = paged_left rec block before left (changed rec block rec.kind []) stamps ran in
      one_changed before left [] after e other (none_shows from log ws block.block (none_same block.block vs ws same (anew init)))
      none_fit done is
      (λ (not_anew : is_anew block ≡ false). absurd (both_ways (is_anew block) not_anew (or_right (is_some (applied block.image)) block.will_init init)))
  one_from absent left false init e other holds ran = cc
  one_from bad_block left false init e other holds ran = absurd holds
  one_from (seen_page lsn items) left false init e other (in_table, before_end, shows, fits) ran =
      let stamps = left_with rec block None e ∙ ap (λ (v : Bool). v && true) other in
      let (after, done, is) = paged_left rec block (seen_page lsn items) left (changed rec block rec.kind items) stamps ran in
      one_changed (seen_page lsn items) left items after e other shows fits done is (λ not_anew. in_table)

  -- by whether it is a record of images
  one_by :
      (v : Bool) (before left : Seen) → is_images rec.kind ≡ v → applied block.image ≡ None
      → Holds from log ws now rec.end.0 block.block before
      → left_by rec block before (cond v (Ok (content_of before)) (changed_page rec block (made_anew block.will_init (content_of before)))) ≡ Ok left
      → IsKept rec block (block_steps rec block count vs) before left
      ⊎ IsChanged from log rec block now (with_steps ws (block_steps rec block count vs)) left
  one_by true before left images e holds ran =
      let keeps = left_with rec block None e ∙ ap (λ (v : Bool). v && true) images in
      inl (record {
        same = left_same rec block before left (content_of before) keeps ran;
        is_left = keeps;
        no_steps = steps_own rec block count vs e ∙ own_none rec block rec.kind vs images;
      })
  one_by false before left other e holds ran = inr (one_from before left block.will_init refl e other holds ran)

  -- without an image that is restored
  one_without :
      (before left : Seen) → applied block.image ≡ None → Holds from log ws now rec.end.0 block.block before
      → left_by rec block before (after_change rec block (content_of before)) ≡ Ok left
      → IsKept rec block (block_steps rec block count vs) before left
      ⊎ IsChanged from log rec block now (with_steps ws (block_steps rec block count vs)) left
  unfolding after_change
  one_without before left e holds ran = one_by (is_images rec.kind) before left refl e holds ran

  -- by the image
  one_with :
      (image : Option RecImage) (before left : Seen) → applied block.image ≡ image → ImageFits image
      → ImageRule from log last block.block image → Holds from log ws now rec.end.0 block.block before
      → left_by rec block before (after_image rec block (content_of before) image) ≡ Ok left
      → IsKept rec block (block_steps rec block count vs) before left
      ⊎ IsChanged from log rec block now (with_steps ws (block_steps rec block count vs)) left
  one_with (Some image) before left e fits shows holds ran = inr (one_restored image before left e shows fits ran)
  one_with None before left e fits shows holds ran = one_without before left e holds ran

  pub one_block :
      (before left : Seen) → Holds from log ws now rec.end.0 block.block before → IsBehind rec.end.0 before
      → ImageRule from log last block.block (applied block.image) → redone_block rec block before ≡ Ok left
      → IsKept rec block (block_steps rec block count vs) before left
      ⊎ IsChanged from log rec block now (with_steps ws (block_steps rec block count vs)) left
  one_block before left holds behind shows done =
      one_with (applied block.image) before left refl (applied_fits block.image block_fits.image) shows holds
      (ran rec block before left behind done)
