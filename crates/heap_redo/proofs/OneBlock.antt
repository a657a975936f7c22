-- What redo leaves of one block, by the ways in which it changes it.
use Rattle.std.proofs.Common.{arith, ap, sym, refl, ◌∙◌, ◌≡◌, ◌≢◌, ◌<◌, ◌≤◌, ℕ, Bool, true, false, not, ◌&&◌, ◌||◌, ◌==◌, cond, nat_le, List, [], Option, Some, None, is_some, Result, Ok, Err}
use Rattle.std.proofs.lemmas.Bool.{false≢true}
use Rattle.std.proofs.lemmas.Bool.Decides.{nat_tests}
use Rattle.heap_page.specs.Page.{IsPage, is_page, lsn_of, items_of}
use Rattle.typed_records.specs.declared.types.RecImage.{RecImage}
use Rattle.typed_records.specs.declared.types.Rec.{Rec}
use Rattle.typed_records.specs.declared.types.RecBlock.{RecBlock}
use Rattle.heap_redo.specs.After.{BlockRefusal, no_page, bad_page, Content, missing, broken, page, applied, is_images, page_of_image, after_restore, made_anew, paged, changed, changed_page, after_change, after_image, after}
use Rattle.heap_redo.specs.declared.fault.BlockFault.{BlockFault}
use Rattle.heap_redo.specs.Refused.{outcome, content_outcome}
use Rattle.page_store.specs.Seen.{Seen, absent, bad_block, seen_page, seen}
use Rattle.heap_redo.specs.Redone.{content_of, stamped, is_anew, is_left, has_reached, left_by, redone_block}
use Rattle.std.specs.Cmp.{first_so, second_so}
use Rattle.std.proofs.Math.Bool.{and-false}
use Rattle.table_schema.proofs.Apart.{none_found}

pub seen-page : (bytes : List ℕ) → IsPage bytes → seen (Some bytes) ≡ seen_page (lsn_of bytes) (items_of bytes)
unfolding seen
seen-page bytes h = ap (λ v. cond v (seen_page (lsn_of bytes) (items_of bytes)) bad_block) h

pub paged-outcome : (bytes : List ℕ) (result : Result (Unit {0}) BlockFault) → content_outcome bytes result ≡ paged (outcome (items_of bytes) result)
paged-outcome bytes (Ok done) = refl
paged-outcome bytes (Err refusal) = refl

pub no_image : (image : Option RecImage) → ((x : RecImage) → image ≡ Some x → ⊥) → applied image ≡ None
no_image None h = refl
no_image (Some x) h = absurd (h x refl)

pub unapplied : (image : Option RecImage) (x : RecImage) → image ≡ Some x → x.apply ≡ false → applied image ≡ None
unapplied image x e h = ap applied e ∙ ap (λ v. cond v (Some x) None) h

pub restored-image : (image : Option RecImage) (x : RecImage) → image ≡ Some x → x.apply ≡ true → applied image ≡ Some x
restored-image image x e h = ap applied e ∙ ap (λ v. cond v (Some x) None) h

or-left : (a b : Bool) → (a || b) ≡ false → a ≡ false
or-left true b e = e
or-left false b e = refl

or-right : (a b : Bool) → (a || b) ≡ false → b ≡ false
or-right true b e = absurd (false≢true (sym e))
or-right false b e = e

and-true : (a : Bool) → (a && true) ≡ false → a ≡ false
and-true true e = e
and-true false e = refl

pub other-block : (n : ℕ) → n ≢ 4294967295 → (n == 4294967295) ≡ false
other-block n h = grind (arith, nat_tests)

pub below-last : (n : ℕ) → n < 4294967295 → (n == 4294967295) ≡ false
below-last n h = grind (arith, nat_tests)

module _ (rec : Rec) (block : RecBlock) where
  -- no image is restored
  pub images-not : applied block.image ≡ None → is_left rec block ≡ false → is_images rec.kind ≡ false
  images-not e h = and-true (is_images rec.kind) (ap (λ image. is_images rec.kind && not (is_some image)) (sym e) ∙ h)

  pub init-true : applied block.image ≡ None → is_anew block ≡ true → block.will_init ≡ true
  init-true e h = ap (λ image. is_some image || block.will_init) (sym e) ∙ h

  pub image-not : is_anew block ≡ false → applied block.image ≡ None
  image-not h = none_found (applied block.image) (or-left (is_some (applied block.image)) block.will_init h)

  -- an image is restored
  pub image-anew : (image : RecImage) → applied block.image ≡ Some image → is_anew block ≡ true
  image-anew image restored = ap (λ found. is_some found || block.will_init) restored

  pub image-not_left : (image : RecImage) → applied block.image ≡ Some image → is_left rec block ≡ false
  image-not_left image restored = ap (λ found. is_images rec.kind && not (is_some found)) restored ∙ and-false (is_images rec.kind)

  -- the block is not the one that no table has
  module _ (not-last : (block.block == 4294967295) ≡ false) where
    after-is : (before : Content) (image : Option RecImage) → applied block.image ≡ image → after rec block before ≡ after_image rec block before image
    unfolding after
    after-is before image e =
        ap (λ v. cond v (Err no_page) (after_image rec block before (applied block.image))) not-last
        ∙ ap (after_image rec block before) e

    pub after-restored : (image : RecImage) → applied block.image ≡ Some image → (before : Content) → after_restore image ≡ after rec block before
    after-restored image e before = sym (after-is before (Some image) e)

    after-changing : applied block.image ≡ None → is_left rec block ≡ false → (before : Content) → after rec block before ≡ changed_page rec block (made_anew block.will_init before)
    unfolding after_change
    after-changing e h before =
        after-is before None e
        ∙ ap (λ v. cond v (Ok before) (changed_page rec block (made_anew block.will_init before))) (images-not e h)

    -- the record's change of a page without items
    pub after-anew : applied block.image ≡ None → is_anew block ≡ true → is_left rec block ≡ false → (before : Content) → paged (changed rec block rec.kind []) ≡ after rec block before
    unfolding changed_page
    after-anew e anew h before =
        sym (after-changing e h before ∙ ap (λ v. changed_page rec block (made_anew v before)) (init-true e anew))

    -- the record's change of what stands there
    after-there : is_anew block ≡ false → is_left rec block ≡ false → (before : Content) → after rec block before ≡ changed_page rec block before
    after-there anew h before =
        after-changing (image-not anew) h before
        ∙ ap (λ v. changed_page rec block (made_anew v before)) (or-right (is_some (applied block.image)) block.will_init anew)

    pub redone-by : (before : Seen) → (not (is_anew block) && has_reached rec.end.0 before) ≡ false → redone_block rec block before ≡ left_by rec block before (after rec block (content_of before))
    unfolding redone_block
    redone-by before e =
        ap (λ v. cond v (Err no_page) (cond (not (is_anew block) && has_reached rec.end.0 before) (Ok before) (left_by rec block before (after rec block (content_of before))))) not-last
        ∙ ap (λ v. cond v (Ok before) (left_by rec block before (after rec block (content_of before)))) e

    pub redone-done : (before : Seen) → (not (is_anew block) && has_reached rec.end.0 before) ≡ true → redone_block rec block before ≡ Ok before
    unfolding redone_block
    redone-done before e =
        ap (λ v. cond v (Err no_page) (cond (not (is_anew block) && has_reached rec.end.0 before) (Ok before) (left_by rec block before (after rec block (content_of before))))) not-last
        ∙ ap (λ v. cond v (Ok before) (left_by rec block before (after rec block (content_of before)))) e

    pub left-ok : is_left rec block ≡ false → (before : Seen) (content : Content) → left_by rec block before (Ok content) ≡ Ok (stamped rec.end.0 content)
    left-ok h before content =
        let left : Bool → Result Seen BlockRefusal = λ v. Ok (cond v before (stamped rec.end.0 content)) in ap left h

    -- a page that is made anew
    pub redone-anew : is_anew block ≡ true → is_left rec block ≡ false → (before : Seen) (bytes : List ℕ) → IsPage bytes → lsn_of bytes ≡ rec.end.0 → Ok (page (items_of bytes)) ≡ after rec block (content_of before) → Ok (seen (Some bytes)) ≡ redone_block rec block before
    redone-anew anew h before bytes rule lsn e =
        let ok : Seen → Result Seen BlockRefusal = λ s. Ok s in
        ap ok (seen-page bytes rule ∙ ap (λ n. seen_page n (items_of bytes)) lsn)
        ∙ sym (redone-by before (ap (λ v. not v && has_reached rec.end.0 before) anew)
        ∙ ap (left_by rec block before) (sym e)
        ∙ left-ok h before (page (items_of bytes)))

    pub refused-anew : is_anew block ≡ true → (before : Seen) (refusal : BlockRefusal) → Err refusal ≡ after rec block (content_of before) → Err refusal ≡ redone_block rec block before
    refused-anew anew before refusal e =
        sym (redone-by before (ap (λ v. not v && has_reached rec.end.0 before) anew) ∙ ap (left_by rec block before) (sym e))

    -- a block whose image is restored
    module _ (image : RecImage) (restored : applied block.image ≡ Some image) where
      after-tested : (v : Bool) → is_page (page_of_image image) ≡ v → (before : Content) → cond v (Ok (page (items_of (page_of_image image)))) (Err bad_page) ≡ after rec block before
      after-tested v tested before =
          let answer : Bool → Result Content BlockRefusal = λ b. cond b (Ok (page (items_of (page_of_image image)))) (Err bad_page) in
          ap answer (sym tested) ∙ after-restored image restored before

      pub image-refused : is_page (page_of_image image) ≡ false → (before : Seen) → Err bad_page ≡ redone_block rec block before
      image-refused tested before = refused-anew (image-anew image restored) before bad_page (after-tested false tested (content_of before))

      pub image-left : is_page (page_of_image image) ≡ true → (before : Seen) → Ok (seen_page rec.end.0 (items_of (page_of_image image))) ≡ redone_block rec block before
      image-left tested before =
          sym (redone-by before (ap (λ v. not v && has_reached rec.end.0 before) (image-anew image restored))
          ∙ ap (left_by rec block before) (sym (after-tested true tested (content_of before)))
          ∙ left-ok (image-not_left image restored) before (page (items_of (page_of_image image))))

      pub image-done : is_page (page_of_image image) ≡ true → (before : Seen) (bytes : List ℕ) → IsPage bytes → lsn_of bytes ≡ rec.end.0 → items_of bytes ≡ items_of (page_of_image image) → Ok (seen (Some bytes)) ≡ redone_block rec block before
      image-done tested before bytes rule lsn items =
          let ok : Seen → Result Seen BlockRefusal = λ s. Ok s in
          ap ok (seen-page bytes rule ∙ ap (λ n. seen_page n (items_of bytes)) lsn ∙ ap (seen_page rec.end.0) items)
          ∙ image-left tested before

    -- a page that is there
    module _ (anew : is_anew block ≡ false) (left : is_left rec block ≡ false) (bytes : List ℕ) (rule : IsPage bytes) where
      before-is : redone_block rec block (seen (Some bytes)) ≡ redone_block rec block (seen_page (lsn_of bytes) (items_of bytes))
      before-is = ap (redone_block rec block) (seen-page bytes rule)

      pub page-done : rec.end.0 ≤ lsn_of bytes → Ok (seen (Some bytes)) ≡ redone_block rec block (seen (Some bytes))
      page-done h =
          let reached : nat_le rec.end.0 (lsn_of bytes) ≡ true = grind (arith, nat_tests) in
          let ok : Seen → Result Seen BlockRefusal = λ s. Ok s in
          sym (before-is ∙ redone-done (seen_page (lsn_of bytes) (items_of bytes)) (ap (λ v. not v && nat_le rec.end.0 (lsn_of bytes)) anew ∙ reached)
          ∙ ap ok (sym (seen-page bytes rule)))

      page-changing : lsn_of bytes < rec.end.0 → redone_block rec block (seen (Some bytes)) ≡ left_by rec block (seen_page (lsn_of bytes) (items_of bytes)) (paged (changed rec block rec.kind (items_of bytes)))
      unfolding changed_page
      page-changing h =
          let reached : nat_le rec.end.0 (lsn_of bytes) ≡ false = grind (arith, nat_tests) in
          before-is ∙ redone-by (seen_page (lsn_of bytes) (items_of bytes)) (ap (λ v. not v && nat_le rec.end.0 (lsn_of bytes)) anew ∙ reached)
          ∙ ap (left_by rec block (seen_page (lsn_of bytes) (items_of bytes))) (after-there anew left (page (items_of bytes)))

      pub page-refused : lsn_of bytes < rec.end.0 → (refusal : BlockRefusal) → Err refusal ≡ changed rec block rec.kind (items_of bytes) → Err refusal ≡ redone_block rec block (seen (Some bytes))
      page-refused h refusal e =
          sym (page-changing h ∙ ap (λ items. left_by rec block (seen_page (lsn_of bytes) (items_of bytes)) (paged items)) (sym e))

      pub page-changed : lsn_of bytes < rec.end.0 → (new : List ℕ) → IsPage new → lsn_of new ≡ rec.end.0 → Ok (items_of new) ≡ changed rec block rec.kind (items_of bytes) → Ok (seen (Some new)) ≡ redone_block rec block (seen (Some bytes))
      page-changed h new is_new lsn e =
          let ok : Seen → Result Seen BlockRefusal = λ s. Ok s in
          ap ok (seen-page new is_new ∙ ap (λ n. seen_page n (items_of new)) lsn)
          ∙ sym (page-changing h ∙ ap (λ items. left_by rec block (seen_page (lsn_of bytes) (items_of bytes)) (paged items)) (sym e)
          ∙ left-ok left (seen_page (lsn_of bytes) (items_of bytes)) (page (items_of new)))

-- a block that is missing, or is no page, and is not made anew
module _ (rec : Rec) (block : RecBlock) (below : (block.block == 4294967295) ≡ false) (anew : is_anew block ≡ false) (left : is_left rec block ≡ false) where
  pub missing-refused : Err no_page ≡ redone_block rec block absent
  unfolding changed_page
  missing-refused =
      sym (redone-by rec block below absent (and-false (not (is_anew block)))
      ∙ ap (left_by rec block absent) (after-there rec block below anew left missing))

  pub broken-refused : Err bad_page ≡ redone_block rec block bad_block
  unfolding changed_page
  broken-refused =
      sym (redone-by rec block below bad_block (and-false (not (is_anew block)))
      ∙ ap (left_by rec block bad_block) (after-there rec block below anew left broken))

-- a block that is left, and the block that no table has
module _ (rec : Rec) (block : RecBlock) where
  pub last-refused : block.block ≡ 4294967295 → (before : Seen) → Err no_page ≡ redone_block rec block before
  unfolding redone_block
  last-refused h before =
      let e : (block.block == 4294967295) ≡ true = grind (arith, nat_tests) in
      sym (ap (λ v. cond v (Err no_page) (cond (not (is_anew block) && has_reached rec.end.0 before) (Ok before) (left_by rec block before (after rec block (content_of before))))) e)

  not-true : (a : Bool) → not a ≡ true → a ≡ false
  not-true true e = sym e
  not-true false e = refl

  either : (v : Bool) (a b c : Result Seen BlockRefusal) → a ≡ c → b ≡ c → cond v a b ≡ c
  either true a b c e f = e
  either false a b c e f = f

  pub left-kept : (block.block == 4294967295) ≡ false → is_left rec block ≡ true → (before : Seen) → Ok before ≡ redone_block rec block before
  unfolding redone_block after_change
  left-kept below h before =
      let images = first_so (is_images rec.kind) (not (is_some (applied block.image))) h in
      let no_image = none_found (applied block.image) (not-true (is_some (applied block.image)) (second_so (is_images rec.kind) (not (is_some (applied block.image))) h)) in
      let kept : Bool → Result Seen BlockRefusal = λ v. Ok (cond v before (stamped rec.end.0 (content_of before))) in
      let after_kept : left_by rec block before (after rec block (content_of before)) ≡ Ok before =
      ap (left_by rec block before) (after-is rec block below (content_of before) None no_image
      ∙ ap (λ v. cond v (Ok (content_of before)) (changed_page rec block (made_anew block.will_init (content_of before)))) images)
      ∙ ap kept h in
      sym (ap (λ v. cond v (Err no_page) (cond (not (is_anew block) && has_reached rec.end.0 before) (Ok before) (left_by rec block before (after rec block (content_of before))))) below
      ∙ either (not (is_anew block) && has_reached rec.end.0 before) (Ok before) (left_by rec block before (after rec block (content_of before))) (Ok before) refl after_kept)
