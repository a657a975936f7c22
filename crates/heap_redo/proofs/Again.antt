-- A call that is repeated.
use Rattle.std.proofs.Common.{arith, ap, sym, refl, ◌∙◌, ◌≡◌, ◌⊎◌, inl, inr, ℕ, suc, Bool, true, false, not, ◌&&◌, ◌==◌, cond, nat_lt, List, [], ◌∷◌, take, drop, Option, Some, None, is_some, Result, Ok, Err, take-append-drop}
use Rattle.std.proofs.Math.Path.{fun_ext}
use Rattle.std.proofs.lemmas.Bool.{false≢true}
use Rattle.std.proofs.lemmas.Bool.Decides.{nat_tests}
use Rattle.pg_types.specs.declared.names.Tag.{Tag}
use Rattle.pg_types.specs.declared.names.Locator.{Locator}
use Rattle.heap_page.specs.Item.{Item}
use Rattle.heap_page.specs.Page.{is_page, lsn_of, items_of}
use Rattle.page_store.specs.Content.{zeros, is_at}
use Rattle.typed_records.specs.declared.types.RecImage.{RecImage}
use Rattle.typed_records.specs.declared.types.Rec.{Rec}
use Rattle.typed_records.specs.declared.types.RecBlock.{RecBlock}
use Rattle.heap_redo.specs.After.{BlockRefusal, no_page, bad_page, Content, missing, broken, page, applied, is_images, page_of_image, made_anew, paged, changed, changed_page, after_change, after_image, after}
use Rattle.heap_redo.specs.declared.fault.RedoFault.{RedoFault}
use Rattle.page_store.specs.Seen.{Seen, absent, bad_block, seen_page, seen, View}
use Rattle.heap_redo.specs.Redone.{content_of, stamped, is_anew, is_left, has_reached, left_by, redone_block, with_seen, or_zero_block, grown, view_with, table_of, view_by, redone_in, redone_at, Outcome, and_then, redone, cut_by, redone_record, Stands}
use Rattle.heap_redo.proofs.OneBlock.{left-kept, redone-done, redone-by, left-ok, after-anew, after-restored}
use Rattle.heap_redo.proofs.Cuts.{uncut-redone, cut-redone, uncut-all, cut-repeated}
use Rattle.heap_redo.proofs.Sequence.{same-view, same-answer, redone-append, redone-first, redone-none}
use Rattle.page_store.proofs.Blocks.{at-here}
use Rattle.heap_redo.proofs.Views.{cond_view}
use Rattle.std.specs.Cmp.{second_so}

-- only a page comes of a change that is not left out
is_page_content : Content → Bool
is_page_content missing = false
is_page_content broken = false
is_page_content (page items) = true

paged-page : (r : Result (List Item) BlockRefusal) (content : Content) → paged r ≡ Ok content → is_page_content content ≡ true
unfolding is_page_content
paged-page (Ok items) content e = let same : content ≡ page items = cc in ap is_page_content same
paged-page (Err refusal) content e = cc

restored-page : (v : Bool) (items : List Item) (content : Content) → cond v (Ok (page items)) (Err bad_page) ≡ Ok content → is_page_content content ≡ true
unfolding is_page_content
restored-page true items content e = let same : content ≡ page items = cc in ap is_page_content same
restored-page false items content e = cc

changed-page : (rec : Rec) (block : RecBlock) (before content : Content) → changed_page rec block before ≡ Ok content → is_page_content content ≡ true
unfolding changed_page
changed-page rec block missing content e = cc
changed-page rec block broken content e = cc
changed-page rec block (page items) content e = paged-page (changed rec block rec.kind items) content e

-- the two ways, whatever was tested
pub by_cases : {X : Type 0} (v : Bool) (a b c : X) (P : Type 0) → (v ≡ true → a ≡ c → P) → (v ≡ false → b ≡ c → P) → cond v a b ≡ c → P
by_cases true a b c P f g e = f refl e
by_cases false a b c P f g e = g refl e

image-page : (rec : Rec) (block : RecBlock) (before content : Content) (image : Option RecImage) → (is_images rec.kind && not (is_some image)) ≡ false → after_image rec block before image ≡ Ok content → is_page_content content ≡ true
unfolding after_change
image-page rec block before content (Some image) h e =
    restored-page (is_page (page_of_image image)) (items_of (page_of_image image)) content e
image-page rec block before content None h e =
    by_cases (is_images rec.kind) (Ok before) (changed_page rec block (made_anew block.will_init before)) (Ok content) (is_page_content content ≡ true)
    (λ images kept. absurd (false≢true (sym h ∙ ap (λ v. v && true) images)))
    (λ other done. changed-page rec block (made_anew block.will_init before) content done) e

after-page : (rec : Rec) (block : RecBlock) (before content : Content) → is_left rec block ≡ false → after rec block before ≡ Ok content → is_page_content content ≡ true
unfolding after
after-page rec block before content h e =
    by_cases (block.block == 4294967295) (Err no_page) (after_image rec block before (applied block.image)) (Ok content) (is_page_content content ≡ true)
    (λ last bad. cc) (λ other done. image-page rec block before content (applied block.image) h done) e

-- the page has the record's change
stamped-reached : (end : ℕ) (content : Content) → is_page_content content ≡ true → has_reached end (stamped end content) ≡ true
unfolding is_page_content
stamped-reached end missing h = h
stamped-reached end broken h = h
stamped-reached end (page items) h = grind (arith, nat_tests)

module _ (rec : Rec) (block : RecBlock) where
  not_last : (before after_ : Seen) → redone_block rec block before ≡ Ok after_ → (block.block == 4294967295) ≡ false
  unfolding redone_block
  not_last before after_ e =
      by_cases (block.block == 4294967295) (Err no_page) (cond (not (is_anew block) && has_reached rec.end.0 before) (Ok before) (left_by rec block before (after rec block (content_of before))))
      (Ok after_) ((block.block == 4294967295) ≡ false) (λ last bad. cc) (λ other done. other) e

  -- what comes of a block that is neither refused nor left out
  left-reached : is_left rec block ≡ false → (before s : Seen) (r : Result Content BlockRefusal) → ((content : Content) → r ≡ Ok content → is_page_content content ≡ true) → left_by rec block before r ≡ Ok s → has_reached rec.end.0 s ≡ true
  left-reached h before s (Err refusal) k e = cc
  left-reached h before s (Ok content) k e =
      let made : Bool → Result Seen BlockRefusal = λ v. Ok (cond v before (stamped rec.end.0 content)) in
      let stamp : Ok (stamped rec.end.0 content) ≡ Ok s = sym (ap made h) ∙ e in
      let same : stamped rec.end.0 content ≡ s = cc in
      ap (has_reached rec.end.0) (sym same) ∙ stamped-reached rec.end.0 content (k content refl)

  reached : is_left rec block ≡ false → (before s : Seen) → redone_block rec block before ≡ Ok s → has_reached rec.end.0 s ≡ true
  unfolding redone_block
  reached h before s e =
      by_cases (block.block == 4294967295) (Err no_page) (cond (not (is_anew block) && has_reached rec.end.0 before) (Ok before) (left_by rec block before (after rec block (content_of before))))
      (Ok s) (has_reached rec.end.0 s ≡ true) (λ last bad. cc)
      (λ other done. by_cases (not (is_anew block) && has_reached rec.end.0 before) (Ok before) (left_by rec block before (after rec block (content_of before))) (Ok s) (has_reached rec.end.0 s ≡ true)
      (λ was kept. let same : before ≡ s = cc in ap (has_reached rec.end.0) (sym same) ∙ second_so (not (is_anew block)) (has_reached rec.end.0 before) was)
      (λ new changed. left-reached h before s (after rec block (content_of before)) (λ content k. after-page rec block (content_of before) content h k) changed) done) e

  -- a block that is left
  left-same : is_left rec block ≡ true → (before s : Seen) → redone_block rec block before ≡ Ok s → before ≡ s
  left-same h before s e =
      let kept = left-kept rec block (not_last before s e) h before in
      let both : Ok before ≡ Ok s = kept ∙ e in cc

  -- a change that the page has is skipped
  done-again : (block.block == 4294967295) ≡ false → is_anew block ≡ false → (s : Seen) → has_reached rec.end.0 s ≡ true → redone_block rec block s ≡ Ok s
  done-again other anew s h =
      redone-done rec block other s (ap (λ v. not v && has_reached rec.end.0 s) anew ∙ h)

  -- a page that is made anew does not depend on what stood there
  after-same : (block.block == 4294967295) ≡ false → is_anew block ≡ true → is_left rec block ≡ false → (image : Option RecImage) → applied block.image ≡ image → (a b : Content) → after rec block a ≡ after rec block b
  after-same other anew h None e a b = sym (after-anew rec block other e anew h a) ∙ after-anew rec block other e anew h b
  after-same other anew h (Some image) e a b = sym (after-restored rec block other image e a) ∙ after-restored rec block other image e b

  left_by-same : (block.block == 4294967295) ≡ false → is_left rec block ≡ false → (s t : Seen) (r : Result Content BlockRefusal) → left_by rec block s r ≡ left_by rec block t r
  left_by-same other h s t (Err refusal) = refl
  left_by-same other h s t (Ok content) = left-ok rec block other h s content ∙ sym (left-ok rec block other h t content)

  anew-same : (block.block == 4294967295) ≡ false → is_anew block ≡ true → is_left rec block ≡ false → (s t : Seen) → redone_block rec block s ≡ redone_block rec block t
  anew-same other anew h s t =
      redone-by rec block other s (ap (λ v. not v && has_reached rec.end.0 s) anew)
      ∙ left_by-same other h s t (after rec block (content_of s))
      ∙ ap (left_by rec block t) (after-same other anew h (applied block.image) refl (content_of s) (content_of t))
      ∙ sym (redone-by rec block other t (ap (λ v. not v && has_reached rec.end.0 t) anew))

is_present : Seen → Bool
is_present absent = false
is_present bad_block = true
is_present (seen_page lsn items) = true

present-page : (v : Bool) (lsn : ℕ) (items : List Item) → is_present (cond v (seen_page lsn items) bad_block) ≡ true
unfolding is_present
present-page true lsn items = refl
present-page false lsn items = refl

present-zeros : (s : Seen) → is_present (or_zero_block s) ≡ true
unfolding is_present seen
present-zeros absent = present-page (is_page zeros) (lsn_of zeros) (items_of zeros)
present-zeros bad_block = refl
present-zeros (seen_page lsn items) = refl

kept-present : (s : Seen) → is_present s ≡ true → or_zero_block s ≡ s
unfolding is_present
kept-present absent h = absurd (false≢true h)
kept-present bad_block h = refl
kept-present (seen_page lsn items) h = refl

reached-present : (end : ℕ) (s : Seen) → has_reached end s ≡ true → is_present s ≡ true
unfolding is_present
reached-present end absent h = h
reached-present end bad_block h = refl
reached-present end (seen_page lsn items) h = refl

kept-reached : (end : ℕ) (s : Seen) → has_reached end s ≡ true → has_reached end (or_zero_block s) ≡ true
kept-reached end absent h = absurd (false≢true h)
kept-reached end bad_block h = h
kept-reached end (seen_page lsn items) h = h

-- a block after one of the record was changed: that block, one below it that is filled up, or another
value : Bool → Bool → Bool → Seen → Seen → Seen
value at grows fill left before = cond at left (cond grows (cond fill (or_zero_block before) before) before)

at-table : (tag : Tag) (t b : ℕ) → is_at tag t b ≡ true → t ≡ tag.table
at-table tag t b h = grind (arith, nat_tests)

at-block : (tag : Tag) (t b : ℕ) → is_at tag t b ≡ true → b ≡ tag.block
at-block tag t b h = grind (arith, nat_tests)

at-view : (tag : Tag) (t b : ℕ) (view : View) → is_at tag t b ≡ true → view tag.table tag.block ≡ view t b
at-view tag t b view h = sym (ap (λ n. view n b) (at-table tag t b h) ∙ ap (view tag.table) (at-block tag t b h))

-- what holds of a block stays so
value-keeps : (f : Seen → Bool) → ((s : Seen) → f s ≡ true → f (or_zero_block s) ≡ true) → (at grows fill : Bool) (left before : Seen) → (at ≡ true → f left ≡ true) → f before ≡ true → f (value at grows fill left before) ≡ true
unfolding value
value-keeps f z true grows fill left before h e = h refl
value-keeps f z false true true left before h e = z before e
value-keeps f z false true false left before h e = e
value-keeps f z false false fill left before h e = e

-- two runs agree, or the second_so one has what stands at the end
value-agrees : (at grows fill : Bool) (s u x y z : Seen) → (at ≡ true → (u ≡ s) ⊎ (u ≡ z)) → (y ≡ x) ⊎ (y ≡ z) → (is_present (value at grows fill s x) ≡ true → is_present z ≡ true) → (value at grows fill u y ≡ value at grows fill s x) ⊎ (value at grows fill u y ≡ z)
unfolding value
value-agrees true grows fill s u x y z h e p = h refl
value-agrees false true true s u x y z h (inl e) p = inl (ap or_zero_block e)
value-agrees false true true s u x y z h (inr e) p = inr (ap or_zero_block e ∙ kept-present z (p (present-zeros x)))
value-agrees false true false s u x y z h e p = e
value-agrees false false fill s u x y z h e p = e

module _ (rec : Rec) (block : RecBlock) (tag : Tag) where
  grows_to : Bool
  grows_to = is_anew block && not (is_left rec block)

  fills : ℕ → ℕ → Bool
  fills t b = (t == tag.table) && nat_lt b tag.block

  view-value : (view : View) (left : Seen) (t b : ℕ) → view_with rec block view tag left t b ≡ value (is_at tag t b) grows_to (fills t b) left (view t b)
  unfolding view_with with_seen grown value grows_to fills
  view-value view left t b = ap (cond (is_at tag t b) left) (cond_view (is_anew block && not (is_left rec block)) (grown view tag) view t b)

-- what is kept by each block's change is kept by a record
module _ (rec : Rec) (known : List Locator) (f : Seen → Bool) (zero_keeps : (s : Seen) → f s ≡ true → f (or_zero_block s) ≡ true) (block_keeps : (block : RecBlock) (s u : Seen) → redone_block rec block s ≡ Ok u → f s ≡ true → f u ≡ true) where
  at-keeps : (block : RecBlock) (view next : View) (tag : Tag) (r : Result Seen BlockRefusal) → redone_block rec block (view tag.table tag.block) ≡ r → view_by rec block view tag r ≡ Ok next → (t b : ℕ) → f (view t b) ≡ true → f (next t b) ≡ true
  at-keeps block view next tag (Err refusal) e k t b h = cc
  at-keeps block view next tag (Ok left) e k t b h =
      let same : view_with rec block view tag left ≡ next = cc in
      ap (λ (v : View). f (v t b)) (sym same)
      ∙ ap f (view-value rec block tag view left t b)
      ∙ value-keeps f zero_keeps (is_at tag t b) (grows_to rec block tag) (fills rec block tag t b) left (view t b)
      (λ here. block_keeps block (view tag.table tag.block) left e (ap f (at-view tag t b view here) ∙ h)) h

  in-keeps : (block : RecBlock) (view next : View) (o : Option ℕ) → redone_in rec block view o ≡ Ok next → (t b : ℕ) → f (view t b) ≡ true → f (next t b) ≡ true
  in-keeps block view next None e t b h = let same : view ≡ next = cc in ap (λ (v : View). f (v t b)) (sym same) ∙ h
  in-keeps block view next (Some table) e t b h =
      at-keeps block view next (record { table = table; block = block.block }) (redone_block rec block (view table block.block)) refl e t b h

  step-keeps : (block : RecBlock) (view next : View) → redone_at rec known block view ≡ Ok next → (t b : ℕ) → f (view t b) ≡ true → f (next t b) ≡ true
  unfolding redone_at
  step-keeps block view next e = in-keeps block view next (table_of known block.locator) e

  then-keeps : (block : RecBlock) (blocks : List RecBlock) (view last : View) → ((next : View) → redone rec known blocks next ≡ (last, Ok tt) → (t b : ℕ) → f (next t b) ≡ true → f (last t b) ≡ true) → (r : Result View RedoFault) → redone_at rec known block view ≡ r → and_then view r (λ next. redone rec known blocks next) ≡ (last, Ok tt) → (t b : ℕ) → f (view t b) ≡ true → f (last t b) ≡ true
  then-keeps block blocks view last k (Ok next) e h t b p = k next h t b (step-keeps block view next e t b p)
  then-keeps block blocks view last k (Err fault) e h t b p = let bad = same-answer view last (Err fault) (Ok tt) h in cc

  all-keep : (blocks : List RecBlock) (view last : View) → redone rec known blocks view ≡ (last, Ok tt) → (t b : ℕ) → f (view t b) ≡ true → f (last t b) ≡ true
  unfolding redone
  all-keep [] view last e t b h = ap (λ (v : View). f (v t b)) (sym (same-view view last (Ok tt) (Ok tt) e)) ∙ h
  all-keep (block ∷ blocks) view last e t b h =
      then-keeps block blocks view last (λ next k. all-keep blocks next last k) (redone_at rec known block view) refl e t b h

module _ (rec : Rec) where
  reached-by : (block : RecBlock) (v : Bool) → is_left rec block ≡ v → (s u : Seen) → redone_block rec block s ≡ Ok u → has_reached rec.end.0 s ≡ true → has_reached rec.end.0 u ≡ true
  reached-by block true h s u e p = ap (has_reached rec.end.0) (sym (left-same rec block h s u e)) ∙ p
  reached-by block false h s u e p = reached rec block h s u e

  present-by : (block : RecBlock) (v : Bool) → is_left rec block ≡ v → (s u : Seen) → redone_block rec block s ≡ Ok u → is_present s ≡ true → is_present u ≡ true
  present-by block true h s u e p = ap is_present (sym (left-same rec block h s u e)) ∙ p
  present-by block false h s u e p = reached-present rec.end.0 u (reached rec block h s u e)

  -- the block that a second_so run leaves: as the first one, or what stands at the end
  Same : RecBlock → Seen → Seen → Seen → Type 0
  Same block y left z = (u : Seen) × (redone_block rec block y ≡ Ok u) × ((u ≡ left) ⊎ (u ≡ z))

  by_ways : (block : RecBlock) (x y z left : Seen) (is_left_ is_anew_ : Bool) → is_left rec block ≡ is_left_ → is_anew block ≡ is_anew_ → redone_block rec block x ≡ Ok left → y ≡ z → (has_reached rec.end.0 left ≡ true → has_reached rec.end.0 z ≡ true) → Same block y left z
  unfolding Same
  by_ways block x y z left true anew l a e same stays =
      (y, sym (left-kept rec block (not_last rec block x left e) l y), inr same)
  by_ways block x y z left false true l a e same stays =
      (left, anew-same rec block (not_last rec block x left e) a l y x ∙ e, inl refl)
  by_ways block x y z left false false l a e same stays =
      let ok : Seen → Result Seen BlockRefusal = λ s. redone_block rec block s in
      (z, ap ok same ∙ done-again rec block (not_last rec block x left e) a z (stays (reached rec block l x left e)), inr refl)

  same-left : (block : RecBlock) (x y z left : Seen) → redone_block rec block x ≡ Ok left → (y ≡ x) ⊎ (y ≡ z) → (has_reached rec.end.0 left ≡ true → has_reached rec.end.0 z ≡ true) → Same block y left z
  unfolding Same
  same-left block x y z left e (inl same) stays =
      let ok : Seen → Result Seen BlockRefusal = λ s. redone_block rec block s in (left, ap ok same ∙ e, inl refl)
  same-left block x y z left e (inr same) stays =
      by_ways block x y z left (is_left rec block) (is_anew block) refl refl e same stays

  -- a second_so run agrees with the first one, or has what stands at the end
  Agrees : View → View → View → Type 0
  Agrees view other last = (t b : ℕ) → (other t b ≡ view t b) ⊎ (other t b ≡ last t b)

  Follows : Result View RedoFault → View → View → Type 0
  Follows r next last = (u : View) × (r ≡ Ok u) × Agrees next u last

  agree-at : (block : RecBlock) (view other last next : View) (tag : Tag) (r : Result Seen BlockRefusal) → redone_block rec block (view tag.table tag.block) ≡ r → view_by rec block view tag r ≡ Ok next → Agrees view other last → ((t b : ℕ) → has_reached rec.end.0 (next t b) ≡ true → has_reached rec.end.0 (last t b) ≡ true) → ((t b : ℕ) → is_present (next t b) ≡ true → is_present (last t b) ≡ true) → Follows (view_by rec block other tag (redone_block rec block (other tag.table tag.block))) next last
  unfolding Agrees Follows Same value
  agree-at block view other last next tag (Err refusal) e k agree stays present = let bad : ⊥ = cc in absurd bad
  agree-at block view other last next tag (Ok left) e k agree stays present =
      let same : view_with rec block view tag left ≡ next = cc in
      let seen_at : (t b : ℕ) → next t b ≡ value (is_at tag t b) (grows_to rec block tag) (fills rec block tag t b) left (view t b) =
      λ t b. ap (λ (v : View). v t b) (sym same) ∙ view-value rec block tag view left t b in
      let here : next tag.table tag.block ≡ left =
      seen_at tag.table tag.block ∙ ap (λ v. cond v left (cond (grows_to rec block tag) (cond (fills rec block tag tag.table tag.block) (or_zero_block (view tag.table tag.block)) (view tag.table tag.block)) (view tag.table tag.block))) (at-here tag) in
      let found = same-left block (view tag.table tag.block) (other tag.table tag.block) (last tag.table tag.block) left e (agree tag.table tag.block)
      (λ h. stays tag.table tag.block (ap (has_reached rec.end.0) here ∙ h)) in
      let u = found.0 in (
        view_with rec block other tag u,
        ap (view_by rec block other tag) found.1,
        λ t b. elim (value-agrees (is_at tag t b) (grows_to rec block tag) (fills rec block tag t b) left u (view t b) (other t b) (last t b)
            (λ at. elim found.2 [ inl a ↦ inl a | inr a ↦ inr (a ∙ at-view tag t b last at) ]) (agree t b)
            (λ p. present t b (ap is_present (seen_at t b) ∙ p))) [
              | inl a ↦ inl (view-value rec block tag other u t b ∙ a ∙ sym (seen_at t b))
              | inr a ↦ inr (view-value rec block tag other u t b ∙ a)
            ],
      )

  agree-in : (block : RecBlock) (view other last next : View) (o : Option ℕ) → redone_in rec block view o ≡ Ok next → Agrees view other last → ((t b : ℕ) → has_reached rec.end.0 (next t b) ≡ true → has_reached rec.end.0 (last t b) ≡ true) → ((t b : ℕ) → is_present (next t b) ≡ true → is_present (last t b) ≡ true) → Follows (redone_in rec block other o) next last
  unfolding Agrees Follows
  agree-in block view other last next None e agree stays present =
      let same : view ≡ next = cc in
      (other, refl, λ t b. elim (agree t b) [ inl a ↦ inl (a ∙ ap (λ (v : View). v t b) same) | inr a ↦ inr a ])
  agree-in block view other last next (Some table) e agree stays present =
      agree-at block view other last next (record { table = table; block = block.block }) (redone_block rec block (view table block.block)) refl e agree stays present

module _ (rec : Rec) (known : List Locator) where
  then-again : (block : RecBlock) (blocks : List RecBlock) (view other last : View) → ((next u : View) → redone rec known blocks next ≡ (last, Ok tt) → Agrees rec next u last → redone rec known blocks u ≡ (last, Ok tt)) → Agrees rec view other last → (r : Result View RedoFault) → redone_at rec known block view ≡ r → and_then view r (λ next. redone rec known blocks next) ≡ (last, Ok tt) → redone rec known (block ∷ blocks) other ≡ (last, Ok tt)
  unfolding redone_at Follows
  then-again block blocks view other last k agree (Ok next) e h =
      let found = agree-in rec block view other last next (table_of known block.locator) e agree
      (all-keep rec known (has_reached rec.end.0) (kept-reached rec.end.0) (λ x s u a p. reached-by rec x (is_left rec x) refl s u a p) blocks next last h)
      (all-keep rec known is_present (λ s p. present-zeros s) (λ x s u a p. present-by rec x (is_left rec x) refl s u a p) blocks next last h) in
      redone-first rec known block blocks other found.0 (sym found.1) ∙ k next found.0 h found.2
  then-again block blocks view other last k agree (Err fault) e h = let bad = same-answer view last (Err fault) (Ok tt) h in cc

  again : (blocks : List RecBlock) (view other last : View) → redone rec known blocks view ≡ (last, Ok tt) → Agrees rec view other last → redone rec known blocks other ≡ (last, Ok tt)
  unfolding redone Agrees
  again [] view other last e agree =
      let end = same-view view last (Ok tt) (Ok tt) e in
      ap (λ v. let o : Outcome = (v, Ok tt) in o)
      (fun_ext (λ t. fun_ext (λ b. elim (agree t b) [ inl a ↦ a ∙ ap (λ (v : View). v t b) end | inr a ↦ a ])))
  again (block ∷ blocks) view other last e agree =
      then-again block blocks view other last (λ next u h a. again blocks next u last h a) agree (redone_at rec known block view) refl e

  Prefix : List RecBlock → View → View → Type 0
  Prefix blocks old new = (n : ℕ) × (redone rec known (take n blocks) old ≡ (new, Ok tt))

  then-prefix : (block : RecBlock) (blocks : List RecBlock) (old new : View) (result : Result (Unit {0}) RedoFault) → ((next : View) → redone rec known blocks next ≡ (new, result) → Prefix blocks next new) → (r : Result View RedoFault) → redone_at rec known block old ≡ r → and_then old r (λ next. redone rec known blocks next) ≡ (new, result) → Prefix (block ∷ blocks) old new
  unfolding Prefix
  then-prefix block blocks old new result k (Ok next) e h =
      let found = k next h in (suc found.0, redone-first rec known block (take found.0 blocks) old next (sym e) ∙ found.1)
  then-prefix block blocks old new result k (Err fault) e h =
      (0, redone-none rec known old ∙ ap (λ v. let o : Outcome = (v, Ok tt) in o) (same-view old new (Err fault) result h))

  prefix : (blocks : List RecBlock) (old new : View) (result : Result (Unit {0}) RedoFault) → redone rec known blocks old ≡ (new, result) → Prefix blocks old new
  unfolding redone Prefix
  prefix [] old new result e = (0, ap (λ v. let o : Outcome = (v, Ok tt) in o) (same-view old new (Ok tt) result e))
  prefix (block ∷ blocks) old new result e =
      then-prefix block blocks old new result (λ next h. prefix blocks next new result h) (redone_at rec known block old) refl e

  stands-prefix : (old new : View) (result : Result (Unit {0}) RedoFault) → cut_by rec rec.kind known old ≡ None → Stands rec known old new result → Prefix rec.blocks old new
  unfolding Prefix
  stands-prefix old new result uncut (inl memory) = (memory.1.done, memory.1.stands)
  stands-prefix old new result uncut (inr e) = prefix rec.blocks old new result (sym (uncut-redone rec known old uncut) ∙ e)

  repeated : (old new : View) (result : Result (Unit {0}) RedoFault) → cut_by rec rec.kind known old ≡ None → Stands rec known old new result → redone rec known rec.blocks new ≡ redone rec known rec.blocks old
  unfolding Prefix Agrees
  repeated old new result uncut stands =
      let found = stands-prefix old new result uncut stands in
      let first = take found.0 rec.blocks in
      let rest = drop found.0 rec.blocks in
      let whole = sym (take-append-drop found.0 rec.blocks) in
      ap (λ xs. redone rec known xs new) whole
      ∙ redone-append rec known first rest new new (again first old new new found.1 (λ t b. inr refl))
      ∙ sym (ap (λ xs. redone rec known xs old) whole ∙ redone-append rec known first rest old new found.1)

  by_cut : (old new : View) (result : Result (Unit {0}) RedoFault) → Stands rec known old new result → (o : Option View) → cut_by rec rec.kind known old ≡ o → redone_record rec known new ≡ redone_record rec known old
  by_cut old new result stands None e =
      uncut-redone rec known new (uncut-all rec known old new e)
      ∙ repeated old new result e stands
      ∙ sym (uncut-redone rec known old e)
  by_cut old new result (inl memory) (Some left) e =
      let bad : ⊥ = let both = sym e ∙ memory.1.uncut in cc in absurd bad
  by_cut old new result (inr h) (Some left) e =
      let whole = cut-redone rec known old left e in
      let same = same-view left new (Ok tt) result (sym whole ∙ h) in
      ap (redone_record rec known) (sym same) ∙ cut-redone rec known left left (cut-repeated rec known old left e) ∙ sym whole

  -- a repeated call leaves what one call does
  pub record-repeated : (old new : View) (result : Result (Unit {0}) RedoFault) → Stands rec known old new result → redone_record rec known new ≡ redone_record rec known old
  record-repeated old new result stands = by_cut old new result stands (cut_by rec rec.kind known old) refl
