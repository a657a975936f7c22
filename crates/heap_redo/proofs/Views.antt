-- The blocks of a pool as redo sees them, after one of them changed.
use Rattle.std.proofs.Common.{arith, ap, sym, refl, ◌∙◌, ◌≡◌, inl, inr, ℕ, Bool, true, false, not, ◌&&◌, ◌==◌, cond, nat_lt, List, Option, Some, None, Result, Ok, Err, IsOk, subst}
use Rattle.std.proofs.Math.Path.{fun_ext}
use Rattle.std.proofs.lemmas.Bool.{cases_eq}
use Rattle.pg_types.specs.declared.names.Tag.{Tag}
use Rattle.heap_page.specs.Item.{Item}
use Rattle.heap_page.specs.Page.{is_page, lsn_of, items_of}
use Rattle.page_store.specs.declared.pool.PoolFault.{PoolFault}
use Rattle.page_store.specs.declared.pool.PoolFault.TheVariants.{Missing, BadPage}
use Rattle.page_store.specs.Content.{Blocks, is_at, with_block, or_zeros, filled_below, page_answer}
use Rattle.typed_records.specs.declared.types.RecImage.{RecImage}
use Rattle.typed_records.specs.declared.types.Rec.{Rec}
use Rattle.typed_records.specs.declared.types.RecBlock.{RecBlock}
use Rattle.heap_redo.specs.After.{BlockRefusal, applied}
use Rattle.heap_redo.specs.declared.fault.RedoFault.{RedoFault}
use Rattle.heap_redo.specs.Refused.{pool_fault_at}
use Rattle.page_store.specs.Seen.{Seen, bad_block, seen_page, seen, View, view_of}
use Rattle.heap_redo.specs.Redone.{is_anew, is_left, redone_block, with_seen, or_zero_block, grown, view_with, view_by, view_outcome, Follows, fault_by, fault_outcome}
use Rattle.heap_redo.proofs.OneBlock.{missing-refused, broken-refused, image-anew, image-not_left}
use Rattle.page_store.proofs.Blocks.{at-other_block, at-other_table}

-- two ways to see blocks, at one of them
pub cond_view : (v : Bool) (f g : View) (t b : ℕ) → (cond v f g) t b ≡ cond v (f t b) (g t b)
cond_view true f g t b = refl
cond_view false f g t b = refl

seen-cond : (v : Bool) (bytes : List ℕ) (block : Option (List ℕ)) → seen (cond v (Some bytes) block) ≡ cond v (seen (Some bytes)) (seen block)
seen-cond true bytes block = refl
seen-cond false bytes block = refl

pub view-with_block : (blocks : Blocks) (tag : Tag) (bytes : List ℕ) → view_of (with_block blocks tag bytes) ≡ with_seen (view_of blocks) tag (seen (Some bytes))
unfolding with_block with_seen
view-with_block blocks tag bytes = fun_ext (λ t. fun_ext (λ b. seen-cond (is_at tag t b) bytes (blocks t b)))

kept-page : (v : Bool) (lsn : ℕ) (items : List Item) → cond v (seen_page lsn items) bad_block ≡ or_zero_block (cond v (seen_page lsn items) bad_block)
kept-page true lsn items = refl
kept-page false lsn items = refl

seen-or_zeros : (block : Option (List ℕ)) → seen (or_zeros block) ≡ or_zero_block (seen block)
unfolding seen
seen-or_zeros None = refl
seen-or_zeros (Some bytes) = kept-page (is_page bytes) (lsn_of bytes) (items_of bytes)

seen-filled : (v : Bool) (block : Option (List ℕ)) → seen (cond v (or_zeros block) block) ≡ cond v (or_zero_block (seen block)) (seen block)
seen-filled true block = seen-or_zeros block
seen-filled false block = refl

pub view-filled : (blocks : Blocks) (tag : Tag) → view_of (filled_below blocks tag) ≡ grown (view_of blocks) tag
unfolding filled_below grown
view-filled blocks tag = fun_ext (λ t. fun_ext (λ b. seen-filled ((t == tag.table) && nat_lt b tag.block) (blocks t b)))

-- what stands there is put there
module _ {X : Type 0} (f : ℕ → ℕ → X) (tag : Tag) (x : X) (e : f tag.table tag.block ≡ x) where
  either : (v : Bool) (a b : X) → a ≡ b → cond v a b ≡ b
  either true a b e = e
  either false a b e = refl

  pub put-same : (λ t b. cond (is_at tag t b) x (f t b)) ≡ f
  put-same =
      fun_ext (λ t. fun_ext (λ b. elim (cases_eq t tag.table) [
        | inl same_table ↦ elim (cases_eq b tag.block) [
          | inl same_block ↦ either (is_at tag t b) x (f t b) (sym (ap (λ n. f n b) same_table ∙ ap (f tag.table) same_block ∙ e))
          | inr other ↦ ap (λ v. cond v x (f t b)) (at-other_block tag t b other)
        ]
        | inr other ↦ ap (λ v. cond v x (f t b)) (at-other_table tag t b other)
      ]))

pub with_block-same : (blocks : Blocks) (tag : Tag) (bytes : List ℕ) → blocks tag.table tag.block ≡ Some bytes → with_block blocks tag bytes ≡ blocks
unfolding with_block
with_block-same blocks tag bytes e = put-same blocks tag (Some bytes) e

pub with_seen-same : (view : View) (tag : Tag) → with_seen view tag (view tag.table tag.block) ≡ view
unfolding with_seen
with_seen-same view tag = put-same view tag (view tag.table tag.block) refl

-- what the pool answers of a page
lent-page : (v : Bool) (bytes other : List ℕ) → Ok bytes ≡ cond v (Ok other) (Err BadPage) → Some other ≡ Some bytes
lent-page true bytes other e = cc
lent-page false bytes other e = cc

pub page-there : (block : Option (List ℕ)) (bytes : List ℕ) → Ok bytes ≡ page_answer block → block ≡ Some bytes
unfolding page_answer
page-there None bytes e = cc
page-there (Some other) bytes e = lent-page (is_page other) bytes other e

not-grown : (a b : Bool) → b ≡ true → (a && not b) ≡ false
not-grown true b e = ap not e
not-grown false b e = refl

-- why the pool has no page
fault-of : (v : Bool) (bytes : List ℕ) (fault : PoolFault) → Err fault ≡ cond v (Ok bytes) (Err BadPage) → (fault ≡ BadPage) × (v ≡ false)
fault-of true bytes fault e = cc
fault-of false bytes fault e = (cc, refl)

module _ (rec : Rec) (block : RecBlock) (view : View) (tag : Tag) where
  grows-not : is_anew block ≡ false → (left : Seen) → with_seen view tag left ≡ view_with rec block view tag left
  unfolding view_with
  grows-not anew left = sym (ap (λ v. with_seen (cond (v && not (is_left rec block)) (grown view tag) view) tag left) anew)

  grows : is_anew block ≡ true → is_left rec block ≡ false → (left : Seen) → with_seen (grown view tag) tag left ≡ view_with rec block view tag left
  unfolding view_with
  grows anew not_left left =
      sym (ap (λ v. with_seen (cond (v && not (is_left rec block)) (grown view tag) view) tag left) anew
      ∙ ap (λ v. with_seen (cond (not v) (grown view tag) view) tag left) not_left)

  keeps : is_left rec block ≡ true → view ≡ view_with rec block view tag (view tag.table tag.block)
  unfolding view_with
  keeps left =
      sym (ap (λ v. with_seen (cond v (grown view tag) view) tag (view tag.table tag.block)) (not-grown (is_anew block) (is_left rec block) left)
      ∙ with_seen-same view tag)

  -- a page of the pool was changed, or not
  pub page-outcome : is_anew block ≡ false → (next : View) (bytes : List ℕ) → next ≡ with_seen view tag (seen (Some bytes)) → (result : Result (Unit {0}) RedoFault) (left : Result Seen BlockRefusal) → fault_outcome bytes result ≡ fault_by block left → view_outcome next result ≡ view_by rec block view tag left
  page-outcome anew next bytes e (Ok done) (Ok left) h =
      let ok : View → Result View RedoFault = λ v. Ok v in
      let same : seen (Some bytes) ≡ left = cc in
      ap ok (e ∙ ap (with_seen view tag) same ∙ grows-not anew left)
  page-outcome anew next bytes e (Ok done) (Err refusal) h = cc
  page-outcome anew next bytes e (Err fault) (Ok left) h = cc
  page-outcome anew next bytes e (Err fault) (Err refusal) h = cc

  -- the pool has no page of the block
  pub missing-outcome : (block.block == 4294967295) ≡ false → is_anew block ≡ false → is_left rec block ≡ false → (here : Option (List ℕ)) (fault : PoolFault) → Err fault ≡ page_answer here → Err (pool_fault_at block fault) ≡ view_by rec block view tag (redone_block rec block (seen here))
  unfolding page_answer seen
  missing-outcome below anew left None fault e =
      let same : fault ≡ Missing = cc in
      let err : RedoFault → Result View RedoFault = λ f. Err f in
      ap (λ f. err (pool_fault_at block f)) same ∙ ap (view_by rec block view tag) (missing-refused rec block below anew left)
  missing-outcome below anew left (Some bytes) fault e =
      let why = fault-of (is_page bytes) bytes fault e in
      let err : RedoFault → Result View RedoFault = λ f. Err f in
      ap (λ f. err (pool_fault_at block f)) why.0
      ∙ ap (view_by rec block view tag) (broken-refused rec block below anew left ∙ ap (λ v. redone_block rec block (cond v (seen_page (lsn_of bytes) (items_of bytes)) bad_block)) (sym why.1))

  -- a block was made anew
  pub anew-outcome : is_anew block ≡ true → is_left rec block ≡ false → (next : View) (bytes : List ℕ) → next ≡ with_seen (grown view tag) tag (seen (Some bytes)) → (left : Result Seen BlockRefusal) → Ok (seen (Some bytes)) ≡ left → Ok next ≡ view_by rec block view tag left
  anew-outcome anew not_left next bytes e left h =
      let ok : View → Result View RedoFault = λ v. Ok v in
      ap ok (e ∙ grows anew not_left (seen (Some bytes))) ∙ ap (view_by rec block view tag) h

  -- a block was restored from its image
  pub image-outcome : (image : RecImage) → applied block.image ≡ Some image → (next : View) (bytes : List ℕ) → next ≡ with_seen (grown view tag) tag (seen (Some bytes)) → (left : Result Seen BlockRefusal) → Ok (seen (Some bytes)) ≡ left → Ok next ≡ view_by rec block view tag left
  image-outcome image restored = anew-outcome (image-anew rec block image restored) (image-not_left rec block image restored)

  -- a block is left
  pub left-outcome : is_left rec block ≡ true → (left : Result Seen BlockRefusal) → Ok (view tag.table tag.block) ≡ left → Ok view ≡ view_by rec block view tag left
  left-outcome is_left left h =
      let ok : View → Result View RedoFault = λ v. Ok v in
      ap ok (keeps is_left) ∙ ap (view_by rec block view tag) h

-- a fault is answered
pub err-is : {A : Type 0} → (a b : RedoFault) → a ≡ b → (let r : Result A RedoFault = Err a in r) ≡ Err b
err-is {A} a b e = let err : RedoFault → Result A RedoFault = λ f. Err f in ap err e

-- what is followed may be written in another way
pub followed : (view : View) (result : Result (Unit {0}) RedoFault) (given other : Result View RedoFault) → given ≡ other → Follows view result given → Follows view result other
followed view result given other e (inl memory) = inl (memory.0, subst (λ (r : Result View RedoFault). IsOk r) e memory.1)
followed view result given other e (inr same) = inr (same ∙ e)

pub is_ok-by : (rec : Rec) (block : RecBlock) (view : View) (tag : Tag) (left : Seen) (given : Result Seen BlockRefusal) → Ok left ≡ given → IsOk (view_by rec block view tag given)
is_ok-by rec block view tag left given e = subst (λ (r : Result Seen BlockRefusal). IsOk (view_by rec block view tag r)) e refl
