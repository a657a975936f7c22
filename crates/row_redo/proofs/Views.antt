-- The blocks of a table once redo left a block.
use Rattle.std.proofs.Common.{◌≡◌, ◌≢◌, ℕ, ◌<◌, Bool, true, false, not, ◌&&◌, ◌==◌, cond, nat_lt, arith, refl, ap, ◌∙◌}
use Rattle.std.proofs.lemmas.Bool.{and_left, and_right, and_from, ne_eqb, eq-eqb, lt-ltb, le-ltb}
use Rattle.pg_types.specs.declared.names.Tag.{Tag}
use Rattle.page_store.specs.Content.{is_at}
use Rattle.typed_records.specs.declared.types.RecBlock.{RecBlock}
use Rattle.typed_records.specs.declared.types.Rec.{Rec}
use Rattle.page_store.specs.Seen.{Seen, View}
use Rattle.heap_redo.specs.Redone.{is_anew, is_left, with_seen, or_zero_block, grown, view_with}
use Rattle.page_store.proofs.Blocks.{at-other_block}
use Rattle.heap_redo.proofs.Views.{cond_view}

-- the table grows to the block
abbrev pub grows : Rec → RecBlock → Bool
grows rec block = is_anew block && not (is_left rec block)

module _ (rec : Rec) (block : RecBlock) (view : View) (tag : Tag) (left : Seen) where
  -- that block
  pub view_at : view_with rec block view tag left tag.table tag.block ≡ left
  unfolding view_with with_seen
  view_at =
      ap (λ (v : Bool). cond v left ((cond (grows rec block) (grown view tag) view) tag.table tag.block))
      (and_from (tag.table == tag.table) (tag.block == tag.block) (eq-eqb tag.table tag.table refl) (eq-eqb tag.block tag.block refl))

  -- another block
  view_off : (t b : ℕ) → is_at tag t b ≡ false → view_with rec block view tag left t b ≡ cond (grows rec block) (grown view tag t b) (view t b)
  unfolding view_with with_seen
  view_off t b off =
      ap (λ (v : Bool). cond v left ((cond (grows rec block) (grown view tag) view) t b)) off
      ∙ cond_view (grows rec block) (grown view tag) view t b

  same_both : (v : Bool) (s : Seen) → cond v s s ≡ s
  same_both true s = refl
  same_both false s = refl

  not_grown : (t b : ℕ) → ((t == tag.table) && nat_lt b tag.block) ≡ false → grown view tag t b ≡ view t b
  unfolding grown
  not_grown t b h = ap (λ (v : Bool). cond v (or_zero_block (view t b)) (view t b)) h

  -- of another table
  pub view_other : (t b : ℕ) → t ≢ tag.table → view_with rec block view tag left t b ≡ view t b
  view_other t b other =
      view_off t b (and_left (t == tag.table) (b == tag.block) (ne_eqb t tag.table other))
      ∙ ap (λ (s : Seen). cond (grows rec block) s (view t b))
      (not_grown t b (and_left (t == tag.table) (nat_lt b tag.block) (ne_eqb t tag.table other)))
      ∙ same_both (grows rec block) (view t b)

  -- of a table that does not grow
  pub view_still : (t b : ℕ) → b ≢ tag.block → grows rec block ≡ false → view_with rec block view tag left t b ≡ view t b
  view_still t b other still =
      view_off t b (at-other_block tag t b other) ∙ ap (λ (v : Bool). cond v (grown view tag t b) (view t b)) still

  -- past the block
  pub view_past : (t b : ℕ) → tag.block < b → view_with rec block view tag left t b ≡ view t b
  view_past t b past =
      view_off t b (at-other_block tag t b (omega arith))
      ∙ ap (λ (s : Seen). cond (grows rec block) s (view t b))
      (not_grown t b (and_right (t == tag.table) (nat_lt b tag.block) (le-ltb b tag.block (omega arith))))
      ∙ same_both (grows rec block) (view t b)

  -- before the block to which the table grows
  pub view_filled :
      (b : ℕ) → b < tag.block → grows rec block ≡ true
      → view_with rec block view tag left tag.table b ≡ or_zero_block (view tag.table b)
  unfolding grown
  view_filled b less more =
      view_off tag.table b (at-other_block tag tag.table b (omega arith))
      ∙ ap (λ (v : Bool). cond v (grown view tag tag.table b) (view tag.table b)) more
      ∙ ap (λ (v : Bool). cond v (or_zero_block (view tag.table b)) (view tag.table b))
      (and_from (tag.table == tag.table) (nat_lt b tag.block) (eq-eqb tag.table tag.table refl) (lt-ltb b tag.block less))
