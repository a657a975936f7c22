-- Redo of a record's blocks, one after the other, keeps what holds of a table's blocks.
use Rattle.std.proofs.Common.{◌≡◌, ◌⊎◌, inl, inr, ℕ, ◌+◌, ◌<◌, ◌≤◌, max, Bool, true, false, not, ◌&&◌, ◌==◌, cond, List, [], ◌∷◌, Option, Some, None, Result, Ok, Err, All, arith, refl, sym, ap, ◌∙◌, subst}
use Rattle.std.specs.List.{list_all}
use Rattle.std.proofs.lemmas.Bool.{and_parts, and_from, and_left, and_right, cases_Bool, cases_eq, cases_lt, eq-eqb, not-true, both_ways}
use Rattle.std.proofs.lemmas.List.Elements.{All-head, All-tail}
use Rattle.pg_types.specs.declared.names.Locator.{Locator}
use Rattle.pg_types.specs.declared.names.Tag.{Tag}
use Rattle.heap_page.specs.Law.{TuplesKeepRule, ZerosHaveNone}
use Rattle.typed_records.specs.declared.types.RecBlock.{RecBlock}
use Rattle.typed_records.specs.declared.types.Rec.{Rec}
use Rattle.heap_redo.specs.After.{BlockRefusal, applied}
use Rattle.heap_redo.specs.declared.fault.RedoFault.{RedoFault}
use Rattle.page_store.specs.Seen.{Seen, absent, bad_block, seen_page, View}
use Rattle.heap_redo.specs.Redone.{Outcome, is_anew, is_left, or_zero_block, view_with, view_by, table_of, redone_block, redone_in, redone_at, and_then, redone}
use Rattle.row_model.specs.Origins.{LogOrigin}
use Rattle.row_model.specs.Versions.{Version, RowStep, version_at, with_steps}
use Rattle.row_model.specs.RowSteps.{block_steps, steps_in, count_with}
use Rattle.record_numbers.specs.Fits.{RecordFits, BlockFits}
use Rattle.row_model.specs.LegalRows.{ImageRule, AnewRule, BlocksRule, same_block, are_apart}
use Rattle.row_redo.proofs.Rules.{StepsRule}
use Rattle.row_redo.proofs.Places.{SameIn, same_joined, steps_away, steps_joined, rules_split, none_same}
use Rattle.row_redo.proofs.Own.{block_in}
use Rattle.row_redo.proofs.Pages.{zeros_seen, none_fit}
use Rattle.row_redo.proofs.Tables.{file_found, other_file}
use Rattle.row_redo.proofs.Views.{grows, view_at, view_other, view_still, view_past, view_filled}
use Rattle.row_redo.proofs.Standing.{Holds, IsBehind, holds_same}
use Rattle.row_redo.proofs.OneBlock.{IsKept, IsChanged, none_shows, one_block}
use Rattle.pg_types.specs.Locators.{same_locator}
use Rattle.pg_types.proofs.Locators.{same_file}

-- one of these blocks is the table's block with this number
abbrev pub Comes : Locator → ℕ → List RecBlock → Type 0
Comes locator b [] = ⊥
Comes locator b (x ∷ xs) = ((same_locator locator x.locator ≡ true) × (x.block ≡ b)) ⊎ Comes locator b xs

-- blocks that are apart: the first does not come again
not_again :
    (locator : Locator) (x : RecBlock) (xs : List RecBlock) → list_all (λ y. not (same_block x y)) xs ≡ true
    → same_locator locator x.locator ≡ true → Comes locator x.block xs → ⊥
not_again locator x [] apart h comes = comes
not_again locator x (y ∷ ys) apart h (inl (e, f)) =
    let first = (and_parts (not (same_block x y)) (list_all (λ z. not (same_block x z)) ys) apart).0 in
    let file = subst (λ (l : Locator). same_locator l y.locator ≡ true) (same_file locator x.locator h) e in
    both_ways (same_block x y) (not-true (same_block x y) first)
    (and_from (same_locator x.locator y.locator) (x.block == y.block) file (eq-eqb x.block y.block (sym f)))
not_again locator x (y ∷ ys) apart h (inr comes) =
    not_again locator x ys (and_parts (not (same_block x y)) (list_all (λ z. not (same_block x z)) ys) apart).1 h comes

-- what follows a block that was not refused
goes_on :
    (v w : View) (r : Result View RedoFault) (f : View → Outcome) → and_then v r f ≡ (w, Ok tt)
    → (next : View) × (r ≡ Ok next) × (f next ≡ (w, Ok tt))
goes_on v w (Ok next) f e = (next, refl, e)
goes_on v w (Err fault) f e = let bad : Err fault ≡ Ok tt = ap (λ (o : Outcome). o.1) e in cc

view_left :
    (rec : Rec) (block : RecBlock) (view : View) (tag : Tag) (r : Result Seen BlockRefusal) (next : View)
    → view_by rec block view tag r ≡ Ok next → (left : Seen) × (r ≡ Ok left) × (next ≡ view_with rec block view tag left)
view_left rec block view tag (Ok left) next e = (left, refl, cc)
view_left rec block view tag (Err refusal) next e = cc

-- the steps of blocks among which this one is not
first_away :
    (rec : Rec) (locator : Locator) (count : ℕ) (vs : List Version) (b : ℕ) (x : RecBlock) (ws : List Version) (t : Bool)
    → same_locator locator x.locator ≡ t → ((same_locator locator x.locator ≡ true) × (x.block ≡ b) → ⊥)
    → SameIn b ws (with_steps ws (cond t (block_steps rec x count vs) []))
unfolding with_steps
first_away rec locator count vs b x ws true h away line =
    steps_away b x.block (block_steps rec x count vs) ws (block_in rec x count vs) (λ e. away (h, e)) line
first_away rec locator count vs b x ws false h away line = refl

rest_away :
    (rec : Rec) (locator : Locator) (count : ℕ) (vs : List Version) (b : ℕ) (xs : List RecBlock) (ws : List Version)
    → (Comes locator b xs → ⊥) → SameIn b ws (with_steps ws (steps_in rec locator count vs xs))
unfolding steps_in with_steps
rest_away rec locator count vs b [] ws away line = refl
rest_away rec locator count vs b (x ∷ xs) ws away line =
    let first : List RowStep = cond (same_locator locator x.locator) (block_steps rec x count vs) [] in
    let then : List RowStep = steps_in rec locator count vs xs in
    first_away rec locator count vs b x ws (same_locator locator x.locator) refl (λ h. away (inl h)) line
    ∙ rest_away rec locator count vs b xs (with_steps ws first) (λ h. away (inr h)) line
    ∙ ap (λ (l : List Version). version_at b line l) (sym (steps_joined first then ws))

-- a block that was filled up
behind_filled : (end : ℕ) (block : Seen) → ZerosHaveNone → 0 < end → IsBehind end block → IsBehind end (or_zero_block block)
behind_filled end absent no_items positive behind =
    subst (λ (found : Seen). IsBehind end found) (sym (zeros_seen no_items)) positive
behind_filled end bad_block no_items positive behind = behind
behind_filled end (seen_page lsn items) no_items positive behind = behind

holds_filled :
    (from : LogOrigin) (log : List Rec) (vs ws : List Version) (count more at block : ℕ) (found : Seen) → ZerosHaveNone
    → SameIn block vs ws → count ≤ more → block < more → Holds from log vs count at block found
    → Holds from log ws more at block (or_zero_block found)
holds_filled from log vs ws count more at block absent no_items same less below (end, none) =
    subst (λ (zero_block : Seen). Holds from log ws more at block zero_block) (sym (zeros_seen no_items))
    (below, omega arith, none_shows from log ws block (none_same block vs ws same none), none_fit)
holds_filled from log vs ws count more at block bad_block no_items same less below holds = absurd holds
holds_filled from log vs ws count more at block (seen_page lsn items) no_items same less below holds =
    holds_same from log vs ws count more at block (seen_page lsn items) same less (λ end. absurd (let (in_table, rest, shows, fits) = holds in omega arith)) holds

-- the tables, the record, and the versions and blocks of this table before it and after it
module _ (keep : TuplesKeepRule) (no_items : ZerosHaveNone) (from : LogOrigin) (log : List Rec) (rec : Rec)
    (known : List Locator) (locator : Locator) (table : ℕ) (here : table_of known locator ≡ Some table) (positive : 0 < rec.end.0)
    (count : ℕ) (vs last : List Version) (record_fits : RecordFits rec) where
  -- where redo of the record stands, with these blocks to come
  pub record Stage (view : View) (ws : List Version) (now : ℕ) (xs : List RecBlock) : Type 0 where
    pub holds : (b : ℕ) → Holds from log ws now rec.end.0 b (view table b)
    pub behind : (b : ℕ) → Comes locator b xs → IsBehind rec.end.0 (view table b)
    pub same : (b : ℕ) → Comes locator b xs → SameIn b vs ws

  -- the blocks are as before
  stage_still :
      (x : RecBlock) (xs : List RecBlock) (view next : View) (ws : List Version) (now : ℕ)
      → ((b : ℕ) → next table b ≡ view table b) → Stage view ws now (x ∷ xs) → Stage next ws now xs
  stage_still x xs view next ws now still stage =
      record {
        holds = λ b. subst (λ (found : Seen). Holds from log ws now rec.end.0 b found) (sym (still b)) (stage.holds b);
        behind = λ b comes. subst (λ (found : Seen). IsBehind rec.end.0 found) (sym (still b)) (stage.behind b (inr comes));
        same = λ b comes. stage.same b (inr comes);
      }

  -- a block of another table
  other_still :
      (x : RecBlock) (view next : View) (o : Option ℕ) → same_locator locator x.locator ≡ false → table_of known x.locator ≡ o
      → redone_in rec x view o ≡ Ok next → (b : ℕ) → next table b ≡ view table b
  other_still x view next None other found done b =
      let same : view ≡ next = cc in ap (λ (v : View). v table b) (sym same)
  other_still x view next (Some t) other found done b =
      let tag : Tag = record { table = t; block = x.block } in
      let (left, ok, is) = view_left rec x view tag (redone_block rec x (view t x.block)) next done in
      ap (λ (v : View). v table b) is
      ∙ view_other rec x view tag left table b (λ e. other_file known locator table here x.locator other t found (sym e))

  stage_other :
      (x : RecBlock) (xs : List RecBlock) (view next : View) (ws : List Version) (now : ℕ)
      → same_locator locator x.locator ≡ false → redone_at rec known x view ≡ Ok next → Stage view ws now (x ∷ xs)
      → Stage next ws now xs
  unfolding redone_at
  stage_other x xs view next ws now other done stage =
      stage_still x xs view next ws now (other_still x view next (table_of known x.locator) other refl done) stage

  -- a block of the table, in parts
  tag_of : RecBlock → Tag
  tag_of x = record { table = table; block = x.block }

  -- the table's blocks beside that one
  besides :
      (x : RecBlock) (view : View) (left : Seen) (now : ℕ) → is_left rec x ≡ false → (is_anew x ≡ false → x.block < now)
      → (b : ℕ) → (b ≡ x.block → ⊥)
      → ((view_with rec x view (tag_of x) left table b ≡ view table b) × (now ≤ b → max now (x.block + 1) ≤ b))
      ⊎ ((view_with rec x view (tag_of x) left table b ≡ or_zero_block (view table b)) × (b < x.block))
  unfolding tag_of
  besides x view left now not_left there b other =
      elim (cases_Bool (is_anew x)) [
        | inl anew ↦
            let more : grows rec x ≡ true = and_from (is_anew x) (not (is_left rec x)) anew (ap not not_left) in
            elim (cases_lt b x.block) [
              | inl less ↦ inr (view_filled rec x view (tag_of x) left b less more, less)
              | inr past ↦ inl (view_past rec x view (tag_of x) left table b (omega arith), λ end. omega arith)
            ]
        | inr not_anew ↦
            let below = there not_anew in
            inl (view_still rec x view (tag_of x) left table b other (and_left (is_anew x) (not (is_left rec x)) not_anew), λ end. omega arith)
      ]

  -- what holds of the table's blocks once this one was changed
  changed_holds :
      (x : RecBlock) (view : View) (left : Seen) (ws after : List Version) (now more : ℕ) → more ≡ max now (x.block + 1)
      → ((b : ℕ) → (b ≡ x.block → ⊥) → SameIn b ws after) → ((b : ℕ) → Holds from log ws now rec.end.0 b (view table b))
      → IsChanged from log rec x now after left
      → (b : ℕ) → Holds from log after more rec.end.0 b (view_with rec x view (tag_of x) left table b)
  unfolding tag_of
  changed_holds x view left ws after now more size still holds changed b =
      let next : View = view_with rec x view (tag_of x) left in
      elim (cases_eq b x.block) [
        | inl e ↦
            subst (λ (n : ℕ). Holds from log after more rec.end.0 n (next table n)) (sym e)
            (subst (λ (found : Seen). Holds from log after more rec.end.0 x.block found)
            (sym (view_at rec x view (tag_of x) left ∙ changed.is))
            (omega arith, omega arith, changed.shows, changed.fits))
        | inr other ↦
            elim (besides x view left now changed.not_left changed.there b other) [
              | inl (is, past) ↦
                  subst (λ (found : Seen). Holds from log after more rec.end.0 b found) (sym is)
                  (holds_same from log ws after now more rec.end.0 b (view table b) (still b other) (omega arith)
                  (λ end. let h = past end in omega arith) (holds b))
              | inr (is, less) ↦
                  subst (λ (found : Seen). Holds from log after more rec.end.0 b found) (sym is)
                  (holds_filled from log ws after now more rec.end.0 b (view table b) no_items (still b other) (omega arith)
                  (omega arith) (holds b))
            ]
      ]

  stage_changed :
      (x : RecBlock) (xs : List RecBlock) (view : View) (left : Seen) (ws : List Version) (now : ℕ)
      → Stage view ws now (x ∷ xs) → (Comes locator x.block xs → ⊥)
      → IsChanged from log rec x now (with_steps ws (block_steps rec x count vs)) left
      → Stage (view_with rec x view (tag_of x) left) (with_steps ws (block_steps rec x count vs)) (max now (x.block + 1)) xs
  unfolding tag_of
  stage_changed x xs view left ws now stage away changed =
      let after : List Version = with_steps ws (block_steps rec x count vs) in
      let still : (b : ℕ) → (b ≡ x.block → ⊥) → SameIn b ws after =
      λ b other. steps_away b x.block (block_steps rec x count vs) ws (block_in rec x count vs) (λ e. other (sym e)) in
      let off : (b : ℕ) → Comes locator b xs → b ≡ x.block → ⊥ =
      λ b comes e. away (subst (λ (n : ℕ). Comes locator n xs) e comes) in
      record {
        holds = changed_holds x view left ws after now (max now (x.block + 1)) refl still stage.holds changed;
        behind = λ b comes.
            elim (besides x view left now changed.not_left changed.there b (off b comes)) [
              | inl (is, past) ↦ subst (λ (found : Seen). IsBehind rec.end.0 found) (sym is) (stage.behind b (inr comes))
              | inr (is, less) ↦
                  subst (λ (found : Seen). IsBehind rec.end.0 found) (sym is)
                  (behind_filled rec.end.0 (view table b) no_items positive (stage.behind b (inr comes)))
            ];
        same = λ b comes. same_joined b vs ws after (stage.same b (inr comes)) (still b (off b comes));
      }

  -- a block that is left
  kept_still :
      (x : RecBlock) (view : View) (left : Seen) → is_left rec x ≡ true → left ≡ view table x.block → (b : ℕ)
      → view_with rec x view (tag_of x) left table b ≡ view table b
  unfolding tag_of
  kept_still x view left keeps same b =
      elim (cases_eq b x.block) [
        | inl e ↦
            subst (λ (n : ℕ). view_with rec x view (tag_of x) left table n ≡ view table n) (sym e)
            (view_at rec x view (tag_of x) left ∙ same)
        | inr other ↦ view_still rec x view (tag_of x) left table b other (and_right (is_anew x) (not (is_left rec x)) (ap not keeps))
      ]

  stage_left :
      (x : RecBlock) (xs : List RecBlock) (view : View) (left : Seen) (ws : List Version) (now : ℕ)
      → Stage view ws now (x ∷ xs) → (Comes locator x.block xs → ⊥)
      → IsKept rec x (block_steps rec x count vs) (view table x.block) left
      ⊎ IsChanged from log rec x now (with_steps ws (block_steps rec x count vs)) left
      → Stage (view_with rec x view (tag_of x) left) (with_steps ws (block_steps rec x count vs))
      (cond (not (is_left rec x)) (max now (x.block + 1)) now) xs
  unfolding with_steps
  stage_left x xs view left ws now stage away (inl kept) =
      let next : View = view_with rec x view (tag_of x) left in
      subst (λ (v : Bool). Stage next (with_steps ws (block_steps rec x count vs)) (cond (not v) (max now (x.block + 1)) now) xs) (sym kept.is_left)
      (subst (λ (l : List RowStep). Stage next (with_steps ws l) now xs) (sym kept.no_steps)
      (stage_still x xs view next ws now (kept_still x view left kept.is_left kept.same) stage))
  stage_left x xs view left ws now stage away (inr changed) =
      let next : View = view_with rec x view (tag_of x) left in
      subst (λ (v : Bool). Stage next (with_steps ws (block_steps rec x count vs)) (cond (not v) (max now (x.block + 1)) now) xs) (sym changed.not_left)
      (stage_changed x xs view left ws now stage away changed)

  -- a block of the table
  stage_own :
      (x : RecBlock) (xs : List RecBlock) (view next : View) (ws : List Version) (now : ℕ)
      → same_locator locator x.locator ≡ true → redone_at rec known x view ≡ Ok next → Stage view ws now (x ∷ xs)
      → BlockFits x → (Comes locator x.block xs → ⊥) → StepsRule from log ws (block_steps rec x count vs)
      → SameIn x.block last (with_steps ws (block_steps rec x count vs))
      → ImageRule from log last x.block (applied x.image) → AnewRule vs x
      → Stage next (with_steps ws (block_steps rec x count vs)) (cond (not (is_left rec x)) (max now (x.block + 1)) now) xs
  unfolding redone_at tag_of
  stage_own x xs view next ws now own done stage fits away rule later image anew =
      let found = file_found known locator table here x.locator own in
      let (left, ok, is) = view_left rec x view (tag_of x) (redone_block rec x (view table x.block)) next
      (sym (ap (redone_in rec x view) found) ∙ done) in
      subst (λ (v : View). Stage v (with_steps ws (block_steps rec x count vs)) (cond (not (is_left rec x)) (max now (x.block + 1)) now) xs) (sym is)
      (stage_left x xs view left ws now stage away
      (one_block keep from log rec x count now vs ws last record_fits fits (stage.same x.block (inl (own, refl))) rule anew later
      (view table x.block) left (stage.holds x.block) (stage.behind x.block (inl (own, refl))) image ok))

  stage_step :
      (x : RecBlock) (xs : List RecBlock) (view next : View) (ws : List Version) (now : ℕ) (t : Bool)
      → same_locator locator x.locator ≡ t → redone_at rec known x view ≡ Ok next → Stage view ws now (x ∷ xs)
      → BlockFits x → list_all (λ y. not (same_block x y)) xs ≡ true
      → StepsRule from log ws (cond t (block_steps rec x count vs) [])
      → last ≡ with_steps (with_steps ws (cond t (block_steps rec x count vs) [])) (steps_in rec locator count vs xs)
      → (t ≡ true → ImageRule from log last x.block (applied x.image) × AnewRule vs x)
      → Stage next (with_steps ws (cond t (block_steps rec x count vs) [])) (cond (t && not (is_left rec x)) (max now (x.block + 1)) now) xs
  unfolding with_steps
  stage_step x xs view next ws now true own done stage fits apart rule is blocks =
      let away = not_again locator x xs apart own in
      stage_own x xs view next ws now own done stage fits away rule
      (λ line.
      sym (rest_away rec locator count vs x.block xs (with_steps ws (block_steps rec x count vs)) away line
      ∙ ap (λ (l : List Version). version_at x.block line l) (sym is)))
      (blocks refl).0 (blocks refl).1
  stage_step x xs view next ws now false other done stage fits apart rule is blocks =
      stage_other x xs view next ws now other done stage

  -- all blocks of the record
  pub walk :
      (xs : List RecBlock) (view after : View) (ws : List Version) (now : ℕ) → are_apart xs ≡ true → All BlockFits xs
      → StepsRule from log ws (steps_in rec locator count vs xs) → last ≡ with_steps ws (steps_in rec locator count vs xs)
      → BlocksRule from locator log vs last xs → Stage view ws now xs → redone rec known xs view ≡ (after, Ok tt)
      → Stage after last (count_with rec locator now xs) []
  unfolding redone steps_in count_with are_apart with_steps
  walk [] view after ws now apart fits rule is blocks stage done =
      let e : view ≡ after = ap (λ (o : Outcome). o.0) done in
      subst (λ (v : View). Stage v last now []) e (subst (λ (l : List Version). Stage view l now []) (sym is) stage)
  walk (x ∷ xs) view after ws now apart fits rule is blocks stage done =
      let t : Bool = same_locator locator x.locator in
      let first : List RowStep = cond t (block_steps rec x count vs) [] in
      let then : List RowStep = steps_in rec locator count vs xs in
      let (first_apart, rest_apart) = and_parts (list_all (λ y. not (same_block x y)) xs) (are_apart xs) apart in
      let (next, ok, rest) = goes_on view after (redone_at rec known x view) (λ v. redone rec known xs v) done in
      let (first_rule, rest_rule) = rules_split from log first then ws rule in
      let Rule : RecBlock → Type 0 = λ block. same_locator locator block.locator ≡ true
      → ImageRule from log last block.block (applied block.image) × AnewRule vs block in
      let joined : last ≡ with_steps (with_steps ws first) then = is ∙ steps_joined first then ws in
      walk xs next after (with_steps ws first) (cond (t && not (is_left rec x)) (max now (x.block + 1)) now) rest_apart
      (All-tail BlockFits x xs fits) rest_rule joined (All-tail Rule x xs blocks)
      (stage_step x xs view next ws now t refl ok stage (All-head BlockFits x xs fits) first_apart first_rule joined (All-head Rule x xs blocks))
      rest
