-- What a record that takes blocks away leaves of a table: a truncation of this table or another, and a commit that drops
-- others.
use Rattle.std.proofs.Common.{◌≡◌, ◌⊎◌, inl, inr, ℕ, ◌<◌, ◌≤◌, min, Bool, true, false, ◌&&◌, ◌==◌, cond, nat_le, List, [], ◌∷◌, All, Option, Some, None, arith, refl, sym, ap, ◌∙◌, subst}
use Rattle.std.specs.List.{list_any}
use Rattle.std.proofs.lemmas.Bool.{and_left, and_right, and_from, and_parts, cases_lt, eq-eqb, eqb-true, le-leb, lt-leb, ne_eqb, or_parts}
use Rattle.std.proofs.lemmas.List.Elements.{All-head, All-tail}
use Rattle.pg_types.specs.declared.names.Locator.{Locator}
use Rattle.typed_records.specs.declared.types.Rec.{Rec}
use Rattle.typed_records.specs.declared.types.RecKind.{RecKind}
use Rattle.typed_records.specs.declared.types.RecKind.TheVariants.{Checkpoint, BackupEnd, Parameters, FullPageWrites, Images, Overwrite, Ended, Assignment, Running, Insert, Delete, Update, Confirm, Lock, MultiInsert, LockUpdated, Prune, Vacuum, Freeze, Visible, Truncate, Locks, Multixact, Other}
use Rattle.pg_types.specs.Locators.{same_locator}
use Rattle.wal_bodies.specs.Typed.{ids_of, is_commit}
use Rattle.page_store.specs.Seen.{Seen, absent, bad_block, seen_page, View}
use Rattle.heap_redo.specs.Redone.{cut, cut_by, cut_file, drop_files, table_of}
use Rattle.row_model.specs.Origins.{LogOrigin}
use Rattle.row_model.specs.Versions.{Version, is_at, version_at}
use Rattle.row_model.specs.Locks.{drops_by}
use Rattle.row_model.specs.RowSteps.{cut_of, cut_to}
use Rattle.row_model.specs.LegalRows.{CutRule}
use Rattle.row_model.specs.Shown.{HasNone}
use Rattle.row_redo.proofs.Places.{found_there}
use Rattle.row_redo.proofs.Standing.{Holds}
use Rattle.row_redo.proofs.Tables.{file_found, other_file}

-- a version that is found is one of the list
first_all : (P : Version → Type 0) (w v : Version) (x : Option Version) (t : Bool) → P w → (x ≡ Some v → P v) → cond t (Some w) x ≡ Some v → P v
first_all P w v x true first rest e = let same : w ≡ v = cc in subst P same first
first_all P w v x false first rest e = rest e

found_all : (P : Version → Type 0) (block line : ℕ) (vs : List Version) (v : Version) → All P vs → version_at block line vs ≡ Some v → P v
unfolding version_at
found_all P block line [] v all e = cc
found_all P block line (w ∷ vs) v all e =
    first_all P w v (version_at block line vs) (is_at block line w) (All-head P w vs all)
    (found_all P block line vs v (All-tail P w vs all)) e

-- past a cut no version stands
none_past : (blocks : ℕ) (vs : List Version) → CutRule (Some blocks) vs → (block : ℕ) → blocks ≤ block → HasNone vs block
none_past blocks vs rule block past line = by_found (version_at block line vs) refl
  where
    by_found : (o : Option Version) → version_at block line vs ≡ o → o ≡ None
    by_found None e = refl
    by_found (Some v) e =
        let (holds, at) = and_parts v.holds ((v.block == block) && (v.line == line)) (found_there block line vs v e) in
        let here : v.block ≡ block = eqb-true v.block block (and_parts (v.block == block) (v.line == line) at).0 in
        let below = found_all (λ (w : Version). w.holds ≡ true → w.block < blocks) block line vs v rule e holds in
        absurd (omega (arith, here, below, past))

-- the blocks of the cut table: those below stay, the others are absent
cut_below : (table blocks : ℕ) (view : View) (b : ℕ) → b < blocks → cut table view blocks table b ≡ view table b
unfolding cut
cut_below table blocks view b less =
    ap (λ (t : Bool). cond t absent (view table b)) (and_right (table == table) (nat_le blocks b) (lt-leb blocks b less))

cut_past : (table blocks : ℕ) (view : View) (b : ℕ) → blocks ≤ b → cut table view blocks table b ≡ absent
unfolding cut
cut_past table blocks view b past =
    ap (λ (t : Bool). cond t absent (view table b))
    (and_from (table == table) (nat_le blocks b) (eq-eqb table table refl) (le-leb blocks b past))

-- those of another table stay
cut_other : (other blocks : ℕ) (view : View) (table b : ℕ) → (other ≡ table → ⊥) → cut other view blocks table b ≡ view table b
unfolding cut
cut_other other blocks view table b away =
    ap (λ (t : Bool). cond t absent (view table b)) (and_left (table == other) (nat_le blocks b) (ne_eqb table other (λ e. away (sym e))))

holds_cut :
    (from : LogOrigin) (log : List Rec) (vs : List Version) (count at blocks block : ℕ) (seen : Seen) → block < blocks
    → Holds from log vs count at block seen → Holds from log vs (min blocks count) at block seen
holds_cut from log vs count at blocks block absent less (past, none) = (omega arith, none)
holds_cut from log vs count at blocks block bad_block less h = h
holds_cut from log vs count at blocks block (seen_page lsn items) less (in_table, before, shows, fits) =
    (omega arith, before, shows, fits)

-- the described tables, and this one among them
module _ (known : List Locator) (locator : Locator) (table : ℕ) (here : table_of known locator ≡ Some table) where
  -- a file that is another's
  file_kept :
      (file : Locator) (blocks : ℕ) (view : View) (o : Option ℕ) → same_locator locator file ≡ false → table_of known file ≡ o → (b : ℕ)
      → cut_file view blocks o table b ≡ view table b
  file_kept file blocks view None other found b = refl
  file_kept file blocks view (Some t) other found b = cut_other t blocks view table b (other_file known locator table here file other t found)

  -- files of which none is the table's
  files_kept :
      (files : List Locator) (view : View) → list_any (same_locator locator) files ≡ false → (b : ℕ)
      → drop_files known files view table b ≡ view table b
  files_kept [] view others b = refl
  files_kept (file ∷ files) view others b =
      let (first, rest) = or_parts (same_locator locator file) (list_any (same_locator locator) files) others in
      files_kept files (cut_file view 0 (table_of known file)) rest b ∙ file_kept file 0 view (table_of known file) first refl b

  -- what holds of the blocks of a table once a file was cut
  cut_holds :
      (from : LogOrigin) (log : List Rec) (vs : List Version) (count at blocks : ℕ) (file : Locator) (view : View) (t : Bool)
      → same_locator locator file ≡ t → CutRule (cond t (Some blocks) None) vs
      → ((b : ℕ) → Holds from log vs count at b (view table b)) → (b : ℕ)
      → Holds from log vs (cut_to (cond t (Some blocks) None) count) at b (cut_file view blocks (table_of known file) table b)
  cut_holds from log vs count at blocks file view true own rule holds b =
      let found : table_of known file ≡ Some table = file_found known locator table here file own in
      let Now : Seen → Type 0 = λ seen. Holds from log vs (min blocks count) at b seen in
      subst (λ (o : Option ℕ). Now (cut_file view blocks o table b)) (sym found)
      (elim (cases_lt b blocks) [
        | inl less ↦ subst Now (sym (cut_below table blocks view b less)) (holds_cut from log vs count at blocks b (view table b) less (holds b))
        | inr past ↦ subst Now (sym (cut_past table blocks view b past)) (omega arith, none_past blocks vs rule b past)
      ])
  cut_holds from log vs count at blocks file view false other rule holds b =
      subst (λ (seen : Seen). Holds from log vs count at b seen) (sym (file_kept file blocks view (table_of known file) other refl b)) (holds b)

  dropped_kept :
      (files : List Locator) (view : View) (t : Bool) → (t && list_any (same_locator locator) files) ≡ false → (b : ℕ)
      → (cond t (drop_files known files view) view) table b ≡ view table b
  dropped_kept files view true others b = files_kept files view others b
  dropped_kept files view false others b = refl

  -- a record that takes no blocks away, and cuts no table
  pub record IsUncut (rec : Rec) (view : View) (kind : RecKind) : Type 0 where
    pub keeps : cut_by rec kind known view ≡ None
    pub count : (n : ℕ) → cut_to (cut_of locator kind) n ≡ n

  -- one that does: it names no blocks, and what held of the table's blocks holds of those that it leaves
  pub record IsCut (from : LogOrigin) (log : List Rec) (rec : Rec) (view : View) (kind : RecKind) : Type 0 where
    pub left : View
    pub cuts : cut_by rec kind known view ≡ Some left
    pub blockless : ids_of kind ≡ 0
    pub holds :
        (vs : List Version) (count at : ℕ) → CutRule (cut_of locator kind) vs → ((b : ℕ) → Holds from log vs count at b (view table b)) → (b : ℕ)
        → Holds from log vs (cut_to (cut_of locator kind) count) at b (left table b)

  uncut : (rec : Rec) (view : View) (kind : RecKind) → cut_by rec kind known view ≡ None → ((n : ℕ) → cut_to (cut_of locator kind) n ≡ n) → IsUncut rec view kind
  uncut rec view kind keeps count = record { keeps = keeps; count = count }

  pub by_cut :
      (from : LogOrigin) (log : List Rec) (rec : Rec) (view : View) (kind : RecKind) → drops_by locator rec.head kind ≡ false
      → IsUncut rec view kind ⊎ IsCut from log rec view kind
  unfolding ids_of
  by_cut from log rec view (Truncate blocks file flags) kept =
      inr (record {
        left = cut_file view blocks (table_of known file);
        cuts = refl;
        blockless = refl;
        holds = λ vs count at rule holds b. cut_holds from log vs count at blocks file view (same_locator locator file) refl rule holds b;
      })
  by_cut from log rec view (Ended time xinfo xids files) kept =
      inr (record {
        left = cond (is_commit rec.head) (drop_files known files view) view;
        cuts = refl;
        blockless = refl;
        holds = λ vs count at rule holds b.
            subst (λ (seen : Seen). Holds from log vs count at b seen)
            (sym (dropped_kept files view (is_commit rec.head) kept b)) (holds b);
      })
  by_cut from log rec view (Checkpoint redo timeline previous writes next multi member oldest active) kept = inl (uncut rec view _ refl (λ n. refl))
  by_cut from log rec view (BackupEnd start) kept = inl (uncut rec view _ refl (λ n. refl))
  by_cut from log rec view (Parameters connections processes senders prepared locks level) kept = inl (uncut rec view _ refl (λ n. refl))
  by_cut from log rec view (FullPageWrites on) kept = inl (uncut rec view _ refl (λ n. refl))
  by_cut from log rec view Images kept = inl (uncut rec view _ refl (λ n. refl))
  by_cut from log rec view (Overwrite given_up time) kept = inl (uncut rec view _ refl (λ n. refl))
  by_cut from log rec view (Assignment top xids) kept = inl (uncut rec view _ refl (λ n. refl))
  by_cut from log rec view (Running tops subs overflow next oldest latest xids) kept = inl (uncut rec view _ refl (λ n. refl))
  by_cut from log rec view (Insert line flags) kept = inl (uncut rec view _ refl (λ n. refl))
  by_cut from log rec view (Delete xmax line bits flags) kept = inl (uncut rec view _ refl (λ n. refl))
  by_cut from log rec view (Update old_xmax old_line old_bits flags new_xmax new_line) kept = inl (uncut rec view _ refl (λ n. refl))
  by_cut from log rec view (Confirm line) kept = inl (uncut rec view _ refl (λ n. refl))
  by_cut from log rec view (Lock xmax line bits flags) kept = inl (uncut rec view _ refl (λ n. refl))
  by_cut from log rec view (MultiInsert flags lines) kept = inl (uncut rec view _ refl (λ n. refl))
  by_cut from log rec view (LockUpdated xmax line bits flags) kept = inl (uncut rec view _ refl (λ n. refl))
  by_cut from log rec view (Prune horizon catalogue redirected died freed) kept = inl (uncut rec view _ refl (λ n. refl))
  by_cut from log rec view (Vacuum freed) kept = inl (uncut rec view _ refl (λ n. refl))
  by_cut from log rec view (Freeze horizon catalogue plans) kept = inl (uncut rec view _ refl (λ n. refl))
  by_cut from log rec view (Visible horizon flags) kept = inl (uncut rec view _ refl (λ n. refl))
  by_cut from log rec view (Locks entries) kept = inl (uncut rec view _ refl (λ n. refl))
  by_cut from log rec view (Multixact id offset members) kept = inl (uncut rec view _ refl (λ n. refl))
  by_cut from log rec view Other kept = inl (uncut rec view _ refl (λ n. refl))
