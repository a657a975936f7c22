-- Blocks that a record takes away as a whole.
use Rattle.std.proofs.Common.{ap, sym, refl, ◌∙◌, ◌≡◌, ◌⊎◌, inl, inr, ℕ, Bool, true, false, ◌&&◌, ◌==◌, cond, nat_le, List, [], ◌∷◌, Option, Some, None, Ok}
use Rattle.std.proofs.Math.Path.{fun_ext}
use Rattle.pg_types.specs.declared.names.Locator.{Locator}
use Rattle.page_store.specs.Content.{Blocks, truncated}
use Rattle.page_store.specs.Seen.{Seen, absent, seen, View, view_of}
use Rattle.typed_records.specs.declared.types.Rec.{Rec}
use Rattle.typed_records.specs.declared.types.RecKind.{RecKind}
use Rattle.typed_records.specs.declared.types.RecKind.TheVariants.{Checkpoint, BackupEnd, Parameters, FullPageWrites, Images, Overwrite, Ended, Assignment, Running, Insert, Delete, Update, Confirm, Lock, MultiInsert, LockUpdated, Prune, Vacuum, Freeze, Visible, Truncate, Locks, Multixact, Other}
use Rattle.wal_bodies.specs.Typed.{is_commit}
use Rattle.heap_redo.specs.Redone.{table_of, cut, cut_file, drop_files, cut_by, redone, redone_unless, redone_record}

-- a cut table as its readers see it
seen-cut : (v : Bool) (block : Option (List ℕ)) → seen (cond v None block) ≡ cond v absent (seen block)
unfolding seen
seen-cut true block = refl
seen-cut false block = refl

pub view-truncated : (blocks : Blocks) (table count : ℕ) → view_of (truncated blocks table count) ≡ cut table (view_of blocks) count
unfolding truncated cut
view-truncated blocks table count =
    fun_ext (λ t. fun_ext (λ b. seen-cut ((t == table) && nat_le count b) (blocks t b)))

pub drops-next : (known files more : List Locator) (file : Locator) (view : View) → files ≡ file ∷ more → drop_files known more (cut_file view 0 (table_of known file)) ≡ drop_files known files view
drops-next known files more file view e = sym (ap (λ fs. drop_files known fs view) e)

pub drops-none : (known files : List Locator) (view : View) → files ≡ [] → drop_files known files view ≡ view
drops-none known files view e = ap (λ fs. drop_files known fs view) e

-- what is cut twice is cut once
cut-twice : (v : Bool) (s : Seen) → cond v absent (cond v absent s) ≡ cond v absent s
cut-twice true s = refl
cut-twice false s = refl

cut-again : (table : ℕ) (view : View) (count : ℕ) → cut table (cut table view count) count ≡ cut table view count
unfolding cut
cut-again table view count = fun_ext (λ t. fun_ext (λ b. cut-twice ((t == table) && nat_le count b) (view t b)))

file-again : (count : ℕ) (o : Option ℕ) (view : View) → cut_file (cut_file view count o) count o ≡ cut_file view count o
file-again count None view = refl
file-again count (Some table) view = cut-again table view count

-- what is dropped is cut once, whatever was cut before
hits : ℕ → Option ℕ → ℕ → ℕ → Bool
hits count None t b = false
hits count (Some table) t b = (t == table) && nat_le count b

file-is : (count : ℕ) (o : Option ℕ) (view : View) (t b : ℕ) → cut_file view count o t b ≡ cond (hits count o t b) absent (view t b)
unfolding hits cut
file-is count None view t b = refl
file-is count (Some table) view t b = refl

is_dropped : List Locator → List Locator → ℕ → ℕ → Bool
is_dropped known [] t b = false
is_dropped known (file ∷ files) t b = cond (is_dropped known files t b) true (hits 0 (table_of known file) t b)

either-cut : (v w : Bool) (s : Seen) → cond v absent (cond w absent s) ≡ cond (cond v true w) absent s
either-cut true w s = refl
either-cut false w s = refl

dropped-is : (known files : List Locator) (view : View) (t b : ℕ) → drop_files known files view t b ≡ cond (is_dropped known files t b) absent (view t b)
unfolding is_dropped
dropped-is known [] view t b = refl
dropped-is known (file ∷ files) view t b =
    dropped-is known files (cut_file view 0 (table_of known file)) t b
    ∙ ap (cond (is_dropped known files t b) absent) (file-is 0 (table_of known file) view t b)
    ∙ either-cut (is_dropped known files t b) (hits 0 (table_of known file) t b) (view t b)

drops-again : (known files : List Locator) (view : View) → drop_files known files (drop_files known files view) ≡ drop_files known files view
drops-again known files view =
    fun_ext (λ t. fun_ext (λ b. dropped-is known files (drop_files known files view) t b
    ∙ ap (cond (is_dropped known files t b) absent) (dropped-is known files view t b)
    ∙ cut-twice (is_dropped known files t b) (view t b)
    ∙ sym (dropped-is known files view t b)))

ended-again : (v : Bool) (known files : List Locator) (view : View) → (let left : View = cond v (drop_files known files view) view in cond v (drop_files known files left) left) ≡ cond v (drop_files known files view) view
ended-again true known files view = drops-again known files view
ended-again false known files view = refl

-- a record either takes nothing away, or what it leaves it leaves again
pub Cuts : Rec → RecKind → List Locator → Type 0
Cuts rec kind known =
    ((view : View) → cut_by rec kind known view ≡ None)
    ⊎ ((left : View → View) × ((view : View) → cut_by rec kind known view ≡ Some (left view)) × ((view : View) → left (left view) ≡ left view))

cuts : (rec : Rec) (kind : RecKind) (known : List Locator) → Cuts rec kind known
unfolding Cuts
cuts rec (Checkpoint redo timeline previous writes next multi member oldest active) known = inl (λ view. refl)
cuts rec (BackupEnd start) known = inl (λ view. refl)
cuts rec (Parameters connections processes senders prepared locks level) known = inl (λ view. refl)
cuts rec (FullPageWrites on) known = inl (λ view. refl)
cuts rec Images known = inl (λ view. refl)
cuts rec (Overwrite given_up time) known = inl (λ view. refl)
cuts rec (Ended time xinfo xids files) known =
    inr (λ view. cond (is_commit rec.head) (drop_files known files view) view, λ view. refl, λ view. ended-again (is_commit rec.head) known files view)
cuts rec (Assignment top xids) known = inl (λ view. refl)
cuts rec (Running tops subs overflow next oldest latest xids) known = inl (λ view. refl)
cuts rec (Insert line flags) known = inl (λ view. refl)
cuts rec (Delete xmax line bits flags) known = inl (λ view. refl)
cuts rec (Update old_xmax old_line old_bits flags new_xmax new_line) known = inl (λ view. refl)
cuts rec (Confirm line) known = inl (λ view. refl)
cuts rec (Lock xmax line bits flags) known = inl (λ view. refl)
cuts rec (MultiInsert flags lines) known = inl (λ view. refl)
cuts rec (LockUpdated xmax line bits flags) known = inl (λ view. refl)
cuts rec (Prune horizon catalogue redirected died freed) known = inl (λ view. refl)
cuts rec (Vacuum freed) known = inl (λ view. refl)
cuts rec (Freeze horizon catalogue plans) known = inl (λ view. refl)
cuts rec (Visible horizon flags) known = inl (λ view. refl)
cuts rec (Truncate blocks locator flags) known =
    inr (λ view. cut_file view blocks (table_of known locator), λ view. refl, λ view. file-again blocks (table_of known locator) view)
cuts rec (Locks entries) known = inl (λ view. refl)
cuts rec (Multixact id offset members) known = inl (λ view. refl)
cuts rec Other known = inl (λ view. refl)

module _ (rec : Rec) (known : List Locator) where
  -- a record that takes nothing away changes its blocks
  pub uncut-redone : (view : View) → cut_by rec rec.kind known view ≡ None → redone_record rec known view ≡ redone rec known rec.blocks view
  unfolding redone_record
  uncut-redone view h = ap (redone_unless rec known view) h

  pub cut-redone : (view left : View) → cut_by rec rec.kind known view ≡ Some left → redone_record rec known view ≡ (left, Ok tt)
  unfolding redone_record
  cut-redone view left h = ap (redone_unless rec known view) h

  -- it takes nothing away of any blocks
  pub uncut-all : (old new : View) → cut_by rec rec.kind known old ≡ None → cut_by rec rec.kind known new ≡ None
  unfolding Cuts
  uncut-all old new h =
      elim (cuts rec rec.kind known) [
        | inl none ↦ none new
        | inr some ↦ let bad : ⊥ = let e = sym h ∙ some.1 old in cc in absurd bad
      ]

  -- what it takes away is taken away once
  pub cut-repeated : (old left : View) → cut_by rec rec.kind known old ≡ Some left → cut_by rec rec.kind known left ≡ Some left
  unfolding Cuts
  cut-repeated old left h =
      elim (cuts rec rec.kind known) [
        | inl none ↦ let bad : ⊥ = let e = sym h ∙ none old in cc in absurd bad
        | inr some ↦
            let some_ : View → Option View = λ view. Some view in
            let same : some.0 old ≡ left = let e = sym (some.1 old) ∙ h in cc in
            some.1 left ∙ ap some_ (ap some.0 (sym same) ∙ some.2 old ∙ same)
      ]
