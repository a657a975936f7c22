-- Since when a node has a table gone is the start of the first record that drops the table's file.
use Rattle.std.proofs.Common.{◌≡◌, ℕ, ◌<◌, Bool, true, false, ◌&&◌, ◌||◌, List, [], ◌∷◌, length, get_or, Option, Some, None, option_map, if◌then◌else◌, arith, refl, sym, ap, ◌∙◌}
use Rattle.std.specs.Prelude.{unwrap_or}
use Rattle.std.specs.List.{list_any}
use Rattle.std.proofs.lemmas.List.{get_or-replicate, get_or-set_other, get_or-set_same, length-map, length-replicate, length-set}
use Rattle.std.proofs.lemmas.List.Quantifiers.{position-Some}
use Rattle.pg_types.specs.declared.names.Locator.{Locator}
use Rattle.pg_types.specs.declared.names.Lsn.{Lsn}
use Rattle.pg_types.specs.Locators.{same_locator}
use Rattle.wal_record.specs.declared.types.RecordHead.{RecordHead}
use Rattle.typed_records.specs.declared.types.Rec.{Rec}
use Rattle.typed_records.specs.declared.types.RecKind.{RecKind}
use Rattle.typed_records.specs.declared.types.RecKind.TheVariants.{Ended}
use Rattle.wal_bodies.specs.Typed.{is_commit}
use Rattle.heap_redo.specs.Redone.{table_of}
use Rattle.row_model.specs.Locks.{drops, drops_by, is_gone}
use Rattle.row_redo.proofs.Tables.{file_found, other_file}
use Rattle.table_schema.specs.Description.{Description, locator_in, locators}
use Rattle.standby_core.specs.Conflicts.{dropped_files, gone_after, mark_files, mark_gone}
use Rattle.legal_session.specs.AbstractStandby.{first_drop, gone_at}
use Rattle.legal_session.specs.Represents.{gone_along}

abbrev pub as_number : Option Lsn → Option ℕ
as_number gone = option_map (λ (lsn : Lsn). lsn.0) gone

-- gone since then, if it was before, and else from here on if it is dropped here
abbrev marked : Bool → Lsn → Option Lsn → Option Lsn
marked dropped start (Some at) = Some at
marked dropped start None = if dropped then Some start else None

module _ (known : List Locator) (file : Locator) (number : ℕ) (here : table_of known file ≡ Some number) where
  set_so : (start : Lsn) (was : Option Lsn) → Some (unwrap_or was start) ≡ marked true start was
  set_so start (Some at) = refl
  set_so start None = refl

  still_so : (start : Lsn) (was : Option Lsn) → was ≡ marked false start was
  still_so start (Some at) = refl
  still_so start None = refl

  -- a file is dropped
  other_marked :
      (start : Lsn) (gone : List (Option Lsn)) (found : Option ℕ) → (found ≡ Some number → ⊥)
      → get_or (mark_gone start found gone) number None ≡ get_or gone number None
  other_marked start gone None never = refl
  other_marked start gone (Some table) never =
      get_or-set_other gone table number (Some (unwrap_or (get_or gone table None) start)) None (λ e. never (ap (λ (n : ℕ). Some n) (sym e)))

  one_marked :
      (start : Lsn) (gone : List (Option Lsn)) (other : Locator) (t : Bool) → number < length gone → same_locator file other ≡ t
      → get_or (mark_gone start (table_of known other) gone) number None ≡ marked t start (get_or gone number None)
  one_marked start gone other true inside own =
      ap (λ (found : Option ℕ). get_or (mark_gone start found gone) number None) (file_found known file number here other own)
      ∙ get_or-set_same gone number (Some (unwrap_or (get_or gone number None) start)) None inside
      ∙ set_so start (get_or gone number None)
  one_marked start gone other false inside own =
      other_marked start gone (table_of known other) (λ found. other_file known file number here other own number found refl)
      ∙ still_so start (get_or gone number None)

  both_marked : (a b : Bool) (start : Lsn) (was : Option Lsn) → marked b start (marked a start was) ≡ marked (a || b) start was
  both_marked a b start (Some at) = refl
  both_marked true b start None = refl
  both_marked false b start None = refl

  same_length : (start : Lsn) (found : Option ℕ) (gone : List (Option Lsn)) → length (mark_gone start found gone) ≡ length gone
  same_length start None gone = refl
  same_length start (Some table) gone = length-set gone table (Some (unwrap_or (get_or gone table None) start))

  -- files are dropped
  all_marked :
      (start : Lsn) (files : List Locator) (gone : List (Option Lsn)) → number < length gone
      → get_or (mark_files known start files gone) number None ≡ marked (list_any (same_locator file) files) start (get_or gone number None)
  all_marked start [] gone inside = still_so start (get_or gone number None)
  all_marked start (other ∷ files) gone inside =
      let long = same_length start (table_of known other) gone in
      all_marked start files (mark_gone start (table_of known other) gone) (omega (arith, inside, long))
      ∙ ap (marked (list_any (same_locator file) files) start)
      (one_marked start gone other (same_locator file other) inside refl)
      ∙ both_marked (same_locator file other) (list_any (same_locator file) files) start (get_or gone number None)

length_marked :
    (known : List Locator) (start : Lsn) (files : List Locator) (gone : List (Option Lsn))
    → length (mark_files known start files gone) ≡ length gone
length_marked known start [] gone = refl
length_marked known start (file ∷ files) gone =
    length_marked known start files (mark_gone start (table_of known file) gone) ∙ of_one (table_of known file)
  where
    of_one : (found : Option ℕ) → length (mark_gone start found gone) ≡ length gone
    of_one None = refl
    of_one (Some table) = length-set gone table (Some (unwrap_or (get_or gone table None) start))

-- by the files that a record drops
dropped_is : (file : Locator) (head : RecordHead) (kind : RecKind) → list_any (same_locator file) (dropped_files head kind) ≡ drops_by file head kind
dropped_is file head (Ended time xinfo xids files) = by (is_commit head)
  where
    by : (t : Bool) → list_any (same_locator file) (if t then files else []) ≡ (t && list_any (same_locator file) files)
    by true = refl
    by false = refl
dropped_is file head kind = refl

numbered : (dropped : Bool) (start : Lsn) (was : Option Lsn) → as_number (marked dropped start was) ≡ first_drop dropped start.0 (as_number was)
numbered dropped start (Some at) = refl
numbered true start None = refl
numbered false start None = refl

module _ (tables : Description) (file : Locator) (number : ℕ) (here : table_of (locators tables) file ≡ Some number) where
  along_length : (log : List Rec) → length (gone_along tables log) ≡ length tables.tables
  unfolding gone_along gone_after
  along_length [] = length-replicate (length tables.tables) None
  along_length (rec ∷ older) =
      length_marked (locators tables) rec.start (dropped_files rec.head rec.kind) (gone_along tables older) ∙ along_length older

  inside : number < length tables.tables
  inside =
      let found = (position-Some (λ (d : Locator). same_locator d file) (locators tables) number file here).0 in
      let long = length-map tables.tables (locator_in tables.database) in
      omega (arith, found, long)

  pub gone_is : (log : List Rec) → as_number (get_or (gone_along tables log) number None) ≡ gone_at file log
  unfolding gone_along gone_after gone_at
  gone_is [] = ap as_number (get_or-replicate (length tables.tables) number None None inside)
  gone_is (rec ∷ older) =
      let long = along_length older in
      let short = inside in
      ap as_number
      (all_marked (locators tables) file number here rec.start (dropped_files rec.head rec.kind) (gone_along tables older) (omega (arith, long, short))
      ∙ ap (λ (dropped : Bool). marked dropped rec.start (get_or (gone_along tables older) number None)) (dropped_is file rec.head rec.kind))
      ∙ numbered (drops file rec) rec.start (get_or (gone_along tables older) number None)
      ∙ ap (first_drop (drops file rec) rec.start.0) (gone_is older)

-- no first record that drops a table, none
not_first : (dropped : Bool) (start : ℕ) (was : Option ℕ) → first_drop dropped start was ≡ None → (dropped ≡ false) × (was ≡ None)
not_first dropped start (Some at) e = cc
not_first true start None e = cc
not_first false start None e = (refl, refl)

pub not_gone : (file : Locator) (log : List Rec) → gone_at file log ≡ None → is_gone file log ≡ false
unfolding gone_at
not_gone file [] e = refl
not_gone file (rec ∷ older) e =
    let (kept, before) = not_first (drops file rec) rec.start.0 (gone_at file older) e in
    ap (λ (t : Bool). t || is_gone file older) kept ∙ not_gone file older before
