-- A log that stands over the files is a front of the whole one, and each of these is legal.
use Rattle.std.proofs.Common.{◌≡◌, ℕ, ◌+◌, ◌⊎◌, inl, inr, Bool, true, false, not, cond, nat_lt, List, [], ◌∷◌, Some, None, Result, Ok, refl, sym, ap, subst, if◌then◌else◌}
use Rattle.std.proofs.Math.Path.{fun_ext}
use Rattle.pg_types.specs.declared.names.Locator.{Locator}
use Rattle.pg_types.specs.Locators.{same_locator}
use Rattle.wal_reader.specs.Told.{Told}
use Rattle.typed_records.specs.declared.types.Rec.{Rec}
use Rattle.standby_core.specs.Standby.{described_in}
use Rattle.standby_model.specs.Archived.{told_by}
use Rattle.standby_model.specs.Log.{IsLog, Stands, Stop, next_of}
use Rattle.row_model.specs.LegalRows.{LegalLog}
use Rattle.row_model.specs.Origins.{TableOrigin, empty_table}
use Rattle.row_model.specs.WorkedRows.{unworked_table, worked_ids, worked_oid, worked_origin, worked_table}
use Rattle.legal_session.specs.AbstractStandby.{log_origin, oid_at, oid_with}
use Rattle.run_model.specs.Origin.{origin}
use Rattle.worked_archive.specs.WorkedArchive.{IsWorkedArchive, files, known, log}
use Rattle.worked_logs.specs.ArchiveLog.{ArchiveIsLegal}
use Rattle.row_model.specs.Prefixes.{PrefixIsLegal}
use Rattle.worked_premise.specs.WorkedSchema.{tables}
use Rattle.worked_premise.specs.Premise.{FilesAreLegal, world}
use Rattle.worked_premise.proofs.Told.{is_log}
use Rattle.wal_reader.proofs.OneResult.{not_both, one_ok}

-- the log, or it without its newest records
abbrev pub IsFront : List Rec → List Rec → Type 0
IsFront other [] = other ≡ []
IsFront other (rec ∷ older) = (other ≡ rec ∷ older) ⊎ IsFront other older

module _ (told : Told) (from : ℕ) where
  moved :
      (one other : List Rec) (found : Result Rec Stop) → other ≡ one → next_of told (described_in tables) from other ≡ found
      → next_of told (described_in tables) from one ≡ found
  moved one other found e f = subst (λ (l : List Rec). next_of told (described_in tables) from l ≡ found) e f

  is_whole : (log : List Rec) → IsFront log log
  is_whole [] = refl
  is_whole (rec ∷ older) = inl refl

  -- with the record that follows a front is one, unless it is the whole log
  one_more :
      (log other : List Rec) (rec : Rec) → Stands told (described_in tables) from log → IsFront other log
      → next_of told (described_in tables) from other ≡ Ok rec → (other ≡ log) ⊎ IsFront (rec ∷ other) log
  one_more [] other rec s front next = inl front
  one_more (newest ∷ older) other rec (found, s) (inl e) next = inl e
  one_more (newest ∷ older) other rec (found, s) (inr front) next =
      elim (one_more older other rec s front next) [
        | inl e ↦
            let same : newest ≡ rec = one_ok (next_of told (described_in tables) from older) newest rec found (moved older other (Ok rec) e next) in
            let both : ◌≡◌ {A = List Rec} (rec ∷ other) (newest ∷ older) = cc in
            inr (inl both)
        | inr longer ↦ inr (inr longer)
      ]

  pub is_front :
      (log : List Rec) (stop : Stop) → IsLog told (described_in tables) from log stop → (other : List Rec)
      → Stands told (described_in tables) from other → IsFront other log
  is_front log stop whole [] s = at_begin log
    where
      at_begin : (log : List Rec) → IsFront [] log
      at_begin [] = refl
      at_begin (rec ∷ older) = inr (at_begin older)
  is_front log stop whole (rec ∷ older) (next, s) =
      elim (one_more log older rec whole.stands (is_front log stop whole older s) next) [
        | inl e ↦ absurd (not_both (next_of told (described_in tables) from log) rec stop (moved log older (Ok rec) e next) whole.stops)
        | inr front ↦ front
      ]

legal_front :
    PrefixIsLegal → (log other : List Rec) → LegalLog worked_origin known log → IsFront other log
    → LegalLog worked_origin known other
legal_front fronts [] other legal front = subst (λ (l : List Rec). LegalLog worked_origin known l) (sym front) legal
legal_front fronts (rec ∷ older) other legal (inl e) =
    subst (λ (l : List Rec). LegalLog worked_origin known l) (sym e) legal
legal_front fronts (rec ∷ older) other legal (inr front) =
    legal_front fronts older other (fronts worked_origin known rec older legal) front

-- the oid that the description gives a file is that of the worked log
oid_found :
    (t u : Bool)
    → oid_with tables
    (cond (nat_lt (cond (not t) (1 + cond (not u) (1 + 0) 0) 0) 2) (Some (cond (not t) (1 + cond (not u) (1 + 0) 0) 0)) None)
    ≡ (if t then 16385 else if u then 16390 else 0)
oid_found true u = refl
oid_found false true = refl
oid_found false false = refl

same_oid : (table : Locator) → worked_oid table ≡ oid_at tables table
same_oid table = sym (oid_found (same_locator worked_table table) (same_locator unworked_table table))

same_tables : worked_origin.tables ≡ (log_origin world).tables
same_tables = fun_ext (λ table. ap empty_table (same_oid table))

pub files_are_legal : IsWorkedArchive → ArchiveIsLegal → PrefixIsLegal → FilesAreLegal
files_are_legal worked legal fronts other stands =
    let whole = is_log worked in
    subst (λ (at : Locator → TableOrigin). LegalLog (record { transactions = worked_ids; tables = at }) known other) same_tables
    (legal_front fronts log other legal (is_front (told_by files) origin.redo.0 log _ whole other stands))
