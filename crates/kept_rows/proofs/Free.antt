-- What a record that does not conflict with a scan leaves alone: it takes no lock of the scan's table, and removes and
-- freezes there only below the scan's least live id.
use Rattle.std.proofs.Common.{◌≡◌, ◌⊎◌, ℕ, ◌<◌, ◌≤◌, Bool, true, false, not, ◌&&◌, ◌==◌, cond, nat_le, List, [], ◌∷◌, ◌++◌, map, filter, All, Option, Some, is_some, if◌then◌else◌, arith, refl, sym, ap, inl, inr}
use Rattle.std.specs.List.{list_any}
use Rattle.std.proofs.lemmas.Bool.{and_cases, both_ways, eq-eqb, eqb-true, leb-false, or_left, or_right, true_from_ne_false}
use Rattle.std.proofs.lemmas.List.Elements.{All-head, All-tail, All-cons, All-nil}
use Rattle.pg_types.specs.declared.names.Locator.{Locator}
use Rattle.pg_types.specs.Locators.{same_locator}
use Rattle.pg_types.specs.declared.names.Lsn.{Lsn}
use Rattle.record_fields.specs.declared.entries.LockEntry.{LockEntry}
use Rattle.typed_records.specs.declared.types.RecBlock.{RecBlock}
use Rattle.typed_records.specs.declared.types.Rec.{Rec}
use Rattle.typed_records.specs.declared.types.RecKind.{RecKind}
use Rattle.typed_records.specs.declared.types.RecKind.TheVariants.{Prune, Freeze, Visible}
use Rattle.row_model.specs.Versions.{Version}
use Rattle.row_model.specs.Origins.{LogOrigin}
use Rattle.row_model.specs.RowSteps.{block_steps, steps_in}
use Rattle.row_model.specs.LegalSteps.{horizon_of}
use Rattle.row_model.specs.Conflicts.{AreFree, conflicts}
use Rattle.recovery_conflict.specs.declared.locks.Cause.{Cause}
use Rattle.recovery_conflict.specs.declared.locks.Cause.TheVariants.{Horizon, Lock}
use Rattle.recovery_conflict.specs.Causes.{cause_of, first_lock, horizon_of as conflict_horizon, is_of_database, reaches}
use Rattle.recovery_conflict.specs.Held.{entries_of, is_of}
use Rattle.pg_types.proofs.Locators.{same_file}
use Rattle.kept_rows.proofs.Unlocked.{TakesNone}

-- no entry of a record that does not conflict is one of the relation
first_split :
    (start : Lsn) (entry : LockEntry) (t : Bool) (found : Option Cause) (rest : List LockEntry) → (is_some found ≡ false → rest ≡ [])
    → is_some (if t then Some (Lock start entry.xid) else found) ≡ false → (if t then entry ∷ rest else rest) ≡ []
first_split start entry true found rest later h = cc
first_split start entry false found rest later h = later h

first_none :
    (start : Lsn) (database relation : ℕ) (entries : List LockEntry) → is_some (first_lock start database relation entries) ≡ false
    → filter (is_of database relation) entries ≡ []
first_none start database relation [] h = refl
first_none start database relation (entry ∷ entries) h =
    first_split start entry (is_of database relation entry) (first_lock start database relation entries)
    (filter (is_of database relation) entries) (first_none start database relation entries) h

cause_parts :
    (t : Bool) (cause : Cause) (found : Option Cause) → is_some (if t then Some cause else found) ≡ false
    → (t ≡ false) × (is_some found ≡ false)
cause_parts true cause found h = cc
cause_parts false cause found h = (refl, h)

not_caused :
    (o : LogOrigin) (table : Locator) (xmin : ℕ) (rec : Rec) → conflicts o table xmin rec ≡ false
    → (reaches table.db xmin rec ≡ false)
    × (is_some (first_lock rec.start table.db (o.tables table).oid (entries_of rec.kind)) ≡ false)
unfolding cause_of
not_caused o table xmin rec free =
    cause_parts (reaches table.db xmin rec) (Horizon rec.start (conflict_horizon rec.kind))
    (first_lock rec.start table.db (o.tables table).oid (entries_of rec.kind)) free

takes_none : (o : LogOrigin) (table : Locator) (xmin : ℕ) (rec : Rec) → conflicts o table xmin rec ≡ false → TakesNone o table rec
takes_none o table xmin rec free =
    ap (map (λ (entry : LockEntry). entry.xid.0))
    (first_none rec.start table.db (o.tables table).oid (entries_of rec.kind) (not_caused o table xmin rec free).1)

pub all_take_none : (o : LogOrigin) (table : Locator) (xmin : ℕ) (later : List Rec) → AreFree o table xmin later → All (TakesNone o table) later
all_take_none o table xmin [] free = All-nil (TakesNone o table)
all_take_none o table xmin (rec ∷ later) free =
    let P : Rec → Type 0 = λ r. conflicts o table xmin r ≡ false in
    All-cons (TakesNone o table) rec later (takes_none o table xmin rec (All-head P rec later free))
    (all_take_none o table xmin later (All-tail P rec later free))

-- the horizon of a record's steps is one of those that conflict, or none
horizon_within : (kind : RecKind) → horizon_of kind ≤ (conflict_horizon kind).0
horizon_within (Prune horizon catalogue redirected died freed) = omega arith
horizon_within (Freeze horizon catalogue plans) = omega arith
horizon_within (Visible horizon flags) = omega arith
horizon_within _ = omega arith

not_reached : (horizon xmin : ℕ) → 3 ≤ xmin → (not (horizon == 0) && nat_le xmin horizon) ≡ false → horizon < xmin
not_reached horizon xmin normal h =
    elim (and_cases (not (horizon == 0)) (nat_le xmin horizon) h) [
      | inl none ↦
          let zero_is : horizon ≡ 0 = eqb-true horizon 0 (true_from_ne_false (horizon == 0) (λ e. both_ways (not (horizon == 0)) none (ap not e))) in
          omega arith
      | inr less ↦ leb-false xmin horizon less
    ]

-- a record with a block of the scan's database that does not conflict has its horizon below the least live id
pub horizon_below :
    (o : LogOrigin) (table : Locator) (xmin : ℕ) (rec : Rec) → 3 ≤ xmin → conflicts o table xmin rec ≡ false
    → list_any (is_of_database table.db) rec.blocks ≡ true → horizon_of rec.kind < xmin
horizon_below o table xmin rec normal free some =
    let unreached = (not_caused o table xmin rec free).0 in
    let horizon : ℕ = (conflict_horizon rec.kind).0 in
    let within = horizon_within rec.kind in
    let less : horizon < xmin = elim (and_cases (not (horizon == 0) && nat_le xmin horizon) (list_any (is_of_database table.db) rec.blocks) unreached) [
      | inl e ↦ not_reached horizon xmin normal e
      | inr e ↦ absurd (both_ways (list_any (is_of_database table.db) rec.blocks) e some)
    ] in
    omega arith

-- a record makes steps in a table only where it has a block of its database
of_database : (table : Locator) (block : RecBlock) → same_locator table block.locator ≡ true → is_of_database table.db block ≡ true
of_database table block h =
    or_left (block.locator.db == table.db) (block.locator.db == 0)
    (eq-eqb block.locator.db table.db (ap (λ (l : Locator). l.db) (sym (same_file table block.locator h))))

abbrev StepsSomewhere : Rec → Locator → ℕ → List Version → List RecBlock → Type 0
StepsSomewhere rec table count vs blocks =
    (steps_in rec table count vs blocks ≡ []) ⊎ (list_any (is_of_database table.db) blocks ≡ true)

somewhere_here :
    (rec : Rec) (table : Locator) (count : ℕ) (vs : List Version) (block : RecBlock) (blocks : List RecBlock) (t : Bool)
    → same_locator table block.locator ≡ t → StepsSomewhere rec table count vs blocks
    → (cond t (block_steps rec block count vs) [] ++ steps_in rec table count vs blocks ≡ [])
    ⊎ (list_any (is_of_database table.db) (block ∷ blocks) ≡ true)
somewhere_here rec table count vs block blocks true h rest =
    inr (or_left (is_of_database table.db block) (list_any (is_of_database table.db) blocks) (of_database table block h))
somewhere_here rec table count vs block blocks false h (inl none) = inl none
somewhere_here rec table count vs block blocks false h (inr some) =
    inr (or_right (is_of_database table.db block) (list_any (is_of_database table.db) blocks) some)

pub steps_somewhere : (rec : Rec) (table : Locator) (count : ℕ) (vs : List Version) (blocks : List RecBlock) → StepsSomewhere rec table count vs blocks
unfolding steps_in
steps_somewhere rec table count vs [] = inl refl
steps_somewhere rec table count vs (block ∷ blocks) =
    somewhere_here rec table count vs block blocks (same_locator table block.locator) refl (steps_somewhere rec table count vs blocks)
