-- A run over a legal log is one by the steps of the abstract standby.
use Rattle.std.proofs.Common.{◌≡◌, ◌⊎◌, ℕ, inl, inr, lit<, List, Option, Some, None, IfSome, Result, Ok, Err, refl, sym, ap, subst, ◌∙◌}
use Rattle.outside.specs.Archive.{HaveBytes}
use Rattle.table_schema.specs.Description.{Description}
use Rattle.table_schema.specs.Reading as schema
use Rattle.table_schema.specs.declared.fault.SchemaFault.{SchemaFault}
use Rattle.schema_file.specs.SchemaFile.{Reading, Absent, Read, AnswersFile}
use Rattle.standby_core.specs.Standby.{Standby}
use Rattle.standby_model.specs.Archived.{told_by}
use Rattle.session_model.specs.Answers.{Steps}
use Rattle.session_model.specs.Laws.{Follows, ScanFollows, Simulates}
use Rattle.session_model.specs.NodeSteps.{NodeStep}
use Rattle.session_model.specs.Scans.{IsFrontOfScan, IsScan}
use Rattle.session_model.proofs.Follows.{sessions_follow}
use Rattle.session_model.proofs.ScansFollow.{scans_follow}
use Rattle.legal_session.specs.AbstractStandby.{AbstractStandby, IsLegal, Step, World, life_begins}
use Rattle.legal_session.specs.Represents.{BeginsSo, NodeSimulates, Represents}
use Rattle.legal_session.proofs.Fitting.{files_tell_bytes}
use Rattle.run_model.specs.Leaves.{Outside, RunLeaves, ScanLeaves, SessionLeaves}
use Rattle.run_model.specs.Origin.{origin, start}
use Rattle.run_model.specs.Starts.{Command, ScansTable, HoldsSession, NoCommand, Rejection, SchemaMissing, SchemaRefused, Start, Rejects, Scans, Holds, Starts, StartsOver, StartsWith, command_of, schema_name, start_by}
use Rattle.standby_cli.specs.LegalRun.{IsLegalRun, world}

-- what a scan or a session by one rule leaves, it leaves by another that follows
module _ {S T : Type 0} (step : Steps S) (s : S) (other : Steps T) (t : T) where
  scan_leaves : ScanFollows step s other t → (name : List ℕ) (status : ℕ) (o : Outside) → ScanLeaves step s name status o → ScanLeaves other t name status o
  scan_leaves f name status o leaves = record {
    done = λ is. let (text, scan, writes) = leaves.done is in (text, f.whole name text status scan, writes);
    archive = leaves.archive;
    memory = λ e. let (text, front, writes) = leaves.memory e in (text, f.front name text front, writes);
    sink = λ e. let (rose, (text, either, writes)) = leaves.sink e in (rose, (text, both text either, writes));
  }
    where
      both :
          (text : List ℕ) → IsFrontOfScan step s name text ⊎ ((end : ℕ) × IsScan step s name text end)
          → IsFrontOfScan other t name text ⊎ ((end : ℕ) × IsScan other t name text end)
      both text (inl front) = inl (f.front name text front)
      both text (inr (end, scan)) = inr (end, f.whole name text end scan)

  session_leaves : Follows step s other t → (source : List ℕ) (status : ℕ) (o : Outside) → SessionLeaves step s source status o → SessionLeaves other t source status o
  session_leaves f source status o leaves = record {
    done = λ is. let (text, whole, writes) = leaves.done is in (text, f.whole source text status whole, writes);
    archive = λ e. let (text, front, writes) = leaves.archive e in (text, f.front source text front, writes);
    memory = λ e. let (text, front, writes) = leaves.memory e in (text, f.front source text front, writes);
    stream = λ e. elim (leaves.stream e) [
      | inl (rose, (text, front, writes)) ↦ inl (rose, (text, f.front source text front, writes))
      | inr (rose, (text, (taken, rest, parts, is), writes)) ↦ inr (rose, (text, (taken, rest, parts, f.taken taken text is), writes))
    ];
  }

-- the tables of a run are those of a text
module _ (tables : Description) where
  read_of :
      (text : List ℕ) (answer : Result Description SchemaFault) (begins : Description → Start) → schema.Answers text answer
      → ((found : Description) → begins tables ≡ begins found → found ≡ tables)
      → ((fault : SchemaFault) → begins tables ≡ Rejects (SchemaRefused fault) → ⊥)
      → begins tables ≡ start_by begins (Read answer) → schema.Answers text (Ok tables)
  read_of text (Ok found) begins is one never e = subst (λ (t : Description). schema.Answers text (Ok t)) (one found e) is
  read_of text (Err fault) begins is one never e = absurd (never fault e)

  text_of :
      (base : List ℕ → Option (List ℕ)) (begins : Description → Start)
      → ((found : Description) → begins tables ≡ begins found → found ≡ tables)
      → ((found : Rejection) → begins tables ≡ Rejects found → ⊥)
      → StartsOver base begins (begins tables) → (text : List ℕ) × schema.Answers text (Ok tables)
  text_of base begins one never (reading, is, e) = by (base schema_name) reading is e
    where
      not_absent : (reading : Reading) → reading ≡ Absent → begins tables ≡ start_by begins reading → ⊥
      not_absent reading is e = never SchemaMissing (e ∙ ap (start_by begins) is)

      by :
          (file : Option (List ℕ)) (reading : Reading) → AnswersFile file reading → begins tables ≡ start_by begins reading
          → (text : List ℕ) × schema.Answers text (Ok tables)
      by None reading is e = absurd (not_absent reading is e)
      by (Some text) reading (answer, is, same) e =
          (text, read_of text answer begins is one (λ fault e. never (SchemaRefused fault) e) (e ∙ ap (start_by begins) same))

tables_of_scan : (name : List ℕ) (a b : Description) → Scans a name ≡ Scans b name → b ≡ a
tables_of_scan name a b e = cc

tables_held : (a b : Description) → Holds a ≡ Holds b → b ≡ a
tables_held a b e = cc

pub scans_no_rejection : (tables : Description) (name : List ℕ) (rejection : Rejection) → Scans tables name ≡ Rejects rejection → ⊥
scans_no_rejection tables name rejection e = cc

pub holds_no_rejection : (tables : Description) (rejection : Rejection) → Holds tables ≡ Rejects rejection → ⊥
holds_no_rejection tables rejection e = cc

scanned_text :
    (command : Command) (base : List ℕ → Option (List ℕ)) (tables : Description) (name : List ℕ)
    → StartsWith command base (Scans tables name) → (text : List ℕ) × schema.Answers text (Ok tables)
scanned_text NoCommand base tables name e = cc
scanned_text HoldsSession base tables name (reading, is, e) = absurd (not_held reading e)
  where
    not_held : (reading : Reading) → Scans tables name ≡ start_by Holds reading → ⊥
    not_held Absent e = cc
    not_held (Read (Ok found)) e = cc
    not_held (Read (Err fault)) e = cc
scanned_text (ScansTable other) base tables name (reading, is, e) =
    text_of tables base (λ (found : Description). Scans found other) (tables_of_scan other tables)
    (scans_no_rejection tables other) (reading, is, moved reading e)
  where
    moved :
        (reading : Reading) → Scans tables name ≡ start_by (λ (found : Description). Scans found other) reading
        → Scans tables other ≡ start_by (λ (found : Description). Scans found other) reading
    moved Absent e = cc
    moved (Read (Ok found)) e = cc
    moved (Read (Err fault)) e = cc

held_text :
    (command : Command) (base : List ℕ → Option (List ℕ)) (tables : Description) → StartsWith command base (Holds tables)
    → (text : List ℕ) × schema.Answers text (Ok tables)
held_text NoCommand base tables e = cc
held_text (ScansTable other) base tables (reading, is, e) = absurd (not_scanned reading e)
  where
    not_scanned : (reading : Reading) → Holds tables ≡ start_by (λ (found : Description). Scans found other) reading → ⊥
    not_scanned Absent e = cc
    not_scanned (Read (Ok found)) e = cc
    not_scanned (Read (Err fault)) e = cc
held_text HoldsSession base tables starts = text_of tables base Holds (tables_held tables) (holds_no_rejection tables) starts

module _ (simulates : NodeSimulates) (begins_so : BeginsSo) (top : ℕ → ℕ) (files : List ℕ → Option (List ℕ)) (have : HaveBytes (Some files)) where
  stand : (tables : Description) → Represents (world top files tables) origin.redo.0 (start tables) (life_begins origin.redo)
  stand tables = begins_so tables origin (told_by files).byte top

  simulated :
      (tables : Description) (text : List ℕ) → schema.Answers text (Ok tables) → IsLegal (world top files tables) origin.redo.0
      → Simulates (Represents (world top files tables) origin.redo.0) (NodeStep (told_by files).byte) (Step (world top files tables))
  simulated tables text is legal =
      simulates (world top files tables) origin.redo.0 text (lit< tt) (files_tell_bytes files have) is legal

  pub legal_run :
      (words : List (List ℕ)) (base : List ℕ → Option (List ℕ)) (source : Option (List ℕ)) (begins : Start) (status : ℕ) (o : Outside)
      → Starts words base begins → IsLegalRun top files begins
      → RunLeaves (λ tables. NodeStep (told_by files).byte) start source begins status o
      → RunLeaves (λ tables. Step (world top files tables)) (λ tables. life_begins origin.redo) source begins status o
  legal_run words base source (Rejects rejection) status o starts legal leaves = tt
  legal_run words base source (Scans tables name) status o starts legal leaves =
      let (text, is) = scanned_text (command_of words) base tables name starts in
      let w = world top files tables in
      scan_leaves (NodeStep (told_by files).byte) (start tables) (Step w) (life_begins origin.redo)
      (scans_follow (Represents w origin.redo.0) (NodeStep (told_by files).byte) (Step w) (simulated tables text is legal) (start tables) (life_begins origin.redo) (stand tables))
      name status o leaves
  legal_run words base None (Holds tables) status o starts legal leaves = tt
  legal_run words base (Some lines) (Holds tables) status o starts legal leaves =
      let (text, is) = held_text (command_of words) base tables starts in
      let w = world top files tables in
      session_leaves (NodeStep (told_by files).byte) (start tables) (Step w) (life_begins origin.redo)
      (sessions_follow (Represents w origin.redo.0) (NodeStep (told_by files).byte) (Step w) (simulated tables text is legal) (start tables) (life_begins origin.redo) (stand tables))
      lines status o leaves
