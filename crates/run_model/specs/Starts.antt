-- How a run begins: by its words, and by the description of tables in the base folder.
use Rattle.std.specs.Prelude.{◌≡◌, ℕ, List, [], ◌∷◌, ◌++◌, nat_eq, Option, Result, Ok, Err, if◌then◌else◌, codes}
use Rattle.std.specs.Cmp.Lexicographic.{pointwise}
use Rattle.std.specs.Fmt.{decimal}
use Rattle.table_schema.specs.declared.fault.SchemaFault.{SchemaFault}
use Rattle.table_schema.specs.declared.fault.SchemaFault.TheVariants as schema_fault
use Rattle.table_schema.specs.Description.{Description}
use Rattle.table_schema.specs.Keys.{key_text}
use Rattle.schema_file.specs.SchemaFile.{Reading, Absent, Read, AnswersFile}
use Rattle.session_model.specs.Texts.{line}

-- what the words ask: a scan of the table with this name, a session, or nothing that is understood
pub data Command : Type 0 where
  ScansTable : (name : List ℕ) → Command
  HoldsSession : Command
  NoCommand : Command

abbrev pub command_of : List (List ℕ) → Command
command_of [] = NoCommand
command_of (command ∷ []) = if pointwise nat_eq command (codes "session") then HoldsSession else NoCommand
command_of (command ∷ table ∷ []) = if pointwise nat_eq command (codes "scan") then ScansTable table else NoCommand
command_of (command ∷ table ∷ more ∷ words) = NoCommand

-- why a run ends before it begins: its words are not understood; the base folder has no description of tables; or that
-- is refused
pub data Rejection : Type 0 where
  BadWords : Rejection
  SchemaMissing : Rejection
  SchemaRefused : SchemaFault → Rejection

-- a run is rejected; or it begins with these tables, of which the one with this name is scanned, or over which a session
-- is held
pub data Start : Type 0 where
  Rejects : Rejection → Start
  Scans : Description → (name : List ℕ) → Start
  Holds : Description → Start

-- the file of the base folder that describes the tables
abbrev pub schema_name : List ℕ
schema_name = codes "schema.toml"

-- by what was read of it, where the run begins so with its tables
abbrev pub start_by : (Description → Start) → Reading → Start
start_by begins Absent = Rejects SchemaMissing
start_by begins (Read (Ok tables)) = begins tables
start_by begins (Read (Err fault)) = Rejects (SchemaRefused fault)

abbrev pub StartsOver : (List ℕ → Option (List ℕ)) → (Description → Start) → Start → Type 0
StartsOver base begins start =
    (reading : Reading) × AnswersFile (base schema_name) reading × (start ≡ start_by begins reading)

abbrev pub StartsWith : Command → (List ℕ → Option (List ℕ)) → Start → Type 0
StartsWith NoCommand base start = start ≡ Rejects BadWords
StartsWith (ScansTable name) base start = StartsOver base (λ tables. Scans tables name) start
StartsWith HoldsSession base start = StartsOver base Holds start

-- how a run with these words begins, over the base folder's files
abbrev pub Starts : List (List ℕ) → (List ℕ → Option (List ℕ)) → Start → Type 0
Starts words base start = StartsWith (command_of words) base start

-- why a description is refused; that memory is wanting is never why
abbrev pub schema_text : SchemaFault → List ℕ
schema_text schema_fault.TooLong = codes "long"
schema_text schema_fault.Toml = codes "toml"
schema_text (schema_fault.Field table key) = codes "field " ++ decimal table ++ codes " " ++ key_text key
schema_text (schema_fault.Twice name) = codes "twice " ++ name
schema_text schema_fault.Many = codes "many"
schema_text schema_fault.Memory = codes "memory"

-- the text of a rejection, and its exit status
unfoldable pub rejection_text : Rejection → List ℕ
rejection_text BadWords = line (codes "fault words")
rejection_text SchemaMissing = line (codes "fault base missing schema.toml")
rejection_text (SchemaRefused fault) = line (codes "fault schema " ++ schema_text fault)

abbrev pub rejection_status : Rejection → ℕ
rejection_status BadWords = 2
rejection_status SchemaMissing = 4
rejection_status (SchemaRefused fault) = 3
