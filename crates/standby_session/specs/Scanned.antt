-- What a scan that is run leaves: what was written, and why it ended.
use Rattle.std.specs.Prelude.{◌⊎◌, ℕ, List, [], Option, IfSome, Result, Ok, Err}
use Rattle.outside.specs.Sink.{Appends, AppendsPrefix}
use Rattle.wal_reader.specs.Kept.{AreTold}
use Rattle.standby_core.specs.Standby.{Standby}
use Rattle.session_model.specs.Answers.{Steps}
use Rattle.session_model.specs.NodeSteps.{NodeStep, bare}
use Rattle.session_model.specs.Scans.{IsFrontOfScan, IsScan}
use Rattle.standby_session.specs.declared.fault.SessionFault.{SessionFault}
use Rattle.standby_session.specs.declared.fault.SessionFault.TheVariants as fault

-- by what ended the scan: its whole text; nothing, where the archive failed; where memory ran out what was finished before;
-- where the sink failed a prefix of what was written. No source is read
abbrev pub ScanLeft : {S : Type 0} → Steps S → S → (name : List ℕ) → (before now : Option (List ℕ)) → Result ℕ SessionFault → Type 0
ScanLeft step s name before now (Ok status) = (text : List ℕ) × IsScan step s name text status × Appends before now text
ScanLeft step s name before now (Err fault.Archive) = Appends before now []
ScanLeft step s name before now (Err fault.Memory) = (text : List ℕ) × IsFrontOfScan step s name text × Appends before now text
ScanLeft step s name before now (Err fault.Sink) =
    (text : List ℕ) × (IsFrontOfScan step s name text ⊎ ((status : ℕ) × IsScan step s name text status))
    × AppendsPrefix before now text
ScanLeft step s name before now (Err fault.Source) = ⊥

-- so over a node, where the log's bytes are told
abbrev pub ScanLeftTold : Option (ℕ → Option ℕ) → (name : List ℕ) → Standby → (before now : Option (List ℕ)) → Result ℕ SessionFault → Type 0
ScanLeftTold bytes name node before now result =
    IfSome bytes (λ byte. AreTold byte node.kept → ScanLeft (NodeStep byte) (bare node) name before now result)
