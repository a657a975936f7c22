-- What a run leaves, where the base folder and the log's bytes are told.
use Rattle.std.specs.Prelude.{ℕ, List, Option, IfSome}
use Rattle.session_model.specs.NodeSteps.{NodeStep}
use Rattle.legal_session.specs.AbstractStandby.{Step, life_begins}
use Rattle.run_model.specs.Leaves.{Outside, RunLeaves}
use Rattle.run_model.specs.Origin.{origin, start}
use Rattle.run_model.specs.Starts.{Start, Starts}
use Rattle.standby_cli.specs.LegalRun.{IsLegalRun, world}

-- a run that begins by these words is one by the steps of a node, whose life begins at the log's origin
abbrev pub RunsByNode : (words : List (List ℕ)) (base : Option (List ℕ → Option (List ℕ))) (bytes : Option (ℕ → Option ℕ)) (source : Option (List ℕ)) → ℕ → Outside → Type 0
RunsByNode words base bytes source status outside =
    IfSome base (λ described. IfSome bytes (λ byte.
    (begins : Start) → Starts words described begins → RunLeaves (λ tables. NodeStep byte) start source begins status outside))

-- over a log that a primary could write it is one by the steps of the abstract standby
abbrev pub RunsLegally : (words : List (List ℕ)) (base files : Option (List ℕ → Option (List ℕ))) (source : Option (List ℕ)) → ℕ → Outside → Type 0
RunsLegally words base files source status outside =
    IfSome base (λ described. IfSome files (λ archived.
    (top : ℕ → ℕ) (begins : Start) → Starts words described begins → IsLegalRun top archived begins
    → RunLeaves (λ tables. Step (world top archived tables)) (λ tables. life_begins origin.redo) source begins status outside))
