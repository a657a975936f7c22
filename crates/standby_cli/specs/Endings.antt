-- How a fault ends a run.
use Rattle.std.specs.Prelude.{◌≡◌, ℕ, List, Option, codes}
use Rattle.session_model.specs.Texts.{line}
use Rattle.run_model.specs.Leaves.{AppendsUnless, archive_status, memory_status, stream_status}
use Rattle.standby_session.specs.declared.fault.SessionFault.{SessionFault}
use Rattle.standby_session.specs.declared.fault.SessionFault.TheVariants as fault

-- the exit status of a fault
abbrev pub status_of : SessionFault → ℕ
status_of fault.Archive = archive_status
status_of fault.Source = stream_status
status_of fault.Sink = stream_status
status_of fault.Memory = memory_status

-- its line is written, but for one of the sink
abbrev pub EndsBy : SessionFault → Type 0 → Option (List ℕ) → Option (List ℕ) → Type 0
EndsBy fault.Archive trouble before now = AppendsUnless trouble before now (line (codes "fault archive"))
EndsBy fault.Source trouble before now = AppendsUnless trouble before now (line (codes "fault source"))
EndsBy fault.Sink trouble before now = now ≡ before
EndsBy fault.Memory trouble before now = AppendsUnless trouble before now (line (codes "fault memory"))
