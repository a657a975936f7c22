use Rattle.worked_logs.proofs.ArchiveLog.{archive_is_legal as holds}
use Rattle.worked_logs.proofs.archive_is_legal.Goals as goal

pub returns : goal.returns
returns c = holds c.worked_rows.ensures.legal
