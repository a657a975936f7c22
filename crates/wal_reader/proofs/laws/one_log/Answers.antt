use Rattle.wal_reader.proofs.Logs.{one_log_lem}
use Rattle.wal_reader.proofs.laws.one_log.Goals as goal

pub returns : goal.returns
returns c = one_log_lem
