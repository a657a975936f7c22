use Rattle.wal_record.proofs.SpelledWhole.{is_spelled}
use Rattle.wal_record.proofs.laws.read_is_spelled.Goals as goal

pub returns : goal.returns
returns c = is_spelled
