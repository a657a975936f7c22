use Rattle.wal_record.proofs.SpelledWhole.{is_read}
use Rattle.wal_record.proofs.laws.spelled_is_read.Goals as goal

pub returns : goal.returns
returns c = is_read
