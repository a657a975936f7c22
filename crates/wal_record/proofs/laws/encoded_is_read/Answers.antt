use Rattle.wal_record.proofs.EncodedRead.{is_read_again}
use Rattle.wal_record.proofs.laws.encoded_is_read.Goals as goal

pub returns : goal.returns
returns c = is_read_again
