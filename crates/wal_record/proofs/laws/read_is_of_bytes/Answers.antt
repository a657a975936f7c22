use Rattle.wal_record.proofs.OfBytes.{is_of_bytes}
use Rattle.wal_record.proofs.laws.read_is_of_bytes.Goals as goal

pub returns : goal.returns
returns c = is_of_bytes
