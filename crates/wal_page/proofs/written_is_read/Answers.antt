use Rattle.wal_page.proofs.Laws.{written_is_read_lem}
use Rattle.wal_page.proofs.written_is_read.Goals as goal

pub returns : goal.returns
returns c = written_is_read_lem
