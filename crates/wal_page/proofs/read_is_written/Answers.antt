use Rattle.wal_page.proofs.Laws.{read_is_written_lem}
use Rattle.wal_page.proofs.read_is_written.Goals as goal

pub returns : goal.returns
returns c = read_is_written_lem
