use Rattle.row_pages.proofs.Rows.{scan_gives_read_holds}
use Rattle.row_pages.proofs.scan_gives_read.Goals as goal

pub returns : goal.returns
returns c = scan_gives_read_holds
