use Rattle.row_pages.proofs.Shown.{scan_gives_rows_holds}
use Rattle.row_pages.proofs.scan_gives_rows.Goals as goal

pub returns : goal.returns
returns c = scan_gives_rows_holds
