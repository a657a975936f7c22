use Rattle.kept_rows.proofs.Kept.{keeps_rows}
use Rattle.kept_rows.proofs.kept_rows.Goals as goal

pub returns : goal.returns
returns c = keeps_rows c.prefix_is_legal.ensures c.deleters_stay.ensures c.blocks_show_versions.ensures c.sees_opened.ensures c.scan_gives_read.ensures
