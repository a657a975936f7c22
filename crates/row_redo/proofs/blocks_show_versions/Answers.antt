use Rattle.row_redo.proofs.Along.{blocks_show}
use Rattle.row_redo.proofs.blocks_show_versions.Goals as goal

pub returns : goal.returns
returns c = blocks_show c.tuples_keep_their_rule.ensures c.zeros_have_no_items.ensures
