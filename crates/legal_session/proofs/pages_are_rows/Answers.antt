use Rattle.legal_session.proofs.Whole.{pages_are_rows_hold}
use Rattle.legal_session.proofs.pages_are_rows.Goals as goal

pub returns : goal.returns
returns c =
    pages_are_rows_hold c.log_rises.ensures c.told_numbers_fit.ensures c.blocks_show_versions.ensures c.one_rows.ensures
