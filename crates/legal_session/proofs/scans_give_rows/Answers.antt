use Rattle.legal_session.proofs.GivenHolds.{scans_give_rows_hold}
use Rattle.legal_session.proofs.scans_give_rows.Goals as goal

pub returns : goal.returns
returns c =
    scans_give_rows_hold c.tables_are_apart.ensures c.log_rises.ensures c.told_numbers_fit.ensures c.blocks_show_versions.ensures c.all_kept.ensures c.state_along.ensures c.sees_rows.ensures c.scan_gives_rows.ensures c.pages_are_rows.ensures c.one_rows.ensures
