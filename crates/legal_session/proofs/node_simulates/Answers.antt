use Rattle.legal_session.proofs.Simulated.{node_simulates_holds}
use Rattle.legal_session.proofs.node_simulates.Goals as goal

pub returns : goal.returns
returns c =
    node_simulates_holds c.tables_are_apart.ensures c.log_rises.ensures c.told_numbers_fit.ensures c.blocks_show_versions.ensures c.state_along.ensures c.xmin_along.ensures c.none_below_xmin.ensures c.kept_rows.ensures
