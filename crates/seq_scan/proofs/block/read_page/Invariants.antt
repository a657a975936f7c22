use Rattle.std.proofs.Common.{◌≡◌}
use Rattle.heap_page.specs.Page.{items_of}
use Rattle.standby_snapshot.specs.Snapshot.{in_numbers}
use Rattle.seq_scan.specs.BlockRows.{rows_from}
use Rattle.seq_scan.specs.Meaning.{seen_by, behind}
use Rattle.seq_scan.proofs.PageLoop.{lines_behind}
use Rattle.seq_scan.proofs.block.read_page.Given as goal

abbrev pub invariant-loop-k : goal.invariant-loop-k
invariant-loop-k g l =
    let sees = seen_by (in_numbers l.snapshot) (g.S.Statuses.parents_of l.statuses) (g.S.Statuses.status_of l.statuses) (g.S.Statuses.updater_of l.statuses) in
    behind l.rows (lines_behind l.columns sees (items_of l.page) l.k) ≡ rows_from l.columns sees 1 (items_of l.page)
