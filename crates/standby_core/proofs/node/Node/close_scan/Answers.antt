use Rattle.std.proofs.Common.{◌<◌, length}
use Rattle.std.proofs.lemmas.List.Elements.{All-same}
use Rattle.standby_core.specs.declared.scans.NodeScan.{NodeScan}
use Rattle.standby_core.proofs.Places.{all_without}
use Rattle.standby_core.proofs.node.Node.close_scan.Goals as goal

pub invariant_of-self-clause-scanned : goal.invariant_of-self-clause-scanned
invariant_of-self-clause-scanned c =
    let node = c.args.self.now in
    All-same (λ (one : NodeScan). one.scan.table < length node.tables.tables) c.close.new.self.open.items _ c.close.ensures.open
    (all_without (λ (one : NodeScan). one.scan.table < length node.tables.tables) c.args.id node.scans.open.items node.scanned)
