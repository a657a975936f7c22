use Rattle.std.proofs.Common.{◌<◌, None, length, sym, ap, subst}
use Rattle.page_store.specs.Content.{content}
use Rattle.standby_snapshot.specs.Snapshot.{in_numbers}
use Rattle.xact_redo.specs.State.{transactions}
use Rattle.seq_scan.specs.Scans.{OpenScan}
use Rattle.standby_core.specs.declared.scans.NodeScan.{NodeScan}
use Rattle.standby_core.specs.declared.scans.Opened.TheVariants.{Scan}
use Rattle.standby_core.specs.Scans.{OpensScan}
use Rattle.standby_core.specs.View.{standby}
use Rattle.standby_core.proofs.Opening.{added, all_added, count_is, is_known, opens_scan}
use Rattle.standby_core.proofs.Replaying.{same_lsn}
use Rattle.standby_core.proofs.node.Node.open_free.Goals as goal

pub take-requires : goal.take-requires
unfolding standby transactions
take-requires c = is_known (standby c.args.self.now) c.requires.admitted

pub invariant_of-self-clause-scanned : goal.invariant_of-self-clause-scanned
unfolding standby
invariant_of-self-clause-scanned c =
    let node = c.args.self.now in
    let one : NodeScan = record { id = node.scans.next_id; scan = c.open.result; cause = None } in
    all_added (λ (other : NodeScan). other.scan.table < length node.tables.tables) c.add.result node.scans.open.items c.add.new.self.open.items one
    c.add.ensures.open c.add.ensures.still_open node.scanned
    (subst (λ table. table < length node.tables.tables) (sym (ap (λ (s : OpenScan). s.table) c.open.ensures)) c.requires.table)

pub returns-clause-opens : goal.returns-clause-opens
unfolding standby transactions
returns-clause-opens c =
    let node = c.args.self.now in
    let old = standby node in
    let one : NodeScan = record { id = node.scans.next_id; scan = c.open.result; cause = None } in
    subst (OpensScan old c.args.table (Scan c.in_ok-id.id node.at))
    (sym (added old one c.add.new.self.open.items c.add.new.self.next_id c.in_ok-id.ensures.open c.in_ok-id.ensures.next))
    (opens_scan old c.args.table c.blocks-blocks.result c.in_ok-id.id node.at (in_numbers c.in_ok-snapshot.snapshot) c.open.result
    (sym (same_lsn node.reader.at node.at node.same_at)) c.in_ok-snapshot.ensures c.open.ensures c.in_ok-id.ensures.id
    (count_is (content node.pool) c.args.table c.blocks-blocks.result c.blocks-blocks.ensures))
