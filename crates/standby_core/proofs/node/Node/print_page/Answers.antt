use Rattle.std.proofs.Common.{refl, ap}
use Rattle.page_store.specs.Content.{content}
use Rattle.page_store.specs.Seen.{view_of}
use Rattle.standby_core.specs.View.{standby}
use Rattle.standby_core.proofs.Paged.{node_prints}
use Rattle.standby_core.proofs.node.Node.print_page.Goals as goal

pub returns-clause-page : goal.returns-clause-page
unfolding standby
returns-clause-page c =
    let node = standby c.args.self.now in
    node_prints c.args.id node c.print_page.new.self.open.items (view_of (content c.print_page.new.pool)) c.print_page.new.self.next_id
    (ap view_of c.print_page.ensures.content) c.print_page.ensures.next c.args.head.now c.args.text.now.items c.print_page.new.text.items c.print_page.result
    (c.print_page.ensures.page node (record { open_scans = refl; described = refl; blocks_are = refl; known = refl }))
