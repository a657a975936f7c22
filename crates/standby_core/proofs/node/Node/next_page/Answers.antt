use Rattle.std.proofs.Common.{refl, ap}
use Rattle.page_store.specs.Content.{content}
use Rattle.page_store.specs.Seen.{view_of}
use Rattle.standby_core.specs.View.{standby}
use Rattle.standby_core.proofs.Paged.{node_gives}
use Rattle.standby_core.proofs.node.Node.next_page.Goals as goal

pub returns-clause-page : goal.returns-clause-page
unfolding standby
returns-clause-page c =
    let node = standby c.args.self.now in
    node_gives c.args.id node c.next_page.new.self.open.items (view_of (content c.next_page.new.pool)) c.next_page.new.self.next_id
    (ap view_of c.next_page.ensures.content) c.next_page.ensures.next c.next_page.result
    (c.next_page.ensures.page node (record { open_scans = refl; described = refl; blocks_are = refl; known = refl }))
