use Rattle.std.proofs.Common.{ap, ◌∙◌}
use Rattle.heap_page.specs.Page.{is_page}
use Rattle.heap_page.proofs.Restored.{long-refused}
use Rattle.heap_page.proofs.image.shows_page.Goals as goal

pub returns-then-image-gt8192 : goal.returns-then-image-gt8192
returns-then-image-gt8192 c = long-refused c.args.image.now.hole_at c.args.image.now.bytes.now c.if-image-gt8192.true

pub returns : goal.returns
returns c = c.check_parts.ensures ∙ ap is_page c.image.ensures
