use Rattle.std.proofs.Common.{◌∙◌, refl}
use Rattle.heap_page.proofs.Overwrite.{joined-tuple}
use Rattle.heap_page.proofs.change.is_joined_tuple.Goals as goal

pub returns : goal.returns
returns c = c.is_tuple_head.ensures ∙ joined-tuple c.args.head.now c.args.rest.now _ c.told-head refl
