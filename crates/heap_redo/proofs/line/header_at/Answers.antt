use Rattle.std.proofs.Common.{arith, ap, sym, ◌∙◌}
use Rattle.heap_page.specs.Item.{is_normal}
use Rattle.heap_page.specs.Page.{items_of}
use Rattle.heap_tuple.proofs.TupleFacts.{tuple_facts}
use Rattle.heap_redo.proofs.Lines.{change_head-refused, not-normal}
use Rattle.heap_redo.proofs.line.header_at.Goals as goal

pub read-requires : goal.read-requires
read-requires c = let facts = tuple_facts c.in-Normal.bytes.now c.in-Normal.ensures.rule in omega (arith, facts.header_fits)

pub returns-in_default : goal.returns-in_default
returns-in_default c = record {
  ok = tt;
  err = λ change. change_head-refused c.args.line change (items_of c.args.page.now)
      (ap is_normal (sym c.item.ensures.item) ∙ not-normal c.item.result c.in_default.not-Normal);
}
