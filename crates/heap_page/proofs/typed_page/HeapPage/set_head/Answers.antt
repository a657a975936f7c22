use Rattle.std.proofs.Common.{rules, ◌-◌, ◌∙◌, ap, sym, arith}
use Rattle.heap_page.specs.Item.{normal, with_item, numbered, tuple_in}
use Rattle.heap_page.specs.Page.{lsn_of, items_of}
use Rattle.heap_page.specs.Put.{with_head}
use Rattle.heap_page.proofs.Header.{laid-page}
use Rattle.heap_page.proofs.Answered.{head-fits}
use Rattle.heap_page.proofs.typed_page.HeapPage.set_head.Goals as goal

pub overflow_sub-line : goal.overflow_sub-line
overflow_sub-line c = (head-fits c.self.inside.bytes _ c.args.line c.args.head.now _ c.self.view_is c.self.invariant c.in-Ok.ensures).line.low

pub overwrite_head-requires-clause-laid : goal.overwrite_head-requires-clause-laid
overwrite_head-requires-clause-laid c = (head-fits c.self.inside.bytes _ c.args.line c.args.head.now _ c.self.view_is c.self.invariant c.in-Ok.ensures).line.laid

pub overwrite_head-requires-clause-line : goal.overwrite_head-requires-clause-line
overwrite_head-requires-clause-line c = (head-fits c.self.inside.bytes _ c.args.line c.args.head.now _ c.self.view_is c.self.invariant c.in-Ok.ensures).line.below

pub overwrite_head-requires-clause-normal : goal.overwrite_head-requires-clause-normal
overwrite_head-requires-clause-normal c = (head-fits c.self.inside.bytes _ c.args.line c.args.head.now _ c.self.view_is c.self.invariant c.in-Ok.ensures).line.points

pub overwrite_head-requires-clause-tuple : goal.overwrite_head-requires-clause-tuple
overwrite_head-requires-clause-tuple c = (head-fits c.self.inside.bytes _ c.args.line c.args.head.now _ c.self.view_is c.self.invariant c.in-Ok.ensures).tuple

pub invariant_of-self : goal.invariant_of-self
invariant_of-self c = laid-page c.overwrite_head.new.page (omega arith) c.overwrite_head.ensures.laid

pub returns : goal.returns
returns c =
    let fits = head-fits c.self.inside.bytes _ c.args.line c.args.head.now _ c.self.view_is c.self.invariant c.in-Ok.ensures in
    record {
      answer = c.in-Ok.ensures;
      ok = c.overwrite_head.ensures.items
          ∙ ap (λ xs. with_item (items_of c.self.inside.bytes) (c.args.line - 1) (normal (with_head xs c.args.head.now))) (sym fits.line.bytes)
          ∙ ap (λ page. with_item (items_of page) (c.args.line - 1) (normal (with_head (tuple_in (numbered (items_of page) c.args.line)) c.args.head.now))) c.self.view_is;
      err = search rules;
      lsn = c.overwrite_head.ensures.lsn ∙ ap lsn_of c.self.view_is;
    }
