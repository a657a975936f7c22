use Rattle.std.proofs.Common.{◌∙◌, inl, inr, ap, arith}
use Rattle.heap_page.specs.Item.{numbered}
use Rattle.heap_page.specs.Page.{items_of}
use Rattle.heap_page.proofs.Header.{numbered-past, numbered-at}
use Rattle.heap_page.proofs.typed_page.HeapPage.item.Goals as goal
use Rattle.heap_page.proofs.typed_page.HeapPage.item.Goals.{then-line-eq0-via-then-line-eq0, then-line-eq0-via-else-line-eq0+then-line_count-line}

pub returns-then-line-eq0-clause-item : goal.returns-then-line-eq0-clause-item
returns-then-line-eq0-clause-item c =
    elim c.then-line-eq0.branch [
      | then-line-eq0-via-then-line-eq0 w ↦ numbered-past c.args.self.now c.args.line (inl (omega arith))
      | then-line-eq0-via-else-line-eq0+then-line_count-line w ↦ numbered-past c.self.inside.bytes c.args.line (inr (omega arith)) ∙ ap (λ page. numbered (items_of page) c.args.line) c.self.view_is
    ]

pub returns-clause-item : goal.returns-clause-item
returns-clause-item c =
    c.item_at.ensures.item ∙ numbered-at c.self.inside.bytes c.args.line (omega arith) ∙ ap (λ page. numbered (items_of page) c.args.line) c.self.view_is
