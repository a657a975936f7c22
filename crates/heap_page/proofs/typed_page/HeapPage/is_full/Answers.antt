use Rattle.std.proofs.Common.{◌≡◌, ◌+◌, ◌*◌, ◌∙◌, false, max, nat_lt, length, sym, subst}
use Rattle.heap_page.specs.Item.{aligned, room_in}
use Rattle.heap_page.specs.Page.{items_of}
use Rattle.heap_page.proofs.Header.{lines-bound}
use Rattle.heap_page.proofs.Gap.{gap-not_full}
use Rattle.heap_page.proofs.typed_page.HeapPage.is_full.Goals as goal

pub has_gap-requires-clause-few : goal.has_gap-requires-clause-few
has_gap-requires-clause-few c = lines-bound c.self.inside.bytes c.self.invariant

pub returns-then-has_gap : goal.returns-then-has_gap
returns-then-has_gap c =
    subst (λ page. false ≡ nat_lt 8192 (24 + 4 * max (length (items_of page)) c.args.line + (room_in (items_of page) + aligned c.args.len))) c.self.view_is
    (gap-not_full c.self.inside.bytes c.args.line c.args.len c.self.invariant (sym c.has_gap.ensures ∙ c.if-has_gap.true))
