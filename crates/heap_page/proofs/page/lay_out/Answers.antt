use Rattle.std.proofs.Common.{refl, sym, ◌∙◌}
use Rattle.heap_page.proofs.Header.{blank-version, laid-version}
use Rattle.heap_page.proofs.page.lay_out.Goals as goal

pub begin-requires : goal.begin-requires
begin-requires c = (blank-version c.args.page.now c.requires (sym c.u16_at.ensures ∙ c.if-u16_at-eq0.true)).zero

pub returns-then-u16_at-eq0 : goal.returns-then-u16_at-eq0
returns-then-u16_at-eq0 c =
    let none = blank-version c.args.page.now c.requires (sym c.u16_at.ensures ∙ c.if-u16_at-eq0.true) in
    record { laid = c.begin.ensures.laid; items = c.begin.ensures.items ∙ sym none.items; lsn = c.begin.ensures.lsn ∙ sym none.lsn }

pub returns-else-u16_at-eq0 : goal.returns-else-u16_at-eq0
returns-else-u16_at-eq0 c = record {
  laid = laid-version c.args.page.now c.requires (λ none. c.if-u16_at-eq0.false (c.u16_at.ensures ∙ none));
  items = refl;
  lsn = refl;
}
