use Rattle.std.proofs.Common.{◌≡◌, ◌∙◌, ◌&&◌, Bool, true, false, sym, ap}
use Rattle.std.proofs.lemmas.Bool.{false≢true}
use Rattle.heap_page.specs.Page.{is_zeros}
use Rattle.heap_page.proofs.Parted as parted
use Rattle.heap_page.proofs.block_parts.BlockParts.is_zeros.Goals as goal

first_only : (a b both : Bool) → a ≡ false → both ≡ (a && b) → a ≡ both
first_only true b both h is = absurd (false≢true (sym h))
first_only false b both h is = sym is

second : (a b both : Bool) → a ≡ true → both ≡ (a && b) → b ≡ both
second true b both h is = sym is
second false b both h is = absurd (false≢true h)

pub returns-else-are_zeros : goal.returns-else-are_zeros
returns-else-are_zeros c = c.are_zeros.ensures ∙ first_only (is_zeros c.self.inside.first.now) (is_zeros c.self.inside.rest.now) (is_zeros c.args.self.now) (sym c.are_zeros.ensures ∙ c.if-are_zeros.false) (sym (ap is_zeros c.self.view_is) ∙ parted.are_zeros c.self.inside.first.now c.self.inside.rest.now c.self.invariant)

pub returns-then-are_zeros : goal.returns-then-are_zeros
returns-then-are_zeros c = c.are_zeros-then-are_zeros.ensures ∙ second (is_zeros c.self.inside.first.now) (is_zeros c.self.inside.rest.now) (is_zeros c.args.self.now) (sym c.are_zeros.ensures ∙ c.if-are_zeros.true) (sym (ap is_zeros c.self.view_is) ∙ parted.are_zeros c.self.inside.first.now c.self.inside.rest.now c.self.invariant)
