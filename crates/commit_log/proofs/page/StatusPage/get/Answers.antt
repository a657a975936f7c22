-- What the code masks is the rest by 4.
use Rattle.std.proofs.Common.{◌*◌, ◌/◌, ◌%◌, ◌^◌, ap, ◌∙◌, refl, get_or}
use Rattle.std.proofs.lemmas.Nat.{and_mask}
use Rattle.commit_log.specs.Packed.{bits_at, status_of_bits}
use Rattle.commit_log.proofs.page.StatusPage.get.Goals as goal

pub returns : goal.returns
unfolding bits_at
returns c =
    let n = c.args.n in
    c.status_from.ensures ∙ ap status_of_bits (and_mask (get_or c.deref.result.now (n / 4) 0 / 2 ^ (2 * (n % 4))) 2) ∙ rw c.deref.ensures refl
