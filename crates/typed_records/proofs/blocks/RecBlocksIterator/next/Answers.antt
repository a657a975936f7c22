use Rattle.std.proofs.Common.{◌∙◌, sym, ap, arith}
use Rattle.std.specs.Prelude.{option_map}
use Rattle.typed_records.specs.Stored.{blocks_held}
use Rattle.typed_records.proofs.Walks.{next_none}
use Rattle.typed_records.proofs.blocks.RecBlocksIterator.next.Goals as goal

pub returns-in-None-clause-steps : goal.returns-in-None-clause-steps
returns-in-None-clause-steps c =
    let b = c.self.inside in
    let view = c.in_ok-view.view in (
      sym c.self.view_is ∙ ap (λ v. blocks_held (option_map (λ r. r.now) v) b.tuples b.from b.ids) c.in_ok-view.was ∙ c.in-None.ensures,
      ap (λ v. blocks_held (option_map (λ r. r.now) v) b.tuples b.ids b.ids) c.in_ok-view.was ∙ next_none view.now b.tuples b.ids b.ids (omega arith),
    )
