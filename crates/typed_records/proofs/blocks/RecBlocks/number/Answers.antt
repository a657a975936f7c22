use Rattle.std.proofs.Common.{◌-◌, ◌∙◌, sym, ap, arith, inl, inr}
use Rattle.std.specs.Prelude.{option_map}
use Rattle.wal_record.specs.Record.{Block}
use Rattle.typed_records.specs.Blocks.{number_of}
use Rattle.typed_records.specs.Stored.{blocks_held}
use Rattle.typed_records.proofs.Walks.{held-outside, number-inside}
use Rattle.typed_records.proofs.blocks.RecBlocks.number.Goals as goal
use Rattle.typed_records.proofs.blocks.RecBlocks.number.Goals.{then-id-self-via-then-id-self, then-id-self-via-else-id-self+then-self-id}

pub returns-then-id-self : goal.returns-then-id-self
returns-then-id-self c =
    let b = c.self.inside in
    sym (ap (number_of c.args.id) (sym c.self.view_is)
    ∙ held-outside (option_map (λ v. v.now) b.view) b.tuples c.args.id b.from b.ids (omega arith)
    (elim c.then-id-self.branch [
      | then-id-self-via-then-id-self w ↦ inl (omega arith)
      | then-id-self-via-else-id-self+then-self-id w ↦ inr (omega arith)
    ]))

pub returns-in-Some : goal.returns-in-Some
returns-in-Some c =
    let b = c.self.inside in
    let id = c.args.id in
    let rec = c.in_ok-self.field-0.now in
    ap (option_map (λ (block : Block). block.block)) c.in-Some.ensures
    ∙ sym (ap (λ v. number_of id (blocks_held (option_map (λ r. r.now) v) b.tuples b.from b.ids)) c.in_ok-self.was
    ∙ number-inside rec b.tuples id b.from (b.ids - b.from) (omega arith) (omega arith))
    ∙ ap (number_of id) c.self.view_is

pub returns-in-None : goal.returns-in-None
returns-in-None c =
    let b = c.self.inside in
    let id = c.args.id in
    let rec = c.in_ok-self.field-0.now in
    ap (option_map (λ (block : Block). block.block)) c.in-None.ensures
    ∙ sym (ap (λ v. number_of id (blocks_held (option_map (λ r. r.now) v) b.tuples b.from b.ids)) c.in_ok-self.was
    ∙ number-inside rec b.tuples id b.from (b.ids - b.from) (omega arith) (omega arith))
    ∙ ap (number_of id) c.self.view_is
