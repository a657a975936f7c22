use Rattle.std.proofs.Common.{ℕ, ◌<◌, List, slice_index, subst, sym, ap, ◌∙◌}
use Rattle.wal_bodies.specs.Typed.{names_last}
use Rattle.wal_bodies.proofs.ShortXids.{record_short}
use Rattle.wal_bodies.proofs.typed.read_as.Goals as goal

pub returns-clause-xids : goal.returns-clause-xids
returns-clause-xids c =
    let are_bytes = λ (bytes : List ℕ). (i : ℕ) → slice_index bytes i < 256 in
    record_short c.args.view.now c.args.database c.args.known.now c.in_ok-kind.kind
    (subst are_bytes c.main-main.ensures (λ i. (c.main-main.items_fit i).fits)) c.in_ok-kind.ensures (ap (λ head. names_last head c.in_ok-kind.kind) (sym c.head.ensures) ∙ sym c.names_last.ensures ∙ c.if-names_last.false)
