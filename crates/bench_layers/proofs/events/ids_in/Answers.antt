use Rattle.std.proofs.Common.{ℕ, ◌+◌, ◌≤◌, ◌^◌, All, arith, subst, sym}
use Rattle.std.proofs.lemmas.List.Elements.{All-weaker}
use Rattle.pg_types.specs.declared.names.Xid.{Xid}
use Rattle.pg_types.proofs.Bytes.{bytes-are}
use Rattle.wal_bodies.specs.Xids.{IsShort}
use Rattle.wal_bodies.proofs.ShortXids.{xids_short}
use Rattle.bench_layers.proofs.events.ids_in.Goals as goal

-- an id that the state of transactions takes
abbrev InRange : Xid → Type 0
InRange x = x.0 ≤ 2 ^ 63 + 2 ^ 32

-- ids of four bytes are
short_in_range : (x : Xid) → IsShort x → InRange x
short_in_range x short = omega (arith, short)

pub returns : goal.returns
returns c =
    subst (All InRange) (sym c.new.ensures)
    (All-weaker IsShort InRange short_in_range _
    (xids_short c.args.bytes.now 0 _ (bytes-are c.args.bytes.now (λ i. (c.type_inv.bytes i).fits))))
