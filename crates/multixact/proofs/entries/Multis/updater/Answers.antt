use Rattle.std.proofs.Common.{◌≡◌, Option, get_or, sym, ap}
use Rattle.std.specs.Prelude.{ok_or}
use Rattle.pg_types.specs.declared.names.Xid.{Xid}
use Rattle.pg_types.specs.declared.status.Unknown.{Unknown}
use Rattle.multixact.proofs.Order.{made_in-found, made_in-absent}
use Rattle.multixact.proofs.entries.Multis.updater.Goals as goal

pub returns-in-Ok : goal.returns-in-Ok
returns-in-Ok c =
    let id = c.args.id in
    let e = c.index.result.now in
    let es = c.args.self.now.entries in
    let read : e ≡ get_or es c.in-Ok.at e = rw (← c.self.view_is) c.index.ensures in
    ap (λ (made : Option (Option Xid)). ok_or {E = Unknown} made (record { id = id })) (sym (made_in-found es id c.in-Ok.at e c.in-Ok.ensures read))

pub returns-in-Err : goal.returns-in-Err
returns-in-Err c =
    let id = c.args.id in
    ap (λ (made : Option (Option Xid)). ok_or {E = Unknown} made (record { id = id })) (sym (made_in-absent c.args.self.now.entries id c.in-Err.field-0 c.in-Err.ensures))
