use Rattle.std.proofs.Common.{◌≡◌, ◌∙◌, ◌+◌, ◌*◌, ◌/◌, ◌<◌, ◌∷◌, max, All, ap, subst, sym, arith}
use Rattle.std.proofs.lemmas.Result.{on_ok_weaker}
use Rattle.pg_types.specs.declared.names.Xid.{Xid}
use Rattle.commit_log.specs.Log.{reserved_end}
use Rattle.xact_redo.specs.State.{ended_ids, last_named_in}
use Rattle.xact_redo.specs.TransactionsOf.{is_commit}
use Rattle.known_assigned.specs.Ids.{numbers}
use Rattle.xact_redo.proofs.Ids.{below_page_end, named_at_end}
use Rattle.xact_redo.proofs.room.reserve_statuses.Goals as goal

pub returns-in-Ended-clause-room : goal.returns-in-Ended-clause-room
returns-in-Ended-clause-room c =
    let head = c.args.rec.now.head in
    let end = reserved_end c.reserve.new.self in
    on_ok_weaker c.reserve.result
    (λ (e : end ≡ max (reserved_end c.args.log.now) (32768 * (c.last_named.result.0 / 32768 + 1))).
    subst (λ kind. All (λ (x : Xid). x.0 < end) (ended_ids head kind)) (sym c.in-Ended.is)
    (below_page_end (head.xid ∷ c.in-Ended.xids) c.last_named.result.0 end
    (c.last_named.ensures ∙ ap (last_named_in head) c.in-Ended.is ∙ named_at_end (is_commit head) head.xid.0 (numbers c.in-Ended.xids)) (omega arith)))
    c.reserve.ensures.reserved
