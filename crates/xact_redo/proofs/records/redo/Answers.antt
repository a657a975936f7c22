use Rattle.std.proofs.Common.{arith, ◌+◌, ◌^◌, ◌≤◌, ◌<◌, ◌∷◌, ◌∙◌, All, ap, length, subst, sym}
use Rattle.pg_types.specs.declared.names.Xid.{Xid}
use Rattle.commit_log.specs.Log.{reserved_end, status_of}
use Rattle.wal_bodies.specs.Typed.{listed_in}
use Rattle.wal_bodies.specs.Xids.{record_xids}
use Rattle.xact_redo.specs.State.{ended_ids, listed_assigned, shows_ended}
use Rattle.xact_redo.proofs.Ids.{greatest-some, of_running}
use Rattle.xact_redo.proofs.records.redo.Goals as goal

abbrev InRange : Xid → Type 0
InRange x = x.0 ≤ 2 ^ 63 + 2 ^ 32

pub end_tree-requires-clause-ids : goal.end_tree-requires-clause-ids
end_tree-requires-clause-ids c =
    subst (λ xids. All InRange (c.args.rec.now.head.xid ∷ xids)) (sym (c.requires.room.tree ∙ ap listed_in c.in-Ended.is))
    (subst (λ kind. All InRange (record_xids c.args.rec.now.head kind)) c.in-Ended.is c.requires.ids)

pub end_tree-requires-clause-room : goal.end_tree-requires-clause-room
end_tree-requires-clause-room c =
    subst (λ xids. All (λ (x : Xid). x.0 < reserved_end c.args.state.now.log) (c.args.rec.now.head.xid ∷ xids)) (sym (c.requires.room.tree ∙ ap listed_in c.in-Ended.is))
    (subst (λ kind. All (λ (x : Xid). x.0 < reserved_end c.args.state.now.log) (ended_ids c.args.rec.now.head kind)) c.in-Ended.is c.requires.room.statuses)

pub assign-requires : goal.assign-requires
assign-requires c =
    subst (λ xids. length xids ≤ c.args.state.now.subs.spare) (sym (c.requires.room.tree ∙ ap listed_in c.in-Assignment.is))
    (subst (λ kind. length (listed_assigned kind) ≤ c.args.state.now.subs.spare) c.in-Assignment.is c.requires.room.parents)

pub see_running-requires-clause-oldest : goal.see_running-requires-clause-oldest
see_running-requires-clause-oldest c =
    let w = c.in-Running in
    (of_running InRange c.args.rec.now.head.xid w.next w.oldest w.latest w.xids
    (subst (λ kind. All InRange (record_xids c.args.rec.now.head kind)) w.is c.requires.ids)).0

pub see_running-requires-clause-latest : goal.see_running-requires-clause-latest
see_running-requires-clause-latest c =
    let w = c.in-Running in
    (of_running InRange c.args.rec.now.head.xid w.next w.oldest w.latest w.xids
    (subst (λ kind. All InRange (record_xids c.args.rec.now.head kind)) w.is c.requires.ids)).1

pub see_running-requires-clause-ended : goal.see_running-requires-clause-ended
see_running-requires-clause-ended c =
    let w = c.in-Running in
    let listed = (of_running InRange c.args.rec.now.head.xid w.next w.oldest w.latest w.xids
    (subst (λ kind. All InRange (record_xids c.args.rec.now.head kind)) w.is c.requires.ids)).2 in
    let is = c.requires.room.ended in
    search (greatest-some (shows_ended (status_of c.args.state.now.log)) 0 (2 ^ 63 + 2 ^ 32) w.xids (omega arith) listed, is, w.is)
