use Rattle.std.proofs.Common.{◌+◌, ◌^◌, ◌≤◌, ◌<◌, All, subst, sym}
use Rattle.std.proofs.lemmas.List.Elements.{All-tail}
use Rattle.pg_types.specs.declared.names.Xid.{Xid}
use Rattle.commit_log.specs.Log.{reserved_end}
use Rattle.xact_redo.proofs.records.end_tree.Goals as goal

pub set_tree-requires-clause-below : goal.set_tree-requires-clause-below
set_tree-requires-clause-below c =
    subst (λ subs. All (λ (x : Xid). x.0 < reserved_end c.args.state.now.log) subs) (sym c.as_slice.ensures)
    (All-tail (λ (x : Xid). x.0 < reserved_end c.args.state.now.log) c.args.xid c.args.state.now.tree c.requires.room)

pub end_tree-requires-clause-listed : goal.end_tree-requires-clause-listed
end_tree-requires-clause-listed c =
    subst (λ subs. All (λ (x : Xid). x.0 ≤ 2 ^ 63 + 2 ^ 32) subs) (sym c.as_slice-2.ensures)
    (All-tail (λ (x : Xid). x.0 ≤ 2 ^ 63 + 2 ^ 32) c.args.xid c.args.state.now.tree c.requires.ids)
