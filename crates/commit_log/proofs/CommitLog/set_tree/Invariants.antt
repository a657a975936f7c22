use Rattle.std.proofs.Common.{◌≡◌, ℕ, ◌∷◌, take}
use Rattle.commit_log.specs.Log.{status_of, reserved_end, changed_at, status_after, changed_after}
use Rattle.commit_log.proofs.CommitLog.set_tree.Given as goal

abbrev pub invariant-loop-sub : goal.invariant-loop-sub
invariant-loop-sub l = record {
  reserved : reserved_end l.self ≡ reserved_end l.fn.self;
  statuses : (x : ℕ) → status_of l.self x ≡ status_after (status_of l.fn.self) (l.fn.xid ∷ take l.sub-index l.subs) l.status x;
  changed : (n : ℕ) → changed_at l.self n ≡ changed_after (changed_at l.fn.self) (l.fn.xid ∷ take l.sub-index l.subs) l.at.0 n;
}
