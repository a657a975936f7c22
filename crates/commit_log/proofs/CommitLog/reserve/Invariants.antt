use Rattle.std.proofs.Common.{◌≡◌, ℕ, ◌*◌, ◌≤◌, max}
use Rattle.commit_log.specs.Log.{status_of, reserved_end, changed_at}
use Rattle.commit_log.proofs.CommitLog.reserve.Given as goal

abbrev pub invariant-loop : goal.invariant-loop
invariant-loop l = record {
  reserved : reserved_end l.self ≡ 32768 * l.counter;
  bound : l.counter ≤ max l.initial.counter l.wanted;
  kept : reserved_end l.fn.self ≤ reserved_end l.self;
  statuses : (x : ℕ) → status_of l.self x ≡ status_of l.fn.self x;
  changed : (n : ℕ) → changed_at l.self n ≡ changed_at l.fn.self n;
}
