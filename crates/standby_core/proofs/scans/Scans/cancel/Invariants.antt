use Rattle.std.proofs.Common.{◌≡◌, ◌+◌, ◌≤◌, ◌++◌, drop, filter, length, map, take}
use Rattle.standby_core.specs.Conflicts.{cancelled_by, cancelled_one, is_newly_cancelled, newly_cancelled}
use Rattle.standby_core.specs.Pages.{AreDescribed}
use Rattle.standby_core.proofs.scans.Scans.cancel.Given as goal

abbrev pub invariant-loop-place : goal.invariant-loop-place
invariant-loop-place l = record {
  changed :
      take l.place l.self.open.items ++ map (cancelled_one l.rec l.tables) (drop l.place l.self.open.items)
      ≡ cancelled_by l.rec l.tables l.initial.self.open.items;
  counted :
      l.count + length (filter (is_newly_cancelled l.rec l.tables) (drop l.place l.self.open.items))
      ≡ newly_cancelled l.rec l.tables l.initial.self.open.items;
  few : l.count ≤ l.place;
  len : length l.self.open.items ≡ length l.initial.self.open.items;
  next : l.self.next_id ≡ l.initial.self.next_id;
  described : AreDescribed l.tables l.self.open.items;
}
