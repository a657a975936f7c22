-- The multixacts that were made, and the updater that each stands for.
-- Sources: multixact.h (MultiXactStatus, ISUPDATE_from_mxstatus), multixact.c (multixact_redo), heapam.c
-- (MultiXactIdGetUpdateXid).
use Rattle.std.specs.Prelude.{ℕ, ◌==◌, Bool, ◌||◌, List, [], ◌∷◌, Option, Some, None, if◌then◌else◌}
use Rattle.pg_types.specs.declared.names.Xid.{Xid}
use Rattle.record_fields.specs.declared.members.Member.{Member}

-- what the id of a multixact stands for: nothing, where it was not made; else its updater, if it has one
abbrev pub Made : Type 0
Made = ℕ → Option (Option Xid)

-- before any is made
abbrev pub none_made : Made
none_made = λ id. None

-- the member updates or deletes, and does not only lock: its status is MultiXactStatusNoKeyUpdate or
-- MultiXactStatusUpdate
abbrev pub is_update : ℕ → Bool
is_update status = (status == 4) || (status == 5)

-- the updater among these members: the first one that updates or deletes, or none
unfoldable pub updater_among : List Member → Option Xid
updater_among [] = None
updater_among (member ∷ members) = if is_update member.status then Some member.xid else updater_among members

-- this id stands for this updater, whatever it stood for
abbrev pub with_updater : ℕ → Option Xid → Made → Made
with_updater id updater made = λ asked. if asked == id then Some updater else made asked

-- a multixact more: if its id was made before, the later one counts; id 0 is none (InvalidMultiXactId) and is passed over
abbrev pub with_multixact : ℕ → List Member → Made → Made
with_multixact id members made = if id == 0 then made else with_updater id (updater_among members) made
