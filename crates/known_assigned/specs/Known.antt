-- The transactions that run on the primary, as a standby knows them from the log, and what each kind of
-- record does to them (PostgreSQL's procarray.c, "KnownAssignedXids").
use Rattle.std.specs.Prelude.{ℕ, ◌+◌, ◌*◌, ◌-◌, ◌≤◌, Bool, true, false, ◌&&◌, List, [], ◌∷◌, filter, length, max, nat_le, nat_lt, if◌then◌else◌}
use Rattle.known_assigned.specs.declared.state.State.{State}
use Rattle.known_assigned.specs.declared.state.State.TheVariants.{Initialized, Pending, Ready}
use Rattle.known_assigned.specs.declared.state.RunningHead.{RunningHead}
use Rattle.known_assigned.specs.Ids.{greatest, ids_above, with_ids, without}

-- what a standby knows of running transactions
pub record Known : Type 0 where
  -- the ids that are known to run, in rising order
  pub xids : List ℕ
  -- the latest completed id (latestCompletedXid)
  pub latest : ℕ
  -- the greatest observed id (latestObservedXid)
  pub observed : ℕ
  -- the last overflowed id (lastOverflowedXid)
  pub overflowed : ℕ
  -- how far the standby is on the way to a snapshot (standbyState)
  pub mode : State

-- what contracts see: what is known, how many more ids fit without taking memory, and how many places
-- are taken, by a known id or by the mark of one that ended
pub record Tracked : Type 0 where
  pub known : Known
  pub spare : ℕ
  pub taken : ℕ

-- at most as many places as there are known ids, and 64 more, are left marked
-- (KnownAssignedXidsCompress)
abbrev pub IsPacked : Tracked → Type 0
IsPacked t = t.taken ≤ 2 * length t.known.xids + 64

-- before the first record
abbrev pub nothing_known : Known
nothing_known = record { xids = []; latest = 0; observed = 0; overflowed = 0; mode = Initialized }

abbrev pub is_initialized : State → Bool
is_initialized Initialized = true
is_initialized (Pending until) = false
is_initialized Ready = false

-- the ids above the greatest observed one, up to x, which a record that names x shows to be assigned
unfoldable pub unobserved : Known → ℕ → List ℕ
unobserved k x = if is_initialized k.mode then [] else ids_above k.observed x

-- how many ids the observation of x adds
unfoldable pub count_added : Known → ℕ → ℕ
count_added k x = length (without k.xids (unobserved k x))

-- a record names x, so all ids up to x are assigned (RecordKnownAssignedTransactionIds)
unfoldable pub after_observe : Known → ℕ → Known
after_observe k x = record k { xids = with_ids (unobserved k x) k.xids; observed = max k.observed x }

-- these ids have ended (ExpireTreeKnownAssignedTransactionIds)
unfoldable pub after_end : Known → List ℕ → Known
after_end k out = record k { xids = without out k.xids; latest = max k.latest (greatest out) }

-- the listed subtransactions of top are known by their parent from now on (ProcArrayApplyXidAssignment)
unfoldable pub after_assign : Known → ℕ → List ℕ → Known
after_assign k top subs =
    if is_initialized k.mode then k
    else record k { xids = without subs k.xids; overflowed = max k.overflowed (greatest (top ∷ subs)) }

-- all ids below oldest have ended (ExpireOldKnownAssignedTransactionIds)
unfoldable pub past_oldest : Known → ℕ → Known
past_oldest k oldest =
    record k { xids = filter (nat_le oldest) k.xids; latest = max k.latest (oldest - 1); observed = max k.observed (oldest - 1) }

-- a record of running transactions leaves subtransactions out; one with no top-level id counts as whole
abbrev pub overflows : RunningHead → Bool
overflows head = head.overflow && nat_lt 0 head.tops

-- the set is made anew of the listed ids that have not ended; where some were left out, the snapshot
-- waits until all that ran then have ended (ProcArrayApplyRecoveryInfo)
unfoldable pub made_anew : Known → RunningHead → List ℕ → ℕ → Known
made_anew k head live ended = record {
  xids = with_ids live [];
  latest = max (max k.latest head.latest.0) ended;
  observed = max k.observed (head.next.0 - 1);
  overflowed = if overflows head then head.next.0 - 1 else k.overflowed;
  mode = if overflows head then Pending (record { 0 = head.next.0 - 1 }) else Ready;
}

-- what a running record does, beyond what its oldest id says, in each state
abbrev pub running_in : State → Known → RunningHead → List ℕ → ℕ → Known
running_in Ready k head live ended = k
running_in Initialized k head live ended = made_anew k head live ended
running_in (Pending until) k head live ended =
    if overflows head
    then record k { mode = if nat_lt until.0 head.oldest.0 then Ready else Pending until }
    else made_anew k head live ended

-- a running record: live are the listed ids that have not ended, ended the greatest listed one that
-- has (ProcArrayApplyRecoveryInfo)
unfoldable pub after_running : Known → RunningHead → List ℕ → ℕ → Known
after_running k head live ended = running_in k.mode (past_oldest k head.oldest.0) head live ended

-- a shutdown checkpoint: nothing runs, and all ids below next have ended (xlog_redo)
unfoldable pub after_shutdown : Known → ℕ → Known
after_shutdown k next =
    record k { xids = []; latest = max k.latest (next - 1); observed = max k.observed (next - 1); mode = Ready }
