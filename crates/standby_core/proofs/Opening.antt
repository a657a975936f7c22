-- A scan is opened where there is room and scans are admitted.
use Rattle.std.proofs.Common.{rules, ◌≡◌, ℕ, ◌+◌, ◌<◌, ◌≤◌, ◌^◌, true, false, nat_lt, List, [], ◌∷◌, ◌++◌, length, Option, Some, None, arith, inl, inr, refl, sym, ap, ◌∙◌}
use Rattle.std.specs.Prelude.{◌↔◌, All, IsSome, OnErr, OnOk, Result, Ok, Err}
use Rattle.std.proofs.lemmas.List.Elements.{All-push, All-same}
use Rattle.pg_types.specs.declared.fail.NoMemory.{NoMemory}
use Rattle.std.proofs.lemmas.Bool.{and_parts, cases_order, le-ltb, leb-false, lt-ltb, ltb-false, or_parts}
use Rattle.pg_types.specs.declared.names.Lsn.{Lsn}
use Rattle.page_store.specs.Content.{Blocks}
use Rattle.page_store.specs.Seen.{seen, view_of}
use Rattle.known_assigned.specs.declared.state.State.{State}
use Rattle.known_assigned.specs.declared.state.State.TheVariants.{Initialized, Pending, Ready}
use Rattle.standby_snapshot.specs.Snapshot.{SnapshotData, take_of}
use Rattle.seq_scan.specs.Scans.{OpenScan}
use Rattle.standby_core.specs.declared.scans.NodeScan.{NodeScan}
use Rattle.standby_core.specs.declared.scans.Opened.TheVariants as opened
use Rattle.standby_core.specs.Standby.{Standby}
use Rattle.standby_core.specs.Scans.{HasBlocks, OpensScan, is_admitted, is_crowded, is_ready, is_there, most_scans, new_scan}

pub ready_when : (mode : State) → is_ready mode ≡ true → mode ≡ Ready
ready_when Initialized e = cc
ready_when (Pending until) e = cc
ready_when Ready e = refl

-- where scans are admitted the running transactions are known
pub is_known : (node : Standby) → is_admitted node ≡ true → node.transactions.known.mode ≡ Ready
is_known node e = ready_when node.transactions.known.mode (and_parts _ _ e).1

pub has_room : (node : Standby) → is_crowded node ≡ false → length node.scans < most_scans
has_room node e = leb-false _ _ (or_parts _ _ e).0

pub has_ids : (node : Standby) → is_crowded node ≡ false → node.next_id ≤ 2 ^ 63
has_ids node e = ltb-false _ _ (or_parts _ _ e).1

-- a block is seen where the pool has it
there_at : (bytes : List ℕ) → is_there (seen (Some bytes)) ≡ true
unfolding seen
there_at bytes = first_of (grind arith, search rules)

count_at : (found : Option (List ℕ)) (block count : ℕ) → IsSome found ↔ (block < count) → is_there (seen found) ≡ nat_lt block count
unfolding seen
count_at None block count h =
    elim (cases_order block count) [
      | inl e ↦ sym (le-ltb block count (omega arith))
      | inr (inl less) ↦ let e = h.1 less in cc
      | inr (inr more) ↦ sym (le-ltb block count (omega arith))
    ]
count_at (Some bytes) block count h = there_at bytes ∙ sym (lt-ltb block count (h.0 refl))

pub count_is : (blocks : Blocks) (table count : ℕ) → ((block : ℕ) → IsSome (blocks table block) ↔ (block < count)) → HasBlocks (view_of blocks) table count
count_is blocks table count h block = count_at (blocks table block) block count (h block)

-- the node with a scan more
abbrev pub with_one : Standby → NodeScan → Standby
with_one node one = record node { scans = node.scans ++ one ∷ []; next_id = node.next_id + 1 }

-- its scans and its next id are those
pub added : (node : Standby) (one : NodeScan) (scans : List NodeScan) (next : ℕ) → scans ≡ node.scans ++ one ∷ [] → next ≡ node.next_id + 1
    → record node { scans = scans; next_id = next } ≡ with_one node one
added node one scans next with_it more =
    ap (λ (s : List NodeScan). let n : Standby = record node { scans = s; next_id = next } in n) with_it
    ∙ ap (λ (k : ℕ). let n : Standby = record node { scans = node.scans ++ one ∷ []; next_id = k } in n) more

-- what all scans have they have with one more that has it, or where none was added
pub all_added :
    (P : NodeScan → Type 0) (result : Result ℕ NoMemory) (old new : List NodeScan) (one : NodeScan)
    → OnOk result (new ≡ old ++ one ∷ []) → OnErr result (new ≡ old) → All P old → P one → All P new
all_added P (Ok id) old new one more same all has = All-same P new (old ++ one ∷ []) more (All-push P old one all has)
all_added P (Err fault) old new one more same all has = All-same P new old same all

-- a scan of the table was opened
pub opens_scan :
    (node : Standby) (table count id : ℕ) (at : Lsn) (snapshot : SnapshotData) (scan : OpenScan) → at ≡ node.at
    → snapshot ≡ take_of node.transactions.known
    → scan ≡ record { table = table; blocks = count; at = at; snapshot = snapshot; given = 0 } → id ≡ node.next_id
    → HasBlocks node.blocks table count
    → OpensScan node table (opened.Scan id at) (with_one node (record { id = node.next_id; scan = scan; cause = None }))
opens_scan node table count id at snapshot scan stands taken made next has =
    let open_at : Lsn → SnapshotData → OpenScan = λ a s. record { table = table; blocks = count; at = a; snapshot = s; given = 0 } in
    let with : OpenScan → Standby = λ s. with_one node (record { id = node.next_id; scan = s; cause = None }) in
    let same : scan ≡ (new_scan table count node).scan =
    made ∙ ap (λ a. open_at a snapshot) stands ∙ ap (open_at node.at) taken in
    (count, has, ap (λ i. opened.Scan i at) next ∙ ap (opened.Scan node.next_id) stands, ap with same)
