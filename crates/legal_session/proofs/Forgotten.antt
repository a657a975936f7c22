-- The parents that a node forgets after a record are those that no snapshot may ask for.
use Rattle.std.proofs.Common.{◌≡◌, ℕ, ◌≤◌, Bool, true, false, List, [], ◌∷◌, min, arith, refl, if◌then◌else◌}
use Rattle.std.proofs.Math.Nat.{min-le_left, min-le_right}
use Rattle.typed_records.specs.declared.types.Rec.{Rec}
use Rattle.standby_snapshot.specs.Snapshot.{xmin_of}
use Rattle.transaction_model.specs.StandbyStates.{MayForget}
use Rattle.xact_redo.specs.State.{TransactionState, ends_ids, forgetting, standby_of, state_after}
use Rattle.row_visibility.specs.Sees.{IsAlong, NoneBelowXmin}
use Rattle.row_visibility.proofs.Forgetting.{none_forgotten}
use Rattle.standby_core.specs.declared.scans.NodeScan.{NodeScan}
use Rattle.standby_core.specs.Horizon.{least_xmin, oldest_asked, parents_kept}

-- no open scan's xmin is below a bound
abbrev pub IsBelowScans : ℕ → List NodeScan → Type 0
IsBelowScans bound [] = Unit {0}
IsBelowScans bound (one ∷ ones) = (bound ≤ one.scan.snapshot.xmin) × IsBelowScans bound ones

least_or_less : (most : ℕ) (ones : List NodeScan) → least_xmin most ones ≤ most
least_or_less most [] = omega arith
least_or_less most (one ∷ ones) =
    let least = least_or_less (min most one.scan.snapshot.xmin) ones in
    let less = min-le_left most one.scan.snapshot.xmin in
    omega (arith, least, less)

least_below : (most : ℕ) (ones : List NodeScan) → IsBelowScans (least_xmin most ones) ones
least_below most [] = tt
least_below most (one ∷ ones) =
    let least = least_or_less (min most one.scan.snapshot.xmin) ones in
    let less = min-le_right most one.scan.snapshot.xmin in
    (omega (arith, least, less), least_below (min most one.scan.snapshot.xmin) ones)

zero_below : (ones : List NodeScan) → IsBelowScans 0 ones
zero_below [] = tt
zero_below (one ∷ ones) = (omega arith, zero_below ones)

-- a record leads from one state to another with the parents below a bound forgotten, which is above no id that is known to
-- run and no open scan's xmin
pub record Forgets (rec : Rec) (ones : List NodeScan) (was now : TransactionState) : Type 0 where
  pub bound : ℕ
  pub may : MayForget bound (standby_of (state_after rec was))
  pub below : IsBelowScans bound ones
  pub same : now ≡ forgetting bound (state_after rec was)

-- so does each record
pub forgets :
    NoneBelowXmin → (log : List Rec) (rec : Rec) (ones : List NodeScan) (was : TransactionState) → IsAlong log was
    → Forgets rec ones was (parents_kept rec ones (state_after rec was))
unfolding parents_kept
forgets none log rec ones was along = by (ends_ids rec.head rec.kind)
  where
    by :
        (t : Bool)
        → Forgets rec ones was (if t then forgetting (oldest_asked (state_after rec was) ones) (state_after rec was) else state_after rec was)
    by true =
        let most = xmin_of (state_after rec was).known in
        let less = least_or_less most ones in
        record {
          bound = least_xmin most ones;
          may = λ x known. let low = none log rec was along x known in omega (arith, low, less);
          below = least_below most ones;
          same = refl;
        }
    by false = record { bound = 0; may = λ x known. omega arith; below = zero_below ones; same = none_forgotten (state_after rec was) }
