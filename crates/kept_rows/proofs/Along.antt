-- Along the records behind an opening: which versions stand, how many blocks there are, and that the table is not dropped.
use Rattle.std.proofs.Common.{◌≡◌, ℕ, ◌+◌, ◌<◌, ◌≤◌, max, Bool, true, false, not, ◌&&◌, cond, List, [], ◌∷◌, ◌++◌, Option, Some, None, arith, refl, sym, subst, inl, inr}
use Rattle.std.proofs.lemmas.Bool.{false_from_ne_true, or_from}
use Rattle.std.proofs.lemmas.List.Elements.{All-head, All-tail}
use Rattle.pg_types.specs.declared.names.Locator.{Locator}
use Rattle.pg_types.specs.Locators.{same_locator}
use Rattle.typed_records.specs.declared.types.RecBlock.{RecBlock}
use Rattle.typed_records.specs.declared.types.Rec.{Rec}
use Rattle.heap_redo.specs.Redone.{is_left}
use Rattle.transaction_model.specs.Transactions.{IsXmin}
use Rattle.transaction_model.specs.LegalTransactions.{Legal}
use Rattle.transaction_model.proofs.Endings.{legal_rest}
use Rattle.xact_redo.specs.TransactionsOf.{transaction_of, transactions_of}
use Rattle.row_model.specs.Versions.{RowStep, Version, version_at, with_steps}
use Rattle.row_model.specs.Origins.{LogOrigin, committed_in}
use Rattle.row_model.specs.Locks.{UnderLock, drops, is_gone, locks}
use Rattle.row_model.specs.Shown.{IsSound}
use Rattle.row_model.specs.RowSteps.{block_count, count_with, cut_of, cut_to, steps_of, versions}
use Rattle.row_model.specs.LegalSteps.{horizon_of}
use Rattle.row_model.specs.LegalRows.{LegalAlong, MakesMultixacts, TableRule}
use Rattle.row_model.specs.Stays.{AlwaysStay}
use Rattle.row_model.specs.Conflicts.{AreFree, conflicts}
use Rattle.kept_rows.proofs.Since.{committed_since, covered_then, failed_then, live_then, tree_then}
use Rattle.kept_rows.proofs.Unlocked.{no_lock}
use Rattle.kept_rows.proofs.Free.{all_take_none, horizon_below, steps_somewhere}
use Rattle.kept_rows.proofs.Carried.{AreCarried, KnowsWas, all_carried, carried_later, carried_steps}

-- a record leaves no fewer blocks, unless it cuts the table
more_or_same : (t : Bool) (count block : ℕ) → count ≤ cond t (max count (block + 1)) count
more_or_same true count block = omega arith
more_or_same false count block = omega arith

count_grows : (rec : Rec) (table : Locator) (count : ℕ) (blocks : List RecBlock) → count ≤ count_with rec table count blocks
unfolding count_with
count_grows rec table count [] = omega arith
count_grows rec table count (block ∷ blocks) =
    let here : Bool = same_locator table block.locator && not (is_left rec block) in
    let next : ℕ = cond here (max count (block.block + 1)) count in
    let first = more_or_same here count block.block in
    let rest = count_grows rec table next blocks in
    omega (arith, first, rest)

uncut : (cut : Option ℕ) (count more : ℕ) → ((blocks : ℕ) → cut ≡ Some blocks → ⊥) → count ≤ more → count ≤ cut_to cut more
uncut None count more never less = less
uncut (Some blocks) count more never less = absurd (never blocks refl)

-- a scan of the table is opened, with this least live id
module _ (stay : AlwaysStay) (o : LogOrigin) (table : Locator) (opened : List Rec) (xmin : ℕ) (is_xmin : IsXmin o.transactions.at xmin (transactions_of opened))
    (present : is_gone table opened ≡ false) (unlocked : locks o table opened ≡ [])
    (sound : (block line : ℕ) (v : Version) → version_at block line (versions o table opened) ≡ Some v → IsSound o opened v) where
  abbrev Free : List Rec → Type 0
  Free later = AreFree o table xmin later

  abbrev is_free : Rec → Type 0
  is_free rec = conflicts o table xmin rec ≡ false

  none_locks : (later : List Rec) → Free later → (x : ℕ) → UnderLock o table (later ++ opened) x → ⊥
  none_locks later free = no_lock o table opened unlocked later (all_take_none o table xmin later free)

  -- the table is not dropped
  pub still_there : (later : List Rec) → LegalAlong o table (later ++ opened) → Free later → is_gone table (later ++ opened) ≡ false
  still_there [] legal free = present
  still_there (rec ∷ later) (rule, legal) free =
      let rest = All-tail is_free rec later free in
      or_from (drops table rec) (is_gone table (later ++ opened))
      (false_from_ne_true (drops table rec) (λ h. none_locks later rest rec.head.xid.0 (rule.locks.drop h)))
      (still_there later legal rest)

  -- and has no fewer blocks
  pub count_along : (later : List Rec) → LegalAlong o table (later ++ opened) → Free later → block_count o table opened ≤ block_count o table (later ++ opened)
  unfolding block_count
  count_along [] legal free = omega arith
  count_along (rec ∷ later) (rule, legal) free =
      let rest = All-tail is_free rec later free in
      let count : ℕ = block_count o table (later ++ opened) in
      let before = count_along later legal rest in
      let grows = count_grows rec table count rec.blocks in
      uncut (cut_of table rec.kind) (block_count o table opened) (count_with rec table count rec.blocks)
      (λ blocks e. none_locks later rest rec.head.xid.0 (rule.locks.cut blocks e)) (omega (arith, before, grows))

  abbrev Carried : List Rec → List Version → Type 0
  Carried later vs = AreCarried (later ++ opened) opened (committed_in o opened) (versions o table opened) vs

  knows_was :
      (later : List Rec) (horizon : ℕ) → Legal o.transactions (transactions_of (later ++ opened)) → Free later → horizon < xmin
      → KnowsWas o table (later ++ opened) horizon (committed_in o opened)
  knows_was later horizon legal free below =
      record {
        live = live_then o later opened;
        failed = failed_then o later opened;
        still = committed_since o later opened;
        tree = tree_then o later opened legal;
        covered = covered_then o opened xmin horizon is_xmin below later legal;
        unlocked = none_locks later free;
      }

  -- one record more
  carried_more :
      (rec : Rec) (later : List Rec) → TableRule o table (later ++ opened) rec → Legal o.transactions (transactions_of (later ++ opened))
      → MakesMultixacts (rec ∷ (later ++ opened)) → is_free rec → Free later → Carried later (versions o table (later ++ opened))
      → Carried (rec ∷ later) (versions o table (rec ∷ (later ++ opened)))
  unfolding versions with_steps
  carried_more rec later rule legal makes free rest carried =
      let older : List Rec = later ++ opened in
      let vs : List Version = versions o table older in
      let steps : List RowStep = steps_of rec table (block_count o table older) vs in
      carried_later stay rec older makes opened (committed_in o opened) (versions o table opened) (versions o table (rec ∷ older))
      (elim (steps_somewhere rec table (block_count o table older) vs rec.blocks) [
        | inl none ↦ subst (λ (made : List RowStep). Carried later (with_steps vs made)) (sym none) carried
        | inr some ↦
            carried_steps o table older opened (horizon_of rec.kind) (committed_in o opened)
            (knows_was later (horizon_of rec.kind) legal rest (horizon_below o table xmin rec is_xmin.live.normal free some))
            (versions o table opened) steps vs rule.births rule.deleters rule.removals rule.multixacts carried
      ])

  -- the versions that stood, after further records
  pub carried_along :
      (later : List Rec) → LegalAlong o table (later ++ opened) → Legal o.transactions (transactions_of (later ++ opened))
      → MakesMultixacts (later ++ opened) → Free later → Carried later (versions o table (later ++ opened))
  carried_along [] legal ids makes free = all_carried o opened (versions o table opened) sound
  carried_along (rec ∷ later) (rule, legal) ids makes free =
      let rest = All-tail is_free rec later free in
      let before = legal_rest o.transactions (transaction_of rec) (transactions_of (later ++ opened)) ids in
      carried_more rec later rule before makes (All-head is_free rec later free) rest
      (carried_along later legal before makes.1 rest)
