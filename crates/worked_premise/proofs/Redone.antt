-- A node that replays the records of a log, one after the other.
use Rattle.std.proofs.Common.{◌≡◌, ℕ, List, [], ◌∷◌, length, Option, Result, Ok, refl, sym, ap, subst, ◌∙◌}
use Rattle.wal_record.specs.declared.types.PrevRule.{PrevRule}
use Rattle.wal_reader.specs.Told.{Told}
use Rattle.wal_bodies.specs.Ends.{end_of}
use Rattle.typed_records.specs.declared.types.Rec.{Rec}
use Rattle.heap_redo.specs.Redone.{redone_record}
use Rattle.heap_redo.specs.declared.fault.RedoFault.{RedoFault}
use Rattle.table_schema.specs.Description.{Description, locators}
use Rattle.standby_core.specs.Standby.{Standby, at_origin, described_in, told_to}
use Rattle.standby_model.specs.Archived.{told_by}
use Rattle.standby_model.specs.Log.{Stands, Stop, link_after, next_of, record_at}
use Rattle.session_model.specs.Answers.{Applies}
use Rattle.session_model.specs.Events.{Applied, Reply, ReplayOne}
use Rattle.session_model.specs.NodeSteps.{NodeStep, ReplaysBlocks, ReplaysOne, applied}
use Rattle.run_model.specs.Origin.{origin, start}

module _ (tables : Description) (files : List ℕ → Option (List ℕ)) where
  -- the node after these records, the newest first, of which none is refused at its blocks
  abbrev pub node_after : List Rec → Standby
  node_after [] = start tables
  node_after (rec ∷ older) =
      applied rec (redone_record rec (locators (node_after older).tables) (node_after older).blocks).0 (node_after older)

  abbrev pub AreRedone : List Rec → Type 0
  AreRedone [] = Unit {0}
  AreRedone (rec ∷ older) =
      ((redone_record rec (locators (node_after older).tables) (node_after older).blocks).1 ≡ Ok tt) × AreRedone older

  tables_are : (log : List Rec) → (node_after log).tables ≡ tables
  unfolding at_origin
  tables_are [] = refl
  tables_are (rec ∷ older) = tables_are older

  told_is : (log : List Rec) → told_to (node_after log) (told_by files).byte ≡ told_by files
  unfolding at_origin
  told_is [] = refl
  told_is (rec ∷ older) = told_is older

  at_is : (log : List Rec) → (node_after log).at.0 ≡ end_of origin.redo.0 log
  unfolding at_origin
  at_is [] = refl
  at_is (rec ∷ older) = refl

  prev_is : (log : List Rec) → (node_after log).prev ≡ link_after log
  unfolding at_origin
  prev_is [] = refl
  prev_is (rec ∷ older) = refl

  -- what stands at its position is what follows in the log
  found_is :
      (log : List Rec)
      → record_at (told_to (node_after log) (told_by files).byte) (described_in (node_after log).tables) (node_after log).at.0 (node_after log).prev
      ≡ next_of (told_by files) (described_in tables) origin.redo.0 log
  found_is log =
      ap (λ (told : Told). record_at told (described_in (node_after log).tables) (node_after log).at.0 (node_after log).prev) (told_is log)
      ∙ ap (λ (found : Description). record_at (told_by files) (described_in found) (node_after log).at.0 (node_after log).prev) (tables_are log)
      ∙ ap (λ (at : ℕ). record_at (told_by files) (described_in tables) at (node_after log).prev) (at_is log)
      ∙ ap (λ (prev : PrevRule). record_at (told_by files) (described_in tables) (end_of origin.redo.0 log) prev) (prev_is log)

  pub replays :
      (log : List Rec) (found : Result Rec Stop) (reply : Reply) (now : Standby)
      → next_of (told_by files) (described_in tables) origin.redo.0 log ≡ found → ReplaysOne found (node_after log) reply now
      → NodeStep (told_by files).byte ReplayOne (node_after log) reply now
  replays log found reply now e is =
      subst (λ (r : Result Rec Stop). ReplaysOne r (node_after log) reply now) (sym (found_is log ∙ e)) is

  redone_so :
      (rec : Rec) (s : Standby) → (redone_record rec (locators s.tables) s.blocks).1 ≡ Ok tt
      → ReplaysOne (Ok rec) s (Applied rec.end.0) (applied rec (redone_record rec (locators s.tables) s.blocks).0 s)
  redone_so rec s e =
      let blocks = (redone_record rec (locators s.tables) s.blocks).0 in
      subst (λ (o : Result (Unit {0}) RedoFault). ReplaysBlocks rec blocks o s (Applied rec.end.0) (applied rec blocks s)) (sym e) (refl, refl)

  pub applies :
      (log : List Rec) → Stands (told_by files) (described_in tables) origin.redo.0 log → AreRedone log
      → Applies (NodeStep (told_by files).byte) (length log) (start tables) (node_after log)
  unfolding Applies
  applies [] stands are = refl
  applies (rec ∷ older) (next, stands) (is, are) = (
    node_after older,
    applies older stands are,
    (rec.end.0, replays older (Ok rec) (Applied rec.end.0) (node_after (rec ∷ older)) next (redone_so rec (node_after older) is)),
  )
