-- After a legal log the blocks of a described table show its versions.
use Rattle.std.proofs.Common.{◌≡◌, ℕ, ◌<◌, true, false, List, [], ◌∷◌, All, Option, Some, None, Result, Ok, Err, arith, inl, inr, refl, sym, ap, ◌∙◌, subst}
use Rattle.std.proofs.lemmas.Bool.{or_parts}
use Rattle.std.proofs.lemmas.List.Elements.{All-head, All-tail}
use Rattle.std.specs.Prelude.{slice_get}
use Rattle.pg_types.specs.declared.names.Locator.{Locator}
use Rattle.heap_page.specs.Law.{TuplesKeepRule, ZerosHaveNone}
use Rattle.typed_records.specs.declared.types.Rec.{Rec}
use Rattle.typed_records.specs.declared.types.RecBlock.{RecBlock}
use Rattle.heap_redo.specs.declared.fault.RedoFault.{RedoFault}
use Rattle.page_store.specs.Seen.{Seen, absent, View}
use Rattle.heap_redo.specs.Redone.{Outcome, cut_by, redone, redone_record, redone_unless, table_of, view_outcome}
use Rattle.transaction_model.specs.LegalTransactions.{Legal}
use Rattle.xact_redo.specs.TransactionsOf.{transactions_of}
use Rattle.row_model.specs.Versions.{RowStep, Version, with_steps, version_at}
use Rattle.row_model.specs.Origins.{BeginsEmpty, LogOrigin, TableOrigin}
use Rattle.row_model.specs.RowSteps.{block_count, blocks_of, count_with, cut_of, cut_to, steps_in, steps_of, versions, view_after, view_before, view_with_record}
use Rattle.record_numbers.specs.Fits.{RecordFits}
use Rattle.row_model.specs.Multixacts.{made_by}
use Rattle.row_model.specs.LegalRows.{LegalAlong, MakesMultixact, MakesMultixacts, TableRule, are_apart}
use Rattle.row_model.specs.LegalSteps.{horizon_of}
use Rattle.row_model.specs.Locks.{drops, is_gone}
use Rattle.wal_bodies.specs.Ends.{Rises, end_of}
use Rattle.row_redo.specs.Shown.{BlocksShowVersions}
use Rattle.row_redo.proofs.Apart.{all_lost_later, all_sound_later, steps_apart, steps_lost, steps_sound}
use Rattle.row_redo.proofs.Rules.{StepsRule, rules_of}
use Rattle.row_redo.proofs.Tables.{legal_rows}
use Rattle.row_redo.proofs.Standing.{Holds, Standing, holds_until, holds_behind, holds_later, standing_shows}
use Rattle.row_redo.proofs.Cuts.{by_cut}
use Rattle.row_redo.proofs.Walk.{walk}

-- a table without blocks and versions
none_standing :
    (from : LogOrigin) (log : List Rec) (at : ℕ) (blocks : ℕ → Seen) → ((block : ℕ) → blocks block ≡ absent)
    → Standing from log [] 0 at blocks
unfolding version_at
none_standing from log at blocks none =
    record {
      holds = λ block. subst (λ (found : Seen). Holds from log [] 0 at block found) (sym (none block)) (omega arith, λ line. refl);
      apart = λ block line. omega arith;
      sound = λ block line v e. cc;
      lost = tt;
    }

no_blocks :
    (from : LogOrigin) (log : List Rec) (vs : List Version) (count at : ℕ) (blocks : ℕ → Seen) → vs ≡ [] → count ≡ 0
    → ((block : ℕ) → blocks block ≡ absent) → Standing from log vs count at blocks
no_blocks from log vs count at blocks empty zero none =
    subst (λ (n : ℕ). Standing from log vs n at blocks) (sym zero)
    (subst (λ (l : List Version). Standing from log l 0 at blocks) (sym empty) (none_standing from log at blocks none))

-- an origin that is empty has no blocks
absent_before : (from : LogOrigin) → BeginsEmpty from → (table : Option Locator) (block : ℕ) → blocks_of from table block ≡ absent
absent_before from empty None block = refl
absent_before from empty (Some table) block = ap (λ (t : TableOrigin). t.blocks block) (empty.tables table)

-- redo of a record that was not refused
outcome_ok : (out : Outcome) (view : View) → view_outcome out.0 out.1 ≡ Ok view → out ≡ (view, Ok tt)
outcome_ok (was, Ok done) view e = let same : was ≡ view = cc in ap (λ (v : View). (v, Ok tt)) same
outcome_ok (was, Err fault) view e = cc

record_done :
    (rec : Rec) (known : List Locator) (r : Result View RedoFault) (view : View) → view_with_record rec known r ≡ Ok view
    → (was : View) × (r ≡ Ok was) × (redone_record rec known was ≡ (view, Ok tt))
unfolding view_with_record
record_done rec known (Err fault) view e = cc
record_done rec known (Ok was) view e = (was, refl, outcome_ok (redone_record rec known was) view e)

-- its blocks were redone, where it takes none away; else it left those that are there
uncut_done :
    (rec : Rec) (known : List Locator) (was view : View) → cut_by rec rec.kind known was ≡ None
    → redone_record rec known was ≡ (view, Ok tt) → redone rec known rec.blocks was ≡ (view, Ok tt)
unfolding redone_record
uncut_done rec known was view keeps done = sym (ap (redone_unless rec known was) keeps) ∙ done

cut_done :
    (rec : Rec) (known : List Locator) (was view left : View) → cut_by rec rec.kind known was ≡ Some left
    → redone_record rec known was ≡ (view, Ok tt) → left ≡ view
unfolding redone_record
cut_done rec known was view left cuts done =
    ap (λ (out : Outcome). out.0) (sym (ap (redone_unless rec known was) cuts) ∙ done)

-- a record without blocks makes no steps, and adds no block
no_blocks_steps : (rec : Rec) (locator : Locator) (count : ℕ) (vs : List Version) → rec.blocks ≡ [] → with_steps vs (steps_of rec locator count vs) ≡ vs
unfolding steps_in with_steps
no_blocks_steps rec locator count vs none = ap (λ (blocks : List RecBlock). with_steps vs (steps_in rec locator count vs blocks)) none

no_blocks_count : (rec : Rec) (locator : Locator) (count : ℕ) → rec.blocks ≡ [] → count_with rec locator count rec.blocks ≡ count
unfolding count_with
no_blocks_count rec locator count none = ap (count_with rec locator count) none

module _ (keep : TuplesKeepRule) (no_items : ZerosHaveNone) (from : LogOrigin) (empty : BeginsEmpty from) (known : List Locator)
    (locator : Locator) (table : ℕ) (here : table_of known locator ≡ Some table) where
  -- what holds of the table's blocks after a record's steps: those of a record that changes its blocks
  after_blocks :
      (rec : Rec) (older : List Rec) (was view : View) → RecordFits rec → are_apart rec.blocks ≡ true → TableRule from locator older rec
      → Standing from older (versions from locator older) (block_count from locator older) (end_of 0 older) (was table)
      → redone rec known rec.blocks was ≡ (view, Ok tt) → end_of 0 older < rec.end.0 → (b : ℕ)
      → Holds from older
      (with_steps (versions from locator older) (steps_of rec locator (block_count from locator older) (versions from locator older)))
      (count_with rec locator (block_count from locator older) rec.blocks) rec.end.0 b (view table b)
  unfolding versions
  after_blocks rec older was view fits apart rule standing done less b =
      let before : ℕ = end_of 0 older in
      let count : ℕ = block_count from locator older in
      let vs : List Version = versions from locator older in
      let steps : List RowStep = steps_of rec locator count vs in
      let stage = walk keep no_items from older rec known locator table here (omega arith) count vs (with_steps vs steps) fits rec.blocks was
      view vs count apart fits.blocks
      (rules_of from locator older (horizon_of rec.kind) vs steps rule.births rule.deleters rule.removals rule.multixacts) refl rule.blocks
      (record {
        holds = λ n. holds_until from older vs count before rec.end.0 n (was table n) less (standing.holds n);
        behind = λ n comes. holds_behind from older vs count before rec.end.0 n (was table n) less (standing.holds n);
        same = λ n comes line. refl;
      }) done in
      stage.holds b

  -- those of any record
  after_record :
      (rec : Rec) (older : List Rec) (was view : View) → RecordFits rec → are_apart rec.blocks ≡ true → TableRule from locator older rec
      → drops locator rec ≡ false
      → Standing from older (versions from locator older) (block_count from locator older) (end_of 0 older) (was table)
      → redone_record rec known was ≡ (view, Ok tt) → end_of 0 older < rec.end.0 → (b : ℕ)
      → Holds from older
      (with_steps (versions from locator older) (steps_of rec locator (block_count from locator older) (versions from locator older)))
      (cut_to (cut_of locator rec.kind) (count_with rec locator (block_count from locator older) rec.blocks)) rec.end.0 b (view table b)
  unfolding versions
  after_record rec older was view fits apart rule kept standing done less b =
      let count : ℕ = block_count from locator older in
      let vs : List Version = versions from locator older in
      let last : List Version = with_steps vs (steps_of rec locator count vs) in
      let more : ℕ = count_with rec locator count rec.blocks in
      let cut_here : Option ℕ = cut_of locator rec.kind in
      let before : (n : ℕ) → Holds from older vs count rec.end.0 n (was table n) =
      λ n. holds_until from older vs count (end_of 0 older) rec.end.0 n (was table n) less (standing.holds n) in
      elim (by_cut known locator table here from older rec was rec.kind kept) [
        | inl uncut ↦
            subst (λ (n : ℕ). Holds from older last n rec.end.0 b (view table b)) (sym (uncut.count more))
            (after_blocks rec older was view fits apart rule standing (uncut_done rec known was view uncut.keeps done) less b)
        | inr cuts ↦
            let none : rec.blocks ≡ [] = fits.blockless cuts.blockless in
            subst (λ (v : View). Holds from older last (cut_to cut_here more) rec.end.0 b (v table b))
            (cut_done rec known was view cuts.left cuts.cuts done)
            (subst (λ (n : ℕ). Holds from older last (cut_to cut_here n) rec.end.0 b (cuts.left table b))
            (sym (no_blocks_count rec locator count none))
            (cuts.holds last count rec.end.0 rule.cut
            (subst (λ (l : List Version). (n : ℕ) → Holds from older l count rec.end.0 n (was table n))
            (sym (no_blocks_steps rec locator count vs none)) before) b))
      ]

  -- one record more
  one_more :
      (rec : Rec) (older : List Rec) (was view : View) → Legal from.transactions (transactions_of (rec ∷ older))
      → MakesMultixact older (made_by rec.kind) → RecordFits rec → are_apart rec.blocks ≡ true → TableRule from locator older rec
      → drops locator rec ≡ false
      → Standing from older (versions from locator older) (block_count from locator older) (end_of 0 older) (was table)
      → redone_record rec known was ≡ (view, Ok tt) → end_of 0 older < rec.end.0
      → Standing from (rec ∷ older) (versions from locator (rec ∷ older)) (block_count from locator (rec ∷ older)) rec.end.0 (view table)
  unfolding versions block_count
  one_more rec older was view legal makes fits apart rule kept standing done less =
      let count : ℕ = block_count from locator older in
      let vs : List Version = versions from locator older in
      let steps : List RowStep = steps_of rec locator count vs in
      let last : List Version = with_steps vs steps in
      let rules : StepsRule from older vs steps =
      rules_of from locator older (horizon_of rec.kind) vs steps rule.births rule.deleters rule.removals rule.multixacts in
      let sound = steps_sound from older steps vs rules standing.sound in
      record {
        holds = λ b.
            holds_later from rec older legal makes last sound (cut_to (cut_of locator rec.kind) (count_with rec locator count rec.blocks)) rec.end.0 b (view table b)
            (after_record rec older was view fits apart rule kept standing done less b);
        apart = steps_apart from older steps vs rules standing.apart;
        sound = all_sound_later from rec older legal makes last sound;
        lost = all_lost_later from rec older legal makes last (steps_lost from older steps vs rules standing.apart standing.lost);
      }

  -- all records
  along :
      (log : List Rec) (view : View) → Legal from.transactions (transactions_of log) → MakesMultixacts log
      → All (λ (r : Rec). are_apart r.blocks ≡ true) log → All RecordFits log → Rises 0 log → LegalAlong from locator log
      → view_after from known log ≡ Ok view → is_gone locator log ≡ false
      → Standing from log (versions from locator log) (block_count from locator log) (end_of 0 log) (view table)
  unfolding Legal versions block_count view_after
  along [] view legal makes apart fits rises rules done kept =
      let same : view_before from known ≡ view = cc in
      no_blocks from [] (from.tables locator).versions (from.tables locator).count 0 (view table)
      (ap (λ (t : TableOrigin). t.versions) (empty.tables locator))
      (ap (λ (t : TableOrigin). t.count) (empty.tables locator))
      (λ block. sym (ap (λ (v : View). v table block) same) ∙ absent_before from empty (slice_get known table) block)
  along (rec ∷ older) view (rule, legal) (makes, made) apart fits (less, rises) (table_rule, rules) done kept =
      let (first_kept, rest_kept) = or_parts (drops locator rec) (is_gone locator older) kept in
      let (was, before, redo) = record_done rec known (view_after from known older) view done in
      one_more rec older was view (rule, legal) makes (All-head RecordFits rec older fits)
      (All-head (λ (r : Rec). are_apart r.blocks ≡ true) rec older apart) table_rule first_kept
      (along older was legal made (All-tail (λ (r : Rec). are_apart r.blocks ≡ true) rec older apart) (All-tail RecordFits rec older fits) rises rules before rest_kept)
      redo less

pub blocks_show : TuplesKeepRule → ZerosHaveNone → BlocksShowVersions
blocks_show keep no_items from known log view table locator here empty legal rises fits done kept =
    standing_shows from log (versions from locator log) (block_count from locator log) (end_of 0 log) (view table)
    (along keep no_items from empty known locator table here log view legal.transactions legal.multixacts legal.apart fits rises
    (legal_rows known locator table here from log legal.rows).along done kept)
