-- What a tuple shows after a log, it shows after one record more.
use Rattle.std.proofs.Common.{◌≡◌, ℕ, true, false, not, List, ◌∷◌, Option, Some, None, refl, sym, ap, ◌∙◌}
use Rattle.std.proofs.lemmas.Bool.{and_left, and_right, or_right, or_from, both_ways, false_from_ne_true, false≢true}
use Rattle.typed_records.specs.declared.types.Rec.{Rec}
use Rattle.pg_types.specs.declared.names.Xid.{Xid}
use Rattle.heap_tuple.specs.declared.tuple_view.MaxOf.{MaxOf}
use Rattle.heap_tuple.specs.declared.tuple_view.MaxOf.TheVariants.{None as NoDeleter, Xid as DeletedBy, Multi}
use Rattle.heap_page.specs.Item.{Item, numbered}
use Rattle.transaction_model.specs.Transactions.{Kind, Commit, Abort, Assignment, Running, Shutdown, Online, Other, TransactionRecord, commits, ends, committed, ended, Live}
use Rattle.transaction_model.specs.LegalTransactions.{TransactionOrigin, RuleOf, Legal}
use Rattle.transaction_model.proofs.Endings.{live_not_committed}
use Rattle.xact_redo.specs.TransactionsOf.{transaction_of, transactions_of}
use Rattle.row_model.specs.Versions.{Version, Inserter, Nobody, Always, By, version_at}
use Rattle.row_model.specs.Origins.{LogOrigin, HasFailed, IsLive, committed_in}
use Rattle.row_model.specs.Multixacts.{WasMade, deleter_in, made_by, multixacts, updater_of}
use Rattle.row_model.specs.LegalRows.{MakesMultixact}
use Rattle.row_model.specs.Rows.{counts, has_committed, is_row}
use Rattle.row_model.specs.Shows.{AreMarksTrue, Shows, ShowsPlace, ShowsBlock}
use Rattle.row_model.specs.Shown.{IsSound}
use Rattle.row_model.proofs.Stays.{deleter_stays, made_stays}

-- only a live id commits
commits_live :
    (o : TransactionOrigin) (xid : ℕ) (kind : Kind) (older now : List TransactionRecord) → RuleOf o xid kind older now → (x : ℕ)
    → commits x xid kind ≡ true → Live o.at x older
commits_live o xid (Commit subs) older now rule x h = rule.live x h
commits_live o xid (Abort subs) older now rule x h = absurd (false≢true h)
commits_live o xid (Assignment top subs) older now rule x h = absurd (false≢true h)
commits_live o xid (Running head xids) older now rule x h = absurd (false≢true h)
commits_live o xid (Shutdown next) older now rule x h = absurd (false≢true h)
commits_live o xid (Online redo next) older now rule x h = absurd (false≢true h)
commits_live o xid Other older now rule x h = absurd (false≢true h)

module _ (o : TransactionOrigin) (r : TransactionRecord) (older : List TransactionRecord) (legal : Legal o (r ∷ older)) where
  -- a record more commits no id that has ended
  ended_uncommitted : (x : ℕ) → ended o.at x older ≡ true → committed o.at x older ≡ false → committed o.at x (r ∷ older) ≡ false
  unfolding committed Legal
  ended_uncommitted x has_ended not_committed =
      or_from (commits x r.xid r.kind) (committed o.at x older)
      (false_from_ne_true (commits x r.xid r.kind)
      (λ h. both_ways (ended o.at x older) (commits_live o r.xid r.kind older (r ∷ older) legal.0 x h).not_ended has_ended))
      not_committed

  ended_still : (x : ℕ) → ended o.at x older ≡ true → ended o.at x (r ∷ older) ≡ true
  unfolding ended
  ended_still x h = or_right (ends x r.xid r.kind) (ended o.at x older) h

  committed_still : (x : ℕ) → committed o.at x older ≡ true → committed o.at x (r ∷ older) ≡ true
  unfolding committed
  committed_still x h = or_right (commits x r.xid r.kind) (committed o.at x older) h

-- why a version that lost its place is no row: its insertion was taken back, its inserter failed, or a deleter committed
pub data WhyLost (from : LogOrigin) (log : List Rec) (v : Version) : Type 0 where
  TakenBack : v.inserter ≡ Nobody → WhyLost from log v
  FailedBy : (x : ℕ) → v.inserter ≡ By x → HasFailed from log x → WhyLost from log v
  WasDeletedBy : (x : ℕ) → deleter_in log v.deleter ≡ Some x → committed_in from log x ≡ true → WhyLost from log v

-- so it is none
pub lost_no_row : (from : LogOrigin) (log : List Rec) (v : Version) → WhyLost from log v → is_row (multixacts log) (committed_in from log) v ≡ false
lost_no_row from log v (TakenBack by) =
    and_left (counts (committed_in from log) v.inserter) (not (has_committed (committed_in from log) (deleter_in log v.deleter)))
    (ap (counts (committed_in from log)) by)
lost_no_row from log v (FailedBy x by failed) =
    and_left (counts (committed_in from log) v.inserter) (not (has_committed (committed_in from log) (deleter_in log v.deleter)))
    (ap (counts (committed_in from log)) by ∙ failed.not_committed)
lost_no_row from log v (WasDeletedBy x by done) =
    and_right (counts (committed_in from log) v.inserter) (not (has_committed (committed_in from log) (deleter_in log v.deleter)))
    (ap (λ (d : Option ℕ). not (has_committed (committed_in from log) d)) by ∙ ap not done)

-- a deleter that stands for a transaction was made
made_if_stands : (found : Option (Option Xid)) (x : ℕ) → updater_of found ≡ Some x → (updater : Option Xid) × (found ≡ Some updater)
made_if_stands None x e = cc
made_if_stands (Some updater) x e = (updater, refl)

stands_made : (log : List Rec) (d : MaxOf) (x : ℕ) → deleter_in log d ≡ Some x → WasMade log d
stands_made log NoDeleter x e = tt
stands_made log (DeletedBy y) x e = tt
stands_made log (Multi id) x e = made_if_stands (multixacts log id) x e

module _ (from : LogOrigin) (rec : Rec) (older : List Rec) (legal : Legal from.transactions (transactions_of (rec ∷ older)))
    (makes : MakesMultixact older (made_by rec.kind)) where
  committed_later : (x : ℕ) → committed_in from older x ≡ true → committed_in from (rec ∷ older) x ≡ true
  committed_later x h = committed_still from.transactions (transaction_of rec) (transactions_of older) legal x h

  failed_later : (x : ℕ) → HasFailed from older x → HasFailed from (rec ∷ older) x
  failed_later x failed =
      record {
        has_ended = ended_still from.transactions (transaction_of rec) (transactions_of older) legal x failed.has_ended;
        not_committed =
            ended_uncommitted from.transactions (transaction_of rec) (transactions_of older) legal x failed.has_ended
            failed.not_committed;
      }

  -- the deleter was made, so it stands for the same transaction
  pub marks_later :
      (v : Version) (tuple : List ℕ) → WasMade older v.deleter → AreMarksTrue from older v tuple
      → AreMarksTrue from (rec ∷ older) v tuple
  marks_later v tuple made marks =
      let same = deleter_stays rec older makes v.deleter made in
      record {
        inserter_committed = λ x e h. committed_later x (marks.inserter_committed x e h);
        inserter_failed = λ x e h. failed_later x (marks.inserter_failed x e h);
        deleter_committed = λ x e h. committed_later x (marks.deleter_committed x (sym same ∙ e) h);
        deleter_failed = λ x e h. failed_later x (marks.deleter_failed x (sym same ∙ e) h);
      }

  pub shows_later :
      (v : Version) (tuple : List ℕ) → WasMade older v.deleter → Shows from older v tuple → Shows from (rec ∷ older) v tuple
  shows_later v tuple made shows =
      record {
        row = shows.row;
        inserter = shows.inserter;
        frozen = shows.frozen;
        deleter = shows.deleter;
        marks = marks_later v tuple made shows.marks;
      }

  place_later :
      (place : Option Version) (item : Item) → ((v : Version) → place ≡ Some v → IsSound from older v)
      → ShowsPlace from older place item → ShowsPlace from (rec ∷ older) place item
  place_later None item sound shows = shows
  place_later (Some v) item sound (tuple, is, shows) = (tuple, is, shows_later v tuple (sound v refl).made shows)

  pub block_later :
      (vs : List Version) (block : ℕ) (items : List Item)
      → ((line : ℕ) (v : Version) → version_at block line vs ≡ Some v → IsSound from older v)
      → ShowsBlock from older vs block items → ShowsBlock from (rec ∷ older) vs block items
  block_later vs block items sound shows line =
      place_later (version_at block line vs) (numbered items line) (sound line) (shows line)

  counts_later : (i : Inserter) → counts (committed_in from older) i ≡ true → counts (committed_in from (rec ∷ older)) i ≡ true
  counts_later Nobody h = h
  counts_later Always h = h
  counts_later (By x) h = committed_later x h

  pub sound_later : (v : Version) → IsSound from older v → IsSound from (rec ∷ older) v
  sound_later v sound =
      record { made = made_stays rec older makes v.deleter sound.made; frozen = λ h. counts_later v.inserter (sound.frozen h) }

  pub lost_later : (v : Version) → WhyLost from older v → WhyLost from (rec ∷ older) v
  lost_later v (TakenBack by) = TakenBack by
  lost_later v (FailedBy x by failed) = FailedBy x by (failed_later x failed)
  lost_later v (WasDeletedBy x by done) =
      WasDeletedBy x (deleter_stays rec older makes v.deleter (stands_made older v.deleter x by) ∙ by) (committed_later x done)

-- a live transaction has not committed
pub live_uncommitted : (from : LogOrigin) (log : List Rec) (x : ℕ) → IsLive from log x → committed_in from log x ≡ false
live_uncommitted from log x live = live_not_committed from.transactions.at x (transactions_of log) live
