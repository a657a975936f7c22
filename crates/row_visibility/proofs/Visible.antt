-- A snapshot that decides as the log does sees exactly the rows.
use Rattle.std.proofs.Common.{◌≡◌, ℕ, Bool, true, false, not, ◌&&◌, ◌||◌, ◌==◌, cond, List, [], ◌++◌, Option, None, Some, Result, Ok, refl, sym, ap, ◌∙◌}
use Rattle.std.proofs.lemmas.Bool.{and_right, eqb-true, false≢true, true≢false}
use Rattle.pg_types.specs.declared.names.Xid.{Xid}
use Rattle.pg_types.specs.declared.status.Status.{Status}
use Rattle.pg_types.specs.declared.status.Unknown.{Unknown}
use Rattle.pg_types.specs.Numbers.{has_bits}
use Rattle.heap_tuple.specs.Tuple.{infomask_of, max_of, xmin_of}
use Rattle.heap_tuple.specs.declared.tuple_view.MaxOf.{MaxOf}
use Rattle.heap_tuple.specs.declared.tuple_view.MaxOf.TheVariants.{None as NoDeleter, Xid as DeletedBy, Multi}
use Rattle.standby_snapshot.specs.Snapshot.{SnapshotData, in_progress, take_of}
use Rattle.tuple_visibility.specs.Visible.{counts, deleter_counts, deleter_of, inserter_counts, is_committed, unless_deleted, updater_counts, visible_of, xmin_marks}
use Rattle.transaction_model.specs.TransactionLaws.{SnapshotDecides, StateAgrees}
use Rattle.subtrans.specs.Parents.{topmost_of}
use Rattle.multixact.specs.Made.{Made}
use Rattle.typed_records.specs.declared.types.Rec.{Rec}
use Rattle.row_model.specs.Versions.{Version, Inserter, Nobody, Always, By, is_frozen}
use Rattle.row_model.specs.Origins.{LogOrigin, committed_in}
use Rattle.row_model.specs.Multixacts.{WasMade, deleter_in, multixacts, updater_of}
use Rattle.row_model.specs.Rows.{counts as inserter_is_in, has_committed, is_deleted, is_row}
use Rattle.row_model.specs.Shows.{AreMarksTrue, Shows, ShowsDeleter, ShowsInserter}
use Rattle.xact_redo.specs.TransactionsOf.{transactions_of}
use Rattle.row_visibility.specs.Sees.{SeesOpened, SeesRows}
use Rattle.row_visibility.proofs.Along.{decided_then, legal_older}
use Rattle.row_visibility.proofs.Forgetting.{along_on}
use Rattle.row_visibility.proofs.Statuses.{committed_along, first_committed, zero_not_committed}
use Rattle.row_visibility.proofs.Updaters.{updaters_along}

-- a mark that is true tells nothing more
marked_or : (marked c : Bool) → (marked ≡ true → c ≡ true) → (marked || c) ≡ c
marked_or true c h = sym (h refl)
marked_or false c h = refl

-- the tests of an inserter: frozen, one of the first two ids, none, marked invalid, and whether it counts
tests_of_inserter :
    (f a b z i k c : Bool) → f ≡ false → ((a || b) ≡ true → c ≡ true) → (z ≡ true → c ≡ false) → (i ≡ true → c ≡ false)
    → k ≡ c → (f || a || b || (not z && not i && k)) ≡ c
tests_of_inserter true a b z i k c thawed one zero failed same = absurd (true≢false thawed)
tests_of_inserter false true b z i k c thawed one zero failed same = sym (one refl)
tests_of_inserter false false true z i k c thawed one zero failed same = sym (one refl)
tests_of_inserter false false false true i k c thawed one zero failed same = sym (zero refl)
tests_of_inserter false false false false true k c thawed one zero failed same = sym (failed refl)
tests_of_inserter false false false false false k c thawed one zero failed same = same

tests_of_none :
    (f i k : Bool) (n : ℕ) → f ≡ false → n ≡ 0 → (f || (n == 1) || (n == 2) || (not (n == 0) && not i && k)) ≡ false
tests_of_none f i k n thawed is =
    ap (λ (t : Bool). t || (n == 1) || (n == 2) || (not (n == 0) && not i && k)) thawed
    ∙ ap (λ (m : ℕ). false || (m == 1) || (m == 2) || (not (m == 0) && not i && k)) is

tests_of_frozen : (f a b k : Bool) → f ≡ true → (f || a || b || k) ≡ true
tests_of_frozen f a b k h = ap (λ (t : Bool). t || a || b || k) h

-- both answers together
seen_is :
    (i c e : Bool) (d : Result Bool Unknown) → i ≡ c → (c ≡ true → d ≡ Ok e)
    → cond i (unless_deleted d) (Ok false) ≡ Ok (c && not e)
seen_is i true e d same gone =
    ap (λ (t : Bool). cond t (unless_deleted d) (Ok false)) same ∙ ap unless_deleted (gone refl)
seen_is i false e d same gone = ap (λ (t : Bool). cond t (unless_deleted d) (Ok false)) same

-- a snapshot by which an id that committed by now is not in progress exactly where it had committed as it was taken, with the
-- statuses and the multixacts of now
module _ (o : LogOrigin) (log : List Rec) (snapshot : SnapshotData) (topmost : ℕ → ℕ) (statuses : ℕ → Status) (updaters : Made)
    (was : ℕ → Bool)
    (decided : (x : ℕ) → (not (in_progress snapshot topmost x) && committed_in o log x) ≡ was x)
    (same : (x : ℕ) → is_committed (statuses x) ≡ committed_in o log x) (made_are : updaters ≡ multixacts log)
    (first : (x : ℕ) → (x == 1 || x == 2) ≡ true → was x ≡ true) (zero : was 0 ≡ false) where
  -- what has not committed by now had not
  was_not : (x : ℕ) → committed_in o log x ≡ false → was x ≡ false
  was_not x e = sym (decided x) ∙ and_right (not (in_progress snapshot topmost x)) (committed_in o log x) e

  -- an id counts exactly where it had committed
  counts_is :
      (marked : Bool) (x : ℕ) → (marked ≡ true → committed_in o log x ≡ true)
      → counts snapshot topmost statuses marked x ≡ was x
  counts_is marked x h =
      ap (λ (t : Bool). not (in_progress snapshot topmost x) && (marked || t)) (same x)
      ∙ ap (λ (t : Bool). not (in_progress snapshot topmost x) && t) (marked_or marked (committed_in o log x) h)
      ∙ decided x

  -- the transaction that a deleter stands for had not committed, if there is one
  none_committed : (x : Option ℕ) → ((y : ℕ) → x ≡ Some y → was y ≡ false) → has_committed was x ≡ false
  none_committed None failed = refl
  none_committed (Some x) failed = failed x refl

  -- the updater of a multixact, for which there is no mark
  updater_is :
      (id : ℕ) (updater : Option Xid)
      → updater_counts snapshot topmost statuses id (Some updater) ≡ Ok (has_committed was (updater_of (Some updater)))
  updater_is id None = refl
  updater_is id (Some x) = ap Ok (counts_is false x.0 (λ h. absurd (false≢true h)))

  multi_is :
      (id : ℕ) (updater : Option Xid) → multixacts log id ≡ Some updater
      → updater_counts snapshot topmost statuses id (updaters id) ≡ Ok (is_deleted (multixacts log) was (Multi id))
  multi_is id updater is =
      ap (λ (made : Made). updater_counts snapshot topmost statuses id (made id)) made_are
      ∙ ap (updater_counts snapshot topmost statuses id) is ∙ updater_is id updater
      ∙ sym (ap (λ (found : Option (Option Xid)). Ok (has_committed was (updater_of found))) is)

  deleter_is :
      (d : MaxOf) (invalid marked : Bool) → WasMade log d
      → ((x : ℕ) → deleter_in log d ≡ Some x → invalid ≡ true → was x ≡ false)
      → ((x : ℕ) → deleter_in log d ≡ Some x → marked ≡ true → committed_in o log x ≡ true)
      → deleter_counts snapshot topmost statuses updaters marked (cond invalid NoDeleter d)
      ≡ Ok (is_deleted (multixacts log) was d)
  deleter_is NoDeleter true marked made failed done = refl
  deleter_is NoDeleter false marked made failed done = refl
  deleter_is (DeletedBy x) true marked made failed done = ap Ok (sym (failed x.0 refl refl))
  deleter_is (DeletedBy x) false marked made failed done = ap Ok (counts_is marked x.0 (done x.0 refl))
  deleter_is (Multi id) true marked made failed done = ap Ok (sym (none_committed (deleter_in log (Multi id)) (λ x e. failed x e refl)))
  deleter_is (Multi id) false marked (updater, is) failed done = multi_is id updater is

  -- the deleter that a tuple shows
  deleter_shown :
      (v : Version) (tuple : List ℕ) → max_of tuple ≡ v.deleter → AreMarksTrue o log v tuple → WasMade log v.deleter
      → deleter_counts snapshot topmost statuses updaters (has_bits (infomask_of tuple) 0x0400) (deleter_of tuple)
      ≡ Ok (is_deleted (multixacts log) was v.deleter)
  unfolding deleter_of
  deleter_shown v tuple is marks made =
      ap (λ (d : MaxOf).
      deleter_counts snapshot topmost statuses updaters (has_bits (infomask_of tuple) 0x0400)
      (cond (has_bits (infomask_of tuple) 0x0800) NoDeleter d))
      is
      ∙ deleter_is v.deleter (has_bits (infomask_of tuple) 0x0800) (has_bits (infomask_of tuple) 0x0400) made
      (λ x e h. was_not x (marks.deleter_failed x e h).not_committed) marks.deleter_committed

  -- with these marks and this xmin
  inserter_tests :
      (m n : ℕ) → (m == 0x0300) ≡ false → (m ≡ 0x0200 → was n ≡ false)
      → (m ≡ 0x0100 → committed_in o log n ≡ true)
      → ((m == 0x0300)
      || (n == 1)
      || (n == 2)
      || (not (n == 0) && not (m == 0x0200) && counts snapshot topmost statuses (m == 0x0100) n))
      ≡ was n
  inserter_tests m n thawed failed done =
      tests_of_inserter (m == 0x0300) (n == 1) (n == 2) (n == 0) (m == 0x0200)
      (counts snapshot topmost statuses (m == 0x0100) n) (was n) thawed (first n)
      (λ h. ap was (eqb-true n 0 h) ∙ zero) (λ h. failed (eqb-true m 0x0200 h))
      (counts_is (m == 0x0100) n (λ h. done (eqb-true m 0x0100 h)))

  -- a transaction's insertion counts exactly where it committed
  inserter_by :
      (tuple : List ℕ) (x : ℕ) → xmin_of tuple ≡ x → is_frozen tuple ≡ false
      → (xmin_marks tuple ≡ 0x0200 → was x ≡ false)
      → (xmin_marks tuple ≡ 0x0100 → committed_in o log x ≡ true)
      → inserter_counts tuple snapshot topmost statuses ≡ was x
  unfolding inserter_counts
  inserter_by tuple x is thawed failed done =
      let at_x : was (xmin_of tuple) ≡ was x = ap was is in
      inserter_tests (xmin_marks tuple) (xmin_of tuple) thawed (λ e. at_x ∙ failed e) (λ e. ap (committed_in o log) is ∙ done e) ∙ at_x

  -- an insertion that was taken back does not count
  inserter_gone :
      (tuple : List ℕ) → xmin_of tuple ≡ 0 → is_frozen tuple ≡ false
      → inserter_counts tuple snapshot topmost statuses ≡ false
  unfolding inserter_counts
  inserter_gone tuple is thawed =
      tests_of_none (xmin_marks tuple == 0x0300) (xmin_marks tuple == 0x0200)
      (counts snapshot topmost statuses (xmin_marks tuple == 0x0100) (xmin_of tuple)) (xmin_of tuple) thawed is

  -- one whose tuple is frozen does
  inserter_frozen :
      (tuple : List ℕ) → is_frozen tuple ≡ true → inserter_counts tuple snapshot topmost statuses ≡ true
  unfolding inserter_counts
  inserter_frozen tuple is =
      tests_of_frozen (xmin_marks tuple == 0x0300) (xmin_of tuple == 1) (xmin_of tuple == 2)
      (not (xmin_of tuple == 0)
      && not (xmin_marks tuple == 0x0200)
      && counts snapshot topmost statuses (xmin_marks tuple == 0x0100) (xmin_of tuple))
      is

  -- an inserter counts where the tuple shows it, frozen only where it counts
  inserter_is :
      (v : Version) (tuple : List ℕ) (i : Inserter) (frozen : Bool) → v.inserter ≡ i → is_frozen tuple ≡ frozen
      → (frozen ≡ true → inserter_is_in was i ≡ true) → ShowsInserter tuple i → AreMarksTrue o log v tuple
      → inserter_counts tuple snapshot topmost statuses ≡ inserter_is_in was i
  inserter_is v tuple i true by frozen counted shows marks = inserter_frozen tuple frozen ∙ sym (counted refl)
  inserter_is v tuple Nobody false by thawed counted shows marks = inserter_gone tuple shows thawed
  inserter_is v tuple Always false by thawed counted shows marks = absurd (false≢true (sym thawed ∙ shows))
  inserter_is v tuple (By x) false by thawed counted shows marks =
      inserter_by tuple x shows thawed (λ e. was_not x (marks.inserter_failed x by e).not_committed) (marks.inserter_committed x by)

  -- a deleter matters where the inserter counts
  deleter_by :
      (v : Version) (tuple : List ℕ) (i : Inserter) → ShowsDeleter tuple i v.deleter → AreMarksTrue o log v tuple
      → WasMade log v.deleter → inserter_is_in was i ≡ true
      → deleter_counts snapshot topmost statuses updaters (has_bits (infomask_of tuple) 0x0400) (deleter_of tuple)
      ≡ Ok (is_deleted (multixacts log) was v.deleter)
  deleter_by v tuple Nobody shows marks made h = absurd (false≢true h)
  deleter_by v tuple Always shows marks made h = deleter_shown v tuple shows marks made
  deleter_by v tuple (By x) shows marks made h = deleter_shown v tuple shows marks made

  pub sees_is :
      (v : Version) (tuple : List ℕ) → Shows o log v tuple → WasMade log v.deleter
      → (v.frozen ≡ true → inserter_is_in was v.inserter ≡ true)
      → visible_of tuple snapshot topmost statuses updaters ≡ Ok (is_row (multixacts log) was v)
  unfolding visible_of
  sees_is v tuple shows made frozen =
      seen_is (inserter_counts tuple snapshot topmost statuses) (inserter_is_in was v.inserter)
      (is_deleted (multixacts log) was v.deleter)
      (deleter_counts snapshot topmost statuses updaters (has_bits (infomask_of tuple) 0x0400) (deleter_of tuple))
      (inserter_is v tuple v.inserter (is_frozen tuple) refl refl (λ h. frozen (sym shows.frozen ∙ h)) shows.inserter shows.marks)
      (deleter_by v tuple v.inserter shows.deleter shows.marks made)

pub sees_then : StateAgrees → SnapshotDecides → SeesOpened
sees_then agrees decide o later opened was now none legal along ready since v tuple shows sound frozen =
    let along_now = along_on later opened was now (take_of was.known).xmin along since in
    sees_is o (later ++ opened) (take_of was.known) (topmost_of now.parents) now.statuses now.updaters (committed_in o opened)
    (decided_then agrees decide o.transactions later opened was now none legal along ready since)
    (committed_along o.transactions (later ++ opened) now none legal along_now) (updaters_along (later ++ opened) now along_now)
    (first_committed o.transactions.at (transactions_of opened))
    (zero_not_committed o.transactions (transactions_of opened) (legal_older o.transactions later opened legal)) v tuple shows
    sound.made frozen

-- a snapshot of this very state
pub sees_along : StateAgrees → SnapshotDecides → SeesRows
sees_along agrees decide o log state none legal along ready v tuple shows sound =
    sees_then agrees decide o [] log state state none legal along ready refl v tuple shows sound sound.frozen
