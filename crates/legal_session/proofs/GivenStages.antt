-- A scan in the abstract standby from its opening on: as long as it is open, and when it is over.
use Rattle.std.proofs.Common.{◌≡◌, ◌≢◌, ℕ, ◌+◌, ◌<◌, Bool, true, false, ◌&&◌, List, [], ◌∷◌, ◌++◌, map, Option, Some, None, arith, refl, sym, ap, ◌∙◌, subst, inl, inr, if◌then◌else◌}
use Rattle.std.specs.Prelude.{is_some}
use Rattle.std.proofs.lemmas.Bool.{cases_eq, eq-eqb, ne_eqb, true≢false}
use Rattle.typed_records.specs.declared.types.Rec.{Rec}
use Rattle.recovery_conflict.specs.declared.locks.Cause.{Cause}
use Rattle.recovery_conflict.specs.Causes.{cause_of}
use Rattle.seq_scan.specs.BlockRows.{BlockRows}
use Rattle.table_schema.specs.Description.{DescribedTable}
use Rattle.table_schema.specs.Tables.{table_with}
use Rattle.standby_core.specs.Conflicts.{first_cause, oid_of}
use Rattle.standby_core.specs.Scans.{is_whole}
use Rattle.session_model.specs.Events.{Reply, Page, Closed, NoScan, Cancelled}
use Rattle.legal_session.specs.AbstractStandby.{AbstractScan, AbstractStandby, GivesRows, World, after_block, after_close, after_record, met, scan_in, with_scan}
use Rattle.legal_session.specs.GivenRows.{cause_in, said_by, scan_after}
use Rattle.legal_session.proofs.GivenChanges.{Change, Same, More, Adds, Gives, Cancels, Shuts}
use Rattle.legal_session.proofs.GivenScans.{first_given, first_of, behind, found, found_given, found_given_other, found_met, found_more, found_without, found_without_other, none_given, none_without, scan_in_is}

-- the replies for one scan say nothing of another
quiet_page :
    (id other : ℕ) (table : DescribedTable) (block : ℕ) (more : Bool) (page : BlockRows) → other ≢ id
    → said_by id (Page other table block more page) ≡ []
quiet_page id other table block more page apart =
    ap (λ (b : Bool). if b then Page other table block more page ∷ [] else []) (ne_eqb other id apart)

quiet_cancel : (id other : ℕ) (cause : Cause) → other ≢ id → said_by id (Cancelled other cause) ≡ []
quiet_cancel id other cause apart = ap (λ (b : Bool). if b then Cancelled other cause ∷ [] else []) (ne_eqb other id apart)

quiet_close :
    (id other : ℕ) (there : Bool) → (other ≡ id → there ≡ false) → said_by id (if there then Closed other else NoScan) ≡ []
quiet_close id other false none = refl
quiet_close id other true none =
    ap (λ (b : Bool). if b then Closed other ∷ [] else []) (ne_eqb other id (λ same. true≢false (none same)))

-- its own are said of it
own_page :
    (id : ℕ) (table : DescribedTable) (block : ℕ) (more : Bool) (page : BlockRows)
    → said_by id (Page id table block more page) ≡ Page id table block more page ∷ []
own_page id table block more page =
    ap (λ (b : Bool). if b then Page id table block more page ∷ [] else []) (eq-eqb id id refl)

own_cancel : (id : ℕ) (cause : Cause) → said_by id (Cancelled id cause) ≡ Cancelled id cause ∷ []
own_cancel id cause = ap (λ (b : Bool). if b then Cancelled id cause ∷ [] else []) (eq-eqb id id refl)

own_close : (id : ℕ) → said_by id (Closed id) ≡ Closed id ∷ []
own_close id = ap (λ (b : Bool). if b then Closed id ∷ [] else []) (eq-eqb id id refl)

no_scan : (scan : AbstractScan) → ◌≡◌ {A = Option AbstractScan} None (Some scan) → ⊥
no_scan scan e = cc

-- where no scan has an id, a step says nothing of it
pub nothing_said :
    (w : World) (id : ℕ) (s : AbstractStandby) (reply : Reply) (now : AbstractStandby) → scan_in id s.scans ≡ None
    → Change w s reply now → said_by id reply ≡ []
nothing_said w id s reply now none (Same quiet leads) = quiet id
nothing_said w id s reply now none (More rec quiet next leads) = quiet id
nothing_said w id s reply now none (Adds number least quiet leads) = quiet id
nothing_said w id s reply now none (Gives other scan page more e free gives says leads) =
    ap (said_by id) says
    ∙ quiet_page id other (table_with w.tables scan.table) scan.given more page (λ same. no_scan scan (sym none ∙ ap (λ (n : ℕ). scan_in n s.scans) (sym same) ∙ e))
nothing_said w id s reply now none (Cancels other scan cause e cancelled says leads) =
    ap (said_by id) says
    ∙ quiet_cancel id other cause (λ same. no_scan scan (sym none ∙ ap (λ (n : ℕ). scan_in n s.scans) (sym same) ∙ e))
nothing_said w id s reply now none (Shuts other says leads) =
    ap (said_by id) says
    ∙ quiet_close id other (is_some (scan_in other s.scans))
    (λ same. ap (λ (n : ℕ). is_some (scan_in n s.scans)) same ∙ ap is_some none)

module _ (w : World) (id table : ℕ) (opened : List Rec) (xmin : ℕ) where
  -- the scan, with so many blocks given, after further records
  abbrev pub scan_now : ℕ → List Rec → AbstractScan
  scan_now given later = scan_after w table id xmin opened later given

  abbrev pub scan_at : ℕ → AbstractScan
  scan_at given = record { id = id; table = table; opened = opened; xmin = xmin; given = given; cause = None }

  -- it is open
  pub record IsOpen (given : ℕ) (s : AbstractStandby) : Type 0 where
    pub later : List Rec
    pub since : s.life ≡ later ++ opened
    pub held : found id s.scans ≡ scan_now given later ∷ []
    pub below : id < s.next_id

  -- it is over, and this had cancelled it
  pub record IsOver (was : Option Cause) (s : AbstractStandby) : Type 0 where
    pub later : List Rec
    pub since : s.life ≡ later ++ opened
    pub kept : (cause : Cause) → was ≡ Some cause → cause_in w table xmin later ≡ Some cause
    pub none : found id s.scans ≡ []
    pub below : id < s.next_id

  -- one record more
  pub open_met : (given : ℕ) (rec : Rec) (s : AbstractStandby) → IsOpen given s → IsOpen given (after_record w rec s)
  unfolding cause_in met
  open_met given rec s is = record {
    later = rec ∷ is.later;
    since = ap (λ (log : List Rec). rec ∷ log) is.since;
    held = found_met id w rec s.scans ∙ ap (map (met w rec)) is.held;
    below = is.below;
  }

  pub over_met : (was : Option Cause) (rec : Rec) (s : AbstractStandby) → IsOver was s → IsOver was (after_record w rec s)
  unfolding cause_in
  over_met was rec s is = record {
    later = rec ∷ is.later;
    since = ap (λ (log : List Rec). rec ∷ log) is.since;
    kept = λ cause e.
        ap (λ (o : Option Cause). first_cause o (cause_of rec w.tables.database (oid_of w.tables table) xmin)) (is.kept cause e);
    none = found_met id w rec s.scans ∙ ap (map (met w rec)) is.none;
    below = is.below;
  }

  -- another scan is opened, given a page or taken away
  apart_below : (a b : ℕ) → a < b → b ≢ a
  apart_below a b less same = omega (arith, less, same)

  less_more : (a b : ℕ) → a < b → a < b + 1
  less_more a b less = omega (arith, less)

  abbrev new_scan : ℕ → ℕ → AbstractStandby → AbstractScan
  new_scan number least s = record { id = s.next_id; table = number; opened = s.life; xmin = least; given = 0; cause = None }

  open_adds : (given number least : ℕ) (s : AbstractStandby) → IsOpen given s → IsOpen given (with_scan number least s)
  open_adds given number least s is = record {
    later = is.later;
    since = is.since;
    held = found_more id s.scans (new_scan number least s) (apart_below id s.next_id is.below) ∙ is.held;
    below = less_more id s.next_id is.below;
  }

  over_adds : (was : Option Cause) (number least : ℕ) (s : AbstractStandby) → IsOver was s → IsOver was (with_scan number least s)
  over_adds was number least s is = record {
    later = is.later;
    since = is.since;
    kept = is.kept;
    none = found_more id s.scans (new_scan number least s) (apart_below id s.next_id is.below) ∙ is.none;
    below = less_more id s.next_id is.below;
  }

  open_block_other :
      (given other : ℕ) (goes_on : Bool) (s : AbstractStandby) → id ≢ other → IsOpen given s → IsOpen given (after_block other goes_on s)
  open_block_other given other true s apart is =
      record { later = is.later; since = is.since; held = found_given_other id other s.scans apart ∙ is.held; below = is.below }
  open_block_other given other false s apart is =
      record { later = is.later; since = is.since; held = found_without_other id other s.scans apart ∙ is.held; below = is.below }

  open_close_other : (given other : ℕ) (s : AbstractStandby) → id ≢ other → IsOpen given s → IsOpen given (after_close other s)
  open_close_other given other s apart is =
      record { later = is.later; since = is.since; held = found_without_other id other s.scans apart ∙ is.held; below = is.below }

  over_block : (was : Option Cause) (other : ℕ) (goes_on : Bool) (s : AbstractStandby) → IsOver was s → IsOver was (after_block other goes_on s)
  over_block was other true s is =
      record { later = is.later; since = is.since; kept = is.kept; none = none_given id other s.scans is.none; below = is.below }
  over_block was other false s is =
      record { later = is.later; since = is.since; kept = is.kept; none = none_without id other s.scans is.none; below = is.below }

  over_close : (was : Option Cause) (other : ℕ) (s : AbstractStandby) → IsOver was s → IsOver was (after_close other s)
  over_close was other s is =
      record { later = is.later; since = is.since; kept = is.kept; none = none_without id other s.scans is.none; below = is.below }

  -- it is given a page itself, or taken away
  open_block : (given : ℕ) (s : AbstractStandby) → IsOpen given s → IsOpen (given + 1) (after_block id true s)
  open_block given s is = record {
    later = is.later;
    since = is.since;
    held = found_given id s.scans ∙ ap first_given is.held;
    below = is.below;
  }

  taken : (given : ℕ) (was : Option Cause) (s : AbstractStandby) (is : IsOpen given s)
      → ((cause : Cause) → was ≡ Some cause → cause_in w table xmin is.later ≡ Some cause) → IsOver was (after_close id s)
  taken given was s is kept = record {
    later = is.later;
    since = is.since;
    kept = kept;
    none = found_without id s.scans ∙ ap behind is.held;
    below = is.below;
  }

  never : (later : List Rec) (cause : Cause) → ◌≡◌ {A = Option Cause} None (Some cause) → cause_in w table xmin later ≡ Some cause
  never later cause e = cc

  -- the open scan that is found under the id
  pub one_found :
      (given : ℕ) (s : AbstractStandby) (scan : AbstractScan) (is : IsOpen given s) → scan_in id s.scans ≡ Some scan
      → scan ≡ scan_now given is.later
  one_found given s scan is e = one scan (scan_now given is.later) (sym e ∙ scan_in_is id s.scans ∙ ap first_of is.held)
    where
      one : (a b : AbstractScan) → ◌≡◌ {A = Option AbstractScan} (Some a) (Some b) → a ≡ b
      one a b f = cc

  none_found : (was : Option Cause) (s : AbstractStandby) → IsOver was s → scan_in id s.scans ≡ None
  none_found was s is = scan_in_is id s.scans ∙ ap first_of is.none

  -- the rows of a page are those of the scan as it was opened
  gives_at :
      (given : ℕ) (later : List Rec) (page : BlockRows) (more : Bool) → GivesRows w (scan_now given later) page more
      → GivesRows w (scan_at given) page more
  gives_at given later page more gives =
      record { rows = gives.rows; are_rows = gives.are_rows; gives = gives.gives; further = gives.further }

  -- where it is open, a step says nothing of it, and it is open; gives its next page, and it is open; or gives its last page,
  -- closes it, or says what cancelled it, and it is over
  pub data FromOpen (given : ℕ) (said : List Reply) (now : AbstractStandby) : Type 0 where
    StaysOpen : said ≡ [] → IsOpen given now → FromOpen given said now
    Turns :
        (page : BlockRows) → said ≡ Page id (table_with w.tables table) given true page ∷ []
        → GivesRows w (scan_at given) page true → is_whole page.end ≡ true → IsOpen (given + 1) now → FromOpen given said now
    Finishes :
        (page : BlockRows) (more : Bool) → said ≡ Page id (table_with w.tables table) given more page ∷ []
        → GivesRows w (scan_at given) page more → (more && is_whole page.end) ≡ false → IsOver None now → FromOpen given said now
    IsClosed : said ≡ Closed id ∷ [] → IsOver None now → FromOpen given said now
    IsCut : (cause : Cause) → said ≡ Cancelled id cause ∷ [] → IsOver (Some cause) now → FromOpen given said now

  reads_own :
      (given : ℕ) (s : AbstractStandby) (said : List Reply) (now : AbstractStandby) (is : IsOpen given s) (page : BlockRows) (more whole : Bool)
      → GivesRows w (scan_at given) page more → said ≡ Page id (table_with w.tables table) given more page ∷ []
      → is_whole page.end ≡ whole → now ≡ after_block id (more && whole) s → FromOpen given said now
  reads_own given s said now is page true true gives says e leads =
      Turns page says gives e (subst (λ (t : AbstractStandby). IsOpen (given + 1) t) (sym leads) (open_block given s is))
  reads_own given s said now is page true false gives says e leads =
      Finishes page true says gives e
      (subst (λ (t : AbstractStandby). IsOver None t) (sym leads) (taken given None s is (never is.later)))
  reads_own given s said now is page false whole gives says e leads =
      Finishes page false says gives refl
      (subst (λ (t : AbstractStandby). IsOver None t) (sym leads) (taken given None s is (never is.later)))

  reads_here :
      (given : ℕ) (s : AbstractStandby) (reply : Reply) (now : AbstractStandby) (is : IsOpen given s) (scan : AbstractScan) (page : BlockRows) (more : Bool)
      → scan ≡ scan_now given is.later → GivesRows w scan page more
      → reply ≡ Page id (table_with w.tables scan.table) scan.given more page
      → now ≡ after_block id (more && is_whole page.end) s → FromOpen given (said_by id reply) now
  reads_here given s reply now is scan page more same gives says leads =
      reads_own given s (said_by id reply) now is page more (is_whole page.end)
      (gives_at given is.later page more (subst (λ (x : AbstractScan). GivesRows w x page more) same gives))
      (ap (said_by id) (says ∙ ap (λ (x : AbstractScan). Page id (table_with w.tables x.table) x.given more page) same)
      ∙ own_page id (table_with w.tables table) given more page)
      refl leads

  cut_here :
      (given : ℕ) (s : AbstractStandby) (reply : Reply) (now : AbstractStandby) (is : IsOpen given s) (scan : AbstractScan) (cause : Cause)
      → scan ≡ scan_now given is.later → scan.cause ≡ Some cause → reply ≡ Cancelled id cause → now ≡ after_close id s
      → FromOpen given (said_by id reply) now
  cut_here given s reply now is scan cause same e says leads =
      IsCut cause (ap (said_by id) says ∙ own_cancel id cause)
      (subst (λ (t : AbstractStandby). IsOver (Some cause) t) (sym leads)
      (taken given (Some cause) s is
      (λ named f. sym (ap (λ (x : AbstractScan). x.cause) same) ∙ e ∙ f)))

  is_here : (given : ℕ) (s : AbstractStandby) → IsOpen given s → is_some (scan_in id s.scans) ≡ true
  is_here given s is = ap is_some (scan_in_is id s.scans ∙ ap first_of is.held)

  closes_open :
      (given : ℕ) (s : AbstractStandby) (reply : Reply) (now : AbstractStandby) (is : IsOpen given s) (other : ℕ)
      → reply ≡ (if is_some (scan_in other s.scans) then Closed other else NoScan) → now ≡ after_close other s
      → FromOpen given (said_by id reply) now
  closes_open given s reply now is other says leads =
      elim (cases_eq id other) [
        | inl same ↦
            IsClosed
            (ap (said_by id) says
            ∙ ap (λ (n : ℕ). said_by id (if is_some (scan_in n s.scans) then Closed n else NoScan)) (sym same)
            ∙ ap (λ (b : Bool). said_by id (if b then Closed id else NoScan)) (is_here given s is)
            ∙ own_close id)
            (subst (λ (t : AbstractStandby). IsOver None t)
            (ap (λ (n : ℕ). after_close n s) same ∙ sym leads)
            (taken given None s is (never is.later)))
        | inr apart ↦
            StaysOpen
            (ap (said_by id) says
            ∙ quiet_close id other (is_some (scan_in other s.scans)) (λ same. absurd (apart (sym same))))
            (subst (λ (t : AbstractStandby). IsOpen given t) (sym leads) (open_close_other given other s apart is))
      ]

  pub from_open :
      (given : ℕ) (s : AbstractStandby) (reply : Reply) (now : AbstractStandby) → IsOpen given s → Change w s reply now
      → FromOpen given (said_by id reply) now
  from_open given s reply now is (Same quiet leads) =
      StaysOpen (quiet id) (subst (λ (t : AbstractStandby). IsOpen given t) (sym leads) is)
  from_open given s reply now is (More rec quiet next leads) =
      StaysOpen (quiet id) (subst (λ (t : AbstractStandby). IsOpen given t) (sym leads) (open_met given rec s is))
  from_open given s reply now is (Adds number least quiet leads) =
      StaysOpen (quiet id) (subst (λ (t : AbstractStandby). IsOpen given t) (sym leads) (open_adds given number least s is))
  from_open given s reply now is (Gives other scan page more e free gives says leads) =
      elim (cases_eq id other) [
        | inl same ↦
            reads_here given s reply now is scan page more
            (one_found given s scan is (ap (λ (n : ℕ). scan_in n s.scans) same ∙ e)) gives
            (says ∙ ap (λ (n : ℕ). Page n (table_with w.tables scan.table) scan.given more page) (sym same))
            (leads ∙ ap (λ (n : ℕ). after_block n (more && is_whole page.end) s) (sym same))
        | inr apart ↦
            StaysOpen
            (ap (said_by id) says
            ∙ quiet_page id other (table_with w.tables scan.table) scan.given more page (λ f. apart (sym f)))
            (subst (λ (t : AbstractStandby). IsOpen given t) (sym leads)
            (open_block_other given other (more && is_whole page.end) s apart is))
      ]
  from_open given s reply now is (Cancels other scan cause e cancelled says leads) =
      elim (cases_eq id other) [
        | inl same ↦
            cut_here given s reply now is scan cause
            (one_found given s scan is (ap (λ (n : ℕ). scan_in n s.scans) same ∙ e)) cancelled
            (says ∙ ap (λ (n : ℕ). Cancelled n cause) (sym same))
            (leads ∙ ap (λ (n : ℕ). after_close n s) (sym same))
        | inr apart ↦
            StaysOpen
            (ap (said_by id) says ∙ quiet_cancel id other cause (λ f. apart (sym f)))
            (subst (λ (t : AbstractStandby). IsOpen given t) (sym leads) (open_close_other given other s apart is))
      ]
  from_open given s reply now is (Shuts other says leads) = closes_open given s reply now is other says leads

  -- where it is over, it stays so
  over_by :
      (was : Option Cause) (s : AbstractStandby) (reply : Reply) (now : AbstractStandby) → IsOver was s → Change w s reply now
      → IsOver was now
  over_by was s reply now is (Same quiet leads) = subst (λ (t : AbstractStandby). IsOver was t) (sym leads) is
  over_by was s reply now is (More rec quiet next leads) =
      subst (λ (t : AbstractStandby). IsOver was t) (sym leads) (over_met was rec s is)
  over_by was s reply now is (Adds number least quiet leads) =
      subst (λ (t : AbstractStandby). IsOver was t) (sym leads) (over_adds was number least s is)
  over_by was s reply now is (Gives other scan page more e free gives says leads) =
      subst (λ (t : AbstractStandby). IsOver was t) (sym leads) (over_block was other (more && is_whole page.end) s is)
  over_by was s reply now is (Cancels other scan cause e cancelled says leads) =
      subst (λ (t : AbstractStandby). IsOver was t) (sym leads) (over_close was other s is)
  over_by was s reply now is (Shuts other says leads) =
      subst (λ (t : AbstractStandby). IsOver was t) (sym leads) (over_close was other s is)

  -- and no step says anything of it
  pub from_over :
      (was : Option Cause) (s : AbstractStandby) (reply : Reply) (now : AbstractStandby) → IsOver was s → Change w s reply now
      → (said_by id reply ≡ []) × IsOver was now
  from_over was s reply now is change =
      (nothing_said w id s reply now (none_found was s is) change, over_by was s reply now is change)
