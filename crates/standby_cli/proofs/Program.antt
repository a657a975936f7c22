-- What the program leaves, by how its run begins.
use Rattle.std.proofs.Common.{◌≡◌, ◌⊎◌, ℕ, ◌<◌, inl, inr, lit<, List, [], Option, None, Some, IfSome, refl, sym, ap, subst, arith, ◌∙◌, codes}
use Rattle.outside.specs.Archive.{HaveBytes}
use Rattle.outside.specs.Sink.{Appends}
use Rattle.wal_archive.specs.ArchiveLog.{archived_bytes}
use Rattle.table_schema.specs.Description.{Description}
use Rattle.standby_model.specs.Archived.{segment_size}
use Rattle.session_model.specs.NodeSteps.{NodeStep}
use Rattle.session_model.specs.Texts.{line}
use Rattle.standby_session.specs.declared.fault.SessionFault.{SessionFault}
use Rattle.standby_session.specs.declared.fault.SessionFault.TheVariants as fault
use Rattle.legal_session.specs.Represents.{BeginsSo, NodeSimulates}
use Rattle.run_model.specs.Leaves.{IsFault, IsRejected, Outside, RejectionLeaves, RunLeaves, ScanLeaves}
use Rattle.run_model.specs.Origin.{start}
use Rattle.run_model.specs.Starts.{BadWords, SchemaMissing, SchemaRefused, Rejection, Start, Rejects, Scans, Holds, Starts, rejection_status, rejection_text}
use Rattle.run_model.proofs.Beginning.{one_start}
use Rattle.standby_cli.specs.Watched.{watched}
use Rattle.standby_cli.proofs.Appending.{line_after}
use Rattle.standby_cli.proofs.Ending.{no_fault, other, other_than}
use Rattle.standby_cli.proofs.Legal.{legal_run}
use Rattle.standby_cli.specs.Endings.{EndsBy, status_of}
use Rattle.standby_cli.proofs.Running.{IsEarly, scan_early, session_early}
use Rattle.standby_session.proofs.Appending.{nothing_appended}
use Rattle.standby_cli.specs.Runs.{RunsByNode, RunsLegally}

-- a scan's run is told without a source
pub scan_anyway :
    (byte : ℕ → Option ℕ) (tables : Description) (name : List ℕ) (status f h s u : ℕ) (P Q : Type 0) (before now : Option (List ℕ))
    → ScanLeaves (NodeStep byte) (start tables) name status (watched f h s u P before now)
    → ScanLeaves (NodeStep byte) (start tables) name status (watched f h s u Q before now)
scan_anyway byte tables name status f h s u P Q before now leaves =
    record { done = leaves.done; archive = leaves.archive; memory = leaves.memory; sink = leaves.sink }

pub rejection_anyway :
    (rejection : Rejection) (status f h s u : ℕ) (P Q : Type 0) (before now : Option (List ℕ))
    → RejectionLeaves rejection status (watched f h s u P before now) → RejectionLeaves rejection status (watched f h s u Q before now)
rejection_anyway rejection status f h s u P Q before now leaves =
    record { statuses = leaves.statuses; done = leaves.done; archive = leaves.archive; memory = leaves.memory; sink = leaves.sink }

pub same_rejection : (a b : Rejection) → Rejects a ≡ Rejects b → a ≡ b
same_rejection a b e = cc

module _ (words : List (List ℕ)) (base : Option (List ℕ → Option (List ℕ))) where
  abbrev pub Begins : Start → Type 0
  Begins a = IfSome base (λ described. Starts words described a)

  -- what is so of the one way in which the run begins
  by_start :
      (described : List ℕ → Option (List ℕ)) (a : Start) (P : Start → Type 0) → Starts words described a → P a
      → (begins : Start) → Starts words described begins → P begins
  by_start described a P starts holds begins other = subst P (one_start words described a begins starts other) holds

  module _ (bytes : Option (ℕ → Option ℕ)) (source : Option (List ℕ)) (status : ℕ) (o : Outside) where
    abbrev Leaves : Start → Type 0
    Leaves a = IfSome bytes (λ byte. RunLeaves (λ tables. NodeStep byte) start source a status o)

    -- a run that begins so
    pub run_begun : (a : Start) → Begins a → Leaves a → RunsByNode words base bytes source status o
    run_begun a begins leaves = by base bytes begins leaves
      where
        by :
            (base : Option (List ℕ → Option (List ℕ))) (bytes : Option (ℕ → Option ℕ)) → IfSome base (λ described. Starts words described a)
            → IfSome bytes (λ byte. RunLeaves (λ tables. NodeStep byte) start source a status o)
            → RunsByNode words base bytes source status o
        by None bytes begins leaves = tt
        by (Some described) None begins leaves = tt
        by (Some described) (Some byte) begins leaves =
            by_start described a (λ (b : Start). RunLeaves (λ tables. NodeStep byte) start source b status o) begins leaves

    pub rejected_leaves : (rejection : Rejection) → Leaves (Rejects rejection)
    rejected_leaves rejection = any bytes
      where
        any : (bytes : Option (ℕ → Option ℕ)) → IfSome bytes (λ byte. Unit {0})
        any None = tt
        any (Some byte) = tt

    -- or one that a fault ended before it began
    pub run_early :
        (why : SessionFault) → IsEarly why → status ≡ status_of why → EndsBy why o.trouble o.before o.now → RunsByNode words base bytes source status o
    run_early why early e ends = by base bytes
      where
        begun : (byte : ℕ → Option ℕ) (begins : Start) → RunLeaves (λ tables. NodeStep byte) start source begins status o
        begun byte (Rejects rejection) = tt
        begun byte (Scans tables name) = scan_early tables o (Some byte) name status why early e ends
        begun byte (Holds tables) = session_early tables o (Some byte) source status why early e ends

        by : (base : Option (List ℕ → Option (List ℕ))) (bytes : Option (ℕ → Option ℕ)) → RunsByNode words base bytes source status o
        by None bytes = tt
        by (Some described) None = tt
        by (Some described) (Some byte) = λ begins starts. begun byte begins

  -- and over a legal log
  pub legal_clause :
      NodeSimulates → BeginsSo → (files : Option (List ℕ → Option (List ℕ))) (source : Option (List ℕ)) (status : ℕ) (o : Outside)
      → HaveBytes files → RunsByNode words base (archived_bytes files segment_size) source status o
      → RunsLegally words base files source status o
  legal_clause simulates begins_so files source status o have run = by base files have run
    where
      by :
          (base files : Option (List ℕ → Option (List ℕ))) → HaveBytes files
          → RunsByNode words base (archived_bytes files segment_size) source status o → RunsLegally words base files source status o
      by None files have run = tt
      by (Some described) None have run = tt
      by (Some described) (Some fs) have run = λ top begins starts legal.
          legal_run simulates begins_so top fs have words described source begins status o starts legal (run begins starts)

  module _ (P : Rejection → Type 0) where
    abbrev pub RejectsClause : Type 0
    RejectsClause = IfSome base (λ described. (rejection : Rejection) → Starts words described (Rejects rejection) → P rejection)

    -- no run that begins otherwise is rejected
    pub not_rejecting : (a : Start) → ((rejection : Rejection) → a ≡ Rejects rejection → ⊥) → Begins a → RejectsClause
    not_rejecting a never begins = by base begins
      where
        by :
            (base : Option (List ℕ → Option (List ℕ))) → IfSome base (λ described. Starts words described a)
            → IfSome base (λ described. (rejection : Rejection) → Starts words described (Rejects rejection) → P rejection)
        by None begins = tt
        by (Some described) begins = λ rejection starts.
            absurd (never rejection (one_start words described a (Rejects rejection) begins starts))

    pub rejecting : (r : Rejection) → Begins (Rejects r) → P r → RejectsClause
    rejecting r begins holds = by base begins
      where
        by :
            (base : Option (List ℕ → Option (List ℕ))) → IfSome base (λ described. Starts words described (Rejects r))
            → IfSome base (λ described. (rejection : Rejection) → Starts words described (Rejects rejection) → P rejection)
        by None begins = tt
        by (Some described) begins = λ rejection starts.
            subst P (same_rejection r rejection (one_start words described (Rejects r) (Rejects rejection) begins starts)) holds

    -- what holds of all holds of the one
    pub any_rejection : ((rejection : Rejection) → P rejection) → RejectsClause
    any_rejection holds = by base
      where
        by :
            (base : Option (List ℕ → Option (List ℕ)))
            → IfSome base (λ described. (rejection : Rejection) → Starts words described (Rejects rejection) → P rejection)
        by None = tt
        by (Some described) = λ rejection starts. holds rejection

pub early_leaves :
    (status : ℕ) (o : Outside) (why : SessionFault) → IsEarly why → status ≡ status_of why
    → EndsBy why o.trouble o.before o.now → (r : Rejection) → RejectionLeaves r status o
early_leaves status o fault.Archive early e ends r =
    subst (λ (n : ℕ). RejectionLeaves r n o) (sym e)
    (record {
      statuses = inr (inl refl);
      done = λ is. absurd (no_fault 7 7 is (lit< tt) refl);
      archive = λ _. ([], refl, line_after o.trouble o.trouble o.before o.before o.now [] (line (codes "fault archive")) (λ t. t) (nothing_appended o.before) ends);
      memory = λ e. absurd (other 7 12 (lit< tt) e);
      sink = λ e. absurd (other 7 9 (lit< tt) e);
    })
early_leaves status o fault.Memory early e ends r =
    subst (λ (n : ℕ). RejectionLeaves r n o) (sym e)
    (record {
      statuses = inr (inr (inr refl));
      done = λ is. absurd (no_fault 12 12 is (lit< tt) refl);
      archive = λ e. absurd (other_than 12 7 (lit< tt) e);
      memory = λ _. ([], refl, line_after o.trouble o.trouble o.before o.before o.now [] (line (codes "fault memory")) (λ t. t) (nothing_appended o.before) ends);
      sink = λ e. absurd (other_than 12 9 (lit< tt) e);
    })
early_leaves status o fault.Sink early e ends r = absurd early
early_leaves status o fault.Source early e ends r = absurd early

-- the status of a rejection is below that of a fault
rejected_small : (status : ℕ) → IsRejected status → (1 < status) × (status < 5)
rejected_small status (inl e) = (omega (arith, e), omega (arith, e))
rejected_small status (inr (inl e)) = (omega (arith, e), omega (arith, e))
rejected_small status (inr (inr e)) = (omega (arith, e), omega (arith, e))

fault_big : (status : ℕ) → IsFault status → 5 < status
fault_big status (inl e) = omega (arith, e)
fault_big status (inr (inl e)) = omega (arith, e)
fault_big status (inr (inr e)) = omega (arith, e)

pub not_rejected : (status : ℕ) → IsFault status → IsRejected status → ⊥
not_rejected status is rejected =
    let big = fault_big status is in
    let (low, small) = rejected_small status rejected in
    omega (arith, big, small)

pub not_answered : (status : ℕ) → ((status ≡ 0) ⊎ ((status ≡ 1) ⊎ (status ≡ 5))) ⊎ IsFault status → IsRejected status → ⊥
not_answered status (inr is) rejected = not_rejected status is rejected
not_answered status (inl (inl e)) rejected = let (low, small) = rejected_small status rejected in omega (arith, e, low)
not_answered status (inl (inr (inl e))) rejected = let (low, small) = rejected_small status rejected in omega (arith, e, low)
not_answered status (inl (inr (inr e))) rejected = let (low, small) = rejected_small status rejected in omega (arith, e, small)

pub held_as : (status : ℕ) → ((status ≡ 0) ⊎ (status ≡ 5)) ⊎ IsFault status → ((status ≡ 0) ⊎ ((status ≡ 1) ⊎ (status ≡ 5))) ⊎ IsFault status
held_as status (inl (inl e)) = inl (inl e)
held_as status (inl (inr e)) = inl (inr (inr e))
held_as status (inr is) = inr is

-- a rejection's status, where the run was rejected
status_is : (status : ℕ) (r : Rejection) → IsRejected status → (status ≡ rejection_status r) ⊎ IsFault status → status ≡ rejection_status r
status_is status r is (inl e) = e
status_is status r is (inr fault) = absurd (not_rejected status fault is)

-- a run that is rejected
pub rejected_so :
    (words : List (List ℕ)) (base : Option (List ℕ → Option (List ℕ))) (r : Rejection) (status : ℕ) (o : Outside)
    → IfSome base (λ described. Starts words described (Rejects r)) → RejectionLeaves r status o → IsRejected status
    → IfSome base (λ described. (rejection : Rejection) × Starts words described (Rejects rejection) × (status ≡ rejection_status rejection))
rejected_so words None r status o begins leaves is = tt
rejected_so words (Some described) r status o begins leaves is = (r, begins, status_is status r is leaves.statuses)

-- only bad words have the status 2
two_is : (r : Rejection) → rejection_status r ≡ 2 → r ≡ BadWords
two_is BadWords e = refl
two_is SchemaMissing e = absurd (omega (arith, e))
two_is (SchemaRefused fault) e = absurd (omega (arith, e))

pub bad_words :
    (r : Rejection) (status : ℕ) (o : Outside) → RejectionLeaves r status o → status ≡ 2
    → (r ≡ BadWords) × Appends o.before o.now (rejection_text BadWords)
bad_words r status o leaves two = (is, wrote)
  where
    is : r ≡ BadWords
    is = two_is r (sym (status_is status r (inl two) leaves.statuses) ∙ two)

    wrote : Appends o.before o.now (rejection_text BadWords)
    wrote =
        let (text, same, writes) = leaves.done (inr (inr (inr (inl two)))) in
        subst (λ (t : List ℕ). Appends o.before o.now t) (same ∙ ap (λ (x : Rejection). rejection_text x) is) writes

pub bad_words_end :
    (r : Rejection) (status : ℕ) (o : Outside) → RejectionLeaves r status o → r ≡ BadWords → (status ≡ 7 → ⊥)
    → (status ≡ 2) ⊎ ((status ≡ 9) ⊎ (status ≡ 12))
bad_words_end r status o leaves is not_seven = by leaves.statuses
  where
    by : (status ≡ rejection_status r) ⊎ IsFault status → (status ≡ 2) ⊎ ((status ≡ 9) ⊎ (status ≡ 12))
    by (inl e) = inl (e ∙ ap (λ (x : Rejection). rejection_status x) is)
    by (inr (inl seven)) = absurd (not_seven seven)
    by (inr (inr fault)) = inr fault

pub early_end : (why : SessionFault) → IsEarly why → (status : ℕ) → status ≡ status_of why → IsFault status
early_end fault.Archive early status e = inl e
early_end fault.Memory early status e = inr (inr e)
early_end fault.Sink early status e = absurd early
early_end fault.Source early status e = absurd early

pub scan_all :
    (bytes : Option (ℕ → Option ℕ)) (tables : Description) (name : List ℕ) (status f h s u : ℕ) (Q : Type 0) (before now : Option (List ℕ))
    → IfSome bytes (λ byte. ScanLeaves (NodeStep byte) (start tables) name status (watched f h s u ⊥ before now))
    → IfSome bytes (λ byte. ScanLeaves (NodeStep byte) (start tables) name status (watched f h s u Q before now))
scan_all None tables name status f h s u Q before now leaves = tt
scan_all (Some byte) tables name status f h s u Q before now leaves =
    scan_anyway byte tables name status f h s u ⊥ Q before now leaves
