-- Each part of the rules on commits and aborts is broken by an id at the log's begin that keeps the other parts; 703 is a
-- subtransaction of 702.
-- Source: xact.c (RecordTransactionCommit, RecordTransactionAbort).
use Rattle.std.specs.Prelude.{◌≡◌, ℕ, List, [], ◌∷◌}
use Rattle.transaction_model.specs.LegalTransactions.{AbortRule, AreSubsOf, CommitRule, NamesAllOf, NamesLive}
use Rattle.worked_logs.specs.SecondLog.{second_ids, second_top}

abbrev pub IsTop : ℕ → Type 0
IsTop x = second_top x ≡ x

abbrev pub AreLive : ℕ → List ℕ → Type 0
AreLive xid subs = NamesLive second_ids xid subs []

abbrev pub AreSubs : ℕ → List ℕ → Type 0
AreSubs xid subs = AreSubsOf second_ids xid subs

abbrev pub AreAll : ℕ → List ℕ → Type 0
AreAll xid subs = NamesAllOf second_ids xid subs []

-- no commit, and no abort, of these ids is legal
abbrev pub NoCommit : ℕ → List ℕ → Type 0
NoCommit xid subs = CommitRule second_ids xid subs [] → ⊥

abbrev pub NoAbort : ℕ → List ℕ → Type 0
NoAbort xid subs = AbortRule second_ids xid subs [] → ⊥

-- a commit of a subtransaction; of the bootstrap id, which is never live; with 704, which is none of 702's; without 703
pub record CommitParts : Type 0 where
  pub top : AreLive 703 [] × AreSubs 703 [] × AreAll 703 [] × NoCommit 703 []
  pub live : IsTop 1 × AreSubs 1 [] × AreAll 1 [] × NoCommit 1 []
  pub subs : IsTop 702 × AreLive 702 (703 ∷ 704 ∷ []) × AreAll 702 (703 ∷ 704 ∷ []) × NoCommit 702 (703 ∷ 704 ∷ [])
  pub all : IsTop 702 × AreLive 702 [] × AreSubs 702 [] × NoCommit 702 []

-- an abort of the bootstrap id; with 704; and without 703
pub record AbortParts : Type 0 where
  pub live : AreSubs 1 [] × AreAll 1 [] × NoAbort 1 []
  pub subs : AreLive 702 (703 ∷ 704 ∷ []) × AreAll 702 (703 ∷ 704 ∷ []) × NoAbort 702 (703 ∷ 704 ∷ [])
  pub all : AreLive 702 [] × AreSubs 702 [] × NoAbort 702 []

pub record EndRulesBreak : Type 0 where
  pub commits : CommitParts
  pub aborts : AbortParts
