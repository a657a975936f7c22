-- A legal log is one that keeps each clause, and so is each of its fronts.
use Rattle.std.proofs.Common.{List, [], ◌∷◌}
use Rattle.std.proofs.lemmas.List.Elements.{All-cons, All-head, All-nil}
use Rattle.pg_types.specs.declared.names.Locator.{Locator}
use Rattle.typed_records.specs.declared.types.Rec.{Rec}
use Rattle.row_model.specs.Origins.{LogOrigin}
use Rattle.row_model.specs.LegalRows.{LegalAlong, LegalTable, TableRule}
use Rattle.worked_logs.specs.Clauses.{Along, Births, Deleters, Removals, Cut, Blocks, Locks, CheckpointLocks, Multixacts, Renews, Apart, Shutdowns, Transactions, NewMultixacts, Redone, Keeps, KeepingIsLegal, LegalKeeps}

-- a part of a table's rules, along a log
along :
    (Rule : List Rec → Rec → Type 0) (o : LogOrigin) (table : Locator)
    → ((older : List Rec) (rec : Rec) → TableRule o table older rec → Rule older rec)
    → (log : List Rec) → LegalAlong o table log → Along Rule log
along Rule o table part [] legal = tt
along Rule o table part (rec ∷ older) legal = (part older rec legal.0, along Rule o table part older legal.1)

pub legal_keeps_holds : LegalKeeps
legal_keeps_holds o table log legal Births = along _ o table (λ older rec rule. rule.births) log (All-head (LegalTable o log) table [] legal.rows).along
legal_keeps_holds o table log legal Deleters = along _ o table (λ older rec rule. rule.deleters) log (All-head (LegalTable o log) table [] legal.rows).along
legal_keeps_holds o table log legal Removals = along _ o table (λ older rec rule. rule.removals) log (All-head (LegalTable o log) table [] legal.rows).along
legal_keeps_holds o table log legal Cut = along _ o table (λ older rec rule. rule.cut) log (All-head (LegalTable o log) table [] legal.rows).along
legal_keeps_holds o table log legal Blocks = along _ o table (λ older rec rule. rule.blocks) log (All-head (LegalTable o log) table [] legal.rows).along
legal_keeps_holds o table log legal Locks = along _ o table (λ older rec rule. rule.locks) log (All-head (LegalTable o log) table [] legal.rows).along
legal_keeps_holds o table log legal CheckpointLocks = along _ o table (λ older rec rule. rule.checkpoint) log (All-head (LegalTable o log) table [] legal.rows).along
legal_keeps_holds o table log legal Multixacts = along _ o table (λ older rec rule. rule.multixacts) log (All-head (LegalTable o log) table [] legal.rows).along
legal_keeps_holds o table log legal Renews = (All-head (LegalTable o log) table [] legal.rows).renews
legal_keeps_holds o table log legal Apart = legal.apart
legal_keeps_holds o table log legal Shutdowns = legal.shutdowns
legal_keeps_holds o table log legal Transactions = legal.transactions
legal_keeps_holds o table log legal NewMultixacts = legal.multixacts
legal_keeps_holds o table log legal Redone = (legal.view, legal.redone)

-- the rules of a table from its parts
along_all :
    (o : LogOrigin) (table : Locator) (log : List Rec) → Keeps Births o table log → Keeps Deleters o table log
    → Keeps Removals o table log → Keeps Cut o table log → Keeps Blocks o table log → Keeps Locks o table log
    → Keeps CheckpointLocks o table log → Keeps Multixacts o table log → LegalAlong o table log
along_all o table [] births deleters removals cut blocks locks checkpoint multixacts = tt
along_all o table (rec ∷ older) births deleters removals cut blocks locks checkpoint multixacts = (
  record {
    births = births.0;
    deleters = deleters.0;
    removals = removals.0;
    cut = cut.0;
    blocks = blocks.0;
    locks = locks.0;
    checkpoint = checkpoint.0;
    multixacts = multixacts.0;
  },
  along_all o table older births.1 deleters.1 removals.1 cut.1 blocks.1 locks.1 checkpoint.1 multixacts.1,
)

pub keeping_is_legal_holds : KeepingIsLegal
keeping_is_legal_holds o table log keeps =
    let rows : LegalTable o log table =
    record {
      along =
          along_all o table log (keeps Births) (keeps Deleters) (keeps Removals) (keeps Cut) (keeps Blocks) (keeps Locks)
          (keeps CheckpointLocks) (keeps Multixacts);
      renews = keeps Renews;
    } in
    record {
      apart = keeps Apart;
      shutdowns = keeps Shutdowns;
      transactions = keeps Transactions;
      multixacts = keeps NewMultixacts;
      rows = All-cons (LegalTable o log) table [] rows (All-nil (LegalTable o log));
      view = (keeps Redone).0;
      redone = (keeps Redone).1;
    }
