-- A legal log without its last record is legal.
use Rattle.std.proofs.Common.{◌≡◌, ℕ, Bool, true, ◌||◌, ◌==◌, nat_lt, List, ◌∷◌, Result, Ok, Err, refl, inl, inr}
use Rattle.std.specs.List.{list_any}
use Rattle.std.proofs.lemmas.Bool.{and_parts, or_cases, or_left, or_right}
use Rattle.std.proofs.lemmas.List.Elements.{All-tail}
use Rattle.pg_types.specs.declared.names.Locator.{Locator}
use Rattle.typed_records.specs.declared.types.Rec.{Rec}
use Rattle.heap_redo.specs.declared.fault.RedoFault.{RedoFault}
use Rattle.page_store.specs.Seen.{View}
use Rattle.transaction_model.specs.LegalTransactions.{Legal}
use Rattle.xact_redo.specs.TransactionsOf.{kind_of, transactions_of}
use Rattle.row_model.specs.Origins.{LogOrigin}
use Rattle.row_model.specs.Locks.{since}
use Rattle.row_model.specs.RowSteps.{view_after, view_with_record}
use Rattle.row_model.specs.LegalRows.{LegalTable, are_apart, has_redo, is_redo, is_redo_own, renews, renews_first}
use Rattle.row_model.specs.Prefixes.{PrefixIsLegal}

-- a redo position of the older log is one of the whole
redo_rest : (rec : Rec) (older : List Rec) (redo : ℕ) → is_redo older redo ≡ true → is_redo (rec ∷ older) redo ≡ true
redo_rest rec older redo h =
    let has : Rec → Bool = λ r. has_redo redo r.start.0 (kind_of r.head r.kind) in
    elim (or_cases (redo == 0) (list_any has older) h) [
      | inl begins ↦ or_left (redo == 0) (has rec || list_any has older) begins
      | inr later ↦ or_right (redo == 0) (has rec || list_any has older) (or_right (has rec) (list_any has older) later)
    ]

renews_rest : (table : Locator) (redo : ℕ) (rec : Rec) (older : List Rec) → renews_first table redo (rec ∷ older) ≡ true → renews_first table redo older ≡ true
unfolding renews_first
renews_rest table redo rec older h =
    (and_parts (nat_lt rec.start.0 redo || renews table (since redo older) rec) (renews_first table redo older) h).1

table_rest : (o : LogOrigin) (rec : Rec) (older : List Rec) (table : Locator) → LegalTable o (rec ∷ older) table → LegalTable o older table
table_rest o rec older table legal =
    record {
      along = legal.along.1;
      renews = λ redo h. renews_rest table redo rec older (legal.renews redo (redo_rest rec older redo h));
    }

transactions_rest : (o : LogOrigin) (rec : Rec) (older : List Rec) → Legal o.transactions (transactions_of (rec ∷ older)) → Legal o.transactions (transactions_of older)
unfolding Legal
transactions_rest o rec older legal = legal.1

-- the records before one whose redo was not refused were not refused
view_was : (rec : Rec) (known : List Locator) (r : Result View RedoFault) (view : View) → view_with_record rec known r ≡ Ok view → (was : View) × (r ≡ Ok was)
unfolding view_with_record
view_was rec known (Err fault) view e = cc
view_was rec known (Ok was) view e = (was, refl)

view_rest : (o : LogOrigin) (known : List Locator) (rec : Rec) (older : List Rec) (view : View) → view_after o known (rec ∷ older) ≡ Ok view → (was : View) × (view_after o known older ≡ Ok was)
unfolding view_after
view_rest o known rec older view e = view_was rec known (view_after o known older) view e

pub prefix_legal : PrefixIsLegal
prefix_legal o known rec older legal =
    let (was, is) = view_rest o known rec older legal.view legal.redone in
    record {
      apart = All-tail (λ (r : Rec). are_apart r.blocks ≡ true) rec older legal.apart;
      shutdowns = All-tail (λ (r : Rec). is_redo_own r ≡ true) rec older legal.shutdowns;
      transactions = transactions_rest o rec older legal.transactions;
      multixacts = legal.multixacts.1;
      rows = λ k table below. table_rest o rec older _ (legal.rows k table below);
      view = was;
      redone = is;
    }
