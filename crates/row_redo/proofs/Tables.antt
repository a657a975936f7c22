-- The described tables by their files.
use Rattle.std.proofs.Common.{◌≡◌, ℕ, true, false, List, get_or, Some, subst, All}
use Rattle.std.proofs.lemmas.Bool.{both_ways}
use Rattle.std.proofs.lemmas.List.Quantifiers.{position-Some}
use Rattle.pg_types.specs.declared.names.Locator.{Locator}
use Rattle.typed_records.specs.declared.types.Rec.{Rec}
use Rattle.heap_redo.specs.Redone.{table_of}
use Rattle.row_model.specs.Origins.{LogOrigin}
use Rattle.row_model.specs.LegalRows.{LegalTable}
use Rattle.pg_types.specs.Locators.{same_locator}
use Rattle.pg_types.proofs.Locators.{same_file}

module _ (known : List Locator) (locator : Locator) (table : ℕ) (here : table_of known locator ≡ Some table) where
  -- the table stands at its number
  described : get_or known table locator ≡ locator
  described = same_file (get_or known table locator) locator (position-Some (λ (d : Locator). same_locator d locator) known table locator here).1

  -- the table's file is found
  pub file_found : (other : Locator) → same_locator locator other ≡ true → table_of known other ≡ Some table
  file_found other h = subst (λ (l : Locator). table_of known l ≡ Some table) (same_file locator other h) here

  -- another file is not that table's
  pub other_file : (other : Locator) → same_locator locator other ≡ false → (t : ℕ) → table_of known other ≡ Some t → t ≡ table → ⊥
  other_file other h t found e =
      let at = (position-Some (λ (d : Locator). same_locator d other) known t locator found).1 in
      let there = subst (λ (n : ℕ). same_locator (get_or known n locator) other ≡ true) e at in
      both_ways (same_locator locator other) h (subst (λ (l : Locator). same_locator l other ≡ true) described there)

  -- the table keeps to its rules
  pub legal_rows : (from : LogOrigin) (log : List Rec) → All (LegalTable from log) known → LegalTable from log locator
  legal_rows from log all =
      subst (LegalTable from log) described
      (all table locator (position-Some (λ (d : Locator). same_locator d locator) known table locator here).0)
