-- What a scan reads at a line with a tuple.
use Rattle.std.proofs.Common.{◌≡◌, ℕ, Bool, true, false, List, Result, Ok, subst}
use Rattle.pg_types.specs.declared.status.Unknown.{Unknown}
use Rattle.heap_tuple.specs.Values.{row_of}
use Rattle.heap_tuple.specs.declared.cell.Column.{Column}
use Rattle.heap_page.specs.Item.{Item, normal}
use Rattle.row_model.specs.Versions.{Version}
use Rattle.row_pages.specs.Pages.{ReadsNothing, ReadsTested}

module _ (columns : List Column) (sees : List ℕ → Result Bool Unknown) where
  -- nothing, if its tuple is not seen
  pub not_seen : (item : Item) (tuple : List ℕ) → item ≡ normal tuple → sees tuple ≡ Ok false → ReadsNothing sees item
  not_seen item tuple is seen other e =
      let same : tuple ≡ other = cc in subst (λ (t : List ℕ). sees t ≡ Ok false) same seen

  -- the version whose row the tuple has, exactly where it is seen
  pub tested :
      (t : Bool) (v : Version) (item : Item) (tuple : List ℕ) → item ≡ normal tuple → sees tuple ≡ Ok t
      → row_of tuple columns ≡ row_of v.tuple columns → ReadsTested columns sees t v item
  tested true v item tuple is seen row = (tuple, is, seen, row)
  tested false v item tuple is seen row = not_seen item tuple is seen
