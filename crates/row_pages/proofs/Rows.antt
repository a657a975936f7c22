-- The rows that a scan finds are the table's rows: they have the version of each place that is a row, and no other.
use Rattle.std.proofs.Common.{◌≡◌, ℕ, zero, suc, ◌+◌, ◌-◌, ◌<◌, ◌≤◌, Bool, true, false, cond, List, [], ◌∷◌, ◌++◌, All, Result, Option, Some, None, arith, refl, sym, ap, ◌∙◌, subst, inl, inr}
use Rattle.std.specs.List.{filter}
use Rattle.std.proofs.lemmas.Bool.{both_ways, cases_Bool, cases_eq, cases_lt, cond_both, true_from_ne_false}
use Rattle.std.proofs.lemmas.List.Elements.{All-head, All-tail}
use Rattle.pg_types.specs.declared.status.Unknown.{Unknown}
use Rattle.heap_tuple.specs.declared.cell.Column.{Column}
use Rattle.heap_page.specs.Item.{Item, unused}
use Rattle.page_store.specs.Seen.{Seen, absent, bad_block, seen_page}
use Rattle.row_model.specs.Versions.{Version, is_at, version_at}
use Rattle.row_model.specs.Rows.{IsRows, is_row}
use Rattle.multixact.specs.Made.{Made}
use Rattle.row_pages.specs.Pages.{AreScanned, ReadsPlace, ReadsSeen, ReadsTable, ReadsTested, ScanGivesRead, rows_of_versions}
use Rattle.row_pages.proofs.Each.{Each, Stands, each-weaker}
use Rattle.row_pages.proofs.Places.{kept, first_of_two, at_head, at_none, version_at-append, version_at-filter, none_where, found_at, found_holds, from_place, off_block, off_line, apart-filter}
use Rattle.row_pages.proofs.Permuted.{HaveSame, permuted}
use Rattle.row_pages.proofs.Found.{row_in, rows_on, rows_in, rows_below, IsOn, IsFrom, row_on, all_from, all_in_block, all_below, below_order, below_stand, order_apart, block_filtered}
use Rattle.row_pages.proofs.Scanned.{ReadsLines, lines_rest, page_lines, seen_scanned}

first_alone : (o : Option Version) → first_of_two o None ≡ o
first_alone None = refl
first_alone (Some v) = refl

-- no version that passes stands at a line without a tuple
tested_none :
    (columns : List Column) (sees : List ℕ → Result Bool Unknown) (t : Bool) (v : Version)
    → ReadsTested columns sees t v unused → cond {A = Option Version} t (Some v) None ≡ None
tested_none columns sees true v (tuple, is, seen, row) = cc
tested_none columns sees false v reads = refl

free_none :
    (columns : List Column) (sees : List ℕ → Result Bool Unknown) (test : Version → Bool) (o : Option Version)
    → ReadsPlace columns sees test o unused → kept test o ≡ None
free_none columns sees test None reads = refl
free_none columns sees test (Some v) reads = tested_none columns sees (test v) v reads

-- a version that stands at a place, where it passes
alone_at :
    (test : Version → Bool) (block line : ℕ) (o : Option Version) → ((v : Version) → o ≡ Some v → IsOn block line v)
    → ((v : Version) → o ≡ Some v → Stands v) → version_at block line (row_in test o) ≡ kept test o
alone_at test block line None stands holds = at_none block line
alone_at test block line (Some v) stands holds =
    let (b, l) = stands v refl in
    elim (cases_Bool (test v)) [
      | inl e ↦
          ap (λ (t : Bool). version_at block line (cond t (v ∷ []) [])) e
          ∙ at_head block line v [] (from_place block line v (holds v refl) b l)
          ∙ ap (λ (t : Bool). cond {A = Option Version} t (Some v) None) (sym e)
      | inr e ↦
          ap (λ (t : Bool). version_at block line (cond t (v ∷ []) [])) e
          ∙ at_none block line
          ∙ ap (λ (t : Bool). cond {A = Option Version} t (Some v) None) (sym e)
    ]

not_at_line : (block line other : ℕ) (v : Version) → (line ≡ other → ⊥) → IsOn block other v → is_at block line v ≡ false
not_at_line block line other v apart (b, l) =
    off_line block line v (λ e. apart (sym e ∙ l))

before_line : (block line from : ℕ) (v : Version) → line < from → IsFrom block from v → is_at block line v ≡ false
before_line block line from v less (b, l) =
    off_line block line v (λ e. omega arith)

not_in_block : (block line other : ℕ) (v : Version) → (block ≡ other → ⊥) → v.block ≡ other → is_at block line v ≡ false
not_in_block block line other v apart b =
    off_block block line v (λ e. apart (sym e ∙ b))

none_before :
    (test : Version → Bool) (vs : List Version) (block line from : ℕ) (items : List Item) → line < from
    → version_at block line (rows_on test vs block from items) ≡ None
none_before test vs block line from items less =
    none_where block line (rows_on test vs block from items)
    (each-weaker (IsFrom block from) (λ v. is_at block line v ≡ false) (rows_on test vs block from items)
    (λ v h. before_line block line from v less h) (all_from test vs block from items))

here_at :
    (test : Version → Bool) (vs : List Version) (block line : ℕ) (more : List Version) → version_at block line more ≡ None
    → version_at block line (row_in test (version_at block line vs) ++ more) ≡ kept test (version_at block line vs)
here_at test vs block line more none =
    version_at-append block line (row_in test (version_at block line vs)) more
    ∙ ap (first_of_two (version_at block line (row_in test (version_at block line vs)))) none
    ∙ first_alone (version_at block line (row_in test (version_at block line vs)))
    ∙ alone_at test block line (version_at block line vs) (found_at block line vs) (found_holds block line vs)

later_at :
    (test : Version → Bool) (vs : List Version) (block line first : ℕ) (more : List Version) → (line ≡ first → ⊥)
    → version_at block line (row_in test (version_at block first vs) ++ more) ≡ version_at block line more
later_at test vs block line first more other =
    version_at-append block line (row_in test (version_at block first vs)) more
    ∙ ap (λ (o : Option Version). first_of_two o (version_at block line more))
    (none_where block line (row_in test (version_at block first vs))
    (each-weaker (IsOn block first) (λ v. is_at block line v ≡ false) (row_in test (version_at block first vs))
    (λ v h. not_at_line block line first v other h) (row_on test vs block first)))

none_past :
    (columns : List Column) (sees : List ℕ → Result Bool Unknown) (test : Version → Bool) (vs : List Version) (block from line : ℕ)
    → ReadsLines columns sees test vs block from [] → from ≤ line → kept test (version_at block line vs) ≡ None
none_past columns sees test vs block from line reads past =
    let at : from + (line - from) ≡ line = omega arith in
    subst (λ (n : ℕ). kept test (version_at block n vs) ≡ None) at (free_none columns sees test _ (reads.each (line - from)))

-- the rows at the lines of a page have the version of each place that is one
on_at :
    (columns : List Column) (sees : List ℕ → Result Bool Unknown) (test : Version → Bool) (vs : List Version) (block from line : ℕ)
    (items : List Item) → ReadsLines columns sees test vs block from items → from ≤ line
    → version_at block line (rows_on test vs block from items) ≡ kept test (version_at block line vs)
unfolding rows_on
on_at columns sees test vs block from line [] reads past =
    at_none block line ∙ sym (none_past columns sees test vs block from line reads past)
on_at columns sees test vs block from line (item ∷ items) reads past =
    elim (cases_eq line from) [
      | inl e ↦
          subst
          (λ (n : ℕ). version_at block n (row_in test (version_at block from vs) ++ rows_on test vs block (from + 1) items) ≡ kept test (version_at block n vs)) (sym e)
          (here_at test vs block from (rows_on test vs block (from + 1) items)
          (none_before test vs block from (from + 1) items (omega arith)))
      | inr other ↦
          later_at test vs block line from (rows_on test vs block (from + 1) items) other
          ∙ on_at columns sees test vs block (from + 1) line items (lines_rest columns sees test vs block from item items reads) (omega arith)
    ]

page_at :
    (columns : List Column) (sees : List ℕ → Result Bool Unknown) (test : Version → Bool) (vs : List Version) (block line lsn : ℕ)
    (items : List Item) → ReadsSeen columns sees test vs block (seen_page lsn items)
    → version_at block line (rows_on test vs block 1 items) ≡ kept test (version_at block line vs)
page_at columns sees test vs block zero lsn items reads =
    none_before test vs block zero 1 items (omega arith) ∙ sym (free_none columns sees test _ (reads zero))
page_at columns sees test vs block (suc n) lsn items reads =
    on_at columns sees test vs block 1 (suc n) items (page_lines columns sees test vs block lsn items reads) (omega arith)

seen_at :
    (columns : List Column) (sees : List ℕ → Result Bool Unknown) (test : Version → Bool) (vs : List Version)
    (block line : ℕ) (seen : Seen) → ReadsSeen columns sees test vs block seen
    → version_at block line (rows_in test vs block seen) ≡ kept test (version_at block line vs)
unfolding rows_in
seen_at columns sees test vs block line absent reads = absurd reads
seen_at columns sees test vs block line bad_block reads = absurd reads
seen_at columns sees test vs block line (seen_page lsn items) reads = page_at columns sees test vs block line lsn items reads

none_below :
    (test : Version → Bool) (vs : List Version) (blocks : ℕ → Seen) (block line n : ℕ) → n ≤ block
    → version_at block line (rows_below test vs blocks n) ≡ None
none_below test vs blocks block line n past =
    none_where block line (rows_below test vs blocks n)
    (each-weaker (λ v. v.block < n) (λ v. is_at block line v ≡ false) (rows_below test vs blocks n)
    (λ v h. off_block block line v (λ e. omega arith))
    (all_below test vs blocks n))

none_in :
    (test : Version → Bool) (vs : List Version) (block line n : ℕ) (seen : Seen) → (block ≡ n → ⊥)
    → version_at block line (rows_in test vs n seen) ≡ None
none_in test vs block line n seen other =
    none_where block line (rows_in test vs n seen)
    (each-weaker (λ v. v.block ≡ n) (λ v. is_at block line v ≡ false) (rows_in test vs n seen)
    (λ v h. not_in_block block line n v other h) (all_in_block test vs n seen))

last_below :
    (test : Version → Bool) (vs : List Version) (blocks : ℕ → Seen) (block line : ℕ)
    → version_at block line (rows_below test vs blocks (suc block)) ≡ version_at block line (rows_in test vs block (blocks block))
unfolding rows_below
last_below test vs blocks block line =
    version_at-append block line (rows_below test vs blocks block) (rows_in test vs block (blocks block))
    ∙ ap (λ (o : Option Version). first_of_two o (version_at block line (rows_in test vs block (blocks block))))
    (none_below test vs blocks block line block (omega arith))

next_below :
    (test : Version → Bool) (vs : List Version) (blocks : ℕ → Seen) (block line n : ℕ) → (block ≡ n → ⊥)
    → version_at block line (rows_below test vs blocks (suc n)) ≡ version_at block line (rows_below test vs blocks n)
unfolding rows_below
next_below test vs blocks block line n other =
    version_at-append block line (rows_below test vs blocks n) (rows_in test vs n (blocks n))
    ∙ ap (first_of_two (version_at block line (rows_below test vs blocks n)))
    (none_in test vs block line n (blocks n) other)
    ∙ first_alone (version_at block line (rows_below test vs blocks n))

below_at :
    (test : Version → Bool) (vs : List Version) (blocks : ℕ → Seen) (block line n : ℕ) → block < n
    → version_at block line (rows_in test vs block (blocks block)) ≡ kept test (version_at block line vs)
    → version_at block line (rows_below test vs blocks n) ≡ kept test (version_at block line vs)
below_at test vs blocks block line zero less own = absurd (omega arith)
below_at test vs blocks block line (suc n) less own =
    elim (cases_eq block n) [
      | inl e ↦
          subst
          (λ (m : ℕ). version_at block line (rows_below test vs blocks (suc m)) ≡ kept test (version_at block line vs)) e
          (last_below test vs blocks block line ∙ own)
      | inr other ↦
          next_below test vs blocks block line n other ∙ below_at test vs blocks block line n (omega arith) own
    ]

-- what passes holds its place
stand_filtered :
    (test : Version → Bool) (vs : List Version) → All (λ (v : Version). v.holds ≡ false → test v ≡ false) vs
    → Each Stands (filter test vs)
stand_filtered test [] lost = tt
stand_filtered test (v ∷ vs) lost =
    let rest = stand_filtered test vs (All-tail (λ (u : Version). u.holds ≡ false → test u ≡ false) v vs lost) in
    let first = All-head (λ (u : Version). u.holds ≡ false → test u ≡ false) v vs lost in
    cond_both (test v) (v ∷ filter test vs) (filter test vs) (λ us. Each Stands us)
    (λ row. (true_from_ne_false v.holds (λ gone. both_ways (test v) (first gone) row), rest))
    (λ none. rest)

module _ (columns : List Column) (sees : List ℕ → Result Bool Unknown) (made : Made) (committed : ℕ → Bool) (vs : List Version)
    (count : ℕ) (blocks : ℕ → Seen) (table : ReadsTable columns sees (is_row made committed) vs count blocks) where
  abbrev test : Version → Bool
  test v = is_row made committed v

  have_same : HaveSame (filter test vs) (rows_below test vs blocks count)
  have_same block line =
      version_at-filter block line test vs (table.apart block line)
      ∙ elim (cases_lt block count) [
        | inl below ↦
            sym
            (below_at test vs blocks block line count below
            (seen_at columns sees test vs block line (blocks block) (table.each block below)))
        | inr past ↦
            ap (kept test) (table.past block past line)
            ∙ sym (none_below test vs blocks block line count past)
      ]

  are_rows : IsRows made committed vs (rows_below test vs blocks count)
  are_rows =
      let order = below_order test vs blocks count in
      record {
        same =
            permuted (filter test vs) (rows_below test vs blocks count) (stand_filtered test vs table.lost)
            (below_stand test vs blocks count) (apart-filter test vs table.apart)
            (order_apart (rows_below test vs blocks count) order) have_same;
        in_order = order;
      }

  are_scanned : AreScanned columns sees count blocks (rows_below test vs blocks count)
  are_scanned =
      record {
        each =
            λ block below.
            seen_scanned columns sees test vs block (blocks block) (table.each block below)
            ∙ ap (rows_of_versions columns) (sym (block_filtered test vs blocks count block below));
      }

pub scan_gives_read_holds : ScanGivesRead
scan_gives_read_holds columns sees made committed vs count blocks table = (
  rows_below (is_row made committed) vs blocks count,
  are_rows columns sees made committed vs count blocks table,
  are_scanned columns sees made committed vs count blocks table,
)
