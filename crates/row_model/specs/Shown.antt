-- The blocks of a table that show its versions.
use Rattle.std.specs.Prelude.{◌≡◌, ℕ, ◌<◌, ◌≤◌, true, false, List, All, Some, None, sum_by, if◌then◌else◌}
use Rattle.heap_tuple.specs.Tuple.{hoff_of}
use Rattle.page_store.specs.Seen.{Seen, absent, bad_block, seen_page}
use Rattle.typed_records.specs.declared.types.Rec.{Rec}
use Rattle.row_model.specs.Versions.{Version, is_at, version_at}
use Rattle.row_model.specs.Origins.{LogOrigin, committed_in}
use Rattle.row_model.specs.Multixacts.{WasMade, multixacts}
use Rattle.row_model.specs.Rows.{counts, is_row}
use Rattle.row_model.specs.Shows.{ShowsBlock}

-- no version stands in this block
abbrev pub HasNone : List Version → ℕ → Type 0
HasNone vs block = (line : ℕ) → version_at block line vs ≡ None

-- a block that is not there is past the table's last one and has no versions; every other one is a page that shows its versions
abbrev pub ShowsSeen : LogOrigin → List Rec → List Version → ℕ → ℕ → Seen → Type 0
ShowsSeen o log vs count block absent = (count ≤ block) × HasNone vs block
ShowsSeen o log vs count block bad_block = ⊥
ShowsSeen o log vs count block (seen_page lsn items) = (block < count) × ShowsBlock o log vs block items

-- how many versions hold a place
abbrev pub count_at : ℕ → ℕ → List Version → ℕ
count_at block line vs = sum_by (λ v. if is_at block line v then 1 else 0) vs

-- no place has two
abbrev pub AreApart : List Version → Type 0
AreApart vs = (block line : ℕ) → count_at block line vs ≤ 1

-- a multixact that deletes a version was made, and the inserter of a version that is marked frozen counts
pub record IsSound (o : LogOrigin) (log : List Rec) (v : Version) : Type 0 where
  pub made : WasMade log v.deleter
  pub frozen : v.frozen ≡ true → counts (committed_in o log) v.inserter ≡ true

-- what was a version and lost its place is no row
abbrev pub IsLost : LogOrigin → List Rec → Version → Type 0
IsLost o log v = v.holds ≡ false → is_row (multixacts log) (committed_in o log) v ≡ false

-- the blocks of a table show its versions, of which each place has at most one; each is sound, has its user data behind
-- its header of 23 bytes, and is a row only where it holds its place
pub record ShowsTable (o : LogOrigin) (log : List Rec) (vs : List Version) (count : ℕ) (blocks : ℕ → Seen) : Type 0 where
  pub shows : (block : ℕ) → ShowsSeen o log vs count block (blocks block)
  pub apart : AreApart vs
  pub sound : (block line : ℕ) (v : Version) → version_at block line vs ≡ Some v → IsSound o log v
  pub behind_header : (block line : ℕ) (v : Version) → version_at block line vs ≡ Some v → 23 ≤ hoff_of v.tuple
  pub lost : All (IsLost o log) vs
