-- What a tuple shows of a version of a row.
-- Sources: htup_details.h, heapam_visibility.c (SetHintBits).
use Rattle.std.specs.Prelude.{◌≡◌, ℕ, true, false, List, drop, Option, Some, None}
use Rattle.pg_types.specs.Numbers.{has_bits}
use Rattle.heap_tuple.specs.Tuple.{xmin_of, infomask_of, columns_of, max_of}
use Rattle.heap_tuple.specs.declared.tuple_view.MaxOf.{MaxOf}
use Rattle.heap_page.specs.Item.{Item, normal, numbered, is_normal}
use Rattle.tuple_visibility.specs.Visible.{xmin_marks}
use Rattle.typed_records.specs.declared.types.Rec.{Rec}
use Rattle.row_model.specs.Versions.{Version, Inserter, Nobody, Always, By, is_frozen, version_at}
use Rattle.row_model.specs.Origins.{LogOrigin, HasFailed, committed_in}
use Rattle.row_model.specs.Multixacts.{deleter_in}

-- The marks that a tuple bears of its inserter (0x0100 committed, 0x0200 invalid) and of its deleter (0x0400 committed,
-- 0x0800 invalid) are true after a log.
pub record AreMarksTrue (o : LogOrigin) (log : List Rec) (v : Version) (tuple : List ℕ) : Type 0 where
  pub inserter_committed : (x : ℕ) → v.inserter ≡ By x → xmin_marks tuple ≡ 0x0100 → committed_in o log x ≡ true
  pub inserter_failed : (x : ℕ) → v.inserter ≡ By x → xmin_marks tuple ≡ 0x0200 → HasFailed o log x
  pub deleter_committed : (x : ℕ) → deleter_in log v.deleter ≡ Some x → has_bits (infomask_of tuple) 0x0400 ≡ true → committed_in o log x ≡ true
  pub deleter_failed : (x : ℕ) → deleter_in log v.deleter ≡ Some x → has_bits (infomask_of tuple) 0x0800 ≡ true → HasFailed o log x

-- the tuple stores the same row as that one: as many columns, nulls or none, and the same bytes from its hoff on
pub record StoresSame (tuple written : List ℕ) : Type 0 where
  pub columns : columns_of tuple ≡ columns_of written
  pub nulls : has_bits (infomask_of tuple) 0x0001 ≡ has_bits (infomask_of written) 0x0001
  pub bytes : drop 22 tuple ≡ drop 22 written

-- the tuple shows this inserter: xmin is 0 where the insertion was taken back, and it is frozen where it was born so
abbrev pub ShowsInserter : List ℕ → Inserter → Type 0
ShowsInserter tuple Nobody = xmin_of tuple ≡ 0
ShowsInserter tuple Always = is_frozen tuple ≡ true
ShowsInserter tuple (By x) = xmin_of tuple ≡ x

-- it shows this deleter; that of an insertion that was taken back may be any
abbrev pub ShowsDeleter : List ℕ → Inserter → MaxOf → Type 0
ShowsDeleter tuple Nobody d = Unit {0}
ShowsDeleter tuple Always d = max_of tuple ≡ d
ShowsDeleter tuple (By x) d = max_of tuple ≡ d

-- a tuple shows a version, and its marks are true; ctid, command id and the combo bit may be any
pub record Shows (o : LogOrigin) (log : List Rec) (v : Version) (tuple : List ℕ) : Type 0 where
  pub row : StoresSame tuple v.tuple
  pub inserter : ShowsInserter tuple v.inserter
  pub frozen : is_frozen tuple ≡ v.frozen
  pub deleter : ShowsDeleter tuple v.inserter v.deleter
  pub marks : AreMarksTrue o log v tuple

-- a line shows what stands at its place: a tuple exactly where there is a version
abbrev pub ShowsPlace : LogOrigin → List Rec → Option Version → Item → Type 0
ShowsPlace o log None item = is_normal item ≡ false
ShowsPlace o log (Some v) item = (tuple : List ℕ) × (item ≡ normal tuple) × Shows o log v tuple

-- a page's lines show the versions of this block
abbrev pub ShowsBlock : LogOrigin → List Rec → List Version → ℕ → List Item → Type 0
ShowsBlock o log vs block items = (line : ℕ) → ShowsPlace o log (version_at block line vs) (numbered items line)
