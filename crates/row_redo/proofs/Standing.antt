-- What holds of a table's blocks along a legal log.
use Rattle.std.proofs.Common.{◌≡◌, ℕ, ◌<◌, ◌≤◌, List, ◌∷◌, Option, Some, None, arith, subst}
use Rattle.heap_tuple.specs.Tuple.{IsTuple, hoff_of}
use Rattle.heap_page.specs.Item.{Item, normal, numbered}
use Rattle.page_store.specs.Seen.{Seen, absent, bad_block, seen_page}
use Rattle.typed_records.specs.declared.types.Rec.{Rec}
use Rattle.row_model.specs.Origins.{LogOrigin}
use Rattle.transaction_model.specs.LegalTransactions.{Legal}
use Rattle.xact_redo.specs.TransactionsOf.{transactions_of}
use Rattle.row_model.specs.Versions.{Version, version_at}
use Rattle.row_model.specs.Multixacts.{made_by}
use Rattle.row_model.specs.LegalRows.{MakesMultixact}
use Rattle.row_model.specs.Shows.{ShowsPlace, ShowsBlock}
use Rattle.row_model.specs.Shown.{HasNone, ShowsSeen, ShowsTable, AreApart}
use Rattle.row_redo.proofs.Fitting.{TuplesFit}
use Rattle.heap_tuple.proofs.SameTuples.{same_hoff}
use Rattle.row_redo.proofs.Heads.{tuple-long}
use Rattle.row_redo.proofs.Places.{SameIn, none_same}
use Rattle.row_redo.proofs.Apart.{AreLost, AreSound, none_lost}
use Rattle.row_redo.proofs.Later.{block_later}

-- a page was changed by no record past this position, shows its block's versions, and its tuples fit; a block that is not
-- there is past the table's end
abbrev pub Holds : LogOrigin → List Rec → List Version → ℕ → ℕ → ℕ → Seen → Type 0
Holds from log vs count at block absent = (count ≤ block) × HasNone vs block
Holds from log vs count at block bad_block = ⊥
Holds from log vs count at block (seen_page lsn items) =
    (block < count) × (lsn ≤ at) × ShowsBlock from log vs block items × TuplesFit items

-- no record from this position on changed the block
abbrev pub IsBehind : ℕ → Seen → Type 0
IsBehind end absent = Unit {0}
IsBehind end bad_block = Unit {0}
IsBehind end (seen_page lsn items) = lsn < end

pub record Standing (from : LogOrigin) (log : List Rec) (vs : List Version) (count at : ℕ) (blocks : ℕ → Seen) : Type 0 where
  pub holds : (block : ℕ) → Holds from log vs count at block (blocks block)
  pub apart : AreApart vs
  pub sound : AreSound from log vs
  pub lost : AreLost from log vs

-- a block shows what stands in it
pub block_same :
    (from : LogOrigin) (log : List Rec) (vs ws : List Version) (block : ℕ) (items : List Item) → SameIn block vs ws
    → ShowsBlock from log vs block items → ShowsBlock from log ws block items
block_same from log vs ws block items same shows line =
    subst (λ (place : Option Version). ShowsPlace from log place (numbered items line)) (same line) (shows line)

-- as many blocks or more, and a later position
pub holds_same :
    (from : LogOrigin) (log : List Rec) (vs ws : List Version) (count more at : ℕ) (block : ℕ) (seen : Seen)
    → SameIn block vs ws → count ≤ more → (count ≤ block → more ≤ block) → Holds from log vs count at block seen
    → Holds from log ws more at block seen
holds_same from log vs ws count more at block absent same less past (end, none) = (past end, none_same block vs ws same none)
holds_same from log vs ws count more at block bad_block same less past h = h
holds_same from log vs ws count more at block (seen_page lsn items) same less past (in_table, before, shows, fits) =
    (omega arith, before, block_same from log vs ws block items same shows, fits)

pub holds_until :
    (from : LogOrigin) (log : List Rec) (vs : List Version) (count at end : ℕ) (block : ℕ) (seen : Seen)
    → at < end → Holds from log vs count at block seen → Holds from log vs count end block seen
holds_until from log vs count at end block absent less h = h
holds_until from log vs count at end block bad_block less h = h
holds_until from log vs count at end block (seen_page lsn items) less (in_table, before, shows, fits) =
    (in_table, omega arith, shows, fits)

pub holds_behind :
    (from : LogOrigin) (log : List Rec) (vs : List Version) (count at end : ℕ) (block : ℕ) (seen : Seen)
    → at < end → Holds from log vs count at block seen → IsBehind end seen
holds_behind from log vs count at end block absent less h = tt
holds_behind from log vs count at end block bad_block less h = tt
holds_behind from log vs count at end block (seen_page lsn items) less (in_table, before, shows, fits) = omega arith

pub holds_later :
    (from : LogOrigin) (rec : Rec) (older : List Rec) → Legal from.transactions (transactions_of (rec ∷ older))
    → MakesMultixact older (made_by rec.kind) → (vs : List Version) → AreSound from older vs → (count at : ℕ) (block : ℕ)
    (seen : Seen) → Holds from older vs count at block seen → Holds from (rec ∷ older) vs count at block seen
holds_later from rec older legal makes vs sound count at block absent h = h
holds_later from rec older legal makes vs sound count at block bad_block h = h
holds_later from rec older legal makes vs sound count at block (seen_page lsn items) (in_table, before, shows, fits) =
    (in_table, before, block_later from rec older legal makes vs block items (sound block) shows, fits)

holds_shows :
    (from : LogOrigin) (log : List Rec) (vs : List Version) (count at : ℕ) (block : ℕ) (seen : Seen)
    → Holds from log vs count at block seen → ShowsSeen from log vs count block seen
holds_shows from log vs count at block absent h = h
holds_shows from log vs count at block bad_block h = h
holds_shows from log vs count at block (seen_page lsn items) (in_table, before, shows, fits) = (in_table, shows)

-- a version that a tuple of the rule shows has its user data behind its header
shown_behind :
    (from : LogOrigin) (log : List Rec) (place : Option Version) (item : Item) (v : Version)
    → ((tuple : List ℕ) → item ≡ normal tuple → IsTuple tuple) → ShowsPlace from log place item → place ≡ Some v
    → 23 ≤ hoff_of v.tuple
shown_behind from log None item v rule shows e = cc
shown_behind from log (Some w) item v rule (tuple, is, shown) e =
    let same : w ≡ v = cc in
    let long = tuple-long tuple (rule tuple is) in
    let hoff = same_hoff tuple w.tuple shown.row.bytes in
    subst (λ (u : Version). 23 ≤ hoff_of u.tuple) same (omega (arith, hoff, long.0))

behind_in :
    (from : LogOrigin) (log : List Rec) (vs : List Version) (count at : ℕ) (block : ℕ) (seen : Seen)
    → Holds from log vs count at block seen → (line : ℕ) (v : Version) → version_at block line vs ≡ Some v → 23 ≤ hoff_of v.tuple
behind_in from log vs count at block absent (past, none) line v e = let free = none line in cc
behind_in from log vs count at block bad_block h line v e = absurd h
behind_in from log vs count at block (seen_page lsn items) (in_table, before, shows, fits) line v e =
    shown_behind from log (version_at block line vs) (numbered items line) v (λ tuple is. (fits line tuple is).1) (shows line) e

-- such blocks show the versions
pub standing_shows :
    (from : LogOrigin) (log : List Rec) (vs : List Version) (count at : ℕ) (blocks : ℕ → Seen)
    → Standing from log vs count at blocks → ShowsTable from log vs count blocks
standing_shows from log vs count at blocks standing =
    record {
      shows = λ block. holds_shows from log vs count at block (blocks block) (standing.holds block);
      apart = standing.apart;
      sound = standing.sound;
      behind_header = λ block line v e. behind_in from log vs count at block (blocks block) (standing.holds block) line v e;
      lost = none_lost from log vs standing.lost;
    }
