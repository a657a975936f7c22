-- What holds of versions that the blocks of a table show.
use Rattle.std.proofs.Common.{◌+◌, ◌≤◌, ◌<◌, ℕ, cond, List, ◌∷◌, arith}
use Rattle.std.proofs.lemmas.List.Sums.{sum_by-cons}
use Rattle.typed_records.specs.declared.types.Rec.{Rec}
use Rattle.page_store.specs.Seen.{Seen, absent, bad_block, seen_page}
use Rattle.row_model.specs.Origins.{LogOrigin}
use Rattle.row_model.specs.Versions.{Version, is_at}
use Rattle.row_model.specs.Shown.{AreApart, HasNone, ShowsSeen}

pub apart_rest : (v : Version) (vs : List Version) → AreApart (v ∷ vs) → AreApart vs
apart_rest v vs apart block line =
    let once = apart block line in
    omega (arith, sum_by-cons (λ (u : Version). cond (is_at block line u) 1 0) v vs)

-- past the table's end there is none
pub none_there :
    (o : LogOrigin) (log : List Rec) (vs : List Version) (count block : ℕ) (page : Seen) → count ≤ block
    → ShowsSeen o log vs count block page → HasNone vs block
none_there o log vs count block absent past (end, none) = none
none_there o log vs count block bad_block past shows = absurd shows
none_there o log vs count block (seen_page lsn items) past (within, shows) = absurd (omega arith)
