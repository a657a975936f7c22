-- The tuples of a page of bytes, and the page of zeros.
use Rattle.std.proofs.Common.{◌≡◌, ℕ, zero, suc, ◌-◌, ◌<◌, Bool, true, false, ◌==◌, ◌||◌, cond, List, [], ◌∷◌, ◌++◌, map, length, take, drop, replicate, Some, arith, refl, ap, ◌∙◌, subst}
use Rattle.std.specs.List.{list_all, range_with_len}
use Rattle.std.proofs.lemmas.Bool.{and_from, or_left}
use Rattle.std.proofs.lemmas.List.{length-replicate}
use Rattle.std.proofs.lemmas.List.Elements.{All-append, All-take, All-drop, All-replicate}
use Rattle.pg_types.specs.Numbers.{number_at}
use Rattle.heap_page.specs.Item.{Item, unused, normal, redirect, dead, before_trimmed, trimmed, item_in, numbered}
use Rattle.heap_page.specs.Page.{lsn_of, items_of, lines_of, line_count, item_of, pointer_of, state_in, offset_in, bytes_at, length_in, is_zeros, is_laid, is_page}
use Rattle.heap_page.specs.Put.{restored}
use Rattle.heap_page.specs.Law.{TuplesKeepRule, ZerosHaveNone}
use Rattle.page_store.specs.Content.{zeros}
use Rattle.typed_records.specs.declared.types.RecImage.{RecImage}
use Rattle.heap_redo.specs.After.{page_of_image}
use Rattle.page_store.specs.Seen.{seen, seen_page, bad_block}
use Rattle.row_model.specs.RowSteps.{items_in}
use Rattle.pg_types.specs.Bytes.{AreBytes}
use Rattle.row_redo.proofs.Fitting.{TuplesFit}

-- the tuple of an item is bytes
abbrev HasBytes : Item → Type 0
HasBytes unused = Unit {0}
HasBytes (normal tuple) = AreBytes tuple
HasBytes (redirect to) = Unit {0}
HasBytes dead = Unit {0}

-- the tuples of these items are
abbrev HaveBytes : List Item → Type 0
HaveBytes [] = Unit {0}
HaveBytes (item ∷ items) = HasBytes item × HaveBytes items

in_item : (items : List Item) (k : ℕ) (tuple : List ℕ) → HaveBytes items → item_in items k ≡ normal tuple → AreBytes tuple
in_item [] zero tuple have e = cc
in_item [] (suc k) tuple have e = cc
in_item (item ∷ items) zero tuple (here, have) e = subst HasBytes e here
in_item (item ∷ items) (suc k) tuple (here, have) e = in_item items k tuple have e

in_numbered : (items : List Item) (line : ℕ) (tuple : List ℕ) → HaveBytes items → numbered items line ≡ normal tuple → AreBytes tuple
in_numbered items zero tuple have e = cc
in_numbered items (suc k) tuple have e = in_item items k tuple have e

have_before : (item : Item) (items : List Item) → HasBytes item → HaveBytes items → HaveBytes (before_trimmed item items)
have_before unused [] here have = tt
have_before unused (next ∷ items) here have = (here, have)
have_before (normal tuple) items here have = (here, have)
have_before (redirect to) items here have = (here, have)
have_before dead items here have = (here, have)

have_trimmed : (items : List Item) → HaveBytes items → HaveBytes (trimmed items)
have_trimmed [] have = tt
have_trimmed (item ∷ items) (here, have) = have_before item (trimmed items) here (have_trimmed items have)

has_one_of : (a b c : Bool) (bytes : List ℕ) (to : ℕ) → AreBytes bytes → HasBytes (cond a (normal bytes) (cond b (redirect to) (cond c dead unused)))
has_one_of true b c bytes to h = h
has_one_of false true c bytes to h = tt
has_one_of false false true bytes to h = tt
has_one_of false false false bytes to h = tt

item_bytes : (page : List ℕ) (pointer : ℕ) → AreBytes page → HasBytes (item_of page pointer)
unfolding item_of
item_bytes page pointer h =
    has_one_of (state_in pointer == 1) (state_in pointer == 2) (state_in pointer == 3) (bytes_at page pointer) (offset_in pointer)
    (All-take (λ (byte : ℕ). byte < 256) (length_in pointer) (drop (offset_in pointer) page)
    (All-drop (λ (byte : ℕ). byte < 256) (offset_in pointer) page h))

lines_bytes : (page : List ℕ) (ks : List ℕ) → AreBytes page → HaveBytes (map (λ k. item_of page (pointer_of page k)) ks)
lines_bytes page [] h = tt
lines_bytes page (k ∷ ks) h = (item_bytes page (pointer_of page k) h, lines_bytes page ks h)

page_bytes : (page : List ℕ) → AreBytes page → HaveBytes (items_of page)
unfolding items_of lines_of
page_bytes page h = have_trimmed (lines_of page) (lines_bytes page (range_with_len 0 (line_count page)) h)

-- the tuples of a page of bytes
pub page_fits : TuplesKeepRule → (page : List ℕ) → AreBytes page → is_page page ≡ true → TuplesFit (items_of page)
page_fits keep page bytes is line tuple e =
    (in_numbered (items_of page) line tuple (page_bytes page bytes) e, keep page line tuple is e)

restored_bytes : (hole : ℕ) (bytes : List ℕ) → AreBytes bytes → AreBytes (restored hole bytes)
unfolding restored
restored_bytes hole bytes h =
    let is_byte : ℕ → Type 0 = λ n. n < 256 in
    let gap : List ℕ = replicate (8192 - length bytes) 0 in
    All-append is_byte (take hole bytes ++ gap) (drop hole bytes)
    (All-append is_byte (take hole bytes) gap (All-take is_byte hole bytes h) (All-replicate is_byte (8192 - length bytes) 0 (omega arith)))
    (All-drop is_byte hole bytes h)

-- those of an image
pub image_fits : TuplesKeepRule → (image : RecImage) → AreBytes image.bytes → is_page (page_of_image image) ≡ true → TuplesFit (items_in image)
image_fits keep image bytes is = page_fits keep (page_of_image image) (restored_bytes image.hole_at image.bytes bytes) is

zeros_all : (n : ℕ) → list_all (λ (byte : ℕ). byte == 0) (replicate n 0) ≡ true
zeros_all zero = refl
zeros_all (suc n) = zeros_all n

zeros_page : is_page zeros ≡ true
unfolding is_page zeros
zeros_page =
    and_from (length zeros == 8192) (is_zeros zeros || is_laid zeros) (ap (λ (n : ℕ). n == 8192) (length-replicate {A = ℕ} 8192 0))
    (or_left (is_zeros zeros) (is_laid zeros) (zeros_all 8192))

zeros_lsn : lsn_of zeros ≡ 0
unfolding lsn_of zeros number_at
zeros_lsn = refl

-- a block of zeros is a page without items, changed by no record
pub zeros_seen : ZerosHaveNone → seen (Some zeros) ≡ seen_page 0 []
unfolding seen zeros
zeros_seen none =
    ap (λ (v : Bool). cond v (seen_page (lsn_of zeros) (items_of zeros)) bad_block) zeros_page
    ∙ ap (λ (n : ℕ). seen_page n (items_of zeros)) zeros_lsn
    ∙ ap (seen_page 0) (none zeros (zeros_all 8192))

pub none_fit : TuplesFit []
none_fit zero tuple e = cc
none_fit (suc k) tuple e = cc
