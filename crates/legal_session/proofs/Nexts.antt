-- The pages of an open scan, read one after the other, as a session.
use Rattle.std.proofs.Common.{◌≡◌, ℕ, Bool, true, false, not, ◌&&◌, ◌||◌, List, [], ◌∷◌, ◌++◌, map, Option, Some, None, refl, sym, ap, ◌∙◌, subst, if◌then◌else◌}
use Rattle.std.specs.List.{list_any}
use Rattle.std.proofs.lemmas.Bool.{eq-eqb, false≢true}
use Rattle.std.proofs.lemmas.Grind.{flat_map-append}
use Rattle.std.proofs.lemmas.List.{append-nil}
use Rattle.recovery_conflict.specs.declared.locks.Cause.{Cause}
use Rattle.seq_scan.specs.BlockRows.{BlockEnd, BlockRows, Whole, ToastedAt, BadAt, UnknownAt, NoPage, ends}
use Rattle.session_text.specs.Requests as request
use Rattle.session_text.specs.Requests.{Request}
use Rattle.table_schema.specs.Description.{DescribedTable}
use Rattle.table_schema.specs.Tables.{table_with}
use Rattle.standby_core.specs.Scans.{is_whole}
use Rattle.session_model.specs.Events.{Next, Reply, Page}
use Rattle.session_model.specs.Answers.{Answer, Replied, Talks}
use Rattle.session_model.specs.Scans.{ReadsSome, end_status, is_more, page_status, pages_text}
use Rattle.session_model.specs.Texts.{reply_text}
use Rattle.legal_session.specs.AbstractStandby.{AbstractScan, AbstractStandby, ReadsScan, ReadsUnlessCancelled, Step, World, scan_in}
use Rattle.legal_session.specs.GivenRows.{ends_scan, is_last_page, pages_in, said_by, said_in}
use Rattle.legal_session.specs.WholeScans.{joined, joined_with}
use Rattle.legal_session.proofs.GivenSessions.{none_said, said_first}

-- a reply is a page of the scan with this id
pub record IsPage (id : ℕ) (reply : Reply) : Type 0 where
  pub table : DescribedTable
  pub block : ℕ
  pub more : Bool
  pub page : BlockRows
  pub is : reply ≡ Page id table block more page

said_page : (id : ℕ) (reply : Reply) → IsPage id reply → said_by id reply ≡ reply ∷ []
said_page id reply p =
    subst (λ (r : Reply). said_by id r ≡ r ∷ []) (sym p.is)
    (ap (λ (b : Bool). if b then Page id p.table p.block p.more p.page ∷ [] else []) (eq-eqb id id refl))

-- it ends the scan where there are no more
pub last_is : (id : ℕ) (reply : Reply) → IsPage id reply → is_more reply ≡ false → is_last_page reply ≡ true
last_is id reply p e =
    ap is_last_page p.is ∙ ap not (sym (ap is_more p.is) ∙ e)

goes_on : (id : ℕ) (reply : Reply) → IsPage id reply → is_more reply ≡ true → ends_scan reply ≡ false
goes_on id reply p e =
    ap ends_scan p.is ∙ ap not (sym (ap is_more p.is) ∙ e)

pub status_is : (id : ℕ) (reply : Reply) (p : IsPage id reply) → page_status reply ≡ end_status p.page.end
status_is id reply p = ap page_status p.is

-- pages put together end as the last of them
second_true : (a b : Bool) → (a && b) ≡ true → b ≡ true
second_true true b e = e
second_true false b e = cc

whole_is : (end : BlockEnd) → is_whole end ≡ true → end ≡ Whole
whole_is Whole e = refl
whole_is (ToastedAt line column) e = cc
whole_is (BadAt line column) e = cc
whole_is (UnknownAt line id) e = cc
whole_is NoPage e = cc

joined_end : (page rest : BlockRows) → is_whole page.end ≡ true → (joined_with page rest).end ≡ rest.end
joined_end page rest e =
    ap (λ (b : Bool). (if b then record { rows = page.rows ++ rest.rows; end = rest.end } else page).end) e

one_end : (page : BlockRows) → (joined_with page (ends Whole)).end ≡ page.end
one_end page = by (is_whole page.end) refl
  where
    by :
        (t : Bool) → is_whole page.end ≡ t
        → (if t then record { rows = page.rows ++ []; end = Whole } else page).end ≡ page.end
    by true e = sym (whole_is page.end e)
    by false e = refl

pages_first : (id : ℕ) (reply : Reply) (replies : List Reply) (p : IsPage id reply) → pages_in (reply ∷ replies) ≡ p.page ∷ pages_in replies
unfolding pages_in
pages_first id reply replies p = subst (λ (r : Reply). pages_in (r ∷ replies) ≡ p.page ∷ pages_in replies) (sym p.is) refl

no_pages : pages_in [] ≡ []
unfolding pages_in
no_pages = refl

pub texts_are : (pages : List Reply) (last : Reply) → pages_text pages ++ reply_text last ≡ pages_text (pages ++ last ∷ [])
texts_are pages last =
    sym (flat_map-append reply_text pages (last ∷ [])
    ∙ ap (λ (text : List ℕ). pages_text pages ++ text) (append-nil (reply_text last)))

module _ (w : World) (id : ℕ) where
  -- a reading that ends no scan is a page of this one, and no record is replayed
  by_cause :
      (s : AbstractStandby) (reply : Reply) (now : AbstractStandby) (scan : AbstractScan) (cause : Option Cause)
      → ReadsUnlessCancelled w id scan cause s reply now → cause ≡ None → IsPage id reply × (now.life ≡ s.life)
  by_cause s reply now scan (Some cause) step e = cc
  by_cause s reply now scan None (page, more, gives, says, leads) e = (
    record { table = table_with w.tables scan.table; block = scan.given; more = more; page = page; is = says },
    ap (λ (t : AbstractStandby). t.life) leads,
  )

  by_more :
      (s : AbstractStandby) (reply : Reply) (now : AbstractStandby) (scan : AbstractScan) (cause : Option Cause)
      → ReadsUnlessCancelled w id scan cause s reply now → is_more reply ≡ true → IsPage id reply × (now.life ≡ s.life)
  by_more s reply now scan (Some cause) (says, leads) e = absurd (false≢true (sym (ap is_more says) ∙ e))
  by_more s reply now scan None step e = by_cause s reply now scan None step refl

  by_scan :
      (s : AbstractStandby) (reply : Reply) (now : AbstractStandby) (scan : Option AbstractScan) → ReadsScan w id scan s reply now
      → is_more reply ≡ true → IsPage id reply × (now.life ≡ s.life)
  by_scan s reply now None (says, leads) e = absurd (false≢true (sym (ap is_more says) ∙ e))
  by_scan s reply now (Some scan) step e = by_more s reply now scan scan.cause step e

  -- a reading of an open scan that nothing cancelled
  pub reads_open :
      (s : AbstractStandby) (reply : Reply) (now : AbstractStandby) (scan : AbstractScan) → Step w (Next id) s reply now
      → scan_in id s.scans ≡ Some scan → scan.cause ≡ None → IsPage id reply × (now.life ≡ s.life)
  reads_open s reply now scan step there free =
      by_cause s reply now scan scan.cause (subst (λ (o : Option AbstractScan). ReadsScan w id o s reply now) there step) free

  -- pages that are read one after the other
  abbrev pub Nexts : List Reply → AbstractStandby → AbstractStandby → Type 0
  Nexts [] s now = now ≡ s
  Nexts (reply ∷ replies) s now =
      (mid : AbstractStandby) × Step w (Next id) s reply mid × IsPage id reply × (mid.life ≡ s.life) × Nexts replies mid now

  pub nexts_of : (pages : List Reply) (s now : AbstractStandby) → ReadsSome (Step w) id s pages now → Nexts pages s now
  unfolding ReadsSome
  nexts_of [] s now same = same
  nexts_of (page ∷ pages) s now (mid, step, more, rest) =
      let (is, life) = by_scan s page mid (scan_in id s.scans) step more in
      (mid, step, is, life, nexts_of pages mid now rest)

  pub nexts_on :
      (pages : List Reply) (last : Reply) (s mid now : AbstractStandby) → Nexts pages s mid → Step w (Next id) mid last now
      → IsPage id last → now.life ≡ mid.life → Nexts (pages ++ last ∷ []) s now
  nexts_on [] last s mid now same step is life =
      subst (λ (t : AbstractStandby). Nexts (last ∷ []) t now) same (now, step, is, life, refl)
  nexts_on (page ∷ pages) last s mid now (next, first, one, kept, rest) step is life =
      (next, first, one, kept, nexts_on pages last next mid now rest step is life)

  pub same_life : (replies : List Reply) (s now : AbstractStandby) → Nexts replies s now → now.life ≡ s.life
  same_life [] s now same = ap (λ (t : AbstractStandby). t.life) same
  same_life (reply ∷ replies) s now (mid, step, is, life, rest) = same_life replies mid now rest ∙ life

  -- as a session
  abbrev pub reads : List Reply → List Request
  reads replies = map (λ reply. request.Reads id) replies

  abbrev pub answers : List Reply → List Answer
  answers replies = map (λ reply. Replied reply) replies

  pub talks_of : (replies : List Reply) (s now : AbstractStandby) → Nexts replies s now → Talks (Step w) (reads replies) s (answers replies) now
  unfolding Talks
  talks_of [] s now same = same
  talks_of (reply ∷ replies) s now (mid, step, is, life, rest) = (mid, (reply, step, refl), talks_of replies mid now rest)

  pub said_all : (replies : List Reply) (s now : AbstractStandby) → Nexts replies s now → said_in id (answers replies) ≡ replies
  said_all [] s now same = none_said id
  said_all (reply ∷ replies) s now (mid, step, is, life, rest) =
      said_first id (Replied reply) (answers replies)
      ∙ ap (λ (said : List Reply). said ++ said_in id (answers replies)) (said_page id reply is)
      ∙ ap (λ (said : List Reply). reply ∷ said) (said_all replies mid now rest)

  -- none of the pages before the last ends the scan
  pub none_ends : (pages : List Reply) (s now : AbstractStandby) → ReadsSome (Step w) id s pages now → list_any ends_scan pages ≡ false
  unfolding ReadsSome
  none_ends [] s now same = refl
  none_ends (page ∷ pages) s now (mid, step, more, rest) =
      let (is, life) = by_scan s page mid (scan_in id s.scans) step more in
      ap (λ (b : Bool). b || list_any ends_scan pages) (goes_on id page is more) ∙ none_ends pages mid now rest

  -- pages put together end as the last one
  pub end_is :
      (pages : List Reply) (last : Reply) (s mid : AbstractStandby) → ReadsSome (Step w) id s pages mid → (p : IsPage id last)
      → (joined (pages_in (pages ++ last ∷ []))).end ≡ p.page.end
  unfolding ReadsSome
  end_is [] last s mid same p =
      ap (λ (all : List BlockRows). (joined all).end)
      (pages_first id last [] p ∙ ap (λ (all : List BlockRows). p.page ∷ all) no_pages)
      ∙ one_end p.page
  end_is (page ∷ pages) last s mid (next, step, more, rest) p =
      let (is, life) = by_scan s page next (scan_in id s.scans) step more in
      ap (λ (all : List BlockRows). (joined all).end) (pages_first id page (pages ++ last ∷ []) is)
      ∙ joined_end is.page (joined (pages_in (pages ++ last ∷ [])))
      (second_true is.more (is_whole is.page.end) (sym (ap is_more is.is) ∙ more))
      ∙ end_is pages last next mid rest p

pub ends_last : (pages : List Reply) (last : Reply) → is_last_page last ≡ true → list_any is_last_page (pages ++ last ∷ []) ≡ true
ends_last [] last e = ap (λ (b : Bool). b || false) e
ends_last (page ∷ pages) last e =
    ap (λ (b : Bool). is_last_page page || b) (ends_last pages last e) ∙ or_true (is_last_page page)
  where
    or_true : (b : Bool) → (b || true) ≡ true
    or_true true = refl
    or_true false = refl
