-- Pages of a scan that are read and written one after the other.
use Rattle.std.proofs.Common.{◌≡◌, ◌⊎◌, ℕ, ◌+◌, ◌-◌, ◌<◌, Bool, true, false, ◌&&◌, ◌==◌, List, [], ◌∷◌, ◌++◌, Option, None, Some, Ok, Err, inl, inr, refl, ap, sym, ◌∙◌, subst, append-nil, arith, if◌then◌else◌}
use Rattle.std.specs.Prelude.{codes}
use Rattle.std.proofs.lemmas.Bool.{and_parts}
use Rattle.std.proofs.lemmas.Bool.Decides.{nat_tests}
use Rattle.std.proofs.lemmas.List.Concat.{flat_map-append}
use Rattle.outside.specs.Sink.{Appends}
use Rattle.table_schema.specs.Description.{Description}
use Rattle.seq_scan.specs.Scans.{OpenScan, after_page, end_of_page, has_more, has_next}
use Rattle.recovery_conflict.specs.declared.locks.Cause.{Cause}
use Rattle.standby_core.specs.declared.scans.NodeScan.{NodeScan}
use Rattle.standby_core.specs.declared.scans.PrintedPage.{PrintedPage}
use Rattle.standby_core.specs.declared.scans.PrintedPage.TheVariants as shown
use Rattle.standby_core.specs.Standby.{Standby}
use Rattle.standby_core.specs.Scans.{PrintsPage, PrintsUnlessCancelled, is_whole, moved_on, node_page, scan_with, without}
use Rattle.session_model.specs.Answers.{Steps}
use Rattle.session_model.specs.Events.{Reply, Next}
use Rattle.session_model.specs.NodeSteps.{NodeStep, bare}
use Rattle.session_model.specs.Scans.{ReadsOut, ReadsSome, is_more, page_status, pages_text}
use Rattle.session_model.specs.Texts.{reply_text}
use Rattle.standby_session.specs.Printed.{SaysLast}
use Rattle.standby_session.specs.Scanning.{IsLastPrinted, PageLeaves, PushesPage, ReadsFirstPages, ReadsPages, WritesPage, Wrote, WrotePages, left_in, left_of}
use Rattle.standby_session.specs.declared.fault.SessionFault.{SessionFault}
use Rattle.standby_session.specs.declared.fault.SessionFault.TheVariants as fault
use Rattle.standby_session.proofs.Appending.{appends_both, appends_prefix, nothing_appended, nothing_more}
use Rattle.standby_session.proofs.Replies.{reply_of}

pub page_pushed :
    (id : ℕ) (scan : Option NodeScan) (old new : Standby) (tables : Description) (page : PrintedPage) (before mid now : List ℕ) (last : Option ℕ)
    → PrintsPage id scan old (Some page) new (codes "row ") before mid → tables ≡ new.tables → SaysLast id tables page mid now
    → IsLastPrinted last page → PushesPage id scan old new before now last
page_pushed id scan old new tables page before mid now last p same says by =
    let is = reply_of id scan old new tables page before mid now p same says in
    record { reply = is.reply; reads = is.reads; says = is.says; is_last = is.is_last last by }

-- the scan that was given a page, among the others
abbrev moved : NodeScan → NodeScan
moved one = record one { scan = after_page one.scan }

moved_at :
    (b : Bool) (id : ℕ) (one : NodeScan) (scans : List NodeScan) (found : NodeScan) → (if b then Some one else scan_with id scans) ≡ Some found
    → (scan_with id scans ≡ Some found → scan_with id (moved_on id scans) ≡ Some (moved found))
    → (if b then Some (moved one) else scan_with id (moved_on id scans)) ≡ Some (moved found)
moved_at true id one scans found e later = let same : one ≡ found = cc in ap (λ (s : NodeScan). Some (moved s)) same
moved_at false id one scans found e later = later e

moved_in :
    (b : Bool) (id : ℕ) (one : NodeScan) (scans : List NodeScan) → (one.id == id) ≡ b
    → scan_with id (if b then moved one ∷ scans else one ∷ moved_on id scans)
    ≡ (if b then Some (moved one) else scan_with id (moved_on id scans))
moved_in true id one scans e = ap (λ (b : Bool). if b then Some (moved one) else scan_with id scans) e
moved_in false id one scans e = ap (λ (b : Bool). if b then Some one else scan_with id (moved_on id scans)) e

moved_found :
    (id : ℕ) (scans : List NodeScan) (found : NodeScan) → scan_with id scans ≡ Some found → scan_with id (moved_on id scans) ≡ Some (moved found)
moved_found id [] found e = absurd (cc)
moved_found id (one ∷ scans) found e =
    moved_in ((one.id == id)) id one scans refl ∙ moved_at ((one.id == id)) id one scans found e (moved_found id scans found)

-- a block less is left of it
left_after : (scan : OpenScan) → has_more scan ≡ true → (after_page scan).blocks - (after_page scan).given < scan.blocks - scan.given
left_after scan more =
    let further : scan.given + 1 < scan.blocks = grind (arith, nat_tests) in
    let next : has_next scan ≡ true = grind (arith, nat_tests) in
    let is : after_page scan ≡ record scan { given = scan.given + 1 } = ap (λ (b : Bool). if b then record scan { given = scan.given + 1 } else scan) next in
    subst (λ (s : OpenScan). s.blocks - s.given < scan.blocks - scan.given) (sym is) (omega arith)

-- there is no page behind one that tells why its scan was cancelled
never_more : (cause : Cause) → IsLastPrinted None (shown.Cancelled cause) → ⊥
never_more cause e = absurd (cc)

onward_by :
    (id : ℕ) (one : NodeScan) (cause : Option Cause) (old new : Standby) (page : PrintedPage) (head before mid : List ℕ)
    → scan_with id old.scans ≡ Some one → PrintsUnlessCancelled id cause one.scan old (Some page) new head before mid
    → IsLastPrinted None page → left_of id new < left_in (Some one)
onward_by id one (Some cause) old new page head before mid found (some, e, text) by =
    let is : page ≡ shown.Cancelled cause = cc in
    absurd (never_more cause (subst (λ (p : PrintedPage). IsLastPrinted None p) is by))
onward_by id one None old new page head before mid found (some, e, text) by =
    let rows = node_page old one.scan in
    let is : page ≡ shown.Given one.scan.table (end_of_page one.scan rows) = cc in
    let more : (has_more one.scan && is_whole rows.end) ≡ true =
    subst (λ (p : PrintedPage). IsLastPrinted None p) is by one.scan.given (has_more one.scan) rows.end refl in
    let scans : new.scans ≡ moved_on id old.scans =
    ap (λ (n : Standby). n.scans) e ∙ ap (λ (b : Bool). if b then moved_on id old.scans else without id old.scans) more in
    let now : scan_with id new.scans ≡ Some (moved one) =
    ap (λ (s : List NodeScan). scan_with id s) scans ∙ moved_found id old.scans one found in
    subst (λ (o : Option NodeScan). left_in o < left_in (Some one)) (sym now)
    (left_after one.scan (and_parts (has_more one.scan) (is_whole rows.end) more).0)

pub page_onward :
    (id : ℕ) (scan : Option NodeScan) (old new : Standby) (page : PrintedPage) (head before mid : List ℕ) → scan_with id old.scans ≡ scan
    → PrintsPage id scan old (Some page) new head before mid → IsLastPrinted None page → left_of id new < left_in scan
page_onward id None old new page head before mid found (none, e, text) by = absurd (cc)
page_onward id (Some one) old new page head before mid found p by = onward_by id one one.cause old new page head before mid found p by

module _ {S : Type 0} (step : Steps S) where
  pub reads_on :
      (id : ℕ) (pages : List Reply) (page : Reply) (s mid now : S) → ReadsSome step id s pages mid → step (Next id) mid page now
      → is_more page ≡ true → ReadsSome step id s (pages ++ page ∷ []) now
  unfolding ReadsSome
  reads_on id [] page s mid now p q more = (now, subst (λ (m : S). step (Next id) m page now) p q, more, refl)
  reads_on id (first ∷ pages) page s mid now p q more = (p.0, p.1, p.2, reads_on id pages page p.0 mid now p.3 q more)

  pub reads_none : (id : ℕ) (s : S) → ReadsSome step id s [] s
  unfolding ReadsSome
  reads_none id s = refl

  texts : (pages : List Reply) (page : Reply) → pages_text (pages ++ page ∷ []) ≡ pages_text pages ++ reply_text page
  texts pages page =
      flat_map-append reply_text pages (page ∷ []) ∙ ap (λ (t : List ℕ). pages_text pages ++ t) (append-nil (reply_text page))

  pages_on :
      (id : ℕ) (s mid now : S) (page : Reply) (text : List ℕ) → ReadsPages step id s mid text → step (Next id) mid page now
      → is_more page ≡ true → ReadsPages step id s now (text ++ reply_text page)
  pages_on id s mid now page text p q more = record {
    pages = p.pages ++ page ∷ [];
    reads = reads_on id p.pages page s mid now p.reads q more;
    says = ap (λ (t : List ℕ). t ++ reply_text page) p.says ∙ sym (texts p.pages page);
  }

  pages_out :
      (id : ℕ) (s mid now : S) (page : Reply) (text : List ℕ) (status : ℕ) → ReadsPages step id s mid text → step (Next id) mid page now
      → is_more page ≡ false → status ≡ page_status page → ReadsOut step id s (text ++ reply_text page) status
  pages_out id s mid now page text status p q over is = record {
    pages = p.pages;
    mid = mid;
    reads = p.reads;
    last = page;
    now = now;
    ends = q;
    no_more = over;
    says = ap (λ (t : List ℕ). t ++ reply_text page) p.says;
    is_status = is;
  }

  -- one that was not written whole
  pages_part :
      (id : ℕ) (s mid now : S) (page : Reply) (text : List ℕ) → ReadsPages step id s mid text → step (Next id) mid page now
      → (ReadsFirstPages step id s (text ++ reply_text page)) ⊎ ((status : ℕ) × ReadsOut step id s (text ++ reply_text page) status)
  pages_part id s mid now page text p q = by (is_more page) refl
    where
      by : (b : Bool) → is_more page ≡ b
          → (ReadsFirstPages step id s (text ++ reply_text page)) ⊎ ((status : ℕ) × ReadsOut step id s (text ++ reply_text page) status)
      by true e = inl (now, pages_on id s mid now page text p q e)
      by false e = inr (page_status page, pages_out id s mid now page text (page_status page) p q e refl)

-- no page was written yet
pub pages_none : (byte : ℕ → Option ℕ) (id : ℕ) (node : Standby) (now : Option (List ℕ)) → WrotePages byte id node node now now
pages_none byte id node now = record {
  text = [];
  reads = record { pages = []; reads = reads_none (NodeStep byte) id (bare node); says = refl };
  writes = nothing_appended now;
}

-- one more was
pub pages_more :
    (byte : ℕ → Option ℕ) (id : ℕ) (begin old new : Standby) (before between now : Option (List ℕ)) → WrotePages byte id begin old before between
    → WritesPage id (scan_with id old.scans) old new between now None → WrotePages byte id begin new before now
pages_more byte id begin old new before between now p q = record {
  text = p.text ++ reply_text q.reply;
  reads = pages_on (NodeStep byte) id (bare begin) (bare old) (bare new) q.reply p.text p.reads q.reads q.is_last;
  writes = appends_both before between now p.text (reply_text q.reply) p.writes q.writes;
}

-- the last one was
pub pages_end :
    (byte : ℕ → Option ℕ) (id : ℕ) (begin old new : Standby) (before between now : Option (List ℕ)) (status : ℕ)
    → WrotePages byte id begin old before between → WritesPage id (scan_with id old.scans) old new between now (Some status)
    → Wrote (ReadsOut (NodeStep byte) id (bare begin)) (ReadsFirstPages (NodeStep byte) id (bare begin)) before now (Ok status)
pages_end byte id begin old new before between now status p q = (
  p.text ++ reply_text q.reply,
  pages_out (NodeStep byte) id (bare begin) (bare old) (bare new) q.reply p.text status p.reads q.reads q.is_last.0 q.is_last.1,
  appends_both before between now p.text (reply_text q.reply) p.writes q.writes,
)

-- the next one was not
pub pages_cut :
    (byte : ℕ → Option ℕ) (id : ℕ) (begin old new : Standby) (before between now : Option (List ℕ)) (f : SessionFault)
    → WrotePages byte id begin old before between → PageLeaves id (scan_with id old.scans) old new between now (Err f)
    → Wrote (ReadsOut (NodeStep byte) id (bare begin)) (ReadsFirstPages (NodeStep byte) id (bare begin)) before now (Err f)
pages_cut byte id begin old new before between now fault.Archive p q = absurd q
pages_cut byte id begin old new before between now fault.Source p q = absurd q
pages_cut byte id begin old new before between now fault.Memory p q = (
  p.text,
  (bare old, p.reads),
  subst (λ (t : List ℕ). Appends before now t) (append-nil p.text)
      (appends_both before between now p.text [] p.writes (nothing_more between now q)),
)
pages_cut byte id begin old new before between now fault.Sink p q = (
  p.text ++ reply_text q.reply,
  pages_part (NodeStep byte) id (bare begin) (bare old) (bare new) q.reply p.text p.reads q.reads,
  appends_prefix before between now p.text (reply_text q.reply) p.writes q.writes,
)
