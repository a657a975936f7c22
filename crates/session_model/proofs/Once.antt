-- Where an event leads to one reply and one standby, a scan has one text and one exit status.
use Rattle.std.proofs.Common.{◌≡◌, ℕ, zero, suc, ◌<◌, ◌⊎◌, Bool, true, false, List, [], ◌∷◌, ◌++◌, arith, inl, inr, refl, sym, ap, subst, ◌∙◌}
use Rattle.session_model.specs.Events.{Reply, ReplayOne, Open, Next, Applied, AtEnd, Refused, Opened, is_applied}
use Rattle.session_model.specs.Answers.{Applies, Steps}
use Rattle.session_model.specs.Laws.{OneScan, OneStep}
use Rattle.session_model.specs.Scans.{ReadsOpened, ReadsOut, ReadsSome, ReplaysAll, ScansBy, ScansTable, is_more, page_status, pages_text, refused_text}
use Rattle.session_model.specs.Texts.{reply_text}

not_both : {A : Type 0} (test : A → Bool) (a b : A) → test a ≡ true → test b ≡ false → a ≡ b → ⊥
not_both test a b holds fails e = cc

-- n is less than m, they are equal, or m is less
ordered : (n m : ℕ) → (n < m) ⊎ ((n ≡ m) ⊎ (m < n))
ordered zero zero = inr (inl refl)
ordered zero (suc m) = inl (omega arith)
ordered (suc n) zero = inr (inr (omega arith))
ordered (suc n) (suc m) =
    elim (ordered n m) [
      | inl less ↦ inl (omega (arith, less))
      | inr (inl same) ↦ inr (inl (ap suc same))
      | inr (inr more) ↦ inr (inr (omega (arith, more)))
    ]

last_or_before : (n m : ℕ) → n < suc m → (n ≡ m) ⊎ (n < m)
last_or_before n m less =
    elim (ordered n m) [
      | inl before ↦ inr before
      | inr (inl same) ↦ inl same
      | inr (inr after) ↦ absurd (omega (arith, less, after))
    ]

told_once :
    (text other said : List ℕ) (status end number : ℕ) → (text ≡ said) × (status ≡ number) → (other ≡ said) × (end ≡ number)
    → (text ≡ other) × (status ≡ end)
told_once text other said status end number (a, b) (c, d) = (a ∙ sym c, b ∙ sym d)

module _ {S : Type 0} (step : Steps S) (once : OneStep step) where
  same_after : (n : ℕ) (s a b : S) → Applies step n s a → Applies step n s b → a ≡ b
  unfolding Applies
  same_after zero s a b first second = first ∙ sym second
  same_after (suc n) s a b (mid, before, (at, last)) (other, earlier, (place, ended)) =
      let same = same_after n s mid other before earlier in
      (once ReplayOne other (Applied at) (Applied place) a b (subst (λ x. step ReplayOne x (Applied at) a) same last) ended).1

  -- what is applied behind the first n records
  record GoesOn (n : ℕ) (s : S) : Type 0 where
    mid : S
    at : ℕ
    now : S
    applies : Applies step n s mid
    next : step ReplayOne mid (Applied at) now

  goes_on : (n m : ℕ) (s a : S) → n < m → Applies step m s a → GoesOn n s
  unfolding Applies
  goes_on n zero s a less all = absurd (omega (arith, less))
  goes_on n (suc m) s a less (mid, before, (at, last)) =
      elim (last_or_before n m less) [
        | inl same ↦ record {
          mid = mid;
          at = at;
          now = a;
          applies = subst (λ (k : ℕ). Applies step k s mid) (sym same) before;
          next = last;
        }
        | inr earlier ↦ goes_on n m s mid earlier before
      ]

  not_past : (s now : S) (last : Reply) (all : ReplaysAll step s last now) → GoesOn all.count s → ⊥
  not_past s now last all further =
      let same = same_after all.count s all.mid further.mid all.applies further.applies in
      let one = once ReplayOne further.mid last (Applied further.at) now further.now (subst (λ x. step ReplayOne x last now) same all.replays) further.next in
      not_both is_applied (Applied further.at) last refl all.stops (sym one.0)

  same_count : (s now later : S) (last end : Reply) (all : ReplaysAll step s last now) (other : ReplaysAll step s end later) → all.count ≡ other.count
  same_count s now later last end all other =
      elim (ordered all.count other.count) [
        | inl less ↦ absurd (not_past s now last all (goes_on all.count other.count s other.mid less other.applies))
        | inr (inl same) ↦ same
        | inr (inr more) ↦ absurd (not_past s later end other (goes_on other.count all.count s all.mid more all.applies))
      ]

  pub replays_once : (s now later : S) (last end : Reply) → ReplaysAll step s last now → ReplaysAll step s end later → (last ≡ end) × (now ≡ later)
  replays_once s now later last end all other =
      let applies = subst (λ (n : ℕ). Applies step n s all.mid) (same_count s now later last end all other) all.applies in
      let same = same_after other.count s all.mid other.mid applies other.applies in
      once ReplayOne other.mid last end now later (subst (λ x. step ReplayOne x last now) same all.replays) other.replays

  -- pages that were read, and the last one behind them
  record ReadsTo (id : ℕ) (s : S) (pages : List Reply) (last : Reply) : Type 0 where
    mid : S
    now : S
    reads : ReadsSome step id s pages mid
    ends : step (Next id) mid last now
    no_more : is_more last ≡ false

  ends_there : (id : ℕ) (s mid now next : S) (last page : Reply) → mid ≡ s → step (Next id) mid last now → is_more last ≡ false
      → step (Next id) s page next → is_more page ≡ true → ⊥
  ends_there id s mid now next last page same ends none more is =
      let one = once (Next id) s last page now next (subst (λ x. step (Next id) x last now) same ends) more in
      not_both is_more page last is none (sym one.0)

  reads_once :
      (id : ℕ) (s : S) (pages others : List Reply) (last end : Reply) → ReadsTo id s pages last → ReadsTo id s others end
      → (pages ≡ others) × (last ≡ end)
  unfolding ReadsSome
  reads_once id s [] [] last end one other =
      let first = subst (λ x. step (Next id) x last one.now) one.reads one.ends in
      let second = subst (λ x. step (Next id) x end other.now) other.reads other.ends in
      (refl, (once (Next id) s last end one.now other.now first second).0)
  reads_once id s [] (page ∷ others) last end one other =
      absurd (ends_there id s one.mid one.now other.reads.0 last page one.reads one.ends one.no_more other.reads.1 other.reads.2)
  reads_once id s (page ∷ pages) [] last end one other =
      absurd (ends_there id s other.mid other.now one.reads.0 end page other.reads other.ends other.no_more one.reads.1 one.reads.2)
  reads_once id s (page ∷ pages) (first ∷ others) last end one other =
      let same = once (Next id) s page first one.reads.0 other.reads.0 one.reads.1 other.reads.1 in
      let rest : ReadsTo id other.reads.0 pages last =
      record {
        mid = one.mid;
        now = one.now;
        reads = subst (λ x. ReadsSome step id x pages one.mid) same.1 one.reads.3;
        ends = one.ends;
        no_more = one.no_more;
      } in
      let more : ReadsTo id other.reads.0 others end =
      record { mid = other.mid; now = other.now; reads = other.reads.3; ends = other.ends; no_more = other.no_more } in
      let both = reads_once id other.reads.0 pages others last end rest more in
      (ap (λ (p : Reply). p ∷ pages) same.0 ∙ ap (λ (ps : List Reply). first ∷ ps) both.0, both.1)

  reads_to : (id : ℕ) (s : S) (text : List ℕ) (status : ℕ) (out : ReadsOut step id s text status) → ReadsTo id s out.pages out.last
  reads_to id s text status out =
      record { mid = out.mid; now = out.now; reads = out.reads; ends = out.ends; no_more = out.no_more }

  reads_out :
      (id : ℕ) (s : S) (text other : List ℕ) (status end : ℕ) → ReadsOut step id s text status → ReadsOut step id s other end
      → (text ≡ other) × (status ≡ end)
  reads_out id s text other status end one two =
      let both = reads_once id s one.pages two.pages one.last two.last (reads_to id s text status one) (reads_to id s other end two) in
      let texts : pages_text one.pages ++ reply_text one.last ≡ pages_text two.pages ++ reply_text two.last =
      ap (λ (ps : List Reply). pages_text ps ++ reply_text one.last) both.0
      ∙ ap (λ (p : Reply). pages_text two.pages ++ reply_text p) both.1 in
      (one.says ∙ texts ∙ sym two.says, one.is_status ∙ ap page_status both.1 ∙ sym two.is_status)

  reads_opened :
      (reply : Reply) (s : S) (text other : List ℕ) (status end : ℕ) → ReadsOpened step reply s text status
      → ReadsOpened step reply s other end → (text ≡ other) × (status ≡ end)
  reads_opened (Opened id at) s text other status end (rows, out, says) (lines, read, tells) =
      let both = reads_out id s rows lines status end out read in
      (says ∙ ap (λ (t : List ℕ). reply_text (Opened id at) ++ t) both.0 ∙ sym tells, both.1)
  reads_opened reply s text other status end one two = told_once text other (reply_text reply) status end 1 one two

  scans_table :
      (s : S) (name text other : List ℕ) (status end : ℕ) → ScansTable step s name text status → ScansTable step s name other end
      → (text ≡ other) × (status ≡ end)
  scans_table s name text other status end one two =
      let same = once (Open name) s one.reply two.reply one.opened two.opened one.opens two.opens in
      reads_opened two.reply two.opened text other status end
      (subst (λ x. ReadsOpened step two.reply x text status) same.1
      (subst (λ (r : Reply). ReadsOpened step r one.opened text status) same.0 one.reads))
      two.reads

  scans_by :
      (last : Reply) (s : S) (name text other : List ℕ) (status end : ℕ) → ScansBy step last s name text status
      → ScansBy step last s name other end → (text ≡ other) × (status ≡ end)
  scans_by (AtEnd at why) s name text other status end one two = scans_table s name text other status end one two
  scans_by (Refused at what) s name text other status end one two = told_once text other (refused_text at what) status end 5 one two
  scans_by reply s name text other status end one two = absurd one

  pub scans_once : OneScan step
  scans_once s name text other status end one two =
      let same = replays_once s one.ended two.ended one.last two.last one.replays two.replays in
      scans_by two.last two.ended name text other status end
      (subst (λ x. ScansBy step two.last x name text status) same.1
      (subst (λ (r : Reply). ScansBy step r one.ended name text status) same.0 one.scans))
      two.scans
