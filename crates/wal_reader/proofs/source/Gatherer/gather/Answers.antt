use Rattle.std.proofs.Common.{◌≡◌, ◌-◌, refl, sym, ap, ◌∙◌, Ok, Err, arith}
use Rattle.wal_reader.specs.Gathered.{gathered}
use Rattle.wal_reader.specs.Calls.{Gathering, SaysText, SaysPart, told_to}
use Rattle.std.proofs.lemmas.Result.{err_from_is_err_and}
use Rattle.wal_reader.proofs.GatheredSteps.{less-zero}
use Rattle.wal_reader.proofs.Answered.{where_start, where_chain, text_start, text_more, text_halts, missing_after, enough_after}
use Rattle.wal_reader.proofs.Onward.{given_up_before}
use Rattle.wal_reader.proofs.source.Gatherer.gather.Goals as goal

pub loop-left-init : goal.loop-left-init
loop-left-init g c =
    let z : c.args.n - c.args.n ≡ 0 = omega arith in
    record {
      fewer = omega arith;
      missing = rw z (sym (less-zero c.args.missing));
      enough = c.requires;
      onward = omega arith;
      grows = omega arith;
      some = λ h. absurd (omega arith);
      bounded = λ h. h;
      same = refl;
      stays = record { told_stays = refl; owner_stays = refl; grows = omega arith };
      uncounted = refl;
      same_log = g.met.L.LogBytes.same_self c.args.log.now;
      answer = where_start (g.L.LogBytes.told c.args.log.now) (g.L.LogBytes.owner_of c.args.log.now) c.args.self.now
          (λ told. SaysText (Ok c.args.at) c.args.self.now.text c.args.self.now.text (gathered told c.args.missing (c.args.n - c.args.n) c.args.at))
          (λ byte. text_start (told_to c.args.self.now byte (g.L.LogBytes.owner_of c.args.log.now)) c.args.missing c.args.n c.args.at c.args.self.now.text);
    }

pub returns-in_err-end-clause-answer : goal.returns-in_err-end-clause-answer
returns-in_err-end-clause-answer g c =
    let old = c.args.self.now in
    let l = c.loop-left in
    let inv = c.loop-left.invariant in
    let e = c.in_err-end.field-0.0 in
    let p = err_from_is_err_and c.from_residual.result c.from_residual.ensures.1 in
    rw (p.1, p.2) (where_chain (g.L.LogBytes.told c.args.log.now) (g.L.LogBytes.told l.log) (g.L.LogBytes.owner_of c.args.log.now) (g.L.LogBytes.owner_of l.log)
    old l.self c.gather_page.new.self c.gather_page.new.self
    (λ told. SaysText (Ok l.at) old.text l.self.text (gathered told c.args.missing (c.args.n - l.left) c.args.at))
    (λ told. SaysPart (Err e) l.left l.self.text c.gather_page.new.self.text (λ k. gathered told l.missing k l.at))
    (λ told. SaysText (Err e) old.text c.gather_page.new.self.text (gathered told c.args.missing c.args.n c.args.at))
    inv.stays.told_stays inv.stays.owner_stays (ap (λ (s : Gathering). s.system) inv.same) (ap (λ (s : Gathering). s.segsize) inv.same) refl
    (λ byte first later. text_halts (told_to old byte (g.L.LogBytes.owner_of c.args.log.now)) c.args.missing l.missing c.args.n l.left c.args.at l.at e old.text l.self.text c.gather_page.new.self.text
    inv.fewer inv.missing first later)
    inv.answer c.in_err-end.ensures.answer)

pub loop-left-preserved : goal.loop-left-preserved
loop-left-preserved g c =
    let old = c.args.self.now in
    let l = c.loop-left in
    let inv = c.loop-left.invariant in
    let got = c.in_ok-end.got in
    let within = c.in_ok-end.ensures.within in
    let stays = c.in_ok-end.ensures.stays in
    let same = c.in_ok-end.ensures.same in
    record {
      fewer = let h = inv.fewer in omega arith;
      missing = c.without-missing.ensures ∙ missing_after c.args.missing l.missing c.args.n l.left got inv.fewer within.1 inv.missing;
      enough = rw c.without-missing.ensures (enough_after l.missing l.left got inv.enough);
      onward = let a = c.in_ok-end.ensures.onward in let b = inv.onward in let f = inv.fewer in let w = within.1 in omega arith;
      grows = let a = c.in_ok-end.ensures.grows in let b = inv.grows in let f = inv.fewer in omega arith;
      some = λ h. within.2;
      bounded = λ h. within.2;
      same = same ∙ ap (λ (s : Gathering). let x : Gathering = record s { kept = c.gather_page.new.self.kept; text = c.gather_page.new.self.text } in x) inv.same;
      stays = record {
        told_stays = stays.told_stays ∙ inv.stays.told_stays;
        owner_stays = stays.owner_stays ∙ inv.stays.owner_stays;
        grows = let a = inv.stays.grows in let b = stays.grows in omega arith;
      };
      uncounted = c.in_ok-end.ensures.uncounted (λ e. cc) ∙ inv.uncounted;
      same_log = g.met.L.LogBytes.same_later c.args.log.now l.log c.gather_page.new.log inv.same_log c.in_ok-end.ensures.same_log;
      answer = where_chain (g.L.LogBytes.told c.args.log.now) (g.L.LogBytes.told l.log) (g.L.LogBytes.owner_of c.args.log.now) (g.L.LogBytes.owner_of l.log)
          old l.self c.gather_page.new.self c.gather_page.new.self
          (λ told. SaysText (Ok l.at) old.text l.self.text (gathered told c.args.missing (c.args.n - l.left) c.args.at))
          (λ told. SaysPart (Ok (c.in_ok-end.end, got)) l.left l.self.text c.gather_page.new.self.text (λ k. gathered told l.missing k l.at))
          (λ told. SaysText (Ok c.in_ok-end.end) old.text c.gather_page.new.self.text (gathered told c.args.missing (c.args.n - (l.left - got)) c.args.at))
          inv.stays.told_stays inv.stays.owner_stays (ap (λ (s : Gathering). s.system) inv.same) (ap (λ (s : Gathering). s.segsize) inv.same) refl
          (λ byte first later. text_more (told_to old byte (g.L.LogBytes.owner_of c.args.log.now)) c.args.missing l.missing c.args.n l.left got c.args.at l.at c.in_ok-end.end old.text l.self.text c.gather_page.new.self.text
          inv.fewer inv.missing first later)
          inv.answer c.in_ok-end.ensures.answer;
    }

pub returns-in_err-end-clause-same_log : goal.returns-in_err-end-clause-same_log
returns-in_err-end-clause-same_log g c =
    g.met.L.LogBytes.same_later c.args.log.now c.loop-left.log c.gather_page.new.log c.loop-left.invariant.same_log c.in_err-end.ensures.same_log

pub returns-in_err-end-clause-given_up : goal.returns-in_err-end-clause-given_up
returns-in_err-end-clause-given_up g c =
    let e = c.in_err-end.field-0.0 in
    let p = err_from_is_err_and c.from_residual.result c.from_residual.ensures.1 in
    let later = c.loop-left.invariant.onward in
    rw (p.1, p.2) (given_up_before c.args.at c.loop-left.at e (omega arith) c.in_err-end.ensures.given_up)
