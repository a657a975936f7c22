use Rattle.std.proofs.Common.{◌≡◌, ◌≤◌, ◌∙◌, ◌∷◌, ◌^◌, ◌+◌, ap, sym, arith, max, fold, ℕ, List}
use Rattle.known_assigned.specs.Ids.{numbers, without}
use Rattle.known_assigned.specs.Known.{Known, Tracked, after_end}
use Rattle.known_assigned.proofs.Ordered.{greatest-within, without-cons}
use Rattle.known_assigned.proofs.known.KnownAssigned.end_tree.Goals as goal

pub invariant_of-self : goal.invariant_of-self
invariant_of-self c =
    let listed : fold max (max 0 c.args.xid.0) (numbers c.args.subs.now) ≤ 2 ^ 63 + 2 ^ 32 =
    greatest-within (2 ^ 63 + 2 ^ 32) (max 0 c.args.xid.0) c.args.subs.now (omega (arith, c.requires.top)) (λ k d h. c.requires.listed k d h) in
    omega (arith, listed, c.greatest_of-self-inside.ensures, c.self.invariant)

pub returns-clause-known : goal.returns-clause-known
unfolding after_end
returns-clause-known c =
    let out = c.args.xid.0 ∷ numbers c.args.subs.now in
    let inside = c.self.inside in
    let ids : c.pack.new.self.xids ≡ without out inside.running.xids =
    c.pack.ensures.xids ∙ c.remove_listed.ensures.xids ∙ ap (without (numbers c.args.subs.now)) c.remove.ensures.xids ∙ sym (without-cons c.args.xid.0 (numbers c.args.subs.now) inside.running.xids) in
    let known_with : List ℕ → ℕ → Known = λ l m. record { xids = l; latest = m; observed = inside.observed; overflowed = inside.overflowed; mode = inside.state } in
    ap (λ (l : List ℕ). known_with l c.greatest_of-self-inside.result) ids
    ∙ ap (known_with (without out inside.running.xids)) c.greatest_of-self-inside.ensures
    ∙ ap (λ (t : Tracked). after_end t.known out) c.self.view_is
