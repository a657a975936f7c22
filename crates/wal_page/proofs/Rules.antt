-- The first broken rule of a list.
use Rattle.std.proofs.Common.{◌≡◌, Bool, true, false, List, [], ◌∷◌, Ok, refl}
use Rattle.wal_page.specs.declared.PageHead.{PageHead}
use Rattle.wal_page.specs.declared.PageFault.{PageFault}
use Rattle.wal_page.specs.Page.{unless_broken}

-- no rule is broken
abbrev pub AllKept : List (Bool × PageFault) → Type 0
AllKept [] = Unit {0}
AllKept (rule ∷ later) = (rule.0 ≡ true) × AllKept later

pub kept-passes : (rules : List (Bool × PageFault)) (head : PageHead) → AllKept rules → unless_broken rules head ≡ Ok head
kept-passes [] head kept = refl
kept-passes (rule ∷ later) head kept = rw kept.0 (kept-passes later head kept.1)

pub passes-kept : (rules : List (Bool × PageFault)) (head found : PageHead) → unless_broken rules head ≡ Ok found → AllKept rules × (head ≡ found)
passes-kept [] head found e = (tt, cc)
passes-kept ((true, fault) ∷ later) head found e =
    let r = passes-kept later head found e in ((refl, r.0), r.1)
passes-kept ((false, fault) ∷ later) head found e = cc
