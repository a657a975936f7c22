-- The units of 8 bytes that the tuples of the lines take.
use Rattle.std.proofs.Common.{◌≡◌, ◌≢◌, ◌⊎◌, inl, inr, ℕ, ◌+◌, ◌/◌, ◌%◌, ◌<◌, ◌≤◌, Bool, true, false, List, length, get_or, IsTrue, below_more, sym, ap, ◌∙◌, arith}
use Rattle.std.proofs.lemmas.Bool.{cases_lt, cases_Bool, both_ways}
use Rattle.std.proofs.lemmas.List.{get_or_past}
use Rattle.heap_page.specs.Item.{aligned}
use Rattle.heap_page.specs.Page.{pointer_of, offset_in, state_in, length_in, end_of_room, all_below, are_apart}
use Rattle.heap_page.specs.Unit.{AreFree}
use Rattle.heap_page.proofs.Laid.{Placed, PairsApart, pairs-true, true-pairs}
use Rattle.heap_page.proofs.Overwrite.{long-tuple}

-- the room of a tuple is whole units, at least one
pub record IsRoom (pointer : ℕ) : Type 0 where
  pub begin : offset_in pointer % 8 ≡ 0
  pub end : end_of_room pointer % 8 ≡ 0
  pub not_empty : offset_in pointer < end_of_room pointer
  pub inside : end_of_room pointer ≤ 8192

-- a line points to a tuple that takes this unit
pub record Takes (pointer unit : ℕ) : Type 0 where
  pub normal : state_in pointer ≡ 1
  pub from : offset_in pointer / 8 ≤ unit
  pub below : unit < end_of_room pointer / 8

-- the tuples of the lines below k are apart, and these are the units that they take
pub record TakenBelow (page : List ℕ) (k : ℕ) (units : List Bool) : Type 0 where
  pub apart : PairsApart page k
  pub rooms : (j : ℕ) → j < k → state_in (pointer_of page j) ≡ 1 → IsRoom (pointer_of page j)
  pub taken : (j : ℕ) → j < k → (unit : ℕ) → Takes (pointer_of page j) unit → get_or units unit false ≡ true
  pub free : (unit : ℕ) → ((j : ℕ) → j < k → Takes (pointer_of page j) unit → ⊥) → get_or units unit false ≡ false

end-whole : (offset len : ℕ) → offset % 8 ≡ 0 → (offset + aligned len) % 8 ≡ 0
end-whole offset len h = omega arith

end-past : (offset len : ℕ) → 24 ≤ len → offset < offset + aligned len
end-past offset len h = omega arith

end-inside : (offset len : ℕ) → offset % 8 ≡ 0 → offset + len ≤ 8192 → offset + aligned len ≤ 8192
end-inside offset len h l = omega arith

pub room-placed : (page : List ℕ) (pointer : ℕ) → Placed page pointer → length page ≡ 8192 → IsRoom pointer
room-placed page pointer p size = record {
  begin = p.multiple;
  end = end-whole (offset_in pointer) (length_in pointer) p.multiple;
  not_empty = end-past (offset_in pointer) (length_in pointer) (long-tuple page pointer p size);
  inside = end-inside (offset_in pointer) (length_in pointer) p.multiple p.inside;
}

-- two rooms of whole units that share none are apart
share-none : (a b c d : ℕ) → a % 8 ≡ 0 → b % 8 ≡ 0 → c % 8 ≡ 0 → d % 8 ≡ 0 → a < b → c < d → ((unit : ℕ) → a / 8 ≤ unit → unit < b / 8 → c / 8 ≤ unit → unit < d / 8 → ⊥) → (b ≤ c) ⊎ (d ≤ a)
share-none a b c d wa wb wc wd ab cd h =
    elim (cases_lt c b) [
      | inr before ↦ inl before
      | inl over ↦ elim (cases_lt a d) [
        | inr behind ↦ inr behind
        | inl under ↦ elim (cases_lt a c) [
          | inl less ↦ absurd (h (c / 8) (omega (arith, less)) (omega (arith, over, wb, wc)) (omega arith) (omega (arith, cd, wc, wd)))
          | inr more ↦ absurd (h (a / 8) (omega arith) (omega (arith, ab, wa, wb)) (omega (arith, more)) (omega (arith, under, wa, wd)))
        ]
      ]
    ]

pub apart-no_unit : (a b c d unit : ℕ) → (b ≤ c) ⊎ (d ≤ a) → a / 8 ≤ unit → unit < b / 8 → c / 8 ≤ unit → unit < d / 8 → ⊥
apart-no_unit a b c d unit h f g i j = elim h [ inl before ↦ omega (arith, before) | inr behind ↦ omega (arith, behind) ]

-- before the first line
pub taken-none : (page : List ℕ) (units : List Bool) → length units ≡ 1024 → AreFree units 0 1024 → TakenBelow page 0 units
taken-none page units size h = record {
  apart = λ k b. absurd (omega (arith, b));
  rooms = λ j b. absurd (omega (arith, b));
  taken = λ j b. absurd (omega (arith, b));
  free = λ unit _. elim (cases_lt unit 1024) [
    | inl below ↦ h.each unit (omega arith) below
    | inr past ↦ get_or_past units unit false (omega (arith, size, past))
  ];
}

-- a line without a tuple takes no unit
pub taken-other : (page : List ℕ) (k : ℕ) (units : List Bool) → TakenBelow page k units → (state_in (pointer_of page k) ≢ 1) → TakenBelow page (k + 1) units
taken-other page k units t other = record {
  apart = below_more _ k t.apart (λ j l s e. absurd (other e));
  rooms = below_more _ k t.rooms (λ e. absurd (other e));
  taken = below_more _ k t.taken (λ unit w. absurd (other w.normal));
  free = λ unit h. t.free unit (λ j l w. h j (omega (arith, l)) w);
}

-- a line whose tuple takes units that were free
pub taken-line : (page : List ℕ) (k first end : ℕ) (old new : List Bool) → TakenBelow page k old → state_in (pointer_of page k) ≡ 1 → IsRoom (pointer_of page k) → first ≡ offset_in (pointer_of page k) / 8 → end ≡ end_of_room (pointer_of page k) / 8 → AreFree old first end → ((unit : ℕ) → first ≤ unit → unit < end → get_or new unit false ≡ true) → ((unit : ℕ) → unit < first → get_or new unit false ≡ get_or old unit false) → ((unit : ℕ) → end ≤ unit → get_or new unit false ≡ get_or old unit false) → TakenBelow page (k + 1) new
taken-line page k first end old new t normal room at to free inside before past =
    let p : ℕ = pointer_of page k in
    record {
      apart = below_more _ k t.apart
          (λ j l s e. let other = t.rooms j l s in
          share-none (offset_in (pointer_of page j)) (end_of_room (pointer_of page j)) (offset_in p) (end_of_room p) other.begin other.end room.begin room.end other.not_empty room.not_empty
          (λ unit f g a b. both_ways (get_or old unit false) (free.each unit (omega (arith, at, a)) (omega (arith, to, b))) (t.taken j l unit (record { normal = s; from = f; below = g }))));
      rooms = below_more _ k t.rooms (λ e. room);
      taken = below_more _ k
          (λ j l unit w. elim (cases_lt unit first) [
            | inl low ↦ before unit low ∙ t.taken j l unit w
            | inr from ↦ elim (cases_lt unit end) [
              | inl below ↦ inside unit from below
              | inr high ↦ past unit high ∙ t.taken j l unit w
            ]
          ])
          (λ unit w. inside unit (omega (arith, at, w.from)) (omega (arith, to, w.below)));
      free = λ unit h. elim (cases_lt unit first) [
        | inl low ↦ before unit low ∙ t.free unit (λ j l w. h j (omega (arith, l)) w)
        | inr from ↦ elim (cases_lt unit end) [
          | inl below ↦ absurd (h k (omega arith) (record { normal = normal; from = omega (arith, at, from); below = omega (arith, to, below) }))
          | inr high ↦ past unit high ∙ t.free unit (λ j l w. h j (omega (arith, l)) w)
        ]
      ];
    }

-- where all lines are apart, each finds its units free
apart-free : (page : List ℕ) (n k first end : ℕ) (units : List Bool) → TakenBelow page k units → PairsApart page n → k < n → state_in (pointer_of page k) ≡ 1 → first ≡ offset_in (pointer_of page k) / 8 → end ≡ end_of_room (pointer_of page k) / 8 → AreFree units first end
apart-free page n k first end units t pairs b normal at to = record {
  each = λ unit from below. t.free unit
      (λ j l w. apart-no_unit (offset_in (pointer_of page j)) (end_of_room (pointer_of page j)) (offset_in (pointer_of page k)) (end_of_room (pointer_of page k)) unit (pairs k b j l w.normal normal) w.from w.below (omega (arith, at, from)) (omega (arith, to, below)));
}

-- a line finds a unit taken
pub pairs-refused : (page : List ℕ) (n k first end : ℕ) (units : List Bool) → TakenBelow page k units → k < n → state_in (pointer_of page k) ≡ 1 → first ≡ offset_in (pointer_of page k) / 8 → end ≡ end_of_room (pointer_of page k) / 8 → (AreFree units first end → ⊥) → false ≡ all_below (λ k. all_below (λ j. are_apart (pointer_of page j) (pointer_of page k)) k) n
pairs-refused page n k first end units t b normal at to refused =
    elim (cases_Bool (all_below (λ k. all_below (λ j. are_apart (pointer_of page j) (pointer_of page k)) k) n)) [
      | inl all ↦ absurd (refused (apart-free page n k first end units t (pairs-true page n all) b normal at to))
      | inr not_all ↦ sym not_all
    ]

-- the units of a line, by the parts of its pointer that were read
pub first-read : (page : List ℕ) (k offset : ℕ) → offset ≡ offset_in (pointer_of page k) → offset / 8 ≡ offset_in (pointer_of page k) / 8
first-read page k offset e = ap (λ n. n / 8) e

pub end-read : (page : List ℕ) (k offset len end : ℕ) → offset ≡ offset_in (pointer_of page k) → len ≡ length_in (pointer_of page k) → end ≡ offset + aligned len → end / 8 ≡ end_of_room (pointer_of page k) / 8
end-read page k offset len end o l e = ap (λ n. n / 8) (e ∙ ap (λ n. n + aligned len) o ∙ ap (λ n. offset_in (pointer_of page k) + aligned n) l)

pub room-order : (offset len end : ℕ) → end ≡ offset + aligned len → offset / 8 ≤ end / 8
room-order offset len end e = omega (arith, e)

pub room-units : (page : List ℕ) (k end : ℕ) (units : List Bool) → IsRoom (pointer_of page k) → end ≡ end_of_room (pointer_of page k) / 8 → length units ≡ 1024 → end ≤ length units
room-units page k end units room e size = omega (arith, e, size, room.inside)

-- no line found a unit taken
pub pairs-accepted : (page : List ℕ) (n k : ℕ) (units : List Bool) → TakenBelow page k units → n ≤ k → true ≡ all_below (λ k. all_below (λ j. are_apart (pointer_of page j) (pointer_of page k)) k) n
pairs-accepted page n k units t h = sym (true-pairs page n (λ i b. t.apart i (omega (arith, b, h))))

-- the lines below k are apart, and their tuples begin at `lowest` or behind it
pub record Descends (page : List ℕ) (k lowest : ℕ) : Type 0 where
  pub apart : PairsApart page k
  pub behind : (j : ℕ) → j < k → state_in (pointer_of page j) ≡ 1 → lowest ≤ offset_in (pointer_of page j)

pub descends-none : (page : List ℕ) (lowest : ℕ) → Descends page 0 lowest
descends-none page lowest = record {
  apart = λ k b. absurd (omega (arith, b));
  behind = λ j b. absurd (omega (arith, b));
}

pub descends-other : (page : List ℕ) (k lowest : ℕ) → Descends page k lowest → (state_in (pointer_of page k) ≢ 1) → Descends page (k + 1) lowest
descends-other page k lowest d other = record {
  apart = below_more _ k d.apart (λ j l s e. absurd (other e));
  behind = below_more _ k d.behind (λ e. absurd (other e));
}

below-both : (a b c d : ℕ) → a ≡ b → b ≤ c → c ≤ d → a ≤ d
below-both a b c d e f g = omega (arith, e, f, g)

begins-below : (offset len end lowest other : ℕ) → end ≡ offset + aligned len → end ≤ lowest → lowest ≤ other → offset ≤ other
begins-below offset len end lowest other e h l = omega (arith, e, h, l)

same-below : (a b : ℕ) → a ≡ b → a ≤ b
same-below a b e = omega (arith, e)

pub descends-line : (page : List ℕ) (k lowest offset len end : ℕ) → Descends page k lowest → offset ≡ offset_in (pointer_of page k) → len ≡ length_in (pointer_of page k) → end ≡ offset + aligned len → end ≤ lowest → Descends page (k + 1) offset
descends-line page k lowest offset len end d o l e h =
    let to : end_of_room (pointer_of page k) ≡ end = sym (e ∙ ap (λ n. n + aligned len) o ∙ ap (λ n. offset_in (pointer_of page k) + aligned n) l) in
    record {
      apart = below_more _ k d.apart (λ j b s _. inr (below-both (end_of_room (pointer_of page k)) end lowest (offset_in (pointer_of page j)) to h (d.behind j b s)));
      behind = below_more _ k (λ j b s. begins-below offset len end lowest (offset_in (pointer_of page j)) e h (d.behind j b s)) (λ _. same-below offset (offset_in (pointer_of page k)) o);
    }

pub descends-apart : (page : List ℕ) (n k lowest : ℕ) → Descends page k lowest → n ≤ k → IsTrue (all_below (λ k. all_below (λ j. are_apart (pointer_of page j) (pointer_of page k)) k) n)
descends-apart page n k lowest d h = true-pairs page n (λ i b. d.apart i (omega (arith, b, h)))
