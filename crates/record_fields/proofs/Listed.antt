-- Lists that are read where they stand, one element at a time.
use Rattle.std.proofs.Common.{◌≡◌, ℕ, zero, suc, ◌+◌, ◌*◌, Bool, true, false, List, [], ◌∷◌, length, slice_index, ◌≤◌, refl, ap, arith}
use Rattle.std.specs.List.{range_with_len}
use Rattle.pg_types.specs.Numbers.{number_at}
use Rattle.record_fields.specs.Fields.{xid_at, xids_at, lines_at, first_lines, redirects_at, locator_at, locators_at, lock_entries_at, members_at, plan_count_at, plans_at, planned_lines}
use Rattle.record_fields.specs.Stored.{lines_in}

pub xids_done : (text : List ℕ) (at n : ℕ) → n ≡ 0 → xids_at text at n ≡ []
unfolding xids_at
xids_done text at n e = rw e refl

pub xids_next : (text : List ℕ) (at n m : ℕ) → n ≡ suc m → xids_at text at n ≡ xid_at text at ∷ xids_at text (at + 4) m
unfolding xids_at
xids_next text at n m e = rw e refl

pub lines_done : (is_listed : Bool) (text : List ℕ) (at n : ℕ) → n ≡ 0 → lines_in is_listed text at n ≡ []
unfolding lines_at
lines_done true text at n e = rw e refl
lines_done false text at n e = rw e refl

pub listed_next : (text : List ℕ) (at n m : ℕ) → n ≡ suc m → lines_in true text at n ≡ number_at 2 text at ∷ lines_in true text (at + 2) m
unfolding lines_at
listed_next text at n m e = rw e refl

pub row_next : (text : List ℕ) (at n m : ℕ) → n ≡ suc m → lines_in false text at n ≡ at ∷ lines_in false text (at + 1) m
row_next text at n m e = rw e refl

count_listed : (text : List ℕ) (at n : ℕ) → length (lines_at text at n) ≡ n
unfolding lines_at
count_listed text at zero = refl
count_listed text at (suc n) = ap suc (count_listed text (at + 2) n)

count_row : (at n : ℕ) → length (range_with_len at n) ≡ n
count_row at zero = refl
count_row at (suc n) = ap suc (count_row (at + 1) n)

pub lines_count : (is_listed : Bool) (text : List ℕ) (at n : ℕ) → length (lines_in is_listed text at n) ≡ n
lines_count true text at n = count_listed text at n
lines_count false text at n = count_row at n

pub first_in : (text : List ℕ) (n : ℕ) → lines_in false text 1 n ≡ first_lines n
unfolding first_lines
first_in text n = refl

pub redirects_done : (text : List ℕ) (at n : ℕ) → n ≡ 0 → redirects_at text at n ≡ []
unfolding redirects_at
redirects_done text at n e = rw e refl

pub redirects_next :
    (text : List ℕ) (at n m : ℕ) → n ≡ suc m
    → redirects_at text at n ≡ record { from = number_at 2 text at; to = number_at 2 text (at + 2) } ∷ redirects_at text (at + 4) m
unfolding redirects_at
redirects_next text at n m e = rw e refl

pub locators_done : (text : List ℕ) (at n : ℕ) → n ≡ 0 → locators_at text at n ≡ []
unfolding locators_at
locators_done text at n e = rw e refl

pub locators_next : (text : List ℕ) (at n m : ℕ) → n ≡ suc m → locators_at text at n ≡ locator_at text at ∷ locators_at text (at + 12) m
unfolding locators_at
locators_next text at n m e = rw e refl

pub entries_done : (text : List ℕ) (at n : ℕ) → n ≡ 0 → lock_entries_at text at n ≡ []
unfolding lock_entries_at
entries_done text at n e = rw e refl

pub entries_next :
    (text : List ℕ) (at n m : ℕ) → n ≡ suc m
    → lock_entries_at text at n
    ≡ record { xid = xid_at text at; database = number_at 4 text (at + 4); relation = number_at 4 text (at + 8) } ∷ lock_entries_at text (at + 12) m
unfolding lock_entries_at
entries_next text at n m e = rw e refl

pub members_done : (text : List ℕ) (at n : ℕ) → n ≡ 0 → members_at text at n ≡ []
unfolding members_at
members_done text at n e = rw e refl

pub members_next :
    (text : List ℕ) (at n m : ℕ) → n ≡ suc m
    → members_at text at n ≡ record { xid = xid_at text at; status = number_at 4 text (at + 4) } ∷ members_at text (at + 8) m
unfolding members_at
members_next text at n m e = rw e refl

pub plans_done : (text : List ℕ) (at lines n : ℕ) → n ≡ 0 → plans_at text at lines n ≡ []
unfolding plans_at
plans_done text at lines n e = rw e refl

pub plans_next :
    (text : List ℕ) (at lines n m : ℕ) → n ≡ suc m
    → plans_at text at lines n
    ≡ record {
      xmax = xid_at text at;
      mask2 = number_at 2 text (at + 4);
      mask = number_at 2 text (at + 6);
      flags = slice_index text (at + 8);
      lines = lines_at text lines (plan_count_at text at);
    }
    ∷ plans_at text (at + 12) (lines + 2 * plan_count_at text at) m
unfolding plans_at
plans_next text at lines n m e = rw e refl

pub plans_left :
    (text : List ℕ) (at n m : ℕ) → n ≡ suc m → planned_lines text at n ≡ plan_count_at text at + planned_lines text (at + 12) m
unfolding planned_lines
plans_left text at n m e = rw e refl

-- the lines of the first plan stand within the text
pub lines_inside :
    (text : List ℕ) (at lines n : ℕ) → lines + 2 * planned_lines text at n ≤ length text → (n ≡ 0 → ⊥)
    → lines + 2 * plan_count_at text at ≤ length text
unfolding planned_lines
lines_inside text at lines zero stands e = absurd (e refl)
lines_inside text at lines (suc n) stands e = omega arith

-- and those of the others behind them
pub others_inside :
    (text : List ℕ) (at lines n m : ℕ) → n ≡ suc m → lines + 2 * planned_lines text at n ≤ length text
    → lines + 2 * plan_count_at text at + 2 * planned_lines text (at + 12) m ≤ length text
unfolding planned_lines
others_inside text at lines n m e stands =
    let left = plans_left text at n m e in omega arith

-- one plan more was counted
pub counted :
    (text : List ℕ) (at n m lines all : ℕ) → n ≡ suc m → lines + planned_lines text at n ≡ all
    → lines + plan_count_at text at + planned_lines text (at + 12) m ≡ all
counted text at n m lines all e h = let left = plans_left text at n m e in omega arith

pub none_left : (text : List ℕ) (at n : ℕ) → n ≡ 0 → planned_lines text at n ≡ 0
unfolding planned_lines
none_left text at n e = rw e refl

pub entries_count : (text : List ℕ) (at n : ℕ) → length (lock_entries_at text at n) ≡ n
unfolding lock_entries_at
entries_count text at zero = refl
entries_count text at (suc n) = ap suc (entries_count text (at + 12) n)
