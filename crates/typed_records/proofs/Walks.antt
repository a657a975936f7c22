-- Steps of the walks over the tuples of a multi-insert and over the blocks of a record.
use Rattle.std.proofs.Common.{◌≡◌, ℕ, zero, suc, ◌+◌, ◌-◌, ◌<◌, ◌≤◌, Bool, true, false, List, [], ◌∷◌, ◌++◌, Option, Some, None, Result, Ok, Err, refl, sym, subst, ◌∙◌, ap, arith, inl, inr, ◌⊎◌, ◌≢◌, ◌==◌, cond, option_map}
use Rattle.std.specs.Prelude.{IsOk, drop, length}
use Rattle.std.proofs.lemmas.Bool.{false≢true, cases_eq}
use Rattle.std.proofs.lemmas.Bool.Decides.{nat_tests}
use Rattle.std.proofs.lemmas.Option.{same_Some}
use Rattle.wal_record.specs.Record.{Block, Record, block_by_id}
use Rattle.typed_records.specs.declared.types.BodyFault.{BodyFault}
use Rattle.typed_records.specs.declared.types.NewTuple.{NewTuple}
use Rattle.typed_records.specs.declared.types.RecBlock.{RecBlock}
use Rattle.typed_records.specs.Fields.{◌>>=◌, if_main, main_block}
use Rattle.typed_records.specs.Tuples.{even_from, listed_at, listed_from, tuple_with}
use Rattle.typed_records.specs.Blocks.{block_with, listed_block, blocks_from, blocks_of, number_of}
use Rattle.typed_records.specs.Stored.{AreListed, DoTuplesStand, if_read, tuples_held, tuples_for, blocks_to, blocks_held}

-- the tuples that are there, one at a time

opened : (bytes : List ℕ) (at n m : ℕ) (tuple : NewTuple) (end : ℕ) → n ≡ suc m → listed_at bytes (even_from at) ≡ Ok (tuple, end)
    → listed_from bytes at n ≡ (listed_from bytes end m >>= λ more. Ok (tuple ∷ more))
unfolding listed_from
opened bytes at n m tuple end e h = rw (e, h) refl

front_ok : (tuple : NewTuple) (others : Result (List NewTuple) BodyFault) → IsOk (others >>= λ more. Ok (tuple ∷ more)) → IsOk others
front_ok tuple (Err fault) ok = ok
front_ok tuple (Ok more) ok = refl

front_is : (tuple : NewTuple) (others : Result (List NewTuple) BodyFault) → IsOk (others >>= λ more. Ok (tuple ∷ more))
    → if_read (others >>= λ more. Ok (tuple ∷ more)) ≡ tuple ∷ if_read others
front_is tuple (Err fault) ok = absurd (false≢true ok)
front_is tuple (Ok more) ok = refl

refused_from : (bytes : List ℕ) (at n m : ℕ) (fault : BodyFault) → n ≡ suc m → listed_at bytes (even_from at) ≡ Err fault → listed_from bytes at n ≡ Err fault
unfolding listed_from
refused_from bytes at n m fault e h = rw (e, h) refl

-- none of them is refused
pub none_refused : (bytes : List ℕ) (at n m : ℕ) (fault : BodyFault) → n ≡ suc m → IsOk (listed_from bytes at n) → listed_at bytes (even_from at) ≡ Err fault → ⊥
none_refused bytes at n m fault e ok h = false≢true (subst (λ (read : Result (List NewTuple) BodyFault). IsOk read) (refused_from bytes at n m fault e h) ok)

-- those behind one of them are there
pub rest_there : (bytes : List ℕ) (at n m : ℕ) (tuple : NewTuple) (end : ℕ) → n ≡ suc m → IsOk (listed_from bytes at n) → listed_at bytes (even_from at) ≡ Ok (tuple, end)
    → IsOk (listed_from bytes end m)
rest_there bytes at n m tuple end e ok h =
    front_ok tuple (listed_from bytes end m) (subst (λ (read : Result (List NewTuple) BodyFault). IsOk read) (opened bytes at n m tuple end e h) ok)

-- one tuple is left, or none
pub held_none : (is_listed : Bool) (bytes : List ℕ) (at n prefix suffix : ℕ) → n ≡ 0 → tuples_held is_listed bytes at n prefix suffix ≡ []
unfolding listed_from
held_none true bytes at n prefix suffix e = rw e refl
held_none false bytes at n prefix suffix e = rw e refl

pub held_single : (is_listed : Bool) (bytes : List ℕ) (at n m prefix suffix : ℕ) → is_listed ≡ false → n ≡ suc m
    → tuples_held is_listed bytes at n prefix suffix ≡ tuple_with bytes 0 prefix suffix (drop 5 bytes) ∷ tuples_held is_listed bytes at 0 prefix suffix
held_single is_listed bytes at n m prefix suffix e s = rw (e, s) refl

pub stands_single : (is_listed : Bool) (bytes : List ℕ) (at n : ℕ) → is_listed ≡ false → DoTuplesStand is_listed bytes at n → 5 ≤ length bytes
stands_single is_listed bytes at n e h = subst (λ b. DoTuplesStand b bytes at n) e h

pub stands_still : (is_listed : Bool) (bytes : List ℕ) (at n m : ℕ) → is_listed ≡ false → DoTuplesStand is_listed bytes at n → DoTuplesStand is_listed bytes at m
stands_still is_listed bytes at n m e h = subst (λ b. DoTuplesStand b bytes at m) (sym e) (subst (λ b. DoTuplesStand b bytes at n) e h)

pub stands_listed : (is_listed : Bool) (bytes : List ℕ) (at n : ℕ) → is_listed ≡ true → DoTuplesStand is_listed bytes at n → AreListed bytes at n
stands_listed is_listed bytes at n e h = subst (λ b. DoTuplesStand b bytes at n) e h

pub stands_on : (is_listed : Bool) (bytes : List ℕ) (at n m : ℕ) (tuple : NewTuple) (end : ℕ) → is_listed ≡ true → n ≡ suc m → end ≤ length bytes
    → DoTuplesStand is_listed bytes at n → listed_at bytes (even_from at) ≡ Ok (tuple, end) → DoTuplesStand is_listed bytes end m
stands_on is_listed bytes at n m tuple end e s within h read =
    let there = stands_listed is_listed bytes at n e h in
    subst (λ b. DoTuplesStand b bytes end m) (sym e) (record { within = within; read = rest_there bytes at n m tuple end s there.read read })

-- the first of them, and those behind it
pub one_less : (is_listed : Bool) (bytes : List ℕ) (at n m prefix suffix : ℕ) (tuple : NewTuple) (end : ℕ) → is_listed ≡ true → n ≡ suc m
    → IsOk (listed_from bytes at n) → listed_at bytes (even_from at) ≡ Ok (tuple, end)
    → tuples_held is_listed bytes at n prefix suffix ≡ tuple ∷ tuples_held is_listed bytes end m prefix suffix
one_less is_listed bytes at n m prefix suffix tuple end listed e ok h =
    rw listed
    (ap if_read (opened bytes at n m tuple end e h)
    ∙ front_is tuple (listed_from bytes end m) (subst (λ (read : Result (List NewTuple) BodyFault). IsOk read) (opened bytes at n m tuple end e h) ok))

-- the blocks of a record

behind_first : (id : ℕ) (tuples : List NewTuple) → 0 < id → tuples_for id tuples ≡ []
behind_first zero tuples h = absurd (omega arith)
behind_first (suc id) tuples h = refl

to_from : (rec : Record) (tuples : List NewTuple) (id n : ℕ) → 0 < id → blocks_to rec tuples id n ≡ blocks_from rec id n
unfolding blocks_to blocks_from
to_from rec tuples id zero h = refl
to_from rec tuples id (suc n) h = rw (behind_first id tuples h, to_from rec tuples (id + 1) n (omega arith)) refl

-- block 1 alone
pub second_is : (rec : Record) (tuples : List NewTuple) → blocks_to rec tuples 1 1 ≡ blocks_from rec 1 1
second_is rec tuples = to_from rec tuples 1 1 (omega arith)

pub held_are : (rec : Record) (tuples : List NewTuple) (n : ℕ) → blocks_to rec tuples 0 n ≡ blocks_of n tuples rec
unfolding blocks_to blocks_of
held_are rec tuples zero = refl
held_are rec tuples (suc n) = ap (λ l. listed_block tuples (main_block 0 rec) ++ l) (to_from rec tuples 1 n (omega arith))

-- the block with this id is there
pub next_is : (rec : Record) (tuples : List NewTuple) (from id ids : ℕ) (block : Block) → id < ids → main_block id rec ≡ Some block
    → blocks_to rec tuples id (ids - id) ≡ blocks_to rec tuples from (ids - from)
    → blocks_to rec tuples from (ids - from) ≡ block_with (tuples_for id tuples) block ∷ blocks_to rec tuples (id + 1) (ids - (id + 1))
unfolding blocks_to
next_is rec tuples from id ids block bound found before = sym before ∙ at (ids - id) (ids - (id + 1)) (omega arith) where
  at : (m n : ℕ) → m ≡ suc n → blocks_to rec tuples id m ≡ block_with (tuples_for id tuples) block ∷ blocks_to rec tuples (id + 1) n
  at m n e = rw (e, found) refl

-- it is not
pub next_passed : (rec : Record) (tuples : List NewTuple) (id ids : ℕ) → id < ids → main_block id rec ≡ None
    → blocks_to rec tuples (id + 1) (ids - (id + 1)) ≡ blocks_to rec tuples id (ids - id)
unfolding blocks_to
next_passed rec tuples id ids bound none = sym (at (ids - id) (ids - (id + 1)) (omega arith)) where
  at : (m n : ℕ) → m ≡ suc n → blocks_to rec tuples id m ≡ blocks_to rec tuples (id + 1) n
  at m n e = rw (e, none) refl

pub next_none : (rec : Record) (tuples : List NewTuple) (id ids : ℕ) → ids ≤ id → blocks_to rec tuples id (ids - id) ≡ []
unfolding blocks_to
next_none rec tuples id ids bound = at (ids - id) (omega arith) where
  at : (m : ℕ) → m ≡ 0 → blocks_to rec tuples id m ≡ []
  at m e = rw e refl

eqb-same : (a b : ℕ) → a ≡ b → (a == b) ≡ true
eqb-same a b e = grind (arith, nat_tests)

eqb-other : (a b : ℕ) → a ≢ b → (a == b) ≡ false
eqb-other a b e = grind (arith, nat_tests)

-- the block with an id has it
by_id-has : (id : ℕ) (blocks : List Block) (block : Block) → block_by_id id blocks ≡ Some block → block.id ≡ id
by_id-has id [] block e = absurd (cc)
by_id-has id (first ∷ blocks) block e =
    elim (cases_eq first.id id) [
      | inl same ↦ subst (λ (b : Block). b.id ≡ id) (same_Some _ _ (sym (ap (λ t. cond t (Some first) (block_by_id id blocks)) (eqb-same first.id id same)) ∙ e)) same
      | inr other ↦ by_id-has id blocks block (sym (ap (λ t. cond t (Some first) (block_by_id id blocks)) (eqb-other first.id id other)) ∙ e)
    ]

main-is : (found : Option Block) (block : Block) → if_main found ≡ Some block → found ≡ Some block
main-is None block e = absurd (cc)
main-is (Some x) block e = at (x.fork == 0) e where
  at : (t : Bool) → cond t (Some x) None ≡ Some block → Some x ≡ Some block
  at true h = h
  at false h = absurd (cc)

-- its number, of a block that is listed in front of others
front-number : (id : ℕ) (tuples : List NewTuple) (found : Option Block) (others : List RecBlock) → ((block : Block) → found ≡ Some block → block.id ≡ id)
    → number_of id others ≡ None → number_of id (listed_block tuples found ++ others) ≡ option_map (λ (block : Block). block.block) found
front-number id tuples None others has none = none
front-number id tuples (Some block) others has none = ap (λ t. cond t (Some block.block) (number_of id others)) (eqb-same block.id id (has block refl))

front-other : (id from : ℕ) (tuples : List NewTuple) (found : Option Block) (others : List RecBlock) → ((block : Block) → found ≡ Some block → block.id ≡ from)
    → (from ≢ id) → number_of id (listed_block tuples found ++ others) ≡ number_of id others
front-other id from tuples None others has other = refl
front-other id from tuples (Some block) others has other =
    ap (λ t. cond t (Some block.block) (number_of id others)) (eqb-other block.id id (λ e. other (sym (has block refl) ∙ e)))

has-id : (rec : Record) (from : ℕ) (block : Block) → main_block from rec ≡ Some block → block.id ≡ from
has-id rec from block e = by_id-has from rec.blocks block (main-is (block_by_id from rec.blocks) block e)

-- no block outside of a range of ids is listed
pub number-outside : (rec : Record) (tuples : List NewTuple) (id from n : ℕ) → (id < from) ⊎ (from + n ≤ id) → number_of id (blocks_to rec tuples from n) ≡ None
unfolding blocks_to
number-outside rec tuples id from zero h = refl
number-outside rec tuples id from (suc n) h =
    front-other id from (tuples_for from tuples) (main_block from rec) (blocks_to rec tuples (from + 1) n) (has-id rec from)
    (λ e. elim h [ inl low ↦ omega (arith, low, e) | inr past ↦ omega (arith, past, e) ])
    ∙ number-outside rec tuples id (from + 1) n (elim h [ inl low ↦ inl (omega (arith, low)) | inr past ↦ inr (omega (arith, past)) ])

-- the number of a block whose id is inside
pub number-inside : (rec : Record) (tuples : List NewTuple) (id from n : ℕ) → from ≤ id → id < from + n
    → number_of id (blocks_to rec tuples from n) ≡ option_map (λ (block : Block). block.block) (main_block id rec)
unfolding blocks_to
number-inside rec tuples id from zero low high = absurd (omega arith)
number-inside rec tuples id from (suc n) low high =
    elim (cases_eq from id) [
      | inl same ↦ here same
      | inr other ↦ front-other id from (tuples_for from tuples) (main_block from rec) (blocks_to rec tuples (from + 1) n) (has-id rec from) other
          ∙ number-inside rec tuples id (from + 1) n (omega (arith, low, other)) (omega (arith, high))
    ] where
      here : from ≡ id → number_of id (blocks_to rec tuples from (suc n)) ≡ option_map (λ (block : Block). block.block) (main_block id rec)
      here same =
          front-number id (tuples_for from tuples) (main_block from rec) (blocks_to rec tuples (from + 1) n) (λ block e. has-id rec from block e ∙ same)
          (number-outside rec tuples id (from + 1) n (inl (omega (arith, same))))
          ∙ ap (λ k. option_map (λ (block : Block). block.block) (main_block k rec)) same

pub held-outside : (view : Option Record) (tuples : List NewTuple) (id from ids : ℕ) → from ≤ ids → (id < from) ⊎ (ids ≤ id) → number_of id (blocks_held view tuples from ids) ≡ None
held-outside None tuples id from ids order h = refl
held-outside (Some rec) tuples id from ids order h =
    number-outside rec tuples id from (ids - from) (elim h [ inl low ↦ inl low | inr past ↦ inr (omega (arith, past, order)) ])
