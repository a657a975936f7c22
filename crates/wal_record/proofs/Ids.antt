-- The ids of a record's blocks rise, so that each is below the least one that a further block may have.
use Rattle.std.proofs.Common.{◌≡◌, ℕ, zero, suc, ◌+◌, ◌≤◌, Bool, true, false, ◌||◌, List, [], ◌∷◌, length, drop, Option, Some, None, option_map, unwrap_or, refl, sym, ap, subst, ◌∙◌, arith, cond, ◌==◌, nat_le, nat_lt, inl, inr}
use Rattle.std.specs.Prelude.{IfSome}
use Rattle.std.proofs.lemmas.Bool.{cases_Bool}
use Rattle.std.proofs.lemmas.Bool.Decides.{nat_tests}
use Rattle.std.proofs.lemmas.Option.{same_Some}
use Rattle.pg_types.specs.declared.names.Locator.{Locator}
use Rattle.wal_record.specs.declared.parts.BlockHeader.{BlockHeader}
use Rattle.wal_record.specs.declared.parts.ImageHeader.{ImageHeader}
use Rattle.wal_record.specs.declared.parts.Part.{Part}
use Rattle.wal_record.specs.declared.parts.Part.TheVariants as part
use Rattle.wal_record.specs.declared.parts.HeadersRead.{HeadersRead}
use Rattle.wal_record.specs.Record.{Block, block_by_id, AreBelow}
use Rattle.wal_record.specs.Parts.{◌>>=◌, number_from, image_from, locator_from, flags_at, block_at, block_from, part_from, part_at, parts_from, parts_of, start, after, seen_after, image_length}
use Rattle.wal_record.specs.Decoded.{walked_from, walked, blocks_of, blocks_in}

-- what holds of the answers of all ways to read on
if_bind : {A B : Type 0} (read : Option A) (f : A → Option B) (P : B → Type 0) → ((x : A) → IfSome (f x) P) → IfSome (read >>= f) P
if_bind None f P h = tt
if_bind (Some x) f P h = h x

if_map : {A B : Type 0} (read : Option A) (f : A → B) (P : B → Type 0) → IfSome read (λ x. P (f x)) → IfSome (option_map f read) P
if_map None f P h = tt
if_map (Some x) f P h = h

if_each : {A : Type 0} (read : Option A) (P : A → Type 0) → ((x : A) → P x) → IfSome read P
if_each None P h = tt
if_each (Some x) P h = h x

if_cond : {A : Type 0} (t : Bool) (a b : Option A) (P : A → Type 0) → IfSome a P → (t ≡ false → IfSome b P) → IfSome (cond t a b) P
if_cond true a b P h k = h
if_cond false a b P h k = k refl

if_is : {A : Type 0} (read : Option A) (P : A → Type 0) (x : A) → IfSome read P → read ≡ Some x → P x
if_is None P x h e = absurd (cc)
if_is (Some y) P x h e = subst P (same_Some _ _ e) h

-- a further part has no smaller id than those before it
abbrev Rises : HeadersRead → Part → Type 0
Rises seen p = seen.least_id ≤ (after seen p).least_id

block-id : (before : Option Locator) (id : ℕ) (text : List ℕ) → IfSome (block_at before id text) (λ block. block.0.id ≡ id)
unfolding block_at
block-id before id text =
    let P : BlockHeader × List ℕ → Type 0 = λ block. block.0.id ≡ id in
    if_bind (flags_at text) _ P (λ flags.
    if_bind (image_from flags.0.0 flags.1) _ P (λ image.
    if_bind (locator_from before flags.0.0 image.1) _ P (λ locator.
    if_bind (number_from 4 locator.1) _ P (λ block. refl))))

not-low : (id least : ℕ) → (nat_lt id least || nat_lt 32 id) ≡ false → least ≤ id
not-low id least h = grind (arith, nat_tests)

block-rises : (seen : HeadersRead) (id : ℕ) (text : List ℕ) → IfSome (block_from seen id text) (λ x. Rises seen x.0)
unfolding block_from
block-rises seen id text =
    let P : Part × List ℕ → Type 0 = λ x. Rises seen x.0 in
    if_cond (nat_lt id seen.least_id || nat_lt 32 id) None (option_map (λ block. (part.Block block.0, block.1)) (block_at seen.locator id text)) P tt
    (λ low. if_map (block_at seen.locator id text) (λ block. (part.Block block.0, block.1)) P
    (risen (block_at seen.locator id text) (block-id seen.locator id text) (not-low id seen.least_id low))) where
      risen : (read : Option (BlockHeader × List ℕ)) → IfSome read (λ block. block.0.id ≡ id) → seen.least_id ≤ id → IfSome read (λ block. seen.least_id ≤ block.0.id + 1)
      risen None h low = tt
      risen (Some x) h low = omega (arith, h, low)

part-rises : (seen : HeadersRead) (text : List ℕ) → IfSome (part_at seen text) (λ x. Rises seen x.0)
unfolding part_at part_from
part-rises seen text =
    let P : Part × List ℕ → Type 0 = λ x. Rises seen x.0 in
    if_bind (number_from 1 text) _ P (λ id.
    if_cond (id.0 == 255) _ _ P (if_map (number_from 1 id.1) _ P (if_each (number_from 1 id.1) _ (λ x. omega arith))) (λ _.
    if_cond (id.0 == 254) _ _ P (if_map (number_from 4 id.1) _ P (if_each (number_from 4 id.1) _ (λ x. omega arith))) (λ _.
    if_cond (id.0 == 253) _ _ P (if_map (number_from 2 id.1) _ P (if_each (number_from 2 id.1) _ (λ x. omega arith))) (λ _.
    if_cond (id.0 == 252) _ _ P (if_map (number_from 4 id.1) _ P (if_each (number_from 4 id.1) _ (λ x. omega arith))) (λ _.
    block-rises seen id.0 id.1)))))

-- no block among these parts has an id past the least one that may come then
abbrev AreRisen : HeadersRead → List Part → Type 0
AreRisen seen parts =
    (seen.least_id ≤ (seen_after seen parts).least_id)
    × ((payloads : List ℕ) → AreBelow (seen_after seen parts).least_id (blocks_of parts payloads))

below-none : (t : Bool) (x : Block) (others : Option Block) → t ≡ false → others ≡ None → cond t (Some x) others ≡ None
below-none t x others e h = rw e h

eq-past : (a b : ℕ) → a + 1 ≤ b → (a == b) ≡ false
eq-past a b h = grind (arith, nat_tests)

one-more : (seen : HeadersRead) (p : Part) (others : List Part) → Rises seen p → AreRisen (after seen p) others → AreRisen seen (p ∷ others)
one-more seen (part.Block b) others h r = (
  omega (arith, h, r.0),
  λ payloads id past. below-none (b.id == id) _ _ (eq-past b.id id (omega (arith, r.0, past))) (r.1 (drop (image_length b.image + b.data_length) payloads) id past),
)
one-more seen (part.Origin o) others h r = r
one-more seen (part.TopXid x) others h r = r
one-more seen (part.ShortMain l) others h r = r
one-more seen (part.LongMain l) others h r = r

no-more : (seen : HeadersRead) → AreRisen seen []
no-more seen = (omega arith, λ payloads id past. refl)

others-risen : (seen : HeadersRead) (p : Part) (others : Option (List Part × List ℕ)) → Rises seen p → IfSome others (λ y. AreRisen (after seen p) y.0)
    → IfSome {T = List Part × List ℕ} (others >>= λ y. Some (p ∷ y.0, y.1)) (λ y. AreRisen seen y.0)
others-risen seen p None h k = tt
others-risen seen p (Some y) h k = one-more seen p y.0 h k

first-risen : (n : ℕ) (seen : HeadersRead) (first : Option (Part × List ℕ)) → IfSome first (λ x. Rises seen x.0)
    → ((x : Part × List ℕ) → IfSome (parts_from n (after seen x.0) x.1) (λ y. AreRisen (after seen x.0) y.0))
    → IfSome {T = List Part × List ℕ} (first >>= λ x. parts_from n (after seen x.0) x.1 >>= λ y. Some (x.0 ∷ y.0, y.1)) (λ y. AreRisen seen y.0)
first-risen n seen None h k = tt
first-risen n seen (Some x) h k = others-risen seen x.0 (parts_from n (after seen x.0) x.1) h (k x)

parts-risen : (n : ℕ) (seen : HeadersRead) (text : List ℕ) → IfSome (parts_from n seen text) (λ x. AreRisen seen x.0)
unfolding parts_from
parts-risen zero seen text = no-more seen
parts-risen (suc n) seen text =
    let P : List Part × List ℕ → Type 0 = λ x. AreRisen seen x.0 in
    if_cond (seen.closed || nat_le (length text) seen.blocks) (Some ([], text)) _ P (no-more seen)
    (λ _. first-risen n seen (part_at seen text) (part-rises seen text) (λ x. parts-risen n (after seen x.0) x.1))

below-at : (read : Option (List Part × List ℕ)) (seen : HeadersRead) (payloads : List ℕ) → IfSome read (λ x. AreRisen start x.0)
    → option_map {U = HeadersRead × List ℕ} (λ x. (seen_after start x.0, x.1)) read ≡ Some (seen, payloads)
    → AreBelow seen.least_id (unwrap_or (option_map (λ x. blocks_of x.0 payloads) read) [])
below-at None seen payloads h e = absurd (cc)
below-at (Some x) seen payloads h e =
    let both : (seen_after start x.0, x.1) ≡ (seen, payloads) = same_Some _ _ e in
    let left : seen_after start x.0 ≡ seen = ap (λ (y : HeadersRead × List ℕ). y.0) both in
    subst (λ (s : HeadersRead). AreBelow s.least_id (blocks_of x.0 payloads)) left (h.1 payloads)

-- the ids of the blocks of a text are below what its walk leaves as the least further one
pub ids-below : (text : List ℕ) (seen : HeadersRead) (payloads : List ℕ) → walked text ≡ Some (seen, payloads) → AreBelow seen.least_id (blocks_in text payloads)
unfolding walked_from blocks_in
ids-below text seen payloads h = below-at (parts_of text) seen payloads (parts-risen (length text) start text) h
