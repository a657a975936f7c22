-- The search for a block by its id over the headers of a record's parts.
use Rattle.std.proofs.Common.{◌≡◌, ℕ, zero, suc, ◌+◌, ◌≤◌, Bool, true, false, List, [], ◌∷◌, length, drop, Option, Some, None, option_map, unwrap_or, refl, sym, ap, subst, ◌∙◌, arith, cond, ◌==◌, length-drop}
use Rattle.std.proofs.lemmas.List.{drop-drop}
use Rattle.std.proofs.lemmas.Option.{same_Some, cond_some}
use Rattle.wal_record.specs.declared.parts.BlockHeader.{BlockHeader}
use Rattle.wal_record.specs.declared.parts.Part.{Part}
use Rattle.wal_record.specs.declared.parts.Part.TheVariants as part
use Rattle.wal_record.specs.declared.parts.HeadersRead.{HeadersRead}
use Rattle.wal_record.specs.Record.{Block, block_by_id}
use Rattle.wal_record.specs.Parts.{◌>>=◌, part_at, parts_from, parts_of, start, after, seen_after, image_length}
use Rattle.wal_record.specs.Decoded.{walked_from, announced, IsParted, blocks_of, blocks_in, block_in, block_with_id}
use Rattle.wal_record.proofs.Walking.{is_done}
use Rattle.std.proofs.lemmas.Bool.{eqb-true}

-- the parts that are left, up to n of them, and the block that is found among them
pub record Finds (n : ℕ) (seen : HeadersRead) (rest payloads : List ℕ) (id : ℕ) (found : Option Block) : Type 0 where
  pub parts : List Part
  pub read : parts_from n seen rest ≡ Some (parts, payloads)
  pub fits : (seen_after seen parts).blocks + (seen_after seen parts).main ≡ length payloads
  pub same : block_by_id id (blocks_of parts (drop seen.blocks payloads)) ≡ found

-- parts make the payloads no shorter
pub blocks-after : (seen : HeadersRead) (p : Part) → seen.blocks ≤ (after seen p).blocks
blocks-after seen (part.Block b) = omega arith
blocks-after seen (part.Origin o) = omega arith
blocks-after seen (part.TopXid x) = omega arith
blocks-after seen (part.ShortMain l) = omega arith
blocks-after seen (part.LongMain l) = omega arith

pub blocks-seen_after : (seen : HeadersRead) (parts : List Part) → seen.blocks ≤ (seen_after seen parts).blocks
blocks-seen_after seen [] = omega arith
blocks-seen_after seen (p ∷ parts) = omega (arith, blocks-after seen p, blocks-seen_after (after seen p) parts)

begins-at : (text payloads : List ℕ) (id : ℕ) (read : Option (List Part × List ℕ)) → parts_of text ≡ read
    → option_map announced (option_map {U = HeadersRead × List ℕ} (λ x. (seen_after start x.0, x.1)) read) ≡ Some (length payloads, payloads)
    → Finds (length text) start text payloads id (block_by_id id (unwrap_or (option_map (λ x. blocks_of x.0 payloads) read) []))
begins-at text payloads id None e h = absurd (cc)
begins-at text payloads id (Some x) e h =
    let both : announced (seen_after start x.0, x.1) ≡ (length payloads, payloads) = same_Some _ _ h in
    let behind : x.1 ≡ payloads = ap (λ (y : ℕ × List ℕ). y.1) both in
    record {
      parts = x.0;
      read = e ∙ ap (λ (rest : List ℕ). Some (x.0, rest)) behind;
      fits = ap (λ (y : ℕ × List ℕ). y.0) both;
      same = refl;
    }

-- the search begins with all parts
pub begins : (text payloads : List ℕ) (id : ℕ) → IsParted text payloads → Finds (length text) start text payloads id (block_by_id id (blocks_in text payloads))
unfolding walked_from blocks_in
begins text payloads id h = begins-at text payloads id (parts_of text) refl h.payloads_there

parts-none : (m n : ℕ) (seen : HeadersRead) (rest : List ℕ) → m ≡ suc n → is_done seen rest ≡ false → part_at seen rest ≡ None → parts_from m seen rest ≡ None
unfolding parts_from
parts-none m n seen rest k h none = rw (k, h, none) refl

parts-next : (m n : ℕ) (seen : HeadersRead) (rest : List ℕ) (p : Part) (behind : List ℕ) → m ≡ suc n → is_done seen rest ≡ false → part_at seen rest ≡ Some (p, behind)
    → parts_from m seen rest ≡ (parts_from n (after seen p) behind >>= λ x. Some (p ∷ x.0, x.1))
unfolding parts_from
parts-next m n seen rest p behind k h some = rw (k, h, some) refl

parts-done : (n : ℕ) (seen : HeadersRead) (rest : List ℕ) → is_done seen rest ≡ true → parts_from n seen rest ≡ Some ([], rest)
unfolding parts_from
parts-done zero seen rest h = refl
parts-done (suc n) seen rest h = rw h refl

parts-zero : (n : ℕ) (seen : HeadersRead) (rest : List ℕ) → n ≡ 0 → parts_from n seen rest ≡ Some ([], rest)
unfolding parts_from
parts-zero n seen rest h = rw h refl

-- each part can be read
pub never-none : {m : ℕ} {seen : HeadersRead} {rest payloads : List ℕ} {id : ℕ} {found : Option Block} (n : ℕ) → Finds m seen rest payloads id found → m ≡ suc n → is_done seen rest ≡ false
    → part_at seen rest ≡ None → ⊥
never-none {m = m} {seen = seen} {rest = rest} n l k h none =
    let no : parts_from m seen rest ≡ None = parts-none m n seen rest k h none in
    let yes = l.read in
    cc

none-left : {m : ℕ} {seen : HeadersRead} {rest payloads : List ℕ} {id : ℕ} {found : Option Block} → Finds m seen rest payloads id found → parts_from m seen rest ≡ Some ([], rest) → found ≡ None
none-left {seen = seen} {payloads = payloads} {id = id} l h =
    let none : l.parts ≡ [] = ap (λ (x : List Part × List ℕ). x.0) (same_Some _ _ (sym l.read ∙ h)) in
    sym l.same ∙ ap (λ (parts : List Part). block_by_id id (blocks_of parts (drop seen.blocks payloads))) none

-- where no more parts are read, the block is not there
pub ends-done : {m : ℕ} {seen : HeadersRead} {rest payloads : List ℕ} {id : ℕ} {found : Option Block} → Finds m seen rest payloads id found → is_done seen rest ≡ true → found ≡ None
ends-done {m = m} {seen = seen} {rest = rest} l h = none-left l (parts-done m seen rest h)

pub ends-zero : {m : ℕ} {seen : HeadersRead} {rest payloads : List ℕ} {id : ℕ} {found : Option Block} → Finds m seen rest payloads id found → m ≡ 0 → found ≡ None
ends-zero {m = m} {seen = seen} {rest = rest} l h = none-left l (parts-zero m seen rest h)

-- what is left begins with the part that is read
pub record Next (n : ℕ) (seen : HeadersRead) (p : Part) (behind payloads : List ℕ) (id : ℕ) (found : Option Block) : Type 0 where
  pub others : List Part
  pub read : parts_from n (after seen p) behind ≡ Some (others, payloads)
  pub fits : (seen_after (after seen p) others).blocks + (seen_after (after seen p) others).main ≡ length payloads
  pub same : block_by_id id (blocks_of (p ∷ others) (drop seen.blocks payloads)) ≡ found

-- the parts with one before them
abbrev again : Part → Option (List Part × List ℕ) → Option (List Part × List ℕ)
again p read = read >>= λ x. Some (p ∷ x.0, x.1)

next-at : (n : ℕ) (seen : HeadersRead) (p : Part) (behind payloads : List ℕ) (id : ℕ) (found : Option Block) (parts : List Part) (read : Option (List Part × List ℕ))
    → parts_from n (after seen p) behind ≡ read → again p read ≡ Some (parts, payloads)
    → (seen_after seen parts).blocks + (seen_after seen parts).main ≡ length payloads
    → block_by_id id (blocks_of parts (drop seen.blocks payloads)) ≡ found
    → Next n seen p behind payloads id found
next-at n seen p behind payloads id found parts None e h fits same = absurd (cc)
next-at n seen p behind payloads id found parts (Some x) e h fits same =
    let both : (p ∷ x.0, x.1) ≡ (parts, payloads) = same_Some _ _ h in
    let first : parts ≡ p ∷ x.0 = sym (ap (λ (y : List Part × List ℕ). y.0) both) in
    let behind_them : x.1 ≡ payloads = ap (λ (y : List Part × List ℕ). y.1) both in
    record {
      others = x.0;
      read = e ∙ ap (λ (rest : List ℕ). Some (x.0, rest)) behind_them;
      fits = let P : List Part → Type 0 = λ ps. (seen_after seen ps).blocks + (seen_after seen ps).main ≡ length payloads in subst P first fits;
      same = let P : List Part → Type 0 = λ ps. block_by_id id (blocks_of ps (drop seen.blocks payloads)) ≡ found in subst P first same;
    }

pub leads-next : {m : ℕ} {seen : HeadersRead} {rest payloads : List ℕ} {id : ℕ} {found : Option Block} (n : ℕ) (p : Part) (behind : List ℕ) → Finds m seen rest payloads id found → m ≡ suc n
    → is_done seen rest ≡ false → part_at seen rest ≡ Some (p, behind) → Next n seen p behind payloads id found
leads-next {m = m} {seen = seen} {rest = rest} {payloads = payloads} {id = id} {found = found} n p behind l k h some =
    next-at n seen p behind payloads id found l.parts (parts_from n (after seen p) behind) refl (sym (parts-next m n seen rest p behind k h some) ∙ l.read) l.fits l.same

-- the block's payload is there
pub payload-fits : {n : ℕ} {seen : HeadersRead} {behind payloads : List ℕ} {id : ℕ} {found : Option Block} (b : BlockHeader) → Next n seen (part.Block b) behind payloads id found
    → (seen.blocks ≤ length payloads) × (image_length b.image + b.data_length ≤ length (drop seen.blocks payloads))
payload-fits {seen = seen} {payloads = payloads} b l =
    let rising : (after seen (part.Block b)).blocks ≤ (seen_after (after seen (part.Block b)) l.others).blocks = blocks-seen_after (after seen (part.Block b)) l.others in
    let fits = l.fits in
    (omega arith, omega (arith, length-drop seen.blocks payloads))

-- the block with the id is the one that is found
pub found-here : {n : ℕ} {seen : HeadersRead} {behind payloads : List ℕ} {id : ℕ} {found : Option Block} (b : BlockHeader) → Next n seen (part.Block b) behind payloads id found
    → (b.id == id) ≡ true → found ≡ Some (block_in b (drop seen.blocks payloads))
found-here {seen = seen} {payloads = payloads} {id = id} b l h =
    let same : cond (b.id == id) (Some (block_in b (drop seen.blocks payloads))) (block_by_id id (blocks_of l.others (drop (image_length b.image + b.data_length) (drop seen.blocks payloads)))) ≡ _ = l.same in
    sym (rw h at same)

drop-behind : (b : BlockHeader) (seen : HeadersRead) (payloads : List ℕ) → drop (image_length b.image + b.data_length) (drop seen.blocks payloads) ≡ drop (after seen (part.Block b)).blocks payloads
drop-behind b seen payloads =
    drop-drop (image_length b.image + b.data_length) seen.blocks payloads ∙ ap (λ (k : ℕ). drop k payloads) (omega arith)

left-over : (t : Bool) (b : BlockHeader) (x others found : Option Block) → cond t (Some b) None ≡ None → cond t x others ≡ found → others ≡ found
left-over true b x others found h same = absurd (cc)
left-over false b x others found h same = same

-- another part leaves what is found to the others
same-behind : (seen : HeadersRead) (p : Part) (payloads : List ℕ) (id : ℕ) (others : List Part) (found : Option Block) → block_with_id id p ≡ None
    → block_by_id id (blocks_of (p ∷ others) (drop seen.blocks payloads)) ≡ found → block_by_id id (blocks_of others (drop (after seen p).blocks payloads)) ≡ found
same-behind seen (part.Block b) payloads id others found h same =
    ap (λ (rest : List ℕ). block_by_id id (blocks_of others rest)) (sym (drop-behind b seen payloads))
    ∙ left-over (b.id == id) b (Some (block_in b (drop seen.blocks payloads))) (block_by_id id (blocks_of others (drop (image_length b.image + b.data_length) (drop seen.blocks payloads)))) found h same
same-behind seen (part.Origin o) payloads id others found h same = same
same-behind seen (part.TopXid x) payloads id others found h same = same
same-behind seen (part.ShortMain l) payloads id others found h same = same
same-behind seen (part.LongMain l) payloads id others found h same = same

pub leads-on : {n : ℕ} {seen : HeadersRead} {p : Part} {behind payloads : List ℕ} {id : ℕ} {found : Option Block} → Next n seen p behind payloads id found → block_with_id id p ≡ None
    → Finds n (after seen p) behind payloads id found
leads-on {seen = seen} {p = p} {payloads = payloads} {id = id} {found = found} l h = record {
  parts = l.others;
  read = l.read;
  fits = l.fits;
  same = same-behind seen p payloads id l.others found h l.same;
}

-- a part with the id is a block
with-id : (id : ℕ) (p : Part) (b : BlockHeader) → block_with_id id p ≡ Some b → (p ≡ part.Block b) × ((b.id == id) ≡ true)
with-id id (part.Block a) b h =
    let both = cond_some (a.id == id) a b h in
    (ap part.Block both.1, let P : BlockHeader → Type 0 = λ x. (x.id == id) ≡ true in subst P both.1 both.0)
with-id id (part.Origin o) b h = absurd (cc)
with-id id (part.TopXid x) b h = absurd (cc)
with-id id (part.ShortMain l) b h = absurd (cc)
with-id id (part.LongMain l) b h = absurd (cc)

-- the part that is read is the block that is sought
pub record Here (seen : HeadersRead) (b : BlockHeader) (payloads : List ℕ) (id : ℕ) (found : Option Block) : Type 0 where
  pub begins : seen.blocks ≤ length payloads
  pub fits : image_length b.image + b.data_length ≤ length (drop seen.blocks payloads)
  pub same_id : b.id ≡ id
  pub same : found ≡ Some (block_in b (drop seen.blocks payloads))

pub is-here : {n : ℕ} {seen : HeadersRead} {p : Part} {behind payloads : List ℕ} {id : ℕ} {found : Option Block} (b : BlockHeader) → Next n seen p behind payloads id found → block_with_id id p ≡ Some b
    → Here seen b payloads id found
is-here {n = n} {seen = seen} {p = p} {behind = behind} {payloads = payloads} {id = id} {found = found} b l h =
    let here = with-id id p b h in
    let next : Next n seen (part.Block b) behind payloads id found = (let P : Part → Type 0 = λ q. Next n seen q behind payloads id found in subst P here.0 l) in
    let fits = payload-fits b next in
    record {
      begins = fits.0;
      fits = fits.1;
      same_id = eqb-true b.id id here.1;
      same = found-here b next here.1;
    }
