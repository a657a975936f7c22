-- What is written of a new record is read as the same record.
use Rattle.std.proofs.Common.{◌≡◌, ℕ, ◌+◌, ◌-◌, ◌^◌, ◌<◌, ◌≤◌, Bool, true, false, ◌&&◌, cond, nat_lt, nat_le, List, [], ◌∷◌, ◌++◌, length, take, drop, map, All, Option, Some, None, Ok, Result, option_map, is_some, refl, sym, ap, ◌∙◌, append_assoc, arith, length-append, ◌==◌, IsTrue}
use Rattle.std.specs.Prelude.{MatchBool, IfSome}
use Rattle.std.specs.List.{flat_map}
use Rattle.std.proofs.lemmas.Bool.Decides.{nat_tests}
use Rattle.std.proofs.lemmas.List.{take_at, drop_at}
use Rattle.std.proofs.lemmas.List.Concat.{flat_map-cons}
use Rattle.std.proofs.lemmas.List.Elements.{All-nil, All-head, All-tail}
use Rattle.pg_types.specs.declared.names.Locator.{Locator}
use Rattle.wal_record.specs.declared.new.NewBlock.{NewBlock}
use Rattle.wal_record.specs.declared.new.NewImage.{NewImage}
use Rattle.wal_record.specs.declared.types.RecordFault.{RecordFault}
use Rattle.wal_record.specs.declared.parts.Part.TheVariants as part
use Rattle.wal_record.specs.declared.parts.HeadersRead.{HeadersRead}
use Rattle.wal_record.specs.Record.{Image, Block, Record}
use Rattle.pg_types.specs.Numbers.{has_bits}
use Rattle.wal_record.specs.Parts.{image_length, after, start, seen_after}
use Rattle.wal_record.specs.Decoded.{image_in, block_in, blocks_of}
use Rattle.pg_types.specs.Bytes.{AreBytes}
use Rattle.wal_record.specs.Spelling.{part_text, ImageAgrees, IsLocator, IsBlock, AreParts, IsSpelling}
use Rattle.wal_record.specs.New.{flag, image_header_of, is_same_relation, flags_of, header_of, block_parts, main_parts, image_bytes, payload_of, spelling_of, is_page_image, IsNewBlock, AreNewBlocks, new_size, HasSizes, image_of, block_of, EncodedIsRead}
use Rattle.wal_record.proofs.Flags.{FlagsAre, flags-are}
use Rattle.wal_record.proofs.SpelledWhole.{is_read}
use Rattle.wal_record.proofs.Written.{total-is}
use Rattle.pg_types.proofs.Bytes.{both-bytes}
use Rattle.std.proofs.lemmas.Bool.{le-leb, leb-true, ltb-true, eqb-true, and_parts}
use Rattle.pg_types.proofs.Locators.{same_file}

-- ---- a block's header

true-is : (b : Bool) → IsTrue b → b ≡ true
true-is b h = h

-- the info of an image: a hole, and whether it is applied
info-hole : (a b : Bool) → has_bits (flag a 1 + flag b 2) 1 ≡ a
info-hole true true = refl
info-hole true false = refl
info-hole false true = refl
info-hole false false = refl

info-apply : (a b : Bool) → has_bits (flag a 1 + flag b 2) 2 ≡ b
info-apply true true = refl
info-apply true false = refl
info-apply false true = refl
info-apply false false = refl

info-plain : (a b : Bool) → has_bits (flag a 1 + flag b 2) 28 ≡ false
info-plain true true = refl
info-plain true false = refl
info-plain false true = refl
info-plain false false = refl

info-fits : (a b : Bool) → flag a 1 + flag b 2 < 2 ^ 8
info-fits true true = omega arith
info-fits true false = omega arith
info-fits false true = omega arith
info-fits false false = omega arith

-- a page image is one for the reader
page-by : (a : Bool) (n hole : ℕ) → cond a (nat_lt 0 hole && nat_le hole n) ((n == 8192) && (hole == 0)) ≡ true → a ≡ nat_lt n 8192
    → cond a ((nat_lt 0 hole && nat_lt n 8192) && nat_le (hole + (8192 - n)) 8192) ((n == 8192) && (hole == 0)) ≡ true
page-by true n hole h e =
    let parts = and_parts (nat_lt 0 hole) (nat_le hole n) h in
    let short : n < 8192 = ltb-true n 8192 (sym e) in
    let inside : hole ≤ n = leb-true hole n parts.1 in
    rw (parts.0, ← e, le-leb (hole + (8192 - n)) 8192 (omega arith)) refl
page-by false n hole h e = h

length-by : (a : Bool) (n hole : ℕ) → cond a (nat_lt 0 hole && nat_le hole n) ((n == 8192) && (hole == 0)) ≡ true → a ≡ nat_lt n 8192 → n < 2 ^ 16
length-by true n hole h e = (let short : n < 8192 = ltb-true n 8192 (sym e) in omega arith)
length-by false n hole h e = (let whole : n ≡ 8192 = eqb-true n 8192 (and_parts (n == 8192) (hole == 0) h).0 in omega arith)

relation-by : (before : Option Locator) (locator : Locator) (b : Bool) → b ≡ is_same_relation before locator → IsLocator locator → MatchBool b (before ≡ Some locator) (IsLocator locator)
relation-by None locator true e is = absurd (cc)
relation-by None locator false e is = is
relation-by (Some l) locator true e is = ap (λ (x : Locator). Some x) (same_file l locator (sym e))
relation-by (Some l) locator false e is = is

size-by : (b : Bool) (n : ℕ) → b ≡ nat_lt 0 n → cond b (nat_lt 0 n) (n == 0) ≡ true
size-by true n e = sym e
size-by false n e = grind (arith, nat_tests)

image-by : (flags : ℕ) (image : Option NewImage) → has_bits flags 16 ≡ is_some image → IfSome image (λ i. IsTrue (is_page_image i)) → IfSome image (λ i. (i.hole_at < 2 ^ 16) × AreBytes i.bytes)
    → ImageAgrees flags (option_map image_header_of image)
image-by flags None e page sizes = e
image-by flags (Some image) e page sizes =
    let hole = nat_lt (length image.bytes) 8192 in (
      e,
      record {
        length_fits = length-by hole (length image.bytes) image.hole_at page refl;
        hole_at_fits = sizes.0;
        info_fits = info-fits hole image.apply;
        plain = info-plain hole image.apply;
        page = rw (info-hole hole image.apply) (page-by hole (length image.bytes) image.hole_at page refl);
      },
    )

abbrev flags-of : Option Locator → NewBlock → ℕ
flags-of before block = flags_of (is_same_relation before block.locator) block

block-flags : (before : Option Locator) (block : NewBlock) → IsNewBlock block
    → FlagsAre (flags-of before block) block.fork (is_some block.image) (nat_lt 0 (length block.payload)) block.will_init (is_same_relation before block.locator)
block-flags before block is = flags-are block.fork (is_some block.image) (nat_lt 0 (length block.payload)) block.will_init (is_same_relation before block.locator) is.fork

new-header : (seen : HeadersRead) (block : NewBlock) → IsNewBlock block → HasSizes block → seen.least_id ≤ block.id → IsBlock seen (header_of seen.locator block)
new-header seen block is sizes rising =
    let are = block-flags seen.locator block is in
    record {
      rising = rising;
      id_fits = is.id;
      flags_fit = are.fits;
      size_fits = is.payload;
      size_agrees = size-by (has_bits (flags-of seen.locator block) 32) (length block.payload) are.payload_is;
      image = image-by (flags-of seen.locator block) block.image are.image_is is.image sizes.image;
      relation = relation-by seen.locator block.locator (has_bits (flags-of seen.locator block) 128) are.same_is sizes.locator;
      block_fits = sizes.block_fits;
    }

-- ---- the parts of a record

main-by : (seen : HeadersRead) (n : ℕ) (none short : Bool) → seen.closed ≡ false → n < 2 ^ 32 → short ≡ nat_le n 255
    → AreParts seen (cond none [] (cond short (part.ShortMain n ∷ []) (part.LongMain n ∷ [])))
main-by seen n true short closed h e = tt
main-by seen n false true closed h e = (let small : n ≤ 255 = leb-true n 255 (sym e) in (closed, omega arith, tt))
main-by seen n false false closed h e = (closed, h, tt)

parted : (seen : HeadersRead) (blocks : List NewBlock) (n : ℕ) → seen.closed ≡ false → AreNewBlocks seen.least_id blocks → All HasSizes blocks → n < 2 ^ 32
    → AreParts seen (block_parts seen.locator blocks ++ main_parts n)
parted seen [] n closed are sizes h = main-by seen n (n == 0) (nat_le n 255) closed h refl
parted seen (block ∷ blocks) n closed are sizes h = (
  closed,
  new-header seen block are.1 (All-head HasSizes block blocks sizes) are.0,
  parted (after seen (part.Block (header_of seen.locator block))) blocks n closed are.2 (All-tail HasSizes block blocks sizes) h,
)

-- the lengths that the parts tell
main-told : (seen : HeadersRead) (n : ℕ) (none short : Bool) → seen.main ≡ 0 → none ≡ (n == 0)
    → ((seen_after seen (cond none [] (cond short (part.ShortMain n ∷ []) (part.LongMain n ∷ [])))).blocks ≡ seen.blocks)
    × ((seen_after seen (cond none [] (cond short (part.ShortMain n ∷ []) (part.LongMain n ∷ [])))).main ≡ n)
main-told seen n true short h e = (let zero_is : n ≡ 0 = eqb-true n 0 (sym e) in (refl, omega arith))
main-told seen n false true h e = (refl, refl)
main-told seen n false false h e = (refl, refl)

image-told : (image : Option NewImage) → image_length (option_map image_header_of image) ≡ length (image_bytes image)
image-told None = refl
image-told (Some image) = refl

told : (seen : HeadersRead) (before : Option Locator) (blocks : List NewBlock) (n : ℕ) → seen.main ≡ 0
    → ((seen_after seen (block_parts before blocks ++ main_parts n)).blocks ≡ seen.blocks + length (flat_map payload_of blocks))
    × ((seen_after seen (block_parts before blocks ++ main_parts n)).main ≡ n)
told seen before [] n h =
    let m = main-told seen n (n == 0) (nat_le n 255) h refl in
    (omega (arith, m.0), m.1)
told seen before (block ∷ blocks) n h =
    let t = told (after seen (part.Block (header_of before block))) (Some block.locator) blocks n h in
    (omega (arith, t.0, image-told block.image, ap length (flat_map-cons payload_of block blocks), length-append (payload_of block) (flat_map payload_of blocks), length-append (image_bytes block.image) block.payload), t.1)

-- ---- what is read

image-read : (image : Option NewImage) (rest : List ℕ) → option_map (λ i. image_in i (image_bytes image ++ rest)) (option_map image_header_of image) ≡ option_map image_of image
image-read None rest = refl
image-read (Some image) rest =
    let made : Bool → List ℕ → Option Image = λ a bytes. Some (record { apply = a; hole_at = image.hole_at; bytes = bytes }) in
    ap (λ (a : Bool). made a (take (length image.bytes) (image.bytes ++ rest))) (info-apply (nat_lt (length image.bytes) 8192) image.apply)
    ∙ ap (λ (bytes : List ℕ). made image.apply bytes) (take_at image.bytes rest (length image.bytes) refl)

payload-read : (block : NewBlock) (rest : List ℕ) → take (length block.payload) (drop (image_length (option_map image_header_of block.image)) (image_bytes block.image ++ (block.payload ++ rest))) ≡ block.payload
payload-read block rest =
    ap (λ (w : List ℕ). take (length block.payload) w) (drop_at (image_bytes block.image) (block.payload ++ rest) (image_length (option_map image_header_of block.image)) (sym (image-told block.image)))
    ∙ take_at block.payload rest (length block.payload) refl

block-read : (before : Option Locator) (block : NewBlock) (rest : List ℕ) → IsNewBlock block → block_in (header_of before block) (image_bytes block.image ++ (block.payload ++ rest)) ≡ block_of block
block-read before block rest is =
    let are = block-flags before block is in
    let made : ℕ → Bool → Option Image → List ℕ → Block = λ fork init image payload. record {
      id = block.id;
      locator = block.locator;
      fork = fork;
      block = block.block;
      will_init = init;
      image = image;
      payload = payload;
    } in
    let text = image_bytes block.image ++ (block.payload ++ rest) in
    let image = option_map (λ i. image_in i text) (option_map image_header_of block.image) in
    let payload = take (length block.payload) (drop (image_length (option_map image_header_of block.image)) text) in
    ap (λ (fork : ℕ). made fork (has_bits (flags-of before block) 64) image payload) are.fork_is
    ∙ ap (λ (init : Bool). made block.fork init image payload) are.init_is
    ∙ ap (λ (i : Option Image). made block.fork block.will_init i payload) (image-read block.image (block.payload ++ rest))
    ∙ ap (λ (w : List ℕ). made block.fork block.will_init (option_map image_of block.image) w) (payload-read block rest)

no-blocks : (n : ℕ) (payloads : List ℕ) (none short : Bool) → blocks_of (cond none [] (cond short (part.ShortMain n ∷ []) (part.LongMain n ∷ []))) payloads ≡ []
no-blocks n payloads true short = refl
no-blocks n payloads false true = refl
no-blocks n payloads false false = refl

blocks-read : (before : Option Locator) (least : ℕ) (blocks : List NewBlock) (n : ℕ) (main : List ℕ) → AreNewBlocks least blocks
    → blocks_of (block_parts before blocks ++ main_parts n) (flat_map payload_of blocks ++ main) ≡ map block_of blocks
blocks-read before least [] n main are = no-blocks n main (n == 0) (nat_le n 255)
blocks-read before least (block ∷ blocks) n main are =
    let rest = flat_map payload_of blocks ++ main in
    let parts = block_parts (Some block.locator) blocks ++ main_parts n in
    let header = header_of before block in
    let size = image_length header.image + header.data_length in
    let regrouped : flat_map payload_of (block ∷ blocks) ++ main ≡ image_bytes block.image ++ (block.payload ++ rest) =
    ap (λ (w : List ℕ). w ++ main) (flat_map-cons payload_of block blocks) ∙ simp append_assoc in
    let behind : drop size (image_bytes block.image ++ (block.payload ++ rest)) ≡ rest =
    ap (drop size) (sym (append_assoc (image_bytes block.image) block.payload rest))
    ∙ drop_at (payload_of block) rest size (omega (arith, image-told block.image, length-append (image_bytes block.image) block.payload)) in
    ap (λ (w : List ℕ). block_in header w ∷ blocks_of parts (drop size w)) regrouped
    ∙ ap (λ (b : Block). b ∷ blocks_of parts (drop size (image_bytes block.image ++ (block.payload ++ rest)))) (block-read before block rest are.1)
    ∙ ap (λ (w : List ℕ). block_of block ∷ blocks_of parts w) behind
    ∙ ap (λ (bs : List Block). block_of block ∷ bs) (blocks-read (Some block.locator) (block.id + 1) blocks n main are.2)

image-are : (image : Option NewImage) → IfSome image (λ i. (i.hole_at < 2 ^ 16) × AreBytes i.bytes) → AreBytes (image_bytes image)
image-are None h = All-nil (λ b. b < 256)
image-are (Some image) h = h.1

payloads-are : (blocks : List NewBlock) → All HasSizes blocks → AreBytes (flat_map payload_of blocks)
payloads-are [] sizes = All-nil (λ b. b < 256)
payloads-are (block ∷ blocks) sizes =
    let here = All-head HasSizes block blocks sizes in
    rw flat_map-cons (both-bytes (payload_of block) (flat_map payload_of blocks) (both-bytes (image_bytes block.image) block.payload (image-are block.image here.image) here.payload)
    (payloads-are blocks (All-tail HasSizes block blocks sizes)))

pub is_read_again : EncodedIsRead
is_read_again rec at rule is sizes known link =
    let s = spelling_of rec in
    let n = length rec.main in
    let size = is.total in
    let total = total-is rec is.blocks in
    let payloads = flat_map payload_of rec.blocks in
    let t = told start None rec.blocks n refl in
    let fits : n < 2 ^ 32 = omega (arith, length-append (flat_map part_text s.parts) s.payloads, length-append payloads rec.main) in
    let spelling : IsSpelling s = record {
      xid_fits = is.xid;
      prev_fits = sizes.prev;
      info_fits = sizes.info;
      manager_fits = sizes.manager;
      padding_fits = omega arith;
      known = known;
      parted = parted start rec.blocks n refl is.blocks sizes.blocks fits;
      bytes = both-bytes payloads rec.main (payloads-are rec.blocks sizes.blocks) sizes.main;
      filled = omega (arith, t.0, t.1, length-append payloads rec.main);
      total_fits = omega arith;
    } in
    let made : ℕ → List Block → List ℕ → Result Record RecordFault = λ size blocks main. Ok (record { head = record { total = size; xid = rec.xid; prev = rec.prev; info = rec.info; manager = rec.manager }; blocks = blocks; main = main }) in
    is_read s at rule spelling link
    ∙ ap (λ (k : ℕ). made k (blocks_of s.parts s.payloads) (drop (seen_after start s.parts).blocks s.payloads)) total
    ∙ ap (λ (blocks : List Block). made (new_size rec) blocks (drop (seen_after start s.parts).blocks s.payloads)) (blocks-read None 0 rec.blocks n rec.main is.blocks)
    ∙ ap (λ (main : List ℕ). made (new_size rec) (map block_of rec.blocks) main) (drop_at payloads rec.main (seen_after start s.parts).blocks (omega (arith, t.0)))
