-- What a loop over new blocks writes.
use Rattle.std.proofs.Common.{◌≡◌, ℕ, ◌+◌, ◌<◌, Bool, List, [], ◌∷◌, ◌++◌, length, length-append, true, false, refl, arith, nat_le, ◌==◌, Option, Some, None, option_map, is_some, nat_lt, sym, ap, ◌∙◌, append_assoc, All, if◌then◌else◌}
use Rattle.std.specs.List.{flat_map}
use Rattle.std.proofs.lemmas.List.Concat.{flat_map-cons}
use Rattle.std.proofs.lemmas.List.Elements.{All-nil, All-cons}
use Rattle.pg_types.specs.declared.names.Locator.{Locator}
use Rattle.wal_record.specs.declared.new.NewRecord.{NewRecord}
use Rattle.wal_record.specs.declared.new.NewBlock.{NewBlock}
use Rattle.wal_record.specs.declared.new.NewImage.{NewImage}
use Rattle.wal_record.specs.declared.parts.Part.{Part}
use Rattle.wal_record.specs.declared.parts.Part.TheVariants as part
use Rattle.wal_record.specs.Spelling.{one_byte, two_bytes, four_bytes, image_text, locator_text, relation_text, part_text, total_of}
use Rattle.wal_record.specs.New.{flag, image_header_of, is_same_relation, flags_of, header_of, block_parts, main_parts, payload_of, spelling_of, header_size, blocks_size, new_size, IsNewBlock, AreNewBlocks}
use Rattle.wal_record.proofs.Flags.{flags-are}

-- the headers of blocks behind one of this relation
abbrev pub headers_text : Option Locator → List NewBlock → List ℕ
headers_text before blocks = flat_map part_text (block_parts before blocks)

-- the pieces of a block's header are its text
pub header-pieces : (before : Option Locator) (block : NewBlock) (same : Bool) (flags size : ℕ) (o o1 o2 o3 o4 o5 o6 : List ℕ) → block.fork < 16
    → same ≡ is_same_relation before block.locator → flags ≡ flags_of same block → size ≡ length block.payload
    → o1 ≡ o ++ one_byte block.id → o2 ≡ o1 ++ one_byte flags → o3 ≡ o2 ++ two_bytes size → o4 ≡ o3 ++ image_text (option_map image_header_of block.image)
    → o5 ≡ o4 ++ (if same then [] else locator_text block.locator) → o6 ≡ o5 ++ four_bytes block.block
    → o6 ≡ o ++ part_text (part.Block (header_of before block))
unfolding part_text
header-pieces before block same flags size o o1 o2 o3 o4 o5 o6 fork s f n e1 e2 e3 e4 e5 e6 =
    let image = image_text (option_map image_header_of block.image) in
    let relation : Bool → List ℕ = λ b. if b then [] else locator_text block.locator in
    let are = flags-are block.fork (is_some block.image) (nat_lt 0 (length block.payload)) block.will_init (is_same_relation before block.locator) fork in
    let pieces : o6 ≡ o ++ (one_byte block.id ++ (one_byte flags ++ (two_bytes size ++ (image ++ (relation same ++ four_bytes block.block))))) =
    rw (e6, e5, e4, e3, e2, e1) (simp append_assoc) in
    let flags_is : flags ≡ flags_of (is_same_relation before block.locator) block = f ∙ ap (λ (b : Bool). flags_of b block) s in
    let relation_is : relation same ≡ relation_text (header_of before block) = ap relation (s ∙ sym are.same_is) in
    pieces
    ∙ ap (λ (k : ℕ). o ++ (one_byte block.id ++ (one_byte k ++ (two_bytes size ++ (image ++ (relation same ++ four_bytes block.block)))))) flags_is
    ∙ ap (λ (k : ℕ). o ++ (one_byte block.id ++ (one_byte (flags_of (is_same_relation before block.locator) block) ++ (two_bytes k ++ (image ++ (relation same ++ four_bytes block.block)))))) n
    ∙ ap (λ (w : List ℕ). o ++ (one_byte block.id ++ (one_byte (flags_of (is_same_relation before block.locator) block) ++ (two_bytes (length block.payload) ++ (image ++ (w ++ four_bytes block.block)))))) relation_is

-- blocks in their order are blocks
pub each-new : (least : ℕ) (blocks : List NewBlock) → AreNewBlocks least blocks → All IsNewBlock blocks
each-new least [] are = All-nil IsNewBlock
each-new least (block ∷ blocks) are = All-cons IsNewBlock block blocks are.1 (each-new (block.id + 1) blocks are.2)

-- ---- how long a record is

image-long : (image : Option NewImage) → length (image_text (option_map image_header_of image)) ≡ flag (is_some image) 5
image-long None = refl
image-long (Some image) = refl

relation-long : (same : Bool) (locator : Locator) → length (if same then [] else locator_text locator) ≡ (if same then 0 else 12)
relation-long true locator = refl
relation-long false locator = refl

header-long : (before : Option Locator) (block : NewBlock) → block.fork < 16 → length (part_text (part.Block (header_of before block))) ≡ header_size before block
unfolding part_text
header-long before block fork =
    let header = header_of before block in
    let are = flags-are block.fork (is_some block.image) (nat_lt 0 (length block.payload)) block.will_init (is_same_relation before block.locator) fork in
    let relation : length (relation_text header) ≡ (if is_same_relation before block.locator then 0 else 12) =
    ap (λ (b : Bool). length (if b then [] else locator_text block.locator)) are.same_is ∙ relation-long (is_same_relation before block.locator) block.locator in
    omega (arith, relation, image-long block.image, length-append (image_text header.image) (relation_text header ++ four_bytes header.block), length-append (relation_text header) (four_bytes header.block))

headers-long : (before : Option Locator) (least : ℕ) (blocks : List NewBlock) (parts : List Part) → AreNewBlocks least blocks
    → length (flat_map part_text (block_parts before blocks ++ parts)) + length (flat_map payload_of blocks) ≡ blocks_size before blocks + length (flat_map part_text parts)
headers-long before least [] parts are = omega arith
headers-long before least (block ∷ blocks) parts are =
    let others = block_parts (Some block.locator) blocks ++ parts in
    omega (
      arith,
      header-long before block are.1.fork,
      headers-long (Some block.locator) (block.id + 1) blocks parts are.2,
      ap length (flat_map-cons part_text (part.Block (header_of before block)) others),
      length-append (part_text (part.Block (header_of before block))) (flat_map part_text others),
      ap length (flat_map-cons payload_of block blocks),
      length-append (payload_of block) (flat_map payload_of blocks),
    )

main-long : (n : ℕ) (none short : Bool) → length (flat_map part_text (if none then [] else (if short then part.ShortMain n ∷ [] else (part.LongMain n ∷ [])))) ≡ (if none then 0 else (if short then 2 else 5))
unfolding part_text
main-long n true short = refl
main-long n false true = refl
main-long n false false = refl

-- the length of a record's spelling
pub total-is : (rec : NewRecord) → AreNewBlocks 0 rec.blocks → total_of (spelling_of rec) ≡ new_size rec
total-is rec are =
    let n = length rec.main in
    let s = spelling_of rec in
    omega (
      arith,
      headers-long None 0 rec.blocks (main_parts n) are,
      main-long n (n == 0) (nat_le n 255),
      length-append (flat_map part_text s.parts) s.payloads,
      length-append (flat_map payload_of rec.blocks) rec.main,
    )
