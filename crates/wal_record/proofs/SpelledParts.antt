-- A part that is read is the part that was spelled, and what was spelled is read again.
use Rattle.std.proofs.Common.{◌≡◌, ℕ, ◌^◌, ◌<◌, ◌≤◌, Bool, true, false, ◌||◌, cond, nat_lt, List, [], ◌++◌, length, drop, Option, Some, None, option_map, refl, sym, ap, subst, ◌∙◌, append_assoc, arith, length-append, if◌then◌else◌, ◌==◌}
use Rattle.std.specs.Prelude.{MatchBool}
use Rattle.std.proofs.lemmas.Bool.Decides.{nat_tests}
use Rattle.std.proofs.lemmas.List.{drop_at, take-append-drop}
use Rattle.std.proofs.lemmas.List.Elements.{All-drop}
use Rattle.std.proofs.lemmas.Option.{same_Some}
use Rattle.byteorder.specs.Endian.{little_bytes, little_number}
use Rattle.byteorder.specs.Numbers.{little_from-lt, length-bytes_low_first}
use Rattle.pg_types.specs.Numbers.{number_at, has_bits}
use Rattle.pg_types.specs.declared.names.Locator.{Locator}
use Rattle.wal_record.specs.declared.parts.Part.{Part}
use Rattle.wal_record.specs.declared.parts.Part.TheVariants as part
use Rattle.wal_record.specs.declared.parts.BlockHeader.{BlockHeader}
use Rattle.wal_record.specs.declared.parts.ImageHeader.{ImageHeader}
use Rattle.wal_record.specs.declared.parts.HeadersRead.{HeadersRead}
use Rattle.wal_record.specs.Parts.{◌>>=◌, number_from, has_hole, is_compressed, any_compressed, fits_page, data_agrees, image_header, image_behind, image_at, image_from, locator_at, locator_from, flags_at, block_at, block_from, part_from, part_at}
use Rattle.pg_types.specs.Bytes.{AreBytes}
use Rattle.wal_record.specs.Spelling.{one_byte, two_bytes, four_bytes, image_text, locator_text, block_text, part_text, IsImage, ImageAgrees, IsLocator, RelationAgrees, IsBlock, MayFollow}
use Rattle.pg_types.proofs.SpelledNumbers.{bytes_of_number, read_back}
use Rattle.pg_types.proofs.Bytes.{byte-below}
use Rattle.std.proofs.lemmas.Bool.{ne_eqb, eqb-true, or_from, or_parts}

-- ---- tools

pub bind_some : {A B : Type 0} (r : Option A) (f : A → Option B) (y : B) → (r >>= f) ≡ Some y → (x : A) × (r ≡ Some x) × (f x ≡ Some y)
bind_some None f y e = absurd cc
bind_some (Some x) f y e = (x, refl, e)

pub map_some : {A B : Type 0} (r : Option A) (f : A → B) (y : B) → option_map f r ≡ Some y → (x : A) × (r ≡ Some x) × (f x ≡ y)
map_some None f y e = absurd cc
map_some (Some x) f y e = (x, refl, same_Some _ _ e)

pub guard_passed : {A : Type 0} (b : Bool) (x : Option A) (y : A) → cond b None x ≡ Some y → (b ≡ false) × (x ≡ Some y)
guard_passed true x y e = absurd cc
guard_passed false x y e = (refl, e)

pub guard_held : {A : Type 0} (b : Bool) (x : Option A) (y : A) → cond b x None ≡ Some y → (b ≡ true) × (x ≡ Some y)
guard_held true x y e = (refl, e)
guard_held false x y e = absurd cc

-- a test chose the first or the second
data Chosen {A : Type 0} (b : Bool) (x y z : A) : Type 0 where
  first : b ≡ true → x ≡ z → Chosen b x y z
  second : b ≡ false → y ≡ z → Chosen b x y z

chosen : {A : Type 0} (b : Bool) (x y z : A) → cond b x y ≡ z → Chosen b x y z
chosen true x y z e = first refl e
chosen false x y z e = second refl e

-- what a reader took from the front
pub record Takes (bytes text rest : List ℕ) : Type 0 where
  pub parts : bytes ≡ text ++ rest
  pub rest_are : AreBytes rest

pub Takes-then : (a x b y c : List ℕ) → Takes a x b → Takes b y c → Takes a (x ++ y) c
Takes-then a x b y c p q = record { parts = p.parts ∙ ap (λ (t : List ℕ). x ++ t) q.parts ∙ sym (append_assoc x y c); rest_are = q.rest_are }

-- ---- numbers

pub number-again : (n x : ℕ) (rest : List ℕ) → x < 256 ^ n → number_from n (little_bytes n x ++ rest) ≡ Some (x, rest)
unfolding number_from number_at
number-again n x rest h =
    let long_enough : nat_lt (length (little_bytes n x ++ rest)) n ≡ false = (let e = length-append (little_bytes n x) rest in let k = length-bytes_low_first 0 n x in grind (arith, nat_tests)) in
    rw (long_enough, read_back n x rest h, drop_at (little_bytes n x) rest n (length-bytes_low_first 0 n x)) refl

pub number-takes : (n : ℕ) (bytes : List ℕ) (y : ℕ × List ℕ) → AreBytes bytes → number_from n bytes ≡ Some y → Takes bytes (little_bytes n y.0) y.1 × (y.0 < 256 ^ n)
unfolding number_from number_at
number-takes n bytes y all e =
    let g = guard_passed (nat_lt (length bytes) n) (Some (little_number n bytes, drop n bytes)) y e in
    let there : n ≤ length bytes = (let h = g.0 in grind (arith, nat_tests)) in
    let P : ℕ × List ℕ → Type 0 = λ z. Takes bytes (little_bytes n z.0) z.1 × (z.0 < 256 ^ n) in
    subst P (same_Some _ _ g.1) (
      record {
        parts = rw (bytes_of_number n bytes all there) (sym (take-append-drop n bytes));
        rest_are = All-drop (λ b. b < 256) n bytes all;
      },
      little_from-lt 0 n bytes (byte-below bytes all),
    )

-- ---- images

image_header-again : (image : ImageHeader) (rest : List ℕ) → IsImage image → image_header ((two_bytes image.length ++ (two_bytes image.hole_at ++ one_byte image.info)) ++ rest) ≡ Some (image, rest)
unfolding image_header
image_header-again image rest is =
    let regrouped : (two_bytes image.length ++ (two_bytes image.hole_at ++ one_byte image.info)) ++ rest ≡ two_bytes image.length ++ (two_bytes image.hole_at ++ (one_byte image.info ++ rest)) = simp append_assoc in
    ap image_header regrouped
    ∙ rw (number-again 2 image.length (two_bytes image.hole_at ++ (one_byte image.info ++ rest)) is.length_fits, number-again 2 image.hole_at (one_byte image.info ++ rest) is.hole_at_fits, number-again 1 image.info rest is.info_fits) refl

image_from-again : (flags : ℕ) (image : Option ImageHeader) (rest : List ℕ) → ImageAgrees flags image → image_from flags (image_text image ++ rest) ≡ Some (image, rest)
unfolding image_from image_at image_behind
image_from-again flags None rest agrees = rw agrees refl
image_from-again flags (Some image) rest agrees =
    rw (agrees.0, image_header-again image rest agrees.1, agrees.1.plain, agrees.1.page) refl

image_header-takes : (bytes : List ℕ) (y : ImageHeader × List ℕ) → AreBytes bytes → image_header bytes ≡ Some y
    → Takes bytes (image_text (Some y.0)) y.1 × (y.0.length < 2 ^ 16) × (y.0.hole_at < 2 ^ 16) × (y.0.info < 2 ^ 8)
unfolding image_header
image_header-takes bytes y all e =
    let a = bind_some (number_from 2 bytes) (λ length. number_from 2 length.1 >>= λ hole_at. number_from 1 hole_at.1 >>= λ info. Some (record { length = length.0; hole_at = hole_at.0; info = info.0 }, info.1)) y e in
    let b = bind_some (number_from 2 a.0.1) (λ hole_at. number_from 1 hole_at.1 >>= λ info. Some (record { length = a.0.0; hole_at = hole_at.0; info = info.0 }, info.1)) y a.2 in
    let d = bind_some (number_from 1 b.0.1) (λ info. Some (record { length = a.0.0; hole_at = b.0.0; info = info.0 }, info.1)) y b.2 in
    let t0 = number-takes 2 bytes a.0 all a.1 in
    let t1 = number-takes 2 a.0.1 b.0 t0.0.rest_are b.1 in
    let t2 = number-takes 1 b.0.1 d.0 t1.0.rest_are d.1 in
    let t12 = Takes-then a.0.1 (two_bytes b.0.0) b.0.1 (one_byte d.0.0) d.0.1 t1.0 t2.0 in
    let t02 = Takes-then bytes (two_bytes a.0.0) a.0.1 (two_bytes b.0.0 ++ one_byte d.0.0) d.0.1 t0.0 t12 in
    let made : ImageHeader × List ℕ = (record { length = a.0.0; hole_at = b.0.0; info = d.0.0 }, d.0.1) in
    let P : ImageHeader × List ℕ → Type 0 = λ z. Takes bytes (image_text (Some z.0)) z.1 × (z.0.length < 2 ^ 16) × (z.0.hole_at < 2 ^ 16) × (z.0.info < 2 ^ 8) in
    subst P (same_Some made y d.2) (t02, t0.1, t1.1, t2.1)

-- an image that is not compressed
image_at-takes : (bytes : List ℕ) (y : ImageHeader × List ℕ) → AreBytes bytes → image_at bytes ≡ Some y → is_compressed y.0 ≡ false → Takes bytes (image_text (Some y.0)) y.1 × IsImage y.0
unfolding image_at image_behind
image_at-takes bytes y all e plain =
    let a = bind_some (image_header bytes) (λ image. image_behind image.0 image.1) y e in
    let t = image_header-takes bytes a.0 all a.1 in
    let c = chosen (is_compressed a.0.0)
    (cond (has_hole a.0.0) (option_map (λ hole. (a.0.0, hole.1)) (number_from 2 a.0.1)) (Some (a.0.0, a.0.1)))
    (cond (fits_page a.0.0) (Some (a.0.0, a.0.1)) None) (Some y) a.2 in
    elim c [
      | first held x ↦ absurd (compressed-kept a.0.0 a.0.1 y held x plain)
      | second failed x ↦
          let g = guard_held (fits_page a.0.0) (Some (a.0.0, a.0.1)) y x in
          let P : ImageHeader × List ℕ → Type 0 = λ z. Takes bytes (image_text (Some z.0)) z.1 × IsImage z.0 in
          subst P (same_Some a.0 y g.1) (t.0, record { length_fits = t.1; hole_at_fits = t.2; info_fits = t.3; plain = failed; page = g.0 })
    ]
  where
    compressed-kept : (image : ImageHeader) (text : List ℕ) (z : ImageHeader × List ℕ) → is_compressed image ≡ true
        → cond (has_hole image) (option_map (λ hole. (image, hole.1)) (number_from 2 text)) (Some (image, text)) ≡ Some z → is_compressed z.0 ≡ false → ⊥
    compressed-kept image text z held x plain =
        let d = chosen (has_hole image) (option_map {U = ImageHeader × List ℕ} (λ hole. (image, hole.1)) (number_from 2 text)) (Some (image, text)) (Some z) x in
        elim d [
          | first h w ↦
              let m = map_some (number_from 2 text) (λ (hole : ℕ × List ℕ). (image, hole.1)) z w in
              let same : image ≡ z.0 = ap (λ (v : ImageHeader × List ℕ). v.0) m.2 in
              let again : is_compressed image ≡ is_compressed z.0 = ap is_compressed same in cc
          | second h w ↦
              let same : image ≡ z.0 = ap (λ (v : ImageHeader × List ℕ). v.0) (same_Some (image, text) z w) in
              let again : is_compressed image ≡ is_compressed z.0 = ap is_compressed same in cc
        ]

image_from-takes : (flags : ℕ) (bytes : List ℕ) (y : Option ImageHeader × List ℕ) → AreBytes bytes → image_from flags bytes ≡ Some y → any_compressed y.0 ≡ false
    → Takes bytes (image_text y.0) y.1 × ImageAgrees flags y.0
unfolding image_from
image_from-takes flags bytes y all e plain =
    elim (chosen (has_bits flags 16) (option_map {U = Option ImageHeader × List ℕ} (λ image. (Some image.0, image.1)) (image_at bytes)) (Some (None, bytes)) (Some y) e) [
      | first held x ↦
          let m = map_some (image_at bytes) (λ (image : ImageHeader × List ℕ). (Some image.0, image.1)) y x in
          let made : Option ImageHeader × List ℕ = (Some m.0.0, m.0.1) in
          let same : made ≡ y = m.2 in
          let Q : Option ImageHeader × List ℕ → Type 0 = λ z. any_compressed z.0 ≡ false in
          let t = image_at-takes bytes m.0 all m.1 (subst Q (sym same) plain) in
          let P : Option ImageHeader × List ℕ → Type 0 = λ z. Takes bytes (image_text z.0) z.1 × ImageAgrees flags z.0 in
          subst P same (t.0, (held, t.1))
      | second failed x ↦
          let P : Option ImageHeader × List ℕ → Type 0 = λ z. Takes bytes (image_text z.0) z.1 × ImageAgrees flags z.0 in
          let made : Option ImageHeader × List ℕ = (None, bytes) in
          subst P (same_Some made y x) (record { parts = refl; rest_are = all }, failed)
    ]

-- ---- relations

locator_at-again : (locator : Locator) (rest : List ℕ) → IsLocator locator → locator_at (locator_text locator ++ rest) ≡ Some (locator, rest)
unfolding locator_at
locator_at-again locator rest is =
    let regrouped : locator_text locator ++ rest ≡ four_bytes locator.space ++ (four_bytes locator.db ++ (four_bytes locator.rel ++ rest)) = simp append_assoc in
    ap locator_at regrouped
    ∙ rw (number-again 4 locator.space (four_bytes locator.db ++ (four_bytes locator.rel ++ rest)) is.space, number-again 4 locator.db (four_bytes locator.rel ++ rest) is.db, number-again 4 locator.rel rest is.rel) refl

locator_at-takes : (bytes : List ℕ) (y : Locator × List ℕ) → AreBytes bytes → locator_at bytes ≡ Some y → Takes bytes (locator_text y.0) y.1 × IsLocator y.0
unfolding locator_at
locator_at-takes bytes y all e =
    let a = bind_some (number_from 4 bytes) (λ space. number_from 4 space.1 >>= λ db. number_from 4 db.1 >>= λ rel. Some (record { space = space.0; db = db.0; rel = rel.0 }, rel.1)) y e in
    let b = bind_some (number_from 4 a.0.1) (λ db. number_from 4 db.1 >>= λ rel. Some (record { space = a.0.0; db = db.0; rel = rel.0 }, rel.1)) y a.2 in
    let d = bind_some (number_from 4 b.0.1) (λ rel. Some (record { space = a.0.0; db = b.0.0; rel = rel.0 }, rel.1)) y b.2 in
    let t0 = number-takes 4 bytes a.0 all a.1 in
    let t1 = number-takes 4 a.0.1 b.0 t0.0.rest_are b.1 in
    let t2 = number-takes 4 b.0.1 d.0 t1.0.rest_are d.1 in
    let t12 = Takes-then a.0.1 (four_bytes b.0.0) b.0.1 (four_bytes d.0.0) d.0.1 t1.0 t2.0 in
    let t02 = Takes-then bytes (four_bytes a.0.0) a.0.1 (four_bytes b.0.0 ++ four_bytes d.0.0) d.0.1 t0.0 t12 in
    let made : Locator × List ℕ = (record { space = a.0.0; db = b.0.0; rel = d.0.0 }, d.0.1) in
    let P : Locator × List ℕ → Type 0 = λ z. Takes bytes (locator_text z.0) z.1 × IsLocator z.0 in
    subst P (same_Some made y d.2) (t02, record { space = t0.1; db = t1.1; rel = t2.1 })

-- the relation of a block with these flags
abbrev pub relation_spelled : ℕ → Locator → List ℕ
relation_spelled flags locator = if has_bits flags 128 then [] else locator_text locator

abbrev pub RelationIs : Option Locator → ℕ → Locator → Type 0
RelationIs before flags locator = MatchBool (has_bits flags 128) (before ≡ Some locator) (IsLocator locator)

locator_from-again : (before : Option Locator) (flags : ℕ) (locator : Locator) (rest : List ℕ) → RelationIs before flags locator
    → locator_from before flags (relation_spelled flags locator ++ rest) ≡ Some (locator, rest)
unfolding locator_from
locator_from-again before flags locator rest is = by-flag (has_bits flags 128) is
  where
    by-flag : (b : Bool) → MatchBool b (before ≡ Some locator) (IsLocator locator)
        → cond b (option_map (λ l. (l, cond b [] (locator_text locator) ++ rest)) before) (locator_at (cond b [] (locator_text locator) ++ rest)) ≡ Some (locator, rest)
    by-flag true h = rw h refl
    by-flag false h = locator_at-again locator rest h

locator_from-takes : (before : Option Locator) (flags : ℕ) (bytes : List ℕ) (y : Locator × List ℕ) → AreBytes bytes → locator_from before flags bytes ≡ Some y
    → Takes bytes (relation_spelled flags y.0) y.1 × RelationIs before flags y.0
unfolding locator_from
locator_from-takes before flags bytes y all e = by-flag (has_bits flags 128) e
  where
    by-flag : (b : Bool) → cond b (option_map {U = Locator × List ℕ} (λ l. (l, bytes)) before) (locator_at bytes) ≡ Some y
        → Takes bytes (cond b [] (locator_text y.0)) y.1 × MatchBool b (before ≡ Some y.0) (IsLocator y.0)
    by-flag true h =
        let m = map_some before (λ (l : Locator). (l, bytes)) y h in
        let made : Locator × List ℕ = (m.0, bytes) in
        let P : Locator × List ℕ → Type 0 = λ z. Takes bytes [] z.1 × (before ≡ Some z.0) in
        let same : made ≡ y = m.2 in
        subst P same (record { parts = refl; rest_are = all }, m.1)
    by-flag false h = locator_at-takes bytes y all h

-- ---- blocks

flags_at-again : (flags size : ℕ) (rest : List ℕ) → flags < 2 ^ 8 → size < 2 ^ 16 → data_agrees flags size ≡ true → flags_at (one_byte flags ++ (two_bytes size ++ rest)) ≡ Some ((flags, size), rest)
unfolding flags_at
flags_at-again flags size rest f s agrees =
    rw (number-again 1 flags (two_bytes size ++ rest) f, number-again 2 size rest s, agrees) refl

flags_at-takes : (bytes : List ℕ) (y : (ℕ × ℕ) × List ℕ) → AreBytes bytes → flags_at bytes ≡ Some y
    → Takes bytes (one_byte y.0.0 ++ two_bytes y.0.1) y.1 × (y.0.0 < 2 ^ 8) × (y.0.1 < 2 ^ 16) × (data_agrees y.0.0 y.0.1 ≡ true)
unfolding flags_at
flags_at-takes bytes y all e =
    let a = bind_some (number_from 1 bytes) (λ flags. number_from 2 flags.1 >>= λ size. cond (data_agrees flags.0 size.0) (Some ((flags.0, size.0), size.1)) None) y e in
    let b = bind_some (number_from 2 a.0.1) (λ size. cond (data_agrees a.0.0 size.0) (Some ((a.0.0, size.0), size.1)) None) y a.2 in
    let made : (ℕ × ℕ) × List ℕ = ((a.0.0, b.0.0), b.0.1) in
    let g = guard_held (data_agrees a.0.0 b.0.0) (Some made) y b.2 in
    let t0 = number-takes 1 bytes a.0 all a.1 in
    let t1 = number-takes 2 a.0.1 b.0 t0.0.rest_are b.1 in
    let P : (ℕ × ℕ) × List ℕ → Type 0 = λ z. Takes bytes (one_byte z.0.0 ++ two_bytes z.0.1) z.1 × (z.0.0 < 2 ^ 8) × (z.0.1 < 2 ^ 16) × (data_agrees z.0.0 z.0.1 ≡ true) in
    subst P (same_Some made y g.1) (Takes-then bytes (one_byte a.0.0) a.0.1 (two_bytes b.0.0) b.0.1 t0.0 t1.0, t0.1, t1.1, g.0)

block_at-again : (seen : HeadersRead) (block : BlockHeader) (rest : List ℕ) → IsBlock seen block → block_at seen.locator block.id (block_text block ++ rest) ≡ Some (block, rest)
unfolding block_at
block_at-again seen block rest is =
    let image = image_text block.image in
    let relation = relation_spelled block.flags block.locator in
    let regrouped : block_text block ++ rest ≡ one_byte block.flags ++ (two_bytes block.data_length ++ (image ++ (relation ++ (four_bytes block.block ++ rest)))) = simp append_assoc in
    ap (block_at seen.locator block.id) regrouped
    ∙ rw (
      flags_at-again block.flags block.data_length (image ++ (relation ++ (four_bytes block.block ++ rest))) is.flags_fit is.size_fits is.size_agrees,
      image_from-again block.flags block.image (relation ++ (four_bytes block.block ++ rest)) is.image,
      locator_from-again seen.locator block.flags block.locator (four_bytes block.block ++ rest) is.relation,
      number-again 4 block.block rest is.block_fits,
    ) refl

-- the header of a block with an id, but for the tests of the id
record IsBody (before : Option Locator) (block : BlockHeader) : Type 0 where
  flags_fit : block.flags < 2 ^ 8
  size_fits : block.data_length < 2 ^ 16
  size_agrees : data_agrees block.flags block.data_length ≡ true
  image : ImageAgrees block.flags block.image
  relation : RelationAgrees before block
  block_fits : block.block < 2 ^ 32

block_at-takes : (before : Option Locator) (id : ℕ) (bytes : List ℕ) (y : BlockHeader × List ℕ) → AreBytes bytes → block_at before id bytes ≡ Some y → any_compressed y.0.image ≡ false
    → Takes bytes (block_text y.0) y.1 × IsBody before y.0 × (y.0.id ≡ id)
unfolding block_at
block_at-takes before id bytes y all e plain =
    let a = bind_some (flags_at bytes) (λ flags. image_from flags.0.0 flags.1 >>= λ image. locator_from before flags.0.0 image.1 >>= λ locator. number_from 4 locator.1 >>= λ block.
    Some (record { id = id; flags = flags.0.0; data_length = flags.0.1; image = image.0; locator = locator.0; block = block.0 }, block.1)) y e in
    let b = bind_some (image_from a.0.0.0 a.0.1) (λ image. locator_from before a.0.0.0 image.1 >>= λ locator. number_from 4 locator.1 >>= λ block.
    Some (record { id = id; flags = a.0.0.0; data_length = a.0.0.1; image = image.0; locator = locator.0; block = block.0 }, block.1)) y a.2 in
    let d = bind_some (locator_from before a.0.0.0 b.0.1) (λ locator. number_from 4 locator.1 >>= λ block.
    Some (record { id = id; flags = a.0.0.0; data_length = a.0.0.1; image = b.0.0; locator = locator.0; block = block.0 }, block.1)) y b.2 in
    let f = bind_some (number_from 4 d.0.1) (λ block.
    Some (record { id = id; flags = a.0.0.0; data_length = a.0.0.1; image = b.0.0; locator = d.0.0; block = block.0 }, block.1)) y d.2 in
    let header : BlockHeader = record { id = id; flags = a.0.0.0; data_length = a.0.0.1; image = b.0.0; locator = d.0.0; block = f.0.0 } in
    let made : BlockHeader × List ℕ = (header, f.0.1) in
    let same : made ≡ y = same_Some made y f.2 in
    let Q : BlockHeader × List ℕ → Type 0 = λ z. any_compressed z.0.image ≡ false in
    let t0 = flags_at-takes bytes a.0 all a.1 in
    let t1 = image_from-takes a.0.0.0 a.0.1 b.0 t0.0.rest_are b.1 (subst Q (sym same) plain) in
    let t2 = locator_from-takes before a.0.0.0 b.0.1 d.0 t1.0.rest_are d.1 in
    let t3 = number-takes 4 d.0.1 f.0 t2.0.rest_are f.1 in
    let t23 = Takes-then b.0.1 (relation_spelled a.0.0.0 d.0.0) d.0.1 (four_bytes f.0.0) f.0.1 t2.0 t3.0 in
    let t13 = Takes-then a.0.1 (image_text b.0.0) b.0.1 (relation_spelled a.0.0.0 d.0.0 ++ four_bytes f.0.0) f.0.1 t1.0 t23 in
    let t03 = Takes-then bytes (one_byte a.0.0.0 ++ two_bytes a.0.0.1) a.0.1 (image_text b.0.0 ++ (relation_spelled a.0.0.0 d.0.0 ++ four_bytes f.0.0)) f.0.1 t0.0 t13 in
    let grouped : (one_byte a.0.0.0 ++ two_bytes a.0.0.1) ++ (image_text b.0.0 ++ (relation_spelled a.0.0.0 d.0.0 ++ four_bytes f.0.0)) ≡ block_text header = append_assoc (one_byte a.0.0.0) (two_bytes a.0.0.1) _ in
    let whole : Takes bytes (block_text header) f.0.1 = (let R : List ℕ → Type 0 = λ text. Takes bytes text f.0.1 in subst R grouped t03) in
    let P : BlockHeader × List ℕ → Type 0 = λ z. Takes bytes (block_text z.0) z.1 × IsBody before z.0 × (z.0.id ≡ id) in
    subst P same (whole, record { flags_fit = t0.1; size_fits = t0.2; size_agrees = t0.3; image = t1.1; relation = t2.1; block_fits = t3.1 }, refl)

-- ---- parts

block_from-again : (seen : HeadersRead) (block : BlockHeader) (rest : List ℕ) → IsBlock seen block → block_from seen block.id (block_text block ++ rest) ≡ Some (part.Block block, rest)
unfolding block_from
block_from-again seen block rest is =
    let low : nat_lt block.id seen.least_id ≡ false = (let h = is.rising in grind (arith, nat_tests)) in
    let high : nat_lt 32 block.id ≡ false = (let h = is.id_fits in grind (arith, nat_tests)) in
    rw (or_from (nat_lt block.id seen.least_id) (nat_lt 32 block.id) low high, block_at-again seen block rest is) refl

part_from-block : (seen : HeadersRead) (id : ℕ) (text : List ℕ) → id ≤ 32 → part_from seen id text ≡ block_from seen id text
unfolding part_from
part_from-block seen id text h = rw (ne_eqb id 255 (λ e. omega arith), ne_eqb id 254 (λ e. omega arith), ne_eqb id 253 (λ e. omega arith), ne_eqb id 252 (λ e. omega arith)) refl

pub part_at-again : (seen : HeadersRead) (p : Part) (rest : List ℕ) → MayFollow seen p → part_at seen (part_text p ++ rest) ≡ Some (p, rest)
unfolding part_at part_text part_from
part_at-again seen (part.Block block) rest is =
    let fits = is.id_fits in
    ap (part_at seen) (append_assoc (one_byte block.id) (block_text block) rest)
    ∙ rw (number-again 1 block.id (block_text block ++ rest) (omega arith)) (part_from-block seen block.id (block_text block ++ rest) is.id_fits ∙ block_from-again seen block rest is)
part_at-again seen (part.Origin origin) rest is =
    ap (part_at seen) (append_assoc (one_byte 253) (two_bytes origin) rest)
    ∙ rw (number-again 1 253 (two_bytes origin ++ rest) (omega arith), number-again 2 origin rest is) refl
part_at-again seen (part.TopXid xid) rest is =
    ap (part_at seen) (append_assoc (one_byte 252) (four_bytes xid) rest)
    ∙ rw (number-again 1 252 (four_bytes xid ++ rest) (omega arith), number-again 4 xid rest is) refl
part_at-again seen (part.ShortMain size) rest is =
    ap (part_at seen) (append_assoc (one_byte 255) (one_byte size) rest)
    ∙ rw (number-again 1 255 (one_byte size ++ rest) (omega arith), number-again 1 size rest is) refl
part_at-again seen (part.LongMain size) rest is =
    ap (part_at seen) (append_assoc (one_byte 254) (four_bytes size) rest)
    ∙ rw (number-again 1 254 (four_bytes size ++ rest) (omega arith), number-again 4 size rest is) refl

-- the part has a compressed image
abbrev pub has_compressed : Part → Bool
has_compressed (part.Block block) = any_compressed block.image
has_compressed (part.Origin origin) = false
has_compressed (part.TopXid xid) = false
has_compressed (part.ShortMain size) = false
has_compressed (part.LongMain size) = false

-- a part behind its id
abbrev TakesPart : HeadersRead → ℕ → List ℕ → Part × List ℕ → Type 0
TakesPart seen id text y = Takes (one_byte id ++ text) (part_text y.0) y.1 × MayFollow seen y.0

with-id : (id : ℕ) (text spelling rest : List ℕ) → Takes text spelling rest → Takes (one_byte id ++ text) (one_byte id ++ spelling) rest
with-id id text spelling rest t = record { parts = ap (λ (x : List ℕ). one_byte id ++ x) t.parts ∙ sym (append_assoc (one_byte id) spelling rest); rest_are = t.rest_are }

block_from-takes : (seen : HeadersRead) (id : ℕ) (text : List ℕ) (y : Part × List ℕ) → AreBytes text → block_from seen id text ≡ Some y → has_compressed y.0 ≡ false → TakesPart seen id text y
unfolding block_from part_text
block_from-takes seen id text y all e plain =
    let g = guard_passed (nat_lt id seen.least_id || nat_lt 32 id) (option_map {U = Part × List ℕ} (λ block. (part.Block block.0, block.1)) (block_at seen.locator id text)) y e in
    let tests = or_parts (nat_lt id seen.least_id) (nat_lt 32 id) g.0 in
    let m = map_some (block_at seen.locator id text) (λ (block : BlockHeader × List ℕ). (part.Block block.0, block.1)) y g.1 in
    let made : Part × List ℕ = (part.Block m.0.0, m.0.1) in
    let same : made ≡ y = m.2 in
    let Q : Part × List ℕ → Type 0 = λ z. has_compressed z.0 ≡ false in
    let t = block_at-takes seen.locator id text m.0 all m.1 (subst Q (sym same) plain) in
    let low : seen.least_id ≤ m.0.0.id = (let h = tests.0 in let k = t.2 in rw k (grind (arith, nat_tests))) in
    let high : m.0.0.id ≤ 32 = (let h = tests.1 in let k = t.2 in rw k (grind (arith, nat_tests))) in
    let taken : Takes (one_byte id ++ text) (one_byte m.0.0.id ++ block_text m.0.0) m.0.1 = (let R : ℕ → Type 0 = λ i. Takes (one_byte id ++ text) (one_byte i ++ block_text m.0.0) m.0.1 in subst R (sym t.2) (with-id id text (block_text m.0.0) m.0.1 t.0)) in
    let P : Part × List ℕ → Type 0 = λ z. TakesPart seen id text z in
    subst P same (
      taken,
      record {
        rising = low;
        id_fits = high;
        flags_fit = t.1.flags_fit;
        size_fits = t.1.size_fits;
        size_agrees = t.1.size_agrees;
        image = t.1.image;
        relation = t.1.relation;
        block_fits = t.1.block_fits;
      },
    )

-- a part that is one number behind its id
number-part : (seen : HeadersRead) (n known : ℕ) (make : ℕ → Part) (id : ℕ) (text : List ℕ) (y : Part × List ℕ) → AreBytes text → (id == known) ≡ true
    → option_map {U = Part × List ℕ} (λ (x : ℕ × List ℕ). (make x.0, x.1)) (number_from n text) ≡ Some y
    → ((x : ℕ) → part_text (make x) ≡ one_byte known ++ little_bytes n x) → ((x : ℕ) → x < 256 ^ n → MayFollow seen (make x)) → TakesPart seen id text y
number-part seen n known make id text y all is e spelling follows =
    let m = map_some (number_from n text) (λ (x : ℕ × List ℕ). (make x.0, x.1)) y e in
    let t = number-takes n text m.0 all m.1 in
    let made : Part × List ℕ = (make m.0.0, m.0.1) in
    let same : made ≡ y = m.2 in
    let known_id : id ≡ known = eqb-true id known is in
    let taken : Takes (one_byte id ++ text) (part_text (make m.0.0)) m.0.1 = (let R : ℕ → Type 0 = λ i. Takes (one_byte i ++ text) (part_text (make m.0.0)) m.0.1 in
    subst R (sym known_id) (let S : List ℕ → Type 0 = λ w. Takes (one_byte known ++ text) w m.0.1 in subst S (sym (spelling m.0.0)) (with-id known text (little_bytes n m.0.0) m.0.1 t.0))) in
    let P : Part × List ℕ → Type 0 = λ z. TakesPart seen id text z in
    subst P same (taken, follows m.0.0 t.1)

part_from-takes : (seen : HeadersRead) (id : ℕ) (text : List ℕ) (y : Part × List ℕ) → AreBytes text → part_from seen id text ≡ Some y → has_compressed y.0 ≡ false → TakesPart seen id text y
unfolding part_from part_text
part_from-takes seen id text y all e plain =
    elim (chosen (id == 255) (option_map {U = Part × List ℕ} (λ x. (part.ShortMain x.0, x.1)) (number_from 1 text)) (or-long text) (Some y) e) [
      | first held x ↦ number-part seen 1 255 part.ShortMain id text y all held x (λ size. refl) (λ size h. h)
      | second f1 e1 ↦ elim (chosen (id == 254) (option_map {U = Part × List ℕ} (λ x. (part.LongMain x.0, x.1)) (number_from 4 text)) (or-origin text) (Some y) e1) [
        | first held x ↦ number-part seen 4 254 part.LongMain id text y all held x (λ size. refl) (λ size h. h)
        | second f2 e2 ↦ elim (chosen (id == 253) (option_map {U = Part × List ℕ} (λ x. (part.Origin x.0, x.1)) (number_from 2 text)) (or-top text) (Some y) e2) [
          | first held x ↦ number-part seen 2 253 part.Origin id text y all held x (λ origin. refl) (λ origin h. h)
          | second f3 e3 ↦ elim (chosen (id == 252) (option_map {U = Part × List ℕ} (λ x. (part.TopXid x.0, x.1)) (number_from 4 text)) (block_from seen id text) (Some y) e3) [
            | first held x ↦ number-part seen 4 252 part.TopXid id text y all held x (λ xid. refl) (λ xid h. h)
            | second f4 e4 ↦ block_from-takes seen id text y all e4 plain
          ]
        ]
      ]
    ]
  where
    or-top : List ℕ → Option (Part × List ℕ)
    or-top text = cond (id == 252) (option_map (λ x. (part.TopXid x.0, x.1)) (number_from 4 text)) (block_from seen id text)

    or-origin : List ℕ → Option (Part × List ℕ)
    or-origin text = cond (id == 253) (option_map (λ x. (part.Origin x.0, x.1)) (number_from 2 text)) (or-top text)

    or-long : List ℕ → Option (Part × List ℕ)
    or-long text = cond (id == 254) (option_map (λ x. (part.LongMain x.0, x.1)) (number_from 4 text)) (or-origin text)

pub part_at-takes : (seen : HeadersRead) (bytes : List ℕ) (y : Part × List ℕ) → AreBytes bytes → part_at seen bytes ≡ Some y → has_compressed y.0 ≡ false → Takes bytes (part_text y.0) y.1 × MayFollow seen y.0
unfolding part_at
part_at-takes seen bytes y all e plain =
    let a = bind_some (number_from 1 bytes) (λ id. part_from seen id.0 id.1) y e in
    let t0 = number-takes 1 bytes a.0 all a.1 in
    let t = part_from-takes seen a.0.0 a.0.1 y t0.0.rest_are a.2 plain in
    (record { parts = t0.0.parts ∙ t.0.parts; rest_are = t.0.rest_are }, t.1)
