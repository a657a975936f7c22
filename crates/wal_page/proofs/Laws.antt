-- What is read of a page's header and what is spelled are the same.
use Rattle.std.proofs.Common.{◌%◌, ◌-◌, ◌≡◌, ◌==◌, ℕ, ◌^◌, ◌<◌, ◌≤◌, Bool, true, false, List, [], ◌∷◌, ◌++◌, length, length-drop, append_assoc, drop, take, Option, Some, None, Ok, is_some, bit_and, if◌then◌else◌, refl, sym, ap, subst, ◌∙◌, arith, eq-eqb, not, inl, inr}
use Rattle.std.proofs.Math.Dec.{ltb}
use Rattle.std.proofs.lemmas.Bool.{eqb-true, leb-true, le-leb, ltb-true, lt-ltb, and_parts, and_from, or_right, cases_Bool}
use Rattle.std.proofs.lemmas.List.{drop-drop, take-append-drop, length-take}
use Rattle.byteorder.specs.Endian.{little_bytes, little_number}
use Rattle.pg_types.specs.Numbers.{number_at}
use Rattle.pg_types.specs.declared.names.Tli.{Tli}
use Rattle.wal_page.specs.declared.Expect.{Expect}
use Rattle.wal_page.specs.declared.PageHead.{PageHead}
use Rattle.pg_types.specs.Names.{is_segment_size}
use Rattle.wal_page.specs.Page.{magic_in, info_in, tli_in, address_in, rem_in, system_in, size_in, block_in, is_long_due, has_info, rules, head_in, page_header, long_text, header_with, HasInfo, Fits, IsExpectedAt, IsExpected, WrittenIsRead, ReadIsWritten}
use Rattle.pg_types.specs.Bytes.{AreBytes}
use Rattle.pg_types.proofs.SpelledNumbers.{spelled_at, read_back}
use Rattle.wal_page.proofs.Rules.{AllKept, kept-passes, passes-kept}
use Rattle.pg_types.proofs.Bytes.{number-fits}

-- the fields of a spelled header
record FrontIsRead (text : List ℕ) (head : PageHead) : Type 0 where
  magic : magic_in text ≡ 0xD113
  info : info_in text ≡ head.info
  tli : tli_in text ≡ head.tli.0
  address : address_in text ≡ head.at.0
  rem : rem_in text ≡ head.rem
  len : 24 ≤ length text

front_is_read : (head : PageHead) (a b c d : ℕ) (rest : List ℕ) → Fits head
    → FrontIsRead (header_with (a ∷ b ∷ c ∷ d ∷ []) head ++ rest) head
unfolding header_with number_at
front_is_read head a b c d rest fits =
    let text = header_with (a ∷ b ∷ c ∷ d ∷ []) head ++ rest in
    record {
      magic = refl;
      info = read_back 2 head.info (drop 4 text) (let h = fits.info.0 in omega arith);
      tli = read_back 4 head.tli.0 (drop 8 text) fits.tli;
      address = read_back 8 head.at.0 (drop 16 text) fits.at;
      rem = read_back 4 head.rem (drop 20 text) fits.rem;
      len = omega arith;
    }

-- the fields of a long header
abbrev LongIsRead : List ℕ → Option (ℕ × ℕ) → Type 0
LongIsRead text None = Unit {0}
LongIsRead text (Some sizes) =
    (system_in text ≡ sizes.0) × (size_in text ≡ sizes.1) × (block_in text ≡ 8192) × (40 ≤ length text)

-- where the text behind 24 bytes begins with the further fields of a long header, they are read
long_is_read : (text rest : List ℕ) (sizes : ℕ × ℕ) → drop 24 text ≡ long_text (Some sizes) ++ rest
    → sizes.0 < 2 ^ 64 → sizes.1 < 2 ^ 32 → LongIsRead text (Some sizes)
unfolding long_text number_at
long_is_read text rest sizes e h k =
    let back = long_text (Some sizes) ++ rest in
    let d : drop 32 text ≡ drop 8 back = sym (drop-drop 8 24 text) ∙ ap (drop 8) e in
    let f : drop 36 text ≡ drop 12 back = sym (drop-drop 12 24 text) ∙ ap (drop 12) e in (
      ap (little_number 8) e ∙ read_back 8 sizes.0 (drop 8 back) h,
      ap (little_number 4) d ∙ read_back 4 sizes.1 (drop 12 back) k,
      ap (little_number 4) f ∙ read_back 4 8192 (drop 16 back) (omega arith),
      omega (arith, ap length e, length-drop 24 text),
    )

-- the info bits of a header pass
info_kept : (text : List ℕ) (head : PageHead) (long : Bool) → info_in text ≡ head.info → is_some head.long ≡ long → HasInfo head → has_info text long ≡ true
info_kept text head long i l info =
    let bit : bit_and head.info 2 ≡ (if long then 2 else 0) = info.1 ∙ ap (λ (b : Bool). if b then 2 else 0) l in
    rw i (and_from (ltb head.info 16) (bit_and head.info 2 == (if long then 2 else 0)) (lt-ltb head.info 16 info.0) (eq-eqb (bit_and head.info 2) (if long then 2 else 0) bit))

-- the rules hold of a long header while the sizes are unknown
kept_unknown : (text : List ℕ) (head : PageHead) (at : ℕ) (tli : Tli) (sizes : ℕ × ℕ) → FrontIsRead text head → LongIsRead text (Some sizes)
    → HasInfo head → head.long ≡ Some sizes → head.tli.0 ≡ tli.0
    → is_segment_size sizes.1 ≡ true → head.at.0 ≡ at - at % sizes.1
    → AllKept (rules text at (record { known = None; tli = tli }))
kept_unknown text head at tli sizes front long info e t allowed place =
    let address : address_in text ≡ at - at % size_in text = front.address ∙ place ∙ ap (λ (s : ℕ). at - at % s) (sym long.1) in
    let size : is_segment_size (size_in text) ≡ true = ap is_segment_size long.1 ∙ allowed in (
      le-leb 40 (length text) long.3,
      (
        eq-eqb (magic_in text) 0xD113 front.magic,
        (
          info_kept text head true front.info (ap is_some e) info,
          (
            or_right (not (is_segment_size (size_in text))) (address_in text == at - at % size_in text) (eq-eqb (address_in text) (at - at % size_in text) address),
            (
              or_right (not (is_segment_size (size_in text))) (tli_in text == tli.0) (eq-eqb (tli_in text) tli.0 (front.tli ∙ t)),
              (
                refl,
                (
                  and_from (is_segment_size (size_in text)) (block_in text == 8192) size (eq-eqb (block_in text) 8192 long.2),
                  tt,
                ),
              ),
            ),
          ),
        ),
      ),
    )

-- and where they are known, on a segment's first page
kept_first : (text : List ℕ) (head : PageHead) (at : ℕ) (tli : Tli) (known : ℕ × ℕ) → FrontIsRead text head → LongIsRead text (Some known)
    → HasInfo head → head.long ≡ Some known → head.tli.0 ≡ tli.0
    → (at % known.1 == 0) ≡ true → head.at.0 ≡ at
    → AllKept (rules text at (record { known = Some known; tli = tli }))
kept_first text head at tli known front long info e t first place =
    rw first (
      le-leb 40 (length text) long.3,
      (
        eq-eqb (magic_in text) 0xD113 front.magic,
        (
          info_kept text head true front.info (ap is_some e) info,
          (
            eq-eqb (address_in text) at (front.address ∙ place),
            (
              eq-eqb (tli_in text) tli.0 (front.tli ∙ t),
              (
                eq-eqb (system_in text) known.0 long.0,
                (
                  and_from (size_in text == known.1) (block_in text == 8192) (eq-eqb (size_in text) known.1 long.1) (eq-eqb (block_in text) 8192 long.2),
                  tt,
                ),
              ),
            ),
          ),
        ),
      ),
    )

-- and on another page
kept_later : (text : List ℕ) (head : PageHead) (at : ℕ) (tli : Tli) (known : ℕ × ℕ) → FrontIsRead text head
    → HasInfo head → head.long ≡ None → head.tli.0 ≡ tli.0
    → (at % known.1 == 0) ≡ false → head.at.0 ≡ at
    → AllKept (rules text at (record { known = Some known; tli = tli }))
kept_later text head at tli known front info e t later place =
    rw later (
      le-leb 24 (length text) front.len,
      (
        eq-eqb (magic_in text) 0xD113 front.magic,
        (
          info_kept text head false front.info (ap is_some e) info,
          (
            eq-eqb (address_in text) at (front.address ∙ place),
            (
              eq-eqb (tli_in text) tli.0 (front.tli ∙ t),
              (refl, (refl, tt)),
            ),
          ),
        ),
      ),
    )

-- what a header's bytes say, where its fields are read
head_is_read : (text : List ℕ) (head : PageHead) (long : Bool) → FrontIsRead text head → (if long then Some (system_in text, size_in text) else None) ≡ head.long → head_in text long ≡ head
head_is_read text head long front e = rw (front.info, front.tli, front.address, front.rem, e) refl

-- each kind of place
read_unknown : (text : List ℕ) (head : PageHead) (at : ℕ) (tli : Tli) (sizes : ℕ × ℕ) → FrontIsRead text head → LongIsRead text (Some sizes)
    → HasInfo head → head.long ≡ Some sizes → head.tli.0 ≡ tli.0
    → is_segment_size sizes.1 ≡ true → head.at.0 ≡ at - at % sizes.1
    → page_header text at (record { known = None; tli = tli }) ≡ Ok head
unfolding page_header
read_unknown text head at tli sizes front long info e t allowed place =
    let expect : Expect = record { known = None; tli = tli } in
    let same : head_in text true ≡ head = head_is_read text head true front (rw (long.0, long.1) (sym e)) in
    kept-passes (rules text at expect) (head_in text true) (kept_unknown text head at tli sizes front long info e t allowed place) ∙ ap Ok same

read_first : (text : List ℕ) (head : PageHead) (at : ℕ) (tli : Tli) (known : ℕ × ℕ) → FrontIsRead text head → LongIsRead text (Some known)
    → HasInfo head → head.long ≡ Some known → head.tli.0 ≡ tli.0
    → (at % known.1 == 0) ≡ true → head.at.0 ≡ at
    → page_header text at (record { known = Some known; tli = tli }) ≡ Ok head
unfolding page_header
read_first text head at tli known front long info e t first place =
    let expect : Expect = record { known = Some known; tli = tli } in
    let same : head_in text (at % known.1 == 0) ≡ head = head_is_read text head (at % known.1 == 0) front (rw (first, long.0, long.1) (sym e)) in
    kept-passes (rules text at expect) (head_in text (at % known.1 == 0)) (kept_first text head at tli known front long info e t first place) ∙ ap Ok same

read_later : (text : List ℕ) (head : PageHead) (at : ℕ) (tli : Tli) (known : ℕ × ℕ) → FrontIsRead text head
    → HasInfo head → head.long ≡ None → head.tli.0 ≡ tli.0
    → (at % known.1 == 0) ≡ false → head.at.0 ≡ at
    → page_header text at (record { known = Some known; tli = tli }) ≡ Ok head
unfolding page_header
read_later text head at tli known front info e t later place =
    let expect : Expect = record { known = Some known; tli = tli } in
    let same : head_in text (at % known.1 == 0) ≡ head = head_is_read text head (at % known.1 == 0) front (rw later (sym e)) in
    kept-passes (rules text at expect) (head_in text (at % known.1 == 0)) (kept_later text head at tli known front info e t later place) ∙ ap Ok same

-- the further fields stand behind 24 bytes
behind_front : (head : PageHead) (a b c d : ℕ) (rest : List ℕ) (sizes : ℕ × ℕ) → head.long ≡ Some sizes → Fits head
    → LongIsRead (header_with (a ∷ b ∷ c ∷ d ∷ []) head ++ rest) (Some sizes)
unfolding header_with
behind_front head a b c d rest sizes e fits =
    let stands : drop 24 (header_with (a ∷ b ∷ c ∷ d ∷ []) head ++ rest) ≡ long_text (Some sizes) ++ rest = ap (λ (l : Option (ℕ × ℕ)). long_text l ++ rest) e in
    long_is_read (header_with (a ∷ b ∷ c ∷ d ∷ []) head ++ rest) rest sizes stands (fits.system sizes e) (fits.size sizes e)

read_spelled : (head : PageHead) (at : ℕ) (known : Option (ℕ × ℕ)) (tli : Tli) (long : Option (ℕ × ℕ)) (a b c d : ℕ) (rest : List ℕ)
    → head.long ≡ long → Fits head → head.tli.0 ≡ tli.0 → IsExpectedAt head at known
    → page_header (header_with (a ∷ b ∷ c ∷ d ∷ []) head ++ rest) at (record { known = known; tli = tli }) ≡ Ok head
read_spelled head at None tli None a b c d rest e fits t place = absurd (rw e at place)
read_spelled head at None tli (Some sizes) a b c d rest e fits t place =
    let p = rw e at place in
    let text = header_with (a ∷ b ∷ c ∷ d ∷ []) head ++ rest in
    read_unknown text head at tli sizes (front_is_read head a b c d rest fits) (behind_front head a b c d rest sizes e fits) fits.info e t p.0 p.1
read_spelled head at (Some known) tli long a b c d rest e fits t place =
    let text = header_with (a ∷ b ∷ c ∷ d ∷ []) head ++ rest in
    let front = front_is_read head a b c d rest fits in
    elim (cases_Bool (at % known.1 == 0)) [
      | inl first ↦
          let l : head.long ≡ Some known = rw first at place.1 in
          read_first text head at tli known front (behind_front head a b c d rest known l fits) fits.info l t first place.0
      | inr later ↦
          let l : head.long ≡ None = rw later at place.1 in
          read_later text head at tli known front fits.info l t later place.0
    ]

pub written_is_read_lem : WrittenIsRead
written_is_read_lem head at expect (a ∷ b ∷ c ∷ d ∷ []) rest expected n =
    read_spelled head at expect.known expect.tli head.long a b c d rest refl expected.fits expected.tli expected.place
written_is_read_lem head at expect padding rest expected n = absurd (omega arith)

-- The other way.

-- the text is that of its fields
front_spelled : (bytes : List ℕ) (long : Option (ℕ × ℕ)) (rest : List ℕ) → AreBytes bytes → 24 ≤ length bytes → magic_in bytes ≡ 0xD113
    → drop 24 bytes ≡ long_text long ++ rest
    → bytes ≡ header_with (take 4 (drop 20 bytes)) (record { info = info_in bytes; tli = record { 0 = tli_in bytes }; at = record { 0 = address_in bytes }; rem = rem_in bytes; long = long }) ++ rest
unfolding header_with
front_spelled bytes long rest all len magic behind =
    let padding = take 4 (drop 20 bytes) in
    let split : drop 20 bytes ≡ padding ++ drop 24 bytes = sym (take-append-drop 4 (drop 20 bytes)) ∙ ap (λ (r : List ℕ). padding ++ r) (drop-drop 4 20 bytes) in
    let later : padding ++ drop 24 bytes ≡ (padding ++ long_text long) ++ rest = ap (λ (r : List ℕ). padding ++ r) behind ∙ sym (append_assoc padding (long_text long) rest) in
    let r = spelled_at 4 bytes 16 all (omega arith) ∙ ap (λ (r : List ℕ). little_bytes 4 (rem_in bytes) ++ r) (split ∙ later) in
    let a = spelled_at 8 bytes 8 all (omega arith) ∙ ap (λ (r : List ℕ). little_bytes 8 (address_in bytes) ++ r) r in
    let t = spelled_at 4 bytes 4 all (omega arith) ∙ ap (λ (r : List ℕ). little_bytes 4 (tli_in bytes) ++ r) a in
    let i = spelled_at 2 bytes 2 all (omega arith) ∙ ap (λ (r : List ℕ). little_bytes 2 (info_in bytes) ++ r) t in
    let m = spelled_at 2 bytes 0 all (omega arith) ∙ ap (λ (r : List ℕ). little_bytes 2 (magic_in bytes) ++ r) i in
    rw magic at m

-- the further fields of a long header are spelled
long_spelled : (bytes : List ℕ) → AreBytes bytes → 40 ≤ length bytes → block_in bytes ≡ 8192
    → drop 24 bytes ≡ long_text (Some (system_in bytes, size_in bytes)) ++ drop 40 bytes
unfolding long_text
long_spelled bytes all len block =
    let b = spelled_at 4 bytes 36 all len in
    let b' = rw block at b in
    let z = spelled_at 4 bytes 32 all (omega arith) ∙ ap (λ (r : List ℕ). little_bytes 4 (size_in bytes) ++ r) b' in
    spelled_at 8 bytes 24 all (omega arith) ∙ ap (λ (r : List ℕ). little_bytes 8 (system_in bytes) ++ r) z

-- a header that is read fits and is spelled
abbrev Spells : List ℕ → ℕ → Expect → PageHead → Type 0
Spells bytes at expect head =
    IsExpected head at expect × ((padding : List ℕ) × (rest : List ℕ) × (length padding ≡ 4) × (bytes ≡ header_with padding head ++ rest))

info_found : (bytes : List ℕ) (long : Bool) → has_info bytes long ≡ true → (info_in bytes < 16) × (bit_and (info_in bytes) 2 ≡ (if long then 2 else 0))
info_found bytes long kept =
    let parts = and_parts (ltb (info_in bytes) 16) (bit_and (info_in bytes) 2 == (if long then 2 else 0)) kept in
    (ltb-true (info_in bytes) 16 parts.0, eqb-true (bit_and (info_in bytes) 2) (if long then 2 else 0) parts.1)

some_same : (p q : ℕ × ℕ) → Some p ≡ Some q → p ≡ q
some_same p q e = cc

fits_found : (bytes : List ℕ) (long : Bool) → AreBytes bytes → has_info bytes long ≡ true → Fits (head_in bytes long)
fits_found bytes true all kept = record {
  tli = number-fits 4 bytes 4 all;
  at = number-fits 8 bytes 8 all;
  rem = number-fits 4 bytes 16 all;
  system = λ sizes e. subst (λ (s : ℕ × ℕ). s.0 < 2 ^ 64) (some_same (system_in bytes, size_in bytes) sizes e) (number-fits 8 bytes 24 all);
  size = λ sizes e. subst (λ (s : ℕ × ℕ). s.1 < 2 ^ 32) (some_same (system_in bytes, size_in bytes) sizes e) (number-fits 4 bytes 32 all);
  info = info_found bytes true kept;
}
fits_found bytes false all kept = record {
  tli = number-fits 4 bytes 4 all;
  at = number-fits 8 bytes 8 all;
  rem = number-fits 4 bytes 16 all;
  system = λ sizes e. cc;
  size = λ sizes e. cc;
  info = info_found bytes false kept;
}

padding_length : (bytes : List ℕ) → 24 ≤ length bytes → length (take 4 (drop 20 bytes)) ≡ 4
padding_length bytes len = simp (length-take, length-drop) (omega arith)

found_unknown : (bytes : List ℕ) (at : ℕ) (tli : Tli) → AreBytes bytes → AllKept (rules bytes at (record { known = None; tli = tli }))
    → Spells bytes at (record { known = None; tli = tli }) (head_in bytes true)
found_unknown bytes at tli all kept =
    let len = leb-true 40 (length bytes) kept.0 in
    let magic = eqb-true (magic_in bytes) 0xD113 kept.1.0 in
    let sizes = and_parts (is_segment_size (size_in bytes)) (block_in bytes == 8192) kept.1.1.1.1.1.1.0 in
    let address = rw sizes.0 at kept.1.1.1.0 in
    let timeline = rw sizes.0 at kept.1.1.1.1.0 in (
      record {
        fits = fits_found bytes true all kept.1.1.0;
        tli = eqb-true (tli_in bytes) tli.0 timeline;
        place = (sizes.0, eqb-true (address_in bytes) (at - at % size_in bytes) address);
      },
      (
        take 4 (drop 20 bytes),
        drop 40 bytes,
        padding_length bytes (omega arith),
        front_spelled bytes (Some (system_in bytes, size_in bytes)) (drop 40 bytes) all (omega arith) magic (long_spelled bytes all len (eqb-true (block_in bytes) 8192 sizes.1)),
      ),
    )

found_first : (bytes : List ℕ) (at : ℕ) (tli : Tli) (known : ℕ × ℕ) → AreBytes bytes → (at % known.1 == 0) ≡ true
    → AllKept (rules bytes at (record { known = Some known; tli = tli }))
    → Spells bytes at (record { known = Some known; tli = tli }) (head_in bytes true)
found_first bytes at tli known all first broken =
    let kept = rw first at broken in
    let len = leb-true 40 (length bytes) kept.0 in
    let magic = eqb-true (magic_in bytes) 0xD113 kept.1.0 in
    let sizes = and_parts (size_in bytes == known.1) (block_in bytes == 8192) kept.1.1.1.1.1.1.0 in
    let system = eqb-true (system_in bytes) known.0 kept.1.1.1.1.1.0 in
    let size = eqb-true (size_in bytes) known.1 sizes.0 in (
      record {
        fits = fits_found bytes true all kept.1.1.0;
        tli = eqb-true (tli_in bytes) tli.0 kept.1.1.1.1.0;
        place = (eqb-true (address_in bytes) at kept.1.1.1.0, rw (first, system, size) refl);
      },
      (
        take 4 (drop 20 bytes),
        drop 40 bytes,
        padding_length bytes (omega arith),
        front_spelled bytes (Some (system_in bytes, size_in bytes)) (drop 40 bytes) all (omega arith) magic (long_spelled bytes all len (eqb-true (block_in bytes) 8192 sizes.1)),
      ),
    )

found_later : (bytes : List ℕ) (at : ℕ) (tli : Tli) (known : ℕ × ℕ) → AreBytes bytes → (at % known.1 == 0) ≡ false
    → AllKept (rules bytes at (record { known = Some known; tli = tli }))
    → Spells bytes at (record { known = Some known; tli = tli }) (head_in bytes false)
unfolding long_text
found_later bytes at tli known all later broken =
    let kept = rw later at broken in
    let len = leb-true 24 (length bytes) kept.0 in
    let magic = eqb-true (magic_in bytes) 0xD113 kept.1.0 in (
      record {
        fits = fits_found bytes false all kept.1.1.0;
        tli = eqb-true (tli_in bytes) tli.0 kept.1.1.1.1.0;
        place = (eqb-true (address_in bytes) at kept.1.1.1.0, rw later refl);
      },
      (
        take 4 (drop 20 bytes),
        drop 24 bytes,
        padding_length bytes len,
        front_spelled bytes None (drop 24 bytes) all len magic refl,
      ),
    )

found : (bytes : List ℕ) (at : ℕ) (known : Option (ℕ × ℕ)) (tli : Tli) → AreBytes bytes
    → AllKept (rules bytes at (record { known = known; tli = tli }))
    → Spells bytes at (record { known = known; tli = tli }) (head_in bytes (is_long_due known at))
found bytes at None tli all kept = found_unknown bytes at tli all kept
found bytes at (Some known) tli all kept = elim (cases_Bool (at % known.1 == 0)) [
  | inl first ↦ rw first (found_first bytes at tli known all first kept)
  | inr later ↦ rw later (found_later bytes at tli known all later kept)
]

pub read_is_written_lem : ReadIsWritten
unfolding page_header
read_is_written_lem bytes at expect head all e =
    let passed = passes-kept (rules bytes at expect) (head_in bytes (is_long_due expect.known at)) head e in
    subst (λ (h : PageHead). Spells bytes at expect h) passed.1 (found bytes at expect.known expect.tli all passed.0)
