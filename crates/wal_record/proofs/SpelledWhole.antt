-- The two laws of a record and its spelling.
use Rattle.std.proofs.Common.{◌≡◌, ℕ, ◌<◌, ◌≤◌, true, false, not, cond, nat_lt, List, ◌++◌, length, take, drop, slice_index, Result, Ok, Err, refl, sym, ap, ◌∙◌, arith, length-drop, ◌==◌}
use Rattle.std.specs.List.{flat_map}
use Rattle.std.proofs.lemmas.List.Elements.{All-drop}
use Rattle.byteorder.specs.Endian.{little_bytes}
use Rattle.pg_crc32c.specs.Crc32c.{crc32c_of}
use Rattle.pg_types.specs.Numbers.{number_at}
use Rattle.wal_record.specs.declared.types.RecordHead.{RecordHead}
use Rattle.wal_record.specs.declared.types.PrevRule.{PrevRule}
use Rattle.wal_record.specs.declared.types.RecordFault.{RecordFault}
use Rattle.wal_record.specs.declared.types.RecordFault.TheVariants.{Zero, Short, Manager, Prev, TooLong, Crc, Layout}
use Rattle.wal_record.specs.Record.{Record}
use Rattle.wal_record.specs.Parts.{start, seen_after}
use Rattle.wal_record.specs.Decoded.{◌>>=◌, total_at, fields_of, is_unknown_manager, may_link, tested, head_of, has_right_crc, laid_out, whole, decoded, blocks_of}
use Rattle.pg_types.specs.Bytes.{AreBytes}
use Rattle.wal_record.specs.Spelling.{one_byte, two_bytes, four_bytes, part_text, Spelling, IsSpelling, behind_header, total_of, front_of, before_crc, spelled, record_of, SpelledIsRead, ReadIsSpelled}
use Rattle.wal_record.proofs.SpelledHeader.{text_of, HeaderIs, header-again, header-takes}
use Rattle.wal_record.proofs.SpelledRecord.{laid_out-again, Laid, laid_out-takes, guard_ok}
use Rattle.wal_record.proofs.CrcFits.{crc-fits, parts-bytes}
use Rattle.pg_types.proofs.Bytes.{both-bytes, byte-below, number-bytes, number-fits}
use Rattle.std.proofs.lemmas.Bool.{le-ltb, ltb-false, eq-eqb, ne_eqb, eqb-true, not-false}

-- ---- what is spelled is read

total_at-again : (text : List ℕ) (total : ℕ) → number_at 4 text 0 ≡ total → 24 ≤ total → 4 ≤ length text → total_at text ≡ Ok total
unfolding total_at
total_at-again text total e h long_enough =
    rw (le-ltb (length text) 4 long_enough, e, ne_eqb total 0 (λ z. omega arith), le-ltb total 24 h) refl

head_of-again : (text : List ℕ) (at : ℕ) (rule : PrevRule) (total xid prev info manager padding crc : ℕ) (behind : List ℕ) → HeaderIs text total xid prev info manager padding crc behind
    → 24 ≤ total → total ≤ 67108864 → is_unknown_manager manager ≡ false → may_link rule at prev ≡ true
    → head_of text at rule ≡ Ok (record { total = total; xid = record { 0 = xid }; prev = record { 0 = prev }; info = info; manager = manager })
unfolding head_of fields_of tested
head_of-again text at rule total xid prev info manager padding crc behind h low high known link =
    let long_enough = h.long_enough in
    rw (total_at-again text total h.total_is low (omega arith), le-ltb (length text) 18 (omega arith), h.total_is, h.xid_is, h.prev_is, h.info_is, h.manager_is, known, link, le-ltb 67108864 total high) refl

decoded-again : (text : List ℕ) (at : ℕ) (rule : PrevRule) (head : RecordHead) (front behind : List ℕ) → head_of text at rule ≡ Ok head → length text ≡ head.total
    → take 20 text ≡ front → drop 24 text ≡ behind → number_at 4 text 20 ≡ crc32c_of (behind ++ front) → decoded text at rule ≡ laid_out head behind
unfolding decoded whole
decoded-again text at rule head front behind h long_enough f b crc =
    rw (h, eq-eqb (length text) head.total long_enough, b, f, eq-eqb (number_at 4 text 20) (crc32c_of (behind ++ front)) crc) refl

pub is_read : SpelledIsRead
unfolding spelled
is_read s at rule is link =
    let crc = crc32c_of (behind_header s ++ before_crc s) in
    let total_fits = is.total_fits in
    let behind_are : AreBytes (behind_header s) = both-bytes (flat_map part_text s.parts) s.payloads (parts-bytes s.parts) is.bytes in
    let front_are : AreBytes (before_crc s) = both-bytes (four_bytes (total_of s)) (four_bytes s.xid ++ (little_bytes 8 s.prev ++ (one_byte s.info ++ (one_byte s.manager ++ two_bytes s.padding)))) (number-bytes 4 (total_of s))
    (both-bytes (four_bytes s.xid) (little_bytes 8 s.prev ++ (one_byte s.info ++ (one_byte s.manager ++ two_bytes s.padding))) (number-bytes 4 s.xid)
    (both-bytes (little_bytes 8 s.prev) (one_byte s.info ++ (one_byte s.manager ++ two_bytes s.padding)) (number-bytes 8 s.prev)
    (both-bytes (one_byte s.info) (one_byte s.manager ++ two_bytes s.padding) (number-bytes 1 s.info)
    (both-bytes (one_byte s.manager) (two_bytes s.padding) (number-bytes 1 s.manager) (number-bytes 2 s.padding))))) in
    let h = header-again (total_of s) s.xid s.prev s.info s.manager s.padding crc (behind_header s) (omega arith) is.xid_fits is.prev_fits is.info_fits is.manager_fits is.padding_fits
    (crc-fits (behind_header s ++ before_crc s) (both-bytes (behind_header s) (before_crc s) behind_are front_are)) in
    let text = text_of (total_of s) s.xid s.prev s.info s.manager s.padding crc (behind_header s) in
    let head : RecordHead = record { total = total_of s; xid = record { 0 = s.xid }; prev = record { 0 = s.prev }; info = s.info; manager = s.manager } in
    decoded-again text at rule head (before_crc s) (behind_header s)
    (head_of-again text at rule (total_of s) s.xid s.prev s.info s.manager s.padding crc (behind_header s) h (omega arith) is.total_fits is.known link)
    h.long_enough h.front_is h.behind_is h.crc_is
    ∙ laid_out-again head s.parts s.payloads is.parted is.filled

-- ---- what is read is spelled

bind_ok : {A B : Type 0} (r : Result A RecordFault) (f : A → Result B RecordFault) (y : B) → (r >>= f) ≡ Ok y → (x : A) × (r ≡ Ok x) × (f x ≡ Ok y)
bind_ok (Ok x) f y e = (x, refl, e)
bind_ok (Err fault) f y e = absurd (cc)

-- the tests of a header held
record IsTested (bytes : List ℕ) (at : ℕ) (rule : PrevRule) (head : RecordHead) : Type 0 where
  low : 24 ≤ number_at 4 bytes 0
  known : is_unknown_manager (slice_index bytes 17) ≡ false
  link : may_link rule at (number_at 8 bytes 8) ≡ true
  high : number_at 4 bytes 0 ≤ 67108864
  is : head ≡ record { total = number_at 4 bytes 0; xid = record { 0 = number_at 4 bytes 4 }; prev = record { 0 = number_at 8 bytes 8 }; info = slice_index bytes 16; manager = slice_index bytes 17 }

total_at-takes : (bytes : List ℕ) (total : ℕ) → total_at bytes ≡ Ok total → 24 ≤ number_at 4 bytes 0
unfolding total_at
total_at-takes bytes total e =
    let a = guard_ok (nat_lt (length bytes) 4) Layout (cond (number_at 4 bytes 0 == 0) (Err Zero) (cond (nat_lt (number_at 4 bytes 0) 24) (Err Short) (Ok (number_at 4 bytes 0)))) total e in
    let b = guard_ok (number_at 4 bytes 0 == 0) Zero (cond (nat_lt (number_at 4 bytes 0) 24) (Err Short) (Ok (number_at 4 bytes 0))) total a.1 in
    let c = guard_ok (nat_lt (number_at 4 bytes 0) 24) Short (Ok (number_at 4 bytes 0)) total b.1 in
    ltb-false (number_at 4 bytes 0) 24 c.0

same_head : (x y : RecordHead) → ◌≡◌ {A = Result RecordHead RecordFault} (Ok x) (Ok y) → x ≡ y
same_head x y e = cc

head_of-takes : (bytes : List ℕ) (at : ℕ) (rule : PrevRule) (head : RecordHead) → head_of bytes at rule ≡ Ok head → IsTested bytes at rule head
unfolding head_of fields_of tested
head_of-takes bytes at rule head e =
    let found : RecordHead = record { total = number_at 4 bytes 0; xid = record { 0 = number_at 4 bytes 4 }; prev = record { 0 = number_at 8 bytes 8 }; info = slice_index bytes 16; manager = slice_index bytes 17 } in
    let a = bind_ok (total_at bytes) (λ total. cond (nat_lt (length bytes) 18) (Err Layout) (tested (fields_of bytes) at rule)) head e in
    let b = guard_ok (nat_lt (length bytes) 18) Layout (tested (fields_of bytes) at rule) head a.2 in
    let m = guard_ok (is_unknown_manager (slice_index bytes 17)) Manager (cond (not (may_link rule at (number_at 8 bytes 8))) (Err Prev) (cond (nat_lt 67108864 (number_at 4 bytes 0)) (Err TooLong) (Ok found))) head b.1 in
    let p = guard_ok (not (may_link rule at (number_at 8 bytes 8))) Prev (cond (nat_lt 67108864 (number_at 4 bytes 0)) (Err TooLong) (Ok found)) head m.1 in
    let t = guard_ok (nat_lt 67108864 (number_at 4 bytes 0)) TooLong (Ok found) head p.1 in
    record {
      low = total_at-takes bytes a.0 a.1;
      known = m.0;
      link = not-false (may_link rule at (number_at 8 bytes 8)) p.0;
      high = ltb-false 67108864 (number_at 4 bytes 0) t.0;
      is = sym (same_head found head t.1);
    }

pub head-fields : (bytes : List ℕ) (at : ℕ) (rule : PrevRule) (head : RecordHead) → head_of bytes at rule ≡ Ok head → head ≡ fields_of bytes
unfolding fields_of
head-fields bytes at rule head e = let t = head_of-takes bytes at rule head e in t.is

-- the whole record was there, with a right CRC
record IsWhole (head : RecordHead) (bytes : List ℕ) (r : Record) : Type 0 where
  long_enough : length bytes ≡ head.total
  crc : number_at 4 bytes 20 ≡ crc32c_of (drop 24 bytes ++ take 20 bytes)
  laid : laid_out head (drop 24 bytes) ≡ Ok r

whole-takes : (head : RecordHead) (bytes : List ℕ) (r : Record) → whole head bytes ≡ Ok r → IsWhole head bytes r
unfolding whole
whole-takes head bytes r e =
    let a = guard_ok (not (length bytes == head.total)) Layout (cond (not (has_right_crc bytes)) (Err Crc) (laid_out head (drop 24 bytes))) r e in
    let b = guard_ok (not (has_right_crc bytes)) Crc (laid_out head (drop 24 bytes)) r a.1 in
    record {
      long_enough = eqb-true (length bytes) head.total (not-false (length bytes == head.total) a.0);
      crc = eqb-true (number_at 4 bytes 20) (crc32c_of (drop 24 bytes ++ take 20 bytes)) (not-false (has_right_crc bytes) b.0);
      laid = b.1;
    }

-- bytes are their header's fields, their CRC and what stands behind
spelled-by : (bytes : List ℕ) (at : ℕ) (rule : PrevRule) (head : RecordHead) (r : Record) → AreBytes bytes → IsTested bytes at rule head → IsWhole head bytes r → Laid head (drop 24 bytes) r
    → (s : Spelling) × IsSpelling s × (may_link rule at s.prev ≡ true) × (bytes ≡ spelled s) × (r ≡ record_of s)
unfolding spelled
spelled-by bytes at rule head r all tests whole laid =
    let s : Spelling = record {
      xid = number_at 4 bytes 4;
      prev = number_at 8 bytes 8;
      info = slice_index bytes 16;
      manager = slice_index bytes 17;
      padding = number_at 2 bytes 18;
      parts = laid.parts;
      payloads = laid.payloads;
    } in
    let total : length bytes ≡ number_at 4 bytes 0 = whole.long_enough ∙ ap (λ (h : RecordHead). h.total) tests.is in
    let low = tests.low in
    let high = tests.high in
    let behind : drop 24 bytes ≡ behind_header s = laid.taken.parts in
    let total_is : number_at 4 bytes 0 ≡ total_of s = omega (arith, ap length behind, length-drop 24 bytes, total) in
    let header = header-takes bytes all (omega arith) in
    let front : take 20 bytes ≡ before_crc s = ap (take 20) header ∙ ap (λ (n : ℕ). front_of n s.xid s.prev s.info s.manager s.padding) total_is in
    let crc : number_at 4 bytes 20 ≡ crc32c_of (behind_header s ++ before_crc s) =
    whole.crc ∙ ap (λ (w : List ℕ). crc32c_of (w ++ take 20 bytes)) behind ∙ ap (λ (w : List ℕ). crc32c_of (behind_header s ++ w)) front in
    let bytes_are : bytes ≡ spelled s =
    header
    ∙ ap (λ (n : ℕ). text_of n s.xid s.prev s.info s.manager s.padding (number_at 4 bytes 20) (drop 24 bytes)) total_is
    ∙ ap (λ (n : ℕ). text_of (total_of s) s.xid s.prev s.info s.manager s.padding n (drop 24 bytes)) crc
    ∙ ap (λ (w : List ℕ). text_of (total_of s) s.xid s.prev s.info s.manager s.padding (crc32c_of (behind_header s ++ before_crc s)) w) behind in
    let head_is : head ≡ (record_of s).head = tests.is ∙ ap (λ (n : ℕ). record { total = n; xid = record { 0 = s.xid }; prev = record { 0 = s.prev }; info = s.info; manager = s.manager }) total_is in (
      s,
      record {
        xid_fits = number-fits 4 bytes 4 all;
        prev_fits = number-fits 8 bytes 8 all;
        info_fits = byte-below bytes all 16;
        manager_fits = byte-below bytes all 17;
        padding_fits = number-fits 2 bytes 18 all;
        known = tests.known;
        parted = laid.are;
        bytes = laid.taken.rest_are;
        filled = laid.fits;
        total_fits = omega arith;
      },
      tests.link,
      bytes_are,
      laid.is ∙ ap (λ (h : RecordHead). record { head = h; blocks = blocks_of s.parts s.payloads; main = drop (seen_after start s.parts).blocks s.payloads }) head_is,
    )

pub is_spelled : ReadIsSpelled
unfolding decoded
is_spelled bytes at rule r all e =
    let a = bind_ok (head_of bytes at rule) (λ head. whole head bytes) r e in
    let w = whole-takes a.0 bytes r a.2 in
    spelled-by bytes at rule a.0 r all (head_of-takes bytes at rule a.0 a.1) w (laid_out-takes a.0 (drop 24 bytes) r (All-drop (λ b. b < 256) 24 bytes all) w.laid)
