use Rattle.std.proofs.Common.{◌≡◌, ◌++◌, length, drop, take, ℕ, ◌-◌, List, [], refl, arith, ap, ◌∙◌, length-append}
use Rattle.std.proofs.lemmas.List.{take-append-le, take_all, drop_all, append-nil, drop-drop}
use Rattle.std.proofs.Math.Seq.{drop-append_seam}
use borrow.Rule.Slice.PartMut.{put_mid, mid_of}
use Rattle.byteorder.specs.Endian.{little_bytes}
use Rattle.wal_page.specs.Page.{header_text, header_with, long_text}
use Rattle.wal_page.proofs.write_page_header.Goals as goal

-- a write to all that stands behind a front of 24 bytes
written_behind : (front rest before sizes written : List ℕ)
    → length front ≡ 24 → before ≡ front ++ rest → written ≡ sizes ++ drop 16 (mid_of 24 (length before - 24) before)
    → put_mid 24 (length before - 24) before written ≡ front ++ (sizes ++ drop 16 rest)
written_behind front rest before sizes written n e h =
    let d : drop 24 before ≡ rest = rw (e, ← n) (drop-append_seam front rest) in
    let t : take 24 before ≡ front = rw (e, ← n) (take-append-le (length front) front rest (omega arith) ∙ take_all (length front) front (omega arith)) in
    let k : length before - 24 ≡ length rest = omega (arith, ap length e, length-append front rest) in
    let z : drop (length before - 24) rest ≡ [] = drop_all (length before - 24) rest (omega arith) in
    let a : take (length before - 24) rest ≡ rest = take_all (length before - 24) rest (omega arith) in
    rw (h, d, t, z, a, append-nil) refl

pub returns-in-Some-clause-written : goal.returns-in-Some-clause-written
unfolding header_text header_with long_text
returns-in-Some-clause-written c =
    let head = c.args.head.now in
    let front = little_bytes 2 0xD113 ++ little_bytes 2 head.info ++ little_bytes 4 head.tli.0 ++ little_bytes 8 head.at.0 ++ little_bytes 4 head.rem ++ little_bytes 4 0 in
    let sizes = little_bytes 8 c.in-Some.system ++ little_bytes 4 c.in-Some.size ++ little_bytes 4 8192 in
    let whole = written_behind front (drop 24 c.args.out.now) c.write_front.new.out sizes c.write_sizes.new.out refl c.write_front.ensures c.write_sizes.ensures in
    let s = c.in-Some.is in
    let d : drop 16 (drop 24 c.args.out.now) ≡ drop 40 c.args.out.now = drop-drop 16 24 c.args.out.now in
    rw (s, ← d) whole
