use Rattle.std.proofs.Common.{ap, ◌∙◌, ◌++◌, ◌∷◌, [], ◌/◌, ◌%◌, ◌≡◌, ℕ, List, take}
use Rattle.byteorder.specs.Endian.{little_bytes}
use Rattle.heap_redo.specs.TupleHeads.{head_bytes}
use Rattle.heap_redo.proofs.Bytes.{set-last, low_half}
use Rattle.heap_redo.proofs.head.Header.bytes.Goals as goal

pub returns : goal.returns
unfolding head_bytes
returns c =
    let head = c.args.self.now in
    let xmin : List ℕ = little_bytes 4 head.xmin in
    let xmax : List ℕ = little_bytes 4 head.xmax in
    let cid : List ℕ = little_bytes 4 head.cid in
    let high : List ℕ = little_bytes 2 (head.ctid_block / 65536) in
    let low : List ℕ = little_bytes 2 (head.ctid_block % 65536) in
    let line : List ℕ = little_bytes 2 head.ctid_line in
    let mask2 : List ℕ = little_bytes 2 head.mask2 in
    let mask : List ℕ = little_bytes 2 head.mask in
    let a : take 4 c.put_u32.new.bytes ≡ xmin = c.put_u32.ensures ∙ low_half head.xmin in
    let b : take 8 c.put_u32-2.new.bytes ≡ xmin ++ xmax = c.put_u32-2.ensures ∙ ap (λ l. l ++ little_bytes 4 (head.xmax % 4294967296)) a ∙ ap (λ l. xmin ++ l) (low_half head.xmax) in
    let d : take 12 c.put_u32-3.new.bytes ≡ (xmin ++ xmax) ++ cid = c.put_u32-3.ensures ∙ ap (λ l. l ++ cid) b in
    let e : take 14 c.put_u16.new.bytes ≡ ((xmin ++ xmax) ++ cid) ++ high = c.put_u16.ensures ∙ ap (λ l. l ++ high) d in
    let f : take 16 c.put_u16-2.new.bytes ≡ (((xmin ++ xmax) ++ cid) ++ high) ++ low = c.put_u16-2.ensures ∙ ap (λ l. l ++ low) e in
    let g : take 18 c.put_u16-3.new.bytes ≡ ((((xmin ++ xmax) ++ cid) ++ high) ++ low) ++ line = c.put_u16-3.ensures ∙ ap (λ l. l ++ line) f in
    let h : take 20 c.put_u16-4.new.bytes ≡ (((((xmin ++ xmax) ++ cid) ++ high) ++ low) ++ line) ++ mask2 = c.put_u16-4.ensures ∙ ap (λ l. l ++ mask2) g in
    let i : take 22 c.put_u16-5.new.bytes ≡ ((((((xmin ++ xmax) ++ cid) ++ high) ++ low) ++ line) ++ mask2) ++ mask = c.put_u16-5.ensures ∙ ap (λ l. l ++ mask) h in
    set-last 22 c.put_u16-5.new.bytes head.hoff c.put_u16-5.array_long ∙ ap (λ l. l ++ head.hoff ∷ []) i
