-- Where the parts of a record stand in its bytes.
use Rattle.std.proofs.Common.{◌≡◌, ℕ, ◌+◌, ◌-◌, ◌≤◌, ◌<◌, ◌^◌, false, List, ◌++◌, length, drop, Option, Some, None, Result, Ok, Err, option_map, refl, sym, ap, subst, ◌∙◌, arith}
use Rattle.std.proofs.lemmas.List.{length-append}
use Rattle.std.proofs.Math.Seq.{drop-append_seam}
use Rattle.std.specs.Prelude.{IfOk}
use Rattle.std.proofs.lemmas.Option.{same_Some}
use Rattle.std.specs.List.{flat_map}
use Rattle.wal_record.specs.declared.types.PrevRule.{PrevRule}
use Rattle.wal_record.specs.declared.types.RecordHead.{RecordHead}
use Rattle.wal_record.specs.declared.types.RecordFault.{RecordFault}
use Rattle.wal_record.specs.declared.parts.Part.{Part}
use Rattle.wal_record.specs.declared.parts.HeadersRead.{HeadersRead}
use Rattle.wal_record.specs.declared.view.RecordShape.{RecordShape}
use Rattle.wal_record.specs.Record.{Record}
use Rattle.wal_record.specs.Parts.{parts_of, start, seen_after}
use Rattle.wal_record.specs.Decoded.{walked_from, walked, laid_out, IsParted, head_of, whole, decoded}
use Rattle.pg_types.specs.Bytes.{AreBytes}
use Rattle.wal_record.specs.Spelling.{part_text}
use Rattle.wal_record.specs.Shapes.{SaysLaid, SaysShape, laid_as}
use Rattle.wal_record.proofs.Ids.{ids-below}
use Rattle.wal_record.proofs.Laid.{laid_out-ok}
use Rattle.wal_record.proofs.SpelledRecord.{parts-take}
use Rattle.wal_record.proofs.SpelledWhole.{head-fields}

-- what stands behind a front
behind : (front rest text : List ℕ) → text ≡ front ++ rest → (length rest ≤ length text) × (drop (length text - length rest) text ≡ rest)
behind front rest text e =
    let n : length text ≡ length front + length rest = ap length e ∙ length-append front rest in
    let m : length text - length rest ≡ length front = omega arith in
    (omega arith, rw (m, e) (drop-append_seam front rest))

walked-behind : (text : List ℕ) (seen : HeadersRead) (payloads : List ℕ) (read : Option (List Part × List ℕ)) → AreBytes text → parts_of text ≡ read
    → option_map {U = HeadersRead × List ℕ} (λ y. (seen_after start y.0, y.1)) read ≡ Some (seen, payloads) → seen.compressed ≡ false
    → (length payloads ≤ length text) × (drop (length text - length payloads) text ≡ payloads)
walked-behind text seen payloads None all e h plain = absurd (cc)
walked-behind text seen payloads (Some y) all e h plain =
    let both : (seen_after start y.0, y.1) ≡ (seen, payloads) = same_Some _ _ h in
    let left : seen_after start y.0 ≡ seen = ap (λ (x : HeadersRead × List ℕ). x.0) both in
    let right : y.1 ≡ payloads = ap (λ (x : HeadersRead × List ℕ). x.1) both in
    let plain_parts : (seen_after start y.0).compressed ≡ false = ap (λ (s : HeadersRead). s.compressed) left ∙ plain in
    let taken = parts-take (length text) start text y all e plain_parts in
    subst (λ (rest : List ℕ). (length rest ≤ length text) × (drop (length text - length rest) text ≡ rest)) right
    (behind (flat_map part_text y.0) y.1 text taken.0.parts)

-- the payloads that a walk leaves stand behind the headers
pub payloads-behind : (text : List ℕ) (seen : HeadersRead) (payloads : List ℕ) → AreBytes text → walked text ≡ Some (seen, payloads) → seen.compressed ≡ false
    → (length payloads ≤ length text) × (drop (length text - length payloads) text ≡ payloads)
unfolding walked_from
payloads-behind text seen payloads all h plain = walked-behind text seen payloads (parts_of text) all refl h plain

-- a text whose walk fills it is laid so
pub laid-there : (head : RecordHead) (text : List ℕ) (seen : HeadersRead) (payloads : List ℕ) → AreBytes text → length text < 2 ^ 32 → walked text ≡ Some (seen, payloads)
    → length payloads ≡ seen.blocks + seen.main → seen.compressed ≡ false
    → SaysLaid (Ok (record { headers = length text - length payloads; blocks = seen.blocks; ids = seen.least_id })) head text (laid_out head text)
laid-there head text seen payloads all few h fills plain =
    let there = payloads-behind text seen payloads all h plain in
    let parted : IsParted text payloads = record { bounded = few; payloads_there = rw (h, ← fills) refl } in
    let same = there.1 in
    let made = laid_out-ok head text seen payloads h fills plain in (
      rw same made,
      record {
        headers = omega arith;
        blocks = rw same (omega arith);
        parted = subst (λ (p : List ℕ). IsParted text p) (sym same) parted;
        ids = rw same (ids-below text seen payloads h);
      },
    )

-- by its header and the text behind it
pub shape-there : (bytes : List ℕ) (at : ℕ) (rule : PrevRule) (head : RecordHead) (answer : Result RecordShape RecordFault)
    → head_of bytes at rule ≡ Ok head → IfOk answer (λ shape. 24 ≤ length bytes) → SaysLaid answer head (drop 24 bytes) (whole head bytes)
    → SaysShape answer bytes (decoded bytes at rule)
unfolding decoded
shape-there bytes at rule head (Ok shape) e header_fits says =
    let same = head-fields bytes at rule head e in
    let made : RecordHead → Record = λ h. laid_as h (drop 24 bytes) shape in
    (rw e (says.0 ∙ ap (λ h. Ok (made h)) same), record { header = header_fits; laid = says.1 })
shape-there bytes at rule head (Err fault) e header_fits says = rw e says
