-- A record by what the walk over its parts answers.
use Rattle.std.proofs.Common.{◌≡◌, ℕ, ◌+◌, true, false, not, ◌==◌, if◌then◌else◌, List, [], length, drop, Option, Some, None, Result, Ok, Err, option_map, unwrap_or, refl, subst}
use Rattle.std.proofs.lemmas.Option.{same_Some}
use Rattle.wal_record.specs.declared.types.RecordHead.{RecordHead}
use Rattle.wal_record.specs.declared.types.RecordFault.{RecordFault}
use Rattle.wal_record.specs.declared.types.RecordFault.TheVariants.{Layout, Compressed}
use Rattle.wal_record.specs.declared.parts.Part.{Part}
use Rattle.wal_record.specs.declared.parts.HeadersRead.{HeadersRead}
use Rattle.wal_record.specs.Record.{Record}
use Rattle.wal_record.specs.Parts.{parts_of, start, seen_after}
use Rattle.wal_record.specs.Decoded.{walked_from, walked, laid_out, filled_by, blocks_of, blocks_in}
use Rattle.std.proofs.lemmas.Bool.{eq-eqb, ne_eqb}

-- the record of these parts, by what they leave seen
abbrev pub filled_as : RecordHead → Option (List Part × List ℕ) → HeadersRead × List ℕ → Result Record RecordFault
filled_as head read x =
    if not (length x.1 == x.0.blocks + x.0.main) then Err Layout
    else if x.0.compressed then Err Compressed
    else Ok (record { head = head; blocks = unwrap_or (option_map (λ y. blocks_of y.0 x.1) read) []; main = drop x.0.blocks x.1 })

read_as : (head : RecordHead) (read : Option (List Part × List ℕ)) (x : HeadersRead × List ℕ) → option_map {U = HeadersRead × List ℕ} (λ y. (seen_after start y.0, y.1)) read ≡ Some x → filled_by head read ≡ filled_as head read x
read_as head None x h = cc
read_as head (Some y) x h =
    let P : HeadersRead × List ℕ → Type 0 = λ z. filled_by head (Some y) ≡ filled_as head (Some y) z in
    subst P (same_Some _ _ h) refl

read_none : (head : RecordHead) (read : Option (List Part × List ℕ)) → option_map {U = HeadersRead × List ℕ} (λ y. (seen_after start y.0, y.1)) read ≡ None → filled_by head read ≡ Err Layout
read_none head None h = refl
read_none head (Some y) h = cc

pub laid_out-none : (head : RecordHead) (text : List ℕ) → walked text ≡ None → laid_out head text ≡ Err Layout
unfolding laid_out walked_from
laid_out-none head text h = read_none head (parts_of text) h

laid_out-walked : (head : RecordHead) (text : List ℕ) (x : HeadersRead × List ℕ) → walked text ≡ Some x → laid_out head text ≡ filled_as head (parts_of text) x
unfolding laid_out walked_from
laid_out-walked head text x h = read_as head (parts_of text) x h

pub laid_out-unfilled : (head : RecordHead) (text : List ℕ) (seen : HeadersRead) (payloads : List ℕ) → walked text ≡ Some (seen, payloads) → (length payloads ≡ seen.blocks + seen.main → ⊥)
    → laid_out head text ≡ Err Layout
laid_out-unfilled head text seen payloads h ne = rw (laid_out-walked head text (seen, payloads) h, ne_eqb (length payloads) (seen.blocks + seen.main) ne) refl

pub laid_out-compressed : (head : RecordHead) (text : List ℕ) (seen : HeadersRead) (payloads : List ℕ) → walked text ≡ Some (seen, payloads) → length payloads ≡ seen.blocks + seen.main → seen.compressed ≡ true
    → laid_out head text ≡ Err Compressed
laid_out-compressed head text seen payloads h e compressed = rw (laid_out-walked head text (seen, payloads) h, eq-eqb (length payloads) (seen.blocks + seen.main) e, compressed) refl

pub laid_out-ok : (head : RecordHead) (text : List ℕ) (seen : HeadersRead) (payloads : List ℕ) → walked text ≡ Some (seen, payloads) → length payloads ≡ seen.blocks + seen.main → seen.compressed ≡ false
    → laid_out head text ≡ Ok (record { head = head; blocks = blocks_in text payloads; main = drop seen.blocks payloads })
unfolding blocks_in
laid_out-ok head text seen payloads h e compressed = rw (laid_out-walked head text (seen, payloads) h, eq-eqb (length payloads) (seen.blocks + seen.main) e, compressed) refl
