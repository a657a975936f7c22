-- Where a record's parts stand in its bytes.
use Rattle.std.specs.Prelude.{◌≡◌, ℕ, ◌≤◌, List, length, drop, Result, Ok, Err}
use Rattle.wal_record.specs.declared.types.RecordHead.{RecordHead}
use Rattle.wal_record.specs.declared.types.RecordFault.{RecordFault}
use Rattle.wal_record.specs.declared.view.RecordShape.{RecordShape}
use Rattle.wal_record.specs.Record.{Record, AreBelow}
use Rattle.wal_record.specs.Decoded.{IsParted, blocks_in, fields_of}

-- the payloads in the text behind a record's header
abbrev pub payloads_of : List ℕ → RecordShape → List ℕ
payloads_of text shape = drop shape.headers text

-- the record by its header and the text behind it, whose parts stand so
abbrev pub laid_as : RecordHead → List ℕ → RecordShape → Record
laid_as head text shape = record {
  head = head;
  blocks = blocks_in text (payloads_of text shape);
  main = drop shape.blocks (payloads_of text shape);
}

-- the parts stand so in the text
pub record IsLaid (text : List ℕ) (shape : RecordShape) : Type 0 where
  pub headers : shape.headers ≤ length text
  pub blocks : shape.blocks ≤ length (payloads_of text shape)
  pub parted : IsParted text (payloads_of text shape)
  pub ids : AreBelow shape.ids (blocks_in text (payloads_of text shape))

-- the record whose parts stand so in its bytes
abbrev pub shaped : List ℕ → RecordShape → Record
shaped bytes shape = laid_as (fields_of bytes) (drop 24 bytes) shape

-- the parts stand so in the bytes
pub record HasShape (bytes : List ℕ) (shape : RecordShape) : Type 0 where
  pub header : 24 ≤ length bytes
  pub laid : IsLaid (drop 24 bytes) shape

-- where the parts stand in the text is told, or the expected fault
abbrev pub SaysLaid : Result RecordShape RecordFault → RecordHead → List ℕ → Result Record RecordFault → Type 0
SaysLaid (Ok shape) head text expected = (expected ≡ Ok (laid_as head text shape)) × IsLaid text shape
SaysLaid (Err fault) head text expected = expected ≡ Err fault

-- where the parts stand in the bytes is told, or the expected fault
abbrev pub SaysShape : Result RecordShape RecordFault → List ℕ → Result Record RecordFault → Type 0
SaysShape (Ok shape) bytes expected = (expected ≡ Ok (shaped bytes shape)) × HasShape bytes shape
SaysShape (Err fault) bytes expected = expected ≡ Err fault
