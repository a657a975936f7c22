-- A record that is read of bytes: its parts are bytes, and its numbers fit the fields of its headers.
-- Sources: xlogrecord.h (XLogRecord, XLogRecordBlockHeader).
use Rattle.std.specs.Prelude.{◌≡◌, ℕ, ◌<◌, ◌^◌, List, All, Ok, IfSome}
use Rattle.wal_record.specs.declared.types.PrevRule.{PrevRule}
use Rattle.wal_record.specs.Record.{Block, Record}
use Rattle.wal_record.specs.Decoded.{decoded}
use Rattle.pg_types.specs.Bytes.{AreBytes}

-- a block number of four bytes, and an image and data that are bytes
pub record IsBlockOfBytes (block : Block) : Type 0 where
  pub number : block.block < 2 ^ 32
  pub image : IfSome block.image (λ image. AreBytes image.bytes)
  pub payload : AreBytes block.payload

-- a transaction id of four bytes, such blocks, and main data that are bytes
pub record IsOfBytes (rec : Record) : Type 0 where
  pub xid : rec.head.xid.0 < 2 ^ 32
  pub blocks : All IsBlockOfBytes rec.blocks
  pub main : AreBytes rec.main

-- what is read of bytes is such a record
abbrev pub ReadIsOfBytes : Type 0
ReadIsOfBytes = (bytes : List ℕ) (at : ℕ) (rule : PrevRule) (r : Record) → AreBytes bytes → decoded bytes at rule ≡ Ok r → IsOfBytes r
