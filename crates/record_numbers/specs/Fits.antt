-- The numbers of a typed record fit the fields that they are read from, and what it holds of images and tuples are
-- bytes.
-- Sources: xlogrecord.h (XLogRecord, XLogRecordBlockHeader), heapam_xlog.h (xl_heap_header, xl_heap_delete,
-- xl_heap_update, xl_heap_lock, xl_heap_lock_updated, xl_heap_prune, xl_heap_vacuum, xl_heap_freeze_page,
-- xl_heap_freeze_plan, xl_heap_visible), storage_xlog.h (xl_smgr_truncate), multixact.h (xl_multixact_create).
use Rattle.std.specs.Prelude.{◌≡◌, ℕ, ◌<◌, ◌^◌, List, [], All, Option, Some, None}
use Rattle.pg_types.specs.declared.names.Xid.{Xid}
use Rattle.record_fields.specs.declared.entries.Redirect.{Redirect}
use Rattle.record_fields.specs.declared.entries.FreezePlan.{FreezePlan}
use Rattle.record_fields.specs.declared.members.Member.{Member}
use Rattle.typed_records.specs.declared.types.RecImage.{RecImage}
use Rattle.typed_records.specs.declared.types.NewTuple.{NewTuple}
use Rattle.typed_records.specs.declared.types.RecBlock.{RecBlock}
use Rattle.typed_records.specs.declared.types.Rec.{Rec}
use Rattle.typed_records.specs.declared.types.RecKind.{RecKind}
use Rattle.typed_records.specs.declared.types.RecKind.TheVariants.{Delete, Update, Lock, LockUpdated, Prune, Vacuum, Freeze, Visible, Truncate, Multixact}
use Rattle.wal_bodies.specs.Typed.{ids_of}
use Rattle.pg_types.specs.Bytes.{AreBytes}

-- masks of two bytes, a place of one, and bytes behind the header
pub record TupleFits (tuple : NewTuple) : Type 0 where
  pub mask2 : tuple.mask2 < 2 ^ 16
  pub mask : tuple.mask < 2 ^ 16
  pub hoff : tuple.hoff < 2 ^ 8
  pub rest : AreBytes tuple.rest

abbrev pub ImageFits : Option RecImage → Type 0
ImageFits None = Unit {0}
ImageFits (Some image) = AreBytes image.bytes

-- a block number of four bytes (BlockNumber)
pub record BlockFits (block : RecBlock) : Type 0 where
  pub number : block.block < 2 ^ 32
  pub image : ImageFits block.image
  pub tuples : All TupleFits block.tuples

-- a line of two bytes (OffsetNumber)
abbrev pub LineFits : ℕ → Type 0
LineFits line = line < 2 ^ 16

-- a line that leads to another one
pub record RedirectFits (line : Redirect) : Type 0 where
  pub from : LineFits line.from
  pub to : LineFits line.to

-- an xmax of four bytes, masks of two and flags of one, and the lines
pub record PlanFits (plan : FreezePlan) : Type 0 where
  pub xmax : plan.xmax.0 < 2 ^ 32
  pub mask2 : plan.mask2 < 2 ^ 16
  pub mask : plan.mask < 2 ^ 16
  pub flags : plan.flags < 2 ^ 8
  pub lines : All LineFits plan.lines

-- a horizon of four bytes, and the lines that a prune changes
pub record PruneFits (horizon : Xid) (redirected : List Redirect) (died freed : List ℕ) : Type 0 where
  pub xid : horizon.0 < 2 ^ 32
  pub redirects : All RedirectFits redirected
  pub dead : All LineFits died
  pub unused : All LineFits freed

-- an xid and a status of four bytes each (MultiXactMember)
pub record MemberFits (member : Member) : Type 0 where
  pub xid : member.xid.0 < 2 ^ 32
  pub status : member.status < 2 ^ 32

-- an xmax or a horizon of four bytes (TransactionId), an xmax's bits in one, a number of blocks in four, and a
-- multixact's id and offset in four each
abbrev pub KindFits : RecKind → Type 0
KindFits (Delete xmax line bits flags) = (xmax.0 < 2 ^ 32) × (bits < 2 ^ 8)
KindFits (Update old_xmax old_line old_bits flags new_xmax new_line) = (old_xmax.0 < 2 ^ 32) × ((old_bits < 2 ^ 8) × (new_xmax.0 < 2 ^ 32))
KindFits (Lock xmax line bits flags) = (xmax.0 < 2 ^ 32) × (bits < 2 ^ 8)
KindFits (LockUpdated xmax line bits flags) = (xmax.0 < 2 ^ 32) × (bits < 2 ^ 8)
KindFits (Prune horizon catalogue redirected died freed) = PruneFits horizon redirected died freed
KindFits (Vacuum freed) = All LineFits freed
KindFits (Freeze horizon catalogue plans) = (horizon.0 < 2 ^ 32) × All PlanFits plans
KindFits (Visible horizon flags) = horizon.0 < 2 ^ 32
KindFits (Truncate block locator flags) = block < 2 ^ 32
KindFits (Multixact id offset members) = (id < 2 ^ 32) × ((offset < 2 ^ 32) × All MemberFits members)
KindFits _ = Unit {0}

-- and a record whose kind names no block has none
pub record RecordFits (rec : Rec) : Type 0 where
  pub xid : rec.head.xid.0 < 2 ^ 32
  pub kind : KindFits rec.kind
  pub blocks : All BlockFits rec.blocks
  pub blockless : ids_of rec.kind ≡ 0 → rec.blocks ≡ []
