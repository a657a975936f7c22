-- The header of a tuple, and how records change it (htup_details.h; heapam.c, fix_infomask_from_infobits,
-- heap_xlog_delete, heap_xlog_update, heap_xlog_lock).
use Rattle.std.specs.Prelude.{ℕ, ◌-◌, ◌/◌, ◌%◌, Bool, true, false, bit_and, bit_or, List, [], ◌∷◌, ◌++◌, if◌then◌else◌}
use Rattle.byteorder.specs.Endian.{little_bytes}
use Rattle.heap_tuple.specs.Tuple.{xmin_of, xmax_of, cid_of, ctid_block_of, ctid_line_of, infomask2_of, infomask_of, hoff_of, is_lock_only}
use Rattle.pg_types.specs.Numbers.{has_bits}

-- the fields of a tuple's first 23 bytes
pub record Head : Type 0 where
  pub xmin : ℕ
  pub xmax : ℕ
  pub cid : ℕ
  pub ctid_block : ℕ
  pub ctid_line : ℕ
  pub mask2 : ℕ
  pub mask : ℕ
  pub hoff : ℕ

-- the fields of these bytes
unfoldable pub head_of : List ℕ → Head
head_of tuple = record {
  xmin = xmin_of tuple;
  xmax = xmax_of tuple;
  cid = cid_of tuple;
  ctid_block = ctid_block_of tuple;
  ctid_line = ctid_line_of tuple;
  mask2 = infomask2_of tuple;
  mask = infomask_of tuple;
  hoff = hoff_of tuple;
}

-- the 23 bytes of these fields; a block number stands as its high and its low half (BlockIdData, block.h)
unfoldable pub head_bytes : Head → List ℕ
head_bytes head =
    little_bytes 4 head.xmin ++ little_bytes 4 head.xmax ++ little_bytes 4 head.cid
    ++ little_bytes 2 (head.ctid_block / 65536) ++ little_bytes 2 (head.ctid_block % 65536)
    ++ little_bytes 2 head.ctid_line
    ++ little_bytes 2 head.mask2 ++ little_bytes 2 head.mask ++ head.hoff ∷ []

-- a mask of two bytes without these bits
abbrev pub without : ℕ → ℕ → ℕ
without mask bits = bit_and mask (65535 - bits)

-- the mask's bit that a bit of the record sets
abbrev pub set_for : ℕ → ℕ → ℕ → ℕ
set_for bits bit flag = if has_bits bits bit then flag else 0

-- the infomask after a mark: multixact (XLHL_XMAX_IS_MULTI), lock only, exclusive and key share lock
unfoldable pub marked_mask : ℕ → ℕ → ℕ
marked_mask bits mask =
    bit_or (bit_or (bit_or (bit_or (without mask 0xDCD0)
    (set_for bits 1 0x1000)) (set_for bits 2 0x0080)) (set_for bits 4 0x0040)) (set_for bits 8 0x0010)

-- the infomask2 after a mark: key columns were changed (XLHL_KEYS_UPDATED)
unfoldable pub marked_mask2 : ℕ → ℕ → ℕ
marked_mask2 bits mask2 = bit_or (without mask2 0x2000) (set_for bits 16 0x2000)

-- a deleter or locker is marked
abbrev pub marked : ℕ → ℕ → Head → Head
marked xmax bits head =
    record head { xmax = xmax; mask = marked_mask bits head.mask; mask2 = marked_mask2 bits head.mask2 }

-- the tuple's next version is at this place
abbrev pub pointing_to : ℕ → ℕ → Head → Head
pointing_to block line head = record head { ctid_block = block; ctid_line = line }

-- its next version is heap-only (HEAP_HOT_UPDATED), or not
abbrev pub hot : Bool → Head → Head
hot true head = record head { mask2 = bit_or head.mask2 0x4000 }
hot false head = record head { mask2 = without head.mask2 0x4000 }

-- where a deleted tuple points: it moved to another partition (XLH_DELETE_IS_PARTITION_MOVE,
-- ItemPointerSetMovedPartitions), or it has no next version
abbrev pub pointing_after_delete : ℕ → ℕ → ℕ → Head → Head
pointing_after_delete flags block line head =
    if has_bits flags 0x10 then pointing_to 0xFFFFFFFF 0xFFFD head else pointing_to block line head

-- a speculative insertion is taken back (XLH_DELETE_IS_SUPER): the inserter falls, and xmax stays
abbrev pub taken_back : ℕ → ℕ → Head → Head
taken_back flags before head = if has_bits flags 0x08 then record head { xmin = 0; xmax = before } else head

-- the header of a tuple that is deleted where it stands, at this block and line
unfoldable pub deleted : ℕ → ℕ → ℕ → ℕ → ℕ → Head → Head
deleted xmax bits flags block line head =
    taken_back flags head.xmax (pointing_after_delete flags block line (hot false (marked xmax bits head)))

-- the header of an updated tuple, whose next version is at this place
unfoldable pub replaced : ℕ → ℕ → Bool → ℕ → ℕ → Head → Head
replaced xmax bits is_hot block line head = pointing_to block line (hot is_hot (marked xmax bits head))

-- a tuple that is only locked has no next version
abbrev pub unlinked_if_locked : ℕ → ℕ → Head → Head
unlinked_if_locked block line head =
    if is_lock_only head.mask then pointing_to block line (hot false head) else head

-- the header of a tuple that is locked where it stands
unfoldable pub locked : ℕ → ℕ → ℕ → ℕ → Head → Head
locked xmax bits block line head = unlinked_if_locked block line (marked xmax bits head)

-- the header of a tuple that is frozen: its xmax and both masks are the plan's (heap_execute_freeze_tuple, heapam.h)
abbrev pub frozen : ℕ → ℕ → ℕ → Head → Head
frozen xmax mask2 mask head = record head { xmax = xmax; mask2 = mask2; mask = mask }
