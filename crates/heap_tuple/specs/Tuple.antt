-- A heap tuple by its bytes: the header (HeapTupleHeaderData, htup_details.h) and what it says.
use Rattle.std.specs.Prelude.{ℕ, ◌+◌, ◌*◌, ◌/◌, ◌%◌, ◌^◌, Bool, not, ◌&&◌, ◌||◌, ◌==◌, nat_le, IsTrue, List, length, slice_index, if◌then◌else◌, bit_and}
use Rattle.pg_types.specs.Numbers.{number_at, has_bits}
use Rattle.heap_tuple.specs.declared.tuple_view.MaxOf.{MaxOf}
use Rattle.heap_tuple.specs.declared.tuple_view.MaxOf.TheVariants.{None as NoDeleter, Xid as DeletedBy, Multi}

-- t_xmin, the inserting transaction
abbrev pub xmin_of : List ℕ → ℕ
xmin_of bytes = number_at 4 bytes 0

-- t_xmax, the deleting or locking transaction, or a multixact
abbrev pub xmax_of : List ℕ → ℕ
xmax_of bytes = number_at 4 bytes 4

-- t_cid, the command id
abbrev pub cid_of : List ℕ → ℕ
cid_of bytes = number_at 4 bytes 8

-- the block of t_ctid, which is stored as its high and its low half
abbrev pub ctid_block_of : List ℕ → ℕ
ctid_block_of bytes = number_at 2 bytes 12 * 2 ^ 16 + number_at 2 bytes 14

-- the line of t_ctid
abbrev pub ctid_line_of : List ℕ → ℕ
ctid_line_of bytes = number_at 2 bytes 16

-- t_infomask2
abbrev pub infomask2_of : List ℕ → ℕ
infomask2_of bytes = number_at 2 bytes 18

-- t_infomask
abbrev pub infomask_of : List ℕ → ℕ
infomask_of bytes = number_at 2 bytes 20

-- t_hoff, where the user data begins
abbrev pub hoff_of : List ℕ → ℕ
hoff_of bytes = slice_index bytes 22

-- the number of columns that the tuple has (HeapTupleHeaderGetNatts)
abbrev pub columns_of : List ℕ → ℕ
columns_of bytes = infomask2_of bytes % 2 ^ 11

-- the least place of the user data: behind the header of 23 bytes and, with nulls (0x0001), a bit for
-- each column
abbrev pub least_hoff : List ℕ → ℕ
least_hoff bytes =
    if has_bits (infomask_of bytes) 0x0001 then 23 + (columns_of bytes + 7) / 8 else 23

-- whether a tuple of this length may begin so: the user data begins at a multiple of 8 (MAXALIGN),
-- behind the header and its bitmap of nulls, and not past the end
unfoldable pub is_tuple_head : List ℕ → ℕ → Bool
is_tuple_head head len =
    (hoff_of head % 8 == 0)
    && nat_le 24 (hoff_of head)
    && nat_le (least_hoff head) (hoff_of head)
    && nat_le (hoff_of head) len

-- whether the bytes are a tuple
unfoldable pub is_tuple : List ℕ → Bool
is_tuple bytes = is_tuple_head bytes (length bytes)

abbrev pub IsTuple : List ℕ → Type 0
IsTuple bytes = IsTrue (is_tuple bytes)

-- whether the xmax is only a lock (HEAP_XMAX_IS_LOCKED_ONLY): marked so (0x0080), or an exclusive lock
-- (0x0040) that is neither a multixact (0x1000) nor a shared one (0x0010)
unfoldable pub is_lock_only : ℕ → Bool
is_lock_only mask = has_bits mask 0x0080 || (bit_and mask 0x1050 == 0x0040)

-- the deleter that a tuple shows apart from marks: none where its xmax is 0 or only a lock, else a
-- multixact (0x1000) or a transaction
unfoldable pub max_of : List ℕ → MaxOf
max_of bytes =
    if is_lock_only (infomask_of bytes) || (xmax_of bytes == 0) then NoDeleter
    else if has_bits (infomask_of bytes) 0x1000 then Multi (xmax_of bytes)
    else DeletedBy (record { 0 = xmax_of bytes })
