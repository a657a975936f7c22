-- The tuples that a record puts into its block 0 (heapam_xlog.h, xl_heap_header and
-- xl_multi_insert_tuple; heapam.c, heap_xlog_insert and its like).
use Rattle.std.specs.Prelude.{ℕ, ◌+◌, ◌-◌, Bool, false, nat_lt, ◌&&◌, ◌||◌, List, [], ◌∷◌, length, drop, slice_index, Option, Some, None, is_some, Result, Ok, Err, if◌then◌else◌}
use Rattle.pg_types.specs.Numbers.{has_bits}
use Rattle.wal_record.specs.Record.{Image, Block, Record}
use Rattle.typed_records.specs.declared.types.BodyFault.{BodyFault}
use Rattle.typed_records.specs.declared.types.BodyFault.TheVariants.{Length}
use Rattle.typed_records.specs.declared.types.NewTuple.{NewTuple}
use Rattle.typed_records.specs.declared.types.RecKind.{RecKind}
use Rattle.typed_records.specs.declared.types.RecKind.TheVariants.{Checkpoint, BackupEnd, Parameters, FullPageWrites, Images, Overwrite, Ended, Assignment, Running, Insert, Delete, Update, Confirm, Lock, MultiInsert, LockUpdated, Prune, Vacuum, Freeze, Visible, Truncate, Locks, Multixact, Other}
use Rattle.typed_records.specs.Tuples.{tuple_with, listed_from}
use Rattle.wal_bodies.specs.Fields.{◌>>=◌, needed_number, main_block, needed}

-- an insert's tuple: all that stands behind the fields
unfoldable pub inserted : List ℕ → Result (List NewTuple) BodyFault
inserted bytes =
    if nat_lt (length bytes) 5 then Err Length else Ok (tuple_with bytes 0 0 0 (drop 5 bytes) ∷ [])

-- a length that the flag says is there, else 0
unfoldable pub length_from : ℕ → ℕ → List ℕ → Result (ℕ × List ℕ) BodyFault
length_from flags flag bytes = if has_bits flags flag then needed_number 2 bytes else Ok (0, bytes)

-- an update's tuple behind the two lengths: it has all its bytes up to the user data, at least
unfoldable pub replaced : ℕ → ℕ → List ℕ → Result (List NewTuple) BodyFault
replaced prefix suffix bytes =
    if nat_lt (length bytes) 5 then Err Length
    else if nat_lt (length bytes) (5 + (slice_index bytes 4 - 23)) then Err Length
    else Ok (tuple_with bytes 0 prefix suffix (drop 5 bytes) ∷ [])

-- an update's tuple: the lengths of the parts that are the old tuple's (XLH_UPDATE_PREFIX_FROM_OLD,
-- XLH_UPDATE_SUFFIX_FROM_OLD) come first
unfoldable pub updated : ℕ → List ℕ → Result (List NewTuple) BodyFault
updated flags bytes = do
  prefix ← length_from flags 0x20 bytes
  suffix ← length_from flags 0x40 prefix.1
  replaced prefix.0 suffix.0 suffix.1

-- an image that replay restores: the block's data is then not used
abbrev pub is_applied : Option Image → Bool
is_applied None = false
is_applied (Some image) = image.apply

-- the tuples of a block by its data, if that is used
abbrev pub in_data : Block → (List ℕ → Result (List NewTuple) BodyFault) → Result (List NewTuple) BodyFault
in_data block read = if is_applied block.image then Ok [] else read block.payload

-- parts of the old tuple are used
abbrev pub borrows : ℕ → Bool
borrows flags = has_bits flags 0x20 || has_bits flags 0x40

-- the tuple of an insert
unfoldable pub insert_tuples : Record → Result (List NewTuple) BodyFault
insert_tuples rec = do
  block ← needed (main_block 0 rec)
  in_data block (λ bytes. inserted bytes)

-- the tuples of a multi-insert with so many lines
unfoldable pub multi_tuples : ℕ → Record → Result (List NewTuple) BodyFault
multi_tuples count rec = do
  block ← needed (main_block 0 rec)
  in_data block (λ bytes. listed_from bytes 0 count)

-- the tuples of an update, whose parts of the old tuple are only used within one block
unfoldable pub update_tuples : ℕ → Record → Result (List NewTuple) BodyFault
update_tuples flags rec = do
  block ← needed (main_block 0 rec)
  if borrows flags && is_some (main_block 1 rec) then Err Length else in_data block (λ bytes. updated flags bytes)

-- no tuples, in a record that has to have block 0
unfoldable pub no_tuples : Record → Result (List NewTuple) BodyFault
no_tuples rec = do
  block ← needed (main_block 0 rec)
  Ok []

-- the tuples that a record of this kind puts into its block 0, which a kind of the heap has to have
unfoldable pub tuples_of : RecKind → Record → Result (List NewTuple) BodyFault
tuples_of (Checkpoint redo timeline previous writes next multi member oldest active) rec = Ok []
tuples_of (BackupEnd start) rec = Ok []
tuples_of (Parameters connections processes senders prepared locks level) rec = Ok []
tuples_of (FullPageWrites on) rec = Ok []
tuples_of Images rec = Ok []
tuples_of (Overwrite given_up time) rec = Ok []
tuples_of (Ended time xinfo xids files) rec = Ok []
tuples_of (Assignment top xids) rec = Ok []
tuples_of (Running tops subs overflow next oldest latest xids) rec = Ok []
tuples_of (Insert line flags) rec = insert_tuples rec
tuples_of (Delete xmax line bits flags) rec = no_tuples rec
tuples_of (Update old_xmax old_line old_bits flags new_xmax new_line) rec = update_tuples flags rec
tuples_of (Confirm line) rec = no_tuples rec
tuples_of (Lock xmax line bits flags) rec = no_tuples rec
tuples_of (MultiInsert flags lines) rec = multi_tuples (length lines) rec
tuples_of (LockUpdated xmax line bits flags) rec = no_tuples rec
tuples_of (Prune horizon catalogue redirected died freed) rec = no_tuples rec
tuples_of (Vacuum freed) rec = no_tuples rec
tuples_of (Freeze horizon catalogue plans) rec = no_tuples rec
tuples_of (Visible horizon flags) rec = Ok []
tuples_of (Truncate block locator flags) rec = Ok []
tuples_of (Locks entries) rec = Ok []
tuples_of (Multixact id offset members) rec = Ok []
tuples_of Other rec = Ok []
