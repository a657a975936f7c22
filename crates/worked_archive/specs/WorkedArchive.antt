-- The archive of the example, read inside the logic: 700 inserts (1, 'one') into a new block of t, and commits.
-- Sources: xlog_internal.h, xlogrecord.h, standbydefs.h, pg_control.h, heapam_xlog.h, xact.h.
use Rattle.std.specs.Prelude.{ℕ, pos, true, false, List, [], ◌∷◌, replicate, Option, Some, None, nat_eq, codes, if◌then◌else◌}
use Rattle.std.specs.Cmp.Lexicographic.{pointwise}
use Rattle.pg_types.specs.declared.names.Locator.{Locator}
use Rattle.wal_archive.specs.ArchiveLog.{archived_byte}
use Rattle.wal_record.specs.declared.types.PrevRule.TheVariants.{Below}
use Rattle.wal_record.specs.Record.{Block}
use Rattle.wal_bodies.specs.Laws.{IsTyped}
use Rattle.typed_records.specs.declared.types.NewTuple.{NewTuple}
use Rattle.typed_records.specs.declared.types.Rec.{Rec}
use Rattle.typed_records.specs.declared.types.RecBlock.{RecBlock}
use Rattle.typed_records.specs.declared.types.RecKind.{RecKind}
use Rattle.typed_records.specs.declared.types.RecKind.TheVariants.{BackupEnd, Checkpoint, Ended, Insert, Running}
use Rattle.wal_reader.specs.declared.types.EndWhy.TheVariants.{Zero}
use Rattle.wal_reader.specs.declared.types.NoRecord.TheVariants.{End}
use Rattle.wal_reader.specs.Told.{Told}
use Rattle.wal_reader.specs.Step.{Entry}
use Rattle.wal_reader.specs.Log.{IsLog}

-- the bytes of the example's file up to the end of its last record, and zeros behind them
unfoldable pub contents : List ℕ
contents =
    19 ∷ 209 ∷ 2 ∷ 0 ∷ 1 ∷ 0 ∷ 0 ∷ 0 ∷ 0 ∷ 0 ∷ 0 ∷ 2 ∷ 0 ∷ 0 ∷ 0 ∷ 0 ∷
    0 ∷ 0 ∷ 0 ∷ 0 ∷ 0 ∷ 0 ∷ 0 ∷ 0 ∷ 7 ∷ 0 ∷ 0 ∷ 0 ∷ 0 ∷ 0 ∷ 0 ∷ 0 ∷
    0 ∷ 0 ∷ 0 ∷ 1 ∷ 0 ∷ 32 ∷ 0 ∷ 0 ∷ 50 ∷ 0 ∷ 0 ∷ 0 ∷ 0 ∷ 0 ∷ 0 ∷ 0 ∷
    152 ∷ 255 ∷ 255 ∷ 1 ∷ 0 ∷ 0 ∷ 0 ∷ 0 ∷ 16 ∷ 8 ∷ 0 ∷ 0 ∷ 245 ∷ 165 ∷ 153 ∷ 219 ∷
    255 ∷ 24 ∷ 0 ∷ 0 ∷ 0 ∷ 0 ∷ 0 ∷ 0 ∷ 0 ∷ 0 ∷ 0 ∷ 0 ∷ 0 ∷ 0 ∷ 188 ∷ 2 ∷
    0 ∷ 0 ∷ 188 ∷ 2 ∷ 0 ∷ 0 ∷ 187 ∷ 2 ∷ 0 ∷ 0 ∷ 0 ∷ 0 ∷ 0 ∷ 0 ∷ 0 ∷ 0 ∷
    114 ∷ 0 ∷ 0 ∷ 0 ∷ 0 ∷ 0 ∷ 0 ∷ 0 ∷ 40 ∷ 0 ∷ 0 ∷ 2 ∷ 0 ∷ 0 ∷ 0 ∷ 0 ∷
    16 ∷ 0 ∷ 0 ∷ 0 ∷ 88 ∷ 177 ∷ 134 ∷ 206 ∷ 255 ∷ 88 ∷ 40 ∷ 0 ∷ 0 ∷ 2 ∷ 0 ∷ 0 ∷
    0 ∷ 0 ∷ 1 ∷ 0 ∷ 0 ∷ 0 ∷ 1 ∷ 0 ∷ 0 ∷ 0 ∷ 1 ∷ 0 ∷ 0 ∷ 0 ∷ 0 ∷ 0 ∷
    0 ∷ 0 ∷ 188 ∷ 2 ∷ 0 ∷ 0 ∷ 0 ∷ 0 ∷ 0 ∷ 0 ∷ 0 ∷ 0 ∷ 0 ∷ 0 ∷ 1 ∷ 0 ∷
    0 ∷ 0 ∷ 0 ∷ 0 ∷ 0 ∷ 0 ∷ 0 ∷ 0 ∷ 0 ∷ 0 ∷ 0 ∷ 0 ∷ 0 ∷ 0 ∷ 1 ∷ 0 ∷
    0 ∷ 0 ∷ 0 ∷ 0 ∷ 0 ∷ 0 ∷ 0 ∷ 0 ∷ 0 ∷ 0 ∷ 0 ∷ 0 ∷ 0 ∷ 0 ∷ 0 ∷ 0 ∷
    0 ∷ 0 ∷ 0 ∷ 0 ∷ 0 ∷ 0 ∷ 0 ∷ 0 ∷ 0 ∷ 0 ∷ 188 ∷ 2 ∷ 0 ∷ 0 ∷ 0 ∷ 0 ∷
    0 ∷ 0 ∷ 0 ∷ 0 ∷ 0 ∷ 0 ∷ 0 ∷ 0 ∷ 34 ∷ 0 ∷ 0 ∷ 0 ∷ 0 ∷ 0 ∷ 0 ∷ 0 ∷
    96 ∷ 0 ∷ 0 ∷ 2 ∷ 0 ∷ 0 ∷ 0 ∷ 0 ∷ 80 ∷ 0 ∷ 0 ∷ 0 ∷ 159 ∷ 138 ∷ 187 ∷ 219 ∷
    255 ∷ 8 ∷ 40 ∷ 0 ∷ 0 ∷ 2 ∷ 0 ∷ 0 ∷ 0 ∷ 0 ∷ 0 ∷ 0 ∷ 0 ∷ 0 ∷ 0 ∷ 0 ∷
    63 ∷ 0 ∷ 0 ∷ 0 ∷ 188 ∷ 2 ∷ 0 ∷ 0 ∷ 216 ∷ 0 ∷ 0 ∷ 2 ∷ 0 ∷ 0 ∷ 0 ∷ 0 ∷
    128 ∷ 10 ∷ 0 ∷ 0 ∷ 170 ∷ 96 ∷ 212 ∷ 32 ∷ 0 ∷ 96 ∷ 14 ∷ 0 ∷ 127 ∷ 6 ∷ 0 ∷ 0 ∷
    0 ∷ 64 ∷ 0 ∷ 0 ∷ 1 ∷ 64 ∷ 0 ∷ 0 ∷ 0 ∷ 0 ∷ 0 ∷ 0 ∷ 255 ∷ 3 ∷ 2 ∷ 0 ∷
    2 ∷ 8 ∷ 24 ∷ 0 ∷ 1 ∷ 0 ∷ 0 ∷ 0 ∷ 9 ∷ 111 ∷ 110 ∷ 101 ∷ 1 ∷ 0 ∷ 0 ∷ 0 ∷
    34 ∷ 0 ∷ 0 ∷ 0 ∷ 188 ∷ 2 ∷ 0 ∷ 0 ∷ 0 ∷ 1 ∷ 0 ∷ 2 ∷ 0 ∷ 0 ∷ 0 ∷ 0 ∷
    0 ∷ 1 ∷ 0 ∷ 0 ∷ 156 ∷ 37 ∷ 69 ∷ 163 ∷ 255 ∷ 8 ∷ 0 ∷ 0 ∷ 0 ∷ 0 ∷ 0 ∷ 0 ∷
    0 ∷ 0 ∷ 0 ∷ 0 ∷ 0 ∷ 0 ∷ 0 ∷ 0 ∷
    replicate 152 0

-- the archive holds this file
abbrev pub files : List ℕ → Option (List ℕ)
files name = if pointwise nat_eq name (codes "000000010000000000000002") then Some contents else None

-- what a reader of segments of 16 MiB of system 7, on timeline 1, is told
abbrev pub told : Told
told = record { byte = archived_byte files 16777216; owner = λ (at : ℕ). 1; system = 7; segsize = 16777216 }

-- a record's place, and its header's fields
abbrev pub entry_with : ℕ → ℕ → ℕ → ℕ → ℕ → ℕ → ℕ → List Block → List ℕ → Entry
entry_with start end total xid prev info manager blocks main = record {
  start = start;
  end = end;
  record_ =
      record {
        head = record { total = total; xid = record { 0 = xid }; prev = record { 0 = prev }; info = info; manager = manager };
        blocks = blocks;
        main = main;
      };
}

-- nothing runs: the next id is 700, and 699 is the latest that ended
abbrev pub running_record : Entry
running_record = entry_with 0x2000028 0x2000060 50 0 0x1ffff98 0x10 8 ([])
    (0 ∷ 0 ∷ 0 ∷ 0 ∷ 0 ∷ 0 ∷ 0 ∷ 0 ∷ 0 ∷ 0 ∷ 0 ∷ 0 ∷ 188 ∷ 2 ∷ 0 ∷ 0 ∷ 188 ∷ 2 ∷ 0 ∷ 0 ∷ 187 ∷ 2 ∷ 0 ∷ 0 ∷ [])

-- a checkpoint whose redo is the running record
abbrev pub online_checkpoint : Entry
online_checkpoint = entry_with 0x2000060 0x20000d8 114 0 0x2000028 0x10 0 ([])
    (40 ∷ 0 ∷ 0 ∷ 2 ∷ 0 ∷ 0 ∷ 0 ∷ 0 ∷ 1 ∷ 0 ∷ 0 ∷ 0 ∷ 1 ∷ 0 ∷ 0 ∷ 0 ∷ 1 ∷ 0 ∷ 0 ∷ 0 ∷ 0 ∷ 0 ∷ 0 ∷ 0 ∷ 188 ∷ 2 ∷ 0 ∷ 0 ∷ 0 ∷ 0 ∷ 0 ∷ 0 ∷ 0 ∷ 0 ∷ 0 ∷ 0 ∷ 1 ∷ 0 ∷ 0 ∷ 0 ∷ 0 ∷ 0 ∷ 0 ∷ 0 ∷ 0 ∷ 0 ∷ 0 ∷ 0 ∷ 0 ∷ 0 ∷ 0 ∷ 0 ∷ 1 ∷ 0 ∷ 0 ∷ 0 ∷ 0 ∷ 0 ∷ 0 ∷ 0 ∷ 0 ∷ 0 ∷ 0 ∷ 0 ∷ 0 ∷ 0 ∷ 0 ∷ 0 ∷ 0 ∷ 0 ∷ 0 ∷ 0 ∷ 0 ∷ 0 ∷ 0 ∷ 0 ∷ 0 ∷ 0 ∷ 0 ∷ 0 ∷ 188 ∷ 2 ∷ 0 ∷ 0 ∷ 0 ∷ 0 ∷ 0 ∷ 0 ∷ [])

-- the end of the backup that began there
abbrev pub backup_end : Entry
backup_end = entry_with 0x20000d8 0x2000100 34 0 0x2000060 0x50 0 ([])
    (40 ∷ 0 ∷ 0 ∷ 2 ∷ 0 ∷ 0 ∷ 0 ∷ 0 ∷ [])

-- block 0 of t, made anew, with the tuple: two columns, one of varying width, xmax invalid, values from 24 on; 1 as an
-- int4, and 'one' behind its header of one byte
abbrev pub block_of_t : Block
block_of_t = record {
  id = 0;
  locator = record { space = 1663; db = 16384; rel = 16385 };
  fork = 0;
  block = 0;
  will_init = true;
  image = None;
  payload = 2 ∷ 0 ∷ 2 ∷ 8 ∷ 24 ∷ 0 ∷ 1 ∷ 0 ∷ 0 ∷ 0 ∷ 9 ∷ 111 ∷ 110 ∷ 101 ∷ [];
}

-- the insert at line 1
abbrev pub insert_by_700 : Entry
insert_by_700 = entry_with 0x2000100 0x2000140 63 700 0x20000d8 0x80 10 (block_of_t ∷ [])
    (1 ∷ 0 ∷ 0 ∷ [])

-- and its commit
abbrev pub commit_of_700 : Entry
commit_of_700 = entry_with 0x2000140 0x2000168 34 700 0x2000100 0x0 1 ([])
    (0 ∷ 0 ∷ 0 ∷ 0 ∷ 0 ∷ 0 ∷ 0 ∷ 0 ∷ [])

-- the records as the reader finds them, the newest first
abbrev pub entries : List Entry
entries = commit_of_700 ∷ insert_by_700 ∷ backup_end ∷ online_checkpoint ∷ running_record ∷ []

-- the typed form of an entry of this kind, with these blocks
abbrev pub rec_with : Entry → RecKind → List RecBlock → Rec
rec_with entry kind blocks = record {
  head = entry.record_.head;
  start = record { 0 = entry.start };
  end = record { 0 = entry.end };
  kind = kind;
  blocks = blocks;
}

-- the files of t and u of database 16384
abbrev pub known : List Locator
known = record { space = 1663; db = 16384; rel = 16385 } ∷ record { space = 1663; db = 16384; rel = 16390 } ∷ []

-- the tuple that 700 inserts
abbrev pub inserted_tuple : NewTuple
inserted_tuple = record { mask2 = 2; mask = 0x0802; hoff = 24; prefix = 0; suffix = 0; rest = 0 ∷ 1 ∷ 0 ∷ 0 ∷ 0 ∷ 9 ∷ 111 ∷ 110 ∷ 101 ∷ [] }

abbrev pub inserted_block : RecBlock
inserted_block = record {
  id = 0;
  locator = record { space = 1663; db = 16384; rel = 16385 };
  block = 0;
  will_init = true;
  image = None;
  tuples = inserted_tuple ∷ [];
}

-- what the records say, the newest first
abbrev pub log : List Rec
log =
    rec_with commit_of_700 (Ended (pos 0) 0 [] []) []
    ∷ rec_with insert_by_700 (Insert 1 0) (inserted_block ∷ [])
    ∷ rec_with backup_end (BackupEnd (record { 0 = 0x2000028 })) []
    ∷ rec_with online_checkpoint (Checkpoint (record { 0 = 0x2000028 }) (record { 0 = 1 }) (record { 0 = 1 }) true (record { 0 = 700 }) 1 0 1 (record { 0 = 700 })) []
    ∷ rec_with running_record (Running 0 0 false (record { 0 = 700 }) (record { 0 = 700 }) (record { 0 = 699 }) []) []
    ∷ []

-- the entries have these typed forms, one by one
abbrev pub AreTyped : List Entry → List Rec → Type 0
AreTyped [] [] = Unit {0}
AreTyped [] (rec ∷ recs) = ⊥
AreTyped (entry ∷ others) [] = ⊥
AreTyped (entry ∷ others) (rec ∷ recs) =
    IsTyped entry.record_ (record { 0 = entry.start }) (record { 0 = entry.end }) 16384 known rec × AreTyped others recs

-- The whole log that the archive tells from the redo position on is this one. It ends behind the commit, at zeros.
pub record IsWorkedArchive : Type 0 where
  pub is_log : IsLog told 0x2000028 Below entries 0x2000168 (End Zero)
  pub are_typed : AreTyped entries log
