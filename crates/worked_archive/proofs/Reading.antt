-- What the archive tells, by computation.
use Rattle.std.proofs.Common.{◌≡◌, Ok, Err, refl}
use Rattle.pg_types.specs.Names.{fixed_hex, segment_name_text}
use Rattle.pg_types.specs.Numbers.{number_at}
use Rattle.pg_crc32c.specs.Crc32c.{after_bits, crc32c_of}
use Rattle.wal_page.specs.Page.{page_header}
use Rattle.wal_record.specs.declared.types.PrevRule.TheVariants.{Is, Below}
use Rattle.wal_record.specs.Decoded.{decoded, fields_of, head_of, laid_out, tested, total_at, whole}
use Rattle.wal_record.specs.Parts.{block_at, block_from, flags_at, image_from, locator_at, locator_from, number_from, part_at, part_from, parts_from}
use Rattle.wal_reader.specs.declared.types.EndWhy.TheVariants.{Zero}
use Rattle.wal_reader.specs.declared.types.NoRecord.TheVariants.{End}
use Rattle.wal_reader.specs.Gathered.{gathered, place_at}
use Rattle.wal_reader.specs.Step.{attempt, begun, end_after, headed, step}
use Rattle.wal_reader.specs.Told.{header_at, told_bytes}
use Rattle.wal_bodies.specs.Fields.{xids_at, needed_number}
use Rattle.wal_bodies.specs.HeapKinds.{heap_kind, insert}
use Rattle.wal_bodies.specs.Kinds.{backup_end as read_backup_end, checkpoint, behind_database, ended, files_from, kind_of, parts_by, running, standby_kind, subs_from, time_from, xact_kind, xinfo_from, xlog_kind}
use Rattle.wal_bodies.specs.Tuples.{insert_tuples, inserted, tuples_of}
use Rattle.typed_records.specs.Blocks.{blocks_from, blocks_of}
use Rattle.wal_bodies.specs.Typed.{blocks_as, ids_of, read_as, typed}
use Rattle.worked_archive.specs.WorkedArchive.{AreTyped, IsWorkedArchive, entries, log, backup_end, commit_of_700, contents, insert_by_700, online_checkpoint, running_record, told}

finds_running : step told 0x2000028 Below ≡ Ok running_record
unfolding step place_at header_at told_bytes page_header attempt headed begun gathered contents segment_name_text fixed_hex number_at head_of total_at fields_of tested decoded whole crc32c_of after_bits laid_out parts_from part_at part_from number_from end_after block_from block_at flags_at image_from locator_from locator_at
finds_running = refl

finds_checkpoint : step told 0x2000060 (Is (record { 0 = 0x2000028 })) ≡ Ok online_checkpoint
unfolding step place_at header_at told_bytes page_header attempt headed begun gathered contents segment_name_text fixed_hex number_at head_of total_at fields_of tested decoded whole crc32c_of after_bits laid_out parts_from part_at part_from number_from end_after block_from block_at flags_at image_from locator_from locator_at
finds_checkpoint = refl

finds_backup_end : step told 0x20000d8 (Is (record { 0 = 0x2000060 })) ≡ Ok backup_end
unfolding step place_at header_at told_bytes page_header attempt headed begun gathered contents segment_name_text fixed_hex number_at head_of total_at fields_of tested decoded whole crc32c_of after_bits laid_out parts_from part_at part_from number_from end_after block_from block_at flags_at image_from locator_from locator_at
finds_backup_end = refl

finds_insert : step told 0x2000100 (Is (record { 0 = 0x20000d8 })) ≡ Ok insert_by_700
unfolding step place_at header_at told_bytes page_header attempt headed begun gathered contents segment_name_text fixed_hex number_at head_of total_at fields_of tested decoded whole crc32c_of after_bits laid_out parts_from part_at part_from number_from end_after block_from block_at flags_at image_from locator_from locator_at
finds_insert = refl

finds_commit : step told 0x2000140 (Is (record { 0 = 0x2000100 })) ≡ Ok commit_of_700
unfolding step place_at header_at told_bytes page_header attempt headed begun gathered contents segment_name_text fixed_hex number_at head_of total_at fields_of tested decoded whole crc32c_of after_bits laid_out parts_from part_at part_from number_from end_after block_from block_at flags_at image_from locator_from locator_at
finds_commit = refl

finds_end : step told 0x2000168 (Is (record { 0 = 0x2000140 })) ≡ Err (End Zero)
unfolding step place_at attempt headed begun gathered contents segment_name_text fixed_hex number_at
finds_end = refl

are_typed : AreTyped entries log
unfolding typed read_as kind_of xlog_kind checkpoint read_backup_end xact_kind ended time_from needed_number xinfo_from parts_by behind_database subs_from files_from standby_kind running heap_kind insert xids_at tuples_of insert_tuples inserted ids_of blocks_as blocks_of blocks_from number_at number_from
are_typed = (refl, (refl, (refl, (refl, (refl, tt)))))

pub is_worked : IsWorkedArchive
is_worked = record {
  is_log =
      record {
        prev = Is (record { 0 = 0x2000140 });
        stands = (
          0x2000140,
          Is (record { 0 = 0x2000100 }),
          (
            0x2000100,
            Is (record { 0 = 0x20000d8 }),
            (
              0x20000d8,
              Is (record { 0 = 0x2000060 }),
              (
                0x2000060,
                Is (record { 0 = 0x2000028 }),
                (
                  0x2000028,
                  Below,
                  (refl, refl),
                  finds_running,
                  refl,
                  refl,
                ),
                finds_checkpoint,
                refl,
                refl,
              ),
              finds_backup_end,
              refl,
              refl,
            ),
            finds_insert,
            refl,
            refl,
          ),
          finds_commit,
          refl,
          refl,
        );
        stops = finds_end;
      };
  are_typed = are_typed;
}
