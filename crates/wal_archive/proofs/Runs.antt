-- The bytes of one file as bytes of the log.
use Rattle.std.proofs.Common.{ℕ, ◌≡◌, ◌≤◌, ◌<◌, ◌+◌, ◌-◌, ◌*◌, ◌/◌, ◌%◌, min, List, ◌++◌, Bool, cond, Option, None, Some, Ok, length, take, drop, get_or, sym, refl, ap, subst, ◌∙◌, arith, length-append}
use Rattle.std.specs.Option.{unwrap_or, IfSome}
use Rattle.std.specs.List.{slice_get}
use Rattle.std.proofs.Math.Nat.{mod-lt}
use Rattle.std.proofs.lemmas.Nat.{div-mul-add, mod-mul-add, div-add-mod'}
use Rattle.std.proofs.lemmas.List.{get_or-take, get_or-drop, get_or_append_left, length-take-le, length-take, length-drop}
use Rattle.std.proofs.lemmas.Option.{slice_get-get_or, slice_get_past}
use borrow.Author.Tests.{lt-ltb}
use Rattle.pg_types.specs.Names.{IsSegmentSize, segment_name_text}
use Rattle.pg_types.specs.SegmentSizes.{segment_end, size_positive}
use Rattle.outside.specs.Archive.{Fetches, FetchesFile, Reads}
use Rattle.outside.specs.Log.{GivesBytes, log_limit}
use Rattle.wal_archive.specs.ArchiveLog.{archived_byte, archived_bytes, byte_of_file, segment_file}

-- the quotient and the remainder of a later position of the same segment
same_segment : (size at index : ℕ) → 0 < size → at % size + index < size → ((at + index) / size ≡ at / size) × ((at + index) % size ≡ at % size + index)
same_segment size at index some inside =
    let split : at + index ≡ at / size * size + (at % size + index) = omega (arith, div-add-mod' at size) in (
      ap (λ (n : ℕ). n / size) split ∙ div-mul-add (at / size) size (at % size + index) inside,
      ap (λ (n : ℕ). n % size) split ∙ mod-mul-add (at / size) size (at % size + index) inside,
    )

-- the log's byte at a later position of the same segment
later_byte : (files : List ℕ → Option (List ℕ)) (size at index : ℕ) → 0 < size → at % size + index < size → at + index < log_limit → archived_byte files size (at + index) ≡ byte_of_file (segment_file files size at) (at % size + index)
later_byte files size at index some inside below =
    let same = same_segment size at index some inside in
    ap (λ (b : Bool). cond b (byte_of_file (segment_file files size (at + index)) ((at + index) % size)) None) (lt-ltb (at + index) log_limit below)
    ∙ (ap (λ (segment : ℕ). byte_of_file (files (segment_name_text 1 segment size)) ((at + index) % size)) same.0
    ∙ ap (λ (offset : ℕ). byte_of_file (segment_file files size at) offset) same.1)

-- what a read of a file put at the buffer's front
read_byte : (contents part rest : List ℕ) (offset count index : ℕ) → Reads contents offset part count → index < count → slice_get contents (offset + index) ≡ Some (get_or (part ++ rest) index 0)
read_byte contents part rest offset count index reads inside =
    let long : length (take (length part) (drop offset contents)) ≤ length contents - offset = omega (arith, length-take (length part) (drop offset contents), length-drop offset contents) in
    let short : length (take (length part) (drop offset contents)) ≤ length part = omega (arith, length-take (length part) (drop offset contents)) in
    let here : offset + index < length contents = omega (arith, reads.0, long) in
    let value : get_or contents (offset + index) 0 ≡ get_or (part ++ rest) index 0 =
    sym (get_or-drop offset contents index 0)
    ∙ (sym (get_or-take (length part) (drop offset contents) index 0 (omega (arith, reads.0, short)))
    ∙ (sym (ap (λ (xs : List ℕ). get_or xs index 0) reads.1)
    ∙ (get_or-take count part index 0 inside
    ∙ sym (get_or_append_left part rest 0 index (omega (arith, reads.0, short))))))
    in
    slice_get-get_or contents (offset + index) 0 here ∙ ap Some value

nothing_read : (contents part : List ℕ) (offset : ℕ) → Reads contents offset part 0 → 0 < length part → slice_get contents offset ≡ None
nothing_read contents part offset reads some =
    slice_get_past contents offset (omega (arith, reads.0, length-take (length part) (drop offset contents), length-drop offset contents))

-- a fetch of the segment's file gives a run of the log
fetched_run : (told : Option (List ℕ → Option (List ℕ))) (size at count : ℕ) (part rest : List ℕ) (found : Option ℕ) → 0 < size → at < log_limit → length part ≤ size - at % size → at + count ≤ log_limit → count ≤ length part → (0 < length (part ++ rest) → 0 < length part) → count ≡ unwrap_or found 0 → Fetches told (segment_name_text 1 (at / size) size) (at % size) part (Ok found) → GivesBytes (archived_bytes told size) at (part ++ rest) (Ok count)
fetched_run None size at count part rest found some below room ends fits any is fetched = tt
fetched_run (Some files) size at count part rest found some below room ends fits any is fetched = record {
  bytes = λ index inside. later_byte files size at index some (omega (arith, mod-lt at some)) (omega arith) ∙ byte (segment_file files size at) fetched index inside;
  none = λ full empty. later_first ∙ nothing (segment_file files size at) fetched (any full) empty;
}
  where
    byte : (file : Option (List ℕ)) → FetchesFile file (at % size) part found → (index : ℕ) → index < count → byte_of_file file (at % size + index) ≡ Some (get_or (part ++ rest) index 0)
    byte None answer index inside = absurd (omega (arith, is ∙ ap (λ (o : Option ℕ). unwrap_or o 0) answer))
    byte (Some contents) answer index inside =
        let same : count ≡ answer.0 = is ∙ ap (λ (o : Option ℕ). unwrap_or o 0) answer.1 in
        read_byte contents part rest (at % size) answer.0 index answer.2 (omega (arith, same))

    nothing : (file : Option (List ℕ)) → FetchesFile file (at % size) part found → 0 < length part → count ≡ 0 → byte_of_file file (at % size) ≡ None
    nothing None answer full empty = refl
    nothing (Some contents) answer full empty =
        let same : answer.0 ≡ 0 = sym (is ∙ ap (λ (o : Option ℕ). unwrap_or o 0) answer.1) ∙ empty in
        nothing_read contents part (at % size) (subst (λ (n : ℕ). Reads contents (at % size) part n) same answer.2) full

    later_first : archived_byte files size at ≡ byte_of_file (segment_file files size at) (at % size)
    later_first = ap (λ (b : Bool). cond b (byte_of_file (segment_file files size at) (at % size)) None) (lt-ltb at log_limit below)

-- the number that is answered, within what was asked for
counted_in : (found : Option ℕ) (most count : ℕ) → IfSome found (λ n. n ≤ most) → count ≡ unwrap_or found 0 → count ≤ most
counted_in None most count fits is = omega arith
counted_in (Some n) most count fits is = omega arith

-- what `bytes_at` asks for: no more than the buffer and the segment have room for
module _ (size at room : ℕ) (buf : List ℕ) (allowed : IsSegmentSize size) (below : at < log_limit) (room_is : room ≡ min (length buf) (size - at % size)) where
  asked : length (take room buf) ≡ room
  asked = length-take-le room buf (omega arith)

  pub answer_fits : (found : Option ℕ) (count : ℕ) → IfSome found (λ n. n ≤ length (take room buf)) → count ≡ unwrap_or found 0 → (count ≤ length buf) × (0 < count → at + count ≤ log_limit)
  answer_fits found count fits is =
      let within = counted_in found (length (take room buf)) count fits is in
      (omega (arith, within, asked, room_is), λ _. omega (arith, within, asked, room_is, segment_end size at allowed below))

  pub answer_bytes : (told : Option (List ℕ → Option (List ℕ))) (count : ℕ) (part : List ℕ) (found : Option ℕ) → length part ≡ length (take room buf) → IfSome found (λ n. n ≤ length (take room buf)) → count ≡ unwrap_or found 0 → Fetches told (segment_name_text 1 (at / size) size) (at % size) part (Ok found) → GivesBytes (archived_bytes told size) at (part ++ drop room buf) (Ok count)
  answer_bytes told count part found long fits is fetched =
      let within = counted_in found (length (take room buf)) count fits is in
      let positive = size_positive size allowed in
      fetched_run told size at count part (drop room buf) found positive below (omega (arith, long, asked, room_is)) (omega (arith, within, asked, room_is, segment_end size at allowed below)) (omega (arith, within, long))
      (λ some. omega (arith, long, asked, room_is, mod-lt at positive, length-append part (drop room buf), length-drop room buf)) is fetched
