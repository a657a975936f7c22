-- What is typed of a record of bytes fits.
use Rattle.std.proofs.Common.{suc-ne-zero, ◌≡◌, ℕ, ℤ, zero, suc, ◌+◌, ◌*◌, ◌^◌, ◌<◌, ◌==◌, arith, Bool, true, false, cond, List, [], ◌∷◌, All, Option, Some, None, Result, Ok, Err, IfOk, refl}
use Rattle.std.specs.Prelude.{drop, take, option_map, IfSome, length, nat_lt, slice_index}
use Rattle.std.proofs.lemmas.Bool.{cond_both, false≢true}
use Rattle.std.proofs.lemmas.List.Elements.{All-append, All-cons, All-nil}
use Rattle.std.proofs.lemmas.Result.{IfOk-at_ok}
use Rattle.pg_types.specs.Numbers.{number_at}
use Rattle.pg_types.specs.declared.names.Locator.{Locator}
use Rattle.pg_types.specs.declared.names.Lsn.{Lsn}
use Rattle.wal_record.specs.declared.types.RecordHead.{RecordHead}
use Rattle.wal_record.specs.Parts.{number_from}
use Rattle.wal_record.specs.Record.{Block, Image, Record, block_by_id}
use Rattle.pg_types.specs.Bytes.{AreBytes}
use Rattle.typed_records.specs.declared.types.NewTuple.{NewTuple}
use Rattle.typed_records.specs.declared.types.RecBlock.{RecBlock}
use Rattle.typed_records.specs.declared.types.RecKind.{RecKind}
use Rattle.typed_records.specs.declared.types.RecKind.TheVariants.{Checkpoint, BackupEnd, Parameters, FullPageWrites, Images, Overwrite, Ended, Assignment, Running, Insert, Delete, Update, Confirm, Lock, MultiInsert, LockUpdated, Prune, Vacuum, Freeze, Visible, Truncate, Locks, Multixact, Other}
use Rattle.wal_bodies.specs.Fields.{◌>>=◌, xid_at, lines_at, redirects_at, members_at, plans_at, if_main, main_block, needed, needed_number}
use Rattle.record_fields.specs.Fields.{plan_count_at}
use Rattle.wal_bodies.specs.Kinds.{assignment, backup_end, checkpoint, counted_xids, database_kind, ended, kind_of, count_from, locks, multixact, multixact_kind, overwrite, page_writes, parameters, parts_by, running, standby_kind, storage_kind, time_from, xact_kind, xinfo_from, xlog_kind}
use Rattle.wal_bodies.specs.HeapKinds.{by_block, confirm, delete, freeze, freeze_plans, freeze_with, heap2_kind, heap_kind, in_place, insert, lock, lock_updated, multi_insert, multi_insert_of, prune, prune_lists, prune_with, update, vacuum, vacuum_lines, vacuum_with, visible}
use Rattle.typed_records.specs.Tuples.{listed_at, listed_from, even_from, tuple_with}
use Rattle.wal_bodies.specs.Tuples.{in_data, insert_tuples, inserted, is_applied, length_from, multi_tuples, no_tuples, replaced, tuples_of, update_tuples, updated}
use Rattle.typed_records.specs.Blocks.{block_with, blocks_from, blocks_of, image_of, listed_block}
use Rattle.wal_bodies.specs.Typed.{blocks_as, formed, ids_of, read_as, typed}
use Rattle.wal_record.specs.OfBytes.{IsBlockOfBytes, IsOfBytes}
use Rattle.record_numbers.specs.Fits.{BlockFits, ImageFits, KindFits, LineFits, MemberFits, PlanFits, RecordFits, RedirectFits, TupleFits}
use Rattle.record_numbers.specs.Laws.{TypedFits}
use Rattle.record_numbers.proofs.Numbers.{four-fits, one-fits, two-fits}
use Rattle.pg_types.proofs.Bytes.{drop-are, take-are}

-- The value of a result has a property, if there is one. What a refusal is does not matter, so its type stays open.
record Has {A E : Type 0} (P : A → Type 0) (r : Result A E) : Type 0 where
  has : IfOk r P

refused : {A E : Type 0} (P : A → Type 0) (refusal : E) → Has P (Err refusal)
refused P refusal = record { has = tt }

given : {A E : Type 0} (P : A → Type 0) (x : A) → P x → Has {E = E} P (Ok x)
given P x h = record { has = h }

either : {A E : Type 0} (P : A → Type 0) (b : Bool) (x y : Result A E) → Has P x → Has P y → Has P (cond b x y)
either P b x y f g = cond_both b x y (Has P) (λ _. f) (λ _. g)

bound : {A B : Type 0} (P : A → Type 0) (Q : B → Type 0) (r : _) (f : A → _) → Has P r → ((x : A) → P x → Has Q (f x)) → Has Q (r >>= f)
bound P Q (Err refusal) f h g = refused Q refusal
bound P Q (Ok x) f h g = g x h.has

free : {A B : Type 0} (Q : B → Type 0) (r : _) (f : A → _) → ((x : A) → Has Q (f x)) → Has Q (r >>= f)
free Q (Err refusal) f g = refused Q refusal
free Q (Ok x) f g = g x

-- the block with an id is of bytes

by_id-is : (id : ℕ) (blocks : List Block) → All IsBlockOfBytes blocks → IfSome (block_by_id id blocks) IsBlockOfBytes
by_id-is id [] all = tt
by_id-is id (block ∷ blocks) all =
    cond_both (block.id == id) (Some block) (block_by_id id blocks) (λ found. IfSome found IsBlockOfBytes)
    (λ _. all 0 block (omega arith)) (λ _. by_id-is id blocks (λ k d lt. all (suc k) d (omega arith)))

if_main-is : (block : Option Block) → IfSome block IsBlockOfBytes → IfSome (if_main block) IsBlockOfBytes
if_main-is None h = tt
if_main-is (Some block) h =
    cond_both (block.fork == 0) (Some block) None (λ found. IfSome found IsBlockOfBytes) (λ _. h) (λ _. tt)

main-is : (id : ℕ) (source : Record) → IsOfBytes source → IfSome (main_block id source) IsBlockOfBytes
main-is id source is = if_main-is (block_by_id id source.blocks) (by_id-is id source.blocks is.blocks)

needed-is : {A : Type 0} (P : A → Type 0) (found : Option A) → IfSome found P → Has P (needed found)
needed-is P None h = refused P _
needed-is P (Some x) h = given P x h

-- the kinds

-- a kind of which no number has to fit
abbrev is_plain : RecKind → Bool
is_plain (Delete xmax line bits flags) = false
is_plain (Update old_xmax old_line old_bits flags new_xmax new_line) = false
is_plain (Lock xmax line bits flags) = false
is_plain (LockUpdated xmax line bits flags) = false
is_plain (Prune horizon catalogue redirected died freed) = false
is_plain (Vacuum freed) = false
is_plain (Freeze horizon catalogue plans) = false
is_plain (Visible horizon flags) = false
is_plain (Truncate block locator flags) = false
is_plain (Multixact id offset members) = false
is_plain _ = true

plain-fits : (kind : RecKind) → is_plain kind ≡ true → KindFits kind
plain-fits (Checkpoint redo timeline previous writes next multi member oldest active) e = tt
plain-fits (BackupEnd start) e = tt
plain-fits (Parameters connections processes senders prepared locks level) e = tt
plain-fits (FullPageWrites on) e = tt
plain-fits Images e = tt
plain-fits (Overwrite given_up time) e = tt
plain-fits (Ended time xinfo xids files) e = tt
plain-fits (Assignment top xids) e = tt
plain-fits (Running tops subs overflow next oldest latest xids) e = tt
plain-fits (Insert line flags) e = tt
plain-fits (Delete xmax line bits flags) e = absurd (false≢true e)
plain-fits (Update old_xmax old_line old_bits flags new_xmax new_line) e = absurd (false≢true e)
plain-fits (Confirm line) e = tt
plain-fits (Lock xmax line bits flags) e = absurd (false≢true e)
plain-fits (MultiInsert flags lines) e = tt
plain-fits (LockUpdated xmax line bits flags) e = absurd (false≢true e)
plain-fits (Prune horizon catalogue redirected died freed) e = absurd (false≢true e)
plain-fits (Vacuum freed) e = absurd (false≢true e)
plain-fits (Freeze horizon catalogue plans) e = absurd (false≢true e)
plain-fits (Visible horizon flags) e = absurd (false≢true e)
plain-fits (Truncate block locator flags) e = absurd (false≢true e)
plain-fits (Locks entries) e = tt
plain-fits (Multixact id offset members) e = absurd (false≢true e)
plain-fits Other e = tt

plain : {E : Type 0} (kind : RecKind) → is_plain kind ≡ true → Has {E = E} KindFits (Ok kind)
plain kind e = given KindFits kind (plain-fits kind e)

deleted : {E : Type 0} (main : List ℕ) → AreBytes main
    → Has {E = E} KindFits (Ok (Delete (xid_at main 0) (number_at 2 main 4) (slice_index main 6) (slice_index main 7)))
deleted main all = record { has = (four-fits main 0 all, one-fits main 6 all) }

replaced_by : {E : Type 0} (main : List ℕ) → AreBytes main
    → Has {E = E} KindFits (Ok (Update (xid_at main 0) (number_at 2 main 4) (slice_index main 6) (slice_index main 7) (xid_at main 8) (number_at 2 main 12)))
replaced_by main all = record { has = (four-fits main 0 all, (one-fits main 6 all, four-fits main 8 all)) }

locked : {E : Type 0} (main : List ℕ) → AreBytes main
    → Has {E = E} KindFits (Ok (Lock (xid_at main 0) (number_at 2 main 4) (slice_index main 6) (slice_index main 7)))
locked main all = record { has = (four-fits main 0 all, one-fits main 6 all) }

locked_too : {E : Type 0} (main : List ℕ) → AreBytes main
    → Has {E = E} KindFits (Ok (LockUpdated (xid_at main 0) (number_at 2 main 4) (slice_index main 6) (slice_index main 7)))
locked_too main all = record { has = (four-fits main 0 all, one-fits main 6 all) }

checkpoint-fits : (main : List ℕ) → Has KindFits (checkpoint main)
unfolding checkpoint
checkpoint-fits main = search (either, refused, plain)

backup_end-fits : (main : List ℕ) → Has KindFits (backup_end main)
unfolding backup_end
backup_end-fits main = search (either, refused, plain)

parameters-fits : (main : List ℕ) → Has KindFits (parameters main)
unfolding parameters
parameters-fits main = search (either, refused, plain)

page_writes-fits : (main : List ℕ) → Has KindFits (page_writes main)
unfolding page_writes
page_writes-fits main = search (either, refused, plain)

overwrite-fits : (main : List ℕ) → Has KindFits (overwrite main)
unfolding overwrite
overwrite-fits main = search (either, refused, plain)

xlog-fits : (info : ℕ) (main : List ℕ) → Has KindFits (xlog_kind info main)
unfolding xlog_kind
xlog-fits info main = search (either, refused, plain, checkpoint-fits, backup_end-fits, parameters-fits, page_writes-fits, overwrite-fits) depth 12

ended-fits : (info : ℕ) (main : List ℕ) → Has KindFits (ended info main)
unfolding ended
ended-fits info main =
    free KindFits (time_from main) _ (λ time. free KindFits (xinfo_from info time.1) _ (λ xinfo. free KindFits (parts_by xinfo.0 xinfo.1) _ (λ parts. plain (Ended time.0 xinfo.0 parts.0 parts.1) refl)))

assignment-fits : (main : List ℕ) → Has KindFits (assignment main)
unfolding assignment
assignment-fits main =
    free KindFits (needed_number 4 main) _
    (λ top. free KindFits (counted_xids top.1) _ (λ subs. plain (Assignment (record { 0 = top.0 }) subs.0) refl))

xact-fits : (info : ℕ) (main : List ℕ) → Has KindFits (xact_kind info main)
unfolding xact_kind
xact-fits info main = search (either, refused, plain, ended-fits, assignment-fits) depth 12

running-fits : (main : List ℕ) → Has KindFits (running main)
unfolding running
running-fits main = search (either, refused, plain)

locks-fits : (main : List ℕ) → Has KindFits (locks main)
unfolding locks
locks-fits main = free KindFits (count_from main) _ (λ count. search (either, refused, plain))

standby-fits : (info : ℕ) (main : List ℕ) → Has KindFits (standby_kind info main)
unfolding standby_kind
standby-fits info main = search (either, plain, locks-fits, running-fits) depth 12

database-fits : (database : ℕ) (info : ℕ) (main : List ℕ) → Has KindFits (database_kind database info main)
unfolding database_kind
database-fits database info main = search (either, refused, plain)

truncated : {E : Type 0} (main : List ℕ) (locator : Locator) (flags : ℤ) → AreBytes main
    → Has {E = E} KindFits (Ok (Truncate (number_at 4 main 0) locator flags))
truncated main locator flags all = record { has = four-fits main 0 all }

storage-fits : (info : ℕ) (main : List ℕ) → AreBytes main → Has KindFits (storage_kind info main)
unfolding storage_kind
storage-fits info main all = search (either, refused, plain, truncated)

members-fit : (bytes : List ℕ) (at n : ℕ) → AreBytes bytes → All MemberFits (members_at bytes at n)
unfolding members_at
members-fit bytes at zero all = All-nil MemberFits
members-fit bytes at (suc n) all =
    All-cons MemberFits (record { xid = xid_at bytes at; status = number_at 4 bytes (at + 4) }) (members_at bytes (at + 8) n)
    (record { xid = four-fits bytes at all; status = four-fits bytes (at + 4) all }) (members-fit bytes (at + 8) n all)

made : {E : Type 0} (main : List ℕ) (count : ℕ) → AreBytes main
    → Has {E = E} KindFits (Ok (Multixact (number_at 4 main 0) (number_at 4 main 4) (members_at main 12 count)))
made main count all = record { has = (four-fits main 0 all, (four-fits main 4 all, members-fit main 12 count all)) }

multixact-fits : (main : List ℕ) → AreBytes main → Has KindFits (multixact main)
unfolding multixact
multixact-fits main all = search (either, refused, made)

multixact_kind-fits : (info : ℕ) (main : List ℕ) → AreBytes main → Has KindFits (multixact_kind info main)
unfolding multixact_kind
multixact_kind-fits info main all = search (either, plain, multixact-fits)

insert-fits : (main : List ℕ) → Has KindFits (insert main)
unfolding insert
insert-fits main = search (either, refused, plain)

delete-fits : (main : List ℕ) → AreBytes main → Has KindFits (delete main)
unfolding delete
delete-fits main all = search (either, refused, deleted)

update-fits : (main : List ℕ) → AreBytes main → Has KindFits (update main)
unfolding update
update-fits main all = search (either, refused, replaced_by)

confirm-fits : (main : List ℕ) → Has KindFits (confirm main)
unfolding confirm
confirm-fits main = search (either, refused, plain)

lock-fits : (main : List ℕ) → AreBytes main → Has KindFits (lock main)
unfolding lock
lock-fits main all = search (either, refused, locked)

lock_updated-fits : (main : List ℕ) → AreBytes main → Has KindFits (lock_updated main)
unfolding lock_updated
lock_updated-fits main all = search (either, refused, locked_too)

multi_insert-fits : (main : List ℕ) (will_init : Bool) → Has KindFits (multi_insert main will_init)
unfolding multi_insert
multi_insert-fits main will_init = search (either, refused, plain)

in_place-fits : (known : List Locator) (block : Option Block) → Has KindFits (in_place known block)
unfolding in_place
in_place-fits known None = plain Other refl
in_place-fits known (Some block) = search (either, refused, plain)

heap-fits : (source : Record) (known : List Locator) → AreBytes source.main → Has KindFits (heap_kind source known)
unfolding heap_kind
heap-fits source known all =
    search (either, plain, insert-fits, delete-fits, update-fits, confirm-fits, lock-fits, in_place-fits) depth 12

multi_insert_of-fits : (source : Record) → Has KindFits (multi_insert_of source)
unfolding multi_insert_of
multi_insert_of-fits source =
    free KindFits (needed (main_block 0 source)) _ (λ block. multi_insert-fits source.main block.will_init)

-- lists of lines

lines-fit : (bytes : List ℕ) (at n : ℕ) → AreBytes bytes → All LineFits (lines_at bytes at n)
unfolding lines_at
lines-fit bytes at zero all = All-nil LineFits
lines-fit bytes at (suc n) all =
    All-cons LineFits (number_at 2 bytes at) (lines_at bytes (at + 2) n) (two-fits bytes at all) (lines-fit bytes (at + 2) n all)

redirects-fit : (bytes : List ℕ) (at n : ℕ) → AreBytes bytes → All RedirectFits (redirects_at bytes at n)
unfolding redirects_at
redirects-fit bytes at zero all = All-nil RedirectFits
redirects-fit bytes at (suc n) all =
    All-cons RedirectFits (record { from = number_at 2 bytes at; to = number_at 2 bytes (at + 2) }) (redirects_at bytes (at + 4) n)
    (record { from = two-fits bytes at all; to = two-fits bytes (at + 2) all }) (redirects-fit bytes (at + 4) n all)

plans-fit : (bytes : List ℕ) (at lines n : ℕ) → AreBytes bytes → All PlanFits (plans_at bytes at lines n)
unfolding plans_at
plans-fit bytes at lines zero all = All-nil PlanFits
plans-fit bytes at lines (suc n) all =
    All-cons PlanFits
    (record {
      xmax = xid_at bytes at;
      mask2 = number_at 2 bytes (at + 4);
      mask = number_at 2 bytes (at + 6);
      flags = slice_index bytes (at + 8);
      lines = lines_at bytes lines (plan_count_at bytes at);
    })
    (plans_at bytes (at + 12) (lines + 2 * plan_count_at bytes at) n)
    (record {
      xmax = four-fits bytes at all;
      mask2 = two-fits bytes (at + 4) all;
      mask = two-fits bytes (at + 6) all;
      flags = one-fits bytes (at + 8) all;
      lines = lines-fit bytes lines (plan_count_at bytes at) all;
    })
    (plans-fit bytes (at + 12) (lines + 2 * plan_count_at bytes at) n all)

-- removals and freezing

pruned : {E : Type 0} (main : List ℕ) (catalogue : ℕ) (text : List ℕ) (redirected dead_at died freed_at freed : ℕ) → AreBytes main → AreBytes text
    → Has {E = E} KindFits (Ok (Prune (xid_at main 0) catalogue (redirects_at text 0 redirected) (lines_at text dead_at died) (lines_at text freed_at freed)))
pruned main catalogue text redirected dead_at died freed_at freed all behind = record {
  has = record {
    xid = four-fits main 0 all;
    redirects = redirects-fit text 0 redirected behind;
    dead = lines-fit text dead_at died behind;
    unused = lines-fit text freed_at freed behind;
  };
}

prune_lists-fits : (main : List ℕ) (redirected died : ℕ) (text : List ℕ) → AreBytes main → AreBytes text → Has KindFits (prune_lists main redirected died text)
unfolding prune_lists
prune_lists-fits main redirected died text all behind = search (either, refused, pruned)

prune_with-fits : (main : List ℕ) (applied : Bool) (text : List ℕ) → AreBytes main → AreBytes text → Has KindFits (prune_with main applied text)
prune_with-fits main true text all behind = record {
  has = record { xid = four-fits main 0 all; redirects = All-nil RedirectFits; dead = All-nil LineFits; unused = All-nil LineFits };
}
prune_with-fits main false text all behind = prune_lists-fits main (number_at 2 main 4) (number_at 2 main 6) text all behind

prune-fits : (main : List ℕ) (block : Block) → AreBytes main → AreBytes block.payload → Has KindFits (prune main block)
unfolding prune
prune-fits main block all behind = search (either, refused, prune_with-fits)

vacuumed : {E : Type 0} (count : ℕ) (text : List ℕ) → AreBytes text → Has {E = E} KindFits (Ok (Vacuum (lines_at text 0 count)))
vacuumed count text behind = record { has = lines-fit text 0 count behind }

vacuum_lines-fits : (count : ℕ) (text : List ℕ) → AreBytes text → Has KindFits (vacuum_lines count text)
unfolding vacuum_lines
vacuum_lines-fits count text behind = search (either, refused, vacuumed)

vacuum_with-fits : (main : List ℕ) (applied : Bool) (text : List ℕ) → AreBytes text → Has KindFits (vacuum_with main applied text)
vacuum_with-fits main true text behind = record { has = All-nil LineFits }
vacuum_with-fits main false text behind = vacuum_lines-fits (number_at 2 main 0) text behind

vacuum-fits : (main : List ℕ) (block : Block) → AreBytes main → AreBytes block.payload → Has KindFits (vacuum main block)
unfolding vacuum
vacuum-fits main block all behind = search (either, refused, vacuum_with-fits)

frozen : {E : Type 0} (main : List ℕ) (catalogue : ℕ) (text : List ℕ) (lines count : ℕ) → AreBytes main → AreBytes text
    → Has {E = E} KindFits (Ok (Freeze (xid_at main 0) catalogue (plans_at text 0 lines count)))
frozen main catalogue text lines count all behind = record { has = (four-fits main 0 all, plans-fit text 0 lines count behind) }

freeze_plans-fits : (main : List ℕ) (count : ℕ) (text : List ℕ) → AreBytes main → AreBytes text → Has KindFits (freeze_plans main count text)
unfolding freeze_plans
freeze_plans-fits main count text all behind = search (either, refused, frozen)

freeze_with-fits : (main : List ℕ) (applied : Bool) (text : List ℕ) → AreBytes main → AreBytes text → Has KindFits (freeze_with main applied text)
freeze_with-fits main true text all behind = record { has = (four-fits main 0 all, All-nil PlanFits) }
freeze_with-fits main false text all behind = freeze_plans-fits main (number_at 2 main 4) text all behind

freeze-fits : (main : List ℕ) (block : Block) → AreBytes main → AreBytes block.payload → Has KindFits (freeze main block)
unfolding freeze
freeze-fits main block all behind = search (either, refused, freeze_with-fits)

seen : {E : Type 0} (main : List ℕ) (flags : ℕ) → AreBytes main → Has {E = E} KindFits (Ok (Visible (xid_at main 0) flags))
seen main flags all = record { has = four-fits main 0 all }

visible-fits : (main : List ℕ) → AreBytes main → Has KindFits (visible main)
unfolding visible
visible-fits main all = search (either, refused, seen)

-- a kind that is read of main data and of the block that the record has to have
by_block-fits : (read : List ℕ → Block → _) (source : Record) → IsOfBytes source
    → ((main : List ℕ) (block : Block) → AreBytes main → AreBytes block.payload → Has KindFits (read main block)) → Has KindFits (by_block read source)
unfolding by_block
by_block-fits read source is fit =
    bound IsBlockOfBytes KindFits (needed (main_block 0 source)) _ (needed-is IsBlockOfBytes (main_block 0 source) (main-is 0 source is)) (λ block of. fit source.main block is.main of.payload)

pruned-fits : (source : Record) → IsOfBytes source → Has KindFits (by_block prune source)
pruned-fits source is = by_block-fits prune source is prune-fits

vacuumed-fits : (source : Record) → IsOfBytes source → Has KindFits (by_block vacuum source)
vacuumed-fits source is = by_block-fits vacuum source is vacuum-fits

frozen-fits : (source : Record) → IsOfBytes source → Has KindFits (by_block freeze source)
frozen-fits source is = by_block-fits freeze source is freeze-fits

heap2-parts : (source : Record) → IsOfBytes source → AreBytes source.main → Has KindFits (heap2_kind source)
unfolding heap2_kind
heap2-parts source is all =
    search (either, plain, pruned-fits, vacuumed-fits, frozen-fits, visible-fits, multi_insert_of-fits, lock_updated-fits) depth 12

heap2-fits : (source : Record) → IsOfBytes source → Has KindFits (heap2_kind source)
heap2-fits source is = heap2-parts source is is.main

kind-parts : (source : Record) (database : ℕ) (known : List Locator) → IsOfBytes source → AreBytes source.main → Has KindFits (kind_of source database known)
unfolding kind_of
kind-parts source database known is all =
    search (either, plain, xlog-fits, xact-fits, storage-fits, multixact_kind-fits, database-fits, standby-fits, heap2-fits, heap-fits) depth 16

kind-fits : (source : Record) (database : ℕ) (known : List Locator) → IsOfBytes source → Has KindFits (kind_of source database known)
kind-fits source database known is = kind-parts source database known is is.main

-- the tuples

tuple-fits : (bytes : List ℕ) (at prefix suffix : ℕ) (rest : List ℕ) → AreBytes bytes → AreBytes rest → TupleFits (tuple_with bytes at prefix suffix rest)
tuple-fits bytes at prefix suffix rest all behind = record {
  mask2 = two-fits bytes at all;
  mask = two-fits bytes (at + 2) all;
  hoff = one-fits bytes (at + 4) all;
  rest = behind;
}

one-tuple : {E : Type 0} (tuple : NewTuple) → TupleFits tuple → Has {E = E} (All TupleFits) (Ok (tuple ∷ []))
one-tuple tuple h = given (All TupleFits) (tuple ∷ []) (All-cons TupleFits tuple [] h (All-nil TupleFits))

no-tuple : {E : Type 0} → Has {E = E} (All TupleFits) (Ok [])
no-tuple = given (All TupleFits) [] (All-nil TupleFits)

whole-tuple : {E : Type 0} (prefix suffix : ℕ) (bytes : List ℕ) → AreBytes bytes → Has {E = E} (All TupleFits) (Ok (tuple_with bytes 0 prefix suffix (drop 5 bytes) ∷ []))
whole-tuple prefix suffix bytes all = one-tuple _ (tuple-fits bytes 0 prefix suffix (drop 5 bytes) all (drop-are 5 bytes all))

inserted-fit : (bytes : List ℕ) → AreBytes bytes → Has (All TupleFits) (inserted bytes)
unfolding inserted
inserted-fit bytes all = search (either, refused, whole-tuple)

replaced-fit : (prefix suffix : ℕ) (bytes : List ℕ) → AreBytes bytes → Has (All TupleFits) (replaced prefix suffix bytes)
unfolding replaced
replaced-fit prefix suffix bytes all = search (either, refused, whole-tuple)

-- what stands behind a number that was read is bytes
abbrev LeavesBytes : ℕ × List ℕ → Type 0
LeavesBytes x = AreBytes x.1

number-leaves : (n : ℕ) (bytes : List ℕ) → AreBytes bytes → Has LeavesBytes (needed_number n bytes)
unfolding needed_number number_from
number-leaves n bytes all =
    needed-is LeavesBytes (number_from n bytes)
    (cond_both (nat_lt (length bytes) n) None (Some (number_at n bytes 0, drop n bytes)) (λ found. IfSome found LeavesBytes) (λ _. tt) (λ _. drop-are n bytes all))

none-given : {E : Type 0} (bytes : List ℕ) → AreBytes bytes → Has {E = E} LeavesBytes (Ok (0, bytes))
none-given bytes all = record { has = all }

length-leaves : (flags flag : ℕ) (bytes : List ℕ) → AreBytes bytes → Has LeavesBytes (length_from flags flag bytes)
unfolding length_from
length-leaves flags flag bytes all = search (either, number-leaves, none-given)

updated-fit : (flags : ℕ) (bytes : List ℕ) → AreBytes bytes → Has (All TupleFits) (updated flags bytes)
unfolding updated
updated-fit flags bytes all =
    bound LeavesBytes (All TupleFits) (length_from flags 0x20 bytes) _ (length-leaves flags 0x20 bytes all) (λ prefix first.
    bound LeavesBytes (All TupleFits) (length_from flags 0x40 prefix.1) _ (length-leaves flags 0x40 prefix.1 first) (λ suffix second.
    replaced-fit prefix.0 suffix.0 suffix.1 second))

abbrev FirstFits : NewTuple × ℕ → Type 0
FirstFits x = TupleFits x.0

listed-given : {E : Type 0} (bytes : List ℕ) (at : ℕ) → AreBytes bytes
    → Has {E = E} FirstFits (Ok (tuple_with bytes (at + 2) 0 0 (take (number_at 2 bytes at) (drop (at + 7) bytes)), at + 7 + number_at 2 bytes at))
listed-given bytes at all =
    let size = number_at 2 bytes at in
    record { has = tuple-fits bytes (at + 2) 0 0 (take size (drop (at + 7) bytes)) all (take-are size (drop (at + 7) bytes) (drop-are (at + 7) bytes all)) }

listed_at-fits : (bytes : List ℕ) (at : ℕ) → AreBytes bytes → Has FirstFits (listed_at bytes at)
unfolding listed_at
listed_at-fits bytes at all = search (either, refused, listed-given)

listed-fit : (bytes : List ℕ) (at n : ℕ) → AreBytes bytes → Has (All TupleFits) (listed_from bytes at n)
unfolding listed_from
listed-fit bytes at zero all = no-tuple
listed-fit bytes at (suc n) all =
    bound FirstFits (All TupleFits) (listed_at bytes (even_from at)) _ (listed_at-fits bytes (even_from at) all) (λ first fits.
    bound (All TupleFits) (All TupleFits) (listed_from bytes first.1 n) _ (listed-fit bytes first.1 n all) (λ others rest.
    given (All TupleFits) (first.0 ∷ others) (All-cons TupleFits first.0 others fits rest)))

data-fit : (block : Block) (read : List ℕ → _) → Has (All TupleFits) (read block.payload) → Has (All TupleFits) (in_data block read)
data-fit block read h = either (All TupleFits) (is_applied block.image) (Ok []) (read block.payload) no-tuple h

-- the tuples that are read of the block that a record has to have
in_block : (source : Record) (f : Block → _) → IsOfBytes source → ((block : Block) → AreBytes block.payload → Has (All TupleFits) (f block))
    → Has (All TupleFits) (needed (main_block 0 source) >>= f)
in_block source f is h =
    bound IsBlockOfBytes (All TupleFits) (needed (main_block 0 source)) f (needed-is IsBlockOfBytes (main_block 0 source) (main-is 0 source is)) (λ block of. h block of.payload)

insert_tuples-fit : (source : Record) → IsOfBytes source → Has (All TupleFits) (insert_tuples source)
unfolding insert_tuples
insert_tuples-fit source is = in_block source _ is (λ block all. data-fit block (λ bytes. inserted bytes) (inserted-fit block.payload all))

multi_tuples-fit : (count : ℕ) (source : Record) → IsOfBytes source → Has (All TupleFits) (multi_tuples count source)
unfolding multi_tuples
multi_tuples-fit count source is = in_block source _ is (λ block all. data-fit block (λ bytes. listed_from bytes 0 count) (listed-fit block.payload 0 count all))

update-given : (flags : ℕ) (block : Block) → AreBytes block.payload → Has (All TupleFits) (in_data block (λ bytes. updated flags bytes))
update-given flags block all = data-fit block (λ bytes. updated flags bytes) (updated-fit flags block.payload all)

update_tuples-fit : (flags : ℕ) (source : Record) → IsOfBytes source → Has (All TupleFits) (update_tuples flags source)
unfolding update_tuples
update_tuples-fit flags source is =
    in_block source _ is (λ block all. search (either, refused, update-given))

no_tuples-fit : (source : Record) → IsOfBytes source → Has (All TupleFits) (no_tuples source)
unfolding no_tuples
no_tuples-fit source is = in_block source _ is (λ block all. no-tuple)

tuples-fit : (kind : RecKind) (source : Record) → IsOfBytes source → Has (All TupleFits) (tuples_of kind source)
unfolding tuples_of
tuples-fit (Checkpoint redo timeline previous writes next multi member oldest active) source is = no-tuple
tuples-fit (BackupEnd start) source is = no-tuple
tuples-fit (Parameters connections processes senders prepared locks level) source is = no-tuple
tuples-fit (FullPageWrites on) source is = no-tuple
tuples-fit Images source is = no-tuple
tuples-fit (Overwrite given_up time) source is = no-tuple
tuples-fit (Ended time xinfo xids files) source is = no-tuple
tuples-fit (Assignment top xids) source is = no-tuple
tuples-fit (Running tops subs overflow next oldest latest xids) source is = no-tuple
tuples-fit (Insert line flags) source is = insert_tuples-fit source is
tuples-fit (Delete xmax line bits flags) source is = no_tuples-fit source is
tuples-fit (Update old_xmax old_line old_bits flags new_xmax new_line) source is = update_tuples-fit flags source is
tuples-fit (Confirm line) source is = no_tuples-fit source is
tuples-fit (Lock xmax line bits flags) source is = no_tuples-fit source is
tuples-fit (MultiInsert flags lines) source is = multi_tuples-fit (length lines) source is
tuples-fit (LockUpdated xmax line bits flags) source is = no_tuples-fit source is
tuples-fit (Prune horizon catalogue redirected died freed) source is = no_tuples-fit source is
tuples-fit (Vacuum freed) source is = no_tuples-fit source is
tuples-fit (Freeze horizon catalogue plans) source is = no_tuples-fit source is
tuples-fit (Visible horizon flags) source is = no-tuple
tuples-fit (Truncate block locator flags) source is = no-tuple
tuples-fit (Locks entries) source is = no-tuple
tuples-fit (Multixact id offset members) source is = no-tuple
tuples-fit Other source is = no-tuple

-- the blocks

image-fits : (image : Option Image) → IfSome image (λ image. AreBytes image.bytes) → ImageFits (option_map image_of image)
image-fits None h = tt
image-fits (Some image) h = h

block-fits : (tuples : List NewTuple) (block : Block) → All TupleFits tuples → IsBlockOfBytes block → BlockFits (block_with tuples block)
block-fits tuples block fit is = record { number = is.number; image = image-fits block.image is.image; tuples = fit }

listed_block-fits : (tuples : List NewTuple) (block : Option Block) → All TupleFits tuples → IfSome block IsBlockOfBytes → All BlockFits (listed_block tuples block)
listed_block-fits tuples None fit h = All-nil BlockFits
listed_block-fits tuples (Some block) fit h =
    All-cons BlockFits (block_with tuples block) [] (block-fits tuples block fit h) (All-nil BlockFits)

blocks_from-fit : (source : Record) (id n : ℕ) → IsOfBytes source → All BlockFits (blocks_from source id n)
unfolding blocks_from
blocks_from-fit source id zero is = All-nil BlockFits
blocks_from-fit source id (suc n) is =
    All-append BlockFits (listed_block [] (main_block id source)) (blocks_from source (id + 1) n)
    (listed_block-fits [] (main_block id source) (All-nil TupleFits) (main-is id source is)) (blocks_from-fit source (id + 1) n is)

blocks-fit : (n : ℕ) (tuples : List NewTuple) (source : Record) → All TupleFits tuples → IsOfBytes source → All BlockFits (blocks_of n tuples source)
unfolding blocks_of
blocks-fit zero tuples source fit is = All-nil BlockFits
blocks-fit (suc n) tuples source fit is =
    All-append BlockFits (listed_block tuples (main_block 0 source)) (blocks_from source 1 n)
    (listed_block-fits tuples (main_block 0 source) fit (main-is 0 source is)) (blocks_from-fit source 1 n is)

-- those of a kind, which are those whose id is below a number, but of a visibility record block 1 alone
blocks_as-fit : (kind : RecKind) (tuples : List NewTuple) (source : Record) → All TupleFits tuples → IsOfBytes source → All BlockFits (blocks_as kind tuples source)
unfolding blocks_as
blocks_as-fit (Checkpoint redo timeline previous writes next multi member oldest active) tuples source fit is = blocks-fit (ids_of (Checkpoint redo timeline previous writes next multi member oldest active)) tuples source fit is
blocks_as-fit (BackupEnd start) tuples source fit is = blocks-fit (ids_of (BackupEnd start)) tuples source fit is
blocks_as-fit (Parameters connections processes senders prepared locks level) tuples source fit is = blocks-fit (ids_of (Parameters connections processes senders prepared locks level)) tuples source fit is
blocks_as-fit (FullPageWrites on) tuples source fit is = blocks-fit (ids_of (FullPageWrites on)) tuples source fit is
blocks_as-fit Images tuples source fit is = blocks-fit (ids_of Images) tuples source fit is
blocks_as-fit (Overwrite given_up time) tuples source fit is = blocks-fit (ids_of (Overwrite given_up time)) tuples source fit is
blocks_as-fit (Ended time xinfo xids files) tuples source fit is = blocks-fit (ids_of (Ended time xinfo xids files)) tuples source fit is
blocks_as-fit (Assignment top xids) tuples source fit is = blocks-fit (ids_of (Assignment top xids)) tuples source fit is
blocks_as-fit (Running tops subs overflow next oldest latest xids) tuples source fit is = blocks-fit (ids_of (Running tops subs overflow next oldest latest xids)) tuples source fit is
blocks_as-fit (Insert line flags) tuples source fit is = blocks-fit (ids_of (Insert line flags)) tuples source fit is
blocks_as-fit (Delete xmax line bits flags) tuples source fit is = blocks-fit (ids_of (Delete xmax line bits flags)) tuples source fit is
blocks_as-fit (Update old_xmax old_line old_bits flags new_xmax new_line) tuples source fit is = blocks-fit (ids_of (Update old_xmax old_line old_bits flags new_xmax new_line)) tuples source fit is
blocks_as-fit (Confirm line) tuples source fit is = blocks-fit (ids_of (Confirm line)) tuples source fit is
blocks_as-fit (Lock xmax line bits flags) tuples source fit is = blocks-fit (ids_of (Lock xmax line bits flags)) tuples source fit is
blocks_as-fit (MultiInsert flags lines) tuples source fit is = blocks-fit (ids_of (MultiInsert flags lines)) tuples source fit is
blocks_as-fit (LockUpdated xmax line bits flags) tuples source fit is = blocks-fit (ids_of (LockUpdated xmax line bits flags)) tuples source fit is
blocks_as-fit (Prune horizon catalogue redirected died freed) tuples source fit is = blocks-fit (ids_of (Prune horizon catalogue redirected died freed)) tuples source fit is
blocks_as-fit (Vacuum freed) tuples source fit is = blocks-fit (ids_of (Vacuum freed)) tuples source fit is
blocks_as-fit (Freeze horizon catalogue plans) tuples source fit is = blocks-fit (ids_of (Freeze horizon catalogue plans)) tuples source fit is
blocks_as-fit (Visible horizon flags) tuples source fit is = blocks_from-fit source 1 1 is
blocks_as-fit (Truncate block locator flags) tuples source fit is = blocks-fit (ids_of (Truncate block locator flags)) tuples source fit is
blocks_as-fit (Locks entries) tuples source fit is = blocks-fit (ids_of (Locks entries)) tuples source fit is
blocks_as-fit (Multixact id offset members) tuples source fit is = blocks-fit (ids_of (Multixact id offset members)) tuples source fit is
blocks_as-fit Other tuples source fit is = blocks-fit (ids_of Other) tuples source fit is

-- where the kind names no block
none_named : (kind : RecKind) (tuples : List NewTuple) (source : Record) → ids_of kind ≡ 0 → blocks_as kind tuples source ≡ []
unfolding blocks_as blocks_of ids_of
none_named (Checkpoint redo timeline previous writes next multi member oldest active) tuples source e = refl
none_named (BackupEnd start) tuples source e = refl
none_named (Parameters connections processes senders prepared locks level) tuples source e = refl
none_named (FullPageWrites on) tuples source e = refl
none_named Images tuples source e = absurd (suc-ne-zero 32 e)
none_named (Overwrite given_up time) tuples source e = refl
none_named (Ended time xinfo xids files) tuples source e = refl
none_named (Assignment top xids) tuples source e = refl
none_named (Running tops subs overflow next oldest latest xids) tuples source e = refl
none_named (Insert line flags) tuples source e = absurd (suc-ne-zero 0 e)
none_named (Delete xmax line bits flags) tuples source e = absurd (suc-ne-zero 0 e)
none_named (Update old_xmax old_line old_bits flags new_xmax new_line) tuples source e = absurd (suc-ne-zero 1 e)
none_named (Confirm line) tuples source e = absurd (suc-ne-zero 0 e)
none_named (Lock xmax line bits flags) tuples source e = absurd (suc-ne-zero 0 e)
none_named (MultiInsert flags lines) tuples source e = absurd (suc-ne-zero 0 e)
none_named (LockUpdated xmax line bits flags) tuples source e = absurd (suc-ne-zero 0 e)
none_named (Prune horizon catalogue redirected died freed) tuples source e = absurd (suc-ne-zero 0 e)
none_named (Vacuum freed) tuples source e = absurd (suc-ne-zero 0 e)
none_named (Freeze horizon catalogue plans) tuples source e = absurd (suc-ne-zero 0 e)
none_named (Visible horizon flags) tuples source e = absurd (suc-ne-zero 1 e)
none_named (Truncate block locator flags) tuples source e = refl
none_named (Locks entries) tuples source e = refl
none_named (Multixact id offset members) tuples source e = refl
none_named Other tuples source e = refl

-- the whole record

abbrev PartsFit : RecKind × List RecBlock → Type 0
PartsFit x = KindFits x.0 × All BlockFits x.1 × (ids_of x.0 ≡ 0 → x.1 ≡ [])

parts-given : {E : Type 0} (kind : RecKind) (tuples : List NewTuple) (source : Record) → KindFits kind → All TupleFits tuples → IsOfBytes source
    → Has {E = E} PartsFit (Ok (kind, blocks_as kind tuples source))
parts-given kind tuples source one all is = record { has = (one, blocks_as-fit kind tuples source all is, none_named kind tuples source) }

read-fits : (source : Record) (database : ℕ) (known : List Locator) → IsOfBytes source → Has PartsFit (read_as source database known)
unfolding read_as
read-fits source database known is =
    bound KindFits PartsFit (kind_of source database known) _ (kind-fits source database known is) (λ kind one.
    bound (All TupleFits) PartsFit (tuples_of kind source) _ (tuples-fit kind source is) (λ tuples all.
    search (either, refused, parts-given)))

formed-fits : (head : RecordHead) (start end : Lsn) (r : _) → head.xid.0 < 2 ^ 32 → Has PartsFit r → IfOk (formed head start end r) RecordFits
formed-fits head start end (Ok x) xid h = record { xid = xid; kind = h.has.0; blocks = h.has.1; blockless = h.has.2 }
formed-fits head start end (Err refusal) xid h = tt

pub typed-fits : TypedFits
unfolding typed
typed-fits source start end database known rec is e =
    IfOk-at_ok RecordFits e (formed-fits source.head start end (read_as source database known) is.xid (read-fits source database known is))
