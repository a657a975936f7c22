-- The transaction ids of a record's main data are of 32 bits.
use Rattle.std.proofs.Common.{◌≡◌, ℕ, zero, suc, ◌+◌, ◌<◌, ◌==◌, Bool, true, false, cond, not, nat_le, nat_lt, length, List, [], ◌∷◌, All, drop, slice_index, Option, Some, None, Result, Ok, Err, IfOk, refl, sym, subst, arith}
use Rattle.std.specs.List.{list_any}
use Rattle.std.proofs.lemmas.Bool.{cond_both, leb-false, or_parts}
use Rattle.std.proofs.lemmas.List.Elements.{All-cons, All-head, All-nil}
use Rattle.pg_types.specs.Bytes.{AreBytes}
use Rattle.pg_types.specs.Numbers.{number_at}
use Rattle.pg_types.specs.declared.names.Lsn.{Lsn}
use Rattle.pg_types.specs.declared.names.Tli.{Tli}
use Rattle.pg_types.specs.declared.names.Xid.{Xid}
use Rattle.wal_record.specs.declared.types.RecordHead.{RecordHead}
use Rattle.pg_types.specs.declared.names.Locator.{Locator}
use Rattle.wal_record.specs.Record.{Block, Record}
use Rattle.typed_records.specs.declared.types.BodyFault.{BodyFault}
use Rattle.typed_records.specs.declared.types.BodyFault.TheVariants.{Length, Unsupported}
use Rattle.typed_records.specs.declared.types.What.TheVariants.{Epoch}
use Rattle.typed_records.specs.declared.types.RecKind.{RecKind}
use Rattle.typed_records.specs.declared.types.RecKind.TheVariants.{Assignment, Checkpoint, Ended, Running}
use Rattle.wal_bodies.specs.Fields.{◌>>=◌, main_block, needed, needed_number, xid_at, xids_at}
use Rattle.wal_bodies.specs.Kinds.{assignment, backup_end, checkpoint, counted_xids, database_kind, ended, kind_of, locks, count_from, multixact, multixact_kind, overwrite, page_writes, parameters, parts_by, running, standby_kind, storage_kind, time_from, xact_kind, xinfo_from, xlog_kind}
use Rattle.wal_bodies.specs.HeapKinds.{by_block, confirm, delete, freeze, freeze_plans, freeze_with, heap2_kind, heap_kind, in_place, insert, lock, lock_updated, multi_insert, multi_insert_of, prune, prune_lists, prune_with, update, vacuum, vacuum_lines, vacuum_with, visible}
use Rattle.wal_bodies.specs.Typed.{listed_in, is_last, names_last}
use Rattle.wal_bodies.specs.Xids.{IsShort, kind_xids, record_xids}
use Rattle.wal_record.specs.Parts.{number_from}
use Rattle.pg_types.proofs.Bytes.{bytes-are, number-fits}

-- ids that stand one after another
pub xids_short : (bytes : List ℕ) (at n : ℕ) → AreBytes bytes → All IsShort (xids_at bytes at n)
unfolding xids_at
xids_short bytes at zero all = All-nil IsShort
xids_short bytes at (suc n) all =
    All-cons IsShort (xid_at bytes at) (xids_at bytes (at + 4) n) (number-fits 4 bytes at all) (xids_short bytes (at + 4) n all)

-- the ids of a running record, the top transaction of an assignment and the next one of a checkpoint; those that ended or
-- were assigned are looked at apart
abbrev told_xids : RecKind → List Xid
told_xids (Running tops subs overflow next oldest latest xids) = next ∷ oldest ∷ latest ∷ xids
told_xids (Assignment top xids) = top ∷ []
told_xids (Checkpoint redo timeline previous writes next multi member oldest active) = next ∷ []
told_xids _ = []

record Fits (r : Result RecKind BodyFault) : Type 0 where
  fits : IfOk r (λ kind. All IsShort (told_xids kind))

refused : (refusal : BodyFault) → Fits (Err refusal)
refused refusal = record { fits = tt }

none : (kind : RecKind) → told_xids kind ≡ [] → Fits (Ok kind)
none kind e = record { fits = subst (All IsShort) (sym e) (All-nil IsShort) }

bound : {A : Type 0} (r : Result A BodyFault) (f : A → Result RecKind BodyFault) → ((x : A) → Fits (f x)) → Fits (r >>= f)
bound (Err refusal) f h = refused refusal
bound (Ok x) f h = h x

either : (b : Bool) (x y : Result RecKind BodyFault) → Fits x → Fits y → Fits (cond b x y)
either b x y f g = cond_both b x y Fits (λ _. f) (λ _. g)

next_fits : (next : ℕ) (redo : Lsn) (timeline previous : Tli) (writes : Bool) (multi member oldest : ℕ) (active : Xid)
    → Fits (cond (nat_le 4294967296 next) (Err (Unsupported Epoch)) (Ok (Checkpoint redo timeline previous writes (record { 0 = next }) multi member oldest active)))
next_fits next redo timeline previous writes multi member oldest active =
    cond_both (nat_le 4294967296 next) (Err (Unsupported Epoch)) (Ok (Checkpoint redo timeline previous writes (record { 0 = next }) multi member oldest active)) Fits
    (λ _. refused (Unsupported Epoch))
    (λ e. record { fits = All-cons IsShort (record { 0 = next }) [] (omega (arith, leb-false 4294967296 next e)) (All-nil IsShort) })

checkpoint_fits : (main : List ℕ) → Fits (checkpoint main)
unfolding checkpoint
checkpoint_fits main = search (either, refused, next_fits)

backup_end_fits : (main : List ℕ) → Fits (backup_end main)
unfolding backup_end
backup_end_fits main =
    search (either, refused, none)

parameters_fits : (main : List ℕ) → Fits (parameters main)
unfolding parameters
parameters_fits main =
    search (either, refused, none)

page_writes_fits : (main : List ℕ) → Fits (page_writes main)
unfolding page_writes
page_writes_fits main =
    search (either, refused, none)

overwrite_fits : (main : List ℕ) → Fits (overwrite main)
unfolding overwrite
overwrite_fits main =
    search (either, refused, none)

xlog_fits : (info : ℕ) (main : List ℕ) → Fits (xlog_kind info main)
unfolding xlog_kind
xlog_fits info main =
    search (either, refused, none, checkpoint_fits, backup_end_fits, parameters_fits, page_writes_fits, overwrite_fits) depth 12

ended_fits : (info : ℕ) (main : List ℕ) → Fits (ended info main)
unfolding ended
ended_fits info main =
    bound (time_from main) _ (λ time. bound (xinfo_from info time.1) _ (λ xinfo. bound (parts_by xinfo.0 xinfo.1) _ (λ parts. none _ refl)))

-- a number of four bytes at the front
assigned_fits :
    (main : List ℕ) (short : Bool) (top : ℕ) (f : ℕ × List ℕ → Result RecKind BodyFault) (rest : List ℕ)
    → Fits (f (top, rest)) → Fits (needed (cond short None (Some (top, rest))) >>= f)
assigned_fits main true top f rest fit = refused Length
assigned_fits main false top f rest fit = fit

assignment_fits : (main : List ℕ) → AreBytes main → Fits (assignment main)
unfolding assignment needed_number number_from
assignment_fits main all =
    assigned_fits main (nat_lt (length main) 4) (number_at 4 main 0) _ (drop 4 main)
    (bound (counted_xids (drop 4 main)) _
    (λ subs.
    record {
      fits =
          All-cons IsShort (record { 0 = number_at 4 main 0 }) [] (number-fits 4 main 0 all) (All-nil IsShort);
    }))

xact_fits : (info : ℕ) (main : List ℕ) → AreBytes main → Fits (xact_kind info main)
unfolding xact_kind
xact_fits info main all =
    search (either, refused, none, ended_fits, assignment_fits) depth 12

running_told : (tops subs : ℕ) (overflow : Bool) (next oldest latest : Xid) (xids : List Xid)
    → IsShort next → IsShort oldest → IsShort latest → All IsShort xids → Fits (Ok (Running tops subs overflow next oldest latest xids))
running_told tops subs overflow next oldest latest xids a b c d =
    record {
      fits =
          All-cons IsShort next (oldest ∷ latest ∷ xids) a
          (All-cons IsShort oldest (latest ∷ xids) b (All-cons IsShort latest xids c d));
    }

running_ok : (main : List ℕ) → AreBytes main
    → Fits (Ok (Running (number_at 4 main 0) (number_at 4 main 4) (not (slice_index main 8 == 0)) (xid_at main 12) (xid_at main 16) (xid_at main 20) (xids_at main 24 (number_at 4 main 0 + number_at 4 main 4))))
running_ok main all =
    running_told (number_at 4 main 0) (number_at 4 main 4) (not (slice_index main 8 == 0)) (xid_at main 12) (xid_at main 16) (xid_at main 20) (xids_at main 24 (number_at 4 main 0 + number_at 4 main 4))
    (number-fits 4 main 12 all) (number-fits 4 main 16 all) (number-fits 4 main 20 all) (xids_short main 24 (number_at 4 main 0 + number_at 4 main 4) all)

running_fits : (main : List ℕ) → AreBytes main → Fits (running main)
unfolding running
running_fits main all = search (either, refused, running_ok)

locks_fits : (main : List ℕ) → Fits (locks main)
unfolding locks
locks_fits main = bound (count_from main) _ (λ count. search (either, refused, none))

storage_fits : (info : ℕ) (main : List ℕ) → Fits (storage_kind info main)
unfolding storage_kind
storage_fits info main =
    search (either, refused, none)

standby_fits : (info : ℕ) (main : List ℕ) → AreBytes main → Fits (standby_kind info main)
unfolding standby_kind
standby_fits info main all =
    search (either, none, locks_fits, running_fits) depth 12

database_fits : (database info : ℕ) (main : List ℕ) → Fits (database_kind database info main)
unfolding database_kind
database_fits database info main =
    search (either, refused, none)

multixact_fits : (main : List ℕ) → Fits (multixact main)
unfolding multixact
multixact_fits main =
    search (either, refused, none)

multixact_kind_fits : (info : ℕ) (main : List ℕ) → Fits (multixact_kind info main)
unfolding multixact_kind
multixact_kind_fits info main =
    search (either, none, multixact_fits)

insert_fits : (main : List ℕ) → Fits (insert main)
unfolding insert
insert_fits main =
    search (either, refused, none)

delete_fits : (main : List ℕ) → Fits (delete main)
unfolding delete
delete_fits main =
    search (either, refused, none)

update_fits : (main : List ℕ) → Fits (update main)
unfolding update
update_fits main =
    search (either, refused, none)

confirm_fits : (main : List ℕ) → Fits (confirm main)
unfolding confirm
confirm_fits main =
    search (either, refused, none)

lock_fits : (main : List ℕ) → Fits (lock main)
unfolding lock
lock_fits main =
    search (either, refused, none)

lock_updated_fits : (main : List ℕ) → Fits (lock_updated main)
unfolding lock_updated
lock_updated_fits main =
    search (either, refused, none)

multi_insert_fits : (main : List ℕ) (will_init : Bool) → Fits (multi_insert main will_init)
unfolding multi_insert
multi_insert_fits main will_init =
    search (either, refused, none)

in_place_fits : (known : List Locator) (block : Option Block) → Fits (in_place known block)
unfolding in_place
in_place_fits known None = search none
in_place_fits known (Some block) = search (either, refused, none)

heap_fits : (rec : Record) (known : List Locator) → Fits (heap_kind rec known)
unfolding heap_kind
heap_fits rec known =
    search (either, none, insert_fits, delete_fits, update_fits, confirm_fits, lock_fits, in_place_fits) depth 12

multi_insert_of_fits : (rec : Record) → Fits (multi_insert_of rec)
unfolding multi_insert_of
multi_insert_of_fits rec = bound (needed (main_block 0 rec)) _ (λ block. multi_insert_fits rec.main block.will_init)

prune_lists_fits : (main : List ℕ) (redirected died : ℕ) (text : List ℕ) → Fits (prune_lists main redirected died text)
unfolding prune_lists
prune_lists_fits main redirected died text =
    search (either, refused, none)

prune_with_fits : (main : List ℕ) (applied : Bool) (text : List ℕ) → Fits (prune_with main applied text)
prune_with_fits main true text = none _ refl
prune_with_fits main false text = prune_lists_fits main (number_at 2 main 4) (number_at 2 main 6) text

prune_fits : (main : List ℕ) (block : Block) → Fits (prune main block)
unfolding prune
prune_fits main block =
    search (either, refused, prune_with_fits)

vacuum_lines_fits : (count : ℕ) (text : List ℕ) → Fits (vacuum_lines count text)
unfolding vacuum_lines
vacuum_lines_fits count text =
    search (either, refused, none)

vacuum_with_fits : (main : List ℕ) (applied : Bool) (text : List ℕ) → Fits (vacuum_with main applied text)
vacuum_with_fits main true text = none _ refl
vacuum_with_fits main false text = vacuum_lines_fits (number_at 2 main 0) text

vacuum_fits : (main : List ℕ) (block : Block) → Fits (vacuum main block)
unfolding vacuum
vacuum_fits main block =
    search (either, refused, vacuum_with_fits)

freeze_plans_fits : (main : List ℕ) (count : ℕ) (text : List ℕ) → Fits (freeze_plans main count text)
unfolding freeze_plans
freeze_plans_fits main count text =
    search (either, refused, none)

freeze_with_fits : (main : List ℕ) (applied : Bool) (text : List ℕ) → Fits (freeze_with main applied text)
freeze_with_fits main true text = none _ refl
freeze_with_fits main false text = freeze_plans_fits main (number_at 2 main 4) text

freeze_fits : (main : List ℕ) (block : Block) → Fits (freeze main block)
unfolding freeze
freeze_fits main block =
    search (either, refused, freeze_with_fits)

visible_fits : (main : List ℕ) → Fits (visible main)
unfolding visible
visible_fits main =
    search (either, refused, none)

by_block_fits : (read : List ℕ → Block → Result RecKind BodyFault) (rec : Record) → ((main : List ℕ) (block : Block) → Fits (read main block)) → Fits (by_block read rec)
unfolding by_block
by_block_fits read rec fit = bound (needed (main_block 0 rec)) _ (λ block. fit rec.main block)

pruned_fits : (rec : Record) → Fits (by_block prune rec)
pruned_fits rec = by_block_fits prune rec prune_fits

vacuumed_fits : (rec : Record) → Fits (by_block vacuum rec)
vacuumed_fits rec = by_block_fits vacuum rec vacuum_fits

frozen_fits : (rec : Record) → Fits (by_block freeze rec)
frozen_fits rec = by_block_fits freeze rec freeze_fits

heap2_fits : (rec : Record) → Fits (heap2_kind rec)
unfolding heap2_kind
heap2_fits rec =
    search (either, none, pruned_fits, vacuumed_fits, frozen_fits, visible_fits, multi_insert_of_fits, lock_updated_fits) depth 12

kind_fits : (rec : Record) (database : ℕ) (known : List Locator) → AreBytes rec.main → Fits (kind_of rec database known)
unfolding kind_of
kind_fits rec database known all =
    search (either, none, xlog_fits, xact_fits, storage_fits, multixact_kind_fits, database_fits, standby_fits, heap2_fits, heap_fits) depth 16

-- an id that is not the last one of the first epoch, or past it
below_last : (xid : Xid) → is_last xid ≡ false → IsShort xid
below_last xid e = omega (arith, leb-false 4294967295 xid.0 e)

none_last : (xids : List Xid) → list_any is_last xids ≡ false → All IsShort xids
none_last [] e = All-nil IsShort
none_last (xid ∷ xids) e =
    let parts = or_parts (is_last xid) (list_any is_last xids) e in
    All-cons IsShort xid xids (below_last xid parts.0) (none_last xids parts.1)

own_short : (head : RecordHead) (kind : RecKind) → names_last head kind ≡ false → IsShort head.xid
own_short head kind e = below_last head.xid (or_parts (is_last head.xid) (list_any is_last (listed_in kind)) e).0

all_short : (head : RecordHead) (kind : RecKind) → names_last head kind ≡ false → All IsShort (told_xids kind) → All IsShort (kind_xids kind)
all_short head (Ended time xinfo xids files) e told = none_last xids (or_parts (is_last head.xid) (list_any is_last xids) e).1
all_short head (Assignment top xids) e told =
    let parts = or_parts (is_last head.xid) (list_any is_last xids) e in
    All-cons IsShort top xids (All-head IsShort top [] told) (none_last xids parts.1)
all_short head (Running tops subs overflow next oldest latest xids) e told = told
all_short head (Checkpoint redo timeline previous writes next multi member oldest active) e told = told
all_short head _ e told = All-nil IsShort

-- of a kind that is read of main data which are bytes
kind_told : (kind : RecKind) → Fits (Ok kind) → All IsShort (told_xids kind)
kind_told kind h = h.fits

-- a record whose main data are bytes bears short ids, where it is not refused for one
pub record_short : (rec : Record) (database : ℕ) (known : List Locator) (kind : RecKind) → ((i : ℕ) → slice_index rec.main i < 256)
    → Ok kind ≡ kind_of rec database known → names_last rec.head kind ≡ false → All IsShort (record_xids rec.head kind)
record_short rec database known kind each is e =
    All-cons IsShort rec.head.xid (kind_xids kind) (own_short rec.head kind e)
    (all_short rec.head kind e (kind_told kind (subst Fits (sym is) (kind_fits rec database known (bytes-are rec.main each)))))
