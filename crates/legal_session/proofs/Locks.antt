-- The locks that a node keeps of a log, the oldest first and of all relations, are those of the log, the newest first and
-- table by table.
use Rattle.std.proofs.Common.{◌≡◌, Bool, true, false, not, cond, List, [], ◌∷◌, ◌++◌, map, filter, reverse, Option, Some, None, option_map, if◌then◌else◌, append-nil, append_assoc, refl, sym, ap, ◌∙◌}
use Rattle.std.proofs.lemmas.List.{map-append, reverse-append}
use Rattle.std.proofs.lemmas.List.Elements.{filter-append}
use Rattle.std.proofs.lemmas.Grind.{reverse_onto}
use Rattle.pg_types.specs.declared.names.Locator.{Locator}
use Rattle.pg_types.specs.declared.names.Lsn.{Lsn}
use Rattle.record_fields.specs.declared.entries.LockEntry.{LockEntry}
use Rattle.typed_records.specs.declared.types.Rec.{Rec}
use Rattle.recovery_conflict.specs.declared.locks.HeldLock.{HeldLock as NodeLock}
use Rattle.recovery_conflict.specs.Held.{entries_of, held_since as node_lock, is_of, keeps, last_of, locks_after}
use Rattle.row_model.specs.Locks.{HeldLock, entries_in, held_since, locks, releases}
use Rattle.row_model.specs.Origins.{LogOrigin}
use Rattle.legal_session.specs.AbstractStandby.{last_lock}
use Rattle.legal_session.specs.Represents.{locks_along}

-- a lock as a table's locks have it
abbrev pub as_held : NodeLock → HeldLock
as_held held = record { xid = held.entry.xid.0; since = held.since.0 }

abbrev is_own : LogOrigin → Locator → NodeLock → Bool
is_own o file held = is_of file.db (o.tables file).oid held.entry

-- the table's locks among these, the oldest first
abbrev own : LogOrigin → Locator → List NodeLock → List HeldLock
own o file held = map as_held (filter (is_own o file) held)

filter_reverse : {A : Type 0} (p : A → Bool) (xs : List A) → filter p (reverse xs) ≡ reverse (filter p xs)
filter_reverse p [] = refl
filter_reverse {A} p (x ∷ xs) =
    ap (filter p) (reverse_onto xs x [])
    ∙ filter-append p (reverse xs) (x ∷ [])
    ∙ ap (λ (ys : List A). ys ++ cond (p x) (x ∷ []) []) (filter_reverse p xs)
    ∙ last_one (p x)
  where
    last_one : (t : Bool) → reverse (filter p xs) ++ cond t (x ∷ []) [] ≡ reverse (cond t (x ∷ filter p xs) (filter p xs))
    last_one true = sym (reverse_onto (filter p xs) x [])
    last_one false = append-nil (reverse (filter p xs))

-- what a record tells
told_first :
    (start : Lsn) (entry : LockEntry) (t : Bool) (these : List NodeLock) (those : List LockEntry)
    → map as_held these ≡ map (held_since start.0) (map (λ (e : LockEntry). e.xid.0) those)
    → map as_held (cond t (node_lock start entry ∷ these) these)
    ≡ map (held_since start.0) (map (λ (e : LockEntry). e.xid.0) (cond t (entry ∷ those) those))
told_first start entry true these those rest = ap (λ (held : List HeldLock). held_since start.0 entry.xid.0 ∷ held) rest
told_first start entry false these those rest = rest

told_own :
    (o : LogOrigin) (file : Locator) (start : Lsn) (entries : List LockEntry)
    → own o file (map (node_lock start) entries)
    ≡ map (held_since start.0) (map (λ (e : LockEntry). e.xid.0) (filter (is_of file.db (o.tables file).oid) entries))
told_own o file start [] = refl
told_own o file start (entry ∷ entries) =
    told_first start entry (is_of file.db (o.tables file).oid entry) (filter (is_own o file) (map (node_lock start) entries))
    (filter (is_of file.db (o.tables file).oid) entries) (told_own o file start entries)

-- what a record leaves
kept_first :
    (o : LogOrigin) (file : Locator) (rec : Rec) (held : NodeLock) (t s : Bool) (others : List NodeLock) → keeps rec held ≡ t
    → is_own o file held ≡ s
    → own o file (filter (keeps rec) others) ≡ filter (λ h. not (releases rec h)) (own o file others)
    → own o file (cond t (held ∷ filter (keeps rec) others) (filter (keeps rec) others))
    ≡ filter (λ h. not (releases rec h)) (map as_held (cond s (held ∷ filter (is_own o file) others) (filter (is_own o file) others)))
kept_first o file rec held true true others e f rest =
    ap (λ (b : Bool). map as_held (cond b (held ∷ filter (is_own o file) (filter (keeps rec) others)) (filter (is_own o file) (filter (keeps rec) others)))) f
    ∙ ap (λ (hs : List HeldLock). as_held held ∷ hs) rest
    ∙ sym (ap (λ (b : Bool). cond b (as_held held ∷ filter (λ h. not (releases rec h)) (own o file others)) (filter (λ h. not (releases rec h)) (own o file others))) e)
kept_first o file rec held true false others e f rest =
    ap (λ (b : Bool). map as_held (cond b (held ∷ filter (is_own o file) (filter (keeps rec) others)) (filter (is_own o file) (filter (keeps rec) others)))) f
    ∙ rest
kept_first o file rec held false true others e f rest =
    rest
    ∙ sym (ap (λ (b : Bool). cond b (as_held held ∷ filter (λ h. not (releases rec h)) (own o file others)) (filter (λ h. not (releases rec h)) (own o file others))) e)
kept_first o file rec held false false others e f rest = rest

kept_own :
    (o : LogOrigin) (file : Locator) (rec : Rec) (held : List NodeLock)
    → own o file (filter (keeps rec) held) ≡ filter (λ h. not (releases rec h)) (own o file held)
kept_own o file rec [] = refl
kept_own o file rec (one ∷ others) =
    kept_first o file rec one (keeps rec one) (is_own o file one) others refl refl (kept_own o file rec others)

own_append : (o : LogOrigin) (file : Locator) (these those : List NodeLock) → own o file (these ++ those) ≡ own o file these ++ own o file those
own_append o file these those =
    ap (map as_held) (filter-append (is_own o file) these those)
    ∙ map-append as_held (filter (is_own o file) these) (filter (is_own o file) those)

pub locks_are : (o : LogOrigin) (file : Locator) (log : List Rec) → locks o file log ≡ reverse (own o file (locks_along log))
unfolding locks locks_along locks_after
locks_are o file [] = refl
locks_are o file (rec ∷ older) =
    sym (
    ap reverse (own_append o file (filter (keeps rec) (locks_along older)) (map (node_lock rec.start) (entries_of rec.kind)))
    ∙ reverse-append (own o file (filter (keeps rec) (locks_along older))) (own o file (map (node_lock rec.start) (entries_of rec.kind)))
    ∙ ap (λ (held : List HeldLock). reverse held ++ reverse (own o file (filter (keeps rec) (locks_along older)))) (told_own o file rec.start (entries_of rec.kind))
    ∙ ap (λ (held : List HeldLock). reverse (map (held_since rec.start.0) (entries_in o file rec.kind)) ++ held)
    (ap reverse (kept_own o file rec (locks_along older))
    ∙ sym (filter_reverse (λ h. not (releases rec h)) (own o file (locks_along older)))
    ∙ ap (filter (λ h. not (releases rec h))) (sym (locks_are o file older)))
    )

one_before : {A : Type 0} (xs : List A) (x : A) (ys : List A) → reverse (x ∷ xs) ++ ys ≡ reverse xs ++ x ∷ ys
one_before {A} xs x ys =
    ap (λ (zs : List A). zs ++ ys) (reverse_onto xs x []) ∙ append_assoc (reverse xs) (x ∷ []) ys

-- the last of the node's locks of the table is the first of the table's
last_from :
    (o : LogOrigin) (file : Locator) (held : List NodeLock) (found : Option NodeLock) (before : List HeldLock)
    → last_lock before ≡ option_map as_held found
    → last_lock (reverse (own o file held) ++ before) ≡ option_map as_held (last_of file.db (o.tables file).oid held found)
last_from o file [] found before e = e
last_from o file (one ∷ others) found before e =
    last_first (is_own o file one) (λ (f : Option NodeLock) (held : List HeldLock) (same : last_lock held ≡ option_map as_held f). last_from o file others f held same)
  where
    last_first :
        (t : Bool)
        → ((f : Option NodeLock) (held : List HeldLock) → last_lock held ≡ option_map as_held f
        → last_lock (reverse (own o file others) ++ held) ≡ option_map as_held (last_of file.db (o.tables file).oid others f))
        → last_lock (reverse (map as_held (cond t (one ∷ filter (is_own o file) others) (filter (is_own o file) others))) ++ before)
        ≡ option_map as_held (last_of file.db (o.tables file).oid others (if t then Some one else found))
    last_first true later =
        ap last_lock (one_before (own o file others) (as_held one) before) ∙ later (Some one) (as_held one ∷ before) refl
    last_first false later = later found before e

pub last_is :
    (o : LogOrigin) (file : Locator) (log : List Rec)
    → last_lock (locks o file log) ≡ option_map as_held (last_of file.db (o.tables file).oid (locks_along log) None)
last_is o file log =
    ap last_lock (locks_are o file log ∙ sym (append-nil (reverse (own o file (locks_along log)))))
    ∙ last_from o file (locks_along log) None [] refl

-- no last one, none
pub none_locked : (held : List HeldLock) → last_lock held ≡ None → held ≡ []
none_locked [] e = refl
none_locked (one ∷ others) e = cc
