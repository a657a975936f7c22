-- No transaction holds a lock of a table that is not locked as a scan is opened, and that no record since locks.
use Rattle.std.proofs.Common.{◌≡◌, ℕ, Bool, true, false, not, ◌&&◌, ◌||◌, ◌==◌, cond, List, [], ◌∷◌, ◌++◌, map, filter, reverse, All, refl, sym, ap, ◌∙◌, inl, inr}
use Rattle.std.specs.List.{list_any}
use Rattle.std.proofs.lemmas.Bool.{and_from, and_parts, and_right, both_ways, eqb-true, false_from_ne_true, false≢true, or_cases, or_left, or_right}
use Rattle.std.proofs.lemmas.List.Elements.{All-head, All-tail}
use Rattle.std.proofs.lemmas.List.Folds.{list_any-append}
use Rattle.std.proofs.lemmas.Map.Views.{any-filter_same}
use Rattle.pg_types.specs.declared.names.Locator.{Locator}
use Rattle.typed_records.specs.declared.types.Rec.{Rec}
use Rattle.transaction_model.specs.Transactions.{ends}
use Rattle.xact_redo.specs.TransactionsOf.{kind_of}
use Rattle.row_model.specs.Origins.{LogOrigin}
use Rattle.row_model.specs.Locks.{HeldLock, UnderLock, entries_in, held_since, is_held_by, is_shutdown_checkpoint, locks, releases, since_shutdown}

abbrev is_of : ℕ → HeldLock → Bool
is_of x held = held.xid == x

-- the record takes a lock for x; it does not end x
abbrev takes : LogOrigin → Locator → Rec → ℕ → Bool
takes o table rec x = list_any (is_of x) (reverse (map (held_since rec.start.0) (entries_in o table rec.kind)))

abbrev leaves : Rec → ℕ → Bool
leaves rec x = not (ends x rec.head.xid.0 (kind_of rec.head rec.kind))

held_after :
    (o : LogOrigin) (table : Locator) (rec : Rec) (older : List Rec) (x : ℕ)
    → is_held_by o table (rec ∷ older) x ≡ (takes o table rec x || (leaves rec x && is_held_by o table older x))
unfolding locks
held_after o table rec older x =
    list_any-append (is_of x) (reverse (map (held_since rec.start.0) (entries_in o table rec.kind)))
    (filter (λ (held : HeldLock). not (releases rec held)) (locks o table older))
    ∙ ap (λ (t : Bool). takes o table rec x || t)
    (any-filter_same (is_of x) (λ (held : HeldLock). not (releases rec held)) (leaves rec x)
    (λ held e. ap (leaves rec) (eqb-true held.xid x e)) (locks o table older))

-- who holds one by a part of the log's end does by the log
module _ (o : LogOrigin) (table : Locator) (rec : Rec) (x : ℕ) where
  held_more :
      (part log : List Rec) → (is_held_by o table part x ≡ true → is_held_by o table log x ≡ true)
      → is_held_by o table (rec ∷ part) x ≡ true → is_held_by o table (rec ∷ log) x ≡ true
  held_more part log more h =
      held_after o table rec log x
      ∙ elim (or_cases (takes o table rec x) (leaves rec x && is_held_by o table part x) (sym (held_after o table rec part x) ∙ h)) [
        | inl e ↦ or_left (takes o table rec x) (leaves rec x && is_held_by o table log x) e
        | inr e ↦
            let (left, held) = and_parts (leaves rec x) (is_held_by o table part x) e in
            or_right (takes o table rec x) (leaves rec x && is_held_by o table log x)
            (and_from (leaves rec x) (is_held_by o table log x) left (more held))
      ]

  held_behind :
      (t : Bool) (part log : List Rec) → (is_held_by o table part x ≡ true → is_held_by o table log x ≡ true)
      → is_held_by o table (cond t [] (rec ∷ part)) x ≡ true → is_held_by o table (rec ∷ log) x ≡ true
  unfolding locks
  held_behind true part log more h = absurd (false≢true h)
  held_behind false part log more h = held_more part log more h

  none_behind :
      (t : Bool) (part : List Rec) → entries_in o table rec.kind ≡ [] → is_held_by o table part x ≡ false
      → is_held_by o table (cond t [] (rec ∷ part)) x ≡ false
  unfolding locks
  none_behind true part none rest = refl
  none_behind false part none rest =
      held_after o table rec part x
      ∙ ap
      (λ (ids : List ℕ). list_any (is_of x) (reverse (map (held_since rec.start.0) ids)) || (leaves rec x && is_held_by o table part x))
      none
      ∙ and_right (leaves rec x) (is_held_by o table part x) rest

held_since_shutdown :
    (o : LogOrigin) (table : Locator) (log : List Rec) (x : ℕ) → is_held_by o table (since_shutdown log) x ≡ true
    → is_held_by o table log x ≡ true
unfolding since_shutdown
held_since_shutdown o table [] x h = h
held_since_shutdown o table (rec ∷ older) x h =
    held_behind o table rec x (is_shutdown_checkpoint (kind_of rec.head rec.kind)) (since_shutdown older) older
    (held_since_shutdown o table older x) h

-- a record takes no lock of the table
abbrev pub TakesNone : LogOrigin → Locator → Rec → Type 0
TakesNone o table rec = entries_in o table rec.kind ≡ []

module _ (o : LogOrigin) (table : Locator) (opened : List Rec) (unlocked : locks o table opened ≡ []) where
  none_held : (later : List Rec) → All (TakesNone o table) later → (x : ℕ) → is_held_by o table (since_shutdown (later ++ opened)) x ≡ false
  unfolding since_shutdown
  none_held [] none x =
      false_from_ne_true (is_held_by o table (since_shutdown opened) x)
      (λ h. both_ways (is_held_by o table opened x) (ap (list_any (is_of x)) unlocked) (held_since_shutdown o table opened x h))
  none_held (rec ∷ later) none x =
      none_behind o table rec x (is_shutdown_checkpoint (kind_of rec.head rec.kind)) (since_shutdown (later ++ opened))
      (All-head (TakesNone o table) rec later none) (none_held later (All-tail (TakesNone o table) rec later none) x)

  -- so none acts under one
  pub no_lock : (later : List Rec) → All (TakesNone o table) later → (x : ℕ) → UnderLock o table (later ++ opened) x → ⊥
  no_lock later none x lock =
      both_ways (is_held_by o table (since_shutdown (later ++ opened)) lock.holder) (none_held later none lock.holder) lock.held
