-- A multixact that was made stands for the same updater after each further record.
use Rattle.std.proofs.Common.{◌≡◌, ℕ, Bool, true, false, ◌==◌, cond, List, ◌∷◌, Option, Some, None, refl, ap, ◌∙◌}
use Rattle.std.proofs.lemmas.Bool.{eqb-true, false_from_ne_true}
use Rattle.pg_types.specs.declared.names.Xid.{Xid}
use Rattle.typed_records.specs.declared.types.Rec.{Rec}
use Rattle.typed_records.specs.declared.types.RecKind.{RecKind}
use Rattle.typed_records.specs.declared.types.RecKind.TheVariants.{Multixact}
use Rattle.heap_tuple.specs.declared.tuple_view.MaxOf.{MaxOf}
use Rattle.heap_tuple.specs.declared.tuple_view.MaxOf.TheVariants.{None as NoDeleter, Xid as DeletedBy, Multi}
use Rattle.multixact.specs.Made.{Made, updater_among, with_updater}
use Rattle.xact_redo.specs.State.{updaters_after}
use Rattle.row_model.specs.Multixacts.{WasMade, deleter_in, made_by, multixacts, updater_of}
use Rattle.row_model.specs.LegalRows.{MakesMultixact}
use Rattle.row_model.specs.Stays.{AlwaysStay}

-- one that is made has another id than one that was
other_id : (made : Made) (new id : ℕ) (updater : Option Xid) → made new ≡ None → made id ≡ Some updater → (id == new) ≡ false
other_id made new id updater none is = false_from_ne_true (id == new) (λ h. let e = ap made (eqb-true id new h) in cc)

-- so what the other id stands for stays
at_other :
    (zero : Bool) (new id : ℕ) (updater : Option Xid) (made : Made) → (id == new) ≡ false
    → (cond zero made (with_updater new updater made)) id ≡ made id
at_other true new id updater made other = refl
at_other false new id updater made other = ap (λ (t : Bool). cond t (Some updater) (made id)) other

-- a record leaves what was made
record_leaves :
    (kind : RecKind) (older : List Rec) (id : ℕ) (updater : Option Xid) → MakesMultixact older (made_by kind)
    → multixacts older id ≡ Some updater → updaters_after kind (multixacts older) id ≡ multixacts older id
record_leaves (Multixact new offset members) older id updater rule is =
    at_other (new == 0) new id (updater_among members) (multixacts older)
    (other_id (multixacts older) new id updater rule.once is)
record_leaves _ older id updater rule is = refl

module _ (rec : Rec) (older : List Rec) (makes : MakesMultixact older (made_by rec.kind)) where
  -- a multixact that was made is so after the record
  pub made_stays : (d : MaxOf) → WasMade older d → WasMade (rec ∷ older) d
  unfolding multixacts
  made_stays NoDeleter made = tt
  made_stays (DeletedBy xid) made = tt
  made_stays (Multi id) (updater, is) = (updater, record_leaves rec.kind older id updater makes is ∙ is)

  -- a deleter that was made stands for the same transaction
  pub deleter_stays : (d : MaxOf) → WasMade older d → deleter_in (rec ∷ older) d ≡ deleter_in older d
  unfolding multixacts
  deleter_stays NoDeleter made = refl
  deleter_stays (DeletedBy xid) made = refl
  deleter_stays (Multi id) (updater, is) = ap updater_of (record_leaves rec.kind older id updater makes is)

pub always_stay : AlwaysStay
always_stay rec older d makes made =
    record { made = made_stays rec older makes.0 d made; same = deleter_stays rec older makes.0 d made }
