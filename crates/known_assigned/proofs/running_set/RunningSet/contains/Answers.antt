use Rattle.std.proofs.Common.{◌∙◌, sym, ap, subst, List}
use Rattle.std.proofs.lemmas.List.{get_or_default}
use Rattle.known_assigned.specs.declared.running_set.Slot.{Slot}
use Rattle.known_assigned.specs.Ids.{is_among}
use Rattle.known_assigned.specs.Slots.{AtPlace, NoPlace, Places}
use Rattle.known_assigned.proofs.Slotted.{is_among-no_place, is_among-place, no_slot}
use Rattle.known_assigned.proofs.running_set.RunningSet.contains.Goals as goal

pub returns-in-Ok : goal.returns-in-Ok
returns-in-Ok c =
    let slots = c.self.inside.slots.items in
    let p : AtPlace slots c.in-Ok.at c.args.xid = subst (λ (l : List Slot). AtPlace l c.in-Ok.at c.args.xid) c.as_slice.ensures.value c.in-Ok.ensures.ok in
    ap (λ (s : Slot). s.live) (c.index.ensures ∙ get_or_default slots c.in-Ok.at c.index.result.now no_slot p.within)
    ∙ sym (is_among-place slots c.in-Ok.at c.args.xid p)
    ∙ ap (λ (q : Places). is_among c.args.xid q.xids) c.self.view_is

pub returns-in-Err : goal.returns-in-Err
returns-in-Err c =
    let slots = c.self.inside.slots.items in
    let n : NoPlace slots c.in-Err.field-0 c.args.xid = subst (λ (l : List Slot). NoPlace l c.in-Err.field-0 c.args.xid) c.as_slice.ensures.value c.in-Err.ensures.err in
    sym (is_among-no_place slots c.in-Err.field-0 c.args.xid n) ∙ ap (λ (q : Places). is_among c.args.xid q.xids) c.self.view_is
