use Rattle.std.proofs.Common.{arith, ◌∙◌, ap, sym}
use Rattle.std.proofs.lemmas.Grind.{common_steps}
use Rattle.heap_page.specs.Page.{items_of}
use Rattle.heap_redo.specs.After.{tuple_of, put}
use Rattle.heap_redo.specs.Refused.{refusal_of}
use Rattle.heap_redo.proofs.Versions.{listed-next, listed-refused, listed-none, listed-no_lines}
use Rattle.heap_redo.proofs.version.put_each.Goals as goal

pub returns-in_default : goal.returns-in_default
returns-in_default c =
    sym (listed-none c.args.xid c.args.block c.loop-line.line-iterator c.loop-line.rest (items_of c.loop-line.page) c.in_default.ensures.steps.0)
    ∙ c.loop-line.invariant

pub returns-in_err-put_new : goal.returns-in_err-put_new
returns-in_err-put_new c =
    let line = c.in-Some.line in
    let tuple = c.in-Some-next.tuple in
    let items = items_of c.loop-line.page in
    let refused = listed-refused c.args.xid c.args.block c.loop-line.line-iterator c.next.new.self c.loop-line.rest c.next-in-loop-line.new.self line tuple items
    (refusal_of c.in_err-put_new.field-0.0) c.in-Some.ensures.steps c.in-Some-next.ensures.steps
    (c.in_err-put_new.ensures.answer ∙ ap (λ rest. put line (tuple_of c.args.xid 0 c.args.block line tuple rest) items) c.as_slice.ensures) in
    let whole = refused ∙ c.loop-line.invariant in
    grind (arith, common_steps, whole)

pub loop-line-preserved : goal.loop-line-preserved
loop-line-preserved c =
    let line = c.in-Some.line in
    let tuple = c.in-Some-next.tuple in
    let items = items_of c.loop-line.page in
    listed-next c.args.xid c.args.block c.loop-line.line-iterator c.next.new.self c.loop-line.rest c.next-in-loop-line.new.self line tuple items (items_of c.put_new.new.page)
    c.in-Some.ensures.steps c.in-Some-next.ensures.steps
    (c.in_ok-put_new.ensures.answer ∙ ap (λ rest. put line (tuple_of c.args.xid 0 c.args.block line tuple rest) items) c.as_slice.ensures)
    ∙ c.loop-line.invariant

pub returns : goal.returns
returns c =
    sym (listed-no_lines c.args.xid c.args.block c.loop-line.line-iterator c.loop-line.rest (items_of c.loop-line.page) c.in-None.ensures.steps.0)
    ∙ c.loop-line.invariant
