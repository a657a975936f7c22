use Rattle.std.proofs.Common.{arith, ap, sym, refl, ◌∙◌, ◌≡◌, ◌++◌, ◌∷◌, inl, inr, subst, append_assoc, append-nil, Ok, Err, Result, IsOk, length}
use Rattle.std.proofs.lemmas.Grind.{common_steps}
use Rattle.page_store.specs.Content.{content}
use Rattle.heap_redo.specs.declared.fault.RedoFault.{RedoFault}
use Rattle.page_store.specs.Seen.{View, view_of}
use Rattle.heap_redo.specs.Redone.{Outcome, redone, redone_at, Stands}
use Rattle.heap_redo.proofs.Cuts.{uncut-redone}
use Rattle.heap_redo.proofs.Sequence.{redone-none, redone-more, redone-stops, redone-front, next-there}
use Rattle.heap_redo.proofs.replay.redo_blocks.Goals as goal

pub loop-block-init : goal.loop-block-init
loop-block-init c = record {
  whole = c.into_iter-block-iterator.ensures.into_iter_gives ∙ c.again-block-items.ensures;
  done = redone-none c.args.rec.now c.args.known.now (view_of (content c.args.pool.now));
  tables = refl;
}

pub loop-block-preserved : goal.loop-block-preserved
loop-block-preserved c =
    let rec = c.args.rec.now in
    let known = c.args.known.now in
    let old : View = view_of (content c.args.pool.now) in
    let now : View = view_of (content c.loop-block.pool) in
    let next : View = view_of (content c.redo_block.new.pool) in
    let step : Ok next ≡ redone_at rec known c.in-Some.block now = elim c.in_ok-redo_block.ensures.answer [ inl bad ↦ cc | inr e ↦ e ] in
    record {
      whole = rw append_assoc (ap (λ xs. c.loop-block.yielded ++ xs) (sym c.in-Some.ensures.steps) ∙ c.loop-block.invariant.whole);
      done = redone-more rec known c.loop-block.yielded c.in-Some.block old now next c.loop-block.invariant.done step;
      tables = c.in_ok-redo_block.ensures.tables ∙ c.loop-block.invariant.tables;
    }

pub returns-in_err-redo_block-clause-answer : goal.returns-in_err-redo_block-clause-answer
returns-in_err-redo_block-clause-answer c =
    let rec = c.args.rec.now in
    let known = c.args.known.now in
    let passed = c.loop-block.yielded in
    let block = c.in-Some.block in
    let fault : RedoFault = c.in_err-redo_block.field-0.0 in
    let old : View = view_of (content c.args.pool.now) in
    let now : View = view_of (content c.loop-block.pool) in
    let next : View = view_of (content c.redo_block.new.pool) in
    let same : next ≡ now = ap view_of c.in_err-redo_block.ensures.err in
    let answer : c.from_residual.result ≡ Err fault = grind (arith, common_steps) in
    let whole : passed ++ block ∷ c.next.new.self ≡ rec.blocks = ap (λ xs. passed ++ xs) (sym c.in-Some.ensures.steps) ∙ c.loop-block.invariant.whole in
    let P : Result (Unit {0}) RedoFault → Type 0 = λ result. Stands rec known old next result in
    subst P (sym answer) (elim c.in_err-redo_block.ensures.answer [
      | inl memory ↦ inl (
        memory.0,
        record {
          done = length passed;
          uncut = c.requires.uncut;
          stands = redone-front rec known passed (block ∷ c.next.new.self) rec.blocks old now whole c.loop-block.invariant.done
              ∙ ap (λ view. let o : Outcome = (view, Ok tt) in o) (sym same);
          next = block;
          is_next = next-there passed c.next.new.self rec.blocks block whole;
          not_refused = subst (λ (view : View). IsOk (redone_at rec known block view)) (sym same) memory.1;
        },
      )
      | inr e ↦ inr (uncut-redone rec known old c.requires.uncut
          ∙ redone-stops rec known passed c.next.new.self rec.blocks block old now fault whole c.loop-block.invariant.done e
          ∙ ap (λ view. let o : Outcome = (view, Err fault) in o) (sym same))
    ])

pub returns-clause-answer : goal.returns-clause-answer
returns-clause-answer c =
    let rec = c.args.rec.now in
    let known = c.args.known.now in
    let old : View = view_of (content c.args.pool.now) in
    let all : c.loop-block.yielded ≡ rec.blocks =
    sym (ap (λ xs. c.loop-block.yielded ++ xs) c.in-None.ensures.steps.0 ∙ append-nil c.loop-block.yielded) ∙ c.loop-block.invariant.whole in
    inr (uncut-redone rec known old c.requires.uncut ∙ ap (λ xs. redone rec known xs old) (sym all) ∙ c.loop-block.invariant.done)
