use Rattle.std.proofs.Common.{◌≡◌, ◌∙◌, Err, ap, arith, refl, sym, subst}
use Rattle.std.proofs.lemmas.Grind.{common_steps}
use Rattle.page_store.specs.Content.{content}
use Rattle.page_store.specs.Seen.{view_of}
use Rattle.wal_bodies.specs.Typed.{typed}
use Rattle.xact_redo.specs.State.{transactions}
use Rattle.standby_core.specs.declared.types.Stopped.TheVariants.{Refused}
use Rattle.standby_core.specs.Standby.{Standby}
use Rattle.standby_core.specs.Steps.{GivenRedone}
use Rattle.standby_core.specs.View.{standby}
use Rattle.standby_core.proofs.Replaying.{body_refused, given_is, stops_found}
use Rattle.standby_core.proofs.node.Node.redo.Goals as goal

pub returns-in_err-redo_typed-in-Ok-clause-redone : goal.returns-in_err-redo_typed-in-Ok-clause-redone
unfolding standby
returns-in_err-redo_typed-in-Ok-clause-redone c =
    let node = c.args.self.now in
    let found = c.record-view.result in
    let start = c.args.start in
    let end = c.args.end in
    let old = standby node in
    let new : Standby = record old {
      blocks = view_of (content c.redo_typed.new.pool);
      transactions = transactions c.redo_typed.new.state;
      locks = c.redo_typed.new.locks.locks;
    } in
    let why = c.in_err-redo_typed-in-Ok.field-0.0 in
    let answer : c.from_residual.result ≡ Err why = grind (arith, common_steps) in
    let form = c.in-Ok.ensures.form
    ∙ ap (λ database. typed found start end database c.locators-known.result.now) c.database.ensures
    ∙ ap (λ known. typed found start end node.tables.database known) c.locators-known.ensures.files in
    let same = ap (λ state. let n : Standby = record old { blocks = view_of (content c.redo_typed.new.pool); transactions = state; locks = c.redo_typed.new.locks.locks } in n) c.in_err-redo_typed-in-Ok.ensures.stays
    ∙ ap (λ locks. let n : Standby = record old { blocks = view_of (content c.redo_typed.new.pool); locks = locks } in n) c.in_err-redo_typed-in-Ok.ensures.held in
    subst (λ r. GivenRedone node.reader start end r old new) (sym answer)
    (record {
      found = found;
      given = given_is node.reader start end found c.requires c.record-view.ensures;
      redone = stops_found start end c.in-Ok.rec old new found why form c.in_err-redo_typed-in-Ok.ensures.redone same;
    })

pub returns-in-Err-clause-redone : goal.returns-in-Err-clause-redone
unfolding standby
returns-in-Err-clause-redone c =
    let node = c.args.self.now in
    let found = c.record-view.result in
    let start = c.args.start in
    let end = c.args.end in
    let form = c.in-Err.ensures.form
    ∙ ap (λ database. typed found start end database c.locators-known.result.now) c.database.ensures
    ∙ ap (λ known. typed found start end node.tables.database known) c.locators-known.ensures.files in
    subst (λ what. GivenRedone node.reader start end (Err (Refused what)) (standby node) (standby node)) (sym c.refused_body.ensures)
    (record {
      found = found;
      given = given_is node.reader start end found c.requires c.record-view.ensures;
      redone = (body_refused start end (standby node) found c.in-Err.fault form, refl);
    })
