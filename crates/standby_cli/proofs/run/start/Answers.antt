use Rattle.std.proofs.Common.{ap, ◌∙◌}
use Rattle.std.proofs.lemmas.Result.{IfOk-weaker}
use Rattle.pg_types.specs.SegmentSizes.{sixteen_mebibytes}
use Rattle.page_store.specs.Content.{content}
use Rattle.page_store.specs.Seen.{View}
use Rattle.standby_core.specs.Standby.{at_origin}
use Rattle.run_model.specs.Origin.{origin}
use Rattle.standby_cli.proofs.Beginning.{no_blocks}
use Rattle.standby_cli.proofs.run.start.Goals as goal

pub at_origin-requires-clause-segment_size : goal.at_origin-requires-clause-segment_size
at_origin-requires-clause-segment_size c = sixteen_mebibytes

pub returns : goal.returns
returns c =
    let none = no_blocks (content c.in_ok-pool.pool) c.in_ok-pool.ensures.blocks in
    IfOk-weaker c.at_origin.result _ _
    (λ node e. e ∙ ap (λ (view : View). at_origin c.args.tables origin view) none)
    c.at_origin.ensures
