use Rattle.std.proofs.Common.{arith}
use Rattle.table_schema.proofs.Steps.{further_end}
use Rattle.table_schema.proofs.row_text.push_further.Goals as goal

pub returns : goal.returns
returns c = further_end c.loop-i.i c.args.columns.now c.args.cells.now c.loop-i.out.items _ (omega arith) c.loop-i.invariant
