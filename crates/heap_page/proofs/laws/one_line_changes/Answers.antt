use Rattle.heap_page.proofs.LineLists.{changed-line, other-line}
use Rattle.heap_page.proofs.laws.one_line_changes.Goals as goal

pub returns : goal.returns
returns c = λ items k item. (changed-line items k item, other-line items k item)
