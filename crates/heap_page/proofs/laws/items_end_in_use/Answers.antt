use Rattle.heap_page.specs.Page.{lines_of, items_of}
use Rattle.heap_page.proofs.LineLists.{trimmed-trimmed}
use Rattle.heap_page.proofs.laws.items_end_in_use.Goals as goal

pub returns : goal.returns
unfolding items_of
returns c = λ page. trimmed-trimmed (lines_of page)
