use Rattle.heap_page.proofs.Header.{blank, zeros-each}
use Rattle.heap_page.proofs.laws.zeros_have_no_items.Goals as goal

pub returns : goal.returns
returns c = λ page h. (blank page (zeros-each page h)).items
