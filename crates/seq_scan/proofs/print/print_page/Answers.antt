use Rattle.std.proofs.Common.{arith, ◌∙◌}
use Rattle.seq_scan.proofs.Printing.{line_ends, line_goes_on, page_printed}
use Rattle.seq_scan.proofs.print.print_page.Goals as goal

pub returns-in-Some : goal.returns-in-Some
returns-in-Some g c =
    line_ends _ _ _ _ _ c.loop-k.out.items c.print_line.new.out.items _ c.in-Some.end _ (omega arith) c.in_ok-print_line.ensures c.loop-k.invariant c.in-Some.is

pub loop-k-preserved : goal.loop-k-preserved
loop-k-preserved g c =
    line_goes_on _ _ _ _ _ c.loop-k.out.items c.print_line.new.out.items _ _ (omega arith) c.in_ok-print_line.ensures c.loop-k.invariant c.in-None.is

pub returns : goal.returns
returns g c = page_printed _ _ _ _ _ c.loop-k.out.items (omega arith) ∙ c.loop-k.invariant
