use Rattle.seq_scan.proofs.PageAnswer.{none_printed, rows_printed}
use Rattle.seq_scan.proofs.print.print_block.Goals as goal

pub returns-in-Ok-clause-rows : goal.returns-in-Ok-clause-rows
returns-in-Ok-clause-rows g c =
    rows_printed _ _ _ c.args.out.now.items c.print_page.new.out.items _ c.look.result c.in-Ok.page c.print_page.result c.look.ensures.answer c.in-Ok.is c.print_page.ensures

pub returns-in-Err-clause-rows : goal.returns-in-Err-clause-rows
returns-in-Err-clause-rows g c =
    none_printed _ _ _ c.args.out.now.items _ c.look.result c.in-Err.fault c.end_without.result c.look.ensures.answer c.in-Err.is c.end_without.ensures.end
