use Rattle.seq_scan.proofs.PageAnswer.{rows_read, none_read}
use Rattle.seq_scan.proofs.block.read_block.Goals as goal

pub returns-in-Ok-clause-rows : goal.returns-in-Ok-clause-rows
returns-in-Ok-clause-rows g c =
    rows_read _ _ _ c.look.result c.in-Ok.page c.read_page.result c.look.ensures.answer c.in-Ok.is c.read_page.ensures

pub returns-in-Err-clause-rows : goal.returns-in-Err-clause-rows
returns-in-Err-clause-rows g c =
    none_read _ _ _ c.look.result c.in-Err.fault c.no_page.result c.look.ensures.answer c.in-Err.is c.no_page.ensures.rows
