use Rattle.worked_premise.proofs.Legal.{scan_is_answered}
use Rattle.worked_premise.proofs.scan_is_answered.Goals as goal

pub returns : goal.returns
returns c =
    scan_is_answered c.worked_archive.ensures c.schema_is_read.ensures c.files_are_legal.ensures c.node_simulates.ensures
    c.life_begins_so.ensures c.one_xmin.ensures c.one_rows.ensures c.one_scan.ensures
