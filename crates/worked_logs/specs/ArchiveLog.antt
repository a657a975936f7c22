-- The log that the example's archive tells is legal: the premise on files of what a scan answers can be met.
use Rattle.row_model.specs.LegalRows.{LegalLog}
use Rattle.row_model.specs.WorkedRows.{worked_origin}
use Rattle.worked_archive.specs.WorkedArchive.{known, log}

-- a primary could write it over an empty origin, with t and u; so could it write each of its fronts
abbrev pub ArchiveIsLegal : Type 0
ArchiveIsLegal = LegalLog worked_origin known log
