-- Where the log of a run begins, and the node as it begins there.
use Rattle.page_store.specs.Seen.{absent}
use Rattle.table_schema.specs.Description.{Description}
use Rattle.standby_core.specs.declared.types.Origin.{Origin}
use Rattle.standby_core.specs.Standby.{Standby, at_origin}
use Rattle.standby_model.specs.Archived.{segment_size}

-- the redo position of the base backup: after the long page header of segment 2
abbrev pub origin : Origin
origin = record { system = 7; segsize = segment_size; redo = record { 0 = 0x2000028 } }

-- a node as its life begins: the described tables have no blocks
abbrev pub start : Description → Standby
start tables = at_origin tables origin (λ table block. absent)
