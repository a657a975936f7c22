-- Parts of lines.
use Rattle.std.specs.Prelude.{ℕ, List, ◌++◌, codes}
use Rattle.std.specs.Fmt.{decimal}
use Rattle.pg_types.specs.Names.{lsn_text}
use Rattle.pg_types.specs.declared.names.Place.{Place}
use Rattle.table_schema.specs.Description.{DescribedTable}
use Rattle.seq_scan.specs.declared.scan.Damage.{Damage}
use Rattle.seq_scan.specs.declared.scan.Damage.TheVariants.{Page, Multi}
use Rattle.session_model.specs.Events.{Status}
use Rattle.session_model.specs.Texts.{backup_text, column_name, place_text, state_text}

-- a place, and the name of the column that is refused there
abbrev pub column_text : DescribedTable → Place → ℕ → List ℕ
column_text table place column =
    codes " " ++ place_text place.block place.line ++ codes " " ++ column_name table column

-- a place, and what is damaged there
abbrev pub damage_text : Place → Damage → List ℕ
damage_text place Page = codes " " ++ place_text place.block place.line ++ codes " page"
damage_text place (Multi id) = codes " " ++ place_text place.block place.line ++ codes " multi " ++ decimal id

-- whether the end of the backup is awaited, and what is known of running transactions
abbrev pub readiness_text : Status → List ℕ
readiness_text status = codes " backup=" ++ backup_text status.awaited ++ codes " state=" ++ state_text status.state

-- where a standby stands on its first timeline
abbrev pub standing_text : Status → List ℕ
standing_text status = codes "status tli=1 at=" ++ lsn_text status.at ++ codes " min=" ++ lsn_text status.min ++ readiness_text status
