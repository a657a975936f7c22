-- The files of relations.
use Rattle.std.specs.Prelude.{Bool, ◌&&◌, ◌==◌}
use Rattle.pg_types.specs.declared.names.Locator.{Locator}

-- two files are one
abbrev pub same_locator : Locator → Locator → Bool
same_locator a b = (a.space == b.space) && (a.db == b.db) && (a.rel == b.rel)
