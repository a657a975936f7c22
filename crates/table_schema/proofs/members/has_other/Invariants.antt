use Rattle.std.proofs.Common.{◌≡◌}
use Rattle.toml.specs.View.{members_view}
use Rattle.table_schema.specs.Reading.{has_other}
use Rattle.table_schema.proofs.members.has_other.Given as goal

abbrev pub invariant-members : goal.invariant-members
invariant-members l =
    (goal.iterator-members).can_next l.word-iterator
    × (goal.iterator-members).is_finite l.word-iterator
    × (has_other l.level (members_view l.word-iterator) ≡ has_other l.level (members_view l.members.entries))
