-- Files that are one are equal.
use Rattle.std.proofs.Common.{◌≡◌, true, ◌&&◌, ◌==◌}
use Rattle.std.proofs.lemmas.Bool.{and_parts, eqb-true}
use Rattle.pg_types.specs.declared.names.Locator.{Locator}
use Rattle.pg_types.specs.Locators.{same_locator}

pub same_file : (a b : Locator) → same_locator a b ≡ true → a ≡ b
same_file a b h =
    let (first, rel) = and_parts ((a.space == b.space) && (a.db == b.db)) (a.rel == b.rel) h in
    let (space, db) = and_parts (a.space == b.space) (a.db == b.db) first in
    let p = eqb-true a.space b.space space in
    let q = eqb-true a.db b.db db in
    let r = eqb-true a.rel b.rel rel in
    λ i. record { space = p i; db = q i; rel = r i }
