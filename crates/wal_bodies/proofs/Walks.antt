-- Steps of the walk that looks whether the tuples of a multi-insert are there.
use Rattle.std.proofs.Common.{◌≡◌, ℕ, suc, List, ◌∷◌, Result, Ok, Err, refl, sym}
use Rattle.typed_records.specs.declared.types.BodyFault.{BodyFault}
use Rattle.typed_records.specs.declared.types.NewTuple.{NewTuple}
use Rattle.typed_records.specs.Tuples.{even_from, listed_at, listed_from}
use Rattle.wal_bodies.specs.Fields.{◌>>=◌, result_map}

-- whether as many tuples are there
abbrev pub checked : List ℕ → ℕ → ℕ → Result (Unit {0}) BodyFault
checked bytes at n = result_map (λ tuples. tt) (listed_from bytes at n)

pub checked_done : (bytes : List ℕ) (at n : ℕ) → n ≡ 0 → checked bytes at n ≡ Ok tt
unfolding listed_from
checked_done bytes at n e = rw e refl

-- the next tuple is refused
pub checked_fault : (bytes : List ℕ) (at m n : ℕ) (fault : BodyFault) → m ≡ suc n → listed_at bytes (even_from at) ≡ Err fault → checked bytes at m ≡ Err fault
unfolding listed_from
checked_fault bytes at m n fault e h = rw (e, h) refl

again : (tuple : NewTuple) (others : Result (List NewTuple) BodyFault)
    → result_map (λ tuples. tt {0}) (others >>= λ more. Ok (tuple ∷ more)) ≡ result_map (λ tuples. tt) others
again tuple (Err fault) = refl
again tuple (Ok more) = refl

-- the next tuple is read
pub checked_next : (bytes : List ℕ) (at m n : ℕ) (tuple : NewTuple) (end : ℕ) → m ≡ suc n → listed_at bytes (even_from at) ≡ Ok (tuple, end)
    → checked bytes end n ≡ checked bytes at m
unfolding listed_from
checked_next bytes at m n tuple end e h = rw (e, h) (sym (again tuple (listed_from bytes end n)))
