-- What the tuple rule says of the lengths.
use Rattle.std.proofs.Common.{◌+◌, ◌/◌, ◌<◌, ◌≢◌, bit_and, ◌≡◌, ℕ, ◌≤◌, ◌%◌, List, length, arith}
use Rattle.std.proofs.lemmas.Bool.Decides.{nat_tests}
use Rattle.heap_tuple.specs.Tuple.{is_tuple, is_tuple_head, IsTuple, hoff_of, least_hoff, columns_of, infomask_of}

pub record TupleFacts (bytes : List ℕ) : Type 0 where
  pub aligned : hoff_of bytes % 8 ≡ 0
  pub behind_header : 24 ≤ hoff_of bytes
  pub behind_nulls : least_hoff bytes ≤ hoff_of bytes
  pub inside : hoff_of bytes ≤ length bytes
  pub header_fits : 24 ≤ length bytes

pub tuple_facts : (bytes : List ℕ) → IsTuple bytes → TupleFacts bytes
unfolding is_tuple is_tuple_head
tuple_facts bytes h =
    record {
      aligned = grind (arith, nat_tests);
      behind_header = grind (arith, nat_tests);
      behind_nulls = grind (arith, nat_tests);
      inside = grind (arith, nat_tests);
      header_fits = grind (arith, nat_tests);
    }

-- the bit of each column stands inside a tuple that has nulls
pub nulls_inside : (bytes : List ℕ) (i : ℕ) → IsTuple bytes → i < columns_of bytes → bit_and (infomask_of bytes) 1 ≢ 0 → 23 + i / 8 < length bytes
nulls_inside bytes i h below nulls =
    let f = tuple_facts bytes h in
    let least : least_hoff bytes ≡ 23 + (columns_of bytes + 7) / 8 = grind (arith, nat_tests) in
    omega (arith, f.behind_nulls, f.inside)
