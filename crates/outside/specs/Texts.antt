-- A text in memory of which some bytes were read.
use Rattle.std.proofs.Common.{ℕ, ◌^◌, ◌≤◌, ◌<◌, List, drop, Some, arith}
use Rattle.std.proofs.lemmas.List.Elements.{All-drop}
use Rattle.pg_types.specs.Bytes.{AreBytes}
use Rattle.outside.specs.Source.{HasBytes, IsTaken}

pub read_within : (read all : ℕ) → read ≤ all → all ≤ 2 ^ 62 → IsTaken read
read_within read all inside small = omega (arith, inside, small)

pub dropped_bytes : (read : ℕ) (text : List ℕ) → AreBytes text → HasBytes (Some (drop read text))
dropped_bytes read text are = All-drop (λ byte. byte < 256) read text are
