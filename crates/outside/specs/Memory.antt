-- The objects in memory: the calls that are to fail, and the files of an archive.
use Rattle.std.specs.Prelude.{ℕ, nat_lt, ◌<◌, ◌≤◌, EachIndex, slice_index, ◌+◌, ◌-◌, ◌^◌, min, List, [], ◌∷◌, Option, None, Some, if◌then◌else◌}
use Rattle.std.specs.Str.{bytes_eq}

-- the number of the next call, from 1 on; the count of calls stands still at its last value
abbrev pub next_call : ℕ → ℕ
next_call calls = min (calls + 1) (2 ^ 64 - 1)

-- the contents of the file of a name, among files of name and contents: the first of that name
abbrev pub file_named : List (List ℕ × List ℕ) → List ℕ → Option (List ℕ)
file_named [] name = None
file_named (file ∷ files) name = if bytes_eq file.0 name then Some file.1 else file_named files name

-- so many bytes from a position on do not run over a listed place
abbrev pub KeepsTo : List ℕ → ℕ → ℕ → Type 0
KeepsTo cuts at count = EachIndex cuts (λ index. at < slice_index cuts index → at + count ≤ slice_index cuts index)

-- so many bytes from a position on, or as many as stand before the first listed place behind it
abbrev pub up_to_cut : List ℕ → ℕ → ℕ → ℕ
up_to_cut [] at most = most
up_to_cut (cut ∷ cuts) at most = up_to_cut cuts at (if nat_lt at cut then min most (cut - at) else most)
