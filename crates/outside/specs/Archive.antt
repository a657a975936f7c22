-- What an archive of log segments gives, and the folder of a base backup.
use Rattle.std.specs.Prelude.{ℕ, ◌≡◌, ◌≤◌, List, length, take, drop, Option, None, Some, Result, IfOk, IfSome}
use Rattle.pg_types.specs.Bytes.{AreBytes}
use Rattle.pg_types.specs.declared.fail.Fail.{Fail}

-- what a read of a file with these contents gives from `at` on: as many bytes as stand there, at most the buffer's
-- length, at the front of the buffer
abbrev pub Reads : List ℕ → ℕ → List ℕ → ℕ → Type 0
Reads contents at buffer count =
    let bytes = take (length buffer) (drop at contents)
    in (count ≡ length bytes) × (take count buffer ≡ bytes)

-- what a fetch answers of a file with these contents, or of an absent one
abbrev pub FetchesFile : Option (List ℕ) → ℕ → List ℕ → Option ℕ → Type 0
FetchesFile None at buffer answer = answer ≡ None
FetchesFile (Some contents) at buffer answer = (count : ℕ) × (answer ≡ Some count) × Reads contents at buffer count

-- where the files are told, a fetch that succeeds answers by the named file; else nothing is claimed
abbrev pub Fetches : Option (List ℕ → Option (List ℕ)) → List ℕ → ℕ → List ℕ → Result (Option ℕ) Fail → Type 0
Fetches None name at buffer answer = Unit {0}
Fetches (Some files) name at buffer answer = IfOk answer (FetchesFile (files name) at buffer)

-- where the files are told, the contents of each are bytes
abbrev pub HaveBytes : Option (List ℕ → Option (List ℕ)) → Type 0
HaveBytes told = IfSome told (λ files. (name : List ℕ) → IfSome (files name) AreBytes)

-- no count is above the buffer's length
abbrev pub FitsIn : List ℕ → Result (Option ℕ) Fail → Type 0
FitsIn buffer answer = IfOk answer (λ found. IfSome found (λ count. count ≤ length buffer))
