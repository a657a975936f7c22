-- Files in memory.
use Rattle.std.proofs.Common.{ℕ, List, [], ◌∷◌, Bool, true, false, cond, Some, IfSome}
use Rattle.std.specs.Prelude.{map}
use Rattle.std.specs.Str.{bytes_eq}
use Rattle.pg_types.specs.Bytes.{AreBytes}
use Rattle.outside.specs.Archive.{HaveBytes}
use Rattle.outside.specs.Memory.{file_named}
use Rattle.outside.specs.declared.memory_files.SteadyFiles.{SteadyFiles}
use Rattle.outside.specs.declared.stored.StoredFile.{StoredFile}

-- the name and the contents of each file, the newest first
abbrev pub entries : SteadyFiles → List (List ℕ × List ℕ)
entries held = map (λ (file : StoredFile). (file.name, file.contents)) held.files.items

named_bytes : (files : List StoredFile) (name : List ℕ) → IfSome (file_named (map (λ (file : StoredFile). (file.name, file.contents)) files) name) AreBytes
named_bytes [] name = tt
named_bytes (file ∷ files) name = by (named_bytes files name) (bytes_eq file.name name)
  where
    by : IfSome (file_named (map (λ (f : StoredFile). (f.name, f.contents)) files) name) AreBytes → (b : Bool)
        → IfSome (cond b (Some file.contents) (file_named (map (λ (f : StoredFile). (f.name, f.contents)) files) name)) AreBytes
    by rest true = file.bytes
    by rest false = rest

pub entries_have_bytes : (held : SteadyFiles) → HaveBytes (Some (file_named (entries held)))
entries_have_bytes held = λ name. named_bytes held.files.items name
