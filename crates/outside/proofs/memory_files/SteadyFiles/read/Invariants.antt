use Rattle.std.proofs.Common.{◌≡◌, drop}
use Rattle.std.specs.Prelude.{map}
use Rattle.outside.specs.Entries.{entries}
use Rattle.outside.specs.Memory.{file_named}
use Rattle.outside.specs.declared.stored.StoredFile.{StoredFile}
use Rattle.outside.proofs.memory_files.SteadyFiles.read.Given as goal

abbrev pub invariant-loop-file : goal.invariant-loop-file
invariant-loop-file l =
    file_named (map (λ (file : StoredFile). (file.name, file.contents)) (drop l.file-index l.file-items)) l.name ≡ file_named (entries l.fn.self) l.name
