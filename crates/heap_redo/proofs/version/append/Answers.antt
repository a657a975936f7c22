use Rattle.std.proofs.Common.{arith, ap, ◌∙◌, ◌++◌, ◌+◌, ◌-◌, ◌≡◌, min, length, take}
use Rattle.std.proofs.lemmas.Slice.{take-put_mid}
use Rattle.std.proofs.lemmas.List.{length-take-le}
use Rattle.heap_redo.proofs.Versions.{appended}
use Rattle.heap_redo.proofs.version.append.Goals as goal

pub returns-clause-taken : goal.returns-clause-taken
returns-clause-taken c =
    let at = c.args.at in
    let bytes = c.args.bytes.now in
    let part = c.args.part.now in
    let len = c.min-len.result in
    let put = c.copy_from_slice.new.self in
    let same = c.copy_from_slice.ensures.after in
    let fits : len ≡ min (length part) (length bytes - at) = c.min-len.ensures in
    take-put_mid at (at + len - at) bytes put (at + len) (omega (arith, ap length same, length-take-le len part (omega arith))) (omega arith)
    ∙ ap (λ l. take at bytes ++ l) (same ∙ ap (λ n. take n part) fits)
    ∙ appended at (length bytes) (take at bytes) part (length-take-le at bytes (omega arith)) (omega arith)
