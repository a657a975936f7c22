use Rattle.std.proofs.Common.{arith, ap, ◌∙◌, ◌++◌, ◌+◌, ◌-◌, length, take}
use Rattle.std.proofs.lemmas.Slice.{take-put_mid}
use Rattle.heap_redo.proofs.head.put_bytes.Goals as goal

pub returns : goal.returns
returns c =
    let at = c.args.at in
    let bytes = c.args.bytes.now in
    let part = c.args.part.now in
    let put = c.copy_from_slice.new.self in
    let same = c.copy_from_slice.ensures.after in
    take-put_mid at (at + length part - at) bytes put (at + length part) (omega (arith, ap length same)) (omega (arith, c.told-bytes))
    ∙ ap (λ l. take at bytes ++ l) same
