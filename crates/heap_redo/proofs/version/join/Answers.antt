use Rattle.std.proofs.Common.{ap, ◌∙◌, ◌++◌, ◌-◌, ◌≡◌, min, length, take, drop, List, ℕ, refl}
use Rattle.std.proofs.lemmas.List.{take_min}
use Rattle.heap_redo.proofs.Versions.{cut-parts, join-parts, drop_min, take_rest}
use Rattle.heap_redo.proofs.version.join.Goals as goal

pub returns-clause-taken : goal.returns-clause-taken
returns-clause-taken c =
    let tuple = c.args.tuple.now in
    let old : List ℕ = c.args.old.now in
    let own : List ℕ = c.as_slice-own.result.now in
    let split : ℕ = c.min-split.result in
    let n : ℕ = length c.args.bytes.now in
    let end : ℕ = length old - tuple.suffix in
    let same : own ≡ tuple.rest = c.as_slice-own.ensures in
    let at : split ≡ min (tuple.hoff - 23) (length own) = c.min-split.ensures ∙ ap (λ n. min n (length own)) (c.saturating_sub.ensures ∙ ap (λ n. n - 23) c.from.ensures) in
    let n1 : length c.append-at.new.bytes ≡ n = c.append-at.ensures.length in
    let n2 : length c.append-at-2.new.bytes ≡ n = c.append-at-2.ensures.length ∙ n1 in
    let n3 : length c.append-at-3.new.bytes ≡ n = c.append-at-3.ensures.length ∙ n2 in
    let q3 : List ℕ = take (length own - split) (drop split own) in
    let q4 : List ℕ = take (length old - end) (drop end old) in
    let a : take c.append-at.result c.append-at.new.bytes ≡ take n (take split own) = c.append-at.ensures.taken in
    let b : take c.append-at-2.result c.append-at-2.new.bytes ≡ take n (take c.append-at.result c.append-at.new.bytes ++ take tuple.prefix old) =
    c.append-at-2.ensures.taken ∙ ap (λ m. take m (take c.append-at.result c.append-at.new.bytes ++ take tuple.prefix old)) n1 in
    let d : take c.append-at-3.result c.append-at-3.new.bytes ≡ take n (take c.append-at-2.result c.append-at-2.new.bytes ++ q3) =
    c.append-at-3.ensures.taken ∙ ap (λ m. take m (take c.append-at-2.result c.append-at-2.new.bytes ++ q3)) n2 in
    let e : take c.append.result c.append.new.bytes ≡ take n (take c.append-at-3.result c.append-at-3.new.bytes ++ q4) =
    c.append.ensures.taken ∙ ap (λ m. take m (take c.append-at-3.result c.append-at-3.new.bytes ++ q4)) n3 in
    let p1 : take split own ≡ take (tuple.hoff - 23) tuple.rest =
    ap (λ n. take n own) at ∙ take_min (tuple.hoff - 23) own ∙ ap (take (tuple.hoff - 23)) same in
    let p3 : q3 ≡ drop (tuple.hoff - 23) tuple.rest =
    take_rest split own ∙ ap (λ n. drop n own) at ∙ drop_min (tuple.hoff - 23) own ∙ ap (drop (tuple.hoff - 23)) same in
    let p4 : q4 ≡ drop end old = take_rest end old in
    e ∙ ap (λ l. take n (l ++ q4)) (d ∙ ap (λ l. take n (l ++ q3)) (b ∙ ap (λ l. take n (l ++ take tuple.prefix old)) a))
    ∙ cut-parts n (take split own) (take tuple.prefix old) q3 q4
    ∙ ap (take n) (join-parts tuple old (take split own) (take tuple.prefix old) q3 q4 p1 refl p3 p4)
