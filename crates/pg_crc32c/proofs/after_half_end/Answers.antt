use Rattle.std.proofs.Common.{◌<◌, ◌≤◌, ◌∙◌, ℕ, ap, arith, drop, fold, get_or, length}
use Rattle.std.proofs.lemmas.List.{take_rest}
use Rattle.std.specs.Int.Bits.{bit_xor}
use Rattle.pg_crc32c.specs.Crc32c.{after_bits, after_byte}
use Rattle.pg_crc32c.proofs.Division.{fold-front}
use Rattle.pg_crc32c.proofs.after_half_end.Goals as goal

pub returns : goal.returns
returns c =
    let bytes = c.args.bytes.now in
    let small : (k : ℕ) → get_or bytes k 0 < 256 = λ k. (c.type_inv.bytes k).fits in
    let within : 4 ≤ length bytes = omega arith in
    c.after_rest-2.ensures
    ∙ ap (fold after_byte c.after_half_word-state.result) (take_rest bytes 4)
    ∙ ap (λ s. fold after_byte s (drop 4 bytes)) (c.after_half_word-state.ensures ∙ ap (λ y. after_bits 32 (bit_xor c.args.crc y)) c.read_u32.ensures)
    ∙ fold-front 4 bytes c.args.crc small within
