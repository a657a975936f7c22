use Rattle.std.proofs.Common.{◌<◌, ◌∙◌, ◌≤◌, ◌+◌, ℕ, ap, sym, fold, take, drop, get_or, arith, length}
use Rattle.std.proofs.lemmas.List.{take_rest}
use Rattle.std.specs.Int.Bits.{bit_xor}
use Rattle.byteorder.specs.Endian.{little_number}
use Rattle.pg_crc32c.specs.Crc32c.{after_bits, after_byte}
use Rattle.pg_crc32c.proofs.Division.{fold-sixteen_more, fold-take_drop}
use Rattle.pg_crc32c.proofs.extended.Goals as goal

pub loop-at-preserved : goal.loop-at-preserved
loop-at-preserved c =
    let bytes = c.args.bytes.now in
    let before = fold after_byte c.args.crc (take c.loop-at.at bytes) in
    let small : (k : ℕ) → get_or bytes k 0 < 256 = λ k. (c.type_inv.bytes k).fits in
    let within : c.loop-at.at + 16 ≤ length bytes = omega arith in
    let more = fold-sixteen_more bytes c.loop-at.at c.args.crc small within in
    record {
      within = within;
      joined =
          ap (λ x. bit_xor x c.after_far_word.result) (c.after_word-near.ensures ∙ ap (after_bits 64) c.word_at.ensures)
          ∙ ap (bit_xor (after_bits 64 (little_number 8 (drop (c.loop-at.at + 8) bytes)))) (c.after_far_word.ensures
          ∙ ap (λ y. after_bits 128 (bit_xor y c.word_at-in-loop-at.result)) (c.from.ensures ∙ c.loop-at.invariant.joined)
          ∙ ap (λ y. after_bits 128 (bit_xor before y)) c.word_at-in-loop-at.ensures)
          ∙ sym more;
    }

pub returns : goal.returns
returns c =
    c.after_end.ensures
    ∙ ap (fold after_byte c.loop-at.state) (take_rest c.args.bytes.now c.loop-at.at)
    ∙ ap (λ s. fold after_byte s (drop c.loop-at.at c.args.bytes.now)) c.loop-at.invariant.joined
    ∙ fold-take_drop c.args.bytes.now c.loop-at.at c.args.crc
