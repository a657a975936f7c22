use Rattle.std.proofs.Common.{◌≡◌, ◌<◌, ◌^◌, drop}
use Rattle.session_text.specs.Requests.{number_after}
use Rattle.session_text.proofs.word.read_number.Given as goal

abbrev pub invariant-loop-byte : goal.invariant-loop-byte
invariant-loop-byte l = record {
  small : l.value < 2 ^ 64;
  value : number_after l.value (drop l.byte-index l.word) ≡ number_after 0 l.word;
}
