use Rattle.std.proofs.Common.{◌≡◌, ◌<◌, ◌^◌, drop}
use Rattle.std.specs.Str.Parse.{AllDigits, digits_value, digits_value_after}
use Rattle.pg_types.proofs.read.read_hex.Given as goal

abbrev pub invariant-loop-byte : goal.invariant-loop-byte
invariant-loop-byte l = record {
  small : l.value < 16 ^ l.byte-index;
  value : digits_value_after 16 l.value (drop l.byte-index l.text) ≡ digits_value 16 l.text;
  digits : AllDigits 16 (drop l.byte-index l.text) → AllDigits 16 l.text;
  only : AllDigits 16 l.text → AllDigits 16 (drop l.byte-index l.text);
}
