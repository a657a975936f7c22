use Rattle.std.proofs.Common.{ℕ, List, ◌∙◌, ap, sym, subst, drop}
use Rattle.pg_types.specs.Names.{IsShortHex}
use Rattle.pg_types.proofs.Slashes.{has_slash, high_is, low_is}
use Rattle.pg_types.proofs.names.Lsn.read.Goals as goal

pub returns-in_default-clause-none : goal.returns-in_default-clause-none
returns-in_default-clause-none c = λ at spelled. has_slash c.args.text.now at spelled c.in_default.ensures.none

pub returns-in_default-read_hex-clause-none : goal.returns-in_default-read_hex-clause-none
returns-in_default-read_hex-clause-none c = λ at spelled.
    c.in_default-read_hex.ensures.none (subst (λ (text : List ℕ). IsShortHex text) (sym (c.split_at.ensures.front ∙ high_is c.args.text.now at spelled c.in-Some.slash c.in-Some.ensures.slash c.in-Some.ensures.first)) spelled.high_hex)

pub returns-in_default-read_hex-2-clause-none : goal.returns-in_default-read_hex-2-clause-none
returns-in_default-read_hex-2-clause-none c = λ at spelled.
    c.in_default-read_hex-2.ensures.none (subst (λ (text : List ℕ). IsShortHex text) (sym (c.split_at-2.ensures.back ∙ (ap (drop 1) c.split_at.ensures.back ∙ low_is c.args.text.now at spelled c.in-Some.slash c.in-Some.ensures.slash c.in-Some.ensures.first))) spelled.low_hex)
