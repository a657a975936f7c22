use Rattle.std.proofs.Common.{◌≡◌, ◌+◌, ◌++◌, ◌∙◌, ℕ, List, length, ap, arith}
use Rattle.pg_crc32c.specs.Crc32c.{crc32c_of}
use Rattle.wal_record.specs.Spelling.{four_bytes, front_of, before_crc}
use Rattle.wal_record.specs.New.{spelling_of}
use Rattle.wal_record.proofs.Written.{total-is}
use Rattle.wal_record.proofs.encoding.front.Goals as goal

pub overflow_cast-behind : goal.overflow_cast-behind
overflow_cast-behind c = omega (arith, c.requires.new.total, total-is c.args.rec.now c.requires.new.blocks, ap length c.requires.behind)

pub overflow_add-behind : goal.overflow_add-behind
overflow_add-behind c = omega (arith, c.requires.new.total, total-is c.args.rec.now c.requires.new.blocks, ap length c.requires.behind)

pub returns : goal.returns
returns c =
    let s = spelling_of c.args.rec.now in
    let front : c.in_ok-front.front.items ≡ before_crc s = c.in_ok-front.ensures ∙ ap (λ (w : List ℕ). front_of (24 + length w) s.xid s.prev s.info s.manager 0) c.requires.behind in
    let crc : c.crc32c-crc.result ≡ crc32c_of (c.args.behind.now ++ before_crc s) = c.crc32c-crc.ensures ∙ ap (λ (w : List ℕ). crc32c_of (c.args.behind.now ++ w)) (c.deref.ensures.value ∙ front) in
    c.in_ok-put_long.ensures ∙ ap (λ (w : List ℕ). w ++ four_bytes c.crc32c-crc.result) front ∙ ap (λ (n : ℕ). before_crc s ++ four_bytes n) crc
