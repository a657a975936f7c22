use Rattle.wal_record.proofs.Written.{header-pieces}
use Rattle.wal_record.proofs.encoding.put_header.Goals as goal

pub returns : goal.returns
returns c =
    header-pieces c.args.before c.args.block.now c.is_same_relation-same.result c.flags.result c.len.result _ _ _ _ _ _ _ c.requires.fork
    c.is_same_relation-same.ensures c.flags.ensures c.len.ensures
    c.in_ok-put_byte.ensures c.in_ok-put_byte-2.ensures c.in_ok-put_short.ensures c.in_ok-put_image_header.ensures c.in_ok-put_relation.ensures c.in_ok-put_long.ensures
