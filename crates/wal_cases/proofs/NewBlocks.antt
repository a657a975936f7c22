-- What is known of blocks and a record that were tested: that they can be written.
use Rattle.std.proofs.Common.{◌≡◌, ℕ, ◌+◌, ◌<◌, ◌≤◌, Bool, true, false, ◌==◌, nat_le, List, ◌∷◌, length, Option, Some, None, IfSome, IsTrue, if◌then◌else◌, subst, sym, arith}
use Rattle.pg_types.specs.declared.names.Locator.{Locator}
use Rattle.wal_record.specs.declared.new.NewBlock.{NewBlock}
use Rattle.wal_record.specs.declared.new.NewRecord.{NewRecord}
use Rattle.wal_record.specs.New.{AreNewBlocks, IsNew, IsNewBlock, blocks_size, flag, header_size, is_page_image, is_same_relation, main_size, payload_of}
use Rattle.std.specs.Option.{is_some}

pub new_block : (block : NewBlock) → block.id ≤ 32 → block.fork ≤ 15 → IfSome block.image (λ image. IsTrue (is_page_image image)) → length block.payload ≤ 65535 → IsNewBlock block
new_block block id fork image payload = record { id = id; fork = omega (arith, fork); image = image; payload = omega (arith, payload) }

header_of : (image same : Bool) → 8 + flag image 5 + (if same then 0 else 12) ≤ 25
header_of true true = omega arith
header_of true false = omega arith
header_of false true = omega arith
header_of false false = omega arith

-- a block's header has at most 25 bytes
pub header_small : (before : Option Locator) (block : NewBlock) → header_size before block ≤ 25
header_small before block = header_of (is_some block.image) (is_same_relation before block.locator)

main_of : (n : ℕ) (none short : Bool) → n + (if none then 0 else if short then 2 else 5) ≤ n + 5
main_of n true short = omega arith
main_of n false true = omega arith
main_of n false false = omega arith

pub main_small : (n : ℕ) → main_size n ≤ n + 5
main_small n = main_of n (n == 0) (nat_le n 255)

pub new_record : (rec : NewRecord) (size : ℕ) → rec.xid.0 < 4294967296 → AreNewBlocks 0 rec.blocks → blocks_size None rec.blocks ≤ size → size ≤ 16777216 → length rec.main ≤ 16777216 → IsNew rec
new_record rec size xid blocks bound small main = record { xid = xid; blocks = blocks; total = omega (arith, bound, small, main, main_small (length rec.main)) }

pub new_blocks : (least : ℕ) (blocks rest : List NewBlock) (first : NewBlock) → blocks ≡ first ∷ rest → least ≤ first.id → IsNewBlock first → AreNewBlocks (first.id + 1) rest → AreNewBlocks least blocks
new_blocks least blocks rest first is low new behind = subst (λ (list : List NewBlock). AreNewBlocks least list) (sym is) (low, new, behind)

pub size_with : (before : Option Locator) (blocks rest : List NewBlock) (first : NewBlock) (own behind : ℕ) → blocks ≡ first ∷ rest → 25 + length (payload_of first) ≤ own → blocks_size (Some first.locator) rest ≤ behind → blocks_size before blocks ≤ behind + own
size_with before blocks rest first own behind is mine more = subst (λ (list : List NewBlock). blocks_size before list ≤ behind + own) (sym is) (omega (arith, header_small before first, mine, more))
