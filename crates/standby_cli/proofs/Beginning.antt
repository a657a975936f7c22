-- A node as a run begins.
use Rattle.std.proofs.Common.{◌≡◌, ◌≤◌, ℕ, List, [], Option, Some, None, refl, sym, ap, subst}
use Rattle.std.proofs.Math.Path.{fun_ext}
use Rattle.page_store.specs.Content.{Blocks}
use Rattle.page_store.specs.Seen.{absent, seen, view_of}
use Rattle.table_schema.specs.Description.{Description}
use Rattle.wal_reader.specs.Kept.{AreTold}
use Rattle.wal_reader.specs.Told.{told_bytes}
use Rattle.standby_core.specs.Standby.{Standby, at_origin}
use Rattle.standby_model.specs.Archived.{segment_size}
use Rattle.session_model.specs.NodeSteps.{bare}
use Rattle.run_model.specs.Origin.{start}

-- a pool without blocks
pub no_blocks : (blocks : Blocks) → ((table block : ℕ) → blocks table block ≡ None) → view_of blocks ≡ (λ table block. absent)
unfolding seen
no_blocks blocks e = fun_ext (λ table. fun_ext (λ block. ap seen (e table block)))

nothing_kept : (byte : ℕ → Option ℕ) → AreTold byte (record { from = 0; bytes = [] })
unfolding told_bytes
nothing_kept byte = refl

-- it keeps nothing of the log, whose segments have their size
pub keeps_nothing : (tables : Description) (byte : ℕ → Option ℕ) (node : Standby) → node ≡ start tables → AreTold byte node.kept
unfolding at_origin
keeps_nothing tables byte node e = subst (λ (n : Standby). AreTold byte n.kept) (sym e) (nothing_kept byte)

pub is_bare : (tables : Description) (node : Standby) → node ≡ start tables → bare node ≡ start tables
unfolding at_origin
is_bare tables node e = subst (λ (n : Standby). bare n ≡ start tables) (sym e) refl

pub has_size : (tables : Description) (node : Standby) → node ≡ start tables → node.segsize ≡ segment_size
unfolding at_origin
has_size tables node e = subst (λ (n : Standby). n.segsize ≡ segment_size) (sym e) refl
