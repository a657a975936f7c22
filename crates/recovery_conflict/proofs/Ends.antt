-- Which transactions a record ends, by its kind.
use Rattle.std.proofs.Common.{◌≡◌, ℕ, ◌&&◌, Bool, true, false, cond, nat_lt, List, refl}
use Rattle.transaction_model.specs.Transactions.{Commit, Abort, Shutdown, Online, ends, is_named}

-- a commit and an abort end the same transactions
pub of_tree : (x xid : ℕ) (subs : List ℕ) (committed : Bool) → ends x xid (cond committed (Commit subs) (Abort subs)) ≡ is_named xid subs x
of_tree x xid subs true = refl
of_tree x xid subs false = refl

-- only a checkpoint at shutdown gives transactions up
pub of_checkpoint :
    (x xid redo next : ℕ) (shut : Bool) → ends x xid (cond shut (Shutdown next) (Online redo next)) ≡ (shut && nat_lt x next)
of_checkpoint x xid redo next true = refl
of_checkpoint x xid redo next false = refl
