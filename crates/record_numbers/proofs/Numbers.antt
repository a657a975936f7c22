-- Numbers that are read of bytes, and what holds of the value of a result.
use Rattle.std.proofs.Common.{◌≡◌, ℕ, ◌^◌, ◌<◌, List, Result, Ok, Err, IfOk, refl}
use Rattle.std.specs.Prelude.{slice_index}
use Rattle.pg_types.specs.Numbers.{number_at}
use Rattle.pg_types.specs.Bytes.{AreBytes}
use Rattle.pg_types.proofs.Bytes.{byte-below, number-fits}

-- numbers of one, two and four bytes
pub one-fits : (bytes : List ℕ) (at : ℕ) → AreBytes bytes → slice_index bytes at < 2 ^ 8
one-fits bytes at all = byte-below bytes all at

pub two-fits : (bytes : List ℕ) (at : ℕ) → AreBytes bytes → number_at 2 bytes at < 2 ^ 16
two-fits bytes at all = number-fits 2 bytes at all

pub four-fits : (bytes : List ℕ) (at : ℕ) → AreBytes bytes → number_at 4 bytes at < 2 ^ 32
four-fits bytes at all = number-fits 4 bytes at all

-- what holds of each value that a result may be
pub if_ok-from : {A E : Type 0} (r : Result A E) (P : A → Type 0) → ((x : A) → r ≡ Ok x → P x) → IfOk r P
if_ok-from (Ok x) P h = h x refl
if_ok-from (Err e) P h = tt
