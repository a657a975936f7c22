-- The cells that are meant by values that a tuple lends.
use Rattle.std.specs.Prelude.{ℕ, Result, Ok, Err}
use Rattle.heap_tuple.specs.declared.cell.Cell.{Cell}
use Rattle.heap_tuple.specs.declared.cell.Cell.TheVariants.{Null, Bool, Int, Bytes}
use Rattle.heap_tuple.specs.declared.value.Value.{Value}
use Rattle.heap_tuple.specs.declared.value.Value.TheVariants.{Null as LentNull, Bool as LentBool, Int as LentInt, Bytes as LentBytes}
use Rattle.heap_tuple.specs.declared.values.ValueRefusal.{ValueRefusal}

-- the cell that a lent value is
abbrev pub meant : Value → Cell
meant LentNull = Null
meant (LentBool truth) = Bool truth
meant (LentInt number) = Int number
meant (LentBytes bytes) = Bytes bytes.now

-- the same where it is given, and where it is given with the place behind it
abbrev pub meant_value : Result Value ValueRefusal → Result Cell ValueRefusal
meant_value (Ok value) = Ok (meant value)
meant_value (Err refusal) = Err refusal

abbrev pub meant_at : Result (Value × ℕ) ValueRefusal → Result (Cell × ℕ) ValueRefusal
meant_at (Ok found) = Ok (meant found.0, found.1)
meant_at (Err refusal) = Err refusal
