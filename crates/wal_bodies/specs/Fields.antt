-- Fields of a record's main data and of a block's data, and the steps that may refuse.
use Rattle.std.specs.Prelude.{ℕ, nat_lt, List, length, drop, Option, Some, None, Result, Ok, Err, if◌then◌else◌}
pub use Rattle.record_fields.specs.Fields.{lsn_at, tli_at, xid_at, locator_at}
unfoldable pub use Rattle.record_fields.specs.Fields.{xids_at, lines_at, first_lines, redirects_at, locators_at, lock_entries_at, members_at, plans_at, planned_lines}
pub use Rattle.typed_records.specs.Fields.{◌>>=◌, if_main, main_block}
use Rattle.typed_records.specs.declared.types.BodyFault.{BodyFault}
use Rattle.typed_records.specs.declared.types.BodyFault.TheVariants.{Length}
use Rattle.wal_record.specs.Parts.{number_from}

-- what is read, in another form
abbrev pub result_map : {A B : Type 0} → (A → B) → Result A BodyFault → Result B BodyFault
result_map f (Err refusal) = Err refusal
result_map f (Ok x) = Ok (f x)

-- what a body has to have: without it, it is too short
abbrev pub needed : {A : Type 0} → Option A → Result A BodyFault
needed None = Err Length
needed (Some x) = Ok x

-- a number of n bytes at the front, which the body has to have, and what stands behind it
unfoldable pub needed_number : ℕ → List ℕ → Result (ℕ × List ℕ) BodyFault
needed_number n text = needed (number_from n text)

-- what is left behind n bytes
unfoldable pub behind : ℕ → List ℕ → Result (List ℕ) BodyFault
behind n text = if nat_lt (length text) n then Err Length else Ok (drop n text)
