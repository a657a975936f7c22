-- The text of a record: the told bytes from a position on that lie in no page header (XLogReadRecord,
-- xlogreader.c).
use Rattle.std.specs.Prelude.{ℕ, zero, suc, ◌+◌, ◌-◌, ◌%◌, ◌==◌, Bool, ◌&&◌, not, bit_and, Option, Some, None, option_map, Result, Ok, Err, List, [], ◌∷◌, if◌then◌else◌}
use Rattle.wal_page.specs.declared.PageHead.{PageHead}
use Rattle.wal_reader.specs.Halt.{Halt, Stops, GivesUp}
use Rattle.wal_reader.specs.declared.types.NoRecord.TheVariants.{End}
use Rattle.wal_reader.specs.declared.types.EndWhy.TheVariants.{Missing, Page}
use Rattle.wal_reader.specs.Told.{Told, header_at, page_header_length}
use Rattle.pg_types.specs.Numbers.{has_bits}

infixl 10 ◌>>=◌
abbrev pub ◌>>=◌ : {A B : Type 0} → Result A Halt → (A → Result B Halt) → Result B Halt
(Err halt) >>= f = Err halt
(Ok x) >>= f = f x

-- The page goes on with a record of which so many bytes are missing: it says that it begins inside a
-- record, and with how many bytes left. Where it says in place of this that the record was given up
-- (XLP_FIRST_IS_OVERWRITE_CONTRECORD), another one begins behind its header.
abbrev pub goes_on : PageHead → ℕ → ℕ → Result ℕ Halt
goes_on head missing behind =
    if has_bits head.info 8 && not (has_bits head.info 1) then Err (GivesUp behind)
    else if has_bits head.info 1 && head.rem == missing then Ok behind
    else Err (Stops (End Page))

-- a record that begins on a page, or whose length is not known yet, needs no more than a header without fault
abbrev pub enters : PageHead → Option ℕ → ℕ → Result ℕ Halt
enters head None behind = Ok behind
enters head (Some missing) behind = goes_on head missing behind

-- where the next byte of a text stands: at a page's start behind that page's header, else here
unfoldable pub place_at : Told → Option ℕ → ℕ → Result ℕ Halt
place_at told missing at =
    if at % 8192 == 0
    then (header_at told at >>= λ head. enters head missing (at + page_header_length told at))
    else Ok at

abbrev pub one_less : Option ℕ → Option ℕ
one_less missing = option_map (λ n. n - 1) missing

-- a byte at its place, if it is told
abbrev pub told_at : Option ℕ → Result ℕ Halt
told_at None = Err (Stops (End Missing))
told_at (Some byte) = Ok byte

-- So many bytes of a text, and the position behind the last one. `missing` is how many bytes of the
-- record are missing from here on, where its length is known.
unfoldable pub gathered : Told → Option ℕ → ℕ → ℕ → Result (List ℕ × ℕ) Halt
gathered told missing zero at = Ok ([], at)
gathered told missing (suc n) at =
    place_at told missing at
    >>= λ place. told_at (told.byte place)
    >>= λ byte. gathered told (one_less missing) n (place + 1)
    >>= λ rest. Ok (byte ∷ rest.0, rest.1)
