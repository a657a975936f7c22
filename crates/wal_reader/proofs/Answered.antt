-- What calls one after the other say, where the bytes are told.
use Rattle.std.proofs.Common.{◌≡◌, ◌==◌, ℕ, ◌+◌, ◌-◌, ◌%◌, ◌<◌, ◌≤◌, Option, Some, None, Result, Ok, Err, List, [], ◌++◌, append_assoc, IfSome, true, eq-eqb, refl, sym, ap, subst, ◌∙◌, arith}
use Rattle.std.proofs.lemmas.List.{append-nil}
use Rattle.pg_types.specs.declared.names.Tli.{Tli}
use Rattle.std.specs.Option.{ForSome}
use Rattle.wal_page.specs.declared.PageHead.{PageHead}
use Rattle.wal_page.specs.declared.PageFault.{PageFault}
use Rattle.wal_page.specs.Page.{page_header}
use Rattle.wal_reader.specs.Halt.{Halt, Stops}
use Rattle.wal_reader.specs.declared.types.NoRecord.TheVariants.{End}
use Rattle.wal_reader.specs.declared.types.EndWhy.TheVariants.{Missing}
use Rattle.wal_reader.specs.declared.types.Trouble.{Trouble}
use Rattle.wal_reader.specs.Told.{Told, told_bytes, header_at, page_header_length, accepted, read_at}
use Rattle.wal_reader.specs.Kept.{Kept, AreTold}
use Rattle.wal_reader.specs.Gathered.{place_at, enters, gathered}
use Rattle.wal_reader.specs.Calls.{Gathering, told_to, WhereTold, Says, SaysBytes, SaysText, SaysPart, less}
use Rattle.wal_reader.proofs.Halted.{halts-map}
use Rattle.wal_reader.proofs.GatheredSteps.{gathered_in_page, gathered_missing, gathered_nowhere, gathered_then, gathered_then_err, gathered_err, less-less}

pub where_start : (told : Option (ℕ → Option ℕ)) (owner : ℕ → ℕ) (old : Gathering) (R : Told → Type 0)
    → ((byte : ℕ → Option ℕ) → R (told_to old byte owner)) → WhereTold told owner old old R
where_start None owner old R r = tt
where_start (Some byte) owner old R r = λ kept. (kept, r byte)

pub where_map : (told : Option (ℕ → Option ℕ)) (owner : ℕ → ℕ) (old mid new : Gathering) (P R : Told → Type 0)
    → new.kept ≡ mid.kept → ((byte : ℕ → Option ℕ) → P (told_to old byte owner) → R (told_to old byte owner))
    → WhereTold told owner old mid P → WhereTold told owner old new R
where_map None owner old mid new P R same r w = tt
where_map (Some byte) owner old mid new P R same r w = λ kept.
    let p = w kept in
    (subst (λ (k : Kept). AreTold byte k) (sym same) p.0, r byte p.1)

pub where_chain : (told told' : Option (ℕ → Option ℕ)) (owner owner' : ℕ → ℕ) (old mid next new : Gathering) (P Q R : Told → Type 0)
    → told' ≡ told → owner' ≡ owner → mid.system ≡ old.system → mid.segsize ≡ old.segsize → new.kept ≡ next.kept
    → ((byte : ℕ → Option ℕ) → P (told_to old byte owner) → Q (told_to old byte owner) → R (told_to old byte owner))
    → WhereTold told owner old mid P → WhereTold told' owner' mid next Q → WhereTold told owner old new R
where_chain None told' owner owner' old mid next new P Q R t o s z same r first later = tt
where_chain (Some byte) told' owner owner' old mid next new P Q R t o s z same r first later = λ kept.
    let p = first kept in
    let l = rw t at later in
    let q = l p.0 in
    let q' = rw (o, s, z) at q.1 in
    (subst (λ (k : Kept). AreTold byte k) (sym same) q.0, r byte p.1 q')

-- a header whose bytes are not all there
pub header_wanting : (told : Told) (at size : ℕ) (e : Trouble) (bytes : List ℕ) → size ≡ page_header_length told at
    → SaysBytes {A = Unit {0}} (Err e) bytes (told_bytes told.byte size at) → Says {A = PageHead} (Err e) (header_at told at)
unfolding header_at
header_wanting told at size e bytes s says = halts-map e says (λ halt want. let none = rw s at want.0 in rw (none, want.1) refl)

-- a header whose bytes are there
pub header_there : (told : Told) (at size : ℕ) (bytes piece : List ℕ) (known : Option (ℕ × ℕ)) (tli : Tli) (read : Result PageHead PageFault) (result : Result PageHead Trouble)
    → size ≡ page_header_length told at → told_bytes told.byte size at ≡ Some bytes
    → piece ≡ bytes → known ≡ Some (told.system, told.segsize) → tli.0 ≡ told.owner at
    → read ≡ page_header piece at (record { known = known; tli = tli })
    → Says result (accepted read) → Says result (header_at told at)
unfolding header_at
header_there told at size bytes piece known tli read result s there p k o r says =
    let t = rw s at there in
    let own : tli ≡ record { 0 = told.owner at } = ap (λ (n : ℕ). let x : Tli = record { 0 = n } in x) o in
    let r' = rw (p, k, own) at r in
    let e : read_at told at (told_bytes told.byte (page_header_length told at) at) ≡ accepted read = rw (t, r') refl in
    subst (λ (x : Result PageHead Halt). Says result x) (sym e) says

-- the place behind a header
pub place_behind : (told : Told) (missing : Option ℕ) (at len : ℕ) (head : PageHead) (result : Result ℕ Trouble)
    → at % 8192 ≡ 0 → len ≡ page_header_length told at → header_at told at ≡ Ok head → Says result (enters head missing (at + len)) → Says result (place_at told missing at)
unfolding place_at
place_behind told missing at len head result start l header says =
    let b : (at % 8192 == 0) ≡ true = eq-eqb (at % 8192) 0 start in
    let p : place_at told missing at ≡ enters head missing (at + len) = rw (b, header, ← l) refl in
    subst (λ (x : Result ℕ Halt). Says result x) (sym p) says

pub place_wanting : (told : Told) (missing : Option ℕ) (at : ℕ) (e : Trouble)
    → at % 8192 ≡ 0 → Says {A = PageHead} (Err e) (header_at told at) → Says {A = ℕ} (Err e) (place_at told missing at)
unfolding place_at
place_wanting told missing at e start says =
    let b : (at % 8192 == 0) ≡ true = eq-eqb (at % 8192) 0 start in
    halts-map e says (λ halt s. rw (b, s) refl)

-- the bytes of one page
pub part_nowhere : (told : Told) (missing : Option ℕ) (at left : ℕ) (e : Trouble) (old new : List ℕ) → 0 < left
    → Says {A = ℕ} (Err e) (place_at told missing at) → SaysPart (Err e) left old new (λ n. gathered told missing n at)
part_nowhere told missing at left e old new some says = halts-map e says (λ halt s. gathered_nowhere told left at missing halt s some)

pub part_wanting : (told : Told) (missing : Option ℕ) (at left place room : ℕ) (e : Trouble) (bytes old new : List ℕ)
    → 0 < room → room ≤ left → place % 8192 + room ≤ 8192
    → place_at told missing at ≡ Ok place → SaysBytes {A = Unit {0}} (Err e) bytes (told_bytes told.byte room place)
    → SaysPart (Err e) left old new (λ n. gathered told missing n at)
part_wanting told missing at left place room e bytes old new some fits within here says =
    halts-map e says (λ halt want.
    let none = gathered_missing told room at place missing here some within want.0 in
    let more = gathered_err told room (left - room) at missing (Stops (End Missing)) none in
    let l : room + (left - room) ≡ left = omega arith in
    let m = rw l at more in
    rw want.1 m)

pub part_there : (told : Told) (missing : Option ℕ) (at left place room : ℕ) (bytes old new : List ℕ)
    → 0 < room → room ≤ left → place % 8192 + room ≤ 8192
    → place_at told missing at ≡ Ok place → told_bytes told.byte room place ≡ Some bytes → new ≡ old ++ bytes
    → SaysPart (Ok (place + room, room)) left old new (λ n. gathered told missing n at)
part_there told missing at left place room bytes old new some fits within here there added =
    (bytes, some, fits, gathered_in_page told room at place missing bytes here some within there, added)

-- a text gathered page by page
pub text_start : (told : Told) (missing : Option ℕ) (n at : ℕ) (text : List ℕ) → SaysText (Ok at) text text (gathered told missing (n - n) at)
unfolding gathered
text_start told missing n at text = let z : n - n ≡ 0 = omega arith in rw z ([], refl, sym (append-nil text))

pub text_more : (told : Told) (missing missing' : Option ℕ) (n left got at mid end : ℕ) (old text new : List ℕ) → left ≤ n
    → missing' ≡ less missing (n - left)
    → SaysText (Ok mid) old text (gathered told missing (n - left) at)
    → SaysPart (Ok (end, got)) left text new (λ k. gathered told missing' k mid)
    → SaysText (Ok end) old new (gathered told missing (n - (left - got)) at)
text_more told missing missing' n left got at mid end old text new fits same (xs, first, t) (ys, some, few, later, u) =
    let l = rw same at later in
    let whole = gathered_then told (n - left) got at mid end missing xs ys first l in
    let z : n - (left - got) ≡ n - left + got = omega arith in
    rw z (xs ++ ys, whole, u ∙ ap (λ (s : List ℕ). s ++ ys) t ∙ append_assoc old xs ys)

pub text_halts : (told : Told) (missing missing' : Option ℕ) (n left at mid : ℕ) (e : Trouble) (old text new : List ℕ) → left ≤ n
    → missing' ≡ less missing (n - left)
    → SaysText (Ok mid) old text (gathered told missing (n - left) at)
    → SaysPart (Err e) left text new (λ k. gathered told missing' k mid)
    → SaysText (Err e) old new (gathered told missing n at)
text_halts told missing missing' n left at mid e old text new fits same (xs, first, t) says =
    halts-map e says (λ halt s.
    let l = rw same at s in
    let whole = gathered_then_err told (n - left) left at mid missing xs halt first l in
    let z : n - left + left ≡ n = omega arith in
    rw z at whole)

-- how many are missing after some more
pub missing_after : (missing missing' : Option ℕ) (n left got : ℕ) → left ≤ n → got ≤ left → missing' ≡ less missing (n - left)
    → less missing' got ≡ less missing (n - (left - got))
missing_after missing missing' n left got fits few same =
    let z : n - (left - got) ≡ n - left + got = omega arith in
    rw (z, same) (less-less missing (n - left) got)

pub enough_after : (missing : Option ℕ) (left got : ℕ) → IfSome missing (λ m. left ≤ m) → IfSome (less missing got) (λ m. left - got ≤ m)
enough_after None left got enough = tt
enough_after (Some m) left got enough = omega arith

-- what a call says of a value that it found, where the bytes are told
pub where_found : {X : Type 0} (told : Option (ℕ → Option ℕ)) (owner : ℕ → ℕ) (old new : Gathering) (found : Option X) (x : X) (P : (ℕ → Option ℕ) → X → Type 0)
    → found ≡ Some x
    → IfSome told (λ byte. AreTold byte old.kept → AreTold byte new.kept)
    → IfSome told (λ byte. AreTold byte old.kept → ForSome found (P byte))
    → WhereTold told owner old new (λ t. P t.byte x)
where_found None owner old new found x P is kept says = tt
where_found (Some byte) owner old new found x P is kept says = λ before. (kept before, says before x is)
