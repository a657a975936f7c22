-- The commit log as a map from transaction id to status (PostgreSQL's clog.c and transam.c).
use Rattle.std.specs.Prelude.{ℕ, ◌*◌, ◌/◌, ◌%◌, ◌==◌, ◌&&◌, ◌||◌, Bool, List, max, nat_lt, nat_le, slice_get, vec_len, if◌then◌else◌}
use Rattle.std.specs.List.{list_any}
use Rattle.std.specs.Option.{option_map_or}
use Rattle.pg_types.specs.declared.names.Xid.{Xid}
use Rattle.pg_types.specs.declared.status.Status.{Status}
use Rattle.pg_types.specs.declared.status.Status.TheVariants.{None, Committed}
use Rattle.commit_log.specs.declared.CommitLog.{CommitLog}
use Rattle.commit_log.specs.declared.page.StatusPage.{StatusPage}
use Rattle.commit_log.specs.Packed.{bits_at, status_of_bits}

-- the status that stands at place n of a page
abbrev pub page_status : StatusPage → ℕ → Status
page_status page n = status_of_bits (bits_at page.bytes.value n)

-- the status of transaction x before any is set: the bootstrap and the frozen id are always committed (transam.h, transam.c)
abbrev pub initial_status : ℕ → Status
initial_status x = if x == 1 || x == 2 then Committed else None

-- the status of transaction x; that of the ids below the first normal one is fixed
unfoldable pub status_of : CommitLog → ℕ → Status
status_of log x =
    if nat_lt x 3
    then initial_status x
    else option_map_or (λ page. page_status page (x % 32768)) (slice_get log.pages.items (x / 32768)) None

-- the id from which on no status can be set: whole pages of 32768 statuses (clog.c, CLOG_XACTS_PER_PAGE)
unfoldable pub reserved_end : CommitLog → ℕ
reserved_end log = 32768 * vec_len log.pages

-- the greatest position at which a status of page number n was set, or 0
unfoldable pub changed_at : CommitLog → ℕ → ℕ
changed_at log n = option_map_or (λ page. page.changed.0) (slice_get log.pages.items n) 0

-- whether x is one of these ids and a normal one
abbrev pub is_named : List Xid → ℕ → Bool
is_named xids x = nat_le 3 x && list_any (λ (y : Xid). y.0 == x) xids

-- the status of x after all of these ids got this one (TransactionIdSetTreeStatus, clog.c)
abbrev pub status_after : (ℕ → Status) → List Xid → Status → ℕ → Status
status_after before xids status x = if is_named xids x then status else before x

-- whether a normal one of these ids has its status on page number n
abbrev pub is_touched : List Xid → ℕ → Bool
is_touched xids n = list_any (λ (y : Xid). nat_le 3 y.0 && (y.0 / 32768 == n)) xids

-- the position of page number n after all of these ids got a status at this one
abbrev pub changed_after : (ℕ → ℕ) → List Xid → ℕ → ℕ → ℕ
changed_after before xids at n = if is_touched xids n then max (before n) at else before n
