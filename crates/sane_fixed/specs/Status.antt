-- SANE's statuses: their numbers and names (SANE Standard 1.06, "Status Type").
use Rattle.std.specs.Prelude.{ℕ, ◌==◌, nat_lt, if◌then◌else◌, Option, Some, None, List, codes}
use Rattle.sane_fixed.specs.declared.status.Status.{Status}
use Rattle.sane_fixed.specs.declared.status.Status.TheVariants.{Good, Unsupported, Cancelled, DeviceBusy, Inval, Eof}
use Rattle.sane_fixed.specs.declared.status.Status.TheVariants.{Jammed, NoDocs, CoverOpen, IoError, NoMem, AccessDenied}

-- **status (`status_code`, `status_of`, `status_name`)**: SANE's twelve statuses, their numbers, both ways, and names
-- ("Status Type").
abbrev pub status_code : Status → ℕ
status_code Good = 0
status_code Unsupported = 1
status_code Cancelled = 2
status_code DeviceBusy = 3
status_code Inval = 4
status_code Eof = 5
status_code Jammed = 6
status_code NoDocs = 7
status_code CoverOpen = 8
status_code IoError = 9
status_code NoMem = 10
status_code AccessDenied = 11

abbrev pub status_at : ℕ → Status
status_at n =
    if n == 0 then Good
    else if n == 1 then Unsupported
    else if n == 2 then Cancelled
    else if n == 3 then DeviceBusy
    else if n == 4 then Inval
    else if n == 5 then Eof
    else if n == 6 then Jammed
    else if n == 7 then NoDocs
    else if n == 8 then CoverOpen
    else if n == 9 then IoError
    else if n == 10 then NoMem
    else AccessDenied

-- the status of a number, if there is one
abbrev pub status_of : ℕ → Option Status
status_of n = if nat_lt n 12 then Some (status_at n) else None

abbrev pub status_name : Status → List ℕ
status_name Good = codes "SANE_STATUS_GOOD"
status_name Unsupported = codes "SANE_STATUS_UNSUPPORTED"
status_name Cancelled = codes "SANE_STATUS_CANCELLED"
status_name DeviceBusy = codes "SANE_STATUS_DEVICE_BUSY"
status_name Inval = codes "SANE_STATUS_INVAL"
status_name Eof = codes "SANE_STATUS_EOF"
status_name Jammed = codes "SANE_STATUS_JAMMED"
status_name NoDocs = codes "SANE_STATUS_NO_DOCS"
status_name CoverOpen = codes "SANE_STATUS_COVER_OPEN"
status_name IoError = codes "SANE_STATUS_IO_ERROR"
status_name NoMem = codes "SANE_STATUS_NO_MEM"
status_name AccessDenied = codes "SANE_STATUS_ACCESS_DENIED"
