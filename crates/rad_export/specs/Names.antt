-- The names of numbers in accounting (RFC 2866, sections 5.1 and 5.10).
use Rattle.std.specs.Prelude.{ℕ, ℤ, pos, if◌then◌else◌, List, codes, Option, Some, None}
use Rattle.std.specs.Ordering.{int_eq}

-- the name of an Acct-Status-Type
abbrev pub status_name : ℤ → Option (List ℕ)
status_name status =
    if int_eq status (pos 1) then Some (codes "Start")
    else if int_eq status (pos 2) then Some (codes "Stop")
    else if int_eq status (pos 3) then Some (codes "Interim-Update")
    else if int_eq status (pos 7) then Some (codes "Accounting-On")
    else if int_eq status (pos 8) then Some (codes "Accounting-Off")
    else None

-- the name of an Acct-Terminate-Cause
abbrev pub cause_name : ℤ → Option (List ℕ)
cause_name cause =
    if int_eq cause (pos 1) then Some (codes "User-Request")
    else if int_eq cause (pos 2) then Some (codes "Lost-Carrier")
    else if int_eq cause (pos 3) then Some (codes "Lost-Service")
    else if int_eq cause (pos 4) then Some (codes "Idle-Timeout")
    else if int_eq cause (pos 5) then Some (codes "Session-Timeout")
    else if int_eq cause (pos 6) then Some (codes "Admin-Reset")
    else if int_eq cause (pos 7) then Some (codes "Admin-Reboot")
    else if int_eq cause (pos 8) then Some (codes "Port-Error")
    else if int_eq cause (pos 9) then Some (codes "NAS-Error")
    else if int_eq cause (pos 10) then Some (codes "NAS-Request")
    else if int_eq cause (pos 11) then Some (codes "NAS-Reboot")
    else if int_eq cause (pos 12) then Some (codes "Port-Unneeded")
    else if int_eq cause (pos 13) then Some (codes "Port-Preempted")
    else if int_eq cause (pos 14) then Some (codes "Port-Suspended")
    else if int_eq cause (pos 15) then Some (codes "Service-Unavailable")
    else if int_eq cause (pos 16) then Some (codes "Callback")
    else if int_eq cause (pos 17) then Some (codes "User-Error")
    else if int_eq cause (pos 18) then Some (codes "Host-Request")
    else None
