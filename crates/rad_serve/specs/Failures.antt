-- What a failed call on a UDP socket means, by the error number that Linux gives.
use Rattle.std.specs.Prelude.{ℕ, ◌-◌, ◌^◌, ℤ, pos, int_lt, unsigned_abs, List, [], ◌∷◌, ◌==◌, if◌then◌else◌, Option, Some, None}
use Rattle.std.specs.List.{list_any}
use Rattle.rad_serve.specs.declared.failure.Failure.{Failure}
use Rattle.rad_serve.specs.declared.failure.Failure.TheVariants.{WouldBlock, Datagram, Socket}

-- the most failures that are counted
abbrev pub failures_max : ℕ
failures_max = 2 ^ 64 - 1

-- EAGAIN: no datagram waits, or the queue is full
abbrev pub would_block : ℕ
would_block = 11

-- what concerns one datagram: EINTR, ENOMEM, ENONET, ENETDOWN, ENETUNREACH, ENOBUFS, ECONNREFUSED, EHOSTDOWN, EHOSTUNREACH
abbrev pub datagram_errors : List ℕ
datagram_errors = 4 ∷ 12 ∷ 64 ∷ 100 ∷ 101 ∷ 105 ∷ 111 ∷ 112 ∷ 113 ∷ []

-- what concerns one destination, of a call that sends: EPERM, EACCES, EINVAL, EMSGSIZE
abbrev pub destination_errors : List ℕ
destination_errors = 1 ∷ 13 ∷ 22 ∷ 90 ∷ []

unfoldable pub failure_of_receive : ℕ → Failure
failure_of_receive number =
    if number == would_block then WouldBlock
    else if list_any (λ listed. listed == number) datagram_errors then Datagram
    else Socket

unfoldable pub failure_of_send : ℕ → Failure
failure_of_send number =
    if list_any (λ listed. listed == number) destination_errors then Datagram
    else failure_of_receive number

-- what an error means whose number means this; one without a number isn't the system's
unfoldable pub meaning : (ℕ → Failure) → Option ℤ → Failure
meaning of_number None = Socket
meaning of_number (Some number) = if int_lt number (pos 0) then Socket else of_number (unsigned_abs number)
