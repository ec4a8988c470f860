-- The Codes of packets, each with the section that defines it.
use Rattle.std.specs.Prelude.{ℕ}

-- Access-Request (RFC 2865, section 4.1)
abbrev pub code_access_request : ℕ
code_access_request = 1

-- Access-Accept (RFC 2865, section 4.2)
abbrev pub code_access_accept : ℕ
code_access_accept = 2

-- Access-Reject (RFC 2865, section 4.3)
abbrev pub code_access_reject : ℕ
code_access_reject = 3

-- Accounting-Request (RFC 2866, section 4.1)
abbrev pub code_accounting_request : ℕ
code_accounting_request = 4

-- Accounting-Response (RFC 2866, section 4.2)
abbrev pub code_accounting_response : ℕ
code_accounting_response = 5

-- Access-Challenge (RFC 2865, section 4.4)
abbrev pub code_access_challenge : ℕ
code_access_challenge = 11

-- Status-Server (RFC 5997, section 3)
abbrev pub code_status_server : ℕ
code_status_server = 12
