-- Why access is denied: the text of each denial, which the Access-Reject has as its Reply-Message (RFC 2865, section 5.18).
use Rattle.std.specs.Prelude.{ℕ, List, codes}
use Rattle.rad_pool.specs.declared.grant.Refusal.{Refusal}
use Rattle.rad_pool.specs.declared.grant.Refusal.TheVariants as refusals
use Rattle.rad_server.specs.declared.denial.Denial.{Denial}
use Rattle.rad_server.specs.declared.denial.Denial.TheVariants.{EapNotSupported, MalformedRequest, StateUnknown, WrongState}
use Rattle.rad_server.specs.declared.denial.Denial.TheVariants.{AccessDenied, SessionLimit, NoAddressLeft, ServerFull}

abbrev pub denial_text : Denial → List ℕ
denial_text EapNotSupported = codes "eap not supported"
denial_text MalformedRequest = codes "malformed request"
denial_text StateUnknown = codes "state unknown"
denial_text WrongState = codes "wrong state"
denial_text AccessDenied = codes "access denied"
denial_text SessionLimit = codes "session limit"
denial_text NoAddressLeft = codes "no address left"
denial_text ServerFull = codes "server full"

-- why there is no session; the rule never gives `NoMemory`
abbrev pub denial_of : Refusal → Denial
denial_of refusals.SessionLimit = SessionLimit
denial_of refusals.NoAddress = NoAddressLeft
denial_of refusals.Full = ServerFull
denial_of refusals.NoMemory = ServerFull
