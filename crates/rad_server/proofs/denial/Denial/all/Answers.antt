use Rattle.std.proofs.Common.{arith, refl}
use Rattle.rad_server.specs.declared.denial.Denial.TheVariants.{EapNotSupported, MalformedRequest, StateUnknown, WrongState}
use Rattle.rad_server.specs.declared.denial.Denial.TheVariants.{AccessDenied, SessionLimit, NoAddressLeft, ServerFull}
use Rattle.rad_server.proofs.denial.Denial.all.Goals as goal

pub returns : goal.returns
returns c EapNotSupported = (0, omega arith, refl)
returns c MalformedRequest = (1, omega arith, refl)
returns c StateUnknown = (2, omega arith, refl)
returns c WrongState = (3, omega arith, refl)
returns c AccessDenied = (4, omega arith, refl)
returns c SessionLimit = (5, omega arith, refl)
returns c NoAddressLeft = (6, omega arith, refl)
returns c ServerFull = (7, omega arith, refl)
