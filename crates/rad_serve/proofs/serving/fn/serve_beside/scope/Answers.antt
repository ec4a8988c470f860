use denote.Param.Send.{sendable}
use Rattle.rad_serve.proofs.serving.fn.serve_beside.scope.Goals as goal

-- the journal and the generations may go to the thread that serves
pub start-requires-send-J : goal.start-requires-send-J
start-requires-send-J g c = search (sendable, c.requires.1.1.1.1.1.1.0)

pub start-requires-send-K : goal.start-requires-send-K
start-requires-send-K g c = search (sendable, c.requires.1.1.1.1.1.1.1)
