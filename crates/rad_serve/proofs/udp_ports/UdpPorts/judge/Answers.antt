use Rattle.std.proofs.Common.{arith}
use Rattle.rad_serve.proofs.udp_ports.UdpPorts.judge.Goals as goal

pub overflow_add-self : goal.overflow_add-self
overflow_add-self g c = omega (arith, c.if-not-count.ensures.reported, c.args.self.now.counted, c.if-not-count.ensures.few)
