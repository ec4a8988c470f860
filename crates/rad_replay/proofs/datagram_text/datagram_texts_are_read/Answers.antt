use Rattle.rad_replay.proofs.DatagramTextLemmas.{datagram_texts_are_read}
use Rattle.rad_replay.proofs.datagram_text.datagram_texts_are_read.Goals as goal

pub returns : goal.returns
returns c = datagram_texts_are_read
