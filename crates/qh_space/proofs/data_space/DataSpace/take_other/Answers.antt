use Rattle.std.proofs.Common.{refl}
use Rattle.qh_space.specs.Receiving.IsFrameTaken.{passive, challenge, ack}
use Rattle.qh_space.proofs.FramesTaken.{other_taken}
use Rattle.qh_space.proofs.data_space.DataSpace.take_other.Goals as goal
use Rattle.qh_space.proofs.data_space.DataSpace.take_other.Goals.{in-Ack+in_ok-take_ack-in-Ack, in-PathChallenge, in-NewToken+in_ok-refuse_at_server-in-NewToken, in-HandshakeDone+in_ok-refuse_at_server-in-HandshakeDone, in-Datagram+in_ok-refuse_datagram-in-Datagram}

pub returns-in_default : goal.returns-in_default
returns-in_default c =
    let other = other_taken c.args.now.0 c.args.self.now c.args.frame.now c.closed_by.result
    (record { no_streams = c.requires.other; no_ack = c.in_default.not-Ack; no_token = c.in_default.not-NewToken; no_challenge = c.in_default.not-PathChallenge; no_confirmation = c.in_default.not-HandshakeDone; no_datagram = c.in_default.not-Datagram })
    c.closed_by.ensures in
    record { ok = other.0; taken = other.1; fault = tt; memory = tt; err = tt; space = c.requires.space }

pub returns-clause-ok : goal.returns-clause-ok
returns-clause-ok c = elim c.match-frame.branch [
  | in-Ack+in_ok-take_ack-in-Ack w ↦ rw (w.self-is, w.in-Ack.is) (ack _ w.in_ok-take_ack-in-Ack.ensures.ok)
  | in-PathChallenge w ↦ rw w.in-PathChallenge.is (challenge _ w.self-is)
  | in-NewToken+in_ok-refuse_at_server-in-NewToken w ↦ rw w.in-NewToken.is (passive _ refl w.self-is)
  | in-HandshakeDone+in_ok-refuse_at_server-in-HandshakeDone w ↦ rw w.in-HandshakeDone.is (passive _ refl w.self-is)
  | in-Datagram+in_ok-refuse_datagram-in-Datagram w ↦ rw w.in-Datagram.is (passive _ refl w.self-is)
]
