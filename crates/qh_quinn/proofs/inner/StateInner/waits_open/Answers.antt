use Rattle.qh_quinn.proofs.Settling.{connecting}
use Rattle.qh_quinn.proofs.inner.StateInner.waits_open.Goals as goal

pub returns-in-Connecting : goal.returns-in-Connecting
returns-in-Connecting g c = rw c.in-Connecting.is (connecting c.args.self.now c.requires.state)

pub returns-in-HandshakeData : goal.returns-in-HandshakeData
returns-in-HandshakeData g c = rw c.in-HandshakeData.is (connecting c.args.self.now c.requires.state)

pub returns-in-Read : goal.returns-in-Read
returns-in-Read g c = rw c.in-Read.is c.waits_to_read.ensures

pub returns-in-ReceivedReset : goal.returns-in-ReceivedReset
returns-in-ReceivedReset g c = rw c.in-ReceivedReset.is c.waits_for_reset.ensures
