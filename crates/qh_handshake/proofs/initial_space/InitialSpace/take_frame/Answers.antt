use Rattle.std.proofs.Common.{refl, inl, inr}
use Rattle.qh_handshake.specs.Receiving.IsFrameTaken.{padding, ping, ack, crypto, close}
use Rattle.qh_handshake.proofs.initial_space.InitialSpace.take_frame.Goals as goal

pub returns-in_ok-take_ack-in-Ack-clause-ok : goal.returns-in_ok-take_ack-in-Ack-clause-ok
returns-in_ok-take_ack-in-Ack-clause-ok c = rw c.in-Ack.is (ack c.in-Ack.ack c.in_ok-take_ack-in-Ack.ensures.ok)

pub returns-in_ok-take_crypto-in-Crypto-clause-ok : goal.returns-in_ok-take_crypto-in-Crypto-clause-ok
returns-in_ok-take_crypto-in-Crypto-clause-ok c =
    rw c.in-Crypto.is (crypto _ (record { offset = c.in-Crypto.offset; bytes = c.in-Crypto.payload.now }) refl c.in_ok-take_crypto-in-Crypto.ensures.ok)

pub returns-in-ConnectionClose-clause-ok : goal.returns-in-ConnectionClose-clause-ok
returns-in-ConnectionClose-clause-ok c =
    rw c.in-ConnectionClose.is (close _ c.in-ConnectionClose.code c.in-ConnectionClose.frame_type c.in-ConnectionClose.reason.now c.close_of.result refl c.close_of.ensures refl)

pub returns-in-Padding-clause-ok : goal.returns-in-Padding-clause-ok
returns-in-Padding-clause-ok c = elim c.in-Padding.is [ inl is ↦ rw is (padding refl) | inr is ↦ rw is (ping refl) ]
