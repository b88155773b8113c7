use Rattle.std.proofs.Common.{ap, inl, inr}
use Rattle.qh_endpoint.proofs.Leading.{accepted_led, by_event, by_exhausted, by_wanting, closed_led, connected_led, handled_led, left, not_retried_led, unaccepted_led, unclosed_led, unconnected_led, unhandled_led, unled, written_led}
use Rattle.qh_endpoint.specs.Endpoint.{PlainEndpoint}
use Rattle.qh_endpoint.proofs.laws.attempts_are_led.Goals as goal

pub returns-clause-handled : goal.returns-clause-handled
returns-clause-handled g c now addresses datagram written old new event led handled = handled_led _ _ _ _ _ _ _ _ now addresses datagram written old new led event handled

pub returns-clause-unhandled : goal.returns-clause-unhandled
returns-clause-unhandled g c now addresses datagram written old new led unhandled = unhandled_led _ _ _ _ _ _ _ _ now addresses datagram written old new led unhandled

pub returns-clause-left : goal.returns-clause-left
returns-clause-left g c name attempt old new led gone = left name attempt old new gone led

pub returns-clause-accepted : goal.returns-clause-accepted
returns-clause-accepted g c server w now datagrams old new handle connection led accepted = accepted_led _ _ _ _ server w now old new led datagrams handle connection accepted

pub returns-clause-unaccepted : goal.returns-clause-unaccepted
returns-clause-unaccepted g c server w now written old new e led unaccepted = unaccepted_led _ _ _ _ server w now old new led written e unaccepted

pub returns-clause-connected : goal.returns-clause-connected
returns-clause-connected g c now config remote name old new handle connection led connected = connected_led _ _ _ _ _ _ now config remote name old new led handle connection connected

pub returns-clause-unconnected : goal.returns-clause-unconnected
returns-clause-unconnected g c now config remote name old new e led unconnected = unconnected_led _ _ _ _ _ _ now config remote name old new led e unconnected

pub returns-clause-asked : goal.returns-clause-asked
returns-clause-asked g c handle event answer old new led rest done =
    unled old new (by_event g.K.G.ConnectionIdGenerator.given g.K.G.ConnectionIdGenerator.cid_len g.K.G.ConnectionIdGenerator.validates handle event answer old.connections new.connections done) (ap (λ (z : PlainEndpoint _ _ _ _). z.incoming) rest) led

pub returns-clause-unasked : goal.returns-clause-unasked
returns-clause-unasked g c handle event old new led rest failed = unled old new
    (elim failed [
      | inl out ↦ by_exhausted g.K.G.ConnectionIdGenerator.given g.K.G.ConnectionIdGenerator.cid_len g.K.G.ConnectionIdGenerator.validates handle event old.connections new.connections out
      | inr wanting ↦ by_wanting g.K.G.ConnectionIdGenerator.given g.K.G.ConnectionIdGenerator.cid_len g.K.G.ConnectionIdGenerator.validates handle event old.connections new.connections wanting
    ])
    (ap (λ (z : PlainEndpoint _ _ _ _). z.incoming) rest) led

pub returns-clause-closed : goal.returns-clause-closed
returns-clause-closed g c destination source written error old new led closed = closed_led _ _ _ _ _ destination source error old new written closed led

pub returns-clause-unclosed : goal.returns-clause-unclosed
returns-clause-unclosed g c written old new led unclosed = unclosed_led _ old new written unclosed led

pub returns-clause-retried : goal.returns-clause-retried
returns-clause-retried g c now w written old new led retried = written_led _ _ _ _ w old new led now written retried

pub returns-clause-unretried : goal.returns-clause-unretried
returns-clause-unretried g c w old new why led refused = not_retried_led _ _ _ _ w old new led why refused
