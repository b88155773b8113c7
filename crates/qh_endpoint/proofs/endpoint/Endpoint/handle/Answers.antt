use Rattle.std.proofs.Common.{refl, sym}
use Rattle.qh_endpoint.proofs.After.{handled_after, has_number, unhandled_after, unsupported_handled, unsupported_unhandled}
use Rattle.qh_endpoint.proofs.Answers.{same_fault}
use Rattle.qh_endpoint.proofs.Kept.{on_err}
use Rattle.qh_endpoint.specs.Handled.{malformed, kept, connection, keeping, looking}
use Rattle.qh_stateless.specs.View.{header_of}
use Rattle.qh_stateless.specs.declared.header.HeaderFault.TheVariants as fault
use Rattle.qh_endpoint.proofs.endpoint.Endpoint.handle.Goals as goal

pub returns-in-Malformed-clause-handled : goal.returns-in-Malformed-clause-handled
returns-in-Malformed-clause-handled g c = malformed (same_fault _ _ _ c.deref.result.now c.args.datagram c.in-Err.fault fault.Malformed c.deref.ensures c.in-Malformed.is c.in-Err.ensures.fault) refl c.requires

pub returns-in-UnsupportedVersion-clause-handled : goal.returns-in-UnsupportedVersion-clause-handled
returns-in-UnsupportedVersion-clause-handled g c =
    let u = c.in-UnsupportedVersion in
    unsupported_handled g.K.G.ConnectionIdGenerator.cid_len g.K.G.ConnectionIdGenerator.validates _ _ _ _ _ _ c.args.now (record { remote = c.args.remote; local_ip = c.args.local_ip }) c.args.datagram
    c.negotiate.result c.args.self.now c.negotiate.new.self u.version u.destination.now u.source.now c.negotiate.new.buf.items c.len-size.result
    (same_fault _ _ _ c.deref.result.now c.args.datagram c.in-Err.fault (fault.UnsupportedVersion u.version u.destination u.source) c.deref.ensures u.is c.in-Err.ensures.fault)
    (sym c.len-size.ensures.value) c.negotiate.ensures.negotiated

pub answer-requires-clause-numbered : goal.answer-requires-clause-numbered
answer-requires-clause-numbered g c = has_number c.in_ok-stranger.ensures.judged

pub returns-in_default-clause-handled : goal.returns-in_default-clause-handled
returns-in_default-clause-handled g c = handled_after g.K.G.ConnectionIdGenerator.cid_len g.K.G.ConnectionIdGenerator.validates _ _ _ _ _ _ c.args.now (record { remote = c.args.remote; local_ip = c.args.local_ip }) c.args.datagram
    c.answer.result c.args.self.now c.judge.new.self c.answer.new.self (header_of c.in-Ok.header) c.in_ok-stranger.stranger c.answer.new.buf.items
    (rw c.deref.ensures at c.in-Ok.ensures.header) (rw c.deref-2.ensures at c.in_default.ensures) (rw c.len.ensures.value at c.in_ok-stranger.ensures.judged) c.answer.ensures.handled

pub returns-in_default-clause-err : goal.returns-in_default-clause-err
returns-in_default-clause-err g c = unhandled_after g.K.G.ConnectionIdGenerator.cid_len g.K.G.ConnectionIdGenerator.validates _ _ _ _ _ _ c.args.now (record { remote = c.args.remote; local_ip = c.args.local_ip }) c.args.datagram
    c.answer.result c.args.self.now c.judge.new.self c.answer.new.self (header_of c.in-Ok.header) c.in_ok-stranger.stranger c.answer.new.buf.items
    (rw c.deref.ensures at c.in-Ok.ensures.header) (rw c.deref-2.ensures at c.in_default.ensures) (rw c.len.ensures.value at c.in_ok-stranger.ensures.judged) c.answer.ensures.err

pub returns-in-UnsupportedVersion-clause-err : goal.returns-in-UnsupportedVersion-clause-err
returns-in-UnsupportedVersion-clause-err g c =
    let u = c.in-UnsupportedVersion in
    unsupported_unhandled g.K.G.ConnectionIdGenerator.cid_len g.K.G.ConnectionIdGenerator.validates _ _ _ _ _ _ c.args.now (record { remote = c.args.remote; local_ip = c.args.local_ip }) c.args.datagram
    c.negotiate.result c.args.self.now c.negotiate.new.self u.version u.destination.now u.source.now c.negotiate.new.buf.items c.len-size.result
    (same_fault _ _ _ c.deref.result.now c.args.datagram c.in-Err.fault (fault.UnsupportedVersion u.version u.destination u.source) c.deref.ensures u.is c.in-Err.ensures.fault)
    (sym c.len-size.ensures.value) c.negotiate.ensures.wanting c.negotiate.ensures.drawn c.negotiate.ensures.err c.negotiate.ensures.unwritten

pub returns-in_err-stranger-clause-err : goal.returns-in_err-stranger-clause-err
returns-in_err-stranger-clause-err g c = on_err _ (looking (header_of c.in-Ok.header) (rw c.deref.ensures at c.in-Ok.ensures.header) (rw c.deref-2.ensures at c.in_default.ensures) (rw c.len.ensures.value at c.in_err-stranger.ensures.err) c.requires)

pub returns-in_err-keep-in-Incoming-clause-err : goal.returns-in_err-keep-in-Incoming-clause-err
returns-in_err-keep-in-Incoming-clause-err g c = on_err _ (keeping (header_of c.in-Ok.header) c.in-Incoming.key (rw c.deref.ensures at c.in-Ok.ensures.header) (rw c.in-Incoming.is at (rw c.deref-2.ensures at c.in-Some.ensures))
    c.in_err-keep-in-Incoming.ensures.had_room c.in_err-keep-in-Incoming.ensures.err c.requires)

pub returns-in_ok-keep-in-Incoming-clause-handled : goal.returns-in_ok-keep-in-Incoming-clause-handled
returns-in_ok-keep-in-Incoming-clause-handled g c = kept (header_of c.in-Ok.header) c.in-Incoming.key (rw c.deref.ensures at c.in-Ok.ensures.header) (rw c.in-Incoming.is at (rw c.deref-2.ensures at c.in-Some.ensures))
    c.in_ok-keep-in-Incoming.ensures.ok c.requires

pub returns-in-Connection-clause-handled : goal.returns-in-Connection-clause-handled
returns-in-Connection-clause-handled g c = connection (header_of c.in-Ok.header) c.in-Connection.handle (rw c.deref.ensures at c.in-Ok.ensures.header) (rw c.in-Connection.is at (rw c.deref-2.ensures at c.in-Some.ensures)) refl c.requires
