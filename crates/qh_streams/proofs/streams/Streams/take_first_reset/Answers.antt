use Rattle.std.proofs.Common.{◌≡◌, true, refl, sym, ap, ◌∙◌, inl, inr}
use Rattle.qh_half.specs.declared.recv.IngestFault.{IngestFault}
use Rattle.qh_streams.specs.Streams.{HasArrived, ingest_refusal}
use Rattle.qh_streams.proofs.StreamsKept.{recv_kept, recv_out}
use Rattle.qh_streams.proofs.StreamsSettled.{seen}
use Rattle.qh_streams.proofs.StreamsReceived.{reset_kept, refused_so, refused_alike, arrived_still, is_first_reset}
use Rattle.qh_streams.proofs.streams.Streams.take_first_reset.Goals as goal

pub returns-in-Err-clause-fault : goal.returns-in-Err-clause-fault
returns-in-Err-clause-fault c =
    let arrived = rw (← c.self.view_is) at c.in-Ok.ensures.ok in
    let alike = refused_alike c.args.self.now (seen c.self.inside) c.args.id arrived c.requires.new c.requires.within c.args.final_size true in
    refused_so c.in-Err.fault c.ingest_fault.result _ _ c.ingest_fault.ensures (inr (sym alike ∙ c.in-Err.ensures.fault.0))

pub returns-in-Err-clause-err : goal.returns-in-Err-clause-err
returns-in-Err-clause-err c =
    c.depart.ensures c.args.self.now c.in-Ok.ensures.sorted c.in-Ok.ensures.count
    (arrived_still c.args.self.now c.arrive.new.self (seen c.self.inside) c.received_reset.new.self c.args.id.0 c.in-Ok.ensures.ok c.self.view_is c.in-Err.ensures.fault.1)

pub returns-in-Err-clause-keeps_out : goal.returns-in-Err-clause-keeps_out
returns-in-Err-clause-keeps_out c f out = rw (returns-in-Err-clause-err c) out

pub invariant_of-self-in_default-received_reset : goal.invariant_of-self-in_default-received_reset
invariant_of-self-in_default-received_reset c = recv_kept c.self.invariant (reset_kept c.in_default-received_reset.ensures.ok) refl

pub returns-clause-ok : goal.returns-clause-ok
returns-clause-ok c =
    let arrived = rw (← c.self.view_is) at c.in-Ok.ensures.ok in
    is_first_reset c.args.self.now (seen c.self.inside) c.args.id arrived c.requires.new c.requires.within c.received_reset.new.self c.requires.reads c.args.code c.args.final_size c.in_default-received_reset.ensures.ok

pub returns-clause-taken : goal.returns-clause-taken
returns-clause-taken c =
    let arrived = rw (← c.self.view_is) at c.in-Ok.ensures.ok in
    let alike = refused_alike c.args.self.now (seen c.self.inside) c.args.id arrived c.requires.new c.requires.within c.args.final_size true in
    rw (sym alike ∙ c.in_default-received_reset.ensures.taken) refl

pub returns-clause-keeps_out : goal.returns-clause-keeps_out
returns-clause-keeps_out c f out =
    let s = seen c.self.inside in
    recv_out s (record s { recv = c.received_reset.new.self }) refl f (rw (← c.self.view_is) at (c.in-Ok.ensures.keeps_out f out))
