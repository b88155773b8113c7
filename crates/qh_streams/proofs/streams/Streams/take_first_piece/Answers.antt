use Rattle.std.proofs.Common.{◌≡◌, ◌+◌, length, refl, sym, ap, ◌∙◌, subst}
use Rattle.qh_half.specs.declared.recv.IngestFault.{IngestFault}
use Rattle.qh_half.specs.Recv.{IsFaultOf}
use Rattle.qh_streams.specs.Streams.{HasArrived, ingest_refusal}
use Rattle.qh_streams.proofs.StreamsKept.{recv_kept, recv_out}
use Rattle.qh_streams.proofs.StreamsSettled.{seen}
use Rattle.qh_streams.proofs.StreamsReceived.{piece_kept, refused_so, refused_alike, arrived_still, is_first_piece}
use Rattle.qh_streams.proofs.streams.Streams.take_first_piece.Goals as goal

pub returns-in-Err-clause-fault : goal.returns-in-Err-clause-fault
returns-in-Err-clause-fault c =
    let arrived = rw (← c.self.view_is) at c.in-Ok.ensures.ok in
    let alike = refused_alike c.args.self.now (seen c.self.inside) c.args.id arrived c.requires.new c.requires.within (c.args.piece.offset + length c.args.piece.bytes) c.args.fin in
    refused_so c.in-Err.fault c.ingest_fault.result _ _ c.ingest_fault.ensures (subst (IsFaultOf c.in-Err.fault) alike c.in-Err.ensures.fault)

pub returns-in-Err-clause-err : goal.returns-in-Err-clause-err
returns-in-Err-clause-err c =
    c.depart.ensures c.args.self.now c.in-Ok.ensures.sorted c.in-Ok.ensures.count
    (arrived_still c.args.self.now c.arrive.new.self (seen c.self.inside) c.ingest.new.self c.args.id.0 c.in-Ok.ensures.ok c.self.view_is c.in-Err.ensures.err)

pub returns-in-Err-clause-keeps_out : goal.returns-in-Err-clause-keeps_out
returns-in-Err-clause-keeps_out c f out = rw (returns-in-Err-clause-err c) out

pub invariant_of-self-in_default-ingest : goal.invariant_of-self-in_default-ingest
invariant_of-self-in_default-ingest c = recv_kept c.self.invariant (piece_kept c.in_default-ingest.ensures.ok) refl

pub returns-clause-ok : goal.returns-clause-ok
returns-clause-ok c =
    let arrived = rw (← c.self.view_is) at c.in-Ok.ensures.ok in
    is_first_piece c.args.self.now (seen c.self.inside) c.args.id arrived c.requires.new c.requires.within c.ingest.new.self c.requires.reads c.args.piece c.args.fin c.in_default-ingest.ensures.ok

pub returns-clause-taken : goal.returns-clause-taken
returns-clause-taken c =
    let arrived = rw (← c.self.view_is) at c.in-Ok.ensures.ok in
    let alike = refused_alike c.args.self.now (seen c.self.inside) c.args.id arrived c.requires.new c.requires.within (c.args.piece.offset + length c.args.piece.bytes) c.args.fin in
    rw (sym alike ∙ c.in_default-ingest.ensures.taken) refl

pub returns-clause-keeps_out : goal.returns-clause-keeps_out
returns-clause-keeps_out c f out =
    let s = seen c.self.inside in
    recv_out s (record s { recv = c.ingest.new.self }) refl f (rw (← c.self.view_is) at (c.in-Ok.ensures.keeps_out f out))
