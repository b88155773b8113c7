use Rattle.std.proofs.Common.{◌≡◌, refl, sym, ◌∙◌}
use Rattle.qh_halves.specs.RecvHalves.{half_ingest_fault}
use Rattle.qh_streams.specs.Streams.{recv_or_new}
use Rattle.qh_streams.proofs.StreamsSettled.{seen}
use Rattle.qh_streams.proofs.StreamsReceived.{fault_there, fault_of_new, size_refused}
use Rattle.qh_streams.proofs.streams.Streams.check_size.Goals as goal
use Rattle.qh_streams.proofs.streams.Streams.check_size.Goals.{Joined-was_opened, then-was_opened, else-was_opened}

fault_is : (c : Joined-was_opened) → c.if-was_opened.fault ≡ half_ingest_fault (recv_or_new c.args.self.now c.args.id.0) c.args.to c.args.is_end c.args.self.now.recv.received c.args.self.now.recv.announced.value
fault_is c =
    let s = seen c.self.inside in
    elim c.if-was_opened.branch [
      | then-was_opened w ↦ w.fault-is ∙ rw (← c.self.view_is) (w.ingest_fault-fault.ensures ∙ fault_there s c.args.id.0 c.args.to c.args.is_end (rw (← c.self.view_is) at (sym c.was_opened.ensures ∙ w.if-was_opened.true)))
      | else-was_opened w ↦
          let fresh = sym c.was_opened.ensures ∙ w.if-was_opened.false in
          w.fault-is ∙ rw (← c.self.view_is) (w.first_ingest_fault-fault.ensures c.args.is_end ∙ fault_of_new s c.args.id.0 c.args.to c.args.is_end (rw (← c.self.view_is) at fresh) (rw (← c.self.view_is) at (c.requires fresh)))
    ]

pub returns-in-Some-clause-fault : goal.returns-in-Some-clause-fault
returns-in-Some-clause-fault c =
    size_refused c.args.self.now c.args.id.0 c.args.to c.args.is_end c.in-Some.fault c.ingest_fault.result c.args.frame.0 (sym c.in-Some.is ∙ fault_is c.before.before) c.ingest_fault.ensures

pub returns-in-None-clause-ok : goal.returns-in-None-clause-ok
returns-in-None-clause-ok c = rw (sym (fault_is c.before) ∙ c.in-None.is) refl
