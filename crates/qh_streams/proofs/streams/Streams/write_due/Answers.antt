use Rattle.std.proofs.Common.{refl}
use Rattle.qh_streams.proofs.PhasesWritten.{no_phase_yet, phase_idle}
use Rattle.qh_streams.proofs.streams.Streams.write_due.Goals as goal

pub returns-then-not-may_be_due-clause-written : goal.returns-then-not-may_be_due-clause-written
returns-then-not-may_be_due-clause-written c =
    let s = c.args.self.now in
    let none = no_phase_yet c.args.phase c.args.most c.args.room s s c.args.out.now.items c.args.out.now.items c.args.sent.now.items c.args.sent.now.items refl refl refl in
    phase_idle c.args.phase c.args.most c.args.room s s c.args.out.now.items c.args.out.now.items c.args.sent.now.items c.args.sent.now.items none _ _ _ refl refl refl (c.may_be_due.ensures c.if-not-may_be_due.true)
