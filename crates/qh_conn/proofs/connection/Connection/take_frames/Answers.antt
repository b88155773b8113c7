use Rattle.std.proofs.Common.{◌≡◌, true, [], Option, None, Some, refl, inl, inr, sym, ap, subst, ◌∙◌, ◌-◌, arith}
use Rattle.qh_base.specs.declared.transport_error.TransportError.{TransportError}
use Rattle.qh_conn.proofs.InFrames.{all_read, cut_read, faulted_done, faulted_sound, faulted_stands, no_frame, one_more, refused_read}
use Rattle.qh_conn.proofs.LogKept.{core_goes, goes_on}
use Rattle.qh_conn.proofs.OutKeys.{closed_of}
use Rattle.qh_core.specs.Inner.{is_open}
use Rattle.qh_core.specs.Receiving.{IsFaulted}
use Rattle.qh_core.specs.declared.inner.Inner.{Inner}
use Rattle.qh_streams.specs.Streams.{IsRefusal, IsRefusedBy, Refusal}
use Rattle.qh_streams.specs.declared.fault.StreamFault.{StreamFault}
use Rattle.qh_streams.specs.declared.fault.StreamFault.TheVariants.{Memory as Wanting, Transport}
use Rattle.qh_conn.specs.Incoming.{AreFramesDone}
use Rattle.qh_conn.specs.declared.connection.Connection.{Connection}
use Rattle.qh_conn.proofs.SameParts.{controls_same, faulted_same}
use Rattle.qh_conn.proofs.Same.{both_control, both_same}
use Rattle.qh_conn.proofs.connection.Connection.take_frames.Goals as goal

pub returns-in_default-clause-done : goal.returns-in_default-clause-done
returns-in_default-clause-done g c = λ taken are count.
    absurd (no_frame c.args.now c.args.accepted.now.frames.now c.loop-left.rest.now c.loop-left.left c.args.accepted.now.taken _ _ c.loop-left.invariant.2 c.in_default.ensures.none (omega (arith, c.loop-left-test.true)) taken are count)

pub returns-clause-done : goal.returns-clause-done
returns-clause-done g c = λ taken are count.
    let r = all_read c.args.now c.args.accepted.now.frames.now c.loop-left.rest.now c.loop-left.left c.args.accepted.now.taken _ _ c.loop-left.invariant.2 (omega (arith, c.loop-left-test.false)) taken are count in
    (r.0, r.1, r.2, AreFramesDone.done r.3 (ap (λ (z : Connection _). z.core) c.loop-left.invariant.1))

pub loop-left-preserved : goal.loop-left-preserved
loop-left-preserved g c = (
  c.take_control.ensures.sound,
  c.take_control.ensures.rest ∙ ap (λ (z : Connection _). record z { control = c.take_control.new.self.control }) c.loop-left.invariant.1,
  one_more c.args.now c.args.accepted.now.frames.now c.loop-left.rest.now c.in-Ok.behind.now c.in-Ok.frame c.loop-left.left _ c.args.accepted.now.taken _ c.loop-left.self.control c.take_control.new.self.control
      c.in-Ok.ensures.found (omega (arith, c.loop-left-test.true)) c.in-Ok-take_control.ensures.unrefused c.in-Ok-take_control.ensures.taken c.loop-left.invariant.2,
  both_control true true _ c.loop-left.self.control _ c.loop-left.invariant.3 c.take_control.ensures.stays (λ is. is),
  goes_on _ c.loop-left.self c.take_control.new.self c.loop-left.invariant.4 c.take_control.ensures.log,
)

refused_by : (f : StreamFault) (e : TransportError) (refusal : Option Refusal) → f ≡ Transport e → IsRefusedBy f refusal → IsRefusal (Transport e) refusal
refused_by f e refusal is (inl wanting) = let z : Transport e ≡ Wanting = sym is ∙ wanting.0 in cc
refused_by f e refusal is (inr r) = subst (λ (z : StreamFault). IsRefusal z refusal) is r

not_wanting : (f : StreamFault) (e : TransportError) → f ≡ Transport e → f ≡ Wanting → ⊥
not_wanting f e is wanting = let z : Transport e ≡ Wanting = sym is ∙ wanting in cc

pub returns-in-Err-Transport-clause-done : goal.returns-in-Err-Transport-clause-done
returns-in-Err-Transport-clause-done g c = λ taken are count.
    let r = c.in-Err-Transport in
    faulted_done c.args.now c.args.accepted.now.frames.now _ r.error c.args.self.now c.loop-left.self c.take_control.new.self c.close_by_fault.new.self
    (r.ensures.refused (not_wanting r.field-0 r.error r.field-0-is)) c.loop-left.invariant.1
    (refused_read c.args.now c.args.accepted.now.frames.now c.loop-left.rest.now c.in-Ok.behind.now c.in-Ok.frame c.loop-left.left (c.loop-left.left - 1) c.args.accepted.now.taken r.error _ c.loop-left.self.control
    c.in-Ok.ensures.found (omega (arith, c.loop-left-test.true)) (refused_by r.field-0 r.error _ r.field-0-is r.ensures.fault) c.loop-left.invariant.2 taken are count) (subst (λ (z : TransportError). IsFaulted c.args.now z c.take_control.new.self.core c.close_by_fault.new.self) r.error-is c.close_by_fault.ensures.faulted)

pub returns-in-Err-Transport-clause-sound : goal.returns-in-Err-Transport-clause-sound
returns-in-Err-Transport-clause-sound g c =
    let r = c.in-Err-Transport in
    faulted_sound c.args.now r.error c.loop-left.self c.take_control.new.self c.close_by_fault.new.self (r.ensures.refused (not_wanting r.field-0 r.error r.field-0-is)) c.loop-left.invariant.0
    c.close_by_fault.ensures.same_end (subst (λ (z : TransportError). IsFaulted c.args.now z c.take_control.new.self.core c.close_by_fault.new.self) r.error-is c.close_by_fault.ensures.faulted)

pub returns-in-Err-Transport-clause-stands : goal.returns-in-Err-Transport-clause-stands
returns-in-Err-Transport-clause-stands g c = λ accepts sealed hello t p.
    let r = c.in-Err-Transport in
    let e = c.close_by_fault.ensures in
    faulted_stands accepts sealed c.args.now r.error hello c.args.self.now c.loop-left.self c.take_control.new.self c.close_by_fault.new.self t (r.ensures.refused (not_wanting r.field-0 r.error r.field-0-is))
    c.loop-left.invariant.1 c.requires.lives (subst (λ (z : TransportError). IsFaulted c.args.now z c.take_control.new.self.core c.close_by_fault.new.self) r.error-is e.faulted) e.follows e.same_end p

unrefused_by : (f : StreamFault) (refusal : Option Refusal) → f ≡ Wanting → IsRefusedBy f refusal → refusal ≡ None
unrefused_by f None is by = refl
unrefused_by f (Some r) is (inl wanting) = wanting.1
unrefused_by f (Some r) is (inr refuses) = absurd (subst (λ (z : StreamFault). IsRefusal z (Some r)) is refuses)

pub returns-in-Err-Memory-clause-done : goal.returns-in-Err-Memory-clause-done
returns-in-Err-Memory-clause-done g c = λ taken are count.
    let at = c.loop-left.self in
    let tc = c.take_control.new.self in
    let m = c.in-Err-Memory in
    let only = c.take_control.ensures.rest in
    let r = cut_read c.args.now c.args.accepted.now.frames.now c.loop-left.rest.now c.in-Ok.behind.now c.in-Ok.frame c.loop-left.left (c.loop-left.left - 1) c.args.accepted.now.taken _ at.control tc.control
    c.in-Ok.ensures.found (omega (arith, c.loop-left-test.true)) (unrefused_by m.field-0 _ m.field-0-is m.ensures.fault) (m.ensures.wanting m.field-0-is) m.ensures.left c.loop-left.invariant.2 taken are count in
    let core = ap (λ (z : Connection _). z.core) only ∙ ap (λ (z : Connection _). z.core) c.loop-left.invariant.1 in (
      r.0,
      r.1,
      r.2,
      AreFramesDone.cut r.3 (sym (ap (λ (z : Inner _). is_open z.state) core) ∙ closed_of (is_open tc.core.state) c.is_closed.result c.is_closed.ensures c.if-is_closed.true) core,
    )

pub returns-in_default-clause-same : goal.returns-in_default-clause-same
returns-in_default-clause-same g c = controls_same g.S.Session.key c.args.self.now c.loop-left.self c.loop-left.invariant.1 c.loop-left.invariant.3

pub returns-clause-same : goal.returns-clause-same
returns-clause-same g c = controls_same g.S.Session.key c.args.self.now c.loop-left.self c.loop-left.invariant.1 c.loop-left.invariant.3

pub returns-in-Err-Memory-clause-same : goal.returns-in-Err-Memory-clause-same
returns-in-Err-Memory-clause-same g c =
    let tc = c.take_control.new.self in
    both_same g.S.Session.key c.args.self.now c.loop-left.self tc (controls_same g.S.Session.key c.args.self.now c.loop-left.self c.loop-left.invariant.1 c.loop-left.invariant.3)
    (controls_same g.S.Session.key c.loop-left.self tc c.take_control.ensures.rest c.take_control.ensures.stays)

pub returns-in-Err-Memory-2-clause-same : goal.returns-in-Err-Memory-2-clause-same
returns-in-Err-Memory-2-clause-same g c =
    let tc = c.take_control.new.self in
    both_same g.S.Session.key c.args.self.now c.loop-left.self tc (controls_same g.S.Session.key c.args.self.now c.loop-left.self c.loop-left.invariant.1 c.loop-left.invariant.3)
    (controls_same g.S.Session.key c.loop-left.self tc c.take_control.ensures.rest c.take_control.ensures.stays)

pub returns-in-Err-Transport-clause-same : goal.returns-in-Err-Transport-clause-same
returns-in-Err-Transport-clause-same g c =
    let tc = c.take_control.new.self in
    both_same g.S.Session.key c.args.self.now tc _
    (both_same g.S.Session.key c.args.self.now c.loop-left.self tc (controls_same g.S.Session.key c.args.self.now c.loop-left.self c.loop-left.invariant.1 c.loop-left.invariant.3)
    (controls_same g.S.Session.key c.loop-left.self tc c.take_control.ensures.rest c.take_control.ensures.stays))
    (faulted_same g.S.Session.key c.args.now _ tc c.close_by_fault.new.self c.close_by_fault.ensures.faulted)

pub returns-in_default-clause-log : goal.returns-in_default-clause-log
returns-in_default-clause-log g c = c.loop-left.invariant.4

pub returns-clause-log : goal.returns-clause-log
returns-clause-log g c = c.loop-left.invariant.4

pub returns-in-Err-Memory-clause-log : goal.returns-in-Err-Memory-clause-log
returns-in-Err-Memory-clause-log g c = goes_on c.args.self.now c.loop-left.self c.take_control.new.self c.loop-left.invariant.4 c.take_control.ensures.log

pub returns-in-Err-Memory-2-clause-log : goal.returns-in-Err-Memory-2-clause-log
returns-in-Err-Memory-2-clause-log g c = goes_on c.args.self.now c.loop-left.self c.take_control.new.self c.loop-left.invariant.4 c.take_control.ensures.log

pub returns-in-Err-Transport-clause-log : goal.returns-in-Err-Transport-clause-log
returns-in-Err-Transport-clause-log g c =
    let tc = c.take_control.new.self in
    let is = c.close_by_fault.ensures.faulted.closed.rest_is in
    goes_on c.args.self.now tc (record tc { core = c.close_by_fault.new.self }) (goes_on c.args.self.now c.loop-left.self tc c.loop-left.invariant.4 c.take_control.ensures.log)
    ([], core_goes tc c.close_by_fault.new.self (record { lost = ap (λ (z : Inner _). z.is_lost_told) is; drained = ap (λ (z : Inner _). z.is_drained_told) is }))

pub returns-in-Err-Transport-clause-space : goal.returns-in-Err-Transport-clause-space
returns-in-Err-Transport-clause-space g c =
    ap (λ (z : Inner _). z.space) c.close_by_fault.ensures.faulted.closed.rest_is ∙ (ap (λ (z : Connection _). z.core.space) c.take_control.ensures.rest ∙ ap (λ (z : Connection _). z.core.space) c.loop-left.invariant.1)

pub returns-in-Err-Memory-2-clause-cut : goal.returns-in-Err-Memory-2-clause-cut
returns-in-Err-Memory-2-clause-cut g c = λ taken are count.
    let m = c.in-Err-Memory in
    cut_read c.args.now c.args.accepted.now.frames.now c.loop-left.rest.now c.in-Ok.behind.now c.in-Ok.frame c.loop-left.left (c.loop-left.left - 1) c.args.accepted.now.taken _ c.loop-left.self.control c.take_control.new.self.control
    c.in-Ok.ensures.found (omega (arith, c.loop-left-test.true)) (unrefused_by m.field-0 _ m.field-0-is m.ensures.fault) (m.ensures.wanting m.field-0-is) m.ensures.left c.loop-left.invariant.2 taken are count
