use Rattle.std.proofs.Common.{sym, ap, ◌≡◌, ◌∙◌, ◌++◌, List, ℕ, arith, length, subst}
use Rattle.qh_core.specs.Sending.{AreControlPut}
use Rattle.qh_core.proofs.ControlMade.{control_appended}
use Rattle.qh_core.proofs.inner.Inner.append_control.Goals as goal
use Rattle.qh_packet.specs.Packet.{header_bytes}
use Rattle.qh_spec.specs.declared.sides.Space.TheVariants.{Data}

pub returns-clause-some : goal.returns-clause-some
returns-clause-some g c =
    let self = c.args.self.now in
    let header = header_bytes self.remote_id self.space.next_number in
    let tagged = c.in_ok-put_tag.ensures.put in
    let lengths = ap length tagged in
    let begins : c.put_header.new.out.items ≡ header = c.in_ok-put_header.ensures.ok ∙ ap (λ (l : List ℕ). l ++ header) (c.try_reserve.ensures.items ∙ c.new-datagram.ensures.items) in
    let some = c.if-count-eq0.false in
    control_appended (g.S.Session.sealed self.session) c.args.now self c.put_control.new.self c.tag-tag.result c.put_control.new.out.items c.args.buf.now.items c.put_bytes.new.buf.items c.len.result c.in_ok-count.count c.args.frames.now
    (c.tag-tag.ensures.value ∙ ap (λ x. g.S.Session.sealed x.session x.side Data self.space.next_number) c.put_control.ensures.rest) c.put_tag.ensures.size
    (subst (λ (l : List ℕ). AreControlPut c.args.now self c.put_control.new.self l c.put_control.new.out.items c.args.frames.now) begins (c.in_ok-count.ensures.some (omega (arith, some))))
    (c.in_ok-put_bytes.ensures.put ∙ ap (λ (l : List ℕ). c.args.buf.now.items ++ l) (c.deref.ensures.value ∙ tagged))
    (omega (arith, lengths, c.len.ensures)) (omega (arith, c.overhead-room.ensures.value, c.overhead-room.ensures.short))
    (rw c.overhead-room.ensures.value at c.in_ok-count.ensures.count) (omega (arith, some))

pub returns-clause-tag : goal.returns-clause-tag
returns-clause-tag g c =
    let tag = c.tag-tag.ensures.value ∙ ap (λ x. g.S.Session.sealed x.session x.side Data c.args.self.now.space.next_number) c.put_control.ensures.rest in
    ap length (sym tag) ∙ c.put_tag.ensures.size
