use Rattle.std.proofs.Common.{refl, sym, ap, ◌≡◌, ◌∙◌, ◌++◌, List, ℕ, arith, length, subst}
use Rattle.qh_core.specs.Sending.{ArePut}
use Rattle.qh_core.proofs.DatagramMade.{bears_put, datagram_made}
use Rattle.qh_core.proofs.inner.Inner.append_datagram.Goals as goal
use Rattle.qh_packet.specs.Packet.{header_bytes}
use Rattle.qh_spec.specs.declared.sides.Space.TheVariants.{Data}

abbrev pub returns-clause-some : goal.returns-clause-some
returns-clause-some g c =
    let self = c.args.self.now in
    let header = header_bytes self.remote_id self.space.next_number in
    let tagged = c.in_ok-put_tag.ensures.put in
    let lengths = ap length tagged in
    let begins : c.put_header.new.out.items ≡ header = c.in_ok-put_header.ensures.ok ∙ ap (λ (l : List ℕ). l ++ header) (c.try_reserve.ensures.items ∙ c.new-datagram.ensures.items) in
    datagram_made (g.S.Session.sealed self.session) c.args.now self c.put_frames.new.self c.tag-tag.result c.put_frames.new.out.items c.args.buf.now.items c.put_bytes.new.buf.items c.len.result
    (c.tag-tag.ensures.value ∙ ap (λ x. g.S.Session.sealed x.session x.side Data self.space.next_number) c.put_frames.ensures.rest) c.put_tag.ensures.size
    (subst (λ (l : List ℕ). ArePut c.args.now self c.put_frames.new.self l c.put_frames.new.out.items) begins (c.in_ok-put_frames.ensures.some c.if-not-branch.false)).0
    (c.in_ok-put_bytes.ensures.put ∙ ap (λ (l : List ℕ). c.args.buf.now.items ++ l) (c.deref.ensures.value ∙ tagged))
    (omega (arith, lengths, c.len.ensures)) (omega (arith, c.overhead-room.ensures.value, c.overhead-room.ensures.short))

pub returns-clause-no_control : goal.returns-clause-no_control
returns-clause-no_control g c =
    let self = c.args.self.now in
    let header = header_bytes self.remote_id self.space.next_number in
    let begins : c.put_header.new.out.items ≡ header = c.in_ok-put_header.ensures.ok ∙ ap (λ (l : List ℕ). l ++ header) (c.try_reserve.ensures.items ∙ c.new-datagram.ensures.items) in
    bears_put (g.S.Session.sealed self.session) c.args.now self c.put_frames.new.self c.args.buf.now.items c.put_bytes.new.buf.items c.len.result (returns-clause-some g c)
    (subst (λ (l : List ℕ). ArePut c.args.now self c.put_frames.new.self l c.put_frames.new.out.items) begins (c.in_ok-put_frames.ensures.some c.if-not-branch.false)).1

pub returns-clause-tag : goal.returns-clause-tag
returns-clause-tag g c =
    let tag = c.tag-tag.ensures.value ∙ ap (λ x. g.S.Session.sealed x.session x.side Data c.args.self.now.space.next_number) c.put_frames.ensures.rest in
    ap length (sym tag) ∙ c.put_tag.ensures.size

pub returns-then-not-branch-clause-none : goal.returns-then-not-branch-clause-none
returns-then-not-branch-clause-none g c = λ _. (refl, c.in_ok-put_frames.ensures.none c.if-not-branch.true)

pub returns-clause-read_back : goal.returns-clause-read_back
returns-clause-read_back g c = c.in_ok-put_frames.ensures.read_back c.if-not-branch.false
