use Rattle.std.proofs.Common.{ℕ, IfSome, sym, subst, ◌∙◌}
use Rattle.std.proofs.lemmas.Bool.{both_ways, not-false}
use Rattle.std.proofs.lemmas.Option.{same_Some}
use Rattle.std.proofs.lemmas.Slice.Eq.{bytes_eq-Decides}
use Rattle.qh_handshake.proofs.ExpectedNumbers.{one_expected}
use Rattle.qh_handshake.proofs.InitialsCome.{opened_by}
use Rattle.qh_handshake.proofs.handshake.Handshake.open.Goals as goal
use Rattle.qh_handshake.proofs.handshake.Handshake.open.Goals.{else-self-via-then-self+else-ne, else-self-via-else-self, else-eq-via-then-eq+else-not-is_empty, else-eq-via-else-eq}
use Rattle.qh_handshake.specs.Incoming.{IsExpectedOf, form_of}
use Rattle.qh_handshake.specs.declared.initial_space.InitialSpace.{InitialSpace}
use Rattle.qh_hello.proofs.Walks.{is_nil}
use Rattle.qh_packet.specs.Packet.{IsInitialOpened}
use Rattle.qh_spec.specs.Link.{other}
use Rattle.qh_spec.specs.declared.sides.Side.{Side}

pub returns-clause-some : goal.returns-clause-some
returns-clause-some g c =
    opened_by (g.S.Session.accepts c.args.session.now) c.args.self.now c.in-Some.space (form_of c.args.form.now) c.next_expected-expected.result c.open_initial.result (λ p. p.number) (λ p. p.frames.now) c.in-Some.is
    (elim c.else-eq.branch [
      | else-eq-via-then-eq+else-not-is_empty w ↦ λ _. is_nil c.args.form.now.token.now w.if-not-is_empty.ensures
      | else-eq-via-else-eq w ↦ λ client. absurd (let both = rw client at w.if-eq.ensures in cc)
    ])
    (elim c.else-self.branch [
      | else-self-via-then-self+else-ne w ↦ λ _. (bytes_eq-Decides c.args.form.now.source.now w.bytes.result.now).0 (not-false _ (sym w.if-ne.ensures)) ∙ w.bytes.ensures.value
      | else-self-via-else-self w ↦ λ known. absurd (both_ways _ w.if-self.false known)
    ])
    c.next_expected-expected.ensures.next
    (subst (λ (side : Side). IfSome c.open_initial.result (λ p. IsInitialOpened (g.S.Session.accepts c.args.session.now) side c.next_expected-expected.result c.args.form.now.first c.args.form.now.body.now p.number p.frames.now))
    c.other.ensures c.open_initial.ensures.some)

pub returns-clause-none : goal.returns-clause-none
returns-clause-none g c = λ none s is number frames o.
    let accepts = g.S.Session.accepts c.args.session.now in
    let form = c.args.form.now in
    let here = same_Some s c.in-Some.space (sym is ∙ c.in-Some.is) in
    let same = one_expected c.in-Some.space o.expected c.next_expected-expected.result (subst (λ (t : InitialSpace). IsExpectedOf t o.expected) here o.is_expected) c.next_expected-expected.ensures.next in
    c.open_initial.ensures.none none number frames
    (subst (λ (side : Side). IsInitialOpened accepts side c.next_expected-expected.result form.first form.body.now number frames) (sym c.other.ensures)
    (subst (λ (n : ℕ). IsInitialOpened accepts (other c.args.self.now.side) n form.first form.body.now number frames) same o.opened))
