use Rattle.std.proofs.Common.{◌≡◌, ℕ, true, false, length, ap, ◌∙◌, arith}
use Rattle.qh_recovery.proofs.PacketNumbers.{meant_once}
use Rattle.qh_spec.specs.declared.sides.Space.TheVariants.{Initial}
use Rattle.qh_spec.specs.Packet.{be_value}
use Rattle.qh_packet.proofs.Opened.{body_parts}
use Rattle.qh_packet.proofs.initial.open_initial.Goals as goal

pub returns-then-number-clause-none : goal.returns-then-number-clause-none
returns-then-number-clause-none g c =
    let expanded = rw c.number_of.ensures.value at c.expand-number.ensures.expanded in
    λ given number frames q.
    let parts = body_parts (g.S.Session.accepts c.args.session.now) c.args.sender c.args.expected c.args.form.now.first c.args.form.now.body.now c.in_ok-body.body.number.now c.in_ok-body.body.frames.now
    c.in_ok-body.body.tag.now number frames c.in_ok-body.ensures.found q in
    let same = meant_once c.args.expected (be_value c.in_ok-body.body.number.now) (length c.in_ok-body.body.number.now) c.expand-number.result number expanded parts.expanded in
    let small = parts.is_number in
    let great = c.if-number.true in
    omega (arith, same, small, great)

pub returns-then-not-open-clause-none : goal.returns-then-not-open-clause-none
returns-then-not-open-clause-none g c =
    let expanded = rw c.number_of.ensures.value at c.expand-number.ensures.expanded in
    λ given number frames q.
    let parts = body_parts (g.S.Session.accepts c.args.session.now) c.args.sender c.args.expected c.args.form.now.first c.args.form.now.body.now c.in_ok-body.body.number.now c.in_ok-body.body.frames.now
    c.in_ok-body.body.tag.now number frames c.in_ok-body.ensures.found q in
    let same = meant_once c.args.expected (be_value c.in_ok-body.body.number.now) (length c.in_ok-body.body.number.now) c.expand-number.result number expanded parts.expanded in
    let accepted : g.S.Session.accepts c.args.session.now c.args.sender Initial c.expand-number.result c.in_ok-body.body.tag.now ≡ true =
    ap (λ (n : ℕ). g.S.Session.accepts c.args.session.now c.args.sender Initial n c.in_ok-body.body.tag.now) same ∙ parts.accepted in
    let refused : false ≡ true = c.if-not-open.ensures.value ∙ accepted in
    cc
