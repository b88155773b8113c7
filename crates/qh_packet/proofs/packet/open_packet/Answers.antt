use Rattle.std.proofs.Common.{◌≡◌, ℕ, true, false, length, refl, ap, ◌∙◌, arith}
use Rattle.qh_recovery.proofs.PacketNumbers.{meant_once}
use Rattle.qh_spec.specs.declared.sides.Space.TheVariants.{Data}
use Rattle.qh_spec.specs.Packet.{be_value}
use Rattle.qh_packet.specs.View.{packet_of}
use Rattle.qh_packet.proofs.Packets.{parts_of, has_packet}
use Rattle.qh_packet.proofs.packet.open_packet.Goals as goal

pub returns-then-number-clause-none : goal.returns-then-number-clause-none
returns-then-number-clause-none g c =
    let is = c.in_ok-packet.ensures.found.0 in
    let expanded = rw c.number_of.ensures.value at c.expand-number.ensures.expanded in
    λ given number frames q.
    let parts = parts_of (g.S.Session.accepts c.args.session.now) c.args.id_length c.args.sender c.args.expected c.args.bytes.now (packet_of c.in_ok-packet.packet) number frames is c.in_ok-packet.ensures.found.1 q in
    let same = meant_once c.args.expected (be_value c.in_ok-packet.packet.number.now) (length c.in_ok-packet.packet.number.now) c.expand-number.result number expanded parts.expanded in
    let small = parts.is_number in
    let great = c.if-number.true in
    omega (arith, same, small, great)

pub returns-then-not-open-clause-none : goal.returns-then-not-open-clause-none
returns-then-not-open-clause-none g c =
    let is = c.in_ok-packet.ensures.found.0 in
    let expanded = rw c.number_of.ensures.value at c.expand-number.ensures.expanded in
    λ given number frames q.
    let parts = parts_of (g.S.Session.accepts c.args.session.now) c.args.id_length c.args.sender c.args.expected c.args.bytes.now (packet_of c.in_ok-packet.packet) number frames is c.in_ok-packet.ensures.found.1 q in
    let same = meant_once c.args.expected (be_value c.in_ok-packet.packet.number.now) (length c.in_ok-packet.packet.number.now) c.expand-number.result number expanded parts.expanded in
    let accepted : g.S.Session.accepts c.args.session.now c.args.sender Data c.expand-number.result c.in_ok-packet.packet.tag.now ≡ true =
    ap (λ (n : ℕ). g.S.Session.accepts c.args.session.now c.args.sender Data n c.in_ok-packet.packet.tag.now) same ∙ parts.accepted in
    let refused : false ≡ true = c.if-not-open.ensures.value ∙ accepted in
    cc

pub returns-clause-has : goal.returns-clause-has
returns-clause-has g c =
    let is = c.in_ok-packet.ensures.found.0 in
    let expanded = rw c.number_of.ensures.value at c.expand-number.ensures.expanded in
    let tagged = c.if-not-open.ensures.named refl (let b = c.if-number.false in omega arith) in
    λ fs are. has_packet c.args.id_length c.args.bytes.now (packet_of c.in_ok-packet.packet) c.args.sender c.args.expected c.expand-number.result fs is c.in_ok-packet.ensures.found.1 tagged expanded are
