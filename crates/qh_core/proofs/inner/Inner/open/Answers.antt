use Rattle.std.proofs.Common.{◌≡◌, ℕ, Option, None, Some, IfNone, length, refl, sym, subst}
use Rattle.qh_core.proofs.ExpectedNumbers.{one_expected}
use Rattle.qh_core.proofs.inner.Inner.open.Goals as goal
use Rattle.qh_packet.specs.Packet.{IsOpened}
use Rattle.qh_spec.specs.Link.{other}
use Rattle.qh_spec.specs.declared.sides.Side.{Side}

if_none : {A P : Type 0} (o : Option A) → (o ≡ None → P) → IfNone o P
if_none None p = p refl
if_none (Some x) p = tt

pub returns-clause-none : goal.returns-clause-none
returns-clause-none g c =
    let accepts = g.S.Session.accepts c.args.self.now.session in
    let id = c.args.self.now.local_id in
    if_none c.open_packet.result (λ none number frames o.
    let same = one_expected c.args.self.now.space o.expected c.next_expected.result o.is_expected c.next_expected.ensures.next in
    c.open_packet.ensures.none none number frames
    (subst (λ (k : ℕ). IsOpened accepts k c.other.result c.next_expected.result c.args.datagram.now number frames) (sym c.len.ensures.value)
    (subst (λ (s : Side). IsOpened accepts (length id) s c.next_expected.result c.args.datagram.now number frames) (sym c.other.ensures)
    (subst (λ (n : ℕ). IsOpened accepts (length id) (other c.args.self.now.side) n c.args.datagram.now number frames) same o.is))))
