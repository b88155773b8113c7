use denote.Enum.Bare.{sameb}
use Rattle.std.proofs.Common.{◌≡◌, true, not, subst, sym, ◌∙◌}
use Rattle.qh_spec.specs.contracts.sides.Space.{the_type}
use Rattle.qh_spec.specs.declared.sides.Space.{Space}
use Rattle.qh_spec.specs.declared.sides.Space.TheVariants.{Initial, Data}
use Rattle.qh_plain.proofs.BodyReads.{no_tag, other_space, other_number}
use Rattle.qh_plain.proofs.packets.body.Packet.read_parts.Goals as goal

itself : (x : Space) → true ≡ not (sameb the_type x x) → ⊥
itself Initial e = cc
itself Data e = cc

different : (x y : Space) → true ≡ not (sameb the_type x y) → x ≡ y → ⊥
different x y t e = itself y (subst (λ (z : Space). true ≡ not (sameb the_type z y)) e t)

pub returns-in_default-clause-none : goal.returns-in_default-clause-none
returns-in_default-clause-none c = no_tag c.args.space c.args.parts.number.now c.args.parts.frames.now c.args.parts.tag.now c.in_default.ensures.none

pub returns-then-ne-clause-none : goal.returns-then-ne-clause-none
returns-then-ne-clause-none c =
    other_space c.args.space c.in-Some.tag.space c.in-Some.tag.sender c.in-Some.tag.number c.args.parts.number.now c.args.parts.frames.now c.args.parts.tag.now c.in-Some.ensures.found
    (different c.in-Some.tag.space c.args.space c.if-ne.ensures)

pub returns-then-value_of-low_bytes-clause-none : goal.returns-then-value_of-low_bytes-clause-none
returns-then-value_of-low_bytes-clause-none c =
    other_number c.args.space c.in-Some.tag.space c.in-Some.tag.sender c.in-Some.tag.number c.args.parts.number.now c.args.parts.frames.now c.args.parts.tag.now c.in-Some.ensures.found
    (λ e. c.if-value_of-low_bytes.true (c.value_of.ensures ∙ e ∙ sym c.low_bytes.ensures))
