use Rattle.std.proofs.Common.{refl}
use Rattle.qh_spec.specs.declared.link.Upset.TheVariants as does
use Rattle.qh_script.proofs.Refusals.{refused}
use Rattle.qh_script.proofs.Upsets.{no_forged, no_forge_hex, forge_only}
use Rattle.qh_script.proofs.line.upsets.read_forge.Goals as goal

pub returns-in_err-round : goal.returns-in_err-round
returns-in_err-round c = rw (c.from_residual.ensures) (no_forged c.args.text.now c.in_err-round.ensures)

pub returns-then-not-is_forgeable : goal.returns-then-not-is_forgeable
returns-then-not-is_forgeable c =
    no_forge_hex c.args.text.now c.in_ok-round.round c.in_ok-round.side c.in_ok-round.hex.now c.in_ok-round.ensures
    (λ n. refused (c.is_forgeable.ensures.1 n) c.if-not-is_forgeable.true)

pub returns : goal.returns
returns c =
    let n = c.is_forgeable.ensures.0 c.if-not-is_forgeable.false in
    record {
      meant = does.Forge c.in_ok-round.round c.in_ok-round.side n.0;
      is = (n.0, n.1, refl);
      only = forge_only c.args.text.now c.in_ok-round.round c.in_ok-round.side c.in_ok-round.hex.now c.in_ok-round.ensures;
    }
