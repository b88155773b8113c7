use Rattle.std.proofs.Common.{refl}
use Rattle.http_header.specs.Token.{lowercase}
use Rattle.qh_spec.specs.ScriptLine as says
use Rattle.qh_script.proofs.Arguments.{no_trailer, trailer_only, named}
use Rattle.qh_script.proofs.line.messages.read_trailer.Goals as goal

pub returns-in_err-name : goal.returns-in_err-name
returns-in_err-name c =
    rw (c.from_residual.ensures) (no_trailer c.args.text.now c.in_err-name.ensures)

pub returns : goal.returns
returns c =
    let name = c.in_ok-name.name.now in
    let value = c.in_ok-name.value.now in
    record {
      meant = says.Trailer (lowercase name) value;
      is = (named c.args.text.now name value c.in_ok-name.ensures, refl);
      only = trailer_only c.args.text.now name value c.in_ok-name.ensures;
    }
