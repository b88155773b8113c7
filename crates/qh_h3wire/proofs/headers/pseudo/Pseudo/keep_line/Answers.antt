use Rattle.std.proofs.lemmas.Result.{err_from_is_err_and}
use Rattle.qh_h3wire.proofs.Heads.{unread, line_kept}
use Rattle.qh_h3wire.proofs.headers.pseudo.Pseudo.keep_line.Goals as goal

pub returns-in_err-field : goal.returns-in_err-field
returns-in_err-field c front r =
    let p = err_from_is_err_and c.from_residual.result c.from_residual.ensures.1 in
    rw (p.1, p.2) (unread front c.args.line.now _ c.in_err-field.ensures.err)

pub returns : goal.returns
returns c front r =
    line_kept c.keep.result front c.args.line.now c.in_ok-field.field c.args.fields.now c.keep.new.fields c.args.self.now c.keep.new.self c.in_ok-field.ensures.ok c.keep.ensures.ok c.keep.ensures.room
    c.keep.ensures.err r
