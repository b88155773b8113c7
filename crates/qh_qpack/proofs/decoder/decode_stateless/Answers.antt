use Rattle.std.proofs.Common.{[], ◌∷◌, ◌++◌, sym}
use Rattle.std.proofs.lemmas.Result.{err_from_is_err_and}
use Rattle.qh_qpack.specs.Lines.{line_field}
use Rattle.qh_qpack.proofs.SectionsRead.{prefix_refused, none_read, refuses}
use Rattle.qh_qpack.proofs.decoder.decode_stateless.Goals as goal

pub returns-in_err-rest-clause-refused : goal.returns-in_err-rest-clause-refused
returns-in_err-rest-clause-refused c =
    let p = err_from_is_err_and c.from_residual.result c.from_residual.ensures.1 in
    rw (p.1, p.2) (refuses c.args.max_size c.args.bytes.now _ (prefix_refused c.args.max_size c.args.bytes.now _ (sym (c.in_err-rest.ensures {u = tt}))))

pub loop-rest-init : goal.loop-rest-init
loop-rest-init c =
    rw c.new-fields.ensures.items (none_read c.args.max_size c.args.bytes.now c.in_ok-rest.rest.now (sym (c.in_ok-rest.ensures {u = tt})))

pub returns-in_err-line-clause-refused : goal.returns-in_err-line-clause-refused
returns-in_err-line-clause-refused c =
    let p = err_from_is_err_and c.from_residual-in_err-line.result c.from_residual-in_err-line.ensures.1 in
    rw (p.1, p.2) (refuses c.args.max_size c.args.bytes.now _ (c.in_err-line.ensures.takes c.args.bytes.now c.loop-rest.fields.items c.loop-rest.invariant))

pub returns-in_default-clause-refused : goal.returns-in_default-clause-refused
returns-in_default-clause-refused c =
    c.fault_of_rest.ensures c.args.bytes.now (c.loop-rest.fields.items ++ line_field c.in_ok-line.line ∷ []) (c.in_ok-line.ensures.takes c.args.bytes.now c.loop-rest.fields.items c.loop-rest.invariant)
