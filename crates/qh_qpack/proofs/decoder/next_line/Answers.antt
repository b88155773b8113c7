use Rattle.std.proofs.Common.{sym, arith}
use Rattle.std.proofs.lemmas.Result.{err_from_is_err_and}
use Rattle.qh_qpack.specs.Lines.{line_field}
use Rattle.qh_qpack.proofs.SectionsRead.{one_read, shorter, line_refused, over_refused}
use Rattle.qh_qpack.proofs.decoder.next_line.Goals as goal

pub returns-in_err-line-clause-takes : goal.returns-in_err-line-clause-takes
returns-in_err-line-clause-takes c =
    let p = err_from_is_err_and c.from_residual.result c.from_residual.ensures.1 in
    rw (p.1, p.2)
    (λ section fields r. line_refused c.args.max_size section c.args.rest.now fields c.args.size _ (λ i. omega (arith, c.type_inv.rest i)) c.requires (sym (c.in_err-line.ensures {u = tt})) r)

pub returns-in_err-size-clause-takes : goal.returns-in_err-size-clause-takes
returns-in_err-size-clause-takes c =
    let p = err_from_is_err_and c.from_residual-in_err-size.result c.from_residual-in_err-size.ensures.1 in
    rw (p.1, p.2, c.in_err-size.ensures.refused)
    (λ section fields r. over_refused c.args.max_size section c.args.rest.now c.in_ok-line.after.now fields c.args.size (line_field c.in_ok-line.line) (λ i. omega (arith, c.type_inv.rest i)) c.requires
    (sym (c.in_ok-line.ensures {u = tt})) c.in_err-size.ensures.over r)

pub returns-clause-shorter : goal.returns-clause-shorter
returns-clause-shorter c = shorter c.args.rest.now c.in_ok-line.after.now (line_field c.in_ok-line.line) (λ i. omega (arith, c.type_inv.rest i)) (sym (c.in_ok-line.ensures {u = tt}))

pub returns-clause-takes : goal.returns-clause-takes
returns-clause-takes c section fields r =
    one_read c.args.max_size section c.args.rest.now c.in_ok-line.after.now fields c.args.size c.in_ok-size.size (line_field c.in_ok-line.line) (λ i. omega (arith, c.type_inv.rest i))
    (sym (c.in_ok-line.ensures {u = tt})) c.in_ok-size.ensures.value c.in_ok-size.ensures.within r
