use Rattle.std.proofs.Common.{take}
use Rattle.std.proofs.lemmas.Result.{err_from_is_err_and}
use Rattle.qh_h3wire.specs.HeadFields.{with_fields}
use Rattle.qh_h3wire.proofs.Heads.{none_read, line_more, line_refused, all_read}
use Rattle.qh_h3wire.proofs.headers.pseudo.Pseudo.keep_lines.Goals as goal

pub loop-line-init : goal.loop-line-init
loop-line-init c = rw c.requires none_read

pub returns-in_err-keep_line : goal.returns-in_err-keep_line
returns-in_err-keep_line c =
    let p = err_from_is_err_and c.from_residual.result c.from_residual.ensures.1 in
    let fs = c.args.lines.now in
    let i = c.loop-line.line-index in
    let old = c.loop-line.invariant in
    rw (p.1, p.2)
    (line_refused fs i c.line-item.result c.in_err-keep_line.field-0.0 (with_fields c.loop-line.fields c.loop-line.self) c.loop-line-test.true c.line-item.is old (c.in_err-keep_line.ensures (take i fs) old))

pub loop-line-preserved : goal.loop-line-preserved
loop-line-preserved c =
    let fs = c.args.lines.now in
    let i = c.loop-line.line-index in
    line_more fs i c.line-item.result (with_fields c.keep_line.new.fields c.keep_line.new.self) c.loop-line-test.true c.line-item.is (c.in_ok-keep_line.ensures (take i fs) c.loop-line.invariant)

pub returns : goal.returns
returns c = all_read c.args.lines.now c.loop-line.line-index (with_fields c.loop-line.fields c.loop-line.self) c.loop-line-test.false c.loop-line.invariant
