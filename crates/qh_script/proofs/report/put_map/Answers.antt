use Rattle.std.proofs.Common.{◌≤◌, ◌≡◌, ◌∙◌, ap, map, length, take, flat_map, arith}
use Rattle.qh_spec.specs.Report.{name_lines, in_byte_order}
use Rattle.http_header.specs.HeaderMap.{keys}
use Rattle.qh_script.proofs.Reports.{pieces_all, err_grown_by}
use Rattle.qh_script.proofs.report.put_map.Goals as goal

pub returns-clause-ok : goal.returns-clause-ok
returns-clause-ok c =
    let names = c.deref-name-items.result.now in
    let end : length names ≤ c.loop-name.name-index = omega arith in
    let all : map (λ name. name.now) names ≡ in_byte_order (keys c.args.fields.now) = ap (map (λ name. name.now)) c.deref-name-items.ensures.value ∙ c.in_ok-names.ensures in
    pieces_all (λ name. name.now) (name_lines c.args.word.now c.args.fields.now) c.args.out.now.items c.loop-name.out.items names c.loop-name.name-index
    (in_byte_order (keys c.args.fields.now)) end c.loop-name.invariant all

pub returns-in_err-put_values-clause-err : goal.returns-in_err-put_values-clause-err
returns-in_err-put_values-clause-err c =
    err_grown_by c.from_residual-in_err-put_values.result c.args.out.now.items c.loop-name.out.items c.put_values.new.out.items
    (flat_map (λ name. name_lines c.args.word.now c.args.fields.now name.now) (take c.loop-name.name-index c.deref-name-items.result.now)) c.loop-name.invariant
    c.in_err-put_values.ensures.err
