use Rattle.qh_h3wire.proofs.Readable.{method_refused, scheme_refused, authority_refused, path_refused, status_refused}
use Rattle.qh_h3wire.proofs.headers.field.ParsedField.parse.Goals as goal

pub returns-in-Method-clause-err : goal.returns-in-Method-clause-err
returns-in-Method-clause-err c =
    rw (← c.field.view_is)
    (method_refused c.parse_method.result (record { name = c.field.inside.name; value = c.field.inside.value }) c.as_slice.result.now c.as_slice-value.result.now
    (c.in-Method.ensures {u = tt}) c.as_slice.ensures c.as_slice-value.ensures c.parse_method.ensures.err)

pub returns-in-Scheme-clause-err : goal.returns-in-Scheme-clause-err
returns-in-Scheme-clause-err c =
    rw (← c.field.view_is)
    (scheme_refused c.parse_scheme.result (record { name = c.field.inside.name; value = c.field.inside.value }) c.as_slice.result.now c.as_slice-value.result.now
    (c.in-Scheme.ensures {u = tt}) c.as_slice.ensures c.as_slice-value.ensures c.parse_scheme.ensures.err)

pub returns-in-Authority-clause-err : goal.returns-in-Authority-clause-err
returns-in-Authority-clause-err c =
    rw (← c.field.view_is)
    (authority_refused c.parse_authority.result (record { name = c.field.inside.name; value = c.field.inside.value }) c.as_slice.result.now c.as_slice-value.result.now
    (c.in-Authority.ensures {u = tt}) c.as_slice.ensures c.as_slice-value.ensures c.parse_authority.ensures.err)

pub returns-in-Path-clause-err : goal.returns-in-Path-clause-err
returns-in-Path-clause-err c =
    rw (← c.field.view_is)
    (path_refused c.parse_path.result (record { name = c.field.inside.name; value = c.field.inside.value }) c.as_slice.result.now c.as_slice-value.result.now
    (c.in-Path.ensures {u = tt}) c.as_slice.ensures c.as_slice-value.ensures c.parse_path.ensures.err)

pub returns-in-Status-clause-err : goal.returns-in-Status-clause-err
returns-in-Status-clause-err c =
    rw (← c.field.view_is)
    (status_refused c.parse_status.result (record { name = c.field.inside.name; value = c.field.inside.value }) c.as_slice.result.now c.as_slice-value.result.now
    (c.in-Status.ensures {u = tt}) c.as_slice.ensures c.as_slice-value.ensures c.parse_status.ensures.err)
