use Rattle.qh_h3wire.proofs.Requests.{target_refused}
use Rattle.qh_h3wire.proofs.headers.request_target.Goals as goal

pub returns-in-Err : goal.returns-in-Err
returns-in-Err c = target_refused c.args.authority _ c.args.scheme c.args.path c.in-Err.fault c.target_fault.result c.is_some.result c.is_some-2.result c.in-Err.ensures c.is_some.ensures c.is_some-2.ensures c.target_fault.ensures
