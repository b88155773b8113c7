use Rattle.qh_spec.proofs.LawfulRows.{get_events_honest}
use Rattle.qh_spec.proofs.laws.bridges.link_rows.Goals as goal

pub returns-clause-honest : goal.returns-clause-honest
returns-clause-honest c = get_events_honest
