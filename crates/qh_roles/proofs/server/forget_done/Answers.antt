use Rattle.std.proofs.Common.{rules}
use Rattle.std.proofs.lemmas.Fn.{filter_same}
use Rattle.qh_roles.specs.Server.{is_going}
use Rattle.qh_roles.proofs.server.forget_done.Goals as goal

pub returns : goal.returns
returns c = filter_same _ is_going _ (λ x b f k. search rules) _ _ c.retain.ensures.filtered
