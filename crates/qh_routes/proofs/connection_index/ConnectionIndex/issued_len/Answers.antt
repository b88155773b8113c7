use Rattle.std.proofs.Common.{sym, ap, ◌∙◌}
use Rattle.qh_routes.specs.Routes.{Routes, issued_count}
use Rattle.qh_routes.proofs.Counts.{issued_are}
use Rattle.qh_routes.proofs.Places.{maps_of}
use Rattle.qh_routes.proofs.connection_index.ConnectionIndex.issued_len.Goals as goal

pub returns : goal.returns
returns c = c.len.ensures.len ∙ sym (issued_are (maps_of c.self.inside)) ∙ ap (λ (r : Routes). issued_count r) c.self.view_is
