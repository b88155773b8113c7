use Rattle.qh_h3wire.proofs.Listed.{kinds}
use Rattle.qh_h3wire.proofs.headers.pseudo.Pseudo.fields.Goals as goal

pub returns-clause-kinds : goal.returns-clause-kinds
returns-clause-kinds c =
    kinds c.args.self.now c.method_str.ensures.kind c.scheme_str.ensures.kind c.authority_str.ensures.kind c.path_str.ensures.kind c.status_str.ensures.kind
