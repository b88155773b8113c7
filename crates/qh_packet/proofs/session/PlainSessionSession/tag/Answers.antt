use Rattle.std.proofs.lemmas.Slice.Eq.{bytes_eq-Decides}
use Rattle.qh_spec.specs.Tag.{tag_bytes}
use Rattle.qh_packet.proofs.session.PlainSessionSession.tag.Goals as goal

pub returns-clause-own : goal.returns-clause-own
returns-clause-own c = λ bound.
    rw (← c.self.view_is) ((bytes_eq-Decides c.tag_of.result (tag_bytes c.self.inside.key_id c.args.from c.args.space c.args.number)).1 c.tag_of.ensures.value)
