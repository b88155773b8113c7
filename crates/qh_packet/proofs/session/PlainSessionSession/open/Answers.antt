use Rattle.std.proofs.Common.{sym, ◌∙◌}
use Rattle.std.proofs.lemmas.Slice.Eq.{bytes_eq-Decides}
use Rattle.qh_packet.proofs.session.PlainSessionSession.open.Goals as goal

pub returns-clause-named : goal.returns-clause-named
returns-clause-named c = λ same bound. record {
  key_id = c.self.inside.key_id;
  short = c.tag_of.ensures.short;
  bound = bound;
  is = (bytes_eq-Decides c.args.tag.now c.as_slice.result.now).0 (sym c.eq.ensures ∙ same) ∙ c.as_slice.ensures ∙ c.tag_of.ensures.value;
}
