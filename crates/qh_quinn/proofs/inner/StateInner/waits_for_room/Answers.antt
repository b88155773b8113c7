use Rattle.std.proofs.Common.{◌∙◌, sym}
use Rattle.qh_quinn.proofs.Settling.{datagrams_off, for_room, not_within}
use Rattle.qh_quinn.proofs.inner.StateInner.waits_for_room.Goals as goal

pub returns-then-not-is_some : goal.returns-then-not-is_some
returns-then-not-is_some g c = datagrams_off c.args.self.now c.args.size c.requires.state c.requires.none (sym c.is_some.ensures ∙ c.if-not-is_some.true)

pub returns-then-not-is_within : goal.returns-then-not-is_within
returns-then-not-is_within g c = not_within c.args.self.now c.args.size c.requires.state c.requires.none (sym c.is_within.ensures ∙ c.if-not-is_within.true)

pub returns : goal.returns
returns g c = for_room c.args.self.now c.args.size c.has_room.result c.requires.state c.requires.none (sym c.is_some.ensures ∙ c.if-not-is_some.false) (sym c.is_within.ensures ∙ c.if-not-is_within.false) c.has_room.ensures
