use Rattle.std.proofs.Common.{ℕ, List, refl, sym, ap, ◌∙◌}
use Rattle.qh_quinn_end.proofs.Sets.{sends}
use Rattle.qh_quinn_end.specs.Sets.{PlainSet, number_of}
use Rattle.qh_quinn_end.proofs.connection_set.ConnectionSet.send_reserved.Goals as goal

pub returns : goal.returns
returns c =
    sends c.self.inside.numbers.items c.self.inside.events.items c.self.inside.events.items c.push_back_reserved.new.self.items c.args.handle c.args.event c.number_of-number.result c.args.self.now.events (ap (λ (s : PlainSet). s.events) (sym c.self.view_is)) refl c.push_back_reserved.ensures.items
    (c.number_of-number.ensures ∙ ap (λ (l : List ℕ). number_of l c.args.handle) c.deref.ensures.value)
