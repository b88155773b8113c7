use Rattle.std.proofs.Common.{◌≡◌, None, ap, sym, ◌∙◌}
use Rattle.qh_halves.specs.SendHalves.{PlainSendHalves, send_at, half_in}
use Rattle.qh_halves.proofs.HalvesInserted.{put_in, put_back, is_put_in}
use Rattle.qh_halves.proofs.send_halves.SendHalves.insert.Goals as goal

pub invariant_of-self-in-Ok : goal.invariant_of-self-in-Ok
invariant_of-self-in-Ok c =
    let s = c.self.inside in
    let none : half_in s.halves.entries c.args.id ≡ None = ap (λ (v : PlainSendHalves). send_at v c.args.id) c.self.view_is ∙ c.requires in
    put_in s.halves.entries s.pending s.max_data s.data_sent s.unacked_data c.self.invariant c.args.id c.args.max_data none c.insert.new.self.entries c.admit.new.self
    (rw (← c.new.ensures) c.in-Ok.ensures.entries) c.in_ok-admit.ensures.waits c.in_ok-admit.ensures.room

pub returns-in-Ok-clause-ok : goal.returns-in-Ok-clause-ok
returns-in-Ok-clause-ok c =
    let s = c.self.inside in
    let none : half_in s.halves.entries c.args.id ≡ None = ap (λ (v : PlainSendHalves). send_at v c.args.id) c.self.view_is ∙ c.requires in
    rw (sym c.self.view_is) (is_put_in s.halves.entries s.max_data s.data_sent s.send_window c.args.id c.args.max_data none c.insert.new.self.entries (rw (← c.new.ensures) c.in-Ok.ensures.entries))

pub invariant_of-self-in-Err : goal.invariant_of-self-in-Err
invariant_of-self-in-Err c =
    let s = c.self.inside in
    let none : half_in s.halves.entries c.args.id ≡ None = ap (λ (v : PlainSendHalves). send_at v c.args.id) c.self.view_is ∙ c.requires in
    put_back s.halves.entries s.pending s.max_data s.data_sent s.unacked_data c.self.invariant c.args.id c.args.max_data none c.insert.new.self.entries c.admit.new.self c.leave.new.self
    c.in-Err.ensures.err c.in_ok-admit.ensures.waits c.in_ok-admit.ensures.room c.leave.ensures.waits c.leave.ensures.room
