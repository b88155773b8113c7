use Rattle.std.proofs.Common.{◌-◌, ◌||◌, nat_lt, List, filter, ap, ◌∙◌, rules, vec_len, vec_capacity}
use Rattle.std.proofs.lemmas.Fn.{filter_same}
use Rattle.qh_control.specs.Queue.{PlainQueue}
use Rattle.qh_control.specs.declared.queue.SentControl.{SentControl}
use Rattle.qh_control.proofs.queue.ControlQueue.take_range.Goals as goal

pub returns : goal.returns
returns c =
    let left = filter_same _ (λ (s : SentControl). nat_lt s.number c.args.range.least || nat_lt c.args.range.greatest s.number) _ (λ x b f k. search rules) _ _ c.retain.ensures.filtered in
    ap (λ (sent : List SentControl). record { waiting = c.self.inside.waiting.items; sent = sent; room = vec_capacity c.retain.new.self - vec_len c.retain.new.self }) left
    ∙ ap (λ (q : PlainQueue). record { waiting = q.waiting; sent = filter (λ (s : SentControl). nat_lt s.number c.args.range.least || nat_lt c.args.range.greatest s.number) q.sent; room = vec_capacity c.retain.new.self - vec_len c.retain.new.self }) c.self.view_is
