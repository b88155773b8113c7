use Rattle.qh_half.proofs.SendMarks.{end_is_out}
use Rattle.qh_half.proofs.send.Send.send_end.Goals as goal

pub returns : goal.returns
returns c =
    let none = rw (← c.self.view_is) at c.requires.none in
    let queued = rw (← c.self.view_is) at c.requires.queued in
    rw (← c.self.view_is) (end_is_out _ c.offset-end.result c.self.invariant.2 none queued c.offset-end.ensures)
