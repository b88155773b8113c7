use Rattle.std.proofs.Common.{◌≡◌, false}
use Rattle.qh_h3.proofs.Coded.{coded}
use Rattle.qh_h3.proofs.connection.control.poll_judged.Goals as goal

pub judge-requires : goal.judge-requires
judge-requires g c = coded false c.in-Ready.found c.in-Ready.ensures.next.1.behind c.poll_next.new.self.held c.in-Ready.ensures.next.1.is
