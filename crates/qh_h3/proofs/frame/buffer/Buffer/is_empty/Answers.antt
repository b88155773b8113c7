use Rattle.std.proofs.Common.{rules, ◌≡◌, ◌++◌, List, [], ◌∷◌, IsTrue, ℕ, Bool, true, false}
use Rattle.qh_h3.proofs.Pieces.{front_some}
use Rattle.qh_h3.proofs.frame.buffer.Buffer.is_empty.Goals as goal

pub returns-else-is_empty : goal.returns-else-is_empty
returns-else-is_empty c = front_some c.is_empty.result c.args.self.now.front c.args.self.now.more c.if-is_empty.false c.is_empty.ensures
