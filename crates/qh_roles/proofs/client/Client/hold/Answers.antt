use Rattle.std.proofs.Common.{◌≡◌, ◌≤◌, Bool, true, false, arith}
use Rattle.qh_roles.specs.Client.{held}
use Rattle.qh_roles.proofs.ClientLists.{held_below}
use Rattle.qh_roles.proofs.client.Client.hold.Goals as goal
use mir.Val.{bool_byte}

at_most_one : (b : Bool) → bool_byte b ≤ 1
at_most_one true = omega arith
at_most_one false = omega arith

pub overflow_add-self : goal.overflow_add-self
overflow_add-self c =
    let below = held_below c.self.inside.answers.items in
    let count : c.self.inside.count ≡ held c.self.inside.answers.items = c.self.invariant.1 in
    let one = at_most_one c.put_answer-is_first.result in
    omega (arith, below, count, one, c.from.ensures, c.self.inside.answers.ok.0, c.self.inside.answers.ok.1, c.self.inside.answers.small)
