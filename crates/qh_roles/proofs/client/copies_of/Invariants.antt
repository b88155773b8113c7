use Rattle.std.proofs.Common.{◌≡◌, take}
use Rattle.qh_roles.proofs.client.copies_of.Given as goal

-- the first messages were copied
abbrev pub invariant-loop-message : goal.invariant-loop-message
invariant-loop-message l = l.all.items ≡ take l.message-index l.messages
