use Rattle.std.proofs.Common.{◌≡◌, ℕ, ◌∙◌, Bool, nat_lt, if◌then◌else◌, ap}
use Rattle.qh_handshake.specs.declared.initial_space.HelloState.TheVariants.{Acked}
use Rattle.qh_handshake.specs.declared.initial_space.InitialSpace.{InitialSpace}
use Rattle.qh_handshake.proofs.initial_space.InitialSpace.acknowledge.Goals as goal

-- what follows from so many packets, and from whether one bore the hello
abbrev with_acked : InitialSpace → (has_hello : Bool) → (count : ℕ) → InitialSpace
with_acked s has_hello count = record s { state = (if has_hello then Acked else s.state); pto_count = (if nat_lt 0 count then 0 else s.pto_count) }

same_acked : (s : InitialSpace) (has_hello has_too : Bool) (count count_too : ℕ) → has_hello ≡ has_too → count ≡ count_too → with_acked s has_hello count ≡ with_acked s has_too count_too
same_acked s has_hello has_too count count_too has_is count_is = ap (λ (b : Bool). with_acked s b count) has_is ∙ ap (λ (n : ℕ). with_acked s has_too n) count_is

pub returns : goal.returns
returns c =
    let did = c.take_acked-acked.ensures in
    rw c.count_acked.ensures (did.0, did.1, same_acked (record c.args.self.now { sent = c.take_acked-acked.new.sent }) _ _ _ _ did.3 did.2)
