-- Links that are honest, and lists of numbers by neighbours (own).
use Rattle.std.specs.Prelude.{◌≡◌, ℕ, List, [], ◌∷◌, ◌++◌}
use Rattle.qh_spec.specs.declared.sides.Side.{Side}
use Rattle.qh_spec.specs.declared.link.Event.{Event}
use Rattle.qh_spec.specs.declared.link.Event.TheVariants.{Given}
use Rattle.qh_spec.specs.Link.{other, sent_by}
use Rattle.qh_spec.specs.Lists.{In}

-- each number and the one behind it (own)
abbrev pub Neighbours : (ℕ → ℕ → Type 0) → List ℕ → Type 0
Neighbours P [] = Unit {0}
Neighbours P (m ∷ []) = Unit {0}
Neighbours P (m ∷ n ∷ ns) = P m n × Neighbours P (n ∷ ns)

-- each datagram that was given to a side was sent before by the other (own)
abbrev pub IsHonest : List Event → Type 0
IsHonest events =
    (before after : List Event) (s : Side) (d : List ℕ)
    → events ≡ before ++ Given s d ∷ after → In d (sent_by (other s) before)
