-- An ACK of ranges of packet numbers, the greatest first (RFC 9000, section 19.3.1).
use Rattle.std.specs.Prelude.{◌⊎◌, ℕ, ◌+◌, ◌-◌, ◌^◌, ◌<◌, ◌≤◌, List, [], ◌∷◌}
use Rattle.qh_frame.specs.declared.ack.AckRange.{AckRange}
use Rattle.qh_spec.specs.FrameTypes as frame_types
use Rattle.qh_spec.specs.QuicFrames.{QuicFrame, Num, Nums}

-- each range is below the last one, with a number between them that is in neither
abbrev pub AreBelow : ℕ → List AckRange → Type 0
AreBelow above [] = Unit {0}
AreBelow above (r ∷ more) = (r.least ≤ r.greatest) × (r.greatest + 2 ≤ above) × AreBelow r.least more

-- there is a range, each number has a form, and the ranges stand apart
abbrev pub AreApart : List AckRange → Type 0
AreApart [] = ⊥
AreApart (r ∷ more) = (r.least ≤ r.greatest) × (r.greatest < 2 ^ 62) × AreBelow r.least more

-- the number is in one of them
abbrev pub IsInOne : List AckRange → ℕ → Type 0
IsInOne [] n = ⊥
IsInOne (r ∷ more) n = ((r.least ≤ n) × (n ≤ r.greatest)) ⊎ IsInOne more n

-- each gap, and the range below it
abbrev pub gaps : ℕ → List AckRange → List ℕ
gaps above [] = []
gaps above (r ∷ more) = (above - (r.greatest + 2)) ∷ ((r.greatest - r.least) ∷ gaps r.least more)

abbrev pub ack_frame : ℕ → List AckRange → QuicFrame
ack_frame delay [] = record { kind = frame_types.ack; values = [] }
ack_frame delay (r ∷ more) = record { kind = frame_types.ack; values = Num r.greatest ∷ Num delay ∷ Nums ((r.greatest - r.least) ∷ gaps r.least more) ∷ [] }
