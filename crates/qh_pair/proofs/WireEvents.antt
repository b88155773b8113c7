-- Events that tell of the wire of two ends, whatever else happened.
use Rattle.std.proofs.Common.{◌≡◌, List, [], ◌∷◌, refl, sym, ◌∙◌, ap}
use Rattle.qh_spec.specs.declared.link.Event.{Event}
use Rattle.qh_spec.specs.declared.link.Event.TheVariants.{Sent, Given}
use Rattle.qh_spec.specs.declared.sides.Side.{Side}
use Rattle.qh_spec.specs.declared.sides.Side.TheVariants.{Client, Server}
use Rattle.qh_spec.specs.Link.{if_same_side}
use Rattle.qh_spec.specs.Transcript.{Act, HandedIn, HandedOut, Wrote, Finished, Reset, Stopped, ReadBytes, ReadEnd, ReadReset}
use Rattle.qh_pair.specs.Pair.{wire, told_acts}

-- events that tell of an end's wire alone
abbrev pub retold : Side → List Act → List Event
retold s [] = []
retold s (HandedIn d ∷ t) = Given s d ∷ retold s t
retold s (HandedOut d ∷ t) = Sent s d ∷ retold s t
retold s (Wrote n b ∷ t) = retold s t
retold s (Finished n ∷ t) = retold s t
retold s (Reset n c ∷ t) = retold s t
retold s (Stopped n c ∷ t) = retold s t
retold s (ReadBytes n o b ∷ t) = retold s t
retold s (ReadEnd n ∷ t) = retold s t
retold s (ReadReset n c ∷ t) = retold s t

same_side : {X : Type 0} (s : Side) (x y : X) → if_same_side s s x y ≡ x
same_side Client x y = refl
same_side Server x y = refl

pub retold_own : (s : Side) (t : List Act) → wire t ≡ told_acts s (retold s t)
retold_own s [] = refl
retold_own s (HandedIn d ∷ t) =
    ap (λ (z : List Act). HandedIn d ∷ z) (retold_own s t) ∙ sym (same_side s (HandedIn d ∷ told_acts s (retold s t)) (told_acts s (retold s t)))
retold_own s (HandedOut d ∷ t) =
    ap (λ (z : List Act). HandedOut d ∷ z) (retold_own s t) ∙ sym (same_side s (HandedOut d ∷ told_acts s (retold s t)) (told_acts s (retold s t)))
retold_own s (Wrote n b ∷ t) = retold_own s t
retold_own s (Finished n ∷ t) = retold_own s t
retold_own s (Reset n c ∷ t) = retold_own s t
retold_own s (Stopped n c ∷ t) = retold_own s t
retold_own s (ReadBytes n o b ∷ t) = retold_own s t
retold_own s (ReadEnd n ∷ t) = retold_own s t
retold_own s (ReadReset n c ∷ t) = retold_own s t

pub client_silent : (t : List Act) → told_acts Server (retold Client t) ≡ []
client_silent [] = refl
client_silent (HandedIn d ∷ t) = client_silent t
client_silent (HandedOut d ∷ t) = client_silent t
client_silent (Wrote n b ∷ t) = client_silent t
client_silent (Finished n ∷ t) = client_silent t
client_silent (Reset n c ∷ t) = client_silent t
client_silent (Stopped n c ∷ t) = client_silent t
client_silent (ReadBytes n o b ∷ t) = client_silent t
client_silent (ReadEnd n ∷ t) = client_silent t
client_silent (ReadReset n c ∷ t) = client_silent t

pub server_silent : (t : List Act) → told_acts Client (retold Server t) ≡ []
server_silent [] = refl
server_silent (HandedIn d ∷ t) = server_silent t
server_silent (HandedOut d ∷ t) = server_silent t
server_silent (Wrote n b ∷ t) = server_silent t
server_silent (Finished n ∷ t) = server_silent t
server_silent (Reset n c ∷ t) = server_silent t
server_silent (Stopped n c ∷ t) = server_silent t
server_silent (ReadBytes n o b ∷ t) = server_silent t
server_silent (ReadEnd n ∷ t) = server_silent t
server_silent (ReadReset n c ∷ t) = server_silent t
