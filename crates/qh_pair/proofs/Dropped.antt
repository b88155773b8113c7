-- Datagrams that were handed in before an end came to be.
use Rattle.std.proofs.Common.{◌≡◌, List, [], ◌∷◌, ◌++◌, ℕ, refl, sym, ◌∙◌, ap, subst, append_assoc, append-nil}
use Rattle.qh_spec.proofs.PartLaws.{part_ended, part_finished, part_pieces, part_written}
use Rattle.qh_spec.proofs.TranscriptLaws.{handed_in-append, handed_out-append}
use Rattle.qh_spec.specs.Lists.{In}
use Rattle.qh_spec.proofs.Members.{in_right}
use Rattle.qh_spec.specs.Parted.{IsPartOf}
use Rattle.qh_spec.specs.Parted.IsPartOf.{none, same, rest, unheard, initial}
use Rattle.qh_spec.specs.Transcript.{Act, HandedIn, HandedOut, Wrote, Finished, Reset, Stopped, ReadBytes, ReadEnd, ReadReset, handed_in, handed_out}
use Rattle.qh_spec.specs.declared.sides.Side.{Side}
use Rattle.qh_spec.specs.declared.sides.Side.TheVariants.{Client, Server}
use Rattle.qh_pair.specs.Ends.{AreDropped, AreHandedIn}
use Rattle.qh_pair.specs.Steps.{IsQuiet}
use Rattle.qh_pair.proofs.SameStreams.{SameStreams}

pub dropped_in : (side : Side) (t : List Act) → AreDropped side t → AreHandedIn t
dropped_in Client t e = subst AreHandedIn (sym e) tt
dropped_in Server t h = h

pub in_quiet : (t : List Act) → AreHandedIn t → IsQuiet t
in_quiet [] h s = ((refl, refl), (refl, refl))
in_quiet (HandedIn d ∷ t) h s = in_quiet t h s
in_quiet (HandedOut d ∷ t) h s = absurd h
in_quiet (Wrote n b ∷ t) h s = absurd h
in_quiet (Finished n ∷ t) h s = absurd h
in_quiet (Reset n c ∷ t) h s = absurd h
in_quiet (Stopped n c ∷ t) h s = absurd h
in_quiet (ReadBytes n o b ∷ t) h s = absurd h
in_quiet (ReadEnd n ∷ t) h s = absurd h
in_quiet (ReadReset n c ∷ t) h s = absurd h

pub in_sends_none : (t : List Act) → AreHandedIn t → handed_out t ≡ []
in_sends_none [] h = refl
in_sends_none (HandedIn d ∷ t) h = in_sends_none t h
in_sends_none (HandedOut d ∷ t) h = absurd h
in_sends_none (Wrote n b ∷ t) h = absurd h
in_sends_none (Finished n ∷ t) h = absurd h
in_sends_none (Reset n c ∷ t) h = absurd h
in_sends_none (Stopped n c ∷ t) h = absurd h
in_sends_none (ReadBytes n o b ∷ t) h = absurd h
in_sends_none (ReadEnd n ∷ t) h = absurd h
in_sends_none (ReadReset n c ∷ t) h = absurd h

pub in_more_handed : (t : List Act) (d : List ℕ) → AreHandedIn t → AreHandedIn (t ++ HandedIn d ∷ [])
in_more_handed [] d h = tt
in_more_handed (HandedIn x ∷ t) d h = in_more_handed t d h
in_more_handed (HandedOut x ∷ t) d h = absurd h
in_more_handed (Wrote n b ∷ t) d h = absurd h
in_more_handed (Finished n ∷ t) d h = absurd h
in_more_handed (Reset n c ∷ t) d h = absurd h
in_more_handed (Stopped n c ∷ t) d h = absurd h
in_more_handed (ReadBytes n o b ∷ t) d h = absurd h
in_more_handed (ReadEnd n ∷ t) d h = absurd h
in_more_handed (ReadReset n c ∷ t) d h = absurd h

-- nothing of them is a part
part_of_in : (u v : List Act) → IsPartOf [] u → AreHandedIn v → IsPartOf [] (u ++ v)
part_of_in u [] p h = subst (λ (z : List Act). IsPartOf [] z) (sym (append-nil u)) p
part_of_in u (HandedIn d ∷ v) p h = subst (λ (z : List Act). IsPartOf [] z) (append_assoc u (HandedIn d ∷ []) v) (part_of_in (u ++ HandedIn d ∷ []) v (unheard [] u d p) h)
part_of_in u (HandedOut d ∷ v) p h = absurd h
part_of_in u (Wrote n b ∷ v) p h = absurd h
part_of_in u (Finished n ∷ v) p h = absurd h
part_of_in u (Reset n c ∷ v) p h = absurd h
part_of_in u (Stopped n c ∷ v) p h = absurd h
part_of_in u (ReadBytes n o b ∷ v) p h = absurd h
part_of_in u (ReadEnd n ∷ v) p h = absurd h
part_of_in u (ReadReset n c ∷ v) p h = absurd h

-- a part of what was done since is one of all
pub part_since : (before part t : List Act) → AreHandedIn before → IsPartOf part t → IsPartOf part (before ++ t)
part_since before part t h none = subst (λ (z : List Act). IsPartOf [] z) (sym (append-nil before)) (part_of_in [] before none h)
part_since before part t h (same p w a quiet is) =
    subst (λ (z : List Act). IsPartOf (p ++ a ∷ []) z) (append_assoc before w (a ∷ [])) (same p (before ++ w) a quiet (part_since before p w h is))
part_since before part t h (rest p w tail d ends short is) =
    subst (λ (z : List Act). IsPartOf (p ++ HandedIn tail ∷ []) z) (append_assoc before w (HandedIn d ∷ [])) (rest p (before ++ w) tail d ends short (part_since before p w h is))
part_since before part t h (unheard p w d is) = subst (λ (z : List Act). IsPartOf p z) (append_assoc before w (HandedIn d ∷ [])) (unheard p (before ++ w) d (part_since before p w h is))
part_since before part t h (initial p w d alone is) = subst (λ (z : List Act). IsPartOf p z) (append_assoc before w (HandedOut d ∷ [])) (initial p (before ++ w) d alone (part_since before p w h is))

pub part_streams : (part t : List Act) → IsPartOf part t → SameStreams part t
part_streams part t p = record {
  written_is = λ s. sym (part_written part t p s);
  finished_is = λ s. sym (part_finished part t p s);
  pieces_are = λ s. sym (part_pieces part t p s);
  ended_is = λ s. sym (part_ended part t p s);
}

-- what was handed out was handed out since, and what was handed in since was handed in
pub out_since : (before t : List Act) → AreHandedIn before → handed_out (before ++ t) ≡ handed_out t
out_since before t h = handed_out-append before t ∙ ap (λ (z : List (List ℕ)). z ++ handed_out t) (in_sends_none before h)

pub in_since : (before t : List Act) (d : List ℕ) → In d (handed_in t) → In d (handed_in (before ++ t))
in_since before t d i = subst (λ (z : List (List ℕ)). In d z) (sym (handed_in-append before t)) (in_right d (handed_in before) (handed_in t) i)
