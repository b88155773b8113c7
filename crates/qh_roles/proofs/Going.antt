-- A connection that goes on from where it was at the start.
use Rattle.std.proofs.Common.{◌≡◌, List, [], ◌++◌, sym, ap, ◌∙◌, subst, append_assoc, append-nil}
use Rattle.std.proofs.lemmas.List.{append_cancel_left}
use Rattle.qh_conduct.specs.Behaves.{Behaves}
use Rattle.qh_core.specs.Made.{AreMadeOnStreams, IsMadeOnStreams}
use Rattle.qh_core.specs.Made.AreSteps.{none, more}
use Rattle.qh_core.specs.declared.inner.Inner.{Inner}
use Rattle.qh_roles.specs.Going.{WentFrom}
use Rattle.qh_spec.specs.Transcript.{Act}

module _ {S : Type 0} where
  -- the start itself
  pub went_nowhere : (c : Inner S) (t : List Act) → Behaves c t → WentFrom c t c t
  went_nowhere c t b = record { behaves = b; acts = []; t_is = sym (append-nil t); made = none }

  module _ (start : Inner S) (before : List Act) where
    -- the same acts, written in another way
    pub went_as : (c : Inner S) (t u : List Act) → t ≡ u → WentFrom start before c t → WentFrom start before c u
    went_as c t u same w = subst (WentFrom start before c) same w

    -- one call more
    pub went_on : (b c : Inner S) (t u : List Act) → WentFrom start before b t → IsMadeOnStreams b c u → Behaves c (t ++ u) → WentFrom start before c (t ++ u)
    went_on b c t u w call behaves = record {
      behaves = behaves;
      acts = w.acts ++ u;
      t_is = ap (λ (z : List Act). z ++ u) w.t_is ∙ append_assoc before w.acts u;
      made = more b c w.acts u w.made call;
    }

    -- one call more, which adds nothing
    pub went_still : (b c : Inner S) (t : List Act) → WentFrom start before b t → IsMadeOnStreams b c [] → Behaves c t → WentFrom start before c t
    went_still b c t w call behaves = went_as c (t ++ []) t (append-nil t) (went_on b c t [] w call (subst (Behaves c) (sym (append-nil t)) behaves))

    -- what was done since the start is what those calls added
    pub went_by : (c : Inner S) (acts : List Act) → WentFrom start before c (before ++ acts) → AreMadeOnStreams start c acts
    went_by c acts w = subst (λ (z : List Act). AreMadeOnStreams start c z) (sym (append_cancel_left before acts w.acts w.t_is)) w.made
