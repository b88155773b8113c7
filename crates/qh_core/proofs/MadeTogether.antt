-- Calls one after another.
use Rattle.std.proofs.Common.{◌≡◌, List, [], ◌++◌, append_assoc, refl, sym, subst, ◌∙◌}
use Rattle.std.proofs.lemmas.List.{append-nil}
use Rattle.qh_core.specs.Follows.{Follows}
use Rattle.qh_core.specs.Inner.{IsSameEnd}
use Rattle.qh_core.specs.Made.{AcceptsTags, MakesTagsOf, AreMade, AreMadeLocally, AreMadeOnStreams, AreSteps, IsMade, IsMadeLocally, IsMadeOnStreams}
use Rattle.qh_core.specs.Made.AreSteps.{none, more}
use Rattle.qh_core.specs.Made.IsAnyCall.{local}
use Rattle.qh_core.specs.Made.IsLocalCall.{on_streams}
use Rattle.qh_core.specs.declared.inner.Inner.{Inner}
use Rattle.qh_spec.specs.Transcript.{Act}

module _ {S : Type 0} where
  pub one_step : (Step : Inner S → Inner S → List Act → Type 0) (old new : Inner S) (acts : List Act) → Step old new acts → AreSteps Step old new acts
  one_step Step old new acts step = more old new [] acts none step

  pub both_steps : (Step : Inner S → Inner S → List Act → Type 0) (old mid new : Inner S) (acts after : List Act)
      → AreSteps Step old mid acts → AreSteps Step mid new after → AreSteps Step old new (acts ++ after)
  both_steps Step old mid new acts after first (none) = subst (λ (z : List Act). AreSteps Step old new z) (sym (append-nil acts)) first
  both_steps Step old mid new acts after first (more between _ front last before step) =
      subst (λ (z : List Act). AreSteps Step old new z) (append_assoc acts front last)
      (more between new (acts ++ front) last (both_steps Step old mid between acts front first before) step)

  pub wider : (Step Wide : Inner S → Inner S → List Act → Type 0) (old new : Inner S) (acts : List Act)
      → ((b c : Inner S) (u : List Act) → Step b c u → Wide b c u) → AreSteps Step old new acts → AreSteps Wide old new acts
  wider Step Wide old new acts widen (none) = none
  wider Step Wide old new acts widen (more between _ front last before step) = more between new front last (wider Step Wide old between front widen before) (widen between new last step)

  pub streams_local : (old new : Inner S) (acts : List Act) → AreMadeOnStreams old new acts → AreMadeLocally old new acts
  streams_local old new acts = wider IsMadeOnStreams IsMadeLocally old new acts (λ b c u step. (on_streams u step.0, step.1))

  pub local_all : (accepts : AcceptsTags S) (sealed : MakesTagsOf S) (old new : Inner S) (acts : List Act) → AreMadeLocally old new acts → AreMade accepts sealed old new acts
  local_all accepts sealed old new acts = wider IsMadeLocally (IsMade accepts sealed) old new acts (λ b c u step. (local u step.0, step.1))

  pub all_same : (accepts : AcceptsTags S) (sealed : MakesTagsOf S) (old new : Inner S) (acts : List Act) → AreMade accepts sealed old new acts → IsSameEnd old new × (new.session ≡ old.session)
  all_same accepts sealed old new acts (none) = (record { side = refl; local_id = refl; remote_length = refl; config = refl }, refl)
  all_same accepts sealed old new acts (more between _ front last before step) =
      let first = all_same accepts sealed old between front before in
      let one = step.1.same_end in (
        record {
          side = one.side ∙ first.0.side;
          local_id = one.local_id ∙ first.0.local_id;
          remote_length = one.remote_length ∙ first.0.remote_length;
          config = one.config ∙ first.0.config;
        },
        step.1.same_session ∙ first.1,
      )

  pub carried_on : (accepts : AcceptsTags S) (sealed : MakesTagsOf S) (Stands : Inner S → List Act → Type 0) (old new : Inner S) (acts t : List Act)
      → ((b c : Inner S) (u v : List Act) → b.session ≡ old.session → IsMade accepts sealed b c u → Stands b v → Stands c (v ++ u))
      → AreMade accepts sealed old new acts → Stands old t → Stands new (t ++ acts)
  carried_on accepts sealed Stands old new acts t each (none) p = subst (λ (z : List Act). Stands new z) (sym (append-nil t)) p
  carried_on accepts sealed Stands old new acts t each (more between _ front last before step) p =
      subst (λ (z : List Act). Stands new z) (append_assoc t front last)
      (each between new last (t ++ front) (all_same accepts sealed old between front before).1 step (carried_on accepts sealed Stands old between front t each before p))

  pub all_follow : (accepts : AcceptsTags S) (sealed : MakesTagsOf S) (old new : Inner S) (acts t : List Act) → AreMade accepts sealed old new acts → Follows old t → Follows new (t ++ acts)
  all_follow accepts sealed old new acts t = carried_on accepts sealed Follows old new acts t (λ b c u v _ step p. step.1.follows v p)
