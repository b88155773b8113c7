-- Events of an end that are told to nobody, one after another.
use Rattle.std.proofs.Common.{◌≡◌, [], List, ◌++◌, ℕ, Option, refl, ap, sym, subst, ◌∙◌, append-nil}
use Rattle.qh_conn.specs.Same.{IsSameConnection}
use Rattle.qh_conn.specs.Telling.{IsEndpointTold, IsTold}
use Rattle.qh_conn.specs.Telling.{IsEndpointTold as endpoint_told}
use Rattle.qh_conn.specs.Telling.{IsTold as told}
use Rattle.qh_conn.specs.Whole.{IsWhole, Stands as ConnStands, StandsStill}
use Rattle.qh_conn.specs.declared.event.Event.{Event}
use Rattle.qh_control.specs.declared.event.EndpointEvent.{EndpointEvent}
use Rattle.qh_core.proofs.Undisturbed.{polled_kept}
use Rattle.qh_core.specs.Event.{IsDrainedTold}
use Rattle.qh_core.specs.Event.IsDrainedTold.{drained, none}
use Rattle.qh_core.specs.Made.{AcceptsTags, MakesTagsOf}
use Rattle.qh_core.specs.declared.event.EndpointEvent.{EndpointEvent as CoreEndpointEvent}
use Rattle.qh_core.specs.declared.inner.Inner.{Inner}
use Rattle.qh_space.specs.declared.data_space.DataSpace.{DataSpace}
use Rattle.qh_handshake.specs.declared.handshake.Handshake.{Handshake}
use Rattle.qh_packet.specs.Session.{PlainKeys, plain_accepts, plain_sealed}
use Rattle.qh_peers.specs.Ends.{IsHonestEnd}
use Rattle.qh_spec.specs.Transcript.{Act}
use Rattle.qh_pair.specs.EndCalls.{IsMadeBy, IsPolledOut, KeepsCounts, KeepsHonest}
use Rattle.qh_pair.specs.Ends.{End, key_of}
use Rattle.qh_pair.proofs.EndMade.{StaysSame, made_both}
use Rattle.qh_pair.proofs.KeptLaws.{kept_still}

-- a call that adds nothing
pub made_still : (c d : End) → IsSameConnection key_of c d → IsWhole d → StandsStill c d → IsMadeBy c d []
made_still c d same whole still = record {
  same = same;
  whole = whole;
  carries = λ hello t s. subst (λ (z : List Act). ConnStands plain_accepts plain_sealed hello d z) (sym (append-nil t)) (still plain_accepts plain_sealed hello t s);
  kept = λ k t long s h. kept_still c.core.side k c d t same s h;
}

-- the handshake, the counts, the idle time, the state and the error stay
pub record StaysQuiet (c d : End) : Type 0 where
  pub handshake : d.handshake ≡ c.handshake
  pub opened : d.core.space.streams.bi.opened ≡ c.core.space.streams.bi.opened
  pub accepted : d.core.space.streams.bi.accepted ≡ c.core.space.streams.bi.accepted
  pub idle : d.core.idle ≡ c.core.idle
  pub error : d.core.error ≡ c.core.error
  pub state : d.core.state ≡ c.core.state

counts_quiet : (c d : End) → StaysQuiet c d → KeepsCounts c d
counts_quiet c d q = record {
  opened = λ n h. (q.opened ∙ h.0, λ none2. h.1 (sym (ap (λ (z : Handshake). z.peer) q.handshake) ∙ none2));
  accepted = λ n h. (q.accepted ∙ h.0, λ none2. h.1 (sym (ap (λ (z : Handshake). z.peer) q.handshake) ∙ none2));
}

quiet_same : (c : End) → StaysQuiet c c
quiet_same c = record { handshake = refl; opened = refl; accepted = refl; idle = refl; error = refl; state = refl }

pub told_quiet : (c d : End) (event : Option Event) → IsTold c d event → StaysQuiet c d
told_quiet c d _ (told.handshake_data due e) = subst (λ (z : End). StaysQuiet c z) (sym e) (record { handshake = refl; opened = refl; accepted = refl; idle = refl; error = refl; state = refl })
told_quiet c d _ (told.connected not_data due e) = subst (λ (z : End). StaysQuiet c z) (sym e) (record { handshake = refl; opened = refl; accepted = refl; idle = refl; error = refl; state = refl })
told_quiet c d _ (told.received not_data not_connected due e) = subst (λ (z : End). StaysQuiet c z) (sym e) (record { handshake = refl; opened = refl; accepted = refl; idle = refl; error = refl; state = refl })
told_quiet c d _ (told.unblocked not_data not_connected not_received due e) = subst (λ (z : End). StaysQuiet c z) (sym e) (record { handshake = refl; opened = refl; accepted = refl; idle = refl; error = refl; state = refl })
told_quiet c d _ (told.of_core event not_data not_connected not_received not_unblocked polled e) =
    let k = polled_kept c.core d.core event polled in
    record { handshake = ap (λ (z : End). z.handshake) e; opened = k.0.bi_opened; accepted = k.0.bi_accepted; idle = k.1; error = k.2; state = k.3 }

drained_quiet : (c d : Inner PlainKeys) (o : Option CoreEndpointEvent) → IsDrainedTold c d o → (d.space ≡ c.space) × (d.idle ≡ c.idle) × (d.error ≡ c.error) × (d.state ≡ c.state)
drained_quiet c d _ (drained is untold e) = (ap (λ (z : Inner PlainKeys). z.space) e, ap (λ (z : Inner PlainKeys). z.idle) e, ap (λ (z : Inner PlainKeys). z.error) e, ap (λ (z : Inner PlainKeys). z.state) e)
drained_quiet c d _ (none why e) = (ap (λ (z : Inner PlainKeys). z.space) e, ap (λ (z : Inner PlainKeys). z.idle) e, ap (λ (z : Inner PlainKeys). z.error) e, ap (λ (z : Inner PlainKeys). z.state) e)

pub endpoint_quiet : (c d : End) (event : Option EndpointEvent) → IsEndpointTold c d event → StaysQuiet c d
endpoint_quiet c d _ (endpoint_told.control event first e) = subst (λ (z : End). StaysQuiet c z) (sym e) (record { handshake = refl; opened = refl; accepted = refl; idle = refl; error = refl; state = refl })
endpoint_quiet c d _ (endpoint_told.of_core event nothing drains e) =
    let k = drained_quiet c.core d.core event drains in
    record {
      handshake = ap (λ (z : End). z.handshake) e;
      opened = ap (λ (z : DataSpace). z.streams.bi.opened) k.0;
      accepted = ap (λ (z : DataSpace). z.streams.bi.accepted) k.0;
      idle = k.1;
      error = k.2;
      state = k.3;
    }

-- what `same_connection` says of an end itself
abbrev pub IsTheSame : Type 0
IsTheSame = (key : PlainKeys → List ℕ) (c : End) → IsSameConnection key c c

-- none was told
pub polled_none : IsTheSame → (c : End) → IsWhole c → IsPolledOut c c
polled_none same c whole = record {
  made = made_still c c (same key_of c) whole (λ accepts sealed hello t s. s);
  counts = counts_quiet c c (quiet_same c);
  idle_is = refl;
  error_is = refl;
  state_is = refl;
  handshake_is = refl;
  honest = λ hello t h. subst (λ (z : List Act). IsHonestEnd plain_accepts plain_sealed hello c z) (sym (append-nil t)) h;
}

-- one more was told
pub polled_on : StaysSame → (first old new : End) → IsPolledOut first old → IsMadeBy old new [] → StaysQuiet old new → KeepsHonest old new [] → IsPolledOut first new
polled_on both first old new p made q honest = record {
  made = made_both both first old new [] [] p.made made;
  counts = record {
    opened = λ n h. (counts_quiet old new q).opened n (p.counts.opened n h);
    accepted = λ n h. (counts_quiet old new q).accepted n (p.counts.accepted n h);
  };
  idle_is = q.idle ∙ p.idle_is;
  error_is = q.error ∙ p.error_is;
  state_is = q.state ∙ p.state_is;
  handshake_is = q.handshake ∙ p.handshake_is;
  honest = λ hello t h. subst (λ (z : List Act). IsHonestEnd plain_accepts plain_sealed hello new z) (append-nil (t ++ [])) (honest hello (t ++ []) (p.honest hello t h));
}

-- what `honest_ends` says of what is told
abbrev pub ToldHonest : Type 0
ToldHonest = (accepts : AcceptsTags PlainKeys) (sealed : MakesTagsOf PlainKeys) (key : PlainKeys → List ℕ) (hello : List ℕ) (c new : End) (event : Option Event) (t : List Act) → IsTold c new event → IsSameConnection key c new
    → IsWhole new → ConnStands accepts sealed hello new t → IsHonestEnd accepts sealed hello c t → IsHonestEnd accepts sealed hello new t

abbrev pub EndpointToldHonest : Type 0
EndpointToldHonest = (accepts : AcceptsTags PlainKeys) (sealed : MakesTagsOf PlainKeys) (key : PlainKeys → List ℕ) (hello : List ℕ) (c new : End) (event : Option EndpointEvent) (t : List Act) → IsEndpointTold c new event
    → IsSameConnection key c new → IsWhole new → ConnStands accepts sealed hello new t → IsHonestEnd accepts sealed hello c t → IsHonestEnd accepts sealed hello new t

pub one_told : StaysSame → ToldHonest → (first old new : End) (event : Option Event) → IsPolledOut first old → IsTold old new event → IsSameConnection key_of old new → IsWhole new → StandsStill old new → IsPolledOut first new
one_told both honest first old new event p tells same whole still =
    polled_on both first old new p (made_still old new same whole still) (told_quiet old new event tells)
    (λ hello t h. subst (λ (z : List Act). IsHonestEnd plain_accepts plain_sealed hello new z) (sym (append-nil t))
    (honest plain_accepts plain_sealed key_of hello old new event t tells same whole (still plain_accepts plain_sealed hello t h.stands) h))

pub one_endpoint_told : StaysSame → EndpointToldHonest → (first old new : End) (event : Option EndpointEvent) → IsPolledOut first old → IsEndpointTold old new event → IsSameConnection key_of old new → IsWhole new → StandsStill old new
    → IsPolledOut first new
one_endpoint_told both honest first old new event p tells same whole still =
    polled_on both first old new p (made_still old new same whole still) (endpoint_quiet old new event tells)
    (λ hello t h. subst (λ (z : List Act). IsHonestEnd plain_accepts plain_sealed hello new z) (sym (append-nil t))
    (honest plain_accepts plain_sealed key_of hello old new event t tells same whole (still plain_accepts plain_sealed hello t h.stands) h))

-- two such, one behind the other
pub polled_both : StaysSame → (a b c : End) → IsPolledOut a b → IsPolledOut b c → IsPolledOut a c
polled_both both a b c f g = record {
  made = made_both both a b c [] [] f.made g.made;
  counts = record { opened = λ n h. g.counts.opened n (f.counts.opened n h); accepted = λ n h. g.counts.accepted n (f.counts.accepted n h) };
  idle_is = g.idle_is ∙ f.idle_is;
  error_is = g.error_is ∙ f.error_is;
  state_is = g.state_is ∙ f.state_is;
  handshake_is = g.handshake_is ∙ f.handshake_is;
  honest = λ hello t h. subst (λ (z : List Act). IsHonestEnd plain_accepts plain_sealed hello c z) (append-nil (t ++ [])) (g.honest hello (t ++ []) (f.honest hello t h));
}
