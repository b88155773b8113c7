-- An end accords with all that was done with it, whatever calls are made.
use Rattle.std.proofs.Common.{◌≡◌, ℕ, true, List, [], ◌++◌, refl, sym, subst}
use Rattle.qh_arrival.proofs.AskedCalls.{fresh_asked, made_asked}
use Rattle.qh_arrival.proofs.HeardCalls.{fresh_heard, made_heard, packets_heard}
use Rattle.qh_arrival.proofs.SaidCalls.{fresh_said, made_said}
use Rattle.qh_arrival.specs.Accord.{Accords, AreTags, IsInAccord}
use Rattle.qh_conduct.proofs.BehavingEnds.{event_out, fresh_behaves}
use Rattle.qh_conduct.proofs.BehavingMade.{made_on}
use Rattle.qh_conduct.proofs.IdleRestarts.{fresh_sealed, made_sealed, quiet_sealed}
use Rattle.qh_conduct.specs.Restarting.{AreSealed}
use Rattle.qh_core.proofs.MadeTogether.{carried_on}
use Rattle.qh_core.specs.Follows.{Follows, event_acts}
use Rattle.qh_core.specs.Inner.{IsNewSpace, IsSameEnd, is_open}
use Rattle.qh_core.specs.Made.{AcceptsTags, AreMade, IsAnyCall, IsLocalCall, MakesTagsOf}
use Rattle.qh_core.specs.Made.IsAnyCall.{handed_in, lost, handed_out as datagram_out, control_out, nothing_sent, unsent, local}
use Rattle.qh_core.specs.Made.IsLocalCall.{timeout, closed, polled, endpoint_polled, turned, on_streams}
use Rattle.qh_core.specs.declared.inner.Inner.{Inner}
use Rattle.qh_owing.proofs.LedgerCalls.{ledger_fresh, ledger_made, ledger_open}
use Rattle.qh_owing.proofs.LedgerStreams.{hands_none}
use Rattle.qh_owing.proofs.OwingMade.{made_owes}
use Rattle.qh_owing.proofs.WhatIsOwed.{fresh, still_owed}
use Rattle.qh_packet.specs.Session.{AcceptsTag}
use Rattle.qh_spec.specs.Transcript.{Act, handed_out}
use Rattle.qh_spec.specs.declared.sides.Side.{Side}
use Rattle.qh_spec.specs.declared.sides.Space.{Space}
use Rattle.qh_spec.specs.declared.sides.Space.TheVariants.{Data}

-- ---- what hands out no datagram

module _ {S : Type 0} where
  local_out : (b c : Inner S) (u : List Act) → IsLocalCall b c u → handed_out u ≡ []
  local_out b c u (timeout _ _ _) = refl
  local_out b c u (closed _ _ _ _ _) = refl
  local_out b c u (polled _ _) = refl
  local_out b c u (endpoint_polled _ _) = refl
  local_out b c u (turned _) = refl
  local_out b c u (on_streams _ call) = (hands_none b c u call).1

  -- ---- each datagram that is handed out is tagged

  any_tagged : (accepts : AcceptsTags S) (sealed : MakesTagsOf S) (b c : Inner S) (u t : List Act) → IsAnyCall accepts sealed b c u → IsSameEnd b c
      → AreSealed (sealed b.session) b t → AreSealed (sealed b.session) c (t ++ u)
  any_tagged accepts sealed b c u t (handed_in event _ _) same p = quiet_sealed (sealed b.session) b c t (event_acts event) same (event_out event) p
  any_tagged accepts sealed b c u t (lost event _ _) same p = quiet_sealed (sealed b.session) b c t (event_acts event) same (event_out event) p
  any_tagged accepts sealed b c u t (datagram_out now before after transmit made _ _) same p = made_sealed (sealed b.session) now b c before after transmit t made same p
  any_tagged accepts sealed b c u t (control_out now before after frames sent is _) same p = made_sealed (sealed b.session) now b c before after sent.transmit t is.made same p
  any_tagged accepts sealed b c u t (nothing_sent _) same p = quiet_sealed (sealed b.session) b c t [] same refl p
  any_tagged accepts sealed b c u t (unsent _) same p = quiet_sealed (sealed b.session) b c t [] same refl p
  any_tagged accepts sealed b c u t (local _ call) same p = quiet_sealed (sealed b.session) b c t u same (local_out b c u call) p

  made_tagged : (accepts : AcceptsTags S) (sealed : MakesTagsOf S) (old new : Inner S) (acts t : List Act) → AreMade accepts sealed old new acts
      → AreSealed (sealed old.session) old t → AreSealed (sealed old.session) new (t ++ acts)
  made_tagged accepts sealed old new acts t made =
      carried_on accepts sealed (AreSealed (sealed old.session)) old new acts t
      (λ b c u v session step p. subst (λ (s : S). AreSealed (sealed s) c (v ++ u)) session
      (any_tagged accepts sealed b c u v step.0 step.1.same_end (subst (λ (s : S). AreSealed (sealed s) b v) (sym session) p))) made

  -- ---- the one relation

  pub fresh_accords : (accepts : AcceptsTag) (sealed : Side → Space → ℕ → List ℕ) (c : Inner S) → IsNewSpace c.config c.side c.space → Follows c [] → Accords accepts sealed c []
  fresh_accords accepts sealed c new follows = record {
    behaves = fresh_behaves c new follows;
    owes = fresh accepts c new;
    ledger = ledger_fresh accepts sealed c new;
    asked = fresh_asked c new;
    said = fresh_said c new;
    heard = fresh_heard accepts c new;
    tagged = fresh_sealed sealed c;
  }

  pub made_accords : (accepts : AcceptsTags S) (sealed : MakesTagsOf S) (old new : Inner S) (acts t : List Act) → AreTags (accepts old.session) (sealed old.session)
      → AreMade accepts sealed old new acts → Accords (accepts old.session) (sealed old.session) old t → Accords (accepts old.session) (sealed old.session) new (t ++ acts)
  made_accords accepts sealed old new acts t tags made p = record {
    behaves = made_on accepts sealed old new acts t tags.names (λ from number below. tags.makes from Data number below) made p.behaves;
    owes = made_owes accepts sealed old new acts t tags.names tags.makes made p.owes;
    ledger = ledger_made accepts sealed old new acts t made p.ledger;
    asked = made_asked accepts sealed old new acts t (λ from number below. tags.makes from Data number below) made p.asked;
    said = made_said accepts sealed old new acts t (λ from number below. tags.makes from Data number below) made p.said;
    heard = made_heard accepts sealed old new acts t made p.heard;
    tagged = made_tagged accepts sealed old new acts t made p.tagged;
  }

  pub open_accords : (accepts : AcceptsTag) (sealed : Side → Space → ℕ → List ℕ) (c : Inner S) (t : List Act) → is_open c.state ≡ true → Accords accepts sealed c t → IsInAccord accepts sealed c t
  open_accords accepts sealed c t up p =
      let l = ledger_open accepts sealed c t up p.ledger in
      let came = l.2.1.accepted_are in
      record {
        owed = still_owed accepts c t up p.owes;
        sent = l.0;
        sent_are = l.1;
        accepted = l.2.0;
        ledger = l.2.1;
        heard = packets_heard accepts c t came.packets up p.heard came.are;
      }
