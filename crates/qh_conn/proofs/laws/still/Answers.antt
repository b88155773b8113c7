use Rattle.std.proofs.Common.{◌≡◌, inl, inr, Bool, true, false, List, [], length, refl, sym, ap, subst, ◌∙◌}
use Rattle.std.proofs.lemmas.List.{append-nil}
use Rattle.std.specs.Prelude.{is_some}
use Rattle.qh_conn.proofs.LogKept.{current_by}
use Rattle.qh_converse.proofs.MadeOpens.{locally_opens}
use Rattle.qh_converse.specs.Converses.{Converses}
use Rattle.qh_control.specs.Control.{IsSendable}
use Rattle.qh_control.specs.declared.control.ControlState.{ControlState}
use Rattle.qh_core.proofs.MadeTogether.{one_step}
use Rattle.qh_core.specs.Inner.{is_open}
use Rattle.qh_core.specs.declared.config.ConnConfig.{ConnConfig as CoreConfig}
use Rattle.qh_core.specs.Made.{IsMadeLocally}
use Rattle.qh_core.specs.Made.IsLocalCall.{on_streams}
use Rattle.qh_handshake.specs.Handshake.{IsHandshake}
use Rattle.qh_handshake.specs.declared.handshake.Handshake.{Handshake}
use Rattle.qh_spec.specs.Transcript.{Act}
use Rattle.qh_spec.specs.declared.sides.Side.{Side}
use Rattle.qh_conn.proofs.laws.still.Goals as goal

stays_shut : (old new : Bool) → (new ≡ true → old ≡ true) → old ≡ false → new ≡ false
stays_shut old false opens shut = refl
stays_shut old true opens shut = let z : true ≡ false = sym (opens refl) ∙ shut in cc

pub returns-clause-stands : goal.returns-clause-stands
returns-clause-stands g c = λ accepts sealed hello h x new k t made p.
    subst (λ (z : List Act). Converses accepts sealed hello h new k z) (append-nil t)
    (c.sends.ensures.called accepts sealed hello h x new k [] t (one_step IsMadeLocally x new [] made) (λ _. refl) p)

pub returns-clause-whole : goal.returns-clause-whole
returns-clause-whole g c = λ old new same made whole.
    let end = made.1.same_end in
    let opens = locally_opens old.core new.core [] (one_step IsMadeLocally old.core new.core [] made) in
    record {
      sound = record {
        handshake = subst (λ (z : Handshake). IsHandshake z) (sym same.handshake) whole.sound.handshake;
        side_is = end.side ∙ whole.sound.side_is ∙ sym (ap (λ (z : Handshake). z.side) same.handshake);
        id_is = end.local_id ∙ whole.sound.id_is ∙ sym (ap (λ (z : Handshake). z.local_id) same.handshake);
        as_long = end.remote_length ∙ whole.sound.as_long ∙ sym (ap (λ (z : ControlState). length z.ids.active.id) same.control);
        ungreeted = λ e. ap (λ (z : CoreConfig). z.peer_datagram) end.config ∙ whole.sound.ungreeted (sym (ap (λ (z : Handshake). z.peer) same.handshake) ∙ e);
        sendable = subst (λ (z : ControlState). IsSendable new.core.side new.core.config.peer_datagram z) (sym same.control)
            (subst (λ (z : CoreConfig). IsSendable new.core.side z.peer_datagram old.control) (sym end.config)
            (subst (λ (z : Side). IsSendable z old.core.config.peer_datagram old.control) (sym end.side) whole.sound.sendable));
        connected = λ e. let both = whole.sound.connected (sym same.is_connected ∙ e) in
            (ap (λ (z : Handshake). is_some z.peer) same.handshake ∙ both.0, ap (λ (z : Handshake). z.space) same.handshake ∙ both.1);
      };
      current = current_by old new (λ on. sym (ap (λ (z : ControlState). is_some z.log) same.control) ∙ on) (ap (λ (z : Handshake). z.peer) same.handshake) same.log whole.current;
      client = λ side greeted. elim (whole.client (sym (ap (λ (z : Handshake). z.side) same.handshake) ∙ side) (sym (ap (λ (z : Handshake). is_some z.peer) same.handshake) ∙ greeted)) [
        | inl k ↦ inl (same.is_connected ∙ k)
        | inr shut ↦ inr (stays_shut (is_open old.core.state) (is_open new.core.state) opens shut)
      ];
    }

pub returns-clause-streams_stand : goal.returns-clause-streams_stand
returns-clause-streams_stand g c = λ accepts sealed hello h x new k t made p. returns-clause-stands g c accepts sealed hello h x new k t (on_streams [] made.0, made.1) p

pub returns-clause-streams_whole : goal.returns-clause-streams_whole
returns-clause-streams_whole g c = λ old new same made whole. returns-clause-whole g c old new same (on_streams [] made.0, made.1) whole
