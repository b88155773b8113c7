-- What the end of the 1-RTT packets of a connection makes carries on how that stands to all that was done with it.
use Rattle.std.proofs.Common.{◌≡◌, ℕ, Bool, true, false, List, [], ◌∷◌, ◌++◌, length, drop, Option, Some, None, Result, Ok, Err, refl, sym, subst}
use Rattle.std.proofs.lemmas.List.{append-nil}
use Rattle.std.specs.Prelude.{IfOk, IfSome, is_some}
use Rattle.std.specs.Result.{IsErr}
use Rattle.qh_base.specs.declared.memory.Memory.{Memory as OutOfMemory}
use Rattle.qh_base.specs.declared.path.Transmit.{Transmit}
use Rattle.qh_conduct.specs.Behaves.{Behaves}
use Rattle.qh_conn.specs.Outgoing.{made_acts}
use Rattle.qh_converse.proofs.HandshakeDatagrams.{same_still}
use Rattle.qh_converse.proofs.StateKept.{quiet_begun, same_order}
use Rattle.qh_converse.specs.Converses.{Converses}
use Rattle.qh_core.proofs.MadeTogether.{one_step}
use Rattle.qh_core.specs.Follows.{control_acts, transmit_acts}
use Rattle.qh_core.specs.Made.{AcceptsTags, MakesTagsOf, AreMade, IsMade}
use Rattle.qh_core.specs.declared.control.ControlSent.{ControlSent}
use Rattle.qh_core.specs.declared.inner.Inner.{Inner}
use Rattle.qh_handshake.specs.declared.handshake.Handshake.{Handshake}
use Rattle.qh_spec.specs.Parted.{IsShort}
use Rattle.qh_spec.specs.Transcript.{Act, HandedOut}

false_true : false ≡ true → ⊥
false_true e = cc

err_acts : (before after : List ℕ) (result : Result (Option Transmit) OutOfMemory) → IsErr result → made_acts before after result ≡ []
err_acts before after (Err e) is = refl
err_acts before after (Ok (Some m)) is = absurd (false_true is)
err_acts before after (Ok None) is = absurd (false_true is)

module _ {S : Type 0} where
  -- a call of an end that was greeted, that hands out no datagram
  pub still_made : (accepts : AcceptsTags S) (sealed : MakesTagsOf S) (hello : List ℕ) (h : Handshake) (c new : Inner S) (k : Bool) (t : List Act) → is_some h.peer ≡ true
      → ((acts part : List Act) → AreMade accepts sealed c new acts → Behaves c part → Behaves new (part ++ acts)) → IsMade accepts sealed c new []
      → Converses accepts sealed hello h c k t → Converses accepts sealed hello h new k t
  still_made accepts sealed hello h c new k t greeted behaves made p =
      let same = made.1.same_end in
      record {
        shake = p.shake;
        is_shake = p.is_shake;
        follows = p.follows;
        sends = p.sends;
        part = p.part;
        is_part = p.is_part;
        begun = quiet_begun accepts sealed h c new p.part greeted made (behaves [] p.part (one_step (IsMade accepts sealed) c new [] made) p.begun.behaves) p.begun;
        orders = same_order h h c new k t (same_still h h refl) same.local_id p.orders;
      }

  module _ (accepts : AcceptsTags S) (sealed : MakesTagsOf S) where
    -- nothing more was done
    pub nothing_more : (hello : List ℕ) (h : Handshake) (c : Inner S) (k : Bool) (t : List Act) → Converses accepts sealed hello h c k t → Converses accepts sealed hello h c k (t ++ [])
    nothing_more hello h c k t p = subst (λ (z : List Act). Converses accepts sealed hello h c k z) (sym (append-nil t)) p

    pub nothing_less : (hello : List ℕ) (h : Handshake) (c : Inner S) (k : Bool) (t : List Act) → Converses accepts sealed hello h c k (t ++ []) → Converses accepts sealed hello h c k t
    nothing_less hello h c k t p = subst (λ (z : List Act). Converses accepts sealed hello h c k z) (append-nil t) p

    -- nor where the call fails
    pub err_carries : (before after hello : List ℕ) (result : Result (Option Transmit) OutOfMemory) (h : Handshake) (c : Inner S) (k : Bool) (t : List Act) → IsErr result
        → Converses accepts sealed hello h c k t → Converses accepts sealed hello h c k (t ++ made_acts before after result)
    err_carries before after hello result h c k t is p =
        subst (λ (z : List Act). Converses accepts sealed hello h c k (t ++ z)) (sym (err_acts before after result is)) (nothing_more hello h c k t p)

    -- a call that hands out a datagram, or none
    pub transmit_carries : (before after hello : List ℕ) (result : Result (Option Transmit) OutOfMemory) (h : Handshake) (c new : Inner S) (k : Bool) (t : List Act) → is_some h.peer ≡ true
        → ((acts part : List Act) → AreMade accepts sealed c new acts → Behaves c part → Behaves new (part ++ acts))
        → ((d : List ℕ) → IsMade accepts sealed c new (HandedOut d ∷ []) → IsShort d → Converses accepts sealed hello h c k t → Converses accepts sealed hello h new k (t ++ HandedOut d ∷ []))
        → IfOk result (λ o. IfSome o (λ m. IsShort (drop (length before) after)))
        → IsMade accepts sealed c new (transmit_acts before after result) → Converses accepts sealed hello h c k t → Converses accepts sealed hello h new k (t ++ made_acts before after result)
    transmit_carries before after hello (Ok (Some m)) h c new k t greeted behaves out short made p = out (drop (length before) after) made short p
    transmit_carries before after hello (Ok None) h c new k t greeted behaves out short made p =
        nothing_more hello h new k t (still_made accepts sealed hello h c new k t greeted behaves made p)
    transmit_carries before after hello (Err e) h c new k t greeted behaves out short made p =
        nothing_more hello h new k t (still_made accepts sealed hello h c new k t greeted behaves made p)

    -- a datagram of frames of the connection's own
    pub sent_carries : (before after hello : List ℕ) (result : Result (Option ControlSent) OutOfMemory) (sent : ControlSent) (h : Handshake) (c new : Inner S) (k : Bool) (t : List Act)
        → result ≡ Ok (Some sent)
        → ((d : List ℕ) → IsMade accepts sealed c new (HandedOut d ∷ []) → IsShort d → Converses accepts sealed hello h c k t → Converses accepts sealed hello h new k (t ++ HandedOut d ∷ []))
        → IsMade accepts sealed c new (control_acts before after result) → IsShort (drop (length before) after) → Converses accepts sealed hello h c k t
        → Converses accepts sealed hello h new k (t ++ HandedOut (drop (length before) after) ∷ [])
    sent_carries before after hello result sent h c new k t is out made short p =
        out (drop (length before) after) (subst (λ (z : Result (Option ControlSent) OutOfMemory). IsMade accepts sealed c new (control_acts before after z)) is made) short p

    pub failed_carries : (before after hello : List ℕ) (result : Result (Option ControlSent) OutOfMemory) (e : OutOfMemory) (h : Handshake) (c new : Inner S) (k : Bool) (t : List Act)
        → result ≡ Err e → is_some h.peer ≡ true → ((acts part : List Act) → AreMade accepts sealed c new acts → Behaves c part → Behaves new (part ++ acts))
        → IsMade accepts sealed c new (control_acts before after result) → Converses accepts sealed hello h c k t → Converses accepts sealed hello h new k t
    failed_carries before after hello result e h c new k t is greeted behaves made p =
        still_made accepts sealed hello h c new k t greeted behaves
        (subst (λ (z : Result (Option ControlSent) OutOfMemory). IsMade accepts sealed c new (control_acts before after z)) is made) p
