-- What is sent, and why nothing is, where by then memory was taken for frames that will be out.
use Rattle.std.proofs.Common.{◌≡◌, ℕ, List, ◌++◌, map, take, Option, Some, None, Result, Ok, Err, drop, sym, ap, subst, ◌∙◌}
use Rattle.std.specs.Prelude.{IfOk, IfSome}
use Rattle.qh_base.specs.declared.memory.Memory.{Memory as OutOfMemory}
use Rattle.qh_base.specs.declared.path.Transmit.{Transmit}
use Rattle.qh_base.specs.declared.time.Moment.{Moment}
use Rattle.qh_conn.specs.Outgoing.{AreOutgoing, IsControlHeld, IsDataTransmitted, IsQueueStill, IsStill, handed_on, made_acts}
use Rattle.qh_conn.specs.Whole.{CarriesOnBy, Stands}
use Rattle.qh_conn.specs.declared.connection.Connection.{Connection}
use Rattle.qh_control.specs.Queue.{PlainQueue, sent_in}
use Rattle.qh_control.specs.declared.control.ControlState.{ControlState}
use Rattle.qh_control.specs.declared.queue.SentControl.{SentControl}
use Rattle.qh_core.specs.Sending.{IsControlKept, IsControlSent}
use Rattle.qh_core.specs.declared.control.ControlFrame.{ControlFrame}
use Rattle.qh_packet.specs.Session.{AcceptsTag, MakesTags, NamesTags, SealsTag}

same_outgoing : (s : ControlState) (q : PlainQueue) (frames : List ControlFrame) → AreOutgoing (record s { queue = q }) frames → AreOutgoing s frames
same_outgoing s q frames out = record { count = out.count; some = out.some; are = out.are }

pub none_of : {P Q : Type 0} (result : Result (Option Transmit) OutOfMemory) → IfOk result (λ o. o ≡ None → P) → (P → Q) → IfOk result (λ o. o ≡ None → Q)
none_of (Ok o) h f = λ e. f (h e)
none_of (Err e) h f = tt

pub some_of : {P Q : Transmit → Type 0} (result : Result (Option Transmit) OutOfMemory) → IfOk result (λ o. IfSome o P) → ((t : Transmit) → P t → Q t) → IfOk result (λ o. IfSome o Q)
some_of (Ok (Some t)) h f = f t h
some_of (Ok None) h f = tt
some_of (Err e) h f = tt

pub some_both : {P Q R : Transmit → Type 0} (result : Result (Option Transmit) OutOfMemory) → IfOk result (λ o. IfSome o P) → IfOk result (λ o. IfSome o Q) → ((t : Transmit) → P t → Q t → R t)
    → IfOk result (λ o. IfSome o R)
some_both (Ok (Some t)) h k f = f t h k
some_both (Ok None) h k f = tt
some_both (Err e) h k f = tt

module _ {S : Type 0} where
  pub stays_still : (old new : Connection S) → new ≡ old → IsStill old new
  stays_still old new is = record {
    queue = record { waiting = ap (λ (z : Connection S). z.control.queue.waiting) is; sent = ap (λ (z : Connection S). z.control.queue.sent) is };
    rest_is = is ∙ ap (λ (z : Connection S). record old { control = record old.control { queue = z.control.queue } }) (sym is);
  }

  still_sent : (sealed : SealsTag) (now : Moment) (old new : Connection S) (q : PlainQueue) (before after : List ℕ) (t : Transmit) → IsQueueStill old.control.queue q
      → IsDataTransmitted sealed now (record old { control = record old.control { queue = q } }) new before after t → IsDataTransmitted sealed now old new before after t
  still_sent sealed now old new q before after t s (IsDataTransmitted.of_core core bare still is) =
      IsDataTransmitted.of_core core bare (record { waiting = still.waiting ∙ s.waiting; sent = still.sent ∙ s.sent }) is
  still_sent sealed now old new q before after t s (IsDataTransmitted.control sent control t_is waiting out is) =
      IsDataTransmitted.control sent (subst (λ (z : List ControlFrame). IsControlSent sealed now old.core new.core before after z sent) s.waiting control) t_is
      (waiting ∙ ap (λ (z : List ControlFrame). drop sent.count z) s.waiting)
      (out ∙ ap (λ (z : List SentControl). z ++ map (sent_in sent.number) (take sent.count q.waiting)) s.sent
      ∙ ap (λ (z : List ControlFrame). old.control.queue.sent ++ map (sent_in sent.number) (take sent.count z)) s.waiting) is
  still_sent sealed now old new q before after t s (IsDataTransmitted.datagrams sent frames core none out control t_is still is) =
      IsDataTransmitted.datagrams sent frames core (sym s.waiting ∙ none) (same_outgoing old.control q frames out) control t_is (record { waiting = still.waiting ∙ s.waiting; sent = still.sent ∙ s.sent }) is

  still_held : (c : Connection S) (q : PlainQueue) → IsQueueStill c.control.queue q → IsControlHeld (record c { control = record c.control { queue = q } }) → IsControlHeld c
  still_held c q s (IsControlHeld.none none out) = IsControlHeld.none (sym s.waiting ∙ none) out
  still_held c q s (IsControlHeld.waiting some kept) = IsControlHeld.waiting (λ e. some (s.waiting ∙ e)) (subst (λ (z : List ControlFrame). IsControlKept c.core z) s.waiting kept)
  still_held c q s (IsControlHeld.outgoing frames none out kept) = IsControlHeld.outgoing frames (sym s.waiting ∙ none) (same_outgoing c.control q frames out) kept

  -- what is sent then is sent by the connection as it was before
  pub data_sent : (sealed : SealsTag) (now : Moment) (old mid new : Connection S) (before after : List ℕ) (t : Transmit) → IsStill old mid
      → IsDataTransmitted sealed now mid new before after t → IsDataTransmitted sealed now old new before after t
  data_sent sealed now old mid new before after t s is =
      still_sent sealed now old new mid.control.queue before after t s.queue (subst (λ (z : Connection S). IsDataTransmitted sealed now z new before after t) s.rest_is is)

  pub control_held : (old mid : Connection S) → IsStill old mid → IsControlHeld mid → IsControlHeld old
  control_held old mid s is = still_held old mid.control.queue s.queue (subst (λ (z : Connection S). IsControlHeld z) s.rest_is is)

  pub both_still : (old mid new : Connection S) → IsStill old mid → IsStill mid new → IsStill old new
  both_still old mid new s r = record {
    queue = record { waiting = r.queue.waiting ∙ s.queue.waiting; sent = r.queue.sent ∙ s.queue.sent };
    rest_is = r.rest_is ∙ ap (λ (z : Connection S). record z { control = record z.control { queue = new.control.queue } }) s.rest_is;
  }

  -- what is done behind it is done to the connection as it was before
  pub data_after : (seal : S → SealsTag) (now : Moment) (old mid new : Connection S) (before between after : List ℕ) (result : Result (Option Transmit) OutOfMemory) → IsStill old mid → between ≡ before
      → IfOk result (λ o. IfSome o (λ t. IsDataTransmitted (seal mid.core.session) now mid (handed_on t.size new) between after t))
      → IfOk result (λ o. IfSome o (λ t. IsDataTransmitted (seal old.core.session) now old (handed_on t.size new) before after t))
  data_after seal now old mid new before between after result s e h =
      some_of result h (λ t is. data_sent (seal old.core.session) now old mid (handed_on t.size new) before after t s
      (subst (λ (z : List ℕ). IsDataTransmitted (seal old.core.session) now mid (handed_on t.size new) z after t) e
      (subst (λ (z : S). IsDataTransmitted (seal z) now mid (handed_on t.size new) between after t) (ap (λ (z : Connection S). z.core.session) s.rest_is) is)))

  pub carries_after : (accepts : S → AcceptsTag) (seal : S → SealsTag) (old mid new : Connection S) (before between after : List ℕ) (result : Result (Option Transmit) OutOfMemory) → IsStill old mid
      → between ≡ before → (NamesTags (accepts mid.core.session) → MakesTags (seal mid.core.session) → CarriesOnBy accepts seal mid new (made_acts between after result))
      → NamesTags (accepts old.core.session) → MakesTags (seal old.core.session) → CarriesOnBy accepts seal old new (made_acts before after result)
  carries_after accepts seal old mid new before between after result s e f named makes hello t p =
      let session = sym (ap (λ (z : Connection S). z.core.session) s.rest_is) in
      subst (λ (z : List ℕ). Stands accepts seal hello new (t ++ made_acts z after result)) e
      (f (subst (λ (z : S). NamesTags (accepts z)) session named) (subst (λ (z : S). MakesTags (seal z)) session makes) hello t
      (subst (λ (z : Connection S). Stands accepts seal hello z t) (sym s.rest_is) p))
