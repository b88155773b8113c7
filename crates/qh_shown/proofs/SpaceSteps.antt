-- What the frames of 1-RTT packets bring, that come, are sent and are lost.
use Rattle.std.proofs.Common.{◌≡◌, ℕ, ◌++◌, Bool, true, false, MatchBool, List, [], ◌∷◌, map, Option, None, Some, refl, sym, ap, subst, ◌∙◌, append_assoc}
use Rattle.std.proofs.lemmas.List.{append-nil}
use Rattle.std.proofs.lemmas.Option.{none-some}
use Rattle.qh_base.specs.declared.connection_error.ConnectionError.{ConnectionError}
use Rattle.qh_base.specs.declared.connection_error.ConnectionError.TheVariants as error
use Rattle.qh_book.specs.Book.{Book}
use Rattle.qh_book.specs.Items.{bring, bring_all, is_memory, item_of}
use Rattle.qh_book.specs.Shown.{ShowsStreams}
use Rattle.qh_core.specs.Receiving.{AreFramesTaken, IsAccepted}
use Rattle.qh_core.specs.Timers.{AreLostByAge, IsProbed}
use Rattle.qh_frame.specs.declared.frame.Frame.{Frame}
use Rattle.qh_frame.specs.declared.frame.Frame.TheVariants as kind
use Rattle.qh_loss.specs.Settled.{AreQueuedAgain, IsProbeQueued}
use Rattle.qh_loss.specs.declared.probe.Probe.{Probe}
use Rattle.qh_loss.specs.declared.probe.Probe.TheVariants as probe
use Rattle.qh_recovery.specs.declared.sent_packets.SentPacket.{SentPacket}
use Rattle.qh_shown.proofs.Keeping.{keeps_both, keeps_self}
use Rattle.qh_shown.specs.Connections.{is_wanting_in}
use Rattle.qh_shown.specs.Kept.{Keeps}
use Rattle.qh_shown.specs.Laws.{BookLaws, Leads}
use Rattle.qh_space.specs.Receiving.{IsAckReceived, IsClosedBy, IsFrameTaken, IsLossTaken, coming_of, coming_refusal, frame_refusal}
use Rattle.qh_space.specs.Sending.{AreElicitingPut, IsPacketMade, may_elicit, with_sent}
use Rattle.qh_space.specs.Timers.{pings_after}
use Rattle.qh_space.specs.declared.data_space.DataSpace.{DataSpace}
use Rattle.qh_streams.specs.Items.{AreConfirmed, items_of, logged}
use Rattle.qh_streams.specs.Streams.{AreLost, AreWritten, PlainStreams, refusal_of}
use Rattle.qh_streams.specs.declared.frames.SentFrame.{SentFrame}
use Rattle.qh_streams.specs.declared.frames.StreamFrame.{StreamFrame}
use Rattle.qh_streams.specs.declared.items.Item.{Item}

-- ---- items one after another

brought_both : (xs ys : List Item) (b : Book) → bring_all (map item_of (xs ++ ys)) b ≡ bring_all (map item_of ys) (bring_all (map item_of xs) b)
brought_both [] ys b = refl
brought_both (x ∷ xs) ys b = brought_both xs ys (bring (item_of x) b)

pub leads_self : (s : PlainStreams) → Leads [] s s
leads_self s = record { to = λ notes b shown. shown; keeps = λ notes b shown. keeps_self b }

pub leads_by : (items : List Item) (old new to : PlainStreams) → new ≡ to → Leads items old to → Leads items old new
leads_by items old new to is p = subst (λ (z : PlainStreams). Leads items old z) (sym is) p

pub leads_same : (old new : PlainStreams) → new ≡ old → Leads [] old new
leads_same old new is = leads_by [] old new old is (leads_self old)

leads_both : (xs ys : List Item) (old mid new : PlainStreams) → Leads xs old mid → Leads ys mid new → Leads (xs ++ ys) old new
leads_both xs ys old mid new p q = record {
  to = λ notes b shown. subst (λ (z : Book). ShowsStreams new notes z) (sym (brought_both xs ys b)) (q.to notes (bring_all (map item_of xs) b) (p.to notes b shown));
  keeps = λ notes b shown.
      let mid = bring_all (map item_of xs) b in
      subst (λ (z : Book). Keeps b z) (sym (brought_both xs ys b)) (keeps_both b mid (bring_all (map item_of ys) mid) (p.keeps notes b shown) (q.keeps notes mid (p.to notes b shown)));
}

-- what comes behind brings nothing
leads_on : (xs : List Item) (old mid new : PlainStreams) → Leads xs old mid → Leads [] mid new → Leads xs old new
leads_on xs old mid new p q = record { to = λ notes b shown. q.to notes (bring_all (map item_of xs) b) (p.to notes b shown); keeps = p.keeps }

pub leads_none : (old mid new : PlainStreams) → Leads [] old mid → Leads [] mid new → Leads [] old new
leads_none old mid new p q = leads_on [] old mid new p q

pub logged_none : (log : Option (List Item)) → logged log [] ≡ log
logged_none None = refl
logged_none (Some items) = ap (λ (z : List Item). Some z) (append-nil items)

logged_both : (log : Option (List Item)) (a b : List Item) → logged (logged log a) b ≡ logged log (a ++ b)
logged_both None a b = refl
logged_both (Some items) a b = ap (λ (z : List Item). Some z) (append_assoc items a b)

-- ---- a packet number space

pub record SpaceStep (old new : DataSpace) : Type 0 where
  pub items : List Item
  pub leads : Leads items old.streams new.streams
  pub log : new.log ≡ logged old.log items

-- the same, by which nothing comes
pub record SpaceQuiet (old new : DataSpace) : Type 0 where
  pub leads : Leads [] old.streams new.streams
  pub log : new.log ≡ old.log

pub quiet_step : (old new : DataSpace) → SpaceQuiet old new → SpaceStep old new
quiet_step old new q = record { items = []; leads = q.leads; log = q.log ∙ sym (logged_none old.log) }

step_by : (old new to : DataSpace) → new ≡ to → SpaceStep old to → SpaceStep old new
step_by old new to is s = subst (λ (z : DataSpace). SpaceStep old z) (sym is) s

quiet_by : (old new to : DataSpace) → new ≡ to → SpaceQuiet old to → SpaceQuiet old new
quiet_by old new to is s = subst (λ (z : DataSpace). SpaceQuiet old z) (sym is) s

quiet_self : (s : DataSpace) → SpaceQuiet s s
quiet_self s = record { leads = leads_self s.streams; log = refl }

pub quiet_same : (old new : DataSpace) → new ≡ old → SpaceQuiet old new
quiet_same old new is = quiet_by old new old is (quiet_self old)

quiet_both : (old mid new : DataSpace) → SpaceQuiet old mid → SpaceQuiet mid new → SpaceQuiet old new
quiet_both old mid new p q = record { leads = leads_none old.streams mid.streams new.streams p.leads q.leads; log = q.log ∙ p.log }

pub step_both : (old mid new : DataSpace) → SpaceStep old mid → SpaceStep mid new → SpaceStep old new
step_both old mid new p q = record {
  items = p.items ++ q.items;
  leads = leads_both p.items q.items old.streams mid.streams new.streams p.leads q.leads;
  log = q.log ∙ ap (λ (z : Option (List Item)). logged z q.items) p.log ∙ logged_both old.log p.items q.items;
}

step_same : (old new : DataSpace) → new ≡ old → SpaceStep old new
step_same old new is = quiet_step old new (quiet_same old new is)

-- ---- refusals

by_coming : (s : PlainStreams) (o : Option StreamFrame) (f : StreamFrame) → o ≡ Some f → coming_refusal s o ≡ None → refusal_of s f ≡ None
by_coming s None f is none = absurd (none-some f is)
by_coming s (Some g) f is none = let same : g ≡ f = cc in subst (λ (z : StreamFrame). refusal_of s z ≡ None) same none

unrefused : (s : DataSpace) (frame : Frame) (f : StreamFrame) → coming_of frame ≡ Some f → frame_refusal s frame ≡ None → refusal_of s.streams f ≡ None
unrefused s (kind.Ack a) f is none = absurd (none-some f is)
unrefused s (kind.NewToken token) f is none = absurd (none-some f is)
unrefused s kind.HandshakeDone f is none = absurd (none-some f is)
unrefused s (kind.Datagram payload has_length) f is none = absurd (none-some f is)
unrefused s frame f is none = by_coming s.streams (coming_of frame) f is none

-- ---- a close is no want of memory

no_memory : (f : Frame) → IsClosedBy f (Some error.Memory) → ⊥
no_memory (kind.ConnectionClose code frame reason) by = by
no_memory (kind.ApplicationClose code reason) by = by
no_memory f by = none-some error.Memory (sym by)

closed_calm : (f : Frame) (e : ConnectionError) → IsClosedBy f (Some e) → is_memory e ≡ false
closed_calm f error.Memory by = absurd (no_memory f by)
closed_calm f e by = refl

frame_calm : (now : ℕ) (old new : DataSpace) (f : Frame) (e : ConnectionError) → IsFrameTaken now old new f (Some e) → is_memory e ≡ false
frame_calm now old new _ _ (IsFrameTaken.close f e by is) = closed_calm f e by

pub frames_calm : (now : ℕ) (bytes : List ℕ) (old new : DataSpace) (taken : List Frame) (end : Option ConnectionError) → AreFramesTaken now bytes old new taken end → is_wanting_in end ≡ false
frames_calm now _ _ _ _ _ (AreFramesTaken.none s) = refl
frames_calm now _ _ _ _ _ (AreFramesTaken.more bytes rest frame old mid new taken end begins unrefused first rest_taken) = frames_calm now rest mid new taken end rest_taken
frames_calm now _ _ _ _ _ (AreFramesTaken.closed bytes rest frame old new e begins unrefused taken) = frame_calm now old new frame e taken
frames_calm now _ _ _ _ _ (AreFramesTaken.refused bytes rest frame s e begins named refusal) = refl

-- ---- the number of a packet

pub accepted_quiet : (number : ℕ) (is_eliciting : Bool) (old new : DataSpace) → IsAccepted number is_eliciting old new → SpaceQuiet old new
accepted_quiet number is_eliciting old new a = quiet_by old new _ a.rest_is (record { leads = leads_self old.streams; log = refl })

sent_streams : (s : DataSpace) (packet : SentPacket SentFrame) (b : Bool) → SpaceQuiet s (with_sent s packet b)
sent_streams s packet true = record { leads = leads_self s.streams; log = refl }
sent_streams s packet false = record { leads = leads_self s.streams; log = refl }

pinged_quiet : (p : Probe) (s : DataSpace) → SpaceQuiet s (pings_after p s)
pinged_quiet probe.Ping s = record { leads = leads_self s.streams; log = refl }
pinged_quiet probe.Stream s = quiet_self s
pinged_quiet probe.Others s = quiet_self s

module _ (laws : BookLaws) where
  -- ---- frames that are lost

  lost_leads : (old new : PlainStreams) (fs : List SentFrame) → AreLost old new fs → Leads [] old new
  lost_leads _ _ _ (AreLost.none s) = leads_self s
  lost_leads _ _ _ (AreLost.more old mid new fs f before lost) = leads_none old mid new (lost_leads old mid fs before) (laws.lost mid new f lost)

  loss_quiet : (largest_acked now : ℕ) (old new : DataSpace) → IsLossTaken largest_acked now old new → SpaceQuiet old new
  loss_quiet largest_acked now old new l = record { leads = lost_leads old.streams new.streams _ l.lost.frames; log = ap (λ (z : DataSpace). z.log) l.rest_is }

  aged_quiet : (now : ℕ) (old new : DataSpace) → AreLostByAge now old new → SpaceQuiet old new
  aged_quiet now old new (AreLostByAge.due moment largest is by acked lost) = loss_quiet largest now old new lost
  aged_quiet now old new (AreLostByAge.not_yet later is) = quiet_same old new is

  again_leads : (old new : PlainStreams) (fs : List SentFrame) (any : Bool) → AreQueuedAgain old new fs any → Leads [] old new
  again_leads _ _ _ _ (AreQueuedAgain.none s) = leads_self s
  again_leads _ _ _ _ (AreQueuedAgain.owed old mid new fs any f before lost unsettled) = leads_none old mid new (again_leads old mid fs any before) (laws.lost mid new f lost)
  again_leads _ _ _ _ (AreQueuedAgain.settled old mid new fs any f before lost settled) = leads_none old mid new (again_leads old mid fs any before) (laws.lost mid new f lost)

  probe_leads : (old new : PlainStreams) (packets : List (ℕ × SentPacket SentFrame)) (p : Probe) → IsProbeQueued old new packets p → Leads [] old new
  probe_leads old new packets _ (IsProbeQueued.stream mid before after number packet are first then) = leads_none old mid new (again_leads old mid _ _ first) (again_leads mid new _ _ then)
  probe_leads old new packets _ (IsProbeQueued.others mid number packet after are first then) = leads_none old mid new (again_leads old mid _ _ first) (again_leads mid new _ _ then)
  probe_leads old new packets _ (IsProbeQueued.ping mid number packet after are first then) = leads_none old mid new (again_leads old mid _ _ first) (again_leads mid new _ _ then)
  probe_leads old new packets _ (IsProbeQueued.nothing none is) = leads_same old new is

  probed_quiet : (now : ℕ) (old new : DataSpace) → IsProbed now old new → SpaceQuiet old new
  probed_quiet now old new (IsProbed.due moment is by d) =
      quiet_by old new _ d.rest_is (quiet_both old _ _ (record { leads = probe_leads old.streams new.streams old.sent d.probe d.queued; log = refl })
      (pinged_quiet d.probe (record old { streams = new.streams; is_probe_due = true })))
  probed_quiet now old new (IsProbed.not_yet later is) = quiet_same old new is

  pub timed_quiet : (now : ℕ) (old mid new : DataSpace) → AreLostByAge now old mid → IsProbed now mid new → SpaceQuiet old new
  timed_quiet now old mid new lost probed = quiet_both old mid new (aged_quiet now old mid lost) (probed_quiet now mid new probed)

  -- ---- frames that are sent

  written_leads : (room : ℕ) (old new : PlainStreams) (fs : List SentFrame) (bytes : List ℕ) → AreWritten room old new fs bytes → Leads [] old new
  written_leads _ _ _ _ _ (AreWritten.none room s) = leads_self s
  written_leads _ _ _ _ _ (AreWritten.more room old mid new f fs bytes handed fits reads_back rest) = leads_none old mid new (laws.sent old mid room f handed) (written_leads _ mid new fs bytes rest)

  elicited_quiet : (may : Bool) (room : ℕ) (old mid : DataSpace) (before after : List ℕ) (frames : List SentFrame) (P : Type 0) → MatchBool may (AreElicitingPut room old mid before after frames) ((mid ≡ old) × P)
      → SpaceQuiet old mid
  elicited_quiet true room old mid before after frames P put = record { leads = written_leads _ old.streams mid.streams _ _ put.streams.written; log = ap (λ (z : DataSpace). z.log) put.rest_is }
  elicited_quiet false room old mid before after frames P none = quiet_same old mid none.0

  pub packet_quiet : (now overhead room : ℕ) (old new : DataSpace) (before after : List ℕ) → IsPacketMade now overhead room old new before after → SpaceQuiet old new
  packet_quiet now overhead room old new before after made =
      let q = elicited_quiet (may_elicit old) _ old made.mid made.out_mid after made.packet.frames.items _ made.eliciting in
      let s = sent_streams made.mid made.packet _ in
      quiet_by old new _ made.new_is (record { leads = leads_none old.streams made.mid.streams _ q.leads s.leads; log = s.log ∙ q.log })

  pub bare_quiet : (old new : DataSpace) (packet : SentPacket SentFrame) → new ≡ with_sent old packet true → SpaceQuiet old new
  bare_quiet old new packet is = quiet_by old new _ is (sent_streams old packet true)

  -- ---- frames that come

  confirmed_leads : (old new : PlainStreams) (fs : List SentFrame) (items : List Item) → AreConfirmed old new fs items → Leads items old new
  confirmed_leads _ _ _ _ (AreConfirmed.none s) = leads_self s
  confirmed_leads _ _ _ _ (AreConfirmed.more old mid new fs items f before acked) = leads_both items _ old mid new (confirmed_leads old mid fs items before) (laws.acked mid new f acked)

  ack_step : (now : ℕ) (old new : DataSpace) (a : _) → IsAckReceived now old new a → SpaceStep old new
  ack_step now old new a r =
      let l = loss_quiet _ now r.mid new r.lost in
      record {
        items = r.items;
        leads = leads_on r.items old.streams r.mid.streams new.streams (confirmed_leads old.streams r.mid.streams _ r.items r.confirmed) l.leads;
        log = l.log ∙ ap (λ (z : DataSpace). z.log) r.mid_is;
      }

  frame_step : (now : ℕ) (old new : DataSpace) (f : Frame) (end : Option ConnectionError) → frame_refusal old f ≡ None → IsFrameTaken now old new f end → SpaceStep old new
  frame_step now old new _ _ none (IsFrameTaken.passive f passive is) = step_same old new is
  frame_step now old new _ _ none (IsFrameTaken.streams f s coming is rest) =
      record { items = items_of old.streams s; leads = laws.received old.streams new.streams s (unrefused old f s coming none) is; log = ap (λ (z : DataSpace). z.log) rest }
  frame_step now old new _ _ none (IsFrameTaken.ack a is) = ack_step now old new a is
  frame_step now old new _ _ none (IsFrameTaken.challenge bytes is) = quiet_step old new (quiet_by old new _ is (record { leads = leads_self old.streams; log = refl }))
  frame_step now old new _ _ none (IsFrameTaken.close f e by is) = step_same old new is

  pub frames_step : (now : ℕ) (bytes : List ℕ) (old new : DataSpace) (taken : List Frame) (end : Option ConnectionError) → AreFramesTaken now bytes old new taken end → SpaceStep old new
  frames_step now _ _ _ _ _ (AreFramesTaken.none s) = step_same s s refl
  frames_step now _ _ _ _ _ (AreFramesTaken.more bytes rest frame old mid new taken end begins none first rest_taken) =
      step_both old mid new (frame_step now old mid frame None none first) (frames_step now rest mid new taken end rest_taken)
  frames_step now _ _ _ _ _ (AreFramesTaken.closed bytes rest frame old new e begins none taken) = frame_step now old new frame (Some e) none taken
  frames_step now _ _ _ _ _ (AreFramesTaken.refused bytes rest frame s e begins named refusal) = step_same s s refl
