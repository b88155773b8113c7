-- Frames that are handed over, lost or acknowledged: an end keeps within the peer's limits as before.
use Rattle.std.proofs.Common.{◌≡◌, ℕ, ◌-◌, Bool, ◌&&◌, not, List, ◌++◌, refl, sym, ap, subst, ◌∙◌, inl, inr, reverse}
use Rattle.std.proofs.lemmas.Bool.{cases_Bool}
use Rattle.qh_spec.specs.Transcript.{Act}
use Rattle.qh_half.specs.declared.send.Outgoing.{Outgoing}
use Rattle.qh_half.specs.declared.send.ResetFrame.{ResetFrame}
use Rattle.qh_half.specs.Send.{PlainSend, is_reset}
use Rattle.qh_halves.specs.declared.counts.StreamCounts.{StreamCounts}
use Rattle.qh_halves.specs.Counts.{is_own, is_bi}
use Rattle.qh_halves.specs.SendHalves.{GivesPiece, GivesReset, IsAcked, IsLost, IsResetAcked, IsResetLost}
use Rattle.qh_streams.specs.declared.frames.StreamFrame.{StreamFrame}
use Rattle.qh_streams.specs.declared.frames.SentFrame.{SentFrame}
use Rattle.qh_streams.specs.Streams.{PlainStreams, counts_of, with_counts, is_two_way, is_live, counted_closed, finished_events, max_frame_header, IsHandedOver, IsLostFrame, IsAckedFrame, AreHanded, AreTakenBack, AreWritten, AreLost, AreAcked}
use Rattle.qh_streams.specs.Streams.IsHandedOver.{stream as stream_handed, reset as reset_handed, stop as stop_handed, max_stream_data as max_stream_data_handed, max_data as max_data_handed, max_streams as max_streams_handed}
use Rattle.qh_streams.specs.Streams.IsLostFrame.{stream as stream_lost, reset as reset_lost, stop as stop_lost, max_stream_data as max_stream_data_lost, max_data as max_data_lost, max_streams as max_streams_lost}
use Rattle.qh_streams.specs.Streams.IsAckedFrame.{stream as stream_acked, reset as reset_acked, stop as stop_acked, max_stream_data as max_stream_data_acked, max_data as max_data_acked, max_streams as max_streams_acked}
use Rattle.qh_streams.specs.Streams.AreHanded.{none as none_handed, more as more_handed}
use Rattle.qh_streams.specs.Streams.AreWritten.{none as none_written, more as more_written}
use Rattle.qh_streams.specs.Streams.AreLost.{none as none_lost, more as more_lost}
use Rattle.qh_streams.specs.Streams.AreAcked.{none as none_acked, more as more_acked}
use Rattle.qh_streams.proofs.StreamsSettled.{counts_alone}
use Rattle.qh_streams.proofs.StreamsTracked.{step_goes, step_or_absent, settled_goes}
use Rattle.qh_transcript.specs.Within.{KeepsWithin}
use Rattle.qh_transcript.proofs.WithinKept.{KeepsTaken, KeepsCounts, kept, changed, send_alone, step_shared, or_absent_shared, settled_shared, taken_as, at_counts, peer_after}

-- ---- steps of a half that take no bytes

held_as : (h next : PlainSend) → next.buffer.start ≡ h.buffer.start → next.buffer.bytes ≡ h.buffer.bytes → next.max_data ≡ h.max_data → KeepsTaken h next
held_as h next start bytes limit = record { taken = rw (start, bytes) refl; limit = limit }

gives_piece_keeps : (room : ℕ) (piece : Outgoing) (h next : PlainSend) → GivesPiece room piece h next → KeepsTaken h next
gives_piece_keeps room piece h next (inl p) = held_as h next p.bytes_are.start_is p.bytes_are.bytes_are (ap (λ (h : PlainSend). h.max_data) p.rest_is)
gives_piece_keeps room piece h next (inr p) = taken_as h next (ap (λ (h : PlainSend). h.buffer) p.new_is) (ap (λ (h : PlainSend). h.max_data) p.new_is)

gives_reset_keeps : (frame : ResetFrame) (h next : PlainSend) → GivesReset frame h next → KeepsTaken h next
gives_reset_keeps frame h next p = taken_as h next (ap (λ (h : PlainSend). h.buffer) p.2) (ap (λ (h : PlainSend). h.max_data) p.2)

as_it_was : (h next : PlainSend) → next ≡ h → KeepsTaken h next
as_it_was h next same = taken_as h next (ap (λ (h : PlainSend). h.buffer) same) (ap (λ (h : PlainSend). h.max_data) same)

lost_keeps : (piece : Outgoing) (h next : PlainSend) → IsLost piece h next → KeepsTaken h next
lost_keeps piece h next p = elim (cases_Bool (is_reset h.state)) [
  | inl gone ↦ as_it_was h next (p.kept gone)
  | inr live ↦ held_as h next (p.bytes_are live).start_is (p.bytes_are live).bytes_are (ap (λ (h : PlainSend). h.max_data) p.rest_is)
]

reset_lost_keeps : (h next : PlainSend) → IsResetLost h next → KeepsTaken h next
reset_lost_keeps h next e = taken_as h next (ap (λ (h : PlainSend). h.buffer) e) (ap (λ (h : PlainSend). h.max_data) e)

acked_keeps : (piece : Outgoing) (h next : PlainSend) → IsAcked piece h next → KeepsTaken h next
acked_keeps piece h next p = elim (cases_Bool (is_reset h.state)) [
  | inl gone ↦ as_it_was h next (p.kept gone)
  | inr live ↦ record { taken = (p.bytes_are live).taken_is; limit = ap (λ (h : PlainSend). h.max_data) p.rest_is }
]

reset_acked_keeps : (h next : PlainSend) → IsResetAcked h next → KeepsTaken h next
reset_acked_keeps h next e = taken_as h next (ap (λ (h : PlainSend). h.buffer) e) (ap (λ (h : PlainSend). h.max_data) e)

-- ---- counts of which other parts change

pub counts_set : (old new s : PlainStreams) (two_way : Bool) (c : StreamCounts) → new ≡ with_counts s two_way c → KeepsCounts old s
    → c.opened ≡ (counts_of old two_way).opened → c.max_opened ≡ (counts_of old two_way).max_opened → KeepsCounts old new
counts_set old new s two_way c rest k opened max_opened =
    let at = peer_after new s two_way c rest in
    record {
      side = at.0 ∙ k.side;
      peer = at.1 ∙ k.peer;
      opened = λ b. ap (λ (s : PlainStreams). (counts_of s b).opened) rest ∙ at_counts (λ b c. c.opened ≡ (counts_of old b).opened) s two_way b c opened (k.opened b);
      max_opened = λ b. ap (λ (s : PlainStreams). (counts_of s b).max_opened) rest ∙ at_counts (λ b c. c.max_opened ≡ (counts_of old b).max_opened) s two_way b c max_opened (k.max_opened b);
    }

pub closed_set : (old new s : PlainStreams) (id : ℕ) (was_live : Bool) → new ≡ counted_closed s id was_live → KeepsCounts old s → KeepsCounts old new
closed_set old new s id was_live rest k = elim (cases_Bool (not (is_own s.side id) && (was_live && not (is_live s id)))) [
  | inl e ↦ counts_set old new s (is_bi id) _ (rw e at rest) k (k.opened (is_bi id)) (k.max_opened (is_bi id))
  | inr e ↦ subst (λ (s : PlainStreams). KeepsCounts old s) (sym (rw e at rest)) k
]

-- all but what is named stays
same_counts : (s : PlainStreams) → KeepsCounts s s
same_counts s = record { side = refl; peer = refl; opened = λ b. refl; max_opened = λ b. refl }

recv_alone : (old new : PlainStreams) (frames : List StreamFrame) (t : List Act) → new ≡ record old { recv = new.recv } → KeepsWithin old frames t → KeepsWithin new frames t
recv_alone old new frames t rest p = kept old new frames t (record {
  side = ap (λ (s : PlainStreams). s.side) rest;
  peer = ap (λ (s : PlainStreams). s.peer) rest;
  opened = λ b. ap (λ (s : PlainStreams). (counts_of s b).opened) rest;
  max_opened = λ b. ap (λ (s : PlainStreams). (counts_of s b).max_opened) rest;
}) (ap (λ (s : PlainStreams). s.send) rest) p

-- a count is announced, lost or acknowledged
announced_alone : (old new : PlainStreams) (frames : List StreamFrame) (t : List Act) (two_way : Bool) (c : StreamCounts) → new ≡ with_counts old two_way c
    → c.opened ≡ (counts_of old two_way).opened → c.max_opened ≡ (counts_of old two_way).max_opened → KeepsWithin old frames t → KeepsWithin new frames t
announced_alone old new frames t two_way c rest opened max_opened p =
    kept old new frames t (counts_set old new old two_way c rest (same_counts old) opened max_opened) (ap (λ (s : PlainStreams). s.send) rest ∙ (counts_alone old two_way c).send_is) p

-- ---- frames

pub again : (old new : PlainStreams) (frames : List StreamFrame) (t : List Act) (f : SentFrame) → IsLostFrame old new f → KeepsWithin old frames t → KeepsWithin new frames t
again old new frames t f (stream_lost id piece step rest) p = changed old new frames t (step_or_absent step) (send_alone old new rest) (or_absent_shared step) (lost_keeps piece) p
again old new frames t f (reset_lost id frame step rest) p = changed old new frames t (step_or_absent step) (send_alone old new rest) (or_absent_shared step) reset_lost_keeps p
again old new frames t f (stop_lost id code step rest) p = recv_alone old new frames t rest p
again old new frames t f (max_data_lost limit rest) p = recv_alone old new frames t (rest ∙ ap (λ r. record old { recv = r }) (sym (ap (λ (s : PlainStreams). s.recv) rest))) p
again old new frames t f (max_stream_data_lost id limit step rest) p = recv_alone old new frames t rest p
again old new frames t f (max_streams_lost dir n rest) p = announced_alone old new frames t (is_two_way dir) _ rest refl refl p

pub acked : (old new : PlainStreams) (frames : List StreamFrame) (t : List Act) (f : SentFrame) → IsAckedFrame old new f → KeepsWithin old frames t → KeepsWithin new frames t
acked old new frames t f (stream_acked id piece finished step rest) p =
    let mid : PlainStreams = record old { send = new.send; events = old.events ++ finished_events finished id } in
    changed old new frames t (settled_goes step) (closed_set old new mid id.0 (is_live old id.0) rest (record { side = refl; peer = refl; opened = λ b. refl; max_opened = λ b. refl })) (settled_shared step) (acked_keeps piece) p
acked old new frames t f (reset_acked id frame gone step rest) p =
    let mid : PlainStreams = record old { send = new.send } in
    changed old new frames t (settled_goes step) (closed_set old new mid id.0 (is_live old id.0) rest (record { side = refl; peer = refl; opened = λ b. refl; max_opened = λ b. refl })) (settled_shared step) reset_acked_keeps p
acked old new frames t f (stop_acked id code step rest) p = recv_alone old new frames t rest p
acked old new frames t f (max_data_acked limit rest) p = recv_alone old new frames t (rest ∙ ap (λ r. record old { recv = r }) (sym (ap (λ (s : PlainStreams). s.recv) rest))) p
acked old new frames t f (max_stream_data_acked id limit step rest) p = recv_alone old new frames t rest p
acked old new frames t f (max_streams_acked dir n rest) p = announced_alone old new frames t (is_two_way dir) _ rest refl refl p

pub lost_all : (old new : PlainStreams) (frames : List StreamFrame) (t : List Act) (fs : List SentFrame) → AreLost old new fs → KeepsWithin old frames t → KeepsWithin new frames t
lost_all old new frames t fs (none_lost _) p = p
lost_all old new frames t fs (more_lost _ mid _ front f before lost) p = again mid new frames t f lost (lost_all old mid frames t front before p)

pub acked_all : (old new : PlainStreams) (frames : List StreamFrame) (t : List Act) (fs : List SentFrame) → AreAcked old new fs → KeepsWithin old frames t → KeepsWithin new frames t
acked_all old new frames t fs (none_acked _) p = p
acked_all old new frames t fs (more_acked _ mid _ front f before last) p = acked mid new frames t f last (acked_all old mid frames t front before p)

pub handed : (old new : PlainStreams) (room : ℕ) (f : SentFrame) (frames : List StreamFrame) (t : List Act) → IsHandedOver old new room f → KeepsWithin old frames t → KeepsWithin new frames t
handed old new room f frames t (stream_handed id piece next rest) p = changed old new frames t (step_goes next.step) (send_alone old new rest) (step_shared next.step) (gives_piece_keeps (room - max_frame_header) piece) p
handed old new room f frames t (reset_handed id frame next rest) p = changed old new frames t (step_goes next.step) (send_alone old new rest) (step_shared next.step) (gives_reset_keeps frame) p
handed old new room f frames t (stop_handed id code step rest) p = recv_alone old new frames t rest p
handed old new room f frames t (max_stream_data_handed id limit step rest) p = recv_alone old new frames t rest p
handed old new room f frames t (max_data_handed limit is due rest) p = recv_alone old new frames t (rest ∙ ap (λ r. record old { recv = r }) (sym (ap (λ (s : PlainStreams). s.recv) rest))) p
handed old new room f frames t (max_streams_handed dir n is due rest) p = announced_alone old new frames t (is_two_way dir) _ rest refl refl p

all_handed : (old new : PlainStreams) (fs : List SentFrame) (frames : List StreamFrame) (t : List Act) → AreHanded old new fs → KeepsWithin old frames t → KeepsWithin new frames t
all_handed old new fs frames t (none_handed _) p = p
all_handed old new fs frames t (more_handed room _ mid _ f rest first behind) p = all_handed mid new rest frames t behind (handed old mid room f frames t first p)

pub taken_back : (old new : PlainStreams) (frames : List StreamFrame) (t : List Act) → AreTakenBack old new → KeepsWithin old frames t → KeepsWithin new frames t
taken_back old new frames t b p = lost_all b.mid new frames t (reverse b.frames) b.lost (all_handed old b.mid b.frames frames t b.handed p)

pub all_written : (room : ℕ) (old new : PlainStreams) (frames : List StreamFrame) (t : List Act) (fs : List SentFrame) (bytes : List ℕ) → AreWritten room old new fs bytes → KeepsWithin old frames t → KeepsWithin new frames t
all_written room old new frames t fs bytes (none_written _ _) p = p
all_written room old new frames t fs bytes (more_written _ _ mid _ f rest more first fits back behind) p = all_written _ mid new frames t rest more behind (handed old mid room f frames t first p)
