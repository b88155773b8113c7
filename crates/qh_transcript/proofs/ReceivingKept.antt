-- Frames that are handed over, lost or acknowledged leave of the receiving halves what came and what was given.
use Rattle.std.proofs.Common.{◌≡◌, ◌⊎◌, ℕ, List, ◌++◌, Some, refl, sym, ap, ◌∙◌, inl, inr, Bool, reverse}
use Rattle.std.proofs.lemmas.Bool.Decides.{eqb_tells}
use Rattle.qh_half.specs.Recv.{PlainRecv}
use Rattle.qh_halves.specs.declared.counts.StreamCounts.{StreamCounts}
use Rattle.qh_halves.specs.RecvHalves.{PlainRecvHalves, recv_at, recv_half_in, IsRecvStep, IsRecvAbsent}
use Rattle.qh_streams.specs.declared.frames.SentFrame.{SentFrame}
use Rattle.qh_streams.specs.Streams.{PlainStreams, counts_of, with_counts, is_two_way, is_live, counted_closed, was_opened, finished_events, IsHandedOver, IsLostFrame, IsAckedFrame, AreHanded, AreTakenBack, AreWritten, AreLost, AreAcked}
use Rattle.qh_streams.specs.Streams.IsHandedOver.{stream as stream_handed, reset as reset_handed, stop as stop_handed, max_stream_data as max_stream_data_handed, max_data as max_data_handed, max_streams as max_streams_handed}
use Rattle.qh_streams.specs.Streams.IsLostFrame.{stream as stream_lost, reset as reset_lost, stop as stop_lost, max_stream_data as max_stream_data_lost, max_data as max_data_lost, max_streams as max_streams_lost}
use Rattle.qh_streams.specs.Streams.IsAckedFrame.{stream as stream_acked, reset as reset_acked, stop as stop_acked, max_stream_data as max_stream_data_acked, max_data as max_data_acked, max_streams as max_streams_acked}
use Rattle.qh_streams.specs.Streams.AreHanded.{none as none_handed, more as more_handed}
use Rattle.qh_streams.specs.Streams.AreWritten.{none as none_written, more as more_written}
use Rattle.qh_streams.specs.Streams.AreLost.{none as none_lost, more as more_lost}
use Rattle.qh_streams.specs.Streams.AreAcked.{none as none_acked, more as more_acked}
use Rattle.qh_streams.proofs.StreamsSettled.{counts_alone, closed_alone}
use Rattle.qh_streams.proofs.StreamsTracked.{Goes, IsBefore, recv_or_absent}
use Rattle.qh_transcript.proofs.ReceivingSteps.{counts_opened, closed_opened}

-- the half is the same but for its limit and the frames that it has to send
pub record IsSameHalf (r next : PlainRecv) : Type 0 where
  pub bytes : next.assembler ≡ r.assembler
  pub state : next.state ≡ r.state
  pub order : next.is_unordered ≡ r.is_unordered
  pub stopped : next.is_stopped ≡ r.is_stopped
  pub given : next.is_given ≡ r.is_given

pub same_half : (r : PlainRecv) → IsSameHalf r r
same_half r = record { bytes = refl; state = refl; order = refl; stopped = refl; given = refl }

same_then : (a b c : PlainRecv) → IsSameHalf a b → IsSameHalf b c → IsSameHalf a c
same_then a b c p q = record {
  bytes = q.bytes ∙ p.bytes;
  state = q.state ∙ p.state;
  order = q.order ∙ p.order;
  stopped = q.stopped ∙ p.stopped;
  given = q.given ∙ p.given;
}

-- Each half was there, and is the same; and the same streams were opened.
pub record KeepsHalves (old new : PlainStreams) : Type 0 where
  pub halves : (k : ℕ) (next : PlainRecv) → recv_at new.recv k ≡ Some next → IsBefore IsSameHalf (recv_at old.recv) k next
  pub opened : (k : ℕ) → was_opened new k ≡ was_opened old k

kept_then : (a b c : PlainStreams) → KeepsHalves a b → KeepsHalves b c → KeepsHalves a c
kept_then a b c p q = record {
  halves = λ k next is. let second = q.halves k next is in let first = p.halves k second.half second.was in
      record { half = first.half; was = first.was; step = same_then first.half second.half next first.step second.step };
  opened = λ k. q.opened k ∙ p.opened k;
}

-- ---- the halves stay, or one goes on

pub halves_kept : (old new : PlainStreams) → new.recv.halves ≡ old.recv.halves → ((k : ℕ) → was_opened new k ≡ was_opened old k) → KeepsHalves old new
halves_kept old new halves_are opened = record {
  halves = λ k next is. record { half = next; was = ap (λ (hs : List (ℕ × PlainRecv)). recv_half_in hs k) (sym halves_are) ∙ is; step = same_half next };
  opened = opened;
}

-- all but the halves and their events stays
apart_kept : (old new s : PlainStreams) → new ≡ s → s.recv.halves ≡ old.recv.halves → ((k : ℕ) → was_opened s k ≡ was_opened old k) → KeepsHalves old new
apart_kept old new s e halves_are opened = halves_kept old new (ap (λ (s : PlainStreams). s.recv.halves) e ∙ halves_are) (λ k. ap (λ (s : PlainStreams). was_opened s k) e ∙ opened k)

half_kept : {P : PlainRecv → PlainRecv → Type 0} {id n : ℕ} (old new : PlainStreams) → IsRecvStep P old.recv new.recv id n ⊎ IsRecvAbsent old.recv new.recv id
    → ((r next : PlainRecv) → P r next → IsSameHalf r next) → new ≡ record old { recv = new.recv } → KeepsHalves old new
half_kept {P = P} {id = id} old new step same e = record {
  halves = λ k next is. elim (eqb_tells k id) [
    | inl here ↦ rw here.1 (let b = goes.here k next here.0 is in record { half = b.half; was = b.was; step = same b.half next b.step })
    | inr apart ↦ record { half = next; was = sym (goes.apart k apart.0) ∙ is; step = same_half next }
  ];
  opened = λ k. ap (λ (s : PlainStreams). was_opened s k) e;
} where
  goes : Goes P (recv_at old.recv) (recv_at new.recv) id
  goes = recv_or_absent step

pub counts_kept : (old new s : PlainStreams) (two_way : Bool) (c : StreamCounts) → new ≡ with_counts s two_way c → s.recv.halves ≡ old.recv.halves → ((k : ℕ) → was_opened s k ≡ was_opened old k)
    → c.opened ≡ (counts_of s two_way).opened → c.arrived ≡ (counts_of s two_way).arrived → KeepsHalves old new
counts_kept old new s two_way c e halves_are opened_is opened arrived =
    apart_kept old new (with_counts s two_way c) e (ap (λ (r : PlainRecvHalves). r.halves) (counts_alone s two_way c).recv_is ∙ halves_are) (λ k. counts_opened s two_way c opened arrived k ∙ opened_is k)

closed_kept : (old new s : PlainStreams) (id : ℕ) (live : Bool) → new ≡ counted_closed s id live → s.recv.halves ≡ old.recv.halves → ((k : ℕ) → was_opened s k ≡ was_opened old k) → KeepsHalves old new
closed_kept old new s id live e halves_are opened =
    apart_kept old new (counted_closed s id live) e (ap (λ (r : PlainRecvHalves). r.halves) (closed_alone s id live).recv_is ∙ halves_are) (λ k. closed_opened s id live k ∙ opened k)

-- ---- frames that are handed over

pub handed : (room : ℕ) (old new : PlainStreams) (f : SentFrame) → IsHandedOver old new room f → KeepsHalves old new
handed room old new f (stream_handed id piece next e) = apart_kept old new _ e refl (λ k. refl)
handed room old new f (reset_handed id frame next e) = apart_kept old new _ e refl (λ k. refl)
handed room old new f (stop_handed id code step e) = half_kept old new (inl step) (λ r next p. rw p.2 (record { bytes = refl; state = refl; order = refl; stopped = refl; given = refl })) e
handed room old new f (max_stream_data_handed id limit step e) = half_kept old new (inl step) (λ r next p. rw p.2 (record { bytes = refl; state = refl; order = refl; stopped = refl; given = refl })) e
handed room old new f (max_data_handed limit is due e) = apart_kept old new _ e refl (λ k. refl)
handed room old new f (max_streams_handed dir n is due e) = counts_kept old new old (is_two_way dir) _ e refl (λ k. refl) refl refl

pub written : (room : ℕ) (old new : PlainStreams) (fs : List SentFrame) (bytes : List ℕ) → AreWritten room old new fs bytes → KeepsHalves old new
written room old new fs bytes (none_written _ _) = halves_kept old old refl (λ k. refl)
written room old new fs bytes (more_written _ _ mid _ f rest more first fits back others) = kept_then old mid new (handed room old mid f first) (written _ mid new rest more others)

-- ---- frames that are lost or acknowledged

pub again : (old new : PlainStreams) (f : SentFrame) → IsLostFrame old new f → KeepsHalves old new
again old new f (stream_lost id piece step e) = apart_kept old new _ e refl (λ k. refl)
again old new f (reset_lost id frame step e) = apart_kept old new _ e refl (λ k. refl)
again old new f (stop_lost id code step e) = half_kept old new step (λ r next p. rw p (record { bytes = refl; state = refl; order = refl; stopped = refl; given = refl })) e
again old new f (max_data_lost limit e) = apart_kept old new _ e refl (λ k. refl)
again old new f (max_stream_data_lost id limit step e) = half_kept old new step (λ r next p. rw p (record { bytes = refl; state = refl; order = refl; stopped = refl; given = refl })) e
again old new f (max_streams_lost dir n e) = counts_kept old new old (is_two_way dir) _ e refl (λ k. refl) refl refl

pub all_lost : (old new : PlainStreams) (fs : List SentFrame) → AreLost old new fs → KeepsHalves old new
all_lost old new fs (none_lost _) = halves_kept old old refl (λ k. refl)
all_lost old new fs (more_lost _ mid _ front f before last) = kept_then old mid new (all_lost old mid front before) (again mid new f last)

all_handed : (old new : PlainStreams) (fs : List SentFrame) → AreHanded old new fs → KeepsHalves old new
all_handed old new fs (none_handed _) = halves_kept old old refl (λ k. refl)
all_handed old new fs (more_handed room _ mid _ f rest first behind) = kept_then old mid new (handed room old mid f first) (all_handed mid new rest behind)

pub taken_back : (old new : PlainStreams) → AreTakenBack old new → KeepsHalves old new
taken_back old new b = kept_then old b.mid new (all_handed old b.mid b.frames b.handed) (all_lost b.mid new (reverse b.frames) b.lost)

pub acked : (old new : PlainStreams) (f : SentFrame) → IsAckedFrame old new f → KeepsHalves old new
acked old new f (stream_acked id piece finished settled e) = closed_kept old new (record old { send = new.send; events = old.events ++ finished_events finished id }) id.0 (is_live old id.0) e refl (λ k. refl)
acked old new f (reset_acked id frame gone settled e) = closed_kept old new (record old { send = new.send }) id.0 (is_live old id.0) e refl (λ k. refl)
acked old new f (stop_acked id code step e) = half_kept old new step (λ r next p. rw p (record { bytes = refl; state = refl; order = refl; stopped = refl; given = refl })) e
acked old new f (max_data_acked limit e) = apart_kept old new _ e refl (λ k. refl)
acked old new f (max_stream_data_acked id limit step e) = half_kept old new step (λ r next p. rw p (record { bytes = refl; state = refl; order = refl; stopped = refl; given = refl })) e
acked old new f (max_streams_acked dir n e) = counts_kept old new old (is_two_way dir) _ e refl (λ k. refl) refl refl

pub all_acked : (old new : PlainStreams) (fs : List SentFrame) → AreAcked old new fs → KeepsHalves old new
all_acked old new fs (none_acked _) = halves_kept old old refl (λ k. refl)
all_acked old new fs (more_acked _ mid _ front f before last) = kept_then old mid new (all_acked old mid front before) (acked mid new f last)
