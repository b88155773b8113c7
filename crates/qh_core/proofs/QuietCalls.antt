-- Calls on the streams that change no half.
use Rattle.std.proofs.Common.{◌≡◌, ℕ, ◌<◌, ◌==◌, Bool, true, false, List, [], Option, Some, None, IfSome, if◌then◌else◌, refl, sym, ap, subst, ◌∙◌}
use Rattle.qh_base.specs.declared.stream_id.StreamId.{StreamId}
use Rattle.qh_core.proofs.StreamsGo.{IsCall, behind}
use Rattle.qh_half.specs.declared.fault.WriteFault.{WriteFault}
use Rattle.qh_half.specs.declared.fault.WriteFault.TheVariants.{Blocked, Stopped, ClosedStream, Memory}
use Rattle.qh_halves.specs.Counts.{other_side}
use Rattle.qh_halves.specs.SendHalves.{write_limit}
use Rattle.qh_halves.specs.declared.counts.StreamCounts.{StreamCounts}
use Rattle.qh_spec.specs.StreamId.{stream_id}
use Rattle.qh_spec.specs.declared.sides.Dir.{Dir}
use Rattle.qh_streams.proofs.StreamsTracked.{keeps_tracked}
use Rattle.qh_streams.proofs.StreamsTrackedCalls.{others_keep}
use Rattle.qh_streams.proofs.StreamsTrackedSteps.{counts_set}
use Rattle.qh_streams.specs.Streams.{PlainStreams, IsPolled, KeepsOut, counts_of, is_two_way, still_blocked, was_opened, with_accepted, with_blocked, with_counts}
use Rattle.qh_streams.specs.Streams.IsPolled.{writable, queued, none as nothing}
use Rattle.qh_streams.specs.Tracked.{SameCounts}
use Rattle.qh_streams.specs.declared.frames.StreamEvent.{StreamEvent}
use Rattle.qh_transcript.proofs.ReceivingSteps.{counts_opened, same_stand}
use Rattle.qh_transcript.proofs.SendingSteps.{kept}
use Rattle.qh_transcript.proofs.WithinFrames.{counts_set as counts_within}
use Rattle.qh_transcript.proofs.WithinKept.{KeepsCounts, KeepsShared, stays}
use Rattle.qh_transcript.specs.Receiving.{StandsIn}
use Rattle.qh_transcript.specs.Sending.{StandsOut}
use Rattle.qh_transcript.specs.Within.{KeepsWithin}

-- the halves stay, and all that the laws of the streams speak of beside them
record IsQuiet (old new : PlainStreams) : Type 0 where
  counts : KeepsCounts old new
  opened : (id : ℕ) → was_opened new id ≡ was_opened old id
  send : new.send.halves ≡ old.send.halves
  shared : KeepsShared old.send new.send
  recv : new.recv.halves ≡ old.recv.halves
  limit : new.recv.announced ≡ old.recv.announced
  announced : SameCounts old new

quiet : (old new : PlainStreams) → IsQuiet old new → KeepsOut old new → IsCall old new []
quiet old new q keeps = record {
  go = record {
    side = q.counts.side;
    peer = q.counts.peer;
    tracked = λ frames. keeps_tracked (others_keep old new q.send q.recv q.limit q.announced);
    keeps = keeps;
    out = λ sent t p. behind (λ t. StandsOut new sent t) t (kept old new sent t q.send q.opened p);
    into = λ came t p. behind (λ t. StandsIn new came t) t (same_stand old new came t q.recv q.opened p);
    within = λ sent given t _ p. behind (λ t. KeepsWithin new given t) t
        (stays old new given t q.counts q.shared (λ k h is. record { half = h; was = rw q.send at is; step = record { taken = refl; limit = refl } }) p);
    handed = record { into = refl; out = refl };
  };
  still = λ none. record { none = refl; no_half = record { send = q.send ∙ none.send; recv = q.recv ∙ none.recv } };
}

-- ---- what changes beside the halves

counts_stay : (s : PlainStreams) → KeepsCounts s s
counts_stay s = record { side = refl; peer = refl; opened = λ b. refl; max_opened = λ b. refl }

-- what is told, which writers wait, and the windows
rest_quiet : (old new : PlainStreams) (blocked : List ℕ) (events : List StreamEvent) (send_window receive_window : ℕ)
    → new ≡ record old { blocked = blocked; events = events; send = record old.send { send_window = send_window }; recv = record old.recv { receive_window = receive_window } } → IsQuiet old new
rest_quiet old new blocked events send_window receive_window e = subst (λ (s : PlainStreams). IsQuiet old s) (sym e) (record {
  counts = record { side = refl; peer = refl; opened = λ b. refl; max_opened = λ b. refl };
  opened = λ id. refl;
  send = refl;
  shared = record { max_data = refl; data_sent = refl };
  recv = refl;
  limit = refl;
  announced = λ dir. refl;
})

told_quiet : (old new : PlainStreams) (blocked : List ℕ) (events : List StreamEvent) → new ≡ record old { blocked = blocked; events = events } → IsQuiet old new
told_quiet old new blocked events e = rest_quiet old new blocked events old.send.send_window old.recv.receive_window e

polled_quiet : (old new : PlainStreams) (o : Option StreamEvent) → IsPolled old new o → IsQuiet old new
polled_quiet old new _ (writable id front rest open_now blocked_is shut on e) = told_quiet old new rest old.events e
polled_quiet old new _ (queued event events left events_are e) = told_quiet old new (still_blocked old) events e
polled_quiet old new _ (nothing left empty e) = told_quiet old new (still_blocked old) old.events e

pub polled_call : (old new : PlainStreams) (o : Option StreamEvent) → IsPolled old new o → KeepsOut old new → IsCall old new []
polled_call old new o polled keeps = quiet old new (polled_quiet old new o polled) keeps

pub same_call : (old new : PlainStreams) → new ≡ old → KeepsOut old new → IsCall old new []
same_call old new e keeps = quiet old new (told_quiet old new old.blocked old.events e) keeps

maybe_blocked : (old new : PlainStreams) (b : Bool) (blocked : List ℕ) → new ≡ (if b then record old { blocked = blocked } else old) → IsQuiet old new
maybe_blocked old new true blocked e = told_quiet old new blocked old.events e
maybe_blocked old new false blocked e = told_quiet old new old.blocked old.events e

blocked_quiet : (old new : PlainStreams) (id : ℕ) (e : WriteFault) → new ≡ with_blocked old id e → IsQuiet old new
blocked_quiet old new id Blocked e = maybe_blocked old new (write_limit old.send == 0) _ e
blocked_quiet old new id (Stopped code) e = told_quiet old new old.blocked old.events e
blocked_quiet old new id ClosedStream e = told_quiet old new old.blocked old.events e
blocked_quiet old new id Memory e = told_quiet old new old.blocked old.events e

pub blocked_call : (old new : PlainStreams) (id : ℕ) (e : WriteFault) → new ≡ with_blocked old id e → KeepsOut old new → IsCall old new []
blocked_call old new id e is keeps = quiet old new (blocked_quiet old new id e is) keeps

-- ---- counts of streams

pub send_set : (s : PlainStreams) (two_way : Bool) (c : StreamCounts) → (with_counts s two_way c).send ≡ s.send
send_set s true c = refl
send_set s false c = refl

recv_set : (s : PlainStreams) (two_way : Bool) (c : StreamCounts) → (with_counts s two_way c).recv ≡ s.recv
recv_set s true c = refl
recv_set s false c = refl

counts_quiet : (s : PlainStreams) (two_way : Bool) (c : StreamCounts) → c.opened ≡ (counts_of s two_way).opened → c.arrived ≡ (counts_of s two_way).arrived
    → c.max_opened ≡ (counts_of s two_way).max_opened → c.announced ≡ (counts_of s two_way).announced → IsQuiet s (with_counts s two_way c)
counts_quiet s two_way c opened arrived max_opened announced = record {
  counts = counts_within s (with_counts s two_way c) s two_way c refl (counts_stay s) opened max_opened;
  opened = counts_opened s two_way c opened arrived;
  send = ap (λ h. h.halves) (send_set s two_way c);
  shared = record { max_data = ap (λ h. h.max_data) (send_set s two_way c); data_sent = ap (λ h. h.data_sent) (send_set s two_way c) };
  recv = ap (λ h. h.halves) (recv_set s two_way c);
  limit = ap (λ h. h.announced) (recv_set s two_way c);
  announced = counts_set s two_way c announced;
}

pub concurrent_call : (old new : PlainStreams) (two_way : Bool) (count : ℕ) → new ≡ with_counts old two_way (record (counts_of old two_way) { max_concurrent = count }) → KeepsOut old new → IsCall old new []
concurrent_call old new two_way count e keeps = quiet old new (subst (λ (s : PlainStreams). IsQuiet old s) (sym e) (counts_quiet old two_way _ refl refl refl refl)) keeps

pub accepted_call : (old new : PlainStreams) (dir : Dir) (o : Option StreamId)
    → IfSome o (λ id. (id.0 ≡ stream_id (other_side old.side) dir (counts_of old (is_two_way dir)).accepted) × ((counts_of old (is_two_way dir)).accepted < (counts_of old (is_two_way dir)).arrived)
    × (new ≡ with_counts old (is_two_way dir) (with_accepted (counts_of old (is_two_way dir)))))
    → (o ≡ None → ((counts_of old (is_two_way dir)).accepted ≡ (counts_of old (is_two_way dir)).arrived) × (new ≡ old)) → KeepsOut old new → IsCall old new []
accepted_call old new dir (Some id) some none keeps = quiet old new (subst (λ (s : PlainStreams). IsQuiet old s) (sym some.2) (counts_quiet old (is_two_way dir) _ refl refl refl refl)) keeps
accepted_call old new dir None some none keeps = same_call old new (none refl).1 keeps

-- ---- windows

pub send_window_call : (old new : PlainStreams) (bytes : ℕ) → new ≡ record old { send = record old.send { send_window = bytes } } → KeepsOut old new → IsCall old new []
send_window_call old new bytes e keeps = quiet old new (rest_quiet old new old.blocked old.events bytes old.recv.receive_window e) keeps

pub receive_window_call : (old new : PlainStreams) (bytes : ℕ) → new ≡ record old { recv = record old.recv { receive_window = bytes } } → KeepsOut old new → IsCall old new []
receive_window_call old new bytes e keeps = quiet old new (rest_quiet old new old.blocked old.events old.send.send_window bytes e) keeps
