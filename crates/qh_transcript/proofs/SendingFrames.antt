-- Frames that are handed over, lost or acknowledged: the streams stand to what was written as before, and what a STREAM frame
-- carries was written.
use Rattle.std.proofs.Common.{◌≡◌, ℕ, ◌-◌, ◌==◌, nat_lt, Bool, true, false, ◌&&◌, not, List, [], ◌∷◌, ◌++◌, Option, Some, None, if◌then◌else◌, refl, sym, ap, subst, ◌∙◌, inl, inr, append_assoc, reverse}
use Rattle.std.proofs.lemmas.Bool.{cases_Bool, eqb-true, eq-eqb}
use Rattle.std.proofs.lemmas.List.{append-nil}
use Rattle.qh_spec.specs.declared.sides.Dir.{Dir}
use Rattle.qh_spec.specs.declared.sides.Dir.TheVariants.{Bi, Uni}
use Rattle.qh_spec.specs.FrameViews.{stream_of}
use Rattle.qh_spec.specs.QuicFrame.{StreamFrame as Run}
use Rattle.qh_spec.specs.QuicFrames.{QuicFrame, Num}
use Rattle.qh_spec.specs.Transcript.{Act, written, finished}
use Rattle.qh_spec.proofs.Members.{in_left, in_more}
use Rattle.qh_frame.specs.FrameBytes.{frame_bytes}
use Rattle.qh_frame.specs.Plain.{frame, by_dir}
use Rattle.qh_frame.specs.WrittenForm.{stream_form}
use Rattle.qh_half.specs.Send.{PlainSend}
use Rattle.qh_halves.specs.declared.counts.StreamCounts.{StreamCounts}
use Rattle.qh_halves.specs.Counts.{is_own, is_bi, index_of}
use Rattle.qh_halves.specs.SendHalves.{PlainSendHalves, send_at, IsStep}
use Rattle.qh_streams.specs.declared.frames.SentFrame.{SentFrame}
use Rattle.qh_streams.specs.declared.frames.SentFrame.TheVariants as sent
use Rattle.qh_streams.specs.Streams.{PlainStreams, counts_of, with_counts, was_opened, is_two_way, is_live, counted_closed, finished_events, max_frame_header, half_bytes, written_frame, IsHandedOver, IsLostFrame, IsAckedFrame, AreHanded, AreTakenBack, AreWritten, AreLost, AreAcked}
use Rattle.qh_streams.specs.Streams.IsHandedOver.{stream as stream_handed, reset as reset_handed, stop as stop_handed, max_stream_data as max_stream_data_handed, max_data as max_data_handed, max_streams as max_streams_handed}
use Rattle.qh_streams.specs.Streams.IsLostFrame.{stream as stream_lost, reset as reset_lost, stop as stop_lost, max_stream_data as max_stream_data_lost, max_data as max_data_lost, max_streams as max_streams_lost}
use Rattle.qh_streams.specs.Streams.IsAckedFrame.{stream as stream_acked, reset as reset_acked, stop as stop_acked, max_stream_data as max_stream_data_acked, max_data as max_data_acked, max_streams as max_streams_acked}
use Rattle.qh_streams.specs.Streams.AreHanded.{none as none_handed, more as more_handed}
use Rattle.qh_streams.specs.Streams.AreWritten.{none as none_written, more as more_written}
use Rattle.qh_streams.specs.Streams.AreLost.{none as none_lost, more as more_lost}
use Rattle.qh_streams.specs.Streams.AreAcked.{none as none_acked, more as more_acked}
use Rattle.qh_streams.proofs.StreamsSettled.{counts_alone}
use Rattle.qh_streams.proofs.StreamsTracked.{step_goes, step_or_absent, settled_goes}
use Rattle.qh_transcript.specs.Sending.{IsRunOf, StandsOut, StandsBehind, some_run, runs_of}
use Rattle.qh_transcript.proofs.SendingHalves.{gives_piece_keeps, gives_reset_keeps, lost_keeps, acked_keeps, reset_lost_keeps, reset_acked_keeps}
use Rattle.qh_transcript.proofs.SendingPieces.{piece_live, piece_run}
use Rattle.qh_transcript.proofs.SendingSteps.{fewer, kept, changed, same_opened}

-- ---- which streams were opened, where counts change

at_counts : (s : PlainStreams) (two_way own b : Bool) (c : StreamCounts) → c.opened ≡ (counts_of s two_way).opened → c.arrived ≡ (counts_of s two_way).arrived
    → (if own then (counts_of (with_counts s two_way c) b).opened else (counts_of (with_counts s two_way c) b).arrived) ≡ (if own then (counts_of s b).opened else (counts_of s b).arrived)
at_counts s true true true c opened arrived = opened
at_counts s true false true c opened arrived = arrived
at_counts s true true false c opened arrived = refl
at_counts s true false false c opened arrived = refl
at_counts s false true false c opened arrived = opened
at_counts s false false false c opened arrived = arrived
at_counts s false true true c opened arrived = refl
at_counts s false false true c opened arrived = refl

pub side_set : (s : PlainStreams) (two_way : Bool) (c : StreamCounts) → (with_counts s two_way c).side ≡ s.side
side_set s true c = refl
side_set s false c = refl

pub counts_opened : (s : PlainStreams) (two_way : Bool) (c : StreamCounts) → c.opened ≡ (counts_of s two_way).opened → c.arrived ≡ (counts_of s two_way).arrived
    → (k : ℕ) → was_opened (with_counts s two_way c) k ≡ was_opened s k
counts_opened s two_way c opened arrived k = rw (side_set s two_way c) (ap (nat_lt (index_of k)) (at_counts s two_way (is_own s.side k) (is_bi k) c opened arrived))

pub closed_opened : (s : PlainStreams) (id : ℕ) (was_live : Bool) (k : ℕ) → was_opened (counted_closed s id was_live) k ≡ was_opened s k
closed_opened s id was_live k = elim (cases_Bool (not (is_own s.side id) && (was_live && not (is_live s id)))) [
  | inl e ↦ rw e (counts_opened s (is_bi id) _ refl refl k)
  | inr e ↦ rw e refl
]

pub counts_kept : (old new : PlainStreams) (sent : List Run) (t : List Act) (s : PlainStreams) (two_way : Bool) (c : StreamCounts) → new ≡ with_counts s two_way c
    → s.send.halves ≡ old.send.halves → ((k : ℕ) → was_opened s k ≡ was_opened old k)
    → c.opened ≡ (counts_of s two_way).opened → c.arrived ≡ (counts_of s two_way).arrived → StandsOut old sent t → StandsOut new sent t
counts_kept old new sent t s two_way c rest send_is opened_is opened arrived p =
    kept old new sent t (ap (λ (s : PlainStreams). s.send.halves) rest ∙ ap (λ (h : PlainSendHalves). h.halves) (counts_alone s two_way c).send_is ∙ send_is)
    (λ k. ap (λ (s : PlainStreams). was_opened s k) rest ∙ counts_opened s two_way c opened arrived k ∙ opened_is k) p

-- ---- frames that are lost or acknowledged

pub again : (old new : PlainStreams) (out : List Run) (t : List Act) (f : SentFrame) → IsLostFrame old new f → StandsOut old out t → StandsOut new out t
again old new out t f (stream_lost id piece step rest) p = changed old new out t (step_or_absent step) (same_opened old new rest) (lost_keeps piece) p
again old new out t f (reset_lost id frame step rest) p = changed old new out t (step_or_absent step) (same_opened old new rest) reset_lost_keeps p
again old new out t f (stop_lost id code step rest) p = kept old new out t (ap (λ (s : PlainStreams). s.send.halves) rest) (λ k. ap (λ (s : PlainStreams). was_opened s k) rest) p
again old new out t f (max_data_lost limit rest) p = kept old new out t (ap (λ (s : PlainStreams). s.send.halves) rest) (λ k. ap (λ (s : PlainStreams). was_opened s k) rest) p
again old new out t f (max_stream_data_lost id limit step rest) p = kept old new out t (ap (λ (s : PlainStreams). s.send.halves) rest) (λ k. ap (λ (s : PlainStreams). was_opened s k) rest) p
again old new out t f (max_streams_lost dir n rest) p = counts_kept old new out t old (is_two_way dir) _ rest refl (λ k. refl) refl refl p

pub acked : (old new : PlainStreams) (out : List Run) (t : List Act) (f : SentFrame) → IsAckedFrame old new f → StandsOut old out t → StandsOut new out t
acked old new out t f (stream_acked id piece finished step rest) p =
    let mid : PlainStreams = record old { send = new.send; events = old.events ++ finished_events finished id } in
    changed old new out t (settled_goes step) (λ k. ap (λ (s : PlainStreams). was_opened s k) rest ∙ closed_opened mid id.0 (is_live old id.0) k) (acked_keeps piece) p
acked old new out t f (reset_acked id frame gone step rest) p =
    let mid : PlainStreams = record old { send = new.send } in
    changed old new out t (settled_goes step) (λ k. ap (λ (s : PlainStreams). was_opened s k) rest ∙ closed_opened mid id.0 (is_live old id.0) k) reset_acked_keeps p
acked old new out t f (stop_acked id code step rest) p = kept old new out t (ap (λ (s : PlainStreams). s.send.halves) rest) (λ k. ap (λ (s : PlainStreams). was_opened s k) rest) p
acked old new out t f (max_data_acked limit rest) p = kept old new out t (ap (λ (s : PlainStreams). s.send.halves) rest) (λ k. ap (λ (s : PlainStreams). was_opened s k) rest) p
acked old new out t f (max_stream_data_acked id limit step rest) p = kept old new out t (ap (λ (s : PlainStreams). s.send.halves) rest) (λ k. ap (λ (s : PlainStreams). was_opened s k) rest) p
acked old new out t f (max_streams_acked dir n rest) p = counts_kept old new out t old (is_two_way dir) _ rest refl (λ k. refl) refl refl p

pub lost_all : (old new : PlainStreams) (out : List Run) (t : List Act) (fs : List SentFrame) → AreLost old new fs → StandsOut old out t → StandsOut new out t
lost_all old new out t fs (none_lost _) p = p
lost_all old new out t fs (more_lost _ mid _ front f before lost) p = again mid new out t f lost (lost_all old mid out t front before p)

pub acked_all : (old new : PlainStreams) (out : List Run) (t : List Act) (fs : List SentFrame) → AreAcked old new fs → StandsOut old out t → StandsOut new out t
acked_all old new out t fs (none_acked _) p = p
acked_all old new out t fs (more_acked _ mid _ front f before last) p = acked mid new out t f last (acked_all old mid out t front before p)

-- ---- frames that are handed over

more_run : (s : PlainStreams) (out : List Run) (t : List Act) (run : Run) → StandsOut s out t → IsRunOf (written t run.id) (finished t run.id) run → StandsOut s (out ++ run ∷ []) t
more_run s out t run p q = record {
  halves = p.halves;
  runs = λ r is. elim (in_more r run out is) [
    | inl before ↦ p.runs r before
    | inr same ↦ subst (λ (x : Run). IsRunOf (written t x.id) (finished t x.id) x) same q
  ];
  unopened = p.unopened;
}

-- a frame is seen as this run, or as none
seen_as : (s : PlainStreams) (out : List Run) (t : List Act) (f : QuicFrame) (o : Option Run) → stream_of f ≡ o → StandsOut s (out ++ some_run o) t → StandsOut s (out ++ some_run (stream_of f)) t
seen_as s out t f o view p = rw view p

no_run : (s : PlainStreams) (out : List Run) (t : List Act) (f : QuicFrame) → stream_of f ≡ None → StandsOut s out t → StandsOut s (out ++ some_run (stream_of f)) t
no_run s out t f view p = seen_as s out t f None view (rw (append-nil out) p)

pub form_carries : (zero fin : Bool) (id offset : ℕ) (payload : List ℕ) → (offset == 0) ≡ zero
    → stream_of (stream_form (record { id = id; offset = offset; payload = payload; fin = fin })) ≡ Some (record { id = id; offset = offset; payload = payload; fin = fin })
form_carries true true id offset payload e = rw e (ap (λ (o : ℕ). Some (record { id = id; offset = o; payload = payload; fin = true })) (sym (eqb-true offset 0 e)))
form_carries true false id offset payload e = rw e (ap (λ (o : ℕ). Some (record { id = id; offset = o; payload = payload; fin = false })) (sym (eqb-true offset 0 e)))
form_carries false true id offset payload e = rw e refl
form_carries false false id offset payload e = rw e refl

no_stream : (dir : Dir) (n : ℕ) → stream_of (frame (by_dir dir 18 19) (Num n ∷ [])) ≡ None
no_stream Bi n = refl
no_stream Uni n = refl

step_next : {P : PlainSend → PlainSend → Type 0} {old new : PlainSendHalves} {id n : ℕ} (s : IsStep P old new id n) → send_at new id ≡ Some s.next
step_next {old = old} {id = id} s = s.is.halves_are id ∙ ap (λ (b : Bool). if b then Some s.next else send_at old id) (eq-eqb id id refl)

pub handed : (old new : PlainStreams) (room : ℕ) (f : SentFrame) (out : List Run) (t : List Act) → IsHandedOver old new room f → StandsOut old out t
    → StandsOut new (out ++ some_run (stream_of (written_frame new f))) t
handed old new room f out t (stream_handed id piece next rest) p =
    let s = next.step in
    let live = piece_live (room - max_frame_header) piece s.half s.next s.step in
    let run = piece_run id.0 (written t id.0) (finished t id.0) s.half s.next (p.halves id.0 s.half s.was live) (room - max_frame_header) piece s.step in
    let view = form_carries (piece.offsets.start == 0) piece.fin id.0 piece.offsets.start (half_bytes (send_at new.send id.0) piece) refl
    ∙ ap (λ (o : Option PlainSend). Some (record { id = id.0; offset = piece.offsets.start; payload = half_bytes o piece; fin = piece.fin })) (step_next s) in
    seen_as new out t (written_frame new (sent.Stream id piece)) _ view (more_run new out t _ (changed old new out t (step_goes s) (same_opened old new rest) (gives_piece_keeps (room - max_frame_header) piece) p) run)
handed old new room f out t (reset_handed id frame next rest) p =
    no_run new out t (written_frame new (sent.ResetStream id frame)) refl (changed old new out t (step_goes next.step) (same_opened old new rest) (gives_reset_keeps frame) p)
handed old new room f out t (stop_handed id code step rest) p =
    no_run new out t (written_frame new (sent.StopSending id code)) refl (kept old new out t (ap (λ (s : PlainStreams). s.send.halves) rest) (λ k. ap (λ (s : PlainStreams). was_opened s k) rest) p)
handed old new room f out t (max_stream_data_handed id limit step rest) p =
    no_run new out t (written_frame new (sent.MaxStreamData id limit)) refl (kept old new out t (ap (λ (s : PlainStreams). s.send.halves) rest) (λ k. ap (λ (s : PlainStreams). was_opened s k) rest) p)
handed old new room f out t (max_data_handed limit is due rest) p =
    no_run new out t (written_frame new (sent.MaxData limit)) refl (kept old new out t (ap (λ (s : PlainStreams). s.send.halves) rest) (λ k. ap (λ (s : PlainStreams). was_opened s k) rest) p)
handed old new room f out t (max_streams_handed dir n is due rest) p =
    no_run new out t (written_frame new (sent.MaxStreams dir n)) (no_stream dir n) (counts_kept old new out t old (is_two_way dir) _ rest refl (λ k. refl) refl refl p)

all_handed : (old new : PlainStreams) (fs : List SentFrame) (out : List Run) (t : List Act) → AreHanded old new fs → StandsOut old out t → StandsOut new out t
all_handed old new fs out t (none_handed _) p = p
all_handed old new fs out t (more_handed room _ mid _ f rest first behind) p =
    let more = some_run (stream_of (written_frame mid f)) in
    all_handed mid new rest out t behind (fewer mid (out ++ more) out t (λ run is. in_left run out more is) (handed old mid room f out t first p))

pub taken_back : (old new : PlainStreams) (out : List Run) (t : List Act) → AreTakenBack old new → StandsOut old out t → StandsOut new out t
taken_back old new out t b p = lost_all b.mid new out t (reverse b.frames) b.lost (all_handed old b.mid b.frames out t b.handed p)

pub all_written : (room : ℕ) (old new : PlainStreams) (out : List Run) (t : List Act) (fs : List SentFrame) (bytes : List ℕ) → AreWritten room old new fs bytes → StandsOut old out t → StandsBehind new out t bytes
all_written room old new out t fs bytes (none_written _ _) p = record { frames = []; bytes_are = refl; read_back = tt; stands = rw (append-nil out) p }
all_written room old new out t fs bytes (more_written _ _ mid _ f rest more first fits back behind) p =
    let one = written_frame mid f in
    let r = all_written _ mid new (out ++ some_run (stream_of one)) t rest more behind (handed old mid room f out t first p) in
    record {
      frames = one ∷ r.frames;
      bytes_are = ap (λ (z : List ℕ). frame_bytes one ++ z) r.bytes_are;
      read_back = (back, r.read_back);
      stands = rw (append_assoc out (some_run (stream_of one)) (runs_of r.frames)) at r.stands;
    }
