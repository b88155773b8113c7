-- A datagram that goes: how the connection stands to all that was done then.
use Rattle.std.proofs.Common.{◌≡◌, ℕ, zero, suc, ◌+◌, ◌-◌, ◌<◌, ◌≤◌, nat_lt, Bool, true, false, List, [], ◌∷◌, ◌++◌, length, Some, None, refl, sym, ap, subst, ◌∙◌, arith, inl, inr}
use Rattle.std.proofs.Math.Seq.{drop-append_seam}
use Rattle.std.proofs.lemmas.Bool.{both_ways, cases_Bool}
use Rattle.std.proofs.lemmas.List.{append-nil, append_cancel_left}
use Rattle.std.specs.Prelude.{slice_get, MatchBool, drop, Ok}
use Rattle.qh_base.specs.declared.connection_error.ConnectionError.TheVariants.{Memory}
use Rattle.qh_base.specs.declared.path.Transmit.{Transmit}
use Rattle.qh_base.specs.declared.time.Moment.{Moment}
use Rattle.qh_core.proofs.Acts.{last_or_before, one_datagram}
use Rattle.qh_core.proofs.ControlFrames.{bare_rest, control_frames, control_resets_nothing, control_silent, of_each, silent_runs}
use Rattle.qh_core.proofs.Followed.{FollowsOf, carried_on, same_end, same_streams, space_follows, stepped}
use Rattle.qh_core.proofs.Handed.{same_in, written_on}
use Rattle.qh_core.proofs.ResetsMade.{below_count, has_reset_type, packet_said}
use Rattle.qh_core.proofs.RunSums.{sum_within}
use Rattle.qh_core.specs.Follows.{Following, HasComing, HasFrame, HasNumber, HasSomething, IsWithinLimits, Reaches, reset_frame, transmit_acts}
use Rattle.qh_core.specs.Follows.Reaches.{run as by_run, reset as by_reset}
use Rattle.qh_core.specs.Inner.{IsConnection, IsSameEnd}
use Rattle.qh_core.specs.Sending.{AreFramesMade, ClosesReadBack, IsDatagramMade, close_frame, datagram_of, overhead}
use Rattle.qh_core.specs.Sending.AreFramesMade.{packet, control, close}
use Rattle.qh_core.specs.declared.config.ConnConfig.{ConnConfig}
use Rattle.qh_core.specs.declared.inner.Inner.{Inner}
use Rattle.qh_core.specs.declared.state.Close.{Close}
use Rattle.qh_core.specs.declared.state.Close.TheVariants.{Application, Connection}
use Rattle.qh_frame.specs.FrameBytes.{frame_bytes}
use Rattle.qh_halves.specs.Counts.{index_of, is_bi, is_own}
use Rattle.qh_history.proofs.Made.{made_stands}
use Rattle.qh_history.proofs.Runs.{handed}
use Rattle.qh_history.proofs.SameEnd as same
use Rattle.qh_history.proofs.WithinLimits as limits
use Rattle.qh_packet.proofs.Packets.{only_content}
use Rattle.qh_packet.specs.Packet.{header_bytes}
use Rattle.qh_recovery.specs.declared.sent_packets.SentPacket.{SentPacket}
use Rattle.qh_space.specs.Sending.{AreElicitingPut, IsPacketMade, may_elicit, with_sent}
use Rattle.qh_space.specs.declared.data_space.DataSpace.{DataSpace}
use Rattle.qh_spec.proofs.FrameLaws.{quic_frames_agree}
use Rattle.qh_spec.proofs.Members.{in_left, in_right, in_split}
use Rattle.qh_spec.proofs.TranscriptLaws.{handed_out-append}
use Rattle.qh_spec.specs.Carried.{HasRun}
use Rattle.qh_spec.specs.FrameViews.{stream_of}
use Rattle.qh_spec.specs.Link.{other}
use Rattle.qh_spec.specs.Lists.{In}
use Rattle.qh_spec.specs.QuicFrame.{StreamFrame as Run}
use Rattle.qh_spec.specs.QuicFrames.{QuicFrame, AreQuicFrames, IsQuicFrame}
use Rattle.qh_spec.specs.Transcript.{Act, HandedOut, finished, handed_out, written}
use Rattle.qh_spec.specs.declared.sides.Side.{Side}
use Rattle.qh_spec.specs.declared.sides.Space.{Space}
use Rattle.qh_spec.specs.declared.sides.Space.TheVariants.{Data}
use Rattle.qh_streams.specs.Streams.{PlainStreams, was_opened}
use Rattle.qh_streams.specs.declared.frames.SentFrame.{SentFrame}
use Rattle.qh_streams.specs.declared.frames.StreamFrame.{StreamFrame}
use Rattle.qh_transcript.proofs.ReceivingLists.{none_some, others_stand}
use Rattle.qh_transcript.proofs.SendingSteps as step
use Rattle.qh_transcript.proofs.WithinKept as kept
use Rattle.qh_transcript.specs.Receiving.{ReadNothing}
use Rattle.qh_transcript.specs.Sending.{IsRunOf, StandsOut, WriteNothing, runs_of}
use Rattle.qh_transcript.specs.Within.{count_given, first_count, greatest}

-- ---- a run that was written lies within the limits

-- the byte at a place in a list
at_place : (xs : List ℕ) (k : ℕ) → k < length xs → (b : ℕ) × (slice_get xs k ≡ Some b)
at_place [] k less = absurd (omega (arith, less))
at_place (x ∷ xs) zero less = (x, refl)
at_place (x ∷ xs) (suc k) less = at_place xs k (omega (arith, less))

-- where a byte stands the list has as many
no_place : (xs : List ℕ) (k b : ℕ) → slice_get xs k ≡ Some b → k < length xs
no_place [] k b e = absurd (cc)
no_place (x ∷ xs) zero b e = omega arith
no_place (x ∷ xs) (suc k) b e = let rest = no_place xs k b e in omega (arith, rest)

-- it ends within what was written, and something was
run_end : (bytes : List ℕ) (is_finished : Bool) (run : Run) → IsRunOf bytes is_finished run → HasSomething run → run.offset + length run.payload ≤ length bytes
run_end bytes is_finished run is (inl some) =
    let last : length run.payload - 1 < length run.payload = omega (arith, some) in
    let byte = at_place run.payload (length run.payload - 1) last in
    let there = no_place bytes (run.offset + (length run.payload - 1)) byte.0 (is.byte (length run.payload - 1) byte.0 byte.1) in
    omega (arith, some, there)
run_end bytes is_finished run is (inr fin) = let whole = (is.end fin).1 in omega (arith, whole)

something : (bytes : List ℕ) (is_finished : Bool) (run : Run) → IsRunOf bytes is_finished run → HasSomething run → bytes ≡ [] → is_finished ≡ false → ⊥
something bytes is_finished run is (inl some) none open_yet =
    let end = run_end bytes is_finished run is (inl some) in
    let empty = ap length none in
    omega (arith, some, end, empty)
something bytes is_finished run is (inr fin) none open_yet = both_ways is_finished open_yet (is.end fin).0

-- its stream was opened
run_opened : (s : PlainStreams) (sent : List Run) (t : List Act) (run : Run) → StandsOut s sent t → In run sent → HasSomething run → was_opened s run.id ≡ true
run_opened s sent t run p is some = elim (cases_Bool (was_opened s run.id)) [
  | inl opened ↦ opened
  | inr not ↦
      let nothing = p.unopened run.id not in
      absurd (something (written t run.id) (finished t run.id) run (p.runs run is) some nothing.1 nothing.2)
]

one_out : (t : List Act) (d : List ℕ) → handed_out (t ++ HandedOut d ∷ []) ≡ handed_out t ++ d ∷ []
one_out t d = handed_out-append t (HandedOut d ∷ [])

last_out : (t : List Act) (d x : List ℕ) → In x (d ∷ []) → In x (handed_out (t ++ HandedOut d ∷ []))
last_out t d x is = subst (λ (z : List (List ℕ)). In x z) (sym (one_out t d)) (in_right x (handed_out t) (d ∷ []) is)

run_alone : (k : ℕ) (side : Side) (t : List Act) (d : List ℕ) (run : Run) → HasRun k (d ∷ []) side run → HasRun k (handed_out (t ++ HandedOut d ∷ [])) side run
run_alone k side t d run q = record {
  datagram = q.datagram;
  among = last_out t d q.datagram q.among;
  packet = q.packet;
  has = q.has;
  space_is = q.space_is;
  sender_is = q.sender_is;
  frame = q.frame;
  frame_among = q.frame_among;
  is = q.is;
}

-- a frame in a datagram among others
frame_in : (k : ℕ) (xs ys : List (List ℕ)) (side : Side) (f : QuicFrame) → (q : HasFrame k xs side f) → In q.datagram ys → HasFrame k ys side f
frame_in k xs ys side f q among = record { datagram = q.datagram; among = among; packet = q.packet; has = q.has; space_is = q.space_is; sender_is = q.sender_is; frame_among = q.frame_among }

-- the frames of a datagram that is written are those of its packet
frame_there : (k number : ℕ) (side : Side) (id frames tag : List ℕ) (fs : List QuicFrame) (f : QuicFrame) → length id ≡ k → length tag ≡ 32 → AreQuicFrames frames fs
    → HasFrame k ((header_bytes id number ++ (frames ++ tag)) ∷ []) side f → In f fs
frame_there k number side id frames tag fs f length_is tag_is are q =
    let is : q.datagram ≡ header_bytes id number ++ (frames ++ tag) = elim q.among [ inl same ↦ sym same | inr none ↦ absurd none ] in
    let same : q.packet.frames ≡ fs = quic_frames_agree frames q.packet.frames fs (only_content k number id frames tag q.datagram q.packet length_is tag_is is q.has).1 are in
    subst (λ (z : List QuicFrame). In f z) same q.frame_among

writes_nothing : (d : List ℕ) → WriteNothing (HandedOut d ∷ [])
writes_nothing d = record { bytes = λ id. refl; ends = λ id. refl }

reads_nothing : (d : List ℕ) → ReadNothing (HandedOut d ∷ [])
reads_nothing d = record { pieces = λ id. refl; ends = λ id. refl }

module _ (side : Side) (own peer : ℕ) (config : ConnConfig) where
  -- the RESET_STREAM frames of a datagram keep within the limits
  abbrev AreResetsKept : DataSpace → List StreamFrame → List Act → List ℕ → Type 0
  AreResetsKept s given t d = (id code size : ℕ) → HasFrame peer (d ∷ []) side (reset_frame id code size)
      → (size ≤ length (written t id)) × (is_own side id ≡ true → index_of id < greatest (count_given (is_bi id)) (first_count s.streams (is_bi id)) given)

  -- the final sizes that were handed out with it
  sizes_out : (s : DataSpace) (t : List Act) (d : List ℕ) → (p : FollowsOf side own peer config s t) → AreResetsKept s p.given t d
      → (id code size : ℕ) → HasFrame peer (handed_out (t ++ HandedOut d ∷ [])) side (reset_frame id code size) → size ≤ length (written t id)
  sizes_out s t d p resets id code size q =
      let all = handed_out (t ++ HandedOut d ∷ []) in
      let f = reset_frame id code size in
      elim (in_split q.datagram (handed_out t) (d ∷ []) (subst (λ (z : List (List ℕ)). In q.datagram z) (one_out t d) q.among)) [
        | inl before ↦ p.resets id code size (frame_in peer all (handed_out t) side f q before)
        | inr last ↦ (resets id code size (frame_in peer all (d ∷ []) side f q last)).0
      ]

  -- a datagram with these runs and RESET_STREAM frames keeps within the limits
  module _ (s : DataSpace) (t : List Act) (d : List ℕ) (sent : List Run) (p : FollowsOf side own peer config s t) (out : StandsOut s.streams sent t)
      (is_sent : (run : Run) → HasRun peer (handed_out (t ++ HandedOut d ∷ [])) side run → In run sent) (resets : AreResetsKept s p.given t d) where
    run_within : (run : Run) → HasRun peer (handed_out (t ++ HandedOut d ∷ [])) side run → HasSomething run → run.offset + length run.payload ≤ length (written t run.id)
    run_within run has some = run_end (written t run.id) (finished t run.id) run (out.runs run (is_sent run has)) some

    -- what a frame takes a stream up to was written
    was_written : (id end : ℕ) → Reaches peer (handed_out t ++ d ∷ []) side id end → end ≤ length (written t id)
    was_written id end (by_run run has some) = run_within run (subst (λ (z : List (List ℕ)). HasRun peer z side run) (sym (one_out t d)) has) some
    was_written id end (by_reset _ code _ has) = sizes_out s t d p resets id code end (subst (λ (z : List (List ℕ)). HasFrame peer z side (reset_frame id code end)) (sym (one_out t d)) has)

    written_here : (id end : ℕ) → Reaches peer (d ∷ []) side id end → end ≤ length (written t id)
    written_here id end (by_run run has some) = run_within run (run_alone peer side t d run has) some
    written_here id end (by_reset _ code _ has) = (resets id code end has).0

    -- its stream is permitted
    permitted_here : (id end : ℕ) → Reaches peer (d ∷ []) side id end → is_own side id ≡ true → index_of id < greatest (count_given (is_bi id)) (first_count s.streams (is_bi id)) p.given
    permitted_here id end (by_run run has some) mine =
        let is = is_sent run (run_alone peer side t d run has) in
        let opened = run_opened s.streams sent t run out is some in
        let below = below_count s.streams run.id (rw (p.of.side_is) mine) opened in
        let bound = p.within.count (is_bi run.id) in
        omega (arith, below, bound)
    permitted_here id end (by_reset _ code _ has) mine = (resets id code end has).1 mine

    within_limits : IsWithinLimits own peer side config t d
    within_limits = record {
      streams = s.streams;
      of = p.of;
      given = p.given;
      came = p.gave;
      all_bytes = λ ends apart each.
          let sum = sum_within t ends apart (λ e among. was_written e.0 e.1 (each e among)) in
          let bound = p.within.all_bytes in
          omega (arith, sum, bound);
      stream_bytes = λ id end reaches.
          let below = written_here id end reaches in
          let bound = p.within.stream_bytes id in
          omega (arith, below, bound);
      count = permitted_here;
    }

  -- it is handed out
  handed_out_follows : (s : DataSpace) (t : List Act) (d : List ℕ) (sent : List Run) → (p : FollowsOf side own peer config s t) → StandsOut s.streams sent t
      → ((run : Run) → HasRun peer (handed_out (t ++ HandedOut d ∷ [])) side run → In run sent) → AreResetsKept s p.given t d → FollowsOf side own peer config s (t ++ HandedOut d ∷ [])
  handed_out_follows s t d sent p out is_sent resets = record {
    of = p.of;
    datagrams = p.datagrams;
    sent = sent;
    came = p.came;
    is_sent = is_sent;
    has_come = λ run is. subst (λ (z : List (List ℕ)). HasRun own z (other side) run) (sym (same_in t (HandedOut d ∷ []) refl)) (p.has_come run is);
    stands = record {
      out = step.others s.streams sent t (HandedOut d ∷ []) (writes_nothing d) out;
      into = others_stand s.streams p.came t (HandedOut d ∷ []) (reads_nothing d) p.stands.into;
    };
    given = p.given;
    gave = λ f is. subst (λ (z : List (List ℕ)). HasComing own z (other side) f) (sym (same_in t (HandedOut d ∷ []) refl)) (p.gave f is);
    within = kept.others s.streams p.given t (HandedOut d ∷ []) (writes_nothing d) p.within;
    resets = λ id code size has. written_on t (HandedOut d ∷ []) id size (sizes_out s t d p resets id code size has);
    each_within = λ before after e is. elim (last_or_before t before after (HandedOut d) (HandedOut e) is) [
      | inl last ↦
          let here : IsWithinLimits own peer side config t d = within_limits s t d sent p out is_sent resets in
          subst (λ (e : List ℕ). IsWithinLimits own peer side config before e) (one_datagram d e last.1) (subst (λ (t : List Act). IsWithinLimits own peer side config t d) (sym last.0) here)
      | inr r ↦ p.each_within before r.0 e r.1
    ];
    accepted = p.accepted;
    remembers = p.remembers;
    numbers = λ n is. subst (λ (z : List (List ℕ)). HasNumber own z (other side) n) (sym (same_in t (HandedOut d ∷ []) refl)) (p.numbers n is);
  }

-- ---- the packet of the space

sent_dedup : (s : DataSpace) (sent : SentPacket SentFrame) (is_eliciting : Bool) → (with_sent s sent is_eliciting).dedup ≡ s.dedup
sent_dedup s sent true = refl
sent_dedup s sent false = refl

put_dedup : (may : Bool) (room : ℕ) (old new : DataSpace) (before after : List ℕ) (frames : List SentFrame) → MatchBool may (AreElicitingPut room old new before after frames) ((new ≡ old) × (after ≡ before))
    → new.dedup ≡ old.dedup
put_dedup true room old new before after frames put = ap (λ (s : DataSpace). s.dedup) put.rest_is
put_dedup false room old new before after frames none = ap (λ (s : DataSpace). s.dedup) none.0

made_dedup : (now around room : ℕ) (old new : DataSpace) (before after : List ℕ) → IsPacketMade now around room old new before after → new.dedup ≡ old.dedup
made_dedup now around room old new before after m =
    ap (λ (s : DataSpace). s.dedup) m.new_is ∙ sent_dedup m.mid m.packet (nat_lt (length m.out_mid) (length after))
    ∙ put_dedup (may_elicit old) (room - (length m.out_mid - length before)) old m.mid m.out_mid after m.packet.frames.items m.eliciting

-- how long a DATAGRAM frame's payload may be stays
sent_datagrams : (s : DataSpace) (sent : SentPacket SentFrame) (is_eliciting : Bool) → (with_sent s sent is_eliciting).datagram_receive ≡ s.datagram_receive
sent_datagrams s sent true = refl
sent_datagrams s sent false = refl

put_datagrams : (may : Bool) (room : ℕ) (old new : DataSpace) (before after : List ℕ) (frames : List SentFrame)
    → MatchBool may (AreElicitingPut room old new before after frames) ((new ≡ old) × (after ≡ before)) → new.datagram_receive ≡ old.datagram_receive
put_datagrams true room old new before after frames put = ap (λ (s : DataSpace). s.datagram_receive) put.rest_is
put_datagrams false room old new before after frames none = ap (λ (s : DataSpace). s.datagram_receive) none.0

made_datagrams : (now around room : ℕ) (old new : DataSpace) (before after : List ℕ) → IsPacketMade now around room old new before after → new.datagram_receive ≡ old.datagram_receive
made_datagrams now around room old new before after m =
    ap (λ (s : DataSpace). s.datagram_receive) m.new_is ∙ sent_datagrams m.mid m.packet (nat_lt (length m.out_mid) (length after))
    ∙ put_datagrams (may_elicit old) (room - (length m.out_mid - length before)) old m.mid m.out_mid after m.packet.frames.items m.eliciting

module _ (side : Side) (own : ℕ) (id : List ℕ) (config : ConnConfig) where
  -- a datagram of a packet that the space made is handed out
  packet_goes : (now around room : ℕ) (old new : DataSpace) (number : ℕ) (frames tag : List ℕ) (t : List Act)
      → IsPacketMade now around room old new (header_bytes id number) (header_bytes id number ++ frames) → length tag ≡ 32
      → FollowsOf side own (length id) config old t → FollowsOf side own (length id) config new (t ++ HandedOut (header_bytes id number ++ (frames ++ tag)) ∷ [])
  packet_goes now around room old new number frames tag t m tag_is p =
      let head = header_bytes id number in
      let made = made_stands now around room old new head (head ++ frames) p.sent p.came t m p.stands in
      let bytes_are : frames ≡ made.bytes = append_cancel_left head frames made.bytes made.appended in
      let are : AreQuicFrames frames made.frames = subst (λ (z : List ℕ). AreQuicFrames z made.frames) (sym bytes_are) made.are in
      let after = stepped side own (length id) config old new t (same.made now around room old new head (head ++ frames) m) (made_dedup now around room old new head (head ++ frames) m)
      (made_datagrams now around room old new head (head ++ frames) m)
      (λ sent came s.
      let once = made_stands now around room old new head (head ++ frames) sent came t m s in
      record { out = step.fewer new.streams (sent ++ runs_of once.frames) sent t (λ run is. in_left run sent (runs_of once.frames) is) once.stands.out; into = once.stands.into })
      (λ given. limits.made now around room old new head (head ++ frames) given t m) p in
      let b = packet_said side config.peer p.sent p.given t now around room old new head (head ++ frames) m
      (record { out = p.stands.out; within = p.within; side_is = p.of.side_is; peer_is = p.of.peer_is }) in
      let read : AreQuicFrames frames b.are.frames = subst (λ (z : List ℕ). AreQuicFrames z b.are.frames) (sym (append_cancel_left head frames b.bytes b.appended)) b.are.are in
      handed_out_follows side own (length id) config new t (head ++ (frames ++ tag)) (p.sent ++ runs_of made.frames) after made.stands.out
      (handed (length id) number side p.sent t id frames tag made.frames refl tag_is are p.is_sent)
      (λ stream code size has.
      let says = b.are.said (reset_frame stream code size) (frame_there (length id) number side id frames tag b.are.frames (reset_frame stream code size) refl tag_is read has) stream code size refl in
      (says.0, λ mine. rw after.of.peer_is (says.1 mine)))

  -- a datagram with frames that carry nothing of a stream is handed out
  silent_goes : (s : DataSpace) (number : ℕ) (fs : List QuicFrame) (frames tag : List ℕ) (t : List Act) → AreQuicFrames frames fs → ((q : QuicFrame) → In q fs → stream_of q ≡ None)
      → ((q : QuicFrame) → In q fs → has_reset_type q ≡ false) → length tag ≡ 32 → FollowsOf side own (length id) config s t
      → FollowsOf side own (length id) config s (t ++ HandedOut (header_bytes id number ++ (frames ++ tag)) ∷ [])
  silent_goes s number fs frames tag t are silent no_reset tag_is p =
      handed_out_follows side own (length id) config s t (header_bytes id number ++ (frames ++ tag)) p.sent p p.stands.out
      (λ run has. subst (λ (z : List Run). In run z) (append-nil p.sent) (subst (λ (z : List Run). In run (p.sent ++ z)) (silent_runs fs silent)
      (handed (length id) number side p.sent t id frames tag fs refl tag_is are p.is_sent run has)))
      (λ stream code size has.
      let f = reset_frame stream code size in
      absurd (both_ways (has_reset_type f) (no_reset f (frame_there (length id) number side id frames tag fs f refl tag_is are has)) refl))

  -- a datagram with one such frame
  frame_goes : (s : DataSpace) (number : ℕ) (f : QuicFrame) (frames tag : List ℕ) (t : List Act) → frames ≡ frame_bytes f → ((rest : List ℕ) → IsQuicFrame (frame_bytes f ++ rest) f rest) → stream_of f ≡ None → has_reset_type f ≡ false
      → length tag ≡ 32 → FollowsOf side own (length id) config s t → FollowsOf side own (length id) config s (t ++ HandedOut (header_bytes id number ++ (frames ++ tag)) ∷ [])
  frame_goes s number f frames tag t bytes_are back silent no_reset tag_is p =
      let one : IsQuicFrame frames f [] = subst (λ (z : List ℕ). IsQuicFrame z f []) (append-nil (frame_bytes f) ∙ sym bytes_are) (back []) in
      silent_goes s number (f ∷ []) frames tag t ([], one, refl)
      (λ q is. elim is [ inl same ↦ subst (λ (q : QuicFrame). stream_of q ≡ None) same silent | inr none ↦ absurd none ])
      (λ q is. elim is [ inl same ↦ subst (λ (q : QuicFrame). has_reset_type q ≡ false) same no_reset | inr none ↦ absurd none ])
      tag_is p

-- ---- the connection

close_silent : (reason : Close) → stream_of (close_frame reason) ≡ None
close_silent (Connection c) = refl
close_silent (Application a) = refl

close_resets_nothing : (reason : Close) → has_reset_type (close_frame reason) ≡ false
close_resets_nothing (Connection c) = refl
close_resets_nothing (Application a) = refl

module _ {S : Type 0} where
  frames_go : (sealed : Side → Space → ℕ → List ℕ) (now : Moment) (old new : Inner S) (frames : List ℕ) (t : List Act) → AreFramesMade now old new (header_bytes old.remote_id old.space.next_number) frames
      → length (sealed old.side Data old.space.next_number) ≡ 32 → ClosesReadBack old.state → IsConnection old → Following old t → Following new (t ++ HandedOut (datagram_of sealed old frames) ∷ [])
  frames_go sealed now old new frames t (packet up m e) tag_is back c p =
      let is : old.space ≡ p.space = elim p.is_space [ inl failed ↦ none_some _ old.error Memory (c.not_lost up) failed | inr same ↦ same ] in
      let tag = sealed old.side Data old.space.next_number in
      let before = subst (λ (s : DataSpace). FollowsOf old.side (length old.local_id) (length old.remote_id) old.config s t) (sym is) (space_follows old t p) in
      carried_on old new (t ++ HandedOut (datagram_of sealed old frames) ∷ []) new.space (rw e (same_end refl refl refl refl)) (inr refl)
      (packet_goes old.side (length old.local_id) old.remote_id old.config now.0 (overhead old) (1200 - overhead old) old.space new.space old.space.next_number frames tag t m tag_is before)
  frames_go sealed now old new frames t (control up m e) tag_is back c p =
      let is : old.space ≡ p.space = elim p.is_space [ inl failed ↦ none_some _ old.error Memory (c.not_lost up) failed | inr same ↦ same ] in
      let tag = sealed old.side Data old.space.next_number in
      let u = t ++ HandedOut (datagram_of sealed old frames) ∷ [] in
      let before = subst (λ (s : DataSpace). FollowsOf old.side (length old.local_id) (length old.remote_id) old.config s t) (sym is) (space_follows old t p) in
      let fs = control_frames old.side old.config.peer_datagram frames m.control in
      let after = silent_goes old.side (length old.local_id) old.remote_id old.config old.space old.space.next_number fs.frames frames tag t fs.are
      (of_each (λ (q : QuicFrame). stream_of q ≡ None) old.side old.config.peer_datagram frames fs control_silent) (of_each (λ (q : QuicFrame). has_reset_type q ≡ false) old.side old.config.peer_datagram frames fs control_resets_nothing) tag_is before in
      let rest = bare_rest _ _ old.space new.space m.sent in
      carried_on old new u new.space (rw e (same_end refl refl refl refl)) (inr refl)
      (same_streams old.side (length old.local_id) (length old.remote_id) old.config old.space new.space u rest.streams rest.dedup rest.datagram_receive after)
  frames_go sealed now old new frames t (close reason until is bytes_are e) tag_is back c p =
      let tag = sealed old.side Data old.space.next_number in
      let after = frame_goes old.side (length old.local_id) old.remote_id old.config p.space old.space.next_number (close_frame reason) frames tag t bytes_are (back reason until is) (close_silent reason) (close_resets_nothing reason) tag_is (space_follows old t p) in
      let u = t ++ HandedOut (datagram_of sealed old frames) ∷ [] in
      elim p.is_space [
        | inl failed ↦ carried_on old new u p.space (rw e (same_end refl refl refl refl)) (inl (ap (λ (c : Inner S). c.error) e ∙ failed)) after
        | inr same ↦ carried_on old new u new.space (rw e (same_end refl refl refl refl)) (inr refl)
            (same_streams old.side (length old.local_id) (length old.remote_id) old.config p.space new.space u
            (ap (λ (c : Inner S). c.space.streams) e ∙ ap (λ (s : DataSpace). s.streams) same) (ap (λ (c : Inner S). c.space.dedup) e ∙ ap (λ (s : DataSpace). s.dedup) same)
            (ap (λ (c : Inner S). c.space.datagram_receive) e ∙ ap (λ (s : DataSpace). s.datagram_receive) same) after)
      ]

  frames_end : (now : Moment) (old new : Inner S) (before frames : List ℕ) → AreFramesMade now old new before frames → IsSameEnd old new
  frames_end now old new before frames (packet up m e) = rw e (same_end refl refl refl refl)
  frames_end now old new before frames (control up m e) = rw e (same_end refl refl refl refl)
  frames_end now old new before frames (close reason until is bytes_are e) = rw e (same_end refl refl refl refl)

  pub made_follows : (sealed : Side → Space → ℕ → List ℕ) (now : Moment) (old new : Inner S) (before after : List ℕ) (transmit : Transmit) (t : List Act) → IsDatagramMade sealed now old new before after transmit
      → length (sealed old.side Data old.space.next_number) ≡ 32 → ClosesReadBack old.state → IsConnection old → Following old t → Following new (t ++ transmit_acts before after (Ok (Some transmit)))
  made_follows sealed now old new before after transmit t m tag_is back c p =
      let d = datagram_of sealed old m.bytes.frames in
      let behind : drop (length before) after ≡ d = ap (λ (z : List ℕ). drop (length before) z) m.bytes.after_is ∙ drop-append_seam before d in
      subst (λ (d : List ℕ). Following new (t ++ HandedOut d ∷ [])) (sym behind) (frames_go sealed now old new m.bytes.frames t m.bytes.made tag_is back c p)

  pub made_end : (sealed : Side → Space → ℕ → List ℕ) (now : Moment) (old new : Inner S) (before after : List ℕ) (transmit : Transmit) → IsDatagramMade sealed now old new before after transmit → IsSameEnd old new
  made_end sealed now old new before after transmit m = frames_end now old new (header_bytes old.remote_id old.space.next_number) m.bytes.frames m.bytes.made
