-- How the connection stands to the datagrams behind one that it hands out.
use Rattle.std.proofs.Common.{◌≡◌, ◌⊎◌, ℕ, ◌+◌, ◌-◌, ◌<◌, ◌^◌, true, false, List, [], ◌∷◌, ◌++◌, length, Some, refl, sym, ap, subst, ◌∙◌, inl, inr, arith}
use Rattle.std.specs.Prelude.{Ok, drop}
use Rattle.std.proofs.Math.Seq.{drop-append_seam}
use Rattle.std.proofs.lemmas.Bool.{both_ways}
use Rattle.std.proofs.lemmas.List.{append-nil, append_cancel_left}
use Rattle.qh_base.specs.declared.path.Transmit.{Transmit}
use Rattle.qh_base.specs.declared.time.Moment.{Moment}
use Rattle.qh_conduct.proofs.ConnectionGoesOn.{Goes, come_on, datagram_on, live_on}
use Rattle.qh_conduct.proofs.FramesKept.{AreKept, packet_kept}
use Rattle.qh_conduct.proofs.PacketsKept.{only_packet, packet_there}
use Rattle.qh_conduct.proofs.SpaceGoesOn.{bare_go, bare_rest, made_go, made_rest}
use Rattle.qh_conduct.proofs.StreamsGoOn.{GoOn, same_go}
use Rattle.qh_conduct.specs.Announced.{Announced, HasAnnounced, IsKeptDatagram, IsKeptFrame, IsOver, MakesTags}
use Rattle.qh_conduct.specs.Announced.IsKeptFrame.{control as controls, close as closes}
use Rattle.qh_core.proofs.ControlFrames.{control_frames}
use Rattle.qh_core.proofs.Handed.{same_in}
use Rattle.qh_core.specs.Follows.{transmit_acts}
use Rattle.qh_core.specs.Inner.{is_open}
use Rattle.qh_core.specs.Sending.{AreFramesMade, ClosesReadBack, IsDatagramMade, close_frame, datagram_of, overhead}
use Rattle.qh_core.specs.Sending.AreFramesMade.{packet as packet_made, control as control_made, close as close_made}
use Rattle.qh_core.specs.declared.inner.Inner.{Inner}
use Rattle.qh_core.specs.declared.state.State.{State}
use Rattle.qh_core.specs.declared.state.State.TheVariants.{Closed, Drained}
use Rattle.qh_frame.specs.FrameBytes.{frame_bytes}
use Rattle.qh_packet.specs.Packet.{header_bytes}
use Rattle.qh_spec.proofs.Members.{in_more}
use Rattle.qh_spec.proofs.TranscriptLaws.{handed_out-append}
use Rattle.qh_spec.specs.Lists.{In}
use Rattle.qh_spec.specs.QuicFrames.{QuicFrame, AreQuicFrames, IsQuicFrame}
use Rattle.qh_spec.specs.Tag.{IsTag}
use Rattle.qh_spec.specs.Transcript.{Act, HandedOut, handed_in, handed_out}
use Rattle.qh_spec.specs.declared.sides.Side.{Side}
use Rattle.qh_spec.specs.declared.sides.Space.{Space}
use Rattle.qh_spec.specs.declared.sides.Space.TheVariants.{Data}

-- bytes that make something longer are some
some_bytes : (before frames : List ℕ) → length before < length (before ++ frames) → frames ≡ [] → ⊥
some_bytes before frames longer none =
    let same : length (before ++ frames) ≡ length before = ap (λ (z : List ℕ). length (before ++ z)) none ∙ ap length (append-nil before) in
    omega (arith, longer, same)

some_frames : (bytes : List ℕ) (fs : List QuicFrame) → AreQuicFrames bytes fs → (bytes ≡ [] → ⊥) → fs ≡ [] → ⊥
some_frames bytes fs are some none = some (subst (λ (gs : List QuicFrame). AreQuicFrames bytes gs) none are)

pub open_reads_back : (state : State) → (is_open state ≡ true) ⊎ ClosesReadBack state → ClosesReadBack state
open_reads_back state (inl up) = λ reason until is. absurd (both_ways (is_open state) (ap is_open is) up)
open_reads_back state (inr back) = back

module _ {S : Type 0} where
  -- the datagram with these frames is as it should be
  sealed_kept : (old new : Inner S) (came : List (List ℕ)) (frames tag : List ℕ) → new.side ≡ old.side → length new.remote_id ≡ length old.remote_id → old.space.next_number < new.space.next_number
      → IsTag tag old.side Data old.space.next_number → (k : AreKept new came frames) → (k.frames ≡ [] → ⊥)
      → IsKeptDatagram new came (header_bytes old.remote_id old.space.next_number ++ (frames ++ tag))
  sealed_kept old new came frames tag side remote_length used tagged k some = record {
    number = old.space.next_number;
    used = used;
    frames = k.frames;
    some = some;
    has = rw (side, remote_length) (packet_there old.remote_id old.side old.space.next_number frames tag k.frames tagged k.are);
    only = rw (side, remote_length) (only_packet old.remote_id old.side old.space.next_number frames tag k.frames tagged k.are);
    kept = k.kept;
  }

  -- one datagram more was handed out
  one_more : (old new : Inner S) (t : List Act) (d : List ℕ) → Goes old new → new.space.acks.ranges ≡ old.space.acks.ranges → IsKeptDatagram new (handed_in (t ++ HandedOut d ∷ [])) d → Announced old t
      → Announced new (t ++ HandedOut d ∷ [])
  one_more old new t d go same kept p =
      let u = t ++ HandedOut d ∷ [] in
      let into : handed_in u ≡ handed_in t = same_in t (HandedOut d ∷ []) refl in
      let among : (x : List ℕ) → In x (handed_in t) → In x (handed_in u) = λ x is. subst (λ (l : List (List ℕ)). In x l) (sym into) is in
      record {
        live = live_on old.space.streams new.space.streams go.streams p.live;
        acks = λ n there. come_on old new (handed_in t) (handed_in u) n go among (p.acks n (rw same at there));
        sent = λ x is. elim (in_more x d (handed_out t) (subst (λ (l : List (List ℕ)). In x l) (handed_out-append t (HandedOut d ∷ [])) is)) [
          | inl before ↦ datagram_on old new (handed_in t) (handed_in u) x go among (p.sent x before)
          | inr last ↦ subst (λ (y : List ℕ). IsKeptDatagram new (handed_in u) y) last kept
        ];
      }

  not_over : (c : Inner S) (state : State) → c.state ≡ state → (state ≡ Drained → ⊥) → IsOver c → ⊥
  not_over c state is other over = other (sym is ∙ over.1)

  frames_go : (sealed : Side → Space → ℕ → List ℕ) → MakesTags sealed → (now : Moment) (old new : Inner S) (frames : List ℕ) (t : List Act) → AreFramesMade now old new (header_bytes old.remote_id old.space.next_number) frames
      → old.space.next_number < 2 ^ 62 → ClosesReadBack old.state → IsOver old ⊎ Announced old t → Announced new (t ++ HandedOut (datagram_of sealed old frames) ∷ [])
  frames_go sealed tags now old new frames t (packet_made up m e) below back (inl over) = absurd (both_ways (is_open old.state) (ap is_open over.1) up)
  frames_go sealed tags now old new frames t (packet_made up m e) below back (inr p) =
      let header = header_bytes old.remote_id old.space.next_number in
      let d = datagram_of sealed old frames in
      let u = t ++ HandedOut d ∷ [] in
      let rest = made_rest now.0 (overhead old) (1200 - overhead old) old.space new.space header (header ++ frames) m in
      let goes : Goes old new = record {
        side = ap (λ (c : Inner S). c.side) e;
        local_id = ap (λ (c : Inner S). c.local_id) e;
        remote_length = ap (λ (c : Inner S). length c.remote_id) e;
        config = ap (λ (c : Inner S). c.config) e;
        streams = made_go now.0 (overhead old) (1200 - overhead old) old.space new.space header (header ++ frames) m;
        next = let one = rest.0 in omega (arith, one);
        shut = λ no. absurd (both_ways (is_open old.state) no up);
      } in
      let into : handed_in u ≡ handed_in t = same_in t (HandedOut d ∷ []) refl in
      let b = packet_kept new (handed_in u) now.0 (overhead old) (1200 - overhead old) old.space header (header ++ frames) m p.live
      (λ n there. come_on old new (handed_in t) (handed_in u) n goes (λ x is. subst (λ (l : List (List ℕ)). In x l) (sym into) is) (p.acks n there)) in
      let same : b.bytes ≡ frames = sym (append_cancel_left header frames b.bytes b.appended) in
      let k : AreKept new (handed_in u) frames = subst (λ (z : List ℕ). AreKept new (handed_in u) z) same b.kept in
      one_more old new t d goes rest.1
      (sealed_kept old new (handed_in u) frames (sealed old.side Data old.space.next_number) goes.side goes.remote_length (let one = rest.0 in omega (arith, one)) (tags old.side old.space.next_number below)
      k (some_frames frames k.frames k.are (some_bytes header frames m.some))) p
  frames_go sealed tags now old new frames t (control_made up m e) below back (inl over) = absurd (both_ways (is_open old.state) (ap is_open over.1) up)
  frames_go sealed tags now old new frames t (control_made up m e) below back (inr p) =
      let d = datagram_of sealed old frames in
      let u = t ++ HandedOut d ∷ [] in
      let rest = bare_rest now.0 (overhead old + length frames) old.space new.space m.sent in
      let goes : Goes old new = record {
        side = ap (λ (c : Inner S). c.side) e;
        local_id = ap (λ (c : Inner S). c.local_id) e;
        remote_length = ap (λ (c : Inner S). length c.remote_id) e;
        config = ap (λ (c : Inner S). c.config) e;
        streams = bare_go now.0 (overhead old + length frames) old.space new.space m.sent;
        next = let one = rest.0 in omega (arith, one);
        shut = λ no. absurd (both_ways (is_open old.state) no up);
      } in
      let r = control_frames old.side old.config.peer_datagram frames m.control in
      let k : AreKept new (handed_in u) frames = record {
        frames = r.frames;
        are = r.are;
        kept = λ f among. let g = r.all f among in controls g.0 g.1 (rw (goes.side, goes.config) g.2);
      } in
      one_more old new t d goes rest.1
      (sealed_kept old new (handed_in u) frames (sealed old.side Data old.space.next_number) goes.side goes.remote_length (let one = rest.0 in omega (arith, one)) (tags old.side old.space.next_number below)
      k r.some) p
  frames_go sealed tags now old new frames t (close_made reason until is bytes_are e) below back (inl over) = absurd (not_over old (Closed reason true until) is (λ same. cc) over)
  frames_go sealed tags now old new frames t (close_made reason until is bytes_are e) below back (inr p) =
      let d = datagram_of sealed old frames in
      let u = t ++ HandedOut d ∷ [] in
      let read = back reason until is in
      let one : IsQuicFrame frames (close_frame reason) [] = subst (λ (z : List ℕ). IsQuicFrame z (close_frame reason) []) (append-nil (frame_bytes (close_frame reason)) ∙ sym bytes_are) (read []) in
      let next : new.space.next_number ≡ old.space.next_number + 1 = ap (λ (c : Inner S). c.space.next_number) e in
      let shut : is_open new.state ≡ false = ap (λ (c : Inner S). is_open c.state) e in
      let goes : Goes old new = record {
        side = ap (λ (c : Inner S). c.side) e;
        local_id = ap (λ (c : Inner S). c.local_id) e;
        remote_length = ap (λ (c : Inner S). length c.remote_id) e;
        config = ap (λ (c : Inner S). c.config) e;
        streams = subst (λ (c : Inner S). GoOn old.space.streams c.space.streams) (sym e) (same_go old.space.streams);
        next = omega (arith, next);
        shut = λ no. shut;
      } in
      let k : AreKept new (handed_in u) frames = record {
        frames = close_frame reason ∷ [];
        are = ([], one, refl);
        kept = λ f among. elim among [ inl same ↦ subst (λ (g : QuicFrame). IsKeptFrame new (handed_in u) g) same (closes reason refl shut) | inr none ↦ absurd none ];
      } in
      one_more old new t d goes (ap (λ (c : Inner S). c.space.acks.ranges) e)
      (sealed_kept old new (handed_in u) frames (sealed old.side Data old.space.next_number) goes.side goes.remote_length (omega (arith, next)) (tags old.side old.space.next_number below)
      k (λ none. cc)) p

  pub made_stands : (sealed : Side → Space → ℕ → List ℕ) → MakesTags sealed → (now : Moment) (old new : Inner S) (before after : List ℕ) (transmit : Transmit) (t : List Act)
      → IsDatagramMade sealed now old new before after transmit → (is_open old.state ≡ true) ⊎ ClosesReadBack old.state → HasAnnounced old t → HasAnnounced new (t ++ transmit_acts before after (Ok (Some transmit)))
  unfolding HasAnnounced
  made_stands sealed tags now old new before after transmit t m back p =
      let d = datagram_of sealed old m.bytes.frames in
      let behind : drop (length before) after ≡ d = ap (λ (z : List ℕ). drop (length before) z) m.bytes.after_is ∙ drop-append_seam before d in
      inr (subst (λ (d : List ℕ). Announced new (t ++ HandedOut d ∷ [])) (sym behind) (frames_go sealed tags now old new m.bytes.frames t m.bytes.made m.bytes.number (open_reads_back old.state back) p))
