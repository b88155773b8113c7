-- How far the frames of the other end reach: no farther than was written, and a final size is that.
use Rattle.std.proofs.Common.{◌≡◌, ℕ, zero, suc, ◌+◌, ◌-◌, ◌<◌, ◌≤◌, Bool, List, [], ◌∷◌, length, Some, refl, sym, subst, ◌∙◌, arith, inl, inr}
use Rattle.std.specs.Prelude.{slice_get}
use Rattle.qh_conduct.proofs.PeersKept.{plain_is}
use Rattle.qh_conduct.specs.Filled.{AreFilled}
use Rattle.qh_conduct.specs.Reached.{CameIn, EndsAt, Reaches}
use Rattle.qh_conduct.specs.Sized.{AreRight}
use Rattle.qh_core.specs.Follows.{Following, HasComing, HasFrame, HasSomething}
use Rattle.qh_core.specs.declared.inner.Inner.{Inner}
use Rattle.qh_frame.specs.Plain.{frame, plain_of}
use Rattle.qh_spec.specs.Carried.{HasRun}
use Rattle.qh_spec.specs.Lists.{In}
use Rattle.qh_spec.specs.QuicFrame.{StreamFrame as Run}
use Rattle.qh_spec.specs.QuicFrames.{QuicFrame, Num}
use Rattle.qh_spec.specs.Transcript.{Act, finished, handed_out, written}
use Rattle.qh_spec.specs.declared.sides.Side.{Side}
use Rattle.qh_streams.specs.declared.frames.StreamFrame.{StreamFrame}
use Rattle.qh_streams.specs.declared.frames.StreamFrame.TheVariants as coming
use Rattle.qh_transcript.specs.Sending.{IsRunOf}

-- ---- a run of what was written

at_place : (xs : List ℕ) (k : ℕ) → k < length xs → (b : ℕ) × (slice_get xs k ≡ Some b)
at_place [] k less = absurd (omega (arith, less))
at_place (x ∷ xs) zero less = (x, refl)
at_place (x ∷ xs) (suc k) less = at_place xs k (omega (arith, less))

place_below : (xs : List ℕ) (k b : ℕ) → slice_get xs k ≡ Some b → k < length xs
place_below [] k b e = absurd (cc)
place_below (x ∷ xs) zero b e = omega arith
place_below (x ∷ xs) (suc k) b e = let rest = place_below xs k b e in omega (arith, rest)

run_within : (bytes : List ℕ) (is_finished : Bool) (run : Run) → IsRunOf bytes is_finished run → HasSomething run → run.offset + length run.payload ≤ length bytes
run_within bytes is_finished run is (inl some) =
    let last : length run.payload - 1 < length run.payload = omega (arith, some) in
    let byte = at_place run.payload (length run.payload - 1) last in
    let there = place_below bytes (run.offset + (length run.payload - 1)) byte.0 (is.byte (length run.payload - 1) byte.0 byte.1) in
    omega (arith, some, there)
run_within bytes is_finished run is (inr fin) = let whole = (is.end fin).1 in omega (arith, whole)

-- ---- the frames that came

module _ {S : Type 0} (p : Inner S) (t : List Act) (f : Following p t) (filled : AreFilled p t) (right : AreRight p t) (own : ℕ) (datagrams : List (List ℕ)) (side : Side) (length_is : length p.remote_id ≡ own) (side_is : p.side ≡ side)
    (among : (d : List ℕ) → In d datagrams → In d (handed_out t)) where
  run_out : (run : Run) → HasRun own datagrams side run → HasRun (length p.remote_id) (handed_out t) p.side run
  run_out run q = record {
    datagram = q.datagram;
    among = among q.datagram q.among;
    packet = q.packet;
    has = rw length_is q.has;
    space_is = q.space_is;
    sender_is = q.sender_is ∙ sym side_is;
    frame = q.frame;
    frame_among = q.frame_among;
    is = q.is;
  }

  frame_out : (q : QuicFrame) → HasFrame own datagrams side q → HasFrame (length p.remote_id) (handed_out t) p.side q
  frame_out q h = record {
    datagram = h.datagram;
    among = among h.datagram h.among;
    packet = h.packet;
    has = rw length_is h.has;
    space_is = h.space_is;
    sender_is = h.sender_is ∙ sym side_is;
    frame_among = h.frame_among;
  }

  run_is : (run : Run) → HasRun own datagrams side run → IsRunOf (written t run.id) (finished t run.id) run
  run_is run q = f.stands.out.runs run (f.is_sent run (run_out run q))

  pub run_reaches : (run : Run) → HasRun own datagrams side run → run.offset + length run.payload ≤ length (written t run.id)
  run_reaches run q = run_within (written t run.id) (finished t run.id) run (run_is run q) (filled run (run_out run q))

  reset_size : (id code size : ℕ) (c : StreamFrame) → (h : HasComing own datagrams side c) → plain_of h.frame ≡ frame 4 (Num id ∷ Num code ∷ Num size ∷ []) → size ≡ length (written t id)
  reset_size id code size c h is = right id code size (subst (λ (q : QuicFrame). HasFrame (length p.remote_id) (handed_out t) p.side q) is (frame_out (plain_of h.frame) h.has))

  -- none reaches farther than was written
  pub reaches_written : (c : StreamFrame) (stream to : ℕ) → CameIn own datagrams side c → Reaches stream to c → to ≤ length (written t stream)
  reaches_written (coming.Stream id offset payload fin) stream to came r =
      let most = run_reaches _ came in
      let end = r.1 in
      subst (λ (s : ℕ). to ≤ length (written t s)) r.0 (omega (arith, most, end))
  reaches_written (coming.Reset id code size) stream to came r =
      let is = reset_size id.0 code size _ came (plain_is came.frame _ came.is) in
      let end = r.1 in
      subst (λ (s : ℕ). to ≤ length (written t s)) r.0 (omega (arith, is, end))
  reaches_written (coming.Stop id code) stream to came r = absurd r
  reaches_written (coming.MaxData limit) stream to came r = absurd r
  reaches_written (coming.MaxStreamData id limit) stream to came r = absurd r
  reaches_written (coming.MaxStreams dir count) stream to came r = absurd r

  -- a final size is how many bytes were written
  pub ends_written : (c : StreamFrame) (stream size : ℕ) → CameIn own datagrams side c → EndsAt stream size c → size ≡ length (written t stream)
  ends_written (coming.Stream id offset payload fin) stream size came r =
      let whole = ((run_is _ came).end r.1).1 in
      let end = r.2 in
      subst (λ (s : ℕ). size ≡ length (written t s)) r.0 (omega (arith, whole, end))
  ends_written (coming.Reset id code known) stream size came r =
      let is = reset_size id.0 code known _ came (plain_is came.frame _ came.is) in
      let end = r.1 in
      subst (λ (s : ℕ). size ≡ length (written t s)) r.0 (omega (arith, is, end))
  ends_written (coming.Stop id code) stream size came r = absurd r
  ends_written (coming.MaxData limit) stream size came r = absurd r
  ends_written (coming.MaxStreamData id limit) stream size came r = absurd r
  ends_written (coming.MaxStreams dir count) stream size came r = absurd r
