-- The bytes of the frames of a packet.
use Rattle.std.proofs.Common.{◌≡◌, ◌⊎◌, ℕ, ◌+◌, ◌-◌, ◌<◌, ◌≤◌, ◌^◌, Bool, true, false, List, [], ◌∷◌, ◌++◌, length, Option, Some, None, refl, sym, ap, ◌∙◌, arith, inl, inr, subst}
use Rattle.std.proofs.lemmas.Bool.{cases_lt, lt-ltb, le-ltb}
use Rattle.std.proofs.lemmas.List.{length-append}
use Rattle.qh_frame.specs.FrameBytes.{frame_bytes}
use Rattle.qh_frame.specs.Plain.{frame}
use Rattle.qh_spec.specs.FrameTypes as frame_types
use Rattle.qh_spec.specs.QuicFrames.{QuicFrame, Text}
use Rattle.qh_spec.specs.Varint.{varint}
use Rattle.qh_space.specs.Sending.{bytes_if, ping_bytes, response_bytes}
use Rattle.qh_streams.specs.Streams.{PlainStreams, AreWritten, AreShared, IsIdle, IsWrittenBy, max_frame_header, written_frame}
use Rattle.qh_streams.specs.Streams.AreWritten.{none as none_written, more as more_written}
use Rattle.qh_streams.specs.declared.frames.SentFrame.{SentFrame}

varint_some : (n : ℕ) → 0 < length (varint n)
unfolding varint
varint_some n =
    elim (cases_lt n (2 ^ 6)) [
      | inl h ↦ rw (lt-ltb n (2 ^ 6) h) (omega arith)
      | inr g ↦ elim (cases_lt n (2 ^ 14)) [
        | inl h ↦ rw (le-ltb n (2 ^ 6) g, lt-ltb n (2 ^ 14) h) (omega arith)
        | inr g' ↦ elim (cases_lt n (2 ^ 30)) [
          | inl h ↦ rw (le-ltb n (2 ^ 6) g, le-ltb n (2 ^ 14) g', lt-ltb n (2 ^ 30) h) (omega arith)
          | inr g'' ↦ rw (le-ltb n (2 ^ 6) g, le-ltb n (2 ^ 14) g', le-ltb n (2 ^ 30) g'') (omega arith)
        ]
      ]
    ]

-- a frame has a byte, that of its type
pub frame_some : (f : QuicFrame) → 0 < length (frame_bytes f)
unfolding frame_bytes
frame_some f = let some = varint_some f.kind in rw length-append (omega (arith, some))

-- no more is written than there is room for
pub written_fits : (room : ℕ) (old new : PlainStreams) (fs : List SentFrame) (bytes : List ℕ) → AreWritten room old new fs bytes → length bytes ≤ room
written_fits room old new fs bytes (none_written _ _) = omega arith
written_fits room old new fs bytes (more_written _ _ mid _ f gs rest handed fits back others) =
    let head = frame_bytes (written_frame mid f) in
    let sum = length-append head rest in
    let left = written_fits (room - length head) mid new gs rest others in
    omega (arith, sum, left, fits)

-- without a byte there is no frame
pub none_without_bytes : (room : ℕ) (old new : PlainStreams) (fs : List SentFrame) (bytes : List ℕ) → AreWritten room old new fs bytes → length bytes ≡ 0 → fs ≡ []
none_without_bytes room old new fs bytes (none_written _ _) e = refl
none_without_bytes room old new fs bytes (more_written _ _ mid _ f gs rest handed fits back others) e =
    let head = frame_bytes (written_frame mid f) in
    let sum = length-append head rest in
    let some = frame_some (written_frame mid f) in
    absurd (omega (arith, sum, some, e))

pub none_written_by : (room : ℕ) (old new : PlainStreams) (out_old out_new : List ℕ) (frames : List SentFrame) → IsWrittenBy room old new out_old out_new [] frames
    → length out_new ≤ length out_old → frames ≡ []
none_written_by room old new out_old out_new frames written short =
    let sum = ap length written.out_is ∙ length-append out_old written.bytes in
    written.sent_is ∙ none_without_bytes room old new written.frames written.bytes written.written (omega (arith, sum, short))

none_handed : (room : ℕ) (old new : PlainStreams) (fs : List SentFrame) (bytes : List ℕ) → AreWritten room old new fs bytes → length bytes ≡ 0 → new ≡ old
none_handed room old new fs bytes (none_written _ _) e = refl
none_handed room old new fs bytes (more_written _ _ mid _ f gs rest handed fits back others) e =
    let head = frame_bytes (written_frame mid f) in
    let sum = length-append head rest in
    let some = frame_some (written_frame mid f) in
    absurd (omega (arith, sum, some, e))

-- without a byte the streams are as they were
pub same_by : (room : ℕ) (old new : PlainStreams) (out_old out_new : List ℕ) (frames : List SentFrame) → IsWrittenBy room old new out_old out_new [] frames
    → length out_new ≤ length out_old → new ≡ old
same_by room old new out_old out_new frames written short =
    let sum = ap length written.out_is ∙ length-append out_old written.bytes in
    none_handed room old new written.frames written.bytes written.written (omega (arith, sum, short))

module _ (room left : ℕ) (old new : PlainStreams) (out_old out_mid out_new due : List ℕ) (frames : List SentFrame) (wide : 80 ≤ room) (mid_is : out_mid ≡ out_old ++ due)
    (few : length due ≤ 10) (left_is : left ≡ room - (length out_mid - length out_old)) (written : IsWrittenBy left old new out_mid out_new [] frames) where
  -- what is due and then what the streams wrote have room
  pub eliciting_fits : (length out_old ≤ length out_new) × (length out_new ≤ length out_old + room)
  eliciting_fits =
      let first = ap length mid_is ∙ length-append out_old due in
      let second = ap length written.out_is ∙ length-append out_mid written.bytes in
      let fits = written_fits left old new written.frames written.bytes written.written in
      (omega (arith, first, second), omega (arith, first, second, fits, few, left_is, wide))

  -- if nothing was appended nothing waits
  pub eliciting_idle : IsIdle new ⊎ (left < length out_new - length out_mid + max_frame_header + 1) → out_new ≡ out_old → (length due ≡ 0) × IsIdle new
  eliciting_idle full same =
      let first = ap length mid_is ∙ length-append out_old due in
      let second = ap length written.out_is ∙ length-append out_mid written.bytes in
      let lengths = ap length same in
      let no_due : length due ≡ 0 = omega (arith, first, second, lengths) in
      elim full [
        | inl idle ↦ (no_due, idle)
        | inr narrow ↦ absurd (omega (arith, first, lengths, no_due, narrow, left_is, wide))
      ]

  -- with room for these and for what is due no kind of frame keeps another from being sent
  pub eliciting_shared : 610 ≤ room → AreShared old new frames
  eliciting_shared enough =
      let first = ap length mid_is ∙ length-append out_old due in
      subst (AreShared old new) (sym written.sent_is) (written.shared (omega (arith, first, few, left_is, enough)))

-- if no byte is due, no PING and no PATH_RESPONSE is
pub none_due : (ping : Bool) (response : Option (List ℕ)) → length (bytes_if ping ping_bytes ++ response_bytes response) ≡ 0 → (ping ≡ false) × (response ≡ None)
none_due true response e =
    let sum = length-append ping_bytes (response_bytes response) in
    let some = frame_some (frame frame_types.ping []) in
    absurd (omega (arith, sum, some, e))
none_due false None e = (refl, refl)
none_due false (Some echoed) e = let some = frame_some (frame frame_types.path_response (Text echoed ∷ [])) in absurd (omega (arith, some, e))
