-- What a write buffer holds.
use Rattle.std.proofs.Common.{◌≡◌, ℕ, List, ◌++◌, length, ap, ◌∙◌, append_assoc, append-nil}
use Rattle.qh_h3wire.specs.FrameBytes.{frame_bytes, shared_payload, head_bytes}
use Rattle.qh_h3wire.specs.declared.frame.Frame.{Frame}
use Rattle.qh_h3wire.specs.declared.frame.Frame.TheVariants.{Data, Headers, CancelPush, Settings, PushPromise, Goaway, MaxPushId, Grease, DataLen}
use Rattle.qh_spec.specs.Varint.{varint}

head_and_payload : (f : Frame) → head_bytes f ++ shared_payload f ≡ frame_bytes f
head_and_payload (Data payload) = append_assoc (varint 0) (varint (length payload)) payload
head_and_payload (Headers section) = append_assoc (varint 1) (varint (length section)) section
head_and_payload (CancelPush id) = append-nil (frame_bytes (CancelPush id))
head_and_payload (Settings s) = append-nil (frame_bytes (Settings s))
head_and_payload (PushPromise id section) =
    append_assoc (varint 5) (varint (length (varint id ++ section)) ++ varint id) section
    ∙ ap (λ (z : List ℕ). varint 5 ++ z) (append_assoc (varint (length (varint id ++ section))) (varint id) section)
head_and_payload (Goaway id) = append-nil (frame_bytes (Goaway id))
head_and_payload (MaxPushId id) = append-nil (frame_bytes (MaxPushId id))
head_and_payload Grease = append-nil (frame_bytes Grease)
head_and_payload (DataLen n) = append-nil (frame_bytes (DataLen n))

-- something in front of a frame
pub both_is : (head front x payload : List ℕ) (f : Frame) → front ≡ x → head ≡ front ++ head_bytes f → payload ≡ shared_payload f → head ++ payload ≡ x ++ frame_bytes f
both_is head front x payload f a b c =
    ap (λ (z : List ℕ). z ++ payload) (b ∙ ap (λ (z : List ℕ). z ++ head_bytes f) a) ∙ ap (λ (z : List ℕ). (x ++ head_bytes f) ++ z) c
    ∙ append_assoc x (head_bytes f) (shared_payload f) ∙ ap (λ (z : List ℕ). x ++ z) (head_and_payload f)
