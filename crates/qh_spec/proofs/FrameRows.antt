-- Frames of QUIC and of HTTP/3 that are none, and those that no Initial packet holds.
use Rattle.std.proofs.Common.{◌≡◌, inl, inr, ℕ, ◌<◌, List, [], ◌∷◌, ◌++◌, length, Option, Some, None, refl, sym, ap, ◌∙◌, arith}
use Rattle.qh_spec.specs.FrameViews.{stream_of, MayBeInitial, AreInitialFrames}
use Rattle.qh_spec.specs.HttpFrame.{HttpFrame, IsHttpFrame, headers_frame}
use Rattle.qh_spec.specs.QuicFrames.{Part, QuicFrame, Value, shape_of, IsQuicFrame}
use Rattle.qh_spec.specs.Varint.{one}
use Rattle.qh_spec.specs.WireRows.{get_section, initial_packet, forged_packet, hi_frame, hi_run}
use Rattle.qh_spec.proofs.Cuts.{varints_agree}

no_shape : shape_of 31 ≡ None
unfolding shape_of
no_shape = refl

-- the type 1f is none
pub unknown_none : (f : QuicFrame) (rest : List ℕ) → IsQuicFrame (31 ∷ []) f rest → ⊥
unknown_none f rest p =
    let number = p.kind in
    let r = varints_agree (31 ∷ []) [] number.0 p.fields 31 f.kind (one (omega arith) refl) number.2 number.1 in
    let both : ◌≡◌ {A = Option (List Part)} None (Some p.shape) = sym no_shape ∙ ap shape_of r.0 ∙ p.shaped in
    cc

-- a PING may stand in an Initial packet
pub ping_may : (values : List Value) → MayBeInitial (record { kind = 1; values = values })
ping_may values = inr (inl refl)

-- a STREAM frame may not
pub stream_may_not : (f : QuicFrame) → 7 < f.kind → f.kind < 28 → MayBeInitial f → ⊥
stream_may_not f low high (inl e) = omega (arith, e, low, high)
stream_may_not f low high (inr (inl e)) = omega (arith, e, low, high)
stream_may_not f low high (inr (inr (inl e))) = omega (arith, e, low, high)
stream_may_not f low high (inr (inr (inr (inl e)))) = omega (arith, e, low, high)
stream_may_not f low high (inr (inr (inr (inr (inl e))))) = omega (arith, e, low, high)
stream_may_not f low high (inr (inr (inr (inr (inr (inl e)))))) = omega (arith, e, low, high)
stream_may_not f low high (inr (inr (inr (inr (inr (inr h)))))) = h

-- a HEADERS frame
pub headers_is : IsHttpFrame (1 ∷ 13 ∷ get_section) (headers_frame get_section)
headers_is = record { kind_bytes = 1 ∷ []; length_bytes = 13 ∷ []; whole = refl; kind_is = one (omega arith) refl; length_is = one (omega arith) refl }

-- a DATA frame of three bytes that has two
pub cut_none : (f : HttpFrame) → IsHttpFrame (0 ∷ 3 ∷ 49 ∷ 50 ∷ []) f → ⊥
cut_none f p =
    let kinds = varints_agree (0 ∷ []) (3 ∷ 49 ∷ 50 ∷ []) p.kind_bytes (p.length_bytes ++ f.payload) 0 f.kind (one (omega arith) refl) p.kind_is p.whole in
    let counts = varints_agree (3 ∷ []) (49 ∷ 50 ∷ []) p.length_bytes f.payload 3 (length f.payload) (one (omega arith) refl) p.length_is kinds.1 in
    let said : 3 ≡ length f.payload = counts.0 in
    let two : 2 ≡ length f.payload = ap length counts.1 in
    absurd (omega (arith, said, two))

no_initial_done : MayBeInitial (record { kind = 30; values = [] }) → ⊥
no_initial_done (inl e) = omega (arith, e)
no_initial_done (inr (inl e)) = omega (arith, e)
no_initial_done (inr (inr (inl e))) = omega (arith, e)
no_initial_done (inr (inr (inr (inl e)))) = omega (arith, e)
no_initial_done (inr (inr (inr (inr (inl e))))) = omega (arith, e)
no_initial_done (inr (inr (inr (inr (inr (inl e)))))) = omega (arith, e)
no_initial_done (inr (inr (inr (inr (inr (inr h)))))) = h

-- the frames of an Initial packet, and of a packet that is none
pub initial_frames : AreInitialFrames initial_packet.frames × (AreInitialFrames forged_packet.frames → ⊥)
initial_frames = ((ping_may [], tt), λ all. no_initial_done all.0)

-- a STREAM frame is seen as one, and a CRYPTO frame isn't
pub views : (stream_of hi_frame ≡ Some hi_run) × ((values : List Value) → stream_of (record { kind = 6; values = values }) ≡ None)
views = (refl, λ values. refl)
