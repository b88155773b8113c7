-- What stands in front of bytes.
use Rattle.std.proofs.Common.{◌≡◌, ◌<◌, ◌≤◌, ◌==◌, ◌&&◌, ℕ, Bool, true, false, List, [], ◌∷◌, ◌++◌, length, take, drop, refl, sym, ap, ◌∙◌, arith, inl, inr, Option, Some, None, Result, Ok, Err, subst, append-nil, length-append}
use Rattle.std.proofs.lemmas.Bool.{eqb-true}
use Rattle.std.proofs.lemmas.List.{take-append-drop, length-drop}
use Rattle.qh_spec.specs.HttpFrame.{HttpFrame, IsHttpFrame, data_frame}
use Rattle.qh_spec.proofs.Varints.{no_empty_varint}
use Rattle.qh_spec.specs.Varint.{IsVarint}
use Rattle.qh_h3wire.specs.Frame.{IsDataHeader, IsMeant, IfFrame, IfDataLen, IfForbidden, IfUnknown, IfMalformed, IfSettingsError, IsReservedFrame, IsUnknownFrame, IsMalformedFrame, IsFaultySettings, IsRead}
use Rattle.qh_h3wire.specs.FrameAt.{frame_at}
use Rattle.qh_h3wire.specs.declared.frame.Frame.{Frame}
use Rattle.qh_h3wire.specs.declared.frame.Frame.TheVariants.{Data, Headers, CancelPush, Settings, PushPromise, Goaway, MaxPushId, Grease, DataLen}
use Rattle.qh_h3wire.specs.declared.frame.FrameError.{FrameError}
use Rattle.qh_h3wire.specs.declared.frame.FrameError.TheVariants as error
use Rattle.qh_h3.specs.Finding.{IsSkipped, IsHead, IsRefused, IsHalt, fault_of, is_passed, is_unknown, is_short}

never : false ≡ true → ⊥
never h = let z : false ≡ true = h in cc

both : (a b : Bool) → a && b ≡ true → (a ≡ true) × (b ≡ true)
both true true h = (refl, refl)
both true false h = absurd (never h)
both false b h = absurd (never h)

some_bytes : (xs : List ℕ) (n : ℕ) → IsVarint xs n → 0 < length xs
some_bytes [] n v = absurd (no_empty_varint n v)
some_bytes (x ∷ xs) n v = omega arith

-- a frame has a byte
pub frame_has_byte : (bytes : List ℕ) (f : HttpFrame) → IsHttpFrame bytes f → 0 < length bytes
frame_has_byte bytes f is =
    let n = ap length is.whole in
    let a = length-append is.kind_bytes (is.length_bytes ++ f.payload) in
    let b = some_bytes is.kind_bytes f.kind is.kind_is in
    omega (arith, n, a, b)

empty_data : (bytes : List ℕ) (n : ℕ) → n ≡ 0 → IsDataHeader bytes n → IsHttpFrame bytes (data_frame [])
empty_data bytes n e d = record {
  kind_bytes = d.kind_bytes;
  length_bytes = d.length_bytes;
  whole = d.whole ∙ ap (λ (z : List ℕ). d.kind_bytes ++ z) (sym (append-nil d.length_bytes));
  kind_is = d.kind_is;
  length_is = subst (IsVarint d.length_bytes) e d.length_is;
}

-- a frame in front is skipped
pub record HasSkipped (of_body : Bool) (bytes : List ℕ) (used : ℕ) : Type 0 where
  pub frame : HttpFrame
  pub is : IsHttpFrame (take used bytes) frame
  pub skipped : IsSkipped of_body frame

pub passed : (of_body : Bool) (r : Result Frame FrameError) (f : Frame) (bytes : List ℕ) (used : ℕ) → r ≡ Ok f → is_passed of_body f ≡ true
    → IfDataLen r (λ n. IsDataHeader (take used bytes) n) → HasSkipped of_body bytes used
passed of_body r f bytes used e p d = go f p (subst (λ (z : Result Frame FrameError). IfDataLen z (λ n. IsDataHeader (take used bytes) n)) e d)
  where
    go : (f : Frame) → is_passed of_body f ≡ true → IfDataLen (Ok f) (λ n. IsDataHeader (take used bytes) n) → HasSkipped of_body bytes used
    go (DataLen n) p d =
        let b = both of_body (n == 0) p in
        record { frame = data_frame []; is = empty_data (take used bytes) n (eqb-true n 0 b.1) d; skipped = inr (b.0, refl) }
    go (Data x) p d = absurd (never p)
    go (Headers x) p d = absurd (never p)
    go (CancelPush x) p d = absurd (never p)
    go (Settings x) p d = absurd (never p)
    go (PushPromise x y) p d = absurd (never p)
    go (Goaway x) p d = absurd (never p)
    go (MaxPushId x) p d = absurd (never p)
    go Grease p d = absurd (never p)

pub unknown : (of_body : Bool) (r : Result Frame FrameError) (e : FrameError) (bytes : List ℕ) (used : ℕ) → r ≡ Err e → is_unknown e ≡ true
    → IfUnknown r (λ kind. IsUnknownFrame (take used bytes) kind) → HasSkipped of_body bytes used
unknown of_body r e bytes used eq p u = go e p (subst (λ (z : Result Frame FrameError). IfUnknown z (λ kind. IsUnknownFrame (take used bytes) kind)) eq u)
  where
    go : (e : FrameError) → is_unknown e ≡ true → IfUnknown (Err e) (λ kind. IsUnknownFrame (take used bytes) kind) → HasSkipped of_body bytes used
    go (error.UnknownFrame kind) p u = record { frame = record { kind = kind; payload = u.payload }; is = u.is; skipped = inl u.unknown }
    go error.Malformed p u = absurd (never p)
    go (error.ForbiddenFrame kind) p u = absurd (never p)
    go error.InvalidFrameValue p u = absurd (never p)
    go (error.Incomplete n) p u = absurd (never p)
    go (error.Settings s) p u = absurd (never p)
    go (error.InvalidStreamId n) p u = absurd (never p)
    go (error.InvalidPushId n) p u = absurd (never p)
    go error.Memory p u = absurd (never p)

-- the step that skips it
pub skip_step : (of_body : Bool) (bytes rest : List ℕ) (used : ℕ) → HasSkipped of_body bytes used → rest ≡ drop used bytes
    → ((f : HttpFrame) × (front : List ℕ) × (bytes ≡ front ++ rest) × IsHttpFrame front f × IsSkipped of_body f)
skip_step of_body bytes rest used s e =
    (s.frame, take used bytes, sym (take-append-drop used bytes) ∙ ap (λ (z : List ℕ). take used bytes ++ z) (sym e), s.is, s.skipped)

pub skip_shorter : (of_body : Bool) (bytes rest : List ℕ) (used : ℕ) → HasSkipped of_body bytes used → rest ≡ drop used bytes → length rest < length bytes
skip_shorter of_body bytes rest used s e =
    let n = ap length (sym (take-append-drop used bytes)) in
    let m = length-append (take used bytes) (drop used bytes) in
    let k = ap length e in
    let f = frame_has_byte (take used bytes) s.frame s.is in
    omega (arith, n, m, k, f)

pub head_is : (r : Result Frame FrameError) (f : Frame) (bytes : List ℕ) (used : ℕ) → r ≡ Ok f
    → IfFrame r (λ frame. IsMeant (take used bytes) frame) → IfDataLen r (λ n. IsDataHeader (take used bytes) n) → IsHead (take used bytes) f
head_is r f bytes used e m d =
    go f (subst (λ (z : Result Frame FrameError). IfFrame z (λ frame. IsMeant (take used bytes) frame)) e m) (subst (λ (z : Result Frame FrameError). IfDataLen z (λ n. IsDataHeader (take used bytes) n)) e d)
  where
    go : (f : Frame) → IfFrame (Ok f) (λ frame. IsMeant (take used bytes) frame) → IfDataLen (Ok f) (λ n. IsDataHeader (take used bytes) n) → IsHead (take used bytes) f
    go (DataLen n) m d = d
    go (Data x) m d = m
    go (Headers x) m d = m
    go (CancelPush x) m d = m
    go (Settings x) m d = m
    go (PushPromise x y) m d = m
    go (Goaway x) m d = m
    go (MaxPushId x) m d = m
    go Grease m d = m

pub found_step : (of_body : Bool) (r : Result Frame FrameError) (f : Frame) (bytes rest : List ℕ) (used : ℕ) → r ≡ Ok f → is_passed of_body f ≡ false → rest ≡ drop used bytes
    → IfFrame r (λ frame. IsMeant (take used bytes) frame) → IfDataLen r (λ n. IsDataHeader (take used bytes) n)
    → ((head : List ℕ) × (bytes ≡ head ++ rest) × IsHead head f × (is_passed of_body f ≡ false))
found_step of_body r f bytes rest used e p c m d =
    (take used bytes, sym (take-append-drop used bytes) ∙ ap (λ (z : List ℕ). take used bytes ++ z) (sym c), head_is r f bytes used e m d, p)

-- what `Frame::decode` says of a frame that it refuses
pub record AreFaults (r : Result Frame FrameError) (bytes : List ℕ) (used : ℕ) : Type 0 where
  pub exact : IsRead r used (frame_at bytes)
  pub malformed : IfMalformed r (IsMalformedFrame (take used bytes))
  pub forbidden : IfForbidden r (λ kind. IsReservedFrame (take used bytes) kind)
  pub settings : IfSettingsError r (λ e. IsFaultySettings (take used bytes) e)

pub halt_is : (r : Result Frame FrameError) (e : FrameError) (bytes : List ℕ) (used : ℕ) → r ≡ Err e → is_unknown e ≡ false → is_short e ≡ false → AreFaults r bytes used → IsHalt bytes (fault_of e)
halt_is r e bytes used eq u s f = go e u s (subst (λ (z : Result Frame FrameError). AreFaults z bytes used) eq f)
  where
    go : (e : FrameError) → is_unknown e ≡ false → is_short e ≡ false → AreFaults (Err e) bytes used → IsHalt bytes (fault_of e)
    go error.Malformed u s f = (used, f.malformed)
    go (error.ForbiddenFrame kind) u s f = (used, f.forbidden)
    go (error.UnknownFrame kind) u s f = absurd (never (sym u))
    go error.InvalidFrameValue u s f = (used, sym f.exact)
    go (error.Incomplete n) u s f = absurd (never (sym s))
    go (error.Settings e) u s f = (used, f.settings)
    go (error.InvalidStreamId n) u s f = (used, sym f.exact)
    go (error.InvalidPushId n) u s f = (used, sym f.exact)
    go error.Memory u s f = tt

-- ---- the same, of a slice of the bytes

module _ (of_body : Bool) (r : Result Frame FrameError) (slice bytes : List ℕ) (used : ℕ) (same : slice ≡ bytes) where
  pub passed_in : (f : Frame) → r ≡ Ok f → is_passed of_body f ≡ true → IfDataLen r (λ n. IsDataHeader (take used slice) n) → HasSkipped of_body bytes used
  passed_in f e p d = passed of_body r f bytes used e p (subst (λ (z : List ℕ). IfDataLen r (λ n. IsDataHeader (take used z) n)) same d)

  pub unknown_in : (e : FrameError) → r ≡ Err e → is_unknown e ≡ true → IfUnknown r (λ kind. IsUnknownFrame (take used slice) kind) → HasSkipped of_body bytes used
  unknown_in e eq p u = unknown of_body r e bytes used eq p (subst (λ (z : List ℕ). IfUnknown r (λ kind. IsUnknownFrame (take used z) kind)) same u)

  pub found_in : (rest : List ℕ) (f : Frame) → r ≡ Ok f → is_passed of_body f ≡ false → rest ≡ drop used bytes
      → IfFrame r (λ frame. IsMeant (take used slice) frame) → IfDataLen r (λ n. IsDataHeader (take used slice) n)
      → ((head : List ℕ) × (bytes ≡ head ++ rest) × IsHead head f × (is_passed of_body f ≡ false))
  found_in rest f e p c m d =
      found_step of_body r f bytes rest used e p c (subst (λ (z : List ℕ). IfFrame r (λ frame. IsMeant (take used z) frame)) same m) (subst (λ (z : List ℕ). IfDataLen r (λ n. IsDataHeader (take used z) n)) same d)

module _ (r : Result Frame FrameError) (slice bytes : List ℕ) (used : ℕ) (same : slice ≡ bytes) where
  pub halt_in : (e : FrameError) → r ≡ Err e → is_unknown e ≡ false → is_short e ≡ false → AreFaults r slice used → IsHalt bytes (fault_of e)
  halt_in e eq u s f = halt_is r e bytes used eq u s (subst (λ (z : List ℕ). AreFaults r z used) same f)
