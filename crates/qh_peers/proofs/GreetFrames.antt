-- Behind the frames of an Initial packet, of which a CRYPTO frame bears a whole hello, all of that hello is there.
use Rattle.std.proofs.Common.{◌≡◌, ℕ, suc, ◌<◌, ◌≤◌, ◌-◌, nat_lt, true, false, List, [], ◌∷◌, ◌++◌, length, get_or, Option, Some, None, is_some, refl, sym, ap, subst, ◌∙◌, inl, inr, arith}
use Rattle.std.proofs.lemmas.Bool.{cases_lt}
use Rattle.std.proofs.lemmas.Bool.Decides.{nat_tests}
use Rattle.std.proofs.lemmas.Option.{none-some, same_Some, slice_get-get_or, slice_get_within}
use Rattle.std.specs.Prelude.{slice_get}
use Rattle.qh_base.specs.declared.connection_error.ConnectionClose.{ConnectionClose}
use Rattle.qh_base.specs.declared.connection_error.ConnectionError.{ConnectionError}
use Rattle.qh_base.specs.declared.connection_error.ConnectionError.TheVariants.{TransportError as Fault, ConnectionClosed}
use Rattle.qh_base.specs.declared.time.Moment.{Moment}
use Rattle.qh_buffers.specs.Assembler.{byte_of, or_byte}
use Rattle.qh_buffers.specs.declared.assembler.Chunk.{Chunk}
use Rattle.qh_frame.specs.Plain.{plain_of}
use Rattle.qh_frame.specs.WrittenForm.{written_form}
use Rattle.qh_frame.specs.declared.frame.Frame.{Frame}
use Rattle.qh_handshake.proofs.FollowsIn.{first_is}
use Rattle.qh_handshake.specs.Incoming.{AreFramesTaken, IsCut, IsHelloRead, IsOldTo, IsPacketHandled}
use Rattle.qh_handshake.specs.Incoming.AreFramesTaken.{none as none_taken, more as more_taken, closed as closed_taken, refused as refused_taken}
use Rattle.qh_handshake.specs.Incoming.IsHelloRead.{gone as gone_before, known, cut, refused, at_client, at_server}
use Rattle.qh_handshake.specs.Incoming.IsPacketHandled.{repeated, empty, faulty, unnoted, taken}
use Rattle.qh_handshake.specs.Receiving.{IsFrameTaken}
use Rattle.qh_handshake.specs.Receiving.IsFrameTaken.{padding, ping, ack, crypto, close}
use Rattle.qh_handshake.specs.declared.handshake.Handshake.{Handshake}
use Rattle.qh_handshake.specs.declared.initial_space.InitialSpace.{InitialSpace}
use Rattle.qh_hello.specs.Crypto.{IsInFront, PlainCrypto, came_at}
use Rattle.qh_hello.specs.Parts.{IsHelloForm}
use Rattle.qh_spec.proofs.FrameLaws.{quic_frames_agree}
use Rattle.qh_spec.specs.Greeted.{crypto_frame}
use Rattle.qh_spec.specs.Lists.{In}
use Rattle.qh_spec.specs.QuicFrames.{QuicFrame, Value, Num, Text, AreQuicFrames}

-- each byte of the hello came, and what of the CRYPTO bytes has nothing missing in front of it can be read
pub record HasWhole (hello : List ℕ) (s : InitialSpace) : Type 0 where
  pub reach : (k : ℕ) → k < length hello → came_at s.crypto k ≡ None → ⊥
  pub in_front : IsInFront s.crypto

-- ---- a frame

no_first : (o p : Option ℕ) → or_byte o p ≡ None → o ≡ None
no_first None p e = refl
no_first (Some b) p e = e

no_second : (o p : Option ℕ) → or_byte o p ≡ None → p ≡ None
no_second None p e = e
no_second (Some b) p e = absurd (none-some b (sym e))

same_whole : (hello : List ℕ) (old new : InitialSpace) → new.crypto ≡ old.crypto → HasWhole hello old → HasWhole hello new
same_whole hello old new e w = record {
  reach = λ k within none. w.reach k within (ap (λ (z : PlainCrypto). came_at z k) (sym e) ∙ none);
  in_front = subst (λ (z : PlainCrypto). IsInFront z) (sym e) w.in_front;
}

frame_keeps : (hello : List ℕ) (now : ℕ) (old new : InitialSpace) (f : Frame) (closed : Option ConnectionClose) → IsFrameTaken now old new f closed → HasWhole hello old → HasWhole hello new
frame_keeps hello now old new f closed (padding e) w = same_whole hello old new (ap (λ (s : InitialSpace). s.crypto) e) w
frame_keeps hello now old new f closed (ping e) w = same_whole hello old new (ap (λ (s : InitialSpace). s.crypto) e) w
frame_keeps hello now old new f closed (ack a r) w = same_whole hello old new (ap (λ (s : InitialSpace). s.crypto) r.lost.rest_is ∙ ap (λ (s : InitialSpace). s.crypto) r.mid_is) w
frame_keeps hello now old new f closed (crypto _ piece is t) w = record {
  reach = λ k within none. w.reach k within (no_first (came_at old.crypto k) (byte_of piece k) (sym (t.taken k) ∙ none));
  in_front = t.in_front;
}
frame_keeps hello now old new f closed (close _ code kind reason said is says e) w = same_whole hello old new (ap (λ (s : InitialSpace). s.crypto) e) w

abbrev offset_of : List Value → ℕ
offset_of (Num offset ∷ rest) = offset
offset_of _ = 0

abbrev text_of : List Value → List ℕ
text_of (first ∷ Text payload ∷ rest) = payload
text_of _ = []

not_below : (k m : ℕ) → 0 ≡ m → nat_lt k m ≡ false
not_below k m e = grind (arith, nat_tests)

no_gap : (piece : Chunk) (hello : List ℕ) (k : ℕ) → 0 ≡ piece.offset → hello ≡ piece.bytes → k < length hello → byte_of piece k ≡ None → ⊥
no_gap piece hello k at is within none =
    let behind : slice_get piece.bytes (k - piece.offset) ≡ None = rw (not_below k piece.offset at) at none in
    let offset : k - piece.offset ≡ k = omega (arith, at) in
    let gone : slice_get hello k ≡ None = subst (λ (z : List ℕ). slice_get z k ≡ None) (sym is) (subst (λ (n : ℕ). slice_get piece.bytes n ≡ None) offset behind) in
    none-some (get_or hello k 0) (sym gone ∙ slice_get-get_or hello k 0 within)

whole_frame : (hello : List ℕ) (now : ℕ) (old new : InitialSpace) (f : Frame) (closed : Option ConnectionClose) → IsFrameTaken now old new f closed → crypto_frame 0 hello ≡ plain_of f → HasWhole hello new
whole_frame hello now old new f closed (padding e) is = absurd (omega (arith, ap (λ (q : QuicFrame). q.kind) is))
whole_frame hello now old new f closed (ping e) is = absurd (omega (arith, ap (λ (q : QuicFrame). q.kind) is))
whole_frame hello now old new f closed (ack a r) is = absurd (omega (arith, ap (λ (q : QuicFrame). q.kind) is))
whole_frame hello now old new f closed (crypto _ piece so t) is =
    let both : crypto_frame 0 hello ≡ crypto_frame piece.offset piece.bytes = is ∙ so in
    let at : 0 ≡ piece.offset = ap (λ (q : QuicFrame). offset_of q.values) both in
    let text : hello ≡ piece.bytes = ap (λ (q : QuicFrame). text_of q.values) both in
    record {
      reach = λ k within none. no_gap piece hello k at text within (no_second (came_at old.crypto k) (byte_of piece k) (sym (t.taken k) ∙ none));
      in_front = t.in_front;
    }
whole_frame hello now old new f closed (close _ code kind reason said so says e) is = absurd (omega (arith, ap (λ (q : QuicFrame). q.kind) (is ∙ so)))

-- ---- the frames of a packet

frames_keep : (hello : List ℕ) (now : ℕ) (bytes : List ℕ) (old new : InitialSpace) (end : Option ConnectionError) → AreFramesTaken now bytes old new end → HasWhole hello old → HasWhole hello new
frames_keep hello now bytes old new end (none_taken _) w = w
frames_keep hello now bytes old new end (more_taken _ rest f _ mid _ _ begins fits one behind) w = frames_keep hello now rest mid new end behind (frame_keeps hello now old mid f None one w)
frames_keep hello now bytes old new end (closed_taken _ rest f _ _ said begins fits one) w = frame_keeps hello now old new f (Some said) one w
frames_keep hello now bytes old new end (refused_taken _ rest f _ error begins named refusal) w = w

frames_whole : (hello : List ℕ) (now : ℕ) (bytes : List ℕ) (old new : InitialSpace) (end : Option ConnectionError) (fs : List QuicFrame) → AreFramesTaken now bytes old new end → end ≡ None
    → AreQuicFrames bytes fs → In (crypto_frame 0 hello) fs → HasWhole hello new
frames_whole hello now bytes old new end fs (none_taken _) none are there =
    absurd (subst (λ (z : List QuicFrame). In (crypto_frame 0 hello) z) (quic_frames_agree [] fs [] are refl) there)
frames_whole hello now bytes old new end fs (more_taken _ rest f _ mid _ _ begins fits one behind) none are there =
    let first = first_is bytes rest (plain_of f) fs begins are in
    elim (subst (λ (z : List QuicFrame). In (crypto_frame 0 hello) z) first.2 there) [
      | inl same ↦ frames_keep hello now rest mid new end behind (whole_frame hello now old mid f None one (subst (λ (z : QuicFrame). written_form z ≡ plain_of f) same first.3))
      | inr later ↦ frames_whole hello now rest mid new end first.1 behind none first.4 later
    ]
frames_whole hello now bytes old new end fs (closed_taken _ rest f _ _ said begins fits one) none are there = absurd (none-some (ConnectionClosed said) (sym none))
frames_whole hello now bytes old new end fs (refused_taken _ rest f _ error begins named refusal) none are there = absurd (none-some (Fault error) (sym none))

-- a packet that is new, and ends nothing
pub packet_whole : (hello : List ℕ) (now : Moment) (number : ℕ) (frames : List ℕ) (old new : InitialSpace) (end : Option ConnectionError) (fs : List QuicFrame) → IsPacketHandled now number frames old new end
    → end ≡ None → (IsOldTo old number → ⊥) → AreQuicFrames frames fs → In (crypto_frame 0 hello) fs → HasWhole hello new
packet_whole hello now number frames old new end fs (repeated was e) none fresh are there = absurd (fresh was)
packet_whole hello now number frames old new end fs (empty error is_new no_bytes fault e) none fresh are there = absurd (none-some (Fault error) (sym none))
packet_whole hello now number frames old new end fs (faulty error kind is_new fault code e) none fresh are there = absurd (none-some (Fault error) (sym none))
packet_whole hello now number frames old new end fs (unnoted error is_eliciting is_new valid t e) none fresh are there = absurd (none-some (Fault error) (sym none))
packet_whole hello now number frames old new end fs (taken mid is_eliciting _ is_new valid a t) none fresh are there = frames_whole hello now.0 frames mid new end fs t none are there

-- ---- the hello is read

begins : (xs ys : List ℕ) → ((k byte : ℕ) → slice_get xs k ≡ Some byte → slice_get ys k ≡ Some byte) → (rest : List ℕ) × (ys ≡ xs ++ rest)
begins [] ys has = (ys, refl)
begins (x ∷ xs) [] has = absurd (none-some x (has 0 x refl))
begins (x ∷ xs) (y ∷ ys) has =
    let behind = begins xs ys (λ k byte at. has (suc k) byte at) in
    let first : y ≡ x = same_Some y x (has 0 x refl) in
    let others : ys ≡ xs ++ behind.0 = behind.1 in
    (behind.0, cc)

-- each CRYPTO byte that can be read is the hello's
abbrev pub AreOf : (hello : List ℕ) → InitialSpace → Type 0
AreOf hello s = (k byte : ℕ) → slice_get s.crypto.bytes k ≡ Some byte → slice_get hello k ≡ Some byte

never_cut : (hello : List ℕ) (s : InitialSpace) → IsHelloForm hello → HasWhole hello s → AreOf hello s → IsCut s.crypto.bytes → ⊥
never_cut hello s form w of is_cut =
    let bytes : List ℕ = s.crypto.bytes in
    let long : length hello ≤ length bytes = elim (cases_lt (length bytes) (length hello)) [
      | inl less ↦ absurd (w.reach (length bytes) less w.in_front)
      | inr most ↦ most
    ] in
    let b = begins hello bytes (λ k byte at.
    let within = slice_get_within hello k byte at in
    let got = slice_get-get_or bytes k 0 (omega (arith, within, long)) in
    got ∙ sym (of k (get_or bytes k 0) got) ∙ at) in
    is_cut hello b.0 b.1 form

-- a hello that came whole is
pub read_greets : (hello : List ℕ) (old new : Handshake) (mid : InitialSpace) (learned : Option (List ℕ)) (end : Option ConnectionError) → IsHelloForm hello → old.space ≡ Some mid → HasWhole hello mid
    → ((s : InitialSpace) → new.space ≡ Some s → AreOf hello s) → IsHelloRead old new learned end → end ≡ None → is_some new.peer ≡ true
read_greets hello old new mid learned end form there w of (gone_before none e) fine = absurd (none-some mid (sym none ∙ there))
read_greets hello old new mid learned end form there w of (known p is e) fine = ap (λ (h : Handshake). is_some h.peer) e ∙ ap is_some is
read_greets hello old new mid learned end form there w of (cut s is is_cut e) fine =
    let same : s ≡ mid = same_Some s mid (sym is ∙ there) in
    absurd (never_cut hello mid form w (of mid (ap (λ (h : Handshake). h.space) e ∙ there)) (subst (λ (z : InitialSpace). IsCut z.crypto.bytes) same is_cut))
read_greets hello old new mid learned end form there w of (refused s front rest fault error is unread whole its has code e) fine = absurd (none-some (Fault error) (sym fine))
read_greets hello old new mid learned end form there w of (at_client name p is client e) fine = ap (λ (h : Handshake). is_some h.peer) e
read_greets hello old new mid learned end form there w of (at_server s name p is server has e) fine = ap (λ (h : Handshake). is_some h.peer) e
