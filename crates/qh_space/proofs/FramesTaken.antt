-- Frames that change nothing, and those by which the peer closes.
use Rattle.std.proofs.Common.{◌≡◌, ℕ, List, Option, None, Some, true, refl, sym, Bool}
use Rattle.qh_base.specs.declared.connection_error.ConnectionError.{ConnectionError}
use Rattle.qh_frame.specs.declared.ack.Ack.{Ack}
use Rattle.qh_frame.specs.declared.frame.Frame.{Frame}
use Rattle.qh_frame.specs.declared.frame.Frame.TheVariants as kind
use Rattle.qh_space.specs.Receiving.{IsFrameTaken, IsClosedBy, coming_of, frame_refusal, is_passive}
use Rattle.qh_space.specs.Receiving.IsFrameTaken.{passive, close}
use Rattle.qh_space.specs.declared.data_space.DataSpace.{DataSpace}
use Rattle.std.proofs.lemmas.Option.{none-some}

-- it is none of the frames that are taken each in its own way
pub record IsOther (s : DataSpace) (f : Frame) : Type 0 where
  pub no_streams : coming_of f ≡ None
  pub no_ack : (a : Ack) → f ≡ kind.Ack a → ⊥
  pub no_token : (token : _) → f ≡ kind.NewToken token → ⊥
  pub no_challenge : (bytes : List ℕ) → f ≡ kind.PathChallenge bytes → ⊥
  pub no_confirmation : f ≡ kind.HandshakeDone → ⊥
  pub no_datagram : (payload : _) (has_length : Bool) → f ≡ kind.Datagram payload has_length → ⊥

is_free : (s : DataSpace) (f : Frame) → IsOther s f → frame_refusal s f ≡ None
is_free s kind.Padding other = refl
is_free s kind.Ping other = refl
is_free s (kind.Ack a) other = absurd (other.no_ack a refl)
is_free s (kind.ResetStream id code size) other = absurd (none-some _ (sym other.no_streams))
is_free s (kind.StopSending id code) other = absurd (none-some _ (sym other.no_streams))
is_free s (kind.Crypto offset payload) other = refl
is_free s (kind.NewToken token) other = absurd (other.no_token token refl)
is_free s (kind.Stream stream) other = absurd (none-some _ (sym other.no_streams))
is_free s (kind.MaxData limit) other = absurd (none-some _ (sym other.no_streams))
is_free s (kind.MaxStreamData id limit) other = absurd (none-some _ (sym other.no_streams))
is_free s (kind.MaxStreams dir count) other = absurd (none-some _ (sym other.no_streams))
is_free s (kind.DataBlocked limit) other = refl
is_free s (kind.StreamDataBlocked id limit) other = refl
is_free s (kind.StreamsBlocked dir count) other = refl
is_free s (kind.NewConnectionId sequence prior id token) other = refl
is_free s (kind.RetireConnectionId sequence) other = refl
is_free s (kind.PathChallenge bytes) other = absurd (other.no_challenge bytes refl)
is_free s (kind.PathResponse bytes) other = refl
is_free s (kind.ConnectionClose code frame reason) other = refl
is_free s (kind.ApplicationClose code reason) other = refl
is_free s kind.HandshakeDone other = absurd (other.no_confirmation refl)
is_free s (kind.Datagram payload has_length) other = absurd (other.no_datagram payload has_length refl)

closes_not : (s : DataSpace) (f : Frame) → IsOther s f → IsClosedBy f None → is_passive f ≡ true
closes_not s kind.Padding other closed = refl
closes_not s kind.Ping other closed = refl
closes_not s (kind.Ack a) other closed = absurd (other.no_ack a refl)
closes_not s (kind.ResetStream id code size) other closed = absurd (none-some _ (sym other.no_streams))
closes_not s (kind.StopSending id code) other closed = absurd (none-some _ (sym other.no_streams))
closes_not s (kind.Crypto offset payload) other closed = refl
closes_not s (kind.NewToken token) other closed = refl
closes_not s (kind.Stream stream) other closed = absurd (none-some _ (sym other.no_streams))
closes_not s (kind.MaxData limit) other closed = absurd (none-some _ (sym other.no_streams))
closes_not s (kind.MaxStreamData id limit) other closed = absurd (none-some _ (sym other.no_streams))
closes_not s (kind.MaxStreams dir count) other closed = absurd (none-some _ (sym other.no_streams))
closes_not s (kind.DataBlocked limit) other closed = refl
closes_not s (kind.StreamDataBlocked id limit) other closed = refl
closes_not s (kind.StreamsBlocked dir count) other closed = refl
closes_not s (kind.NewConnectionId sequence prior id token) other closed = refl
closes_not s (kind.RetireConnectionId sequence) other closed = refl
closes_not s (kind.PathChallenge bytes) other closed = absurd (other.no_challenge bytes refl)
closes_not s (kind.PathResponse bytes) other closed = refl
closes_not s (kind.ConnectionClose code frame reason) other closed = absurd closed
closes_not s (kind.ApplicationClose code reason) other closed = absurd closed
closes_not s kind.HandshakeDone other closed = refl
closes_not s (kind.Datagram payload has_length) other closed = absurd (other.no_datagram payload has_length refl)

pub other_taken : (now : ℕ) (s : DataSpace) (f : Frame) (closed : Option ConnectionError) → IsOther s f → IsClosedBy f closed
    → IsFrameTaken now s s f closed × (frame_refusal s f ≡ None)
other_taken now s f None other closed = (passive f (closes_not s f other closed) refl, is_free s f other)
other_taken now s f (Some e) other closed = (close f e closed refl, is_free s f other)
