-- One-way streams of the peer (RFC 9114, section 6.2; RFC 9204, section 4.2).
use Rattle.std.specs.Prelude.{◌≡◌, ℕ, Bool, true, false, ◌==◌, Option, Some, None, Result, Ok, Err, if◌then◌else◌}
use Rattle.futures.specs.declared.task.Poll.{Poll}
use Rattle.futures.specs.declared.task.Poll.TheVariants.{Ready, Pending}
use Rattle.qh_spec.specs.Codes as codes
use Rattle.qh_h3wire.specs.StreamTypes as types
use Rattle.qh_h3.specs.Control.{EndsWith}
use Rattle.qh_h3.specs.Framed.{Framed}
use Rattle.qh_h3.specs.declared.connection.one_way.Kind.{Kind}
use Rattle.qh_h3.specs.declared.connection.one_way.Kind.TheVariants.{Control, Encoder, Decoder, Push, Unknown, Gone}
use Rattle.qh_h3.specs.declared.error.ErrorOrigin.{ErrorOrigin}
use Rattle.qh_h3.specs.declared.error.ErrorOrigin.TheVariants as origin
use Rattle.qh_h3.specs.declared.frame.error.FrameStreamError.{FrameStreamError}
use Rattle.qh_h3.specs.declared.frame.error.FrameStreamError.TheVariants.{Quic, Memory}
use Rattle.qh_h3.specs.declared.quic.error.ConnectionErrorIncoming.TheVariants as lost
use Rattle.qh_h3.specs.declared.quic.error.StreamErrorIncoming.TheVariants as fault

-- the kind that a type stands for
abbrev pub kind_at : ℕ → Kind
kind_at n = if n == types.control then Control
    else if n == types.push then Push
    else if n == types.qpack_encoder then Encoder
    else if n == types.qpack_decoder then Decoder
    else Unknown

-- What a stream is once its type was looked for. One that ends or fails before is tolerated (RFC 9114, section 6.2), and the loss of the connection ends it.
abbrev pub sorted : Result (Option ℕ) FrameStreamError → Result Kind ErrorOrigin
sorted (Ok (Some n)) = Ok (kind_at n)
sorted (Ok None) = Ok Gone
sorted (Err (Quic (fault.ConnectionErrorIncoming e))) = Err (origin.Quic e)
sorted (Err (Quic fault.Memory)) = Err (origin.Quic lost.Memory)
sorted (Err (Quic e)) = Ok Gone
sorted (Err Memory) = Err (origin.Quic lost.Memory)
sorted (Err other) = Ok Gone

abbrev pub sorted_poll : Poll (Result (Option ℕ) FrameStreamError) → Poll (Result Kind ErrorOrigin)
sorted_poll (Ready r) = Ready (sorted r)
sorted_poll Pending = Pending

-- the kind, once it is known
abbrev pub known_by : Poll (Result Kind ErrorOrigin) → Option Kind
known_by (Ready (Ok k)) = Some k
known_by (Ready (Err e)) = None
known_by Pending = None

-- a stream whose kind is known or not
pub record Waiting (S : Type 0) : Type 0 where
  pub stream : Framed S
  pub kind : Option Kind

-- the streams that are kept, at most one of each kind
pub record Kept (S : Type 0) : Type 0 where
  pub control : Option (Framed S)
  pub encoder : Option (Framed S)
  pub decoder : Option (Framed S)

module _ {S : Type 0} where
  -- the first of its kind is kept; a second one ends the connection (RFC 9114, section 6.2.1)
  abbrev pub IsOnly : Framed S → Result (Unit {0}) ErrorOrigin → (old new : Option (Framed S)) → Type 0
  IsOnly s r None new = (r ≡ Ok tt) × (new ≡ Some s)
  IsOnly s r (Some t) new = EndsWith codes.h3_stream_creation_error r × (new ≡ Some t)

  -- the place of its kind, if it is kept at all
  abbrev pub place_of : Kind → Kept S → Option (Option (Framed S))
  place_of Control k = Some k.control
  place_of Encoder k = Some k.encoder
  place_of Decoder k = Some k.decoder
  place_of other k = None

  -- what is done with it: the first of its kind is kept and nothing is done, and any other is let go
  abbrev pub IsLetGo : Option (Option (Framed S)) → (kept let_go : Type 0) → Type 0
  IsLetGo (Some None) kept let_go = kept
  IsLetGo (Some (Some t)) kept let_go = let_go
  IsLetGo None kept let_go = let_go

  -- a stream of this kind came
  abbrev pub IsPlaced : Kind → Framed S → Result (Unit {0}) ErrorOrigin → (old new : Kept S) → Type 0
  IsPlaced Control s r old new = IsOnly s r old.control new.control × (new ≡ record old { control = new.control })
  IsPlaced Encoder s r old new = IsOnly s r old.encoder new.encoder × (new ≡ record old { encoder = new.encoder })
  IsPlaced Decoder s r old new = IsOnly s r old.decoder new.decoder × (new ≡ record old { decoder = new.decoder })
  IsPlaced other s r old new = (r ≡ Ok tt) × (new ≡ old)

-- a stream of an unknown type is stopped
abbrev pub is_refused : Option Kind → Bool
is_refused (Some Unknown) = true
is_refused other = false
