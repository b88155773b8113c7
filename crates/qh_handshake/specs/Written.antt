-- What stands in a datagram that a handshake hands out.
use Rattle.std.specs.Prelude.{◌≡◌, ℕ, ◌+◌, ◌<◌, ◌≤◌, ◌^◌, List, length}
use Rattle.std.specs.List.{AllByRecursion}
use Rattle.qh_handshake.specs.declared.initial_space.HelloState.TheVariants.{Waits}
use Rattle.qh_handshake.specs.declared.initial_space.InitialSpace.{InitialSpace}
use Rattle.qh_packet.specs.Initial.{filled}
use Rattle.qh_spec.specs.FrameTypes as frame_types
use Rattle.qh_spec.specs.Greeted.{crypto_frame}
use Rattle.qh_spec.specs.QuicFrames.{QuicFrame}

-- parts of an Initial packet that can be written, with its frames filled up
pub record CanBeWritten (destination source token frames : List ℕ) (size : ℕ) (tag : List ℕ) : Type 0 where
  pub short_destination : length destination ≤ 20
  pub short_source : length source ≤ 20
  pub short_token : length token < 2 ^ 14
  pub short_frames : 36 + length (filled destination source token frames size) < 2 ^ 14
  pub whole_tag : length tag ≡ 32

-- a CRYPTO frame among these is that of the whole hello of this space, which waited
abbrev pub HaveOnlyHello : InitialSpace → List QuicFrame → Type 0
HaveOnlyHello s fs = AllByRecursion (λ (f : QuicFrame). f.kind ≡ frame_types.crypto → (f ≡ crypto_frame 0 s.hello) × (s.state ≡ Waits)) fs
