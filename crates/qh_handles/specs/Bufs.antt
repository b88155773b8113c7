-- The chunks of a call that writes chunks whole.
use Rattle.std.specs.Prelude.{◌≡◌, ℕ, List}
use Rattle.std.specs.Borrow.{MutBor}
use Rattle.qh_handles.specs.declared.send_stream.Bufs.{Bufs}
use Rattle.qh_handles.specs.declared.send_stream.Bufs.TheVariants as bufs

abbrev pub chunks_of : Bufs → List (List ℕ)
chunks_of (bufs.Own chunks) = chunks
chunks_of (bufs.Lent chunks) = chunks.now

-- they are those that were lent by this borrow
abbrev pub AreLent : MutBor (List (List ℕ)) → Bufs → Type 0
AreLent lent (bufs.Own chunks) = ⊥
AreLent lent (bufs.Lent chunks) = chunks.ghost_name ≡ lent.ghost_name

-- they are the same still: the call's own, or those of the same borrow
abbrev pub SameBufs : (old new : Bufs) → Type 0
SameBufs (bufs.Own chunks) (bufs.Own others) = Unit {0}
SameBufs (bufs.Lent chunks) (bufs.Lent others) = others.ghost_name ≡ chunks.ghost_name
SameBufs old new = ⊥
