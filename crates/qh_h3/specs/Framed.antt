-- Frame streams as values.
use Rattle.qh_h3.specs.Frames.{Held}

-- a stream, and what was taken of it and not handed out
pub record Framed (S : Type 0) : Type 0 where
  pub stream : S
  pub held : Held
