-- Whether one of the Initial packets of a datagram closes.
use Rattle.std.proofs.Common.{ℕ, List, sym, subst}
use Rattle.qh_handshake.proofs.OneForm.{one_form}
use Rattle.qh_handshake.specs.Closing.{BringsClose, IsClosing}
use Rattle.qh_handshake.specs.Closing.BringsClose.{here, later}
use Rattle.qh_handshake.specs.Incoming.{Form, IsBehind}
use Rattle.qh_handshake.specs.declared.handshake.Handshake.{Handshake}
use Rattle.qh_packet.specs.Initial.{BeginsWithInitial}
use Rattle.qh_packet.specs.Session.{AcceptsTag}

-- none of the Initial packets in front of the rest closes
pub record IsSought (accepts : AcceptsTag) (h : Handshake) (datagram rest : List ℕ) : Type 0 where
  pub back : BringsClose accepts h rest → BringsClose accepts h datagram
  pub on : BringsClose accepts h datagram → BringsClose accepts h rest

pub sought_none : (accepts : AcceptsTag) (h : Handshake) (datagram : List ℕ) → IsSought accepts h datagram datagram
sought_none accepts h datagram = record { back = λ b. b; on = λ b. b }

-- one that doesn't close is passed
passed : (accepts : AcceptsTag) (h : Handshake) (bytes destination behind : List ℕ) (f : Form) → BeginsWithInitial bytes f.first destination f.source f.token f.body behind → (IsClosing accepts h f → ⊥)
    → BringsClose accepts h bytes → BringsClose accepts h behind
passed accepts h bytes destination behind f b none (here _ d x g begins closing) =
    absurd (none (subst (λ (z : Form). IsClosing accepts h z) (sym (one_form bytes destination d behind x f g b begins).0) closing))
passed accepts h bytes destination behind f b none (later _ d x g begins more) =
    subst (λ (z : List ℕ). BringsClose accepts h z) (sym (one_form bytes destination d behind x f g b begins).1) more

pub sought_more : (accepts : AcceptsTag) (h : Handshake) (datagram rest destination behind : List ℕ) (f : Form) → IsSought accepts h datagram rest
    → BeginsWithInitial rest f.first destination f.source f.token f.body behind → (IsClosing accepts h f → ⊥) → IsSought accepts h datagram behind
sought_more accepts h datagram rest destination behind f s b none = record {
  back = λ more. s.back (later rest destination behind f b more);
  on = λ brings. passed accepts h rest destination behind f b none (s.on brings);
}

-- one closes
pub sought_one : (accepts : AcceptsTag) (h : Handshake) (datagram rest destination behind : List ℕ) (f : Form) → IsSought accepts h datagram rest
    → BeginsWithInitial rest f.first destination f.source f.token f.body behind → IsClosing accepts h f → BringsClose accepts h datagram
sought_one accepts h datagram rest destination behind f s b closing = s.back (here rest destination behind f b closing)

-- no other one is there
no_packet : (accepts : AcceptsTag) (h : Handshake) (bytes : List ℕ) → IsBehind bytes → BringsClose accepts h bytes → ⊥
no_packet accepts h bytes none (here _ d x g b closing) = none b.front x g.body g.first b.whole b.form
no_packet accepts h bytes none (later _ d x g b more) = none b.front x g.body g.first b.whole b.form

pub sought_all : (accepts : AcceptsTag) (h : Handshake) (datagram rest : List ℕ) → IsSought accepts h datagram rest → IsBehind rest → BringsClose accepts h datagram → ⊥
sought_all accepts h datagram rest s none brings = no_packet accepts h rest none (s.on brings)
