-- What is behind the Initial packets, where no packet was accepted.
use Rattle.std.proofs.Common.{◌≡◌, ◌⊎◌, ℕ, List, true, is_some, length, inl, inr, subst}
use Rattle.qh_base.specs.declared.connection_error.ConnectionError.TheVariants as error
use Rattle.qh_base.specs.declared.time.Moment.{Moment}
use Rattle.qh_conn.specs.Incoming.{IsRestTaken, is_reset_by}
use Rattle.qh_conn.specs.declared.connection.Connection.{Connection}
use Rattle.qh_core.specs.Inner.{is_open}
use Rattle.qh_core.specs.Receiving.{IsDatagramTaken, IsDrainingFrom, counted_in}
use Rattle.qh_core.specs.declared.inner.Inner.{Inner}
use Rattle.qh_packet.specs.Session.{AcceptsTag}

module _ {S : Type 0} where
  abbrev HasHeardReset : Moment → (datagram : List ℕ) → (old new : Connection S) → Type 0
  HasHeardReset now d old new = ((is_open old.core.state ≡ true → is_reset_by old.control.ids.active.reset_token d → ⊥) × (new ≡ old))
      ⊎ ((is_open old.core.state ≡ true) × is_reset_by old.control.ids.active.reset_token d × IsDrainingFrom now error.Reset old.core new.core × (new ≡ record old { core = new.core }))

  -- the end of the 1-RTT packets alone went on before that
  pub heard_by : (now : Moment) (d : List ℕ) (old mid new : Connection S) → mid ≡ record old { core = mid.core } → HasHeardReset now d mid new → HasHeardReset now d (record old { core = mid.core }) new
  heard_by now d old mid new is heard = subst (λ (z : Connection S). HasHeardReset now d z new) is heard

  pub rest_unaccepted : (accepts : AcceptsTag) (now : Moment) (d rest : List ℕ) (old new : Connection S) (core : Inner S) → is_some old.handshake.peer ≡ true
      → IsDatagramTaken accepts now rest (counted_in (length rest) old.core) core → core.space ≡ old.core.space
      → ((is_open core.state ≡ true → is_reset_by old.control.ids.active.reset_token d → ⊥) × (new ≡ record old { core = core }))
      ⊎ ((is_open core.state ≡ true) × is_reset_by old.control.ids.active.reset_token d × IsDrainingFrom now error.Reset core new.core × (new ≡ record old { core = new.core }))
      → IsRestTaken accepts now d rest old new
  rest_unaccepted accepts now d rest old new core greeted taken same (inl (never, e)) = IsRestTaken.unheard core greeted taken same never e
  rest_unaccepted accepts now d rest old new core greeted taken same (inr (up, is, drains, e)) = IsRestTaken.reset core greeted taken up is drains e
