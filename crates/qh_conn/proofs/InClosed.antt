-- What a datagram does at an end that closed.
use Rattle.std.proofs.Common.{◌≡◌, ◌∙◌, ℕ, ◌+◌, ◌-◌, ◌^◌, min, true, false, List, Option, None, Some, is_some, length, refl, ap, subst}
use Rattle.std.proofs.Math.Nat.{min_comm}
use Rattle.qh_base.specs.declared.time.Moment.{Moment}
use Rattle.qh_conn.specs.Incoming.{IsClosingHeard, IsShutConnected}
use Rattle.qh_conn.specs.declared.connection.Connection.{Connection}
use Rattle.qh_core.specs.Receiving.{IsClosedHeard, IsDatagramTaken, counted_in}
use Rattle.qh_core.specs.declared.inner.Inner.{Inner}
use Rattle.qh_handshake.specs.Closing.{BringsClose}
use Rattle.qh_handshake.specs.Incoming.{IsBehind, SessionView}
use Rattle.qh_packet.specs.Session.{AcceptsTag}
use Rattle.qh_spec.specs.Parted.{EndsWith}

pub none_when : {X : Type 0} (o : Option X) → is_some o ≡ false → o ≡ None
none_when None e = refl
none_when (Some x) e = cc

module _ {S : Type 0} where
  abbrev pub with_bytes : Connection S → ℕ → Inner S → Connection S
  with_bytes c n core = record c { handshake = record c.handshake { bytes_received = n }; core = core }

  pub heard_initial : (v : SessionView S) (now : Moment) (d : List ℕ) (old : Connection S) (n : ℕ) (core : Inner S) → n ≡ min (old.handshake.bytes_received + length d) (2 ^ 64 - 1)
      → BringsClose (v.accepts old.core.session) old.handshake d → IsClosedHeard true old.core core → IsClosingHeard v now d old (with_bytes old n core)
  heard_initial v now d old n core same brings heard = IsClosingHeard.initial brings heard (ap (λ (z : ℕ). with_bytes old z core) (same ∙ min_comm _ _))

  pub heard_ungreeted : (v : SessionView S) (now : Moment) (d : List ℕ) (old : Connection S) (n : ℕ) (core : Inner S) → n ≡ min (old.handshake.bytes_received + length d) (2 ^ 64 - 1)
      → (BringsClose (v.accepts old.core.session) old.handshake d → ⊥) → old.handshake.peer ≡ None → IsClosedHeard false old.core core → IsClosingHeard v now d old (with_bytes old n core)
  heard_ungreeted v now d old n core same none ungreeted heard = IsClosingHeard.ungreeted none ungreeted heard (ap (λ (z : ℕ). with_bytes old z core) (same ∙ min_comm _ _))

  pub heard_greeted : (v : SessionView S) (now : Moment) (d : List ℕ) (old mid : Connection S) (n : ℕ) (core : Inner S) (rest : List ℕ) → n ≡ min (old.handshake.bytes_received + length d) (2 ^ 64 - 1)
      → (BringsClose (v.accepts old.core.session) old.handshake d → ⊥) → is_some old.handshake.peer ≡ true → EndsWith rest d → IsBehind rest
      → IsShutConnected (v.accepts old.core.session) rest (with_bytes old n old.core) mid → mid.core ≡ old.core
      → IsDatagramTaken (v.accepts mid.core.session) now rest (counted_in (length rest) mid.core) core → IsClosingHeard v now d old (record mid { core = core })
  heard_greeted v now d old mid n core rest same none greeted ends behind shut kept taken =
      IsClosingHeard.greeted rest mid none greeted ends behind (subst (λ (z : ℕ). IsShutConnected (v.accepts old.core.session) rest (with_bytes old z old.core) mid) (same ∙ min_comm _ _) shut)
      (subst (λ (a : AcceptsTag). IsDatagramTaken a now rest (counted_in (length rest) mid.core) core) (ap (λ (k : Inner S). v.accepts k.session) kept) taken) refl
