-- What a datagram is judged to be.
use Rattle.std.proofs.Common.{◌≡◌, ℕ, true, List, [], ◌∷◌, map, Option, Some, None, refl, sym, subst, inl, inr, arith}
use Rattle.std.specs.Prelude.{Contains, is_some}
use Rattle.std.proofs.lemmas.Bool.{cases_eq}
use Rattle.std.proofs.lemmas.Map.Made.{Contains-tail}
use Rattle.std.specs.declared.net.socket_addr.SocketAddr.{SocketAddr}
use Rattle.qh_base.specs.declared.time.Moment.{Moment}
use Rattle.qh_endpoint.specs.Endpoint.{PlainEndpoint}
use Rattle.qh_endpoint.specs.Stranger.{CannotWait, IsFirstId, IsJudged, no_server, short_id}
use Rattle.qh_endpoint.specs.declared.stranger.Stranger.{Stranger}
use Rattle.qh_endpoint.specs.declared.stranger.Stranger.TheVariants.{Unknown, Refused}
use Rattle.qh_kit.specs.declared.config.ServerConfig.{ServerConfig}
use Rattle.qh_packet.specs.Version.{number_of}
use Rattle.qh_packet.specs.declared.version.Version.{Version}
use Rattle.qh_spec.specs.TokenFilter.{TokenLimits}
use Rattle.qh_spec.specs.TokenLog.{TokenLog}
use Rattle.qh_stateless.specs.Header.{Initial}

module _ {K G R T : Type 0} (id_length : ℕ) (Validates : List ℕ → Type 0) (limits : T → TokenLimits) (stands : T → TokenLog → Type 0) (now : Moment) (remote : SocketAddr) (size : ℕ) (e : PlainEndpoint K G R T)
    (version first : ℕ) (destination source token : List ℕ) where
  abbrev pub Judged : Stranger → Type 0
  Judged stranger = IsJudged id_length Validates limits stands now remote size e e (Initial version first destination source token) stranger

  pub unknown_here : (id : List ℕ) → id ≡ destination → e.server ≡ None → Judged (Unknown id)
  unknown_here id is none = subst (λ (z : List ℕ). Judged (Unknown z)) (sym is) (no_server version first destination source token none refl)

  pub refused_here : (server : ServerConfig) (id from : List ℕ) → id ≡ destination → from ≡ source → e.server ≡ Some server → (CannotWait id_length Validates limits stands e server size → ⊥)
      → (IsFirstId id_length destination token → ⊥) → Judged (Refused id from (record { 0 = 10 }))
  refused_here server id from is from_is has can not_first = subst (λ (z : List ℕ). Judged (Refused z from (record { 0 = 10 }))) (sym is)
      (subst (λ (z : List ℕ). Judged (Refused destination z (record { 0 = 10 }))) (sym from_is) (short_id version first destination source token server (record { 0 = 10 }) refl has can not_first refl))

-- a number that is listed is that of a version
pub listed_is : (vs : List Version) (n : ℕ) → Contains (map number_of vs) n → (v : Version) × (number_of v ≡ n)
listed_is [] n h = absurd (let below = h.1 in omega (arith, below))
listed_is (v ∷ vs) n h = elim (cases_eq (number_of v) n) [
  | inl same ↦ (v, same)
  | inr apart ↦ listed_is vs n (Contains-tail (number_of v) (map number_of vs) n apart h)
]

pub is_found : (o : Option Version) (n : ℕ) → (o ≡ None → (v : Version) → number_of v ≡ n → ⊥) → (v : Version) × (number_of v ≡ n) → is_some o ≡ true
is_found None n none at = absurd (none refl at.0 at.1)
is_found (Some v) n none at = refl
