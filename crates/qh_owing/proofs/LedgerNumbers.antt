-- Of datagrams that are packets one each, the one at each place has that number.
use Rattle.std.proofs.Common.{◌≡◌, ◌⊎◌, ℕ, zero, suc, ◌+◌, List, [], ◌∷◌, ◌++◌, length, length-append, Some, refl, sym, ap, subst, ◌∙◌, inl, inr}
use Rattle.std.proofs.lemmas.Option.{same_Some}
use Rattle.std.specs.Prelude.{slice_get}
use Rattle.qh_core.specs.Progress.{NumberedPacket}
use Rattle.qh_owing.specs.Ledger.{AreSent, IsSentIn}
use Rattle.qh_owing.specs.Ledger.AreSent.{none, more}
use Rattle.qh_spec.specs.declared.sides.Side.{Side}
use Rattle.qh_spec.specs.declared.sides.Space.{Space}

-- ---- lists with one entry more

get_more : {X : Type 0} (xs : List X) (x y : X) (k : ℕ) → slice_get (xs ++ x ∷ []) k ≡ Some y → (slice_get xs k ≡ Some y) ⊎ ((k ≡ length xs) × (x ≡ y))
get_more [] x y zero e = inr (refl, same_Some x y e)
get_more [] x y (suc k) e = absurd (cc)
get_more (z ∷ zs) x y zero e = inl e
get_more (z ∷ zs) x y (suc k) e = elim (get_more zs x y k e) [ inl is ↦ inl is | inr (at, same) ↦ inr (ap suc at, same) ]

get_before : {X : Type 0} (xs : List X) (x y : X) (k : ℕ) → slice_get xs k ≡ Some y → slice_get (xs ++ x ∷ []) k ≡ Some y
get_before [] x y k e = absurd (cc)
get_before (z ∷ zs) x y zero e = e
get_before (z ∷ zs) x y (suc k) e = get_before zs x y k e

get_end : {X : Type 0} (xs : List X) (x : X) → slice_get (xs ++ x ∷ []) (length xs) ≡ Some x
get_end [] x = refl
get_end (z ∷ zs) x = get_end zs x

-- ---- the packets

module _ (sealed : Side → Space → ℕ → List ℕ) (side : Side) (id_length : ℕ) where
  sent_as_many : (datagrams : List (List ℕ)) (sent : List NumberedPacket) → AreSent sealed side id_length datagrams sent → length sent ≡ length datagrams
  sent_as_many datagrams sent (none) = refl
  sent_as_many _ _ (more datagrams packets d p before _ _) =
      length-append packets (p ∷ []) ∙ (ap (λ (n : ℕ). n + 1) (sent_as_many datagrams packets before) ∙ sym (length-append datagrams (d ∷ [])))

  abbrev IsNumbered : (sent : List NumberedPacket) → (k : ℕ) → (d : List ℕ) → Type 0
  IsNumbered sent k d = (p : NumberedPacket) × (slice_get sent k ≡ Some p) × (p.number ≡ k) × IsSentIn sealed side id_length d p

  numbered : (datagrams : List (List ℕ)) (sent : List NumberedPacket) (k : ℕ) (d : List ℕ) → AreSent sealed side id_length datagrams sent → slice_get datagrams k ≡ Some d → IsNumbered sent k d
  numbered datagrams sent k d (none) e = absurd (cc)
  numbered _ _ k d (more datagrams packets last p before number is) e = elim (get_more datagrams last d k e) [
    | inl earlier ↦
        let found = numbered datagrams packets k d before earlier in
        (found.0, get_before packets p found.0 k found.1, found.2, found.3)
    | inr (at, same) ↦
        let place : k ≡ length packets = at ∙ sym (sent_as_many datagrams packets before) in (
          p,
          subst (λ (n : ℕ). slice_get (packets ++ p ∷ []) n ≡ Some p) (sym place) (get_end packets p),
          number ∙ sym place,
          subst (λ (z : List ℕ). IsSentIn sealed side id_length z p) same is,
        )
  ]

pub sent_numbers : (sealed : Side → Space → ℕ → List ℕ) (side : Side) (id_length : ℕ) (datagrams : List (List ℕ)) (sent : List NumberedPacket) (k : ℕ) (d : List ℕ)
    → AreSent sealed side id_length datagrams sent → slice_get datagrams k ≡ Some d
    → (p : NumberedPacket) × (slice_get sent k ≡ Some p) × (p.number ≡ k) × IsSentIn sealed side id_length d p
sent_numbers sealed side id_length datagrams sent k d = numbered sealed side id_length datagrams sent k d

pub sent_lengths : (sealed : Side → Space → ℕ → List ℕ) (side : Side) (id_length : ℕ) (datagrams : List (List ℕ)) (sent : List NumberedPacket)
    → AreSent sealed side id_length datagrams sent → length sent ≡ length datagrams
sent_lengths sealed side id_length datagrams sent = sent_as_many sealed side id_length datagrams sent
