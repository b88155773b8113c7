-- Payloads with room for more, and the newest of them.
use Rattle.std.proofs.Common.{◌≡◌, ℕ, ◌+◌, ◌<◌, ◌≤◌, Bool, List, [], ◌∷◌, ◌++◌, length, if◌then◌else◌, refl, sym, ap, ◌∙◌, arith, inl, inr}
use Rattle.std.proofs.lemmas.Bool.{cases_lt, le-leb, lt-leb}
use Rattle.std.proofs.lemmas.List.Sums.{sum_by_push}
use Rattle.qh_datagrams.specs.Datagrams.{bytes_of, newest, with_room}

-- where all have room nothing is dropped
pub with_room-all : (size room : ℕ) (payloads : List (List ℕ)) → bytes_of payloads + size ≤ room → with_room size room payloads ≡ payloads
with_room-all size room [] h = refl
with_room-all size room (payload ∷ payloads) h =
    ap (λ (b : Bool). if b then payload ∷ payloads else with_room size room payloads) (le-leb (bytes_of (payload ∷ payloads) + size) room h)

-- where they have none the oldest is dropped
with_room-less : (size room : ℕ) (payload : List ℕ) (payloads : List (List ℕ)) → room < bytes_of (payload ∷ payloads) + size
    → with_room size room (payload ∷ payloads) ≡ with_room size room payloads
with_room-less size room payload payloads h =
    ap (λ (b : Bool). if b then payload ∷ payloads else with_room size room payloads) (lt-leb (bytes_of (payload ∷ payloads) + size) room h)

newest-all : (most : ℕ) (payload : List ℕ) (payloads : List (List ℕ)) → bytes_of (payload ∷ payloads) ≤ most
    → newest most (payload ∷ payloads) ≡ payload ∷ payloads
newest-all most payload payloads h = ap (λ (b : Bool). if b then payload ∷ payloads else newest most payloads) (le-leb (bytes_of (payload ∷ payloads)) most h)

newest-less : (most : ℕ) (payload : List ℕ) (payloads : List (List ℕ)) → most < bytes_of (payload ∷ payloads)
    → newest most (payload ∷ payloads) ≡ newest most payloads
newest-less most payload payloads h = ap (λ (b : Bool). if b then payload ∷ payloads else newest most payloads) (lt-leb (bytes_of (payload ∷ payloads)) most h)

-- the newest, where the last one fits: it and those before it that leave it room
pub newest-push : (most : ℕ) (payloads : List (List ℕ)) (payload : List ℕ) → length payload ≤ most
    → newest most (payloads ++ payload ∷ []) ≡ with_room (length payload) most payloads ++ payload ∷ []
newest-push most [] payload h = newest-all most payload [] (omega (arith, h))
newest-push most (first ∷ payloads) payload h =
    let size = sum_by_push (λ (p : List ℕ). length p) (first ∷ payloads) payload in
    elim (cases_lt most (bytes_of (first ∷ payloads) + length payload)) [
      | inl over ↦
          newest-less most first (payloads ++ payload ∷ []) (omega (arith, over, size))
          ∙ newest-push most payloads payload h
          ∙ sym (ap (λ (ps : List (List ℕ)). ps ++ payload ∷ []) (with_room-less (length payload) most first payloads over))
      | inr fits ↦
          newest-all most first (payloads ++ payload ∷ []) (omega (arith, fits, size))
          ∙ sym (ap (λ (ps : List (List ℕ)). ps ++ payload ∷ []) (with_room-all (length payload) most (first ∷ payloads) fits))
    ]
