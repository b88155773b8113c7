-- A packet of version negotiation that is written is read.
use Rattle.std.proofs.Common.{◌≡◌, ℕ, ◌+◌, ◌<◌, ◌≤◌, ◌%◌, ◌^◌, ◌==◌, Bool, true, false, List, [], ◌∷◌, ◌++◌, length, refl, sym, ap, ◌∙◌, arith, inl, inr, append_assoc}
use Rattle.std.proofs.lemmas.Bool.{eqb-true}
use Rattle.std.proofs.lemmas.List.{append-nil}
use Rattle.std.specs.Int.{w32, to_be_bytes}
use Rattle.std.specs.List.{AllByRecursion}
use Rattle.std.specs.Prelude.{if◌then◌else◌}
use Rattle.qh_packet.proofs.Versions.{versions_again, written_versions}
use Rattle.qh_packet.specs.VersionNegotiation.{IsVersionNegotiation, version_bytes, versions_in}
use Rattle.qh_spec.specs.Lists.{In}
use Rattle.qh_stateless.specs.Negotiation.{listed_to, negotiation_bytes, other_reserved_version, reserved_version}

pub is_negotiation : (word version : ℕ) (d s versions : List ℕ) → length d ≤ 20 → length s ≤ 20
    → IsVersionNegotiation (negotiation_bytes word version d s versions) s d (version_bytes (listed_to version versions))
is_negotiation word version d s versions short_d short_s =
    written_versions (192 + word % 64) s d (listed_to version versions) (omega arith) (omega arith) short_s short_d (omega arith)

-- whichever it is
beside_cases : (b : Bool) → (if b then other_reserved_version else reserved_version) < 2 ^ 32
beside_cases true = omega arith
beside_cases false = omega arith

pub read_again : (version : ℕ) (versions : List ℕ) → AllByRecursion (λ v. v < 2 ^ 32) versions → versions_in (version_bytes (listed_to version versions)) ≡ listed_to version versions
read_again version versions all = versions_again (listed_to version versions) (beside_cases (version == reserved_version), all)

not_beside : (version : ℕ) (b : Bool) → (version == reserved_version) ≡ b → (if b then other_reserved_version else reserved_version) ≡ version → ⊥
not_beside version true e is = let same = eqb-true version reserved_version e in omega (arith, same, is)
not_beside version false e is =
    let same : (version == reserved_version) ≡ true = ap (λ (z : ℕ). z == reserved_version) (sym is) in
    let both : false ≡ true = sym e ∙ same in
    cc

pub other_listed : (version : ℕ) (versions : List ℕ) → In version (listed_to version versions) → In version versions
other_listed version versions (inl is) = absurd (not_beside version (version == reserved_version) refl is)
other_listed version versions (inr there) = there

-- behind the first version
pub rest_listed : (old mid new head : List ℕ) (version : ℕ) (versions : List ℕ) → mid ≡ old ++ (head ++ version_bytes (version ∷ [])) → new ≡ mid ++ version_bytes versions
    → new ≡ old ++ (head ++ version_bytes (version ∷ versions))
rest_listed old mid new head version versions e f =
    let one : version_bytes (version ∷ []) ≡ to_be_bytes w32 version = append-nil (to_be_bytes w32 version) in
    f ∙ ap (λ (z : List ℕ). z ++ version_bytes versions) (e ∙ ap (λ (z : List ℕ). old ++ (head ++ z)) one)
    ∙ append_assoc old (head ++ to_be_bytes w32 version) (version_bytes versions) ∙ ap (λ (z : List ℕ). old ++ z) (append_assoc head (to_be_bytes w32 version) (version_bytes versions))
