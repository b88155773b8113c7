-- The versions that bytes list.
use Rattle.std.proofs.Common.{◌≡◌, ℕ, ◌+◌, ◌*◌, ◌<◌, ◌≤◌, ◌^◌, List, [], ◌∷◌, ◌++◌, length, take, drop, get_or, refl, sym, ap, ◌∙◌, arith, inl, inr, subst, append_assoc, length-append}
use Rattle.std.specs.Int.{w32, to_be_bytes, from_be_bytes}
use Rattle.std.specs.List.{AllByRecursion}
use Rattle.std.proofs.lemmas.List.{take_more}
use Rattle.std.proofs.lemmas.Nat.{from_be_bytes-to_be_bytes_4}
use Rattle.qh_spec.specs.Lists.{In}
use Rattle.qh_packet.specs.LongHeader.{long_head}
use Rattle.qh_packet.specs.VersionNegotiation.{IsVersionNegotiation, versions_in, version_bytes}

pub version_bytes_length : (versions : List ℕ) → length (version_bytes versions) ≡ 4 * length versions
version_bytes_length [] = refl
version_bytes_length (v ∷ vs) = let e = version_bytes_length vs in omega (arith, length-append (to_be_bytes w32 v) (version_bytes vs))

pub versions_again : (versions : List ℕ) → AllByRecursion (λ v. v < 2 ^ 32) versions → versions_in (version_bytes versions) ≡ versions
versions_again [] all = refl
versions_again (v ∷ vs) all = ap (λ (z : List ℕ). from_be_bytes w32 (to_be_bytes w32 v) ∷ z) (versions_again vs all.1) ∙ ap (λ (n : ℕ). n ∷ vs) (from_be_bytes-to_be_bytes_4 v all.0)

pub written_versions : (first : ℕ) (destination source versions : List ℕ) → 192 ≤ first → first < 256 → length destination ≤ 20 → length source ≤ 20 → 0 < length versions
    → IsVersionNegotiation (long_head first 0 destination source ++ version_bytes versions) destination source (version_bytes versions)
written_versions first destination source versions low high d s some =
    let size = version_bytes_length versions in
    record {
      first = first;
      header = record { whole = refl; long_form = low; first_fits = high; version_fits = omega arith; destination_fits = d; source_fits = s };
      some = omega (arith, size, some);
      fours = omega (arith, size);
    }

pub next_version : (rest chunk more : List ℕ) → 4 ≤ length rest → chunk ≡ take 4 rest → more ≡ drop 4 rest → versions_in rest ≡ from_be_bytes w32 chunk ∷ versions_in more
next_version [] chunk more fits e f = absurd (omega arith)
next_version (a ∷ []) chunk more fits e f = absurd (omega arith)
next_version (a ∷ b ∷ []) chunk more fits e f = absurd (omega arith)
next_version (a ∷ b ∷ h ∷ []) chunk more fits e f = absurd (omega arith)
next_version (a ∷ b ∷ h ∷ d ∷ rest) chunk more fits e f =
    ap (λ (z : List ℕ). from_be_bytes w32 z ∷ versions_in rest) (sym e) ∙ ap (λ (z : List ℕ). from_be_bytes w32 chunk ∷ versions_in z) (sym f)

pub no_version : (rest : List ℕ) → length rest < 4 → versions_in rest ≡ []
no_version [] short = refl
no_version (a ∷ []) short = refl
no_version (a ∷ b ∷ []) short = refl
no_version (a ∷ b ∷ h ∷ []) short = refl
no_version (a ∷ b ∷ h ∷ d ∷ rest) short = absurd (omega arith)

-- looking for a version in what is left is the same as looking for it in all
pub record SameSearch (version : ℕ) (rest all : List ℕ) : Type 0 where
  pub into : In version (versions_in rest) → In version (versions_in all)
  pub back : In version (versions_in all) → In version (versions_in rest)

pub search_here : (version : ℕ) (all : List ℕ) → SameSearch version all all
search_here version all = record { into = λ i. i; back = λ i. i }

other_in : (version n : ℕ) (ns : List ℕ) → (n ≡ version → ⊥) → In version (n ∷ ns) → In version ns
other_in version n ns other (inl e) = absurd (other e)
other_in version n ns other (inr i) = i

pub search_next : (version : ℕ) (rest all chunk more : List ℕ) (n : ℕ) → 4 ≤ length rest → chunk ≡ take 4 rest → more ≡ drop 4 rest → n ≡ from_be_bytes w32 chunk → (n ≡ version → ⊥)
    → SameSearch version rest all → SameSearch version more all
search_next version rest all chunk more n fits e f is other s =
    let next : versions_in rest ≡ n ∷ versions_in more = next_version rest chunk more fits e f ∙ ap (λ (m : ℕ). m ∷ versions_in more) (sym is) in
    record {
      into = λ i. s.into (subst (In version) (sym next) (inr i));
      back = λ i. other_in version n (versions_in more) other (subst (In version) next (s.back i));
    }

pub search_found : (version : ℕ) (rest all chunk more : List ℕ) (n : ℕ) → 4 ≤ length rest → chunk ≡ take 4 rest → more ≡ drop 4 rest → n ≡ from_be_bytes w32 chunk → n ≡ version
    → SameSearch version rest all → In version (versions_in all)
search_found version rest all chunk more n fits e f is same s =
    let next : versions_in rest ≡ n ∷ versions_in more = next_version rest chunk more fits e f ∙ ap (λ (m : ℕ). m ∷ versions_in more) (sym is) in
    s.into (subst (In version) (sym next) (inl same))

pub search_ended : (version : ℕ) (rest all : List ℕ) → length rest < 4 → SameSearch version rest all → In version (versions_in all) → ⊥
search_ended version rest all short s i = subst (In version) (no_version rest short) (s.back i)

bytes_append : (vs ws : List ℕ) → version_bytes (vs ++ ws) ≡ version_bytes vs ++ version_bytes ws
bytes_append [] ws = refl
bytes_append (v ∷ vs) ws = ap (λ (z : List ℕ). to_be_bytes w32 v ++ z) (bytes_append vs ws) ∙ sym (append_assoc (to_be_bytes w32 v) (version_bytes vs) (version_bytes ws))

pub more_versions : (old mid new vs : List ℕ) (i v : ℕ) → mid ≡ old ++ version_bytes (take i vs) → new ≡ mid ++ to_be_bytes w32 v → i < length vs → v ≡ get_or vs i 0
    → new ≡ old ++ version_bytes (take (i + 1) vs)
more_versions old mid new vs i v a b inside is =
    let next : take (i + 1) vs ≡ take i vs ++ v ∷ [] = take_more vs i 0 inside ∙ ap (λ (m : ℕ). take i vs ++ m ∷ []) (sym is) in
    let all : version_bytes (take (i + 1) vs) ≡ version_bytes (take i vs) ++ to_be_bytes w32 v = ap version_bytes next ∙ bytes_append (take i vs) (v ∷ []) in
    b ∙ ap (λ (z : List ℕ). z ++ to_be_bytes w32 v) a ∙ append_assoc old (version_bytes (take i vs)) (to_be_bytes w32 v) ∙ ap (λ (z : List ℕ). old ++ z) (sym all)
