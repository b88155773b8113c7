-- Whether a datagram is a client's first one.
use Rattle.std.proofs.Common.{◌≡◌, ◌≤◌, ◌<◌, ℕ, Option, Some, None, List, ◌∷◌, ◌++◌, length, get_or, drop, sym, ap, subst, ◌∙◌, arith}
use Rattle.std.specs.Prelude.{IfNone, IfSome}
use Rattle.qh_packet.specs.Initial.{BeginsWithInitial}
use Rattle.qh_spec.proofs.Cuts.{halves, inner}
use Rattle.qh_spec.specs.Datagram.{IsInitialForm}
use Rattle.qh_pair.specs.Sound.{IsFirst}
use Rattle.qh_pair.specs.declared.ends.Ids.{Ids}

-- bytes begin with an Initial packet of one pair of ids alone
ids_same : (a x b y : List ℕ) (m n : ℕ) (c d : List ℕ) (i : IsInitialForm a m c) (j : IsInitialForm b n d) → a ++ x ≡ b ++ y → (i.destination ≡ j.destination) × (i.source ≡ j.source)
ids_same a x b y m n c d i j e =
    let ti : List ℕ = i.token ++ (i.body_length ++ c) in
    let tj : List ℕ = j.token ++ (j.body_length ++ d) in
    let si : List ℕ = i.source ++ (i.token_length ++ ti) in
    let sj : List ℕ = j.source ++ (j.token_length ++ tj) in
    let di : List ℕ = i.destination ++ (length i.source ∷ si) in
    let dj : List ℕ = j.destination ++ (length j.source ∷ sj) in
    let both : m ∷ 0 ∷ 0 ∷ 0 ∷ 1 ∷ length i.destination ∷ (di ++ x) ≡ n ∷ 0 ∷ 0 ∷ 0 ∷ 1 ∷ length j.destination ∷ (dj ++ y)
    = ap (λ (z : List ℕ). z ++ x) (sym i.whole) ∙ e ∙ ap (λ (z : List ℕ). z ++ y) j.whole in
    let dlen : length i.destination ≡ length j.destination = ap (λ (z : List ℕ). get_or z 5 0) both in
    let drest : di ++ x ≡ dj ++ y = ap (λ (z : List ℕ). drop 6 z) both in
    let dcut = halves i.destination ((length i.source ∷ si) ++ x) j.destination ((length j.source ∷ sj) ++ y) dlen (inner i.destination (length i.source ∷ si) x j.destination (length j.source ∷ sj) y drest) in
    let slen : length i.source ≡ length j.source = ap (λ (z : List ℕ). get_or z 0 0) dcut.1 in
    let srest : si ++ x ≡ sj ++ y = ap (λ (z : List ℕ). drop 1 z) dcut.1 in
    let scut = halves i.source ((i.token_length ++ ti) ++ x) j.source ((j.token_length ++ tj) ++ y) slen (inner i.source (i.token_length ++ ti) x j.source (j.token_length ++ tj) y srest) in
    (dcut.0, scut.0)

pub first_read : (ids : Ids) (bytes : List ℕ) (first : ℕ) (d s token body rest : List ℕ) → 1200 ≤ length bytes → BeginsWithInitial bytes first d s token body rest → (d ≡ ids.key) × (s ≡ ids.client) → IsFirst ids bytes
first_read ids bytes first d s token body rest long begins ids_are = record {
  long = long;
  first = first;
  token = token;
  body = body;
  rest = rest;
  begins = subst (λ (z : List ℕ). BeginsWithInitial bytes first z ids.client token body rest) ids_are.0 (subst (λ (z : List ℕ). BeginsWithInitial bytes first d z token body rest) ids_are.1 begins);
}

pub first_between : (ids : Ids) (bytes : List ℕ) (first : ℕ) (d s token body rest : List ℕ) → BeginsWithInitial bytes first d s token body rest → (d ≡ ids.key → s ≡ ids.client → ⊥) → IsFirst ids bytes → ⊥
first_between ids bytes first d s token body rest begins not f =
    let b = f.begins in
    let same = ids_same begins.front rest b.front f.rest first f.first body f.body begins.form b.form (sym begins.whole ∙ b.whole) in
    not (sym begins.destination_is ∙ same.0 ∙ b.destination_is) (sym begins.source_is ∙ same.1 ∙ b.source_is)

pub first_short : (ids : Ids) (bytes : List ℕ) → length bytes < 1200 → IsFirst ids bytes → ⊥
first_short ids bytes short f = let long = f.long in omega (arith, long, short)

pub first_unread : (ids : Ids) (bytes : List ℕ) → ((front rest body : List ℕ) (first : ℕ) → bytes ≡ front ++ rest → IsInitialForm front first body → ⊥) → IsFirst ids bytes → ⊥
first_unread ids bytes none f = none f.begins.front f.rest f.body f.first f.begins.whole f.begins.form

pub found_of : {F : Type 0} (o : Option F) (f : F) (P : F → Type 0) → o ≡ Some f → IfSome o P → P f
found_of o f P is h = subst (λ (z : Option _). IfSome z P) is h

pub none_of : {F : Type 0} (o : Option F) (P : Type 0) → o ≡ None → IfNone o P → P
none_of o P is h = subst (λ (z : Option _). IfNone z P) is h
