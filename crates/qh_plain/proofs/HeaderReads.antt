-- Steps of reading the header of an Initial packet.
use Rattle.std.proofs.Common.{◌≡◌, ℕ, ◌<◌, ◌≤◌, List, ◌∷◌, ◌++◌, length, drop, refl, sym, ap, ◌∙◌, arith, subst, append_assoc}
use Rattle.qh_spec.specs.Datagram.{IsInitialForm}
use Rattle.qh_spec.specs.QuicFrames.{Part, Counted, ShortCounted, Text, IsValue}
use Rattle.qh_plain.proofs.ValueLaws.{value_agree}

-- an Initial packet's parts, read one after another
pub record FormParts (bytes : List ℕ) (first : ℕ) (body rest : List ℕ) : Type 0 where
  pub destination : List ℕ
  pub source : List ℕ
  pub token : List ℕ
  pub ids : List ℕ
  pub after_destination : List ℕ
  pub after_source : List ℕ
  pub after_token : List ℕ
  pub head : bytes ≡ first ∷ 0 ∷ 0 ∷ 0 ∷ 1 ∷ ids
  pub long_header : 192 ≤ first
  pub initial_type : first < 208
  pub destination_is : IsValue ShortCounted ids (Text destination) after_destination
  pub destination_fits : length destination ≤ 20
  pub source_is : IsValue ShortCounted after_destination (Text source) after_source
  pub source_fits : length source ≤ 20
  pub token_is : IsValue Counted after_source (Text token) after_token
  pub body_is : IsValue Counted after_token (Text body) rest

pub form_parts : (bytes front rest body : List ℕ) (first : ℕ) → bytes ≡ front ++ rest → IsInitialForm front first body → FormParts bytes first body rest
form_parts bytes front rest body first e i =
    let t : List ℕ = i.token ++ (i.body_length ++ body) in
    let s : List ℕ = i.source ++ (i.token_length ++ t) in
    let d : List ℕ = i.destination ++ (length i.source ∷ s) in
    let small_d = i.destination_fits in
    let small_s = i.source_fits in
    record {
      destination = i.destination;
      source = i.source;
      token = i.token;
      ids = length i.destination ∷ (d ++ rest);
      after_destination = length i.source ∷ (s ++ rest);
      after_source = i.token_length ++ (t ++ rest);
      after_token = i.body_length ++ (body ++ rest);
      head = e ∙ ap (λ (z : List ℕ). z ++ rest) i.whole;
      long_header = i.long_header;
      initial_type = i.initial_type;
      destination_is = (ap (λ (z : List ℕ). length i.destination ∷ z) (append_assoc i.destination (length i.source ∷ s) rest), omega arith);
      destination_fits = i.destination_fits;
      source_is = (ap (λ (z : List ℕ). length i.source ∷ z) (append_assoc i.source (i.token_length ++ t) rest ∙ ap (λ (z : List ℕ). i.source ++ z) (append_assoc i.token_length t rest)), omega arith);
      source_fits = i.source_fits;
      token_is = (t ++ rest, (i.token_length, refl, i.token_is), append_assoc i.token (i.body_length ++ body) rest ∙ ap (λ (z : List ℕ). i.token ++ z) (append_assoc i.body_length body rest));
      body_is = (body ++ rest, (i.body_length, refl, i.body_is), refl);
    }

pub form_from : (bytes body rest : List ℕ) (first : ℕ) → FormParts bytes first body rest → (front : List ℕ) × (bytes ≡ front ++ rest) × IsInitialForm front first body
form_from bytes body rest first p =
    let token = p.token_is in
    let number_t = token.1 in
    let body_is = p.body_is in
    let number_b = body_is.1 in
    let lt : List ℕ = number_t.0 in
    let lb : List ℕ = number_b.0 in
    let t : List ℕ = p.token ++ (lb ++ body) in
    let s : List ℕ = p.source ++ (lt ++ t) in
    let d : List ℕ = p.destination ++ (length p.source ∷ s) in
    let e4 : p.after_token ≡ (lb ++ body) ++ rest = number_b.1 ∙ ap (λ (z : List ℕ). lb ++ z) body_is.2 ∙ sym (append_assoc lb body rest) in
    let e3 : p.after_source ≡ (lt ++ t) ++ rest =
    number_t.1 ∙ ap (λ (z : List ℕ). lt ++ z) (token.2 ∙ ap (λ (z : List ℕ). p.token ++ z) e4 ∙ sym (append_assoc p.token (lb ++ body) rest)) ∙ sym (append_assoc lt t rest) in
    let source = p.source_is in
    let e2 : p.after_destination ≡ length p.source ∷ (s ++ rest) =
    source.0 ∙ ap (λ (z : List ℕ). length p.source ∷ z) (ap (λ (z : List ℕ). p.source ++ z) e3 ∙ sym (append_assoc p.source (lt ++ t) rest)) in
    let destination = p.destination_is in
    let e1 : p.ids ≡ length p.destination ∷ (d ++ rest) =
    destination.0 ∙ ap (λ (z : List ℕ). length p.destination ∷ z) (ap (λ (z : List ℕ). p.destination ++ z) e2 ∙ sym (append_assoc p.destination (length p.source ∷ s) rest)) in (
      first ∷ 0 ∷ 0 ∷ 0 ∷ 1 ∷ length p.destination ∷ d,
      p.head ∙ ap (λ (z : List ℕ). first ∷ 0 ∷ 0 ∷ 0 ∷ 1 ∷ z) e1,
      record {
        destination = p.destination;
        source = p.source;
        token_length = lt;
        token = p.token;
        body_length = lb;
        whole = refl;
        long_header = p.long_header;
        initial_type = p.initial_type;
        destination_fits = p.destination_fits;
        source_fits = p.source_fits;
        token_is = number_t.2;
        body_is = number_b.2;
      },
    )

same_after : (part : Part) (x y v w a b : List ℕ) → x ≡ y → IsValue part x (Text v) a → IsValue part y (Text w) b → a ≡ b
same_after part x y v w a b e p q = (value_agree part y (Text v) (Text w) a b (subst (λ (z : List ℕ). IsValue part z (Text v) a) e p) q).1

pub same_ids : (bytes body rest : List ℕ) (first first' : ℕ) (ids : List ℕ) (p : FormParts bytes first body rest) → bytes ≡ first' ∷ 0 ∷ 0 ∷ 0 ∷ 1 ∷ ids → p.ids ≡ ids
same_ids bytes body rest first first' ids p e =
    let both : first ∷ 0 ∷ 0 ∷ 0 ∷ 1 ∷ p.ids ≡ first' ∷ 0 ∷ 0 ∷ 0 ∷ 1 ∷ ids = sym p.head ∙ e in
    ap (λ (z : List ℕ). drop 5 z) both

pub same_destination : (bytes body rest : List ℕ) (first first' : ℕ) (ids d r : List ℕ) (p : FormParts bytes first body rest) → bytes ≡ first' ∷ 0 ∷ 0 ∷ 0 ∷ 1 ∷ ids
    → IsValue ShortCounted ids (Text d) r → p.after_destination ≡ r
same_destination bytes body rest first first' ids d r p e is = same_after ShortCounted p.ids ids p.destination d p.after_destination r (same_ids bytes body rest first first' ids p e) p.destination_is is

pub same_source : (bytes body rest : List ℕ) (first first' : ℕ) (ids d r s q : List ℕ) (p : FormParts bytes first body rest) → bytes ≡ first' ∷ 0 ∷ 0 ∷ 0 ∷ 1 ∷ ids
    → IsValue ShortCounted ids (Text d) r → IsValue ShortCounted r (Text s) q → p.after_source ≡ q
same_source bytes body rest first first' ids d r s q p e is js =
    same_after ShortCounted p.after_destination r p.source s p.after_source q (same_destination bytes body rest first first' ids d r p e is) p.source_is js

pub same_token : (bytes body rest : List ℕ) (first first' : ℕ) (ids d r s q t o : List ℕ) (p : FormParts bytes first body rest) → bytes ≡ first' ∷ 0 ∷ 0 ∷ 0 ∷ 1 ∷ ids
    → IsValue ShortCounted ids (Text d) r → IsValue ShortCounted r (Text s) q → IsValue Counted q (Text t) o → p.after_token ≡ o
same_token bytes body rest first first' ids d r s q t o p e is js ks =
    same_after Counted p.after_source q p.token t p.after_token o (same_source bytes body rest first first' ids d r s q p e is js) p.token_is ks

-- a value of another name of the same bytes
pub value_at : (part : Part) (x y v a : List ℕ) → x ≡ y → IsValue part x (Text v) a → IsValue part y (Text v) a
value_at part x y v a e p = subst (λ (z : List ℕ). IsValue part z (Text v) a) e p
