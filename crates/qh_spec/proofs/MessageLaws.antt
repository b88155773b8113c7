-- Bytes spell one message of a kind, and each message that is the same as one that they spell.
use Rattle.std.proofs.Common.{◌≡◌, ℕ, ◌+◌, ◌/◌, ◌%◌, List, [], ◌∷◌, ◌++◌, Option, Some, None, refl, sym, ap, ◌∙◌, arith, subst}
use Rattle.std.specs.Prelude.{map, codes}
use Rattle.std.specs.List.{concat}
use Rattle.http.specs.StatusCode.{IsStatusCode, code_digits}
use Rattle.http_header.specs.HeaderMap.{Entries}
use Rattle.http_header.specs.FieldValue.{FieldValue}
use Rattle.qh_spec.specs.Fields.{Field}
use Rattle.qh_spec.specs.HttpFrame.{HttpFrame, data_frame, headers_frame}
use Rattle.qh_spec.specs.Meaning.{MeansFields, MeansHead, MeansRequest, ChoosesAuthority, MeansTrailers, given_target, pseudo, host_of}
use Rattle.qh_spec.specs.Message.{PlainTarget, PlainHead, Request, Response, PlainMessage}
use Rattle.qh_spec.specs.Same.{SameFields, SameTrailers, SameTarget, SameHead, SameMessage, SameKind}
use Rattle.qh_spec.specs.Section.{IsSection}
use Rattle.qh_spec.specs.Spelling.{trailer_frames, known_frames, Spells}
use Rattle.qh_spec.proofs.HttpFrameLaws.{frames_are_one}
use Rattle.qh_spec.proofs.SameLaws.{target_sym, target_trans}
use Rattle.qh_spec.proofs.SectionLaws.{section_is_one}

-- DATA frames and then at most one HEADERS frame tell both apart
parts_agree : (ps qs : List (List ℕ)) (l m : Option (List ℕ)) → map data_frame ps ++ trailer_frames l ≡ map data_frame qs ++ trailer_frames m → (ps ≡ qs) × (l ≡ m)
parts_agree [] [] None None e = (refl, refl)
parts_agree [] [] None (Some t) e = cc
parts_agree [] [] (Some s) None e = cc
parts_agree [] [] (Some s) (Some t) e = (refl, (let h : headers_frame s ≡ headers_frame t = cc in ap (λ (z : HttpFrame). Some z.payload) h))
parts_agree [] (q ∷ qs) None m e = cc
parts_agree [] (q ∷ qs) (Some s) m e =
    let h : headers_frame s ≡ data_frame q = cc in
    let k : ◌≡◌ {A = ℕ} 1 0 = ap (λ (z : HttpFrame). z.kind) h in
    absurd (omega arith)
parts_agree (p ∷ ps) [] l None e = cc
parts_agree (p ∷ ps) [] l (Some t) e =
    let h : data_frame p ≡ headers_frame t = cc in
    let k : ◌≡◌ {A = ℕ} 0 1 = ap (λ (z : HttpFrame). z.kind) h in
    absurd (omega arith)
parts_agree (p ∷ ps) (q ∷ qs) l m e =
    let h : data_frame p ≡ data_frame q = cc in
    let v : p ≡ q = ap (λ (z : HttpFrame). z.payload) h in
    let rest : map data_frame ps ++ trailer_frames l ≡ map data_frame qs ++ trailer_frames m = cc in
    let r = parts_agree ps qs l m rest in
    (let w : ps ≡ qs = r.0 in cc, r.1)

-- meanings
pub fields_same : (fs : List Field) (a b : Entries FieldValue) → MeansFields fs a → MeansFields fs b → SameFields a b
fields_same fs a b p q = λ name. p.values name ∙ sym (q.values name)

digits_one : (m n : ℕ) → IsStatusCode m → IsStatusCode n → code_digits m ≡ code_digits n → m ≡ n
digits_one m n p q e =
    let a : 48 + m / 100 ≡ 48 + n / 100 = cc in
    let b : 48 + m / 10 % 10 ≡ 48 + n / 10 % 10 = cc in
    let c : 48 + m % 10 ≡ 48 + n % 10 = cc in
    omega (arith, p.0, p.1, q.0, q.1)

pub authority_one : (x h : Option (List ℕ)) (a b : List ℕ) → ChoosesAuthority x h a → ChoosesAuthority x h b → a ≡ b
authority_one None None a b p q = absurd p
authority_one (Some x) None a b p q = p ∙ sym q
authority_one None (Some h) a b p q = p ∙ sym q
authority_one (Some x) (Some h) a b p q = p.0 ∙ sym q.0

target_one : (fs : List Field) (m n : List ℕ) (t u : PlainTarget) → MeansRequest fs m t → MeansRequest fs n u → SameTarget t u
target_one fs m n t u p q =
    let a = authority_one (pseudo (codes ":authority") fs) (host_of fs) p.authority q.authority p.chosen q.chosen in
    target_trans t (given_target fs q.authority) u
    (subst (λ (z : List ℕ). SameTarget t (given_target fs z)) a (target_sym (given_target fs p.authority) t p.target_is)) q.target_is

pub heads_same : (fs : List Field) (a b : PlainHead) → SameKind a b → MeansHead fs a → MeansHead fs b → SameHead a b
heads_same fs (Request m t) (Request n u) k p q =
    let both : ◌≡◌ {A = Option (List ℕ)} (Some m) (Some n) = sym p.method_is ∙ q.method_is in
    let one : m ≡ n = cc in
    (one, target_one fs m n t u p q)
heads_same fs (Response s) (Response t) k p q =
    let both : ◌≡◌ {A = Option (List ℕ)} (Some (code_digits s)) (Some (code_digits t)) = sym p.1 ∙ q.1 in
    let digits : code_digits s ≡ code_digits t = cc in
    digits_one s t p.0 q.0 digits
heads_same fs (Request m t) (Response s) k p q = absurd k
heads_same fs (Response s) (Request m t) k p q = absurd k

trailers_same : (l : Option (List ℕ)) (a b : Option (Entries FieldValue)) → MeansTrailers l a → MeansTrailers l b → SameTrailers a b
trailers_same None None None p q = tt
trailers_same None None (Some b) p q = absurd q
trailers_same None (Some a) b p q = absurd p
trailers_same (Some s) None b p q = absurd p
trailers_same (Some s) (Some a) None p q = absurd q
trailers_same (Some s) (Some a) (Some b) p q =
    let one : p.0 ≡ q.0 = section_is_one s p.0 q.0 p.1 q.1 in
    fields_same q.0 a b (subst (λ (z : List Field). MeansFields z a) one p.2) q.2

-- bytes spell one message of a kind
pub spells_one : (bytes : List ℕ) (m n : PlainMessage) → SameKind m.head n.head → Spells bytes m → Spells bytes n → SameMessage m n
spells_one bytes m n k p q =
    let frames : p.frames ≡ q.frames = frames_are_one bytes p.frames q.frames p.framed q.framed in
    let order : headers_frame p.section ∷ (map data_frame p.payloads ++ trailer_frames p.last) ≡ headers_frame q.section ∷ (map data_frame q.payloads ++ trailer_frames q.last)
    = sym p.order ∙ ap known_frames frames ∙ q.order in
    let first : headers_frame p.section ≡ headers_frame q.section = cc in
    let sections : p.section ≡ q.section = ap (λ (z : HttpFrame). z.payload) first in
    let rest : map data_frame p.payloads ++ trailer_frames p.last ≡ map data_frame q.payloads ++ trailer_frames q.last = cc in
    let parts = parts_agree p.payloads q.payloads p.last q.last rest in
    let fields : p.fields ≡ q.fields = section_is_one q.section p.fields q.fields (subst (λ (z : List ℕ). IsSection z p.fields) sections p.is_section) q.is_section in
    record {
      head = heads_same q.fields m.head n.head k (subst (λ (z : List Field). MeansHead z m.head) fields p.head) q.head;
      fields = fields_same q.fields m.fields n.fields (subst (λ (z : List Field). MeansFields z m.fields) fields p.means) q.means;
      body = p.body ∙ ap concat parts.0 ∙ sym q.body;
      trailers = trailers_same q.last m.trailers n.trailers (subst (λ (z : Option (List ℕ)). MeansTrailers z m.trailers) parts.1 p.trailers) q.trailers;
    }

-- what means a thing means each that is the same
fields_closed : (fs : List Field) (a b : Entries FieldValue) → SameFields a b → MeansFields fs a → MeansFields fs b
fields_closed fs a b e p = record { readable = p.readable; values = λ name. sym (e name) ∙ p.values name }

head_closed : (fs : List Field) (a b : PlainHead) → SameHead a b → MeansHead fs a → MeansHead fs b
head_closed fs (Request m t) (Request n u) e p = record {
  method_is = p.method_is ∙ ap Some e.0;
  authority = p.authority;
  chosen = p.chosen;
  makes = p.makes;
  target_is = target_trans (given_target fs p.authority) t u p.target_is e.1;
}
head_closed fs (Response s) (Response t) e p = (subst IsStatusCode e p.0, p.1 ∙ ap (λ (n : ℕ). Some (code_digits n)) e)
head_closed fs (Request m t) (Response s) e p = absurd e
head_closed fs (Response s) (Request m t) e p = absurd e

trailers_closed : (l : Option (List ℕ)) (a b : Option (Entries FieldValue)) → SameTrailers a b → MeansTrailers l a → MeansTrailers l b
trailers_closed None None None e p = tt
trailers_closed None (Some a) b e p = absurd p
trailers_closed (Some s) None b e p = absurd p
trailers_closed l None (Some b) e p = absurd e
trailers_closed l (Some a) None e p = absurd e
trailers_closed (Some s) (Some a) (Some b) e p = (p.0, p.1, fields_closed p.0 a b e p.2)

pub spells_closed : (bytes : List ℕ) (m n : PlainMessage) → SameMessage m n → Spells bytes m → Spells bytes n
spells_closed bytes m n e p = record {
  frames = p.frames;
  section = p.section;
  payloads = p.payloads;
  last = p.last;
  fields = p.fields;
  framed = p.framed;
  order = p.order;
  is_section = p.is_section;
  head = head_closed p.fields m.head n.head e.head p.head;
  means = fields_closed p.fields m.fields n.fields e.fields p.means;
  body = sym e.body ∙ p.body;
  trailers = trailers_closed p.last m.trailers n.trailers e.trailers p.trailers;
}
