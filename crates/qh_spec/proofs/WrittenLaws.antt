-- The fields that are written of a message mean it.
use Rattle.std.proofs.Common.{◌≡◌, inl, inr, ℕ, suc, ◌+◌, Bool, true, false, cond, List, [], ◌∷◌, ◌++◌, length, take, Option, Some, None, refl, sym, ap, ◌∙◌, subst, append-nil, arith}
use Rattle.std.specs.Prelude.{codes, bytes_eq, map, is_some, ◌||◌, ◌==◌, not, ◌↔◌, slice_get, slice_index}
use Rattle.std.specs.List.{AllByRecursion}
use Rattle.std.proofs.lemmas.Bool.{cases_Bool, ne_eqb}
use Rattle.std.proofs.lemmas.List.{map-append}
use Rattle.std.proofs.lemmas.List.Sums.{sum_by-cons}
use Rattle.std.proofs.lemmas.Slice.Eq.{bytes_eq-Decides}
use Rattle.http.specs.StatusCode.{IsStatusCode, code_digits}
use Rattle.http_header.specs.HeaderMap.{Entries, keys, pairs, entry_pairs, get_all}
use Rattle.http_header.specs.FieldName.{IsHeaderName}
use Rattle.http_header.specs.FieldValue.{FieldValue}
use Rattle.http_header.specs.Token.{AllPass, is_token_byte}
use Rattle.http_uri.specs.ByteClasses.{count_of, index_of, hash_sign, slash}
use Rattle.http_uri.specs.Grammar.{IsAuthority, without_fragment, or_slash, path_of, query_of}
use Rattle.qh_spec.specs.Fields.{Field, optional_field, head_fields, map_fields, message_fields}
use Rattle.qh_spec.specs.Lists.{In, Distinct}
use Rattle.qh_spec.specs.Meaning.{IsReadable, method, scheme, authority, path, status, plain, AreReadable, values_of, last_of, pseudo, is_pseudo_name, MeansFields, ChoosesAuthority, kept_path, given_target, MeansRequest, MeansHead}
use Rattle.qh_spec.specs.Message.{PlainTarget, PlainHead, Request, Response, PlainMessage}
use Rattle.qh_spec.specs.Same.{SameTarget, bytes_under}
use Rattle.qh_spec.specs.Validity.{IsValidTarget, AreValidHosts, IsValidHead, IsValidRequest}
use Rattle.qh_spec.specs.Written.{HasPlainNames}
use Rattle.qh_spec.proofs.MessageRows.{only_pseudo}

values_append : (name : List ℕ) (xs ys : List Field) → values_of name (xs ++ ys) ≡ values_of name xs ++ values_of name ys
values_append name [] ys = refl
values_append name (f ∷ xs) ys =
    elim (cases_Bool (bytes_eq f.name name)) [
      | inl t ↦ rw t (ap (λ (z : List (List ℕ)). f.value ∷ z) (values_append name xs ys))
      | inr t ↦ rw t (values_append name xs ys)
    ]

-- one value under a name, as a field
abbrev field_from : List ℕ × FieldValue → Field
field_from p = record { name = p.0; value = p.1.bytes }

values_of_entry : (name key : List ℕ) (vs : List FieldValue) → values_of name (map field_from (entry_pairs (key, vs))) ≡ cond (bytes_eq key name) (map (λ (v : FieldValue). v.bytes) vs) []
values_of_entry name key [] = elim (cases_Bool (bytes_eq key name)) [ inl t ↦ rw t refl | inr t ↦ rw t refl ]
values_of_entry name key (v ∷ vs) =
    elim (cases_Bool (bytes_eq key name)) [
      | inl t ↦ let e : values_of name (map field_from (entry_pairs (key, vs))) ≡ map (λ (v : FieldValue). v.bytes) vs = rw t at (values_of_entry name key vs) in
          rw t (ap (λ (z : List (List ℕ)). v.bytes ∷ z) e)
      | inr t ↦ let e : values_of name (map field_from (entry_pairs (key, vs))) ≡ [] = rw t at (values_of_entry name key vs) in
          rw t e
    ]

absent : (m : Entries FieldValue) (name : List ℕ) → (In name (keys m) → ⊥) → get_all m name ≡ []
absent [] name n = refl
absent (e ∷ m) name n =
    elim (cases_Bool (bytes_eq e.0 name)) [
      | inl t ↦ absurd (n (inl ((bytes_eq-Decides e.0 name).0 t)))
      | inr t ↦ rw t (absent m name (λ i. n (inr i)))
    ]

-- the fields that a map is written as have, under each name, its values
pub values_of_map : (m : Entries FieldValue) (name : List ℕ) → Distinct (keys m) → values_of name (map_fields m) ≡ bytes_under m name
values_of_map [] name d = refl
values_of_map (e ∷ m) name d =
    let apart : values_of name (map_fields (e ∷ m)) ≡ cond (bytes_eq e.0 name) (map (λ (v : FieldValue). v.bytes) e.1) [] ++ bytes_under m name =
    ap (values_of name) (map-append field_from (entry_pairs e) (pairs m)) ∙ values_append name (map field_from (entry_pairs e)) (map_fields m)
    ∙ ap (λ (z : List (List ℕ)). z ++ values_of name (map_fields m)) (values_of_entry name e.0 e.1)
    ∙ ap (λ (z : List (List ℕ)). cond (bytes_eq e.0 name) (map (λ (v : FieldValue). v.bytes) e.1) [] ++ z) (values_of_map m name d.1) in
    elim (cases_Bool (bytes_eq e.0 name)) [
      | inl t ↦
          let same : e.0 ≡ name = (bytes_eq-Decides e.0 name).0 t in
          let none : get_all m name ≡ [] = absent m name (λ i. d.0 (subst (λ (z : List ℕ). In z (keys m)) (sym same) i)) in
          apart ∙ rw (t, none, append-nil (map (λ (v : FieldValue). v.bytes) e.1)) refl
      | inr t ↦ apart ∙ rw t refl
    ]

all_in : {X : Type 0} (P : X → Type 0) (x : X) (xs : List X) → AllByRecursion P xs → In x xs → P x
all_in P x [] a i = absurd i
all_in P x (y ∷ ys) a (inl e) = subst P e a.0
all_in P x (y ∷ ys) a (inr i) = all_in P x ys a.1 i

no_pseudo_key : (m : Entries FieldValue) (name : List ℕ) → HasPlainNames m → is_pseudo_name name ≡ true → bytes_under m name ≡ []
no_pseudo_key m name names t =
    ap (λ (z : List FieldValue). map (λ (v : FieldValue). v.bytes) z)
    (absent m name (λ i.
    let f : is_pseudo_name name ≡ false = all_in (λ (k : List ℕ). is_pseudo_name k ≡ false) name (keys m) names.plain i in
    let both : true ≡ false = sym t ∙ f in
    cc))

pub fields_mean : (hs : List Field) (m : Entries FieldValue) (name : List ℕ) → AllByRecursion (λ (f : Field). is_pseudo_name f.name ≡ true) hs → HasPlainNames m
    → bytes_under m name ≡ cond (is_pseudo_name name) [] (values_of name (hs ++ map_fields m))
fields_mean hs m name p names =
    elim (cases_Bool (is_pseudo_name name)) [
      | inl t ↦ rw t (no_pseudo_key m name names t)
      | inr t ↦
          let e : values_of name (hs ++ map_fields m) ≡ bytes_under m name =
          values_append name hs (map_fields m) ∙ ap (λ (z : List (List ℕ)). z ++ values_of name (map_fields m)) (only_pseudo hs name p t) ∙ values_of_map m name names.once in
          rw t (sym e)
    ]

-- the four pseudo fields of a target with all its parts
four : (m s a p : List ℕ) → List Field
four m s a p =
    record { name = codes ":method"; value = m } ∷ record { name = codes ":scheme"; value = s }
    ∷ record { name = codes ":authority"; value = a } ∷ record { name = codes ":path"; value = p } ∷ []

four_by_parts : (m s a p : List ℕ) (x y : Option (List ℕ)) → x ≡ Some s → y ≡ Some a
    → record { name = codes ":method"; value = m } ∷ (optional_field (codes ":scheme") x ++ (optional_field (codes ":authority") y ++ optional_field (codes ":path") (cond (is_some x || not (is_some y)) (Some p) None))) ≡ four m s a p
unfolding four
four_by_parts m s a p x y e f = rw (e, f) refl

head_four : (m s a : List ℕ) (t : PlainTarget) → t.scheme ≡ Some s → t.authority ≡ Some a → head_fields (Request m t) ≡ four m s a (or_slash t.path_and_query)
head_four m s a t e f = four_by_parts m s a (or_slash t.path_and_query) t.scheme t.authority e f

four_pseudo : (m s a d : List ℕ) → AllByRecursion (λ (f : Field). is_pseudo_name f.name ≡ true) (four m s a d)
unfolding four
four_pseudo m s a d = (refl, (refl, (refl, (refl, tt))))

-- the one value of a pseudo field before a map's fields
pseudo_of : (name value : List ℕ) (hs : List Field) (m : Entries FieldValue) → is_pseudo_name name ≡ true → HasPlainNames m → values_of name hs ≡ value ∷ [] → pseudo name (hs ++ map_fields m) ≡ Some value
pseudo_of name value hs m t names e =
    ap last_of (values_append name hs (map_fields m) ∙ ap (λ (z : List (List ℕ)). z ++ values_of name (map_fields m)) e
    ∙ ap (λ (z : List (List ℕ)). value ∷ z) (values_of_map m name names.once ∙ no_pseudo_key m name names t))

method_of : (m s a d : List ℕ) → values_of (codes ":method") (four m s a d) ≡ m ∷ []
unfolding four
method_of m s a d = refl

scheme_of : (m s a d : List ℕ) → values_of (codes ":scheme") (four m s a d) ≡ s ∷ []
unfolding four
scheme_of m s a d = refl

authority_of : (m s a d : List ℕ) → values_of (codes ":authority") (four m s a d) ≡ a ∷ []
unfolding four
authority_of m s a d = refl

path_is : (m s a d : List ℕ) → values_of (codes ":path") (four m s a d) ≡ d ∷ []
unfolding four
path_is m s a d = refl

hosts_of : (m s a d : List ℕ) → values_of (codes "host") (four m s a d) ≡ []
unfolding four
hosts_of m s a d = refl

-- a target by its parts
same_target : (t u : PlainTarget) → t.scheme ≡ u.scheme → t.authority ≡ u.authority → t.path_and_query ≡ u.path_and_query → SameTarget t u
same_target t u s a d =
    let parts : ◌≡◌ {A = Option (List ℕ) × List ℕ} (t.scheme, t.path_and_query) (u.scheme, u.path_and_query) = cc in
    record {
      scheme = s;
      authority = a;
      path = ap (λ (z : Option (List ℕ) × List ℕ). cond (not (length z.1 == 0) || is_some z.0) (path_of z.1) []) parts;
      query = ap query_of d;
    }

chosen : (a : List ℕ) (x y : Option (List ℕ)) (hosts : List (List ℕ)) → x ≡ Some a → y ≡ Some a → AreValidHosts y hosts → ChoosesAuthority x (slice_get hosts 0) a
chosen a None y hosts e f v = cc
chosen a (Some x) y [] e f v = cc
chosen a (Some x) y (h ∷ []) e f v =
    let one : x ≡ a = cc in
    let two : Some a ≡ Some h = sym f ∙ v in
    let three : a ≡ h = cc in
    (three, one ∙ three)
chosen a (Some x) y (h ∷ i ∷ more) e f v = absurd v

some_both : (x y : Option (List ℕ)) (s d : List ℕ) → x ≡ Some s → y ≡ Some d → (is_some x ≡ true) ↔ (is_some y ≡ true)
some_both x y s d e f = (λ h. ap is_some f, λ h. ap is_some e)

take_one_more : (n b : ℕ) (d : List ℕ) → take (1 + n) (b ∷ d) ≡ b ∷ take n d
take_one_more n b d = let e : 1 + n ≡ suc n = omega arith in ap (λ (k : ℕ). take k (b ∷ d)) e

-- without the byte that begins a fragment, nothing is cut
uncut : (d : List ℕ) → count_of hash_sign d ≡ 0 → without_fragment d ≡ d
uncut [] e = refl
uncut (b ∷ d) e =
    let parts : count_of hash_sign (b ∷ d) ≡ cond (b == hash_sign) 1 0 + count_of hash_sign d = sum_by-cons (λ (x : ℕ). cond (x == hash_sign) 1 0) b d in
    elim (cases_Bool (b == hash_sign)) [
      | inl t ↦ let f : count_of hash_sign (b ∷ d) ≡ 1 + count_of hash_sign d = parts ∙ ap (λ (z : Bool). cond z 1 0 + count_of hash_sign d) t in absurd (omega (arith, e, f))
      | inr t ↦
          let f : count_of hash_sign (b ∷ d) ≡ 0 + count_of hash_sign d = parts ∙ ap (λ (z : Bool). cond z 1 0 + count_of hash_sign d) t in
          let none : count_of hash_sign d ≡ 0 = omega (arith, e, f) in
          rw t (take_one_more (index_of hash_sign d) b d ∙ ap (λ (z : List ℕ). b ∷ z) (uncut d none))
    ]

-- a path is there
kept_as_is : (d : List ℕ) → slice_index d 0 ≡ slash → or_slash d ≡ d
kept_as_is [] e = absurd (omega (arith, e))
kept_as_is (b ∷ d) e = let t : length (b ∷ d) == 0 ≡ false = ne_eqb (length (b ∷ d)) 0 (λ h. omega (arith, h)) in rw t refl

-- what is written of a target with all its parts means it
four_means : (m s a : List ℕ) (t : PlainTarget) (fs : Entries FieldValue) → t.scheme ≡ Some s → t.authority ≡ Some a → IsAuthority a
    → without_fragment t.path_and_query ≡ t.path_and_query → HasPlainNames fs → AreValidHosts t.authority (bytes_under fs (codes "host"))
    → MeansRequest (four m s a t.path_and_query ++ map_fields fs) m t
four_means m s a t fs si ai auth cut names hosts =
    let d : List ℕ = t.path_and_query in
    let hs : List Field = four m s a d in
    let sp = pseudo_of (codes ":scheme") s hs fs refl names (scheme_of m s a d) in
    let au = pseudo_of (codes ":authority") a hs fs refl names (authority_of m s a d) in
    let pp = pseudo_of (codes ":path") d hs fs refl names (path_is m s a d) in
    let host : values_of (codes "host") (hs ++ map_fields fs) ≡ bytes_under fs (codes "host") =
    values_append (codes "host") hs (map_fields fs) ∙ ap (λ (z : List (List ℕ)). z ++ values_of (codes "host") (map_fields fs)) (hosts_of m s a d)
    ∙ values_of_map fs (codes "host") names.once in
    record {
      method_is = pseudo_of (codes ":method") m hs fs refl names (method_of m s a d);
      authority = a;
      chosen = subst (λ (z : List (List ℕ)). ChoosesAuthority (pseudo (codes ":authority") (hs ++ map_fields fs)) (slice_get z 0) a) (sym host)
          (chosen a (pseudo (codes ":authority") (hs ++ map_fields fs)) t.authority (bytes_under fs (codes "host")) au ai hosts);
      makes = record { is_authority = auth; both = some_both (pseudo (codes ":scheme") (hs ++ map_fields fs)) (pseudo (codes ":path") (hs ++ map_fields fs)) s d sp pp };
      target_is = same_target (given_target (hs ++ map_fields fs) a) t (sp ∙ sym si) (sym ai) (ap kept_path pp ∙ cut);
    }

scheme_some : (t : PlainTarget) → IsValidTarget t → (s : List ℕ) × (t.scheme ≡ Some s)
scheme_some t v = elim v.scheme [ inl e ↦ (codes "http", e) | inr e ↦ (codes "https", e) ]

four_of : (m : List ℕ) (t : PlainTarget) (v : IsValidTarget t) → head_fields (Request m t) ≡ four m (scheme_some t v).0 v.authority t.path_and_query
four_of m t v =
    head_four m (scheme_some t v).0 v.authority t (scheme_some t v).1 v.authority_is
    ∙ ap (four m (scheme_some t v).0 v.authority) (kept_as_is t.path_and_query v.path)

-- a name in lower case has no colon in front
no_colon : (name : List ℕ) → name ≡ codes ":authority" → IsHeaderName name → ⊥
unfolding is_token_byte
no_colon name e h =
    let t : AllPass is_token_byte (codes ":authority") = subst (AllPass is_token_byte) e h.0.0.1 in
    let first : is_token_byte 58 ≡ true = t 0 0 (omega arith) in
    let both : false ≡ true = first in
    cc

-- :authority can be read, so its value is an authority
authority_readable : (f : Field) → f.name ≡ codes ":authority" → IsReadable f → IsAuthority f.value
authority_readable f n (authority e v) = v
authority_readable f n (method e v) = let l : ◌≡◌ {A = ℕ} 7 10 = ap length (sym e ∙ n) in absurd (omega arith)
authority_readable f n (scheme e v) = let l : ◌≡◌ {A = ℕ} 7 10 = ap length (sym e ∙ n) in absurd (omega arith)
authority_readable f n (path e v) = let l : ◌≡◌ {A = ℕ} 5 10 = ap length (sym e ∙ n) in absurd (omega arith)
authority_readable f n (status e v) = let l : ◌≡◌ {A = ℕ} 7 10 = ap length (sym e ∙ n) in absurd (omega arith)
authority_readable f n (plain e v) = absurd (no_colon f.name n e)

four_authority : (m s a d : List ℕ) (rest : List Field) → AreReadable (four m s a d ++ rest) → IsAuthority a
unfolding four
four_authority m s a d rest r = authority_readable (record { name = codes ":authority"; value = a }) refl r.1.1.0

-- the fields that are written of a request mean it
pub request_written : (m : List ℕ) (t : PlainTarget) (fs : Entries FieldValue) → IsValidTarget t
    → AreValidHosts t.authority (bytes_under fs (codes "host")) → HasPlainNames fs → AreReadable (head_fields (Request m t) ++ map_fields fs)
    → MeansRequest (head_fields (Request m t) ++ map_fields fs) m t × MeansFields (head_fields (Request m t) ++ map_fields fs) fs
request_written m t fs v hosts names readable =
    let s = (scheme_some t v).0 in
    let e = four_of m t v in
    let r : AreReadable (four m s v.authority t.path_and_query ++ map_fields fs) = subst (λ (z : List Field). AreReadable (z ++ map_fields fs)) e readable in (
      subst (λ (z : List Field). MeansRequest (z ++ map_fields fs) m t) (sym e)
          (four_means m s v.authority t fs (scheme_some t v).1 v.authority_is (four_authority m s v.authority t.path_and_query (map_fields fs) r)
          (uncut t.path_and_query v.no_fragment) names hosts),
      record {
        readable = readable;
        values = λ name. fields_mean (head_fields (Request m t)) fs name
            (subst (λ (z : List Field). AllByRecursion (λ (f : Field). is_pseudo_name f.name ≡ true) z) (sym e) (four_pseudo m s v.authority t.path_and_query)) names;
      },
    )

by_head : (h : PlainHead) (fs : Entries FieldValue) → IsValidHead h (bytes_under fs (codes "host")) → HasPlainNames fs
    → AreReadable (head_fields h ++ map_fields fs) → MeansHead (head_fields h ++ map_fields fs) h × MeansFields (head_fields h ++ map_fields fs) fs
by_head (Request m t) fs v names readable = request_written m t fs v.1 v.2 names readable
by_head (Response s) fs v names readable = absurd v

-- the fields of a map alone, as those of trailers, mean the map
pub map_written : (fs : Entries FieldValue) → HasPlainNames fs → AreReadable (map_fields fs) → MeansFields (map_fields fs) fs
map_written fs names readable = record { readable = readable; values = λ name. fields_mean [] fs name tt names }

-- the fields that are written of a response mean it
pub response_written : (s : ℕ) (fs : Entries FieldValue) → IsStatusCode s → HasPlainNames fs → AreReadable (head_fields (Response s) ++ map_fields fs)
    → MeansHead (head_fields (Response s) ++ map_fields fs) (Response s) × MeansFields (head_fields (Response s) ++ map_fields fs) fs
response_written s fs is names readable = (
  (is, pseudo_of (codes ":status") (code_digits s) (head_fields (Response s)) fs refl names refl),
  record { readable = readable; values = λ name. fields_mean (head_fields (Response s)) fs name (refl, tt) names },
)

pub valid_written : (section body : ℕ) (m : PlainMessage) → IsValidRequest section body m → HasPlainNames m.fields → AreReadable (message_fields m)
    → MeansHead (message_fields m) m.head × MeansFields (message_fields m) m.fields
valid_written section body m v names readable = by_head m.head m.fields v.head names readable
