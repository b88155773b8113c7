-- What is written of a head is kept where it is read, and gives this head again.
use Rattle.std.proofs.Common.{◌≡◌, ℕ, true, false, List, [], ◌∷◌, ◌++◌, length, refl, sym, ap, ◌∙◌, subst, arith, append-nil, append_assoc, Option, Some, None}
use Rattle.std.specs.Prelude.{codes, bytes_eq, IfSome}
use Rattle.std.specs.List.{AllByRecursion}
use Rattle.std.specs.Option.{option_map}
use Rattle.http.specs.StatusCode.{IsStatusCode, IsCodeText, code_digits}
use Rattle.http_header.specs.HeaderMap.{Entries, value_count}
use Rattle.http_header.specs.FieldValue.{FieldValue}
use Rattle.http_header.specs.Token.{IsToken}
use Rattle.http_uri.specs.Grammar.{IsScheme, IsAuthority, IsPathInput, or_slash, without_fragment}
use Rattle.qh_spec.specs.Fields.{Field, optional_field, map_fields}
use Rattle.qh_spec.specs.Meaning.{IsReadable, method, scheme, authority, path, status, AreReadable, values_of, last_of, pseudo, is_pseudo_name}
use Rattle.qh_spec.specs.Refusal.{fields_map, AreTaken}
use Rattle.qh_spec.specs.Same.{bytes_under}
use Rattle.qh_spec.specs.Written.{HasPlainNames}
use Rattle.qh_spec.proofs.MapLaws.{fields_make}
use Rattle.qh_spec.proofs.WrittenLaws.{values_of_map, fields_mean}
use Rattle.qh_h3wire.specs.Header.{header_fields, written_fields, IsHeaderOf, IsReadAgain, IsSendable}
use Rattle.qh_h3wire.specs.PlainHeader.{PlainHeader}
use Rattle.qh_h3wire.proofs.FieldLists.{values_append}
use Rattle.qh_h3wire.proofs.Means.{same_status}
use Rattle.qh_h3wire.proofs.Readable.{is_plain}
use Rattle.qh_h3wire.proofs.Room.{HasRoom, map_kept}

abbrev ArePseudo : List Field → Type 0
ArePseudo fs = AllByRecursion (λ (f : Field). is_pseudo_name f.name ≡ true) fs

-- the value that is there
abbrev optional : Option (List ℕ) → List (List ℕ)
optional None = []
optional (Some v) = v ∷ []

last_optional : (o : Option (List ℕ)) → last_of (optional o) ≡ o
last_optional None = refl
last_optional (Some v) = refl

own_value : (name : List ℕ) (v : Option (List ℕ)) → bytes_eq name name ≡ true → values_of name (optional_field name v) ≡ optional v
own_value name None t = refl
own_value name (Some v) t = rw t refl

no_value : (name own : List ℕ) (v : Option (List ℕ)) → bytes_eq own name ≡ false → values_of name (optional_field own v) ≡ []
no_value name own None t = refl
no_value name own (Some v) t = rw t refl

joined : (name : List ℕ) (xs ys : List Field) (a b : List (List ℕ)) → values_of name xs ≡ a → values_of name ys ≡ b → values_of name (xs ++ ys) ≡ a ++ b
joined name xs ys a b p q = values_append name xs ys ∙ ap (λ (z : List (List ℕ)). z ++ values_of name ys) p ∙ ap (λ (z : List (List ℕ)). a ++ z) q

-- the values of a name in a head, by those of its parts
in_head : (name : List ℕ) (h : PlainHeader) (m s a p n : List (List ℕ)) → values_of name (optional_field (codes ":method") h.method) ≡ m
    → values_of name (optional_field (codes ":scheme") h.scheme) ≡ s → values_of name (optional_field (codes ":authority") h.authority) ≡ a
    → values_of name (optional_field (codes ":path") (option_map or_slash h.path)) ≡ p → values_of name (optional_field (codes ":status") (option_map code_digits h.status)) ≡ n
    → values_of name (header_fields h) ≡ m ++ (s ++ (a ++ (p ++ n)))
in_head name h m s a p n x y z u v =
    joined name (optional_field (codes ":method") h.method) _ m (s ++ (a ++ (p ++ n))) x
    (joined name (optional_field (codes ":scheme") h.scheme) _ s (a ++ (p ++ n)) y
    (joined name (optional_field (codes ":authority") h.authority) _ a (p ++ n) z
    (joined name (optional_field (codes ":path") (option_map or_slash h.path)) _ p n u v)))

method_values : (h : PlainHeader) → values_of (codes ":method") (header_fields h) ≡ optional h.method
method_values h =
    in_head (codes ":method") h (optional h.method) [] [] [] [] (own_value (codes ":method") h.method refl) (no_value (codes ":method") (codes ":scheme") h.scheme refl)
    (no_value (codes ":method") (codes ":authority") h.authority refl) (no_value (codes ":method") (codes ":path") (option_map or_slash h.path) refl)
    (no_value (codes ":method") (codes ":status") (option_map code_digits h.status) refl)
    ∙ append-nil (optional h.method)

scheme_values : (h : PlainHeader) → values_of (codes ":scheme") (header_fields h) ≡ optional h.scheme
scheme_values h =
    in_head (codes ":scheme") h [] (optional h.scheme) [] [] [] (no_value (codes ":scheme") (codes ":method") h.method refl) (own_value (codes ":scheme") h.scheme refl)
    (no_value (codes ":scheme") (codes ":authority") h.authority refl) (no_value (codes ":scheme") (codes ":path") (option_map or_slash h.path) refl)
    (no_value (codes ":scheme") (codes ":status") (option_map code_digits h.status) refl)
    ∙ append-nil (optional h.scheme)

authority_values : (h : PlainHeader) → values_of (codes ":authority") (header_fields h) ≡ optional h.authority
authority_values h =
    in_head (codes ":authority") h [] [] (optional h.authority) [] [] (no_value (codes ":authority") (codes ":method") h.method refl) (no_value (codes ":authority") (codes ":scheme") h.scheme refl)
    (own_value (codes ":authority") h.authority refl) (no_value (codes ":authority") (codes ":path") (option_map or_slash h.path) refl)
    (no_value (codes ":authority") (codes ":status") (option_map code_digits h.status) refl)
    ∙ append-nil (optional h.authority)

path_values : (h : PlainHeader) → values_of (codes ":path") (header_fields h) ≡ optional (option_map or_slash h.path)
path_values h =
    in_head (codes ":path") h [] [] [] (optional (option_map or_slash h.path)) [] (no_value (codes ":path") (codes ":method") h.method refl) (no_value (codes ":path") (codes ":scheme") h.scheme refl)
    (no_value (codes ":path") (codes ":authority") h.authority refl) (own_value (codes ":path") (option_map or_slash h.path) refl)
    (no_value (codes ":path") (codes ":status") (option_map code_digits h.status) refl)
    ∙ append-nil (optional (option_map or_slash h.path))

status_values : (h : PlainHeader) → values_of (codes ":status") (header_fields h) ≡ optional (option_map code_digits h.status)
status_values h =
    in_head (codes ":status") h [] [] [] [] (optional (option_map code_digits h.status)) (no_value (codes ":status") (codes ":method") h.method refl)
    (no_value (codes ":status") (codes ":scheme") h.scheme refl) (no_value (codes ":status") (codes ":authority") h.authority refl)
    (no_value (codes ":status") (codes ":path") (option_map or_slash h.path) refl) (own_value (codes ":status") (option_map code_digits h.status) refl)

-- the fields of a map add no pseudo field
written_pseudo : (name : List ℕ) (h : PlainHeader) (o : Option (List ℕ)) → HasPlainNames h.fields → bytes_under h.fields name ≡ [] → values_of name (header_fields h) ≡ optional o
    → pseudo name (written_fields h) ≡ o
written_pseudo name h o names none e =
    ap last_of (joined name (header_fields h) (map_fields h.fields) (optional o) [] e (values_of_map h.fields name names.once ∙ none) ∙ append-nil (optional o)) ∙ last_optional o

kept_path : (p : Option (List ℕ)) → IfSome p (λ q. IsPathInput (or_slash q) × (without_fragment (or_slash q) ≡ or_slash q)) → option_map without_fragment (option_map or_slash p) ≡ option_map or_slash p
kept_path None h = refl
kept_path (Some p) h = ap Some h.1

both_hold : (P : Field → Type 0) (xs ys : List Field) → AllByRecursion P xs → AllByRecursion P ys → AllByRecursion P (xs ++ ys)
both_hold P [] ys a b = b
both_hold P (x ∷ xs) ys a b = (a.0, both_hold P xs ys a.1 b)

one_pseudo : (name : List ℕ) (v : Option (List ℕ)) → is_pseudo_name name ≡ true → ArePseudo (optional_field name v)
one_pseudo name None t = tt
one_pseudo name (Some v) t = (t, tt)

head_pseudo : (h : PlainHeader) → ArePseudo (header_fields h)
head_pseudo h =
    let P = λ (f : Field). is_pseudo_name f.name ≡ true in
    both_hold P (optional_field (codes ":method") h.method) _ (one_pseudo (codes ":method") h.method refl)
    (both_hold P (optional_field (codes ":scheme") h.scheme) _ (one_pseudo (codes ":scheme") h.scheme refl)
    (both_hold P (optional_field (codes ":authority") h.authority) _ (one_pseudo (codes ":authority") h.authority refl)
    (both_hold P (optional_field (codes ":path") (option_map or_slash h.path)) _ (one_pseudo (codes ":path") (option_map or_slash h.path) refl)
    (one_pseudo (codes ":status") (option_map code_digits h.status) refl))))

one_readable : (name : List ℕ) (v : Option (List ℕ)) (P : List ℕ → Type 0) → IfSome v P → ((x : List ℕ) → P x → IsReadable (record { name = name; value = x })) → AreReadable (optional_field name v)
one_readable name None P h r = tt
one_readable name (Some x) P h r = (r x h, tt)

path_readable : (p : Option (List ℕ)) → IfSome p (λ q. IsPathInput (or_slash q) × (without_fragment (or_slash q) ≡ or_slash q)) → IfSome (option_map or_slash p) IsPathInput
path_readable None h = tt
path_readable (Some p) h = h.0

status_readable : (s : Option ℕ) → IfSome s IsStatusCode → IfSome (option_map code_digits s) IsCodeText
status_readable None h = tt
status_readable (Some s) h = (s, h, refl)

head_readable : (h : PlainHeader) → IsSendable h → AreReadable (header_fields h)
head_readable h s =
    both_hold IsReadable (optional_field (codes ":method") h.method) _ (one_readable (codes ":method") h.method IsToken s.kinds.method (λ x v. method refl v))
    (both_hold IsReadable (optional_field (codes ":scheme") h.scheme) _ (one_readable (codes ":scheme") h.scheme IsScheme s.kinds.scheme (λ x v. scheme refl v))
    (both_hold IsReadable (optional_field (codes ":authority") h.authority) _ (one_readable (codes ":authority") h.authority IsAuthority s.kinds.authority (λ x v. authority refl v))
    (both_hold IsReadable (optional_field (codes ":path") (option_map or_slash h.path)) _ (one_readable (codes ":path") (option_map or_slash h.path) IsPathInput (path_readable h.path s.kinds.path) (λ x v. path refl v))
    (one_readable (codes ":status") (option_map code_digits h.status) IsCodeText (status_readable h.status s.kinds.status) (λ x v. status refl v)))))

all_readable : (h : PlainHeader) → IsSendable h → AreReadable (written_fields h)
all_readable h s = both_hold IsReadable (header_fields h) (map_fields h.fields) (head_readable h s) s.readable

pseudo_kept : (front hs rest : List Field) → AreReadable hs → ArePseudo hs → AreTaken (front ++ hs) rest → AreTaken front (hs ++ rest)
pseudo_kept front [] rest a p t = subst (λ (z : List Field). AreTaken z rest) (append-nil front) t
pseudo_kept front (f ∷ hs) rest a p t = (
  (a.0, λ full. let plain : is_pseudo_name f.name ≡ false = is_plain f.name full.0 in let both : true ≡ false = sym p.0 ∙ plain in cc),
  pseudo_kept (front ++ f ∷ []) hs rest a.1 p.1 (subst (λ (z : List Field). AreTaken z rest) (sym (append_assoc front (f ∷ []) hs)) t),
)

-- pseudo fields make no map
pseudo_map : (hs : List Field) → ArePseudo hs → fields_map hs ≡ []
pseudo_map [] p = refl
pseudo_map (f ∷ hs) p = let t = p.0 in rw t (pseudo_map hs p.1)

pub taken : (h : PlainHeader) → IsSendable h → AreTaken [] (written_fields h)
taken h s =
    let none = pseudo_map (header_fields h) (head_pseudo h) in
    let count : value_count (fields_map (header_fields h)) ≡ 0 = ap value_count none in
    let names : length (fields_map (header_fields h)) ≡ 0 = ap length none in
    let x = s.is_map.values_fit in
    let y = s.is_map.names_fit in
    let room : HasRoom (header_fields h) (value_count h.fields) (length h.fields) = record { values_fit = omega (arith, x, count); names_fit = omega (arith, y, names) } in
    pseudo_kept [] (header_fields h) (map_fields h.fields) (head_readable h s) (head_pseudo h) (map_kept h.fields (header_fields h) s.names.plain s.readable room)

pub same : (h k : PlainHeader) → IsSendable h → IsHeaderOf (written_fields h) k → IsReadAgain h k
same h k s w = record {
  method = w.method ∙ written_pseudo (codes ":method") h h.method s.names (fields_mean [] h.fields (codes ":method") tt s.names) (method_values h);
  scheme = w.scheme ∙ written_pseudo (codes ":scheme") h h.scheme s.names (fields_mean [] h.fields (codes ":scheme") tt s.names) (scheme_values h);
  authority = w.authority ∙ written_pseudo (codes ":authority") h h.authority s.names (fields_mean [] h.fields (codes ":authority") tt s.names) (authority_values h);
  path = w.path
      ∙ ap (option_map without_fragment) (written_pseudo (codes ":path") h (option_map or_slash h.path) s.names (fields_mean [] h.fields (codes ":path") tt s.names) (path_values h)) ∙ kept_path h.path s.kinds.path;
  status = same_status k.status h.status
      (w.status ∙ written_pseudo (codes ":status") h (option_map code_digits h.status) s.names (fields_mean [] h.fields (codes ":status") tt s.names) (status_values h));
  fields = λ name.
      fields_mean (header_fields h) h.fields name (head_pseudo h) s.names ∙ sym ((fields_make (written_fields h) (all_readable h s)).values name)
      ∙ ap (λ (z : Entries FieldValue). bytes_under z name) (sym w.fields_are);
}
