-- What is listed of a head can be sent: its parts and its fields are of their kinds.
use Rattle.std.proofs.Common.{◌≡◌, ◌≢◌, inl, inr, ℕ, suc, ◌+◌, ◌-◌, ◌<◌, true, false, List, [], ◌∷◌, ◌++◌, length, take, drop, get_or, Option, Some, None, refl, sym, ap, ◌∙◌, subst, arith, lt-ltb, get_or-take, get_or-drop, length-take-le, length-drop}
use Rattle.std.specs.Prelude.{IfSome, map, nat_lt, All}
use Rattle.std.specs.List.{AllByRecursion}
use Rattle.std.proofs.lemmas.Bool.{cases_order}
use Rattle.std.proofs.lemmas.List.{take_all, map-append}
use Rattle.std.proofs.lemmas.List.Elements.{All-head, All-tail}
use Rattle.http.specs.StatusCode.{IsStatusCode}
use Rattle.http_header.specs.FieldName.{IsHeaderName}
use Rattle.http_header.specs.FieldValue.{FieldValue}
use Rattle.http_header.specs.HeaderMap.{Entry, Entries, IsHeaderMap, IsUnique, keys, pairs, entry_at, entry_pairs}
use Rattle.http_header.specs.Token.{IsToken}
use Rattle.http_uri.specs.ByteClasses.{index_of, is_path_byte, is_query_byte}
use Rattle.http_uri.specs.Grammar.{AllPass, IsScheme, IsAuthority, IsPathAndQuery, IsPathInput, StartsPath, or_slash, without_fragment}
use Rattle.http_uri.proofs.PathLemmas.{path_byte_no_mark, query_byte_no_hash, IsPathAndQuery_slash}
use Rattle.http_uri.proofs.RunLemmas.{AllPass-at, index_of_is, index_of_le, index_of_found}
use Rattle.qh_qpack.specs.SectionFault.{IsWritable}
use Rattle.qh_spec.specs.Fields.{Field, map_fields}
use Rattle.qh_spec.specs.Lists.{In, Distinct}
use Rattle.qh_spec.specs.Meaning.{AreReadable, plain, is_pseudo_name}
use Rattle.qh_h3wire.specs.HeadFields.{IsPlainField, with_fields}
use Rattle.qh_h3wire.specs.Header.{written_fields, HasKinds, IsSendable}
use Rattle.qh_h3wire.specs.declared.headers.pseudo.Pseudo.{Pseudo}
use Rattle.qh_h3wire.proofs.Readable.{is_plain}
use Rattle.qh_h3wire.proofs.Targets.{no_slash}

-- no byte of a path, of its question mark and of a query begins a fragment
no_hash : (p : List ℕ) → IsPathAndQuery p → (k : ℕ) → k < length p → get_or p k 0 ≢ 35
no_hash p v k h =
    let q = index_of 63 p in
    let within = index_of_le 63 p in
    elim (cases_order k q) [
      | inl at ↦ let found = index_of_found 63 p (omega (arith, at)) in rw (at, found) (omega arith)
      | inr (inl before) ↦
          let size = length-take-le q p within in
          let pass : is_path_byte (get_or (take q p) k 0) ≡ true = AllPass-at is_path_byte (take q p) v.path k (omega (arith, size)) in
          (path_byte_no_mark (get_or p k 0) (sym (ap is_path_byte (get_or-take q p k 0 before)) ∙ pass)).0
      | inr (inr after) ↦
          let some : nat_lt q (length p) ≡ true = lt-ltb q (length p) (omega arith) in
          let all : AllPass is_query_byte (drop (q + 1) p) = rw some at v.query in
          let size = length-drop (q + 1) p in
          let place : q + 1 + (k - (q + 1)) ≡ k = omega arith in
          let pass : is_query_byte (get_or (drop (q + 1) p) (k - (q + 1)) 0) ≡ true = AllPass-at is_query_byte (drop (q + 1) p) all (k - (q + 1)) (omega (arith, size)) in
          let here : get_or (drop (q + 1) p) (k - (q + 1)) 0 ≡ get_or p k 0 = get_or-drop (q + 1) p (k - (q + 1)) 0 ∙ ap (λ (i : ℕ). get_or p i 0) place in
          query_byte_no_hash (get_or p k 0) (sym (ap is_query_byte here) ∙ pass)
    ]

whole : (p : List ℕ) → IsPathAndQuery p → without_fragment p ≡ p
whole p v =
    let e : index_of 35 p ≡ length p = index_of_is 35 p (length p) (omega arith) (no_hash p v) (λ h. absurd (omega (arith, h))) in
    take_all (index_of 35 p) p (omega (arith, e))

starts : (x : ℕ) (xs : List ℕ) → IsPathAndQuery (x ∷ xs) → StartsPath (x ∷ xs)
starts x xs v = elim v.start [
  | inl none ↦ absurd (let size = ap length none in omega (arith, size))
  | inr (inl star) ↦ inl star
  | inr (inr (inl slash)) ↦ inr (rw slash refl)
  | inr (inr (inr mark)) ↦ inr (rw mark refl)
]

-- a path and a query, as they are written
abbrev IsWrittenPath : List ℕ → Type 0
IsWrittenPath p = IsPathInput (or_slash p) × (without_fragment (or_slash p) ≡ or_slash p)

path_written : (p : List ℕ) → IsPathAndQuery p → IsWrittenPath p
path_written [] v = (record { start = inr refl; short = omega arith; kept = IsPathAndQuery_slash }, refl)
path_written (x ∷ xs) v =
    let w = whole (x ∷ xs) v in
    rw (no_slash x xs) (record { start = starts x xs v; short = v.short; kept = subst IsPathAndQuery (sym w) v }, w)

some_path : (o : Option (List ℕ)) → IfSome o IsPathAndQuery → IfSome o IsWrittenPath
some_path None h = tt
some_path (Some p) h = path_written p h

pub kinds : (p : Pseudo) → IfSome p.method IsToken → IfSome p.scheme IsScheme → IfSome p.authority IsAuthority → IfSome p.path IsPathAndQuery → IfSome p.status IsStatusCode
    → HasKinds (with_fields [] p)
kinds p m s a d n = record { method = m; scheme = s; authority = a; path = some_path p.path d; status = n }

-- the fields of a message can be read
pub plain_readable : (fs : List Field) → AllByRecursion IsPlainField fs → AreReadable fs
plain_readable [] a = tt
plain_readable (f ∷ fs) a = (plain a.0.0 a.0.1, plain_readable fs a.1)

abbrev field_from : List ℕ × FieldValue → Field
field_from p = record { name = p.0; value = p.1.bytes }

back_plain : (xs ys : List Field) → AllByRecursion IsPlainField (xs ++ ys) → AllByRecursion IsPlainField ys
back_plain [] ys a = a
back_plain (x ∷ xs) ys a = back_plain xs ys a.1

-- an entry has a value, and so its name is that of a field
first_plain : (k : List ℕ) (vs : List FieldValue) (ys : List Field) → 0 < length vs → AllByRecursion IsPlainField (map field_from (entry_pairs (k, vs)) ++ ys) → IsHeaderName k
first_plain k [] ys h a = absurd (omega arith)
first_plain k (v ∷ vs) ys h a = a.0.0

keys_plain : (m : Entries FieldValue) → All (λ (e : Entry FieldValue). 0 < length e.1) m → AllByRecursion IsPlainField (map_fields m)
    → AllByRecursion (λ (k : List ℕ). is_pseudo_name k ≡ false) (keys m)
keys_plain [] f a = tt
keys_plain (e ∷ m) f a =
    let filled = λ (z : Entry FieldValue). 0 < length z.1 in
    let both : AllByRecursion IsPlainField (map field_from (entry_pairs e) ++ map_fields m) = subst (AllByRecursion IsPlainField) (map-append field_from (entry_pairs e) (pairs m)) a in (
      is_plain e.0 (first_plain e.0 e.1 (map_fields m) (All-head filled e m f) both),
      keys_plain m (All-tail filled e m f) (back_plain (map field_from (entry_pairs e)) (map_fields m) both),
    )

-- a name that no entry has
not_in : (name : List ℕ) (m : Entries FieldValue) → ((j : ℕ) → j < length m → (entry_at m j).0 ≡ name → ⊥) → In name (keys m) → ⊥
not_in name [] far i = absurd i
not_in name (e ∷ m) far (inl s) = far 0 (omega arith) s
not_in name (e ∷ m) far (inr i) = not_in name m (λ j l s. far (suc j) (omega arith) s) i

distinct : (m : Entries FieldValue) → IsUnique m → Distinct (keys m)
distinct [] u = tt
distinct (e ∷ m) u = (
  not_in e.0 m (λ j l s. let same : suc j ≡ 0 = u (suc j) 0 (omega arith) (omega arith) s in omega (arith, same)),
  distinct m (λ i j a b s. let same : suc i ≡ suc j = u (suc i) (suc j) (omega arith) (omega arith) s in omega (arith, same)),
)

pub sendable : (p : Pseudo) (m : Entries FieldValue) → HasKinds (with_fields [] p) → AllByRecursion IsPlainField (map_fields m) → IsHeaderMap m
    → AllByRecursion IsWritable (written_fields (with_fields m p)) → IsSendable (with_fields m p)
sendable p m k a is short = record {
  kinds = record { method = k.method; scheme = k.scheme; authority = k.authority; path = k.path; status = k.status };
  readable = plain_readable (map_fields m) a;
  names = record { once = distinct m is.unique; plain = keys_plain m is.filled a };
  is_map = is;
  short = short;
}
