-- Messages that bytes spell, and messages that they don't.
use Rattle.std.proofs.Common.{◌≡◌, inl, inr, ℕ, zero, suc, ◌+◌, ◌^◌, ◌<◌, true, false, cond, List, [], ◌∷◌, ◌++◌, take, Option, Some, None, refl, sym, ap, ◌∙◌, arith}
use Rattle.std.specs.Prelude.{map, codes, slice_get, slice_index, bytes_eq, unwrap_or}
use Rattle.std.specs.List.{AllByRecursion}
use Rattle.std.proofs.lemmas.Bool.{cases_Bool}
use Rattle.std.proofs.lemmas.List.Elements.{All-from_recursion}
use Rattle.std.proofs.lemmas.Str.{IsUtf8-from_ascii}
use Rattle.std.specs.Str.{IsAscii}
use Rattle.std.proofs.lemmas.Slice.Eq.{bytes_eq-Decides}
use Rattle.http_header.specs.Token.{IsToken, is_token_byte, is_value_byte}
use Rattle.http_header.specs.FieldName.{IsHeaderName}
use Rattle.http_header.specs.FieldValue.{FieldValue, IsFieldValue, plain_value}
use Rattle.http_uri.specs.ByteClasses.{is_authority_byte, is_scheme_byte, is_path_byte}
use Rattle.http_uri.specs.Grammar.{IsScheme, IsAuthority, MayFollow, IsPathInput}
use Rattle.qh_spec.specs.Fields.{Field}
use Rattle.qh_spec.specs.HttpFrame.{HttpFrame, AreHttpFrames, data_frame, headers_frame}
use Rattle.qh_spec.specs.Meaning.{IsReadable, method, scheme, authority, path, status, plain, values_of, is_pseudo_name, MeansRequest, MeansFields}
use Rattle.qh_spec.specs.Message.{PlainTarget, PlainMessage}
use Rattle.qh_spec.specs.Same.{bytes_under}
use Rattle.qh_spec.specs.MessageRows.{a_target, get_message, other_message, ok_message, long_message, get_fields, get_section, get_bytes, ok_bytes, long_bytes, twice_fields, hosts_fields}
use Rattle.qh_spec.specs.PrefixInteger.{short}
use Rattle.qh_spec.specs.Section.{Indexed, Named, IsLine, IsSection}
use Rattle.qh_spec.specs.Spelling.{known_frames, trailer_frames, Spells}
use Rattle.qh_spec.specs.StaticTable.{static_table}
use Rattle.qh_spec.specs.Varint.{one}
use Rattle.qh_spec.proofs.HttpFrameLaws.{frames_are_one}
use Rattle.qh_spec.proofs.MessageLaws.{spells_one}

pub indexed : (n : ℕ) (f : Field) → n + 1 < 2 ^ 6 → slice_get static_table n ≡ Some f → IsLine ((192 + n) ∷ []) f
indexed n f small is = record { form = Indexed; start = (192 + n) ∷ []; number = n; rest = []; whole = refl; integer = short small refl; follows = (refl, is) }

row_17 : slice_get static_table 17 ≡ Some (record { name = codes ":method"; value = codes "GET" })
unfolding static_table
row_17 = refl

row_23 : slice_get static_table 23 ≡ Some (record { name = codes ":scheme"; value = codes "https" })
unfolding static_table
row_23 = refl

row_1 : slice_get static_table 1 ≡ Some (record { name = codes ":path"; value = codes "/" })
unfolding static_table
row_1 = refl

row_0 : slice_get static_table 0 ≡ Some (record { name = codes ":authority"; value = codes "" })
unfolding static_table
row_0 = refl

a_test : IsLine (80 ∷ 6 ∷ 97 ∷ 46 ∷ 116 ∷ 101 ∷ 115 ∷ 116 ∷ []) (record { name = codes ":authority"; value = codes "a.test" })
a_test = record {
  form = Named;
  start = 80 ∷ [];
  number = 0;
  rest = 6 ∷ 97 ∷ 46 ∷ 116 ∷ 101 ∷ 115 ∷ 116 ∷ [];
  whole = refl;
  integer = short (omega arith) refl;
  follows = record {
    row = record { name = codes ":authority"; value = codes "" };
    found = row_0;
    name = refl;
    value = record { start = 6 ∷ []; whole = refl; count = short (omega arith) refl };
  };
}

pub get_section_is : IsSection get_section get_fields
get_section_is = (
  _,
  refl,
  (
    209 ∷ [],
    _,
    refl,
    indexed 17 _ (omega arith) row_17,
    (
      215 ∷ [],
      _,
      refl,
      indexed 23 _ (omega arith) row_23,
      (
        80 ∷ 6 ∷ 97 ∷ 46 ∷ 116 ∷ 101 ∷ 115 ∷ 116 ∷ [],
        _,
        refl,
        a_test,
        (193 ∷ [], [], refl, indexed 1 _ (omega arith) row_1, refl),
      ),
    ),
  ),
)

-- a pseudo field has no other name
apart : (f : Field) (name : List ℕ) → is_pseudo_name f.name ≡ true → is_pseudo_name name ≡ false → bytes_eq f.name name ≡ false
apart f name p n =
    elim (cases_Bool (bytes_eq f.name name)) [
      | inl t ↦
          let same : f.name ≡ name = (bytes_eq-Decides f.name name).0 t in
          let both : true ≡ false = sym p ∙ ap is_pseudo_name same ∙ n in
          cc
      | inr t ↦ t
    ]

pub only_pseudo : (fs : List Field) (name : List ℕ) → AllByRecursion (λ (f : Field). is_pseudo_name f.name ≡ true) fs → is_pseudo_name name ≡ false → values_of name fs ≡ []
only_pseudo [] name p n = refl
only_pseudo (f ∷ fs) name p n = let t : bytes_eq f.name name ≡ false = apart f name p.0 n in rw t (only_pseudo fs name p.1 n)

no_fields : (fs : List Field) → AllByRecursion (λ (f : Field). is_pseudo_name f.name ≡ true) fs → (name : List ℕ) → [] ≡ cond (is_pseudo_name name) [] (values_of name fs)
no_fields fs p name =
    elim (cases_Bool (is_pseudo_name name)) [
      | inl t ↦ rw t refl
      | inr t ↦ rw (t, only_pseudo fs name p t) refl
    ]

follow : (front : List ℕ) (b : ℕ) → is_authority_byte b ≡ true → (b ≡ 58 → ⊥) → (b ≡ 91 → ⊥) → (b ≡ 93 → ⊥) → MayFollow front b
follow front b byte x y z = record { byte = byte; colons = λ e. absurd (x e); opening = λ e. absurd (y e); closing = λ e. absurd (z e) }

a_test_follows : (i : ℕ) → i < 6 → MayFollow (take i (codes "a.test")) (slice_index (codes "a.test") i)
a_test_follows zero h = follow _ 97 refl (λ e. omega arith) (λ e. omega arith) (λ e. omega arith)
a_test_follows (suc zero) h = follow _ 46 refl (λ e. omega arith) (λ e. omega arith) (λ e. omega arith)
a_test_follows (suc (suc zero)) h = follow _ 116 refl (λ e. omega arith) (λ e. omega arith) (λ e. omega arith)
a_test_follows (suc (suc (suc zero))) h = follow _ 101 refl (λ e. omega arith) (λ e. omega arith) (λ e. omega arith)
a_test_follows (suc (suc (suc (suc zero)))) h = follow _ 115 refl (λ e. omega arith) (λ e. omega arith) (λ e. omega arith)
a_test_follows (suc (suc (suc (suc (suc zero))))) h = follow _ 116 refl (λ e. omega arith) (λ e. omega arith) (λ e. omega arith)
a_test_follows (suc (suc (suc (suc (suc (suc n)))))) h = absurd (omega arith)

a_test_is : IsAuthority (codes "a.test")
a_test_is = record { nonempty = omega arith; bytes = a_test_follows; closed = refl; one_colon = omega arith; no_percent = refl; has_host = λ e. omega arith }

slash_ascii : IsAscii (codes "/")
slash_ascii zero = omega arith
slash_ascii (suc i) = omega arith

slash_is : IsPathInput (codes "/")
slash_is = record {
  start = inr refl;
  short = omega arith;
  kept = record {
    start = inr (inr (inl refl));
    path = All-from_recursion (λ (b : ℕ). is_path_byte b ≡ true) (codes "/") (refl, tt);
    query = tt;
    utf8 = IsUtf8-from_ascii (codes "/") slash_ascii;
    short = omega arith;
  };
}

get_is_token : IsToken (codes "GET")
unfolding is_token_byte
get_is_token = (omega arith, All-from_recursion (λ (b : ℕ). is_token_byte b ≡ true) (codes "GET") (refl, (refl, (refl, tt))))

https_is : IsScheme (codes "https")
https_is = (All-from_recursion (λ (b : ℕ). is_scheme_byte b ≡ true) (codes "https") (refl, (refl, (refl, (refl, (refl, tt))))), omega arith)

pub get_readable : AllByRecursion IsReadable get_fields
get_readable = (method refl get_is_token, (scheme refl https_is, (authority refl a_test_is, (path refl slash_is, tt))))

pub get_means : MeansFields get_fields []
get_means = record { readable = get_readable; values = no_fields get_fields (refl, (refl, (refl, (refl, tt)))) }

pub get_request : MeansRequest get_fields (codes "GET") a_target
get_request = record {
  method_is = refl;
  authority = codes "a.test";
  chosen = refl;
  makes = record { is_authority = a_test_is; both = (λ h. h, λ h. h) };
  target_is = record { scheme = refl; authority = refl; path = refl; query = refl };
}

-- the bytes of GET https://a.test/
pub get_spells : Spells get_bytes get_message
get_spells = record {
  frames = record { kind = 1; payload = get_section } ∷ [];
  section = get_section;
  payloads = [];
  last = None;
  fields = get_fields;
  framed = (get_bytes, [], refl, record { kind_bytes = 1 ∷ []; length_bytes = 13 ∷ []; whole = refl; kind_is = one (omega arith) refl; length_is = one (omega arith) refl }, refl);
  order = refl;
  is_section = get_section_is;
  head = get_request;
  means = get_means;
  body = refl;
  trailers = tt;
}

-- they spell no request of another host
pub get_spells_no_other : Spells get_bytes other_message → ⊥
get_spells_no_other p =
    let s = spells_one get_bytes get_message other_message tt get_spells p in
    let first : ◌≡◌ {A = ℕ} 97 98 = ap (λ (z : Option (List ℕ)). slice_index (unwrap_or z []) 0) s.head.1.authority in
    omega arith

row_25 : slice_get static_table 25 ≡ Some (record { name = codes ":status"; value = codes "200" })
unfolding static_table
row_25 = refl

status_fields : List Field
status_fields = record { name = codes ":status"; value = codes "200" } ∷ []

-- the bytes of status 200
pub ok_spells : Spells ok_bytes ok_message
unfolding status_fields
ok_spells = record {
  frames = record { kind = 1; payload = 0 ∷ 0 ∷ 217 ∷ [] } ∷ [];
  section = 0 ∷ 0 ∷ 217 ∷ [];
  payloads = [];
  last = None;
  fields = status_fields;
  framed = (ok_bytes, [], refl, record { kind_bytes = 1 ∷ []; length_bytes = 3 ∷ []; whole = refl; kind_is = one (omega arith) refl; length_is = one (omega arith) refl }, refl);
  order = refl;
  is_section = (217 ∷ [], refl, (217 ∷ [], [], refl, indexed 25 _ (omega arith) row_25, refl));
  head = ((omega arith, omega arith), refl);
  means = record { readable = (status refl (200, (omega arith, omega arith), refl), tt); values = no_fields status_fields (refl, tt) };
  body = refl;
  trailers = tt;
}

row_2 : slice_get static_table 2 ≡ Some (record { name = codes "age"; value = codes "0" })
unfolding static_table
row_2 = refl

age_is : IsHeaderName (codes "age")
unfolding is_token_byte
age_is = (((omega arith, All-from_recursion (λ (b : ℕ). is_token_byte b ≡ true) (codes "age") (refl, (refl, (refl, tt)))), omega arith), refl)

zero_is : IsFieldValue (codes "0")
zero_is = All-from_recursion (λ (b : ℕ). is_value_byte b ≡ true) (codes "0") (refl, tt)

-- a field of one name alone
one_field : (key value name : List ℕ) (v : FieldValue) → v.bytes ≡ value → is_pseudo_name key ≡ false
    → bytes_under ((key, v ∷ []) ∷ []) name ≡ cond (is_pseudo_name name) [] (values_of name (record { name = key; value = value } ∷ []))
one_field key value name v e n =
    elim (cases_Bool (bytes_eq key name)) [
      | inl t ↦
          let same : key ≡ name = (bytes_eq-Decides key name).0 t in
          let f : is_pseudo_name name ≡ false = sym (ap is_pseudo_name same) ∙ n in
          rw (t, f, e) refl
      | inr t ↦ elim (cases_Bool (is_pseudo_name name)) [ inl u ↦ rw (t, u) refl | inr u ↦ rw (t, u) refl ]
    ]

-- a body in three frames, with one that is skipped, and a trailer
pub long_spells : Spells long_bytes long_message
unfolding status_fields
long_spells = record {
  frames = headers_frame (0 ∷ 0 ∷ 217 ∷ []) ∷ record { kind = 33; payload = codes "grease" } ∷ data_frame (codes "1234") ∷ data_frame []
      ∷ data_frame (codes "567") ∷ headers_frame (0 ∷ 0 ∷ 194 ∷ []) ∷ [];
  section = 0 ∷ 0 ∷ 217 ∷ [];
  payloads = codes "1234" ∷ [] ∷ codes "567" ∷ [];
  last = Some (0 ∷ 0 ∷ 194 ∷ []);
  fields = status_fields;
  framed = (
    ok_bytes,
    _,
    refl,
    record { kind_bytes = 1 ∷ []; length_bytes = 3 ∷ []; whole = refl; kind_is = one (omega arith) refl; length_is = one (omega arith) refl },
    (
      33 ∷ 6 ∷ codes "grease",
      _,
      refl,
      record { kind_bytes = 33 ∷ []; length_bytes = 6 ∷ []; whole = refl; kind_is = one (omega arith) refl; length_is = one (omega arith) refl },
      (
        0 ∷ 4 ∷ codes "1234",
        _,
        refl,
        record { kind_bytes = 0 ∷ []; length_bytes = 4 ∷ []; whole = refl; kind_is = one (omega arith) refl; length_is = one (omega arith) refl },
        (
          0 ∷ 0 ∷ [],
          _,
          refl,
          record { kind_bytes = 0 ∷ []; length_bytes = 0 ∷ []; whole = refl; kind_is = one (omega arith) refl; length_is = one (omega arith) refl },
          (
            0 ∷ 3 ∷ codes "567",
            _,
            refl,
            record { kind_bytes = 0 ∷ []; length_bytes = 3 ∷ []; whole = refl; kind_is = one (omega arith) refl; length_is = one (omega arith) refl },
            (
              1 ∷ 3 ∷ 0 ∷ 0 ∷ 194 ∷ [],
              [],
              refl,
              record { kind_bytes = 1 ∷ []; length_bytes = 3 ∷ []; whole = refl; kind_is = one (omega arith) refl; length_is = one (omega arith) refl },
              refl,
            ),
          ),
        ),
      ),
    ),
  );
  order = refl;
  is_section = (217 ∷ [], refl, (217 ∷ [], [], refl, indexed 25 _ (omega arith) row_25, refl));
  head = ((omega arith, omega arith), refl);
  means = record { readable = (status refl (200, (omega arith, omega arith), refl), tt); values = no_fields status_fields (refl, tt) };
  body = refl;
  trailers = (
    record { name = codes "age"; value = codes "0" } ∷ [],
    (194 ∷ [], refl, (194 ∷ [], [], refl, indexed 2 _ (omega arith) row_2, refl)),
    record { readable = (plain age_is zero_is, tt); values = λ name. one_field (codes "age") (codes "0") name (plain_value (codes "0")) refl refl },
  );
}

-- a pseudo field that comes twice counts by its last value
pub twice_means : MeansRequest twice_fields (codes "GET") a_target
twice_means = record {
  method_is = refl;
  authority = codes "a.test";
  chosen = refl;
  makes = record { is_authority = a_test_is; both = (λ h. h, λ h. h) };
  target_is = record { scheme = refl; authority = refl; path = refl; query = refl };
}

-- an authority and another host mean nothing
pub hosts_mean_nothing : (m : List ℕ) (t : PlainTarget) → MeansRequest hosts_fields m t → ⊥
hosts_mean_nothing m t p =
    let e : codes "a.test" ≡ codes "b.test" = p.chosen.1 in
    let first : ◌≡◌ {A = ℕ} 97 98 = ap (λ (z : List ℕ). slice_index z 0) e in
    omega arith

-- a DATA frame alone is no message
pub data_alone : (m : PlainMessage) → Spells (0 ∷ 0 ∷ []) m → ⊥
data_alone m p =
    let here : AreHttpFrames (0 ∷ 0 ∷ []) (data_frame [] ∷ []) = (
      0 ∷ 0 ∷ [],
      [],
      refl,
      record { kind_bytes = 0 ∷ []; length_bytes = 0 ∷ []; whole = refl; kind_is = one (omega arith) refl; length_is = one (omega arith) refl },
      refl,
    ) in
    let same : p.frames ≡ data_frame [] ∷ [] = frames_are_one (0 ∷ 0 ∷ []) p.frames (data_frame [] ∷ []) p.framed here in
    let order : data_frame [] ∷ [] ≡ headers_frame p.section ∷ (map data_frame p.payloads ++ trailer_frames p.last) = sym (ap known_frames same) ∙ p.order in
    let first : data_frame [] ≡ headers_frame p.section = cc in
    let k : ◌≡◌ {A = ℕ} 0 1 = ap (λ (z : HttpFrame). z.kind) first in
    omega (arith, k)
