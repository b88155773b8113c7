-- The bytes that are written of a message spell it.
use Rattle.std.proofs.Common.{◌≡◌, inl, inr, ℕ, zero, suc, ◌+◌, ◌-◌, ◌/◌, ◌^◌, ◌<◌, ◌≤◌, nat_lt, true, false, List, [], ◌∷◌, ◌++◌, length, Option, Some, None, refl, sym, arith, length-append, append-nil}
use Rattle.std.specs.Prelude.{codes, map, flat_map, position}
use Rattle.std.specs.List.{AllByRecursion, concat}
use Rattle.std.proofs.lemmas.Bool.{cases_lt, lt-ltb, le-ltb}
use Rattle.std.proofs.lemmas.List.Sums.{sum_by-cons}
use Rattle.http_header.specs.HeaderMap.{Entries}
use Rattle.http_header.specs.FieldValue.{FieldValue}
use Rattle.qh_spec.specs.Fields.{Field, optional_field, head_fields, map_fields, message_fields, trailer_fields}
use Rattle.qh_spec.specs.HttpFrame.{HttpFrame, AreHttpFrames, http_frame, data_frame, headers_frame}
use Rattle.qh_spec.specs.Meaning.{MeansHead, MeansTrailers, is_pseudo_name}
use Rattle.qh_spec.specs.Message.{PlainHead, Request, Response, PlainMessage, target_path_and_query}
use Rattle.qh_spec.specs.MessageRows.{get_message, get_bytes}
use Rattle.qh_spec.specs.PrefixInteger.{continued_within, prefixed}
use Rattle.qh_spec.specs.Section.{string_bytes, same_name, same_field, named_line, indexed_line, line_bytes, section_bytes}
use Rattle.qh_spec.specs.Size.{section_size}
use Rattle.qh_spec.specs.Spelling.{known_frames, trailer_frames, Spells}
use Rattle.qh_spec.specs.StaticTable.{static_table}
use Rattle.qh_spec.specs.Validity.{IsValidRequest}
use Rattle.qh_spec.specs.Varint.{varint}
use Rattle.qh_spec.specs.Written.{body_payloads, trailer_section, message_frames, message_bytes, AreWritable, IsWritable}
use Rattle.qh_spec.proofs.WrittenFrames.{http_written}
use Rattle.qh_spec.proofs.WrittenSections.{sized_section_written}
use Rattle.qh_spec.proofs.MessageRows.{get_readable}
use Rattle.qh_spec.proofs.ValidityLaws.{get_size}
use Rattle.qh_spec.proofs.WrittenLaws.{fields_mean, valid_written, map_written}

-- how long the forms are
length-continued : (k n : ℕ) → length (continued_within k n) ≤ k + 1
length-continued zero n = omega arith
length-continued (suc k) n =
    elim (cases_lt n 128) [
      | inl l ↦ let t : nat_lt n 128 ≡ true = lt-ltb n 128 l in rw t (omega arith)
      | inr g ↦ let t : nat_lt n 128 ≡ false = le-ltb n 128 g in let r = length-continued k (n / 128) in rw t (omega (arith, r))
    ]

length-prefixed : (lead bits n : ℕ) → length (prefixed lead bits n) ≤ 11
length-prefixed lead bits n =
    elim (cases_lt (n + 1) (2 ^ bits)) [
      | inl l ↦ let t : nat_lt (n + 1) (2 ^ bits) ≡ true = lt-ltb (n + 1) (2 ^ bits) l in rw t (omega arith)
      | inr g ↦
          let t : nat_lt (n + 1) (2 ^ bits) ≡ false = le-ltb (n + 1) (2 ^ bits) g in
          let r = length-continued 9 (n + 1 - 2 ^ bits) in
          rw t (omega (arith, r))
    ]

length-string : (text : List ℕ) → length (string_bytes text) ≤ length text + 11
length-string text = omega (arith, length-append (prefixed 0 7 (length text)) text, length-prefixed 0 7 (length text))

length-named : (o : Option ℕ) (f : Field) → length (named_line o f) ≤ length f.name + length f.value + 32
length-named None f =
    omega (
      arith,
      length-append (prefixed 32 3 (length f.name)) (f.name ++ string_bytes f.value),
      length-append f.name (string_bytes f.value),
      length-prefixed 32 3 (length f.name),
      length-string f.value,
    )
length-named (Some i) f = omega (arith, length-append (prefixed 80 4 i) (string_bytes f.value), length-prefixed 80 4 i, length-string f.value)

length-indexed : (o : Option ℕ) (f : Field) → length (indexed_line o f) ≤ length f.name + length f.value + 32
length-indexed None f = length-named (position (same_name f) static_table) f
length-indexed (Some i) f = omega (arith, length-prefixed 192 6 i)

length-lines : (fs : List Field) → length (flat_map line_bytes fs) ≤ section_size fs
length-lines [] = omega arith
length-lines (f ∷ fs) =
    let parts : section_size (f ∷ fs) ≡ (length f.name + length f.value + 32) + section_size fs = sum_by-cons (λ (g : Field). length g.name + length g.value + 32) f fs in
    let line = length-indexed (position (same_field f) static_table) f in
    let rest = length-lines fs in
    omega (arith, parts, line, rest, length-append (line_bytes f) (flat_map line_bytes fs))

section_fits : (fs : List Field) → section_size fs < 2 ^ 61 → length (section_bytes fs) < 2 ^ 62
section_fits fs h = let r = length-lines fs in omega (arith, r, h)

-- frames one after another
FitsFrame : HttpFrame → Type 0
FitsFrame f = (f.kind < 2 ^ 62) × (length f.payload < 2 ^ 62)

frames_are : (fs : List HttpFrame) → AllByRecursion FitsFrame fs → AreHttpFrames (flat_map http_frame fs) fs
unfolding FitsFrame
frames_are [] h = refl
frames_are (f ∷ fs) h = (http_frame f, flat_map http_frame fs, refl, http_written f h.0.0 h.0.1, frames_are fs h.1)

frames_fit : (s body : List ℕ) (t : Option (Entries FieldValue)) → length s < 2 ^ 62 → length body < 2 ^ 62 → section_size (trailer_fields t) < 2 ^ 61
    → AllByRecursion FitsFrame (headers_frame s ∷ (map data_frame (body_payloads body) ++ trailer_frames (trailer_section t)))
unfolding FitsFrame
frames_fit s [] None a b c = ((omega arith, a), tt)
frames_fit s (x ∷ body) None a b c = ((omega arith, a), ((omega arith, b), tt))
frames_fit s [] (Some m) a b c = ((omega arith, a), ((omega arith, section_fits (map_fields m) c), tt))
frames_fit s (x ∷ body) (Some m) a b c = ((omega arith, a), ((omega arith, b), ((omega arith, section_fits (map_fields m) c), tt)))

order_is : (s body : List ℕ) (t : Option (Entries FieldValue)) → known_frames (headers_frame s ∷ (map data_frame (body_payloads body) ++ trailer_frames (trailer_section t)))
    ≡ headers_frame s ∷ (map data_frame (body_payloads body) ++ trailer_frames (trailer_section t))
order_is s [] None = refl
order_is s (x ∷ body) None = refl
order_is s [] (Some m) = refl
order_is s (x ∷ body) (Some m) = refl

body_is : (body : List ℕ) → body ≡ concat (body_payloads body)
body_is [] = refl
body_is (x ∷ body) = sym (append-nil (x ∷ body))

trailers_mean : (t : Option (Entries FieldValue)) → AreWritable t → section_size (trailer_fields t) < 2 ^ 61 → MeansTrailers (trailer_section t) t
trailers_mean None w h = tt
trailers_mean (Some m) w h = (map_fields m, sized_section_written (map_fields m) (omega (arith, h)), map_written m w.0 w.1)

-- the fields of a head are pseudo fields
abbrev IsPseudo : Field → Type 0
IsPseudo f = is_pseudo_name f.name ≡ true

optional_pseudo : (name : List ℕ) (o : Option (List ℕ)) (rest : List Field) → is_pseudo_name name ≡ true → AllByRecursion IsPseudo rest → AllByRecursion IsPseudo (optional_field name o ++ rest)
optional_pseudo name None rest p r = r
optional_pseudo name (Some v) rest p r = (p, r)

last_pseudo : (name : List ℕ) (o : Option (List ℕ)) → is_pseudo_name name ≡ true → AllByRecursion IsPseudo (optional_field name o)
last_pseudo name None p = tt
last_pseudo name (Some v) p = (p, tt)

head_pseudo : (h : PlainHead) → AllByRecursion IsPseudo (head_fields h)
head_pseudo (Request m t) =
    (refl, optional_pseudo (codes ":scheme") t.scheme _ refl (optional_pseudo (codes ":authority") t.authority _ refl (last_pseudo (codes ":path") (target_path_and_query t) refl)))
head_pseudo (Response s) = (refl, tt)

pub written_spells : (m : PlainMessage) → IsWritable m → MeansHead (message_fields m) m.head → Spells (message_bytes m) m
written_spells m w h = record {
  frames = message_frames m;
  section = section_bytes (message_fields m);
  payloads = body_payloads m.body;
  last = trailer_section m.trailers;
  fields = message_fields m;
  framed = frames_are (message_frames m)
      (frames_fit (section_bytes (message_fields m)) m.body m.trailers (section_fits (message_fields m) w.fields_fit) w.body_fits w.trailers_fit);
  order = order_is (section_bytes (message_fields m)) m.body m.trailers;
  is_section = sized_section_written (message_fields m) (let fits = w.fields_fit in omega (arith, fits));
  head = h;
  means = record { readable = w.readable; values = λ name. fields_mean (head_fields m.head) m.fields name (head_pseudo m.head) w.names };
  body = body_is m.body;
  trailers = trailers_mean m.trailers w.trailers w.trailers_fit;
}

pub valid_spells : (section body : ℕ) (m : PlainMessage) → IsValidRequest section body m → IsWritable m → Spells (message_bytes m) m
valid_spells section body m v w = written_spells m w (valid_written section body m v w.names w.readable).0

-- GET https://a.test/ as it is written
pub get_written : message_bytes get_message ≡ get_bytes
unfolding varint static_table
get_written = refl

pub get_writable : IsWritable get_message
get_writable = record {
  names = record { once = tt; plain = tt };
  readable = get_readable;
  trailers = tt;
  fields_fit = omega (arith, get_size);
  trailers_fit = omega arith;
  body_fits = omega arith;
}
