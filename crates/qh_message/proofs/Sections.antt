-- The sections that are written of a message, and their bytes.
use Rattle.std.proofs.Common.{◌≡◌, ◌≢◌, inl, inr, ℕ, ◌<◌, ◌^◌, ◌==◌, List, [], ◌∷◌, ◌++◌, length, Option, Some, None, Result, Ok, Err, refl, sym, ap, ◌∙◌, subst, arith, append-nil, Bool, true, false}
use Rattle.std.specs.Prelude.{◌⊎◌, ◌↔◌, ◌||◌, not, is_some, option_map, if◌then◌else◌, codes, map, flat_map, slice_get, IfOk, IfErr, IfSome, IsErrOf}
use Rattle.std.specs.Result.{IsOk}
use Rattle.http_header.specs.FieldValue.{FieldValue}
use Rattle.http_header.specs.HeaderMap.{Entries, get_all}
use Rattle.http_uri.specs.Grammar.{or_slash}
use Rattle.qh_h3wire.specs.Header.{map_host, request_header, trailer_header, written_fields, IsSendable}
use Rattle.qh_h3wire.specs.PlainHeader.{PlainHeader}
use Rattle.qh_h3wire.specs.declared.headers.HeaderError.{HeaderError}
use Rattle.qh_h3wire.specs.declared.headers.HeaderError.TheVariants.{MissingAuthority, ContradictedAuthority}
use Rattle.qh_h3wire.proofs.Means.{first_bytes}
use Rattle.qh_h3wire.proofs.ReadAgain.{taken}
use Rattle.qh_qpack.proofs.WrittenSizes.{section_short}
use Rattle.qh_spec.specs.Fields.{Field, optional_field, head_fields, map_fields, message_fields, trailer_fields}
use Rattle.qh_spec.specs.HttpFrame.{http_frame, data_frame, headers_frame}
use Rattle.qh_spec.specs.Meaning.{AreReadable, MeansHead}
use Rattle.qh_spec.specs.Message.{PlainTarget, has_path, target_path_and_query, PlainHead, Request, Response, PlainMessage}
use Rattle.qh_spec.specs.Same.{bytes_under}
use Rattle.qh_spec.specs.Section.{section_bytes}
use Rattle.qh_spec.specs.Size.{section_size}
use Rattle.qh_spec.specs.Spelling.{Spells, trailer_frames}
use Rattle.qh_spec.specs.Validity.{IsValidHead, IsValidTarget, AreValidHosts}
use Rattle.qh_spec.specs.Written.{HasPlainNames, IsWritable, body_payloads, trailer_section, message_bytes}
use Rattle.qh_spec.proofs.RefusalLaws.{taken_readable}
use Rattle.qh_spec.proofs.SpellingLaws.{written_spells}
use Rattle.qh_spec.proofs.WrittenLaws.{request_written, response_written}
use Rattle.qh_message.specs.Sections.{plain_header, IsHeadSection, IsTrailerSection}
use Rattle.qh_message.specs.Written.{HasWritableHead, CanBeWritten}

-- the authority of a valid request is that of its host field
one_host : (own : Option (List ℕ)) (hosts : List (List ℕ)) (b : List ℕ) → AreValidHosts own hosts → slice_get hosts 0 ≡ Some b → own ≡ Some b
one_host own [] b h e = cc
one_host own (x ∷ []) b h e = h ∙ e
one_host own (x ∷ y ∷ more) b h e = absurd h

no_missing : (t : PlainTarget) → IsValidTarget t → t.authority ≡ None → ⊥
no_missing t v none = let both : ◌≡◌ {A = Option (List ℕ)} (Some v.authority) None = sym v.authority_is ∙ none in cc

no_contradiction : (own : Option (List ℕ)) (fs : Entries FieldValue) (a b : List ℕ) → AreValidHosts own (bytes_under fs (codes "host")) → own ≡ Some a → map_host fs ≡ Some b → a ≢ b → ⊥
no_contradiction own fs a b hosts is host unlike =
    let same : own ≡ Some b = one_host own (bytes_under fs (codes "host")) b hosts (sym (first_bytes (get_all fs (codes "host"))) ∙ host) in
    let both : ◌≡◌ {A = Option (List ℕ)} (Some a) (Some b) = sym is ∙ same in
    unlike cc

-- so its parts make a head
pub is_head : (T : Type 0) (r : Result T HeaderError) (m : List ℕ) (t : PlainTarget) (fs : Entries FieldValue) → IsValidHead (Request m t) (bytes_under fs (codes "host"))
    → IsErrOf r MissingAuthority ↔ (t.authority ≡ None) × (map_host fs ≡ None)
    → IsErrOf r ContradictedAuthority ↔ (a : List ℕ) × (b : List ℕ) × (t.authority ≡ Some a) × (map_host fs ≡ Some b) × (a ≢ b)
    → IfErr r (λ e. (e ≡ MissingAuthority) ⊎ (e ≡ ContradictedAuthority)) → IsOk r
is_head T (Ok h) m t fs v missing contradicted other = refl
is_head T (Err e) m t fs v missing contradicted (inl s) = absurd (no_missing t v.1 (missing.0 (ap Err s)).0)
is_head T (Err e) m t fs v missing contradicted (inr s) =
    let c = contradicted.0 (ap Err s) in absurd (no_contradiction t.authority fs c.0 c.1 v.2 c.2 c.3 c.4)

-- what is written of a head
scheme_there : (t : PlainTarget) → IsValidTarget t → (s : List ℕ) × (t.scheme ≡ Some s)
scheme_there t v = elim v.scheme [ inl e ↦ (codes "http", e) | inr e ↦ (codes "https", e) ]

or_true : (b : Bool) → (b || true) ≡ true
or_true true = refl
or_true false = refl

path_is : (t : PlainTarget) (s : List ℕ) → t.scheme ≡ Some s
    → option_map or_slash (if has_path t then Some t.path_and_query else None) ≡ target_path_and_query t
path_is t s e =
    let d : List ℕ = t.path_and_query in
    let h : has_path t ≡ true = ap (λ (z : Option (List ℕ)). not (length d == 0) || is_some z) e ∙ or_true (not (length d == 0)) in
    let q : (is_some t.scheme || not (is_some t.authority)) ≡ true = ap (λ (z : Option (List ℕ)). is_some z || not (is_some t.authority)) e in
    ap (λ (b : Bool). option_map or_slash (if b then Some d else None)) h ∙ sym (ap (λ (b : Bool). if b then Some (or_slash d) else None) q)

request_fields_are : (m : List ℕ) (t : PlainTarget) (fs : Entries FieldValue) → IsValidTarget t → written_fields (request_header m t fs) ≡ head_fields (Request m t) ++ map_fields fs
request_fields_are m t fs v =
    let s = scheme_there t v in
    let p : optional_field (codes ":path") (option_map or_slash (if has_path t then Some t.path_and_query else None)) ++ [] ≡ optional_field (codes ":path") (target_path_and_query t) =
    ap (λ (z : Option (List ℕ)). optional_field (codes ":path") z ++ []) (path_is t s.0 s.1) ∙ append-nil (optional_field (codes ":path") (target_path_and_query t)) in
    ap (λ (z : List Field). (record { name = codes ":method"; value = m } ∷ (optional_field (codes ":scheme") t.scheme ++ (optional_field (codes ":authority") t.authority ++ z))) ++ map_fields fs) p

fields_are : (h : PlainHead) (fs : Entries FieldValue) → HasWritableHead h (bytes_under fs (codes "host")) → written_fields (plain_header h fs) ≡ head_fields h ++ map_fields fs
fields_are (Request m t) fs v = request_fields_are m t fs v.1
fields_are (Response s) fs v = refl

head_means : (h : PlainHead) (fs : Entries FieldValue) → HasWritableHead h (bytes_under fs (codes "host")) → IsSendable (plain_header h fs) → AreReadable (head_fields h ++ map_fields fs)
    → MeansHead (head_fields h ++ map_fields fs) h
head_means (Request m t) fs v s r = (request_written m t fs v.1 v.2 s.names r).0
head_means (Response n) fs v s r = (response_written n fs s.kinds.status s.names r).0

names_of : (h : PlainHead) (fs : Entries FieldValue) → IsSendable (plain_header h fs) → HasPlainNames fs
names_of (Request m t) fs s = s.names
names_of (Response n) fs s = s.names

head_section_is : (h : PlainHead) (fs : Entries FieldValue) (k : PlainHeader) (section : List ℕ) → HasWritableHead h (bytes_under fs (codes "host")) → k ≡ plain_header h fs
    → section ≡ section_bytes (written_fields k) → IsSendable k → IsHeadSection section h fs
head_section_is h fs k section v e is sendable =
    let s : IsSendable (plain_header h fs) = subst IsSendable e sendable in
    let w = fields_are h fs v in
    let r : AreReadable (head_fields h ++ map_fields fs) = subst AreReadable w (taken_readable [] (written_fields (plain_header h fs)) (taken (plain_header h fs) s)) in
    record {
      section_is = is ∙ ap (λ (z : PlainHeader). section_bytes (written_fields z)) e ∙ ap section_bytes w;
      names = names_of h fs s;
      readable = r;
      means = head_means h fs v s r;
    }

pub head_section_if : (E : Type 0) (r : Result (List ℕ) E) (h : PlainHead) (fs : Entries FieldValue) (k : PlainHeader) → HasWritableHead h (bytes_under fs (codes "host")) → k ≡ plain_header h fs
    → IfOk r (λ section. section ≡ section_bytes (written_fields k)) → IfOk r (λ section. IsSendable k) → IfOk r (λ section. IsHeadSection section h fs)
head_section_if E (Ok section) h fs k v e is s = head_section_is h fs k section v e is s
head_section_if E (Err x) h fs k v e is s = tt

-- what is written of trailers
pub trailer_section_is : (fs : Entries FieldValue) (section : List ℕ) → section ≡ section_bytes (written_fields (trailer_header fs)) → IsSendable (trailer_header fs) → IsTrailerSection (Some section) (Some fs)
trailer_section_is fs section is s = record { section_is = ap Some is; writable = (s.names, s.readable) }

-- the sections fit
pub section_fits : (m : PlainMessage) (h : PlainHead) (fs : Entries FieldValue) (section : List ℕ) → CanBeWritten m → IsHeadSection section h fs → h ≡ m.head → fs ≡ m.fields → length section < 2 ^ 62
section_fits m h fs section w s a b =
    let fits = w.fields_fit in
    let short = section_short (head_fields h ++ map_fields fs) in
    let l = ap length s.section_is in
    let same : head_fields h ++ map_fields fs ≡ message_fields m = ap (λ (z : PlainHead). head_fields z ++ map_fields fs) a ∙ ap (λ (z : Entries FieldValue). head_fields m.head ++ map_fields z) b in
    let size = ap section_size same in
    omega (arith, fits, short, l, size)

map_fits : (last : Option (List ℕ)) (t : Option (Entries FieldValue)) → IsTrailerSection last t → section_size (trailer_fields t) < 2 ^ 61 → IfSome last (λ section. length section < 2 ^ 62)
map_fits None t s fits = tt
map_fits (Some section) None s fits = let both : ◌≡◌ {A = Option (List ℕ)} (Some section) None = s.section_is in cc
map_fits (Some section) (Some fs) s fits =
    let e : ◌≡◌ {A = Option (List ℕ)} (Some section) (Some (section_bytes (map_fields fs))) = s.section_is in
    let same : section ≡ section_bytes (map_fields fs) = cc in
    let l = ap length same in
    let short = section_short (map_fields fs) in
    omega (arith, fits, l, short)

pub last_fits : (m : PlainMessage) (last : Option (List ℕ)) (t : Option (Entries FieldValue)) → CanBeWritten m → IsTrailerSection last t → t ≡ m.trailers → IfSome last (λ section. length section < 2 ^ 62)
last_fits m last t w s e = map_fits last t s (subst (λ (z : Option (Entries FieldValue)). section_size (trailer_fields z) < 2 ^ 61) (sym e) w.trailers_fit)

-- the bytes of the frames are those of the message
frame_bytes : List ℕ → List ℕ → Option (List ℕ) → List ℕ
frame_bytes section body last = flat_map http_frame (headers_frame section ∷ (map data_frame (body_payloads body) ++ trailer_frames last))

pub bytes_are : (m : PlainMessage) (h : PlainHead) (fs : Entries FieldValue) (section body bytes : List ℕ) (last : Option (List ℕ)) (t : Option (Entries FieldValue))
    → IsHeadSection section h fs → h ≡ m.head → fs ≡ m.fields → body ≡ m.body → IsTrailerSection last t → t ≡ m.trailers
    → bytes ≡ flat_map http_frame (headers_frame section ∷ (map data_frame (body_payloads body) ++ trailer_frames last)) → bytes ≡ message_bytes m
unfolding frame_bytes
bytes_are m h fs section body bytes last t s a b d l e is =
    let first : section ≡ section_bytes (message_fields m) =
    s.section_is ∙ ap (λ (z : PlainHead). section_bytes (head_fields z ++ map_fields fs)) a ∙ ap (λ (z : Entries FieldValue). section_bytes (head_fields m.head ++ map_fields z)) b in
    is ∙ ap (λ (z : List ℕ). frame_bytes z body last) first ∙ ap (λ (z : List ℕ). frame_bytes (section_bytes (message_fields m)) z last) d
    ∙ ap (λ (z : Option (List ℕ)). frame_bytes (section_bytes (message_fields m)) m.body z) (l.section_is ∙ ap trailer_section e)

-- the section of the message itself
of_message : (m : PlainMessage) (h : PlainHead) (fs : Entries FieldValue) (section : List ℕ) → IsHeadSection section h fs → h ≡ m.head → fs ≡ m.fields → IsHeadSection section m.head m.fields
of_message m h fs section s a b = subst (λ (z : Entries FieldValue). IsHeadSection section m.head z) b (subst (λ (z : PlainHead). IsHeadSection section z fs) a s)

pub written : (m : PlainMessage) (h : PlainHead) (fs : Entries FieldValue) (section bytes : List ℕ) (last : Option (List ℕ)) (t : Option (Entries FieldValue))
    → CanBeWritten m → IsHeadSection section h fs → h ≡ m.head → fs ≡ m.fields → IsTrailerSection last t → t ≡ m.trailers → bytes ≡ message_bytes m → Spells bytes m
written m h fs section bytes last t w s a b l e is =
    let own = of_message m h fs section s a b in
    let trailers : IsTrailerSection last m.trailers = subst (IsTrailerSection last) e l in
    let can : IsWritable m = record {
      names = own.names;
      readable = own.readable;
      trailers = trailers.writable;
      fields_fit = w.fields_fit;
      trailers_fit = w.trailers_fit;
      body_fits = w.body_fits;
    } in
    subst (λ (z : List ℕ). Spells z m) (sym is) (written_spells m can own.means)

-- the same of the answer of a call
pub written_if : (X E : Type 0) (items : X → List ℕ) (r : Result X E) (m : PlainMessage) (h : PlainHead) (fs : Entries FieldValue) (section body : List ℕ) (last : Option (List ℕ)) (t : Option (Entries FieldValue))
    → CanBeWritten m → IsHeadSection section h fs → h ≡ m.head → fs ≡ m.fields → body ≡ m.body → IsTrailerSection last t → t ≡ m.trailers
    → IfOk r (λ v. items v ≡ flat_map http_frame (headers_frame section ∷ (map data_frame (body_payloads body) ++ trailer_frames last))) → IfOk r (λ v. Spells (items v) m)
written_if X E items (Ok v) m h fs section body last t w s a b d l e is =
    written m h fs section (items v) last t w s a b l e (bytes_are m h fs section body (items v) last t s a b d l e is)
written_if X E items (Err x) m h fs section body last t w s a b d l e is = tt
