-- What reading a stream gives, and why it gives nothing.
use Rattle.std.proofs.Common.{◌≡◌, ◌≢◌, ◌⊎◌, inl, inr, ℕ, ◌-◌, ◌^◌, ◌≤◌, List, [], refl, sym, ap, ◌∙◌, arith, Option, Some, None, subst}
use Rattle.std.specs.Prelude.{IfNone, option_map}
use Rattle.http.specs.StatusCode.{code_digits}
use Rattle.http_header.specs.FieldValue.{FieldValue}
use Rattle.http_header.specs.HeaderMap.{Entries}
use Rattle.qh_h3wire.specs.Header.{IsHeaderOf}
use Rattle.qh_h3wire.specs.HeaderFault.{IfFault}
use Rattle.qh_h3wire.specs.PlainHeader.{PlainHeader}
use Rattle.qh_h3wire.specs.declared.headers.HeaderError.{HeaderError}
use Rattle.qh_h3wire.specs.declared.headers.HeaderError.TheVariants as error
use Rattle.qh_plain.specs.Frames.{Parts, AreParts}
use Rattle.qh_plain.proofs.Spelled.{spells_by_parts}
use Rattle.qh_qpack.specs.SectionFault.{bounded_size, RefusesSection}
use Rattle.qh_qpack.specs.declared.decoder.DecoderError.{DecoderError}
use Rattle.qh_qpack.specs.declared.decoder.DecoderError.TheVariants.{HeaderTooLong, Malformed, Huffman, Dynamic, Memory}
use Rattle.qh_qpack.proofs.FaultLaws.{no_fault}
use Rattle.qh_spec.specs.Fields.{Field}
use Rattle.qh_spec.specs.Meaning.{MeansHead, MeansFields, MeansTrailers}
use Rattle.qh_spec.specs.Message.{PlainHead, Request, Response, PlainMessage, IsRequest, IsResponse}
use Rattle.qh_spec.specs.Refusal.{HeaderFault, AreTaken, IsRefused, IsRequestFault}
use Rattle.qh_spec.specs.Section.{IsSection}
use Rattle.qh_spec.specs.Spelling.{Spells}
use Rattle.qh_spec.proofs.MapLaws.{fields_make}
use Rattle.qh_spec.proofs.RefusalLaws.{taken_readable, taken_not_refused, request_has_none}
use Rattle.qh_spec.proofs.SectionLaws.{section_is_one}
use Rattle.qh_message.specs.Reading.{HasHeader, IsUnreadable, IsUnreadableLast, IsReceived}
use Rattle.qh_message.specs.Room.{HasTrailerRoom, HasRoomFor}
use Rattle.qh_message.proofs.Rooms.{kept}

small : (fs : List Field) → bounded_size fs ≤ 2 ^ 64 - 1
small fs = omega arith

-- bytes that are refused at any size are no section
pub no_section : (bytes : List ℕ) (e : DecoderError) (fs : List Field) → e ≢ Memory → RefusesSection (2 ^ 64 - 1) bytes e → IsSection bytes fs → ⊥
no_section bytes Memory fs n r is = n refl
no_section bytes (HeaderTooLong k) fs n r is = no_fault (2 ^ 64 - 1) bytes fs (HeaderTooLong k) is (small fs) r
no_section bytes Malformed fs n r is = no_fault (2 ^ 64 - 1) bytes fs Malformed is (small fs) r
no_section bytes Huffman fs n r is = no_fault (2 ^ 64 - 1) bytes fs Huffman is (small fs) r
no_section bytes Dynamic fs n r is = no_fault (2 ^ 64 - 1) bytes fs Dynamic is (small fs) r

-- a fault that isn't want of memory is one of the fields
fault_of : (P : HeaderFault → Type 0) (e : HeaderError) → e ≢ error.Memory → IfFault e P → (a : HeaderFault) × P a
fault_of P error.InvalidHeaderName n h = (_, h)
fault_of P error.InvalidHeaderValue n h = (_, h)
fault_of P error.InvalidRequest n h = (_, h)
fault_of P error.MissingMethod n h = (_, h)
fault_of P error.MissingStatus n h = (_, h)
fault_of P error.MissingAuthority n h = (_, h)
fault_of P error.ContradictedAuthority n h = (_, h)
fault_of P error.Memory n h = absurd (n refl)

-- lines that are refused aren't kept
pub unreadable : (section : List ℕ) (lines fs : List Field) (e : HeaderError) → e ≢ error.Memory → IsSection section lines → IfFault e (IsRefused [] lines) → IsSection section fs → AreTaken [] fs → ⊥
unreadable section lines fs e n is refused other taken =
    let f = fault_of (IsRefused [] lines) e n refused in
    taken_not_refused [] lines f.0 (subst (AreTaken []) (section_is_one section fs lines other is) taken) f.1

-- the map of a head's fields is the one that they mean
map_means : (section : List ℕ) (h : PlainHeader) (m : Entries FieldValue) (p : HasHeader section h) → m ≡ h.fields → MeansFields p.fields m
map_means section h m p e = subst (MeansFields p.fields) (sym (e ∙ p.gives.fields_are)) (fields_make p.fields (taken_readable [] p.fields p.taken))

-- trailers are the map that a section's fields mean
pub trailers_mean : (section : List ℕ) (h : PlainHeader) (m : Entries FieldValue) → HasHeader section h → m ≡ h.fields → MeansTrailers (Some section) (Some m)
trailers_mean section h m p e = (p.fields, p.is_section, map_means section h m p e)

made_spelled : (bytes : List ℕ) (h : PlainHeader) (body : List ℕ) (trailers : Option (Entries FieldValue)) (head : PlainHead) (m : Entries FieldValue)
    → IsReceived bytes h body trailers → ((fields : List Field) → AreTaken [] fields → IsHeaderOf fields h → MeansHead fields head) → m ≡ h.fields
    → Spells bytes (record { head = head; fields = m; body = body; trailers = trailers })
made_spelled bytes h body trailers head m p means e =
    (spells_by_parts bytes (record { section = p.section; body = body; last = p.last }) (record { head = head; fields = m; body = body; trailers = trailers }) p.parts).0
    (record {
      start = record { fields = p.header.fields; is_section = p.header.is_section; head = means p.header.fields p.header.taken p.header.gives; means = map_means p.section h m p.header e };
      body = refl;
      trailers = p.means;
    })

-- the message that was made of what was read is the one that the bytes spell
pub spelled : (bytes : List ℕ) (h : PlainHeader) (body copy : List ℕ) (trailers : Option (Entries FieldValue)) (head : PlainHead) (m : Entries FieldValue) (first message : PlainMessage)
    → IsReceived bytes h body trailers → ((fields : List Field) → AreTaken [] fields → IsHeaderOf fields h → MeansHead fields head) → m ≡ h.fields
    → first ≡ record { head = head; fields = []; body = []; trailers = None } → copy ≡ body
    → message ≡ record { head = first.head; fields = m; body = copy; trailers = trailers } → Spells bytes message × (message.head ≡ head)
spelled bytes h body copy trailers head m first message p means e put same is =
    let whole : message ≡ record { head = head; fields = m; body = body; trailers = trailers } =
    is ∙ ap (λ (z : PlainMessage). record { head = z.head; fields = m; body = copy; trailers = trailers }) put
    ∙ ap (λ (z : List ℕ). record { head = head; fields = m; body = z; trailers = trailers }) same in
    (subst (λ (z : PlainMessage). Spells bytes z) (sym whole) (made_spelled bytes h body trailers head m p means e), ap (λ (z : PlainMessage). z.head) whole)

-- a section that can't be read is that of no message with room
pub no_start : (bytes : List ℕ) (parts : Parts) (m : PlainMessage) → AreParts bytes parts → IsUnreadable parts.section → Spells bytes m → HasRoomFor m → ⊥
no_start bytes parts m p none s room =
    let made = (spells_by_parts bytes parts m p).1 s in
    none made.start.fields made.start.is_section (kept made.start.fields m.fields made.start.means room.fields)

last_read : (last : Option (List ℕ)) (t : Option (Entries FieldValue)) → IsUnreadableLast last → MeansTrailers last t → HasTrailerRoom t → ⊥
last_read None t none means room = none
last_read (Some section) None none means room = means
last_read (Some section) (Some m) none means room = none means.0 means.1 (kept means.0 m means.2 room)

pub no_trailers : (bytes : List ℕ) (parts : Parts) (m : PlainMessage) → AreParts bytes parts → IsUnreadableLast parts.last → Spells bytes m → HasRoomFor m → ⊥
no_trailers bytes parts m p none s room = last_read parts.last m.trailers none ((spells_by_parts bytes parts m p).1 s).trailers room.trailers

-- nothing was received of these parts, so no message that maps have room for
pub none_received : {X : Type 0} (o : Option X) (bytes : List ℕ) (parts : Parts) → AreParts bytes parts → IfNone o (IsUnreadable parts.section ⊎ IsUnreadableLast parts.last)
    → IfNone o ((m : PlainMessage) → Spells bytes m → HasRoomFor m → ⊥)
none_received (Some x) bytes parts p none = tt
none_received None bytes parts p (inl none) = λ m s room. no_start bytes parts m p none s room
none_received None bytes parts p (inr none) = λ m s room. no_trailers bytes parts m p none s room

-- the fields of what was read mean the head of each message that the bytes spell
head_meant : (bytes : List ℕ) (h : PlainHeader) (body : List ℕ) (trailers : Option (Entries FieldValue)) (m : PlainMessage) (p : IsReceived bytes h body trailers) → Spells bytes m → MeansHead p.header.fields m.head
head_meant bytes h body trailers m p s =
    let made = (spells_by_parts bytes (record { section = p.section; body = body; last = p.last }) m p.parts).1 s in
    subst (λ (z : List Field). MeansHead z m.head) (section_is_one p.section made.start.fields p.header.fields made.start.is_section p.header.is_section) made.start.head

request_means : (fs : List Field) (head : PlainHead) (a : HeaderFault) → IsRequest head → MeansHead fs head → IsRequestFault fs a → ⊥
request_means fs (Request m t) a is means fault = request_has_none fs m t a means fault
request_means fs (Response s) a is means fault = is

pub no_request : (bytes : List ℕ) (h : PlainHeader) (body : List ℕ) (trailers : Option (Entries FieldValue)) (e : HeaderError) → IsReceived bytes h body trailers → e ≢ error.Memory
    → ((fields : List Field) → AreTaken [] fields → IsHeaderOf fields h → IfFault e (IsRequestFault fields)) → (m : PlainMessage) → IsRequest m.head → Spells bytes m → HasRoomFor m → ⊥
no_request bytes h body trailers e p n refused m is s room =
    let f = fault_of (IsRequestFault p.header.fields) e n (refused p.header.fields p.header.taken p.header.gives) in
    request_means p.header.fields m.head f.0 is (head_meant bytes h body trailers m p s) f.1

response_means : (fs : List Field) (h : PlainHeader) (head : PlainHead) → IsResponse head → MeansHead fs head → IsHeaderOf fs h → h.status ≡ None → ⊥
response_means fs h (Request m t) is means gives none = is
response_means fs h (Response s) is means gives none =
    let both = sym (ap (λ (z : Option ℕ). option_map code_digits z) none) ∙ gives.status ∙ means.1 in cc

pub no_response : (bytes : List ℕ) (h : PlainHeader) (body : List ℕ) (trailers : Option (Entries FieldValue)) → IsReceived bytes h body trailers → h.status ≡ None
    → (m : PlainMessage) → IsResponse m.head → Spells bytes m → HasRoomFor m → ⊥
no_response bytes h body trailers p none m is s room = response_means p.header.fields h m.head is (head_meant bytes h body trailers m p s) p.header.gives none
