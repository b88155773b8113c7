-- The parts that bytes have make the messages that the bytes spell.
use Rattle.std.proofs.Common.{◌≡◌, ◌↔◌, ℕ, List, refl, ◌∙◌, subst}
use Rattle.std.specs.List.{concat}
use Rattle.http_header.specs.HeaderMap.{Entries}
use Rattle.http_header.specs.FieldValue.{FieldValue}
use Rattle.qh_spec.specs.Fields.{Field}
use Rattle.qh_spec.specs.Meaning.{MeansHead, MeansFields}
use Rattle.qh_spec.specs.Message.{PlainMessage}
use Rattle.qh_spec.specs.Section.{IsSection}
use Rattle.qh_spec.specs.Spelling.{Spells}
use Rattle.qh_spec.proofs.SectionLaws.{section_is_one}
use Rattle.qh_plain.specs.Frames.{Parts, AreParts}
use Rattle.qh_plain.specs.Pieces.{MeansStart, MeansMap, MakesMessage}
use Rattle.qh_plain.proofs.PartsRead.{parts_are_one}

made_spelled : (bytes : List ℕ) (parts : Parts) (m : PlainMessage) → AreParts bytes parts → MakesMessage parts m → Spells bytes m
made_spelled bytes parts m p made = record {
  frames = p.frames;
  section = parts.section;
  payloads = p.payloads;
  last = parts.last;
  fields = made.start.fields;
  framed = p.framed;
  order = p.order;
  is_section = made.start.is_section;
  head = made.start.head;
  means = made.start.means;
  body = made.body ∙ p.body;
  trailers = made.trailers;
}

-- the parts of bytes that spell a message
spelled_parts : (bytes : List ℕ) (m : PlainMessage) → Spells bytes m → (parts : Parts) × AreParts bytes parts × MakesMessage parts m
spelled_parts bytes m s = (
  record { section = s.section; body = concat s.payloads; last = s.last },
  record { frames = s.frames; payloads = s.payloads; framed = s.framed; order = s.order; body = refl },
  record {
    start = record { fields = s.fields; is_section = s.is_section; head = s.head; means = s.means };
    body = s.body;
    trailers = s.trailers;
  },
)

pub spells_by_parts : (bytes : List ℕ) (parts : Parts) (m : PlainMessage) → AreParts bytes parts → MakesMessage parts m ↔ Spells bytes m
spells_by_parts bytes parts m p = (
  made_spelled bytes parts m p,
  λ s.
      let others = spelled_parts bytes m s in
      subst (λ (z : Parts). MakesMessage z m) (parts_are_one bytes others.0 parts others.1 p) others.2,
)

pub no_spelling : (bytes : List ℕ) (m : PlainMessage) → ((parts : Parts) → AreParts bytes parts → ⊥) → Spells bytes m → ⊥
no_spelling bytes m none s = let others = spelled_parts bytes m s in none others.0 others.1

-- the fields of a section are one list
pub start_is : (section : List ℕ) (fs : List Field) (m : PlainMessage) → IsSection section fs → MeansStart section m → MeansHead fs m.head × MeansFields fs m.fields
start_is section fs m is s =
    let one : s.fields ≡ fs = section_is_one section s.fields fs s.is_section is in
    (subst (λ (z : List Field). MeansHead z m.head) one s.head, subst (λ (z : List Field). MeansFields z m.fields) one s.means)

pub map_is : (section : List ℕ) (fs : List Field) (m : Entries FieldValue) → IsSection section fs → MeansMap section m → MeansFields fs m
map_is section fs m is s =
    let one : s.0 ≡ fs = section_is_one section s.0 fs s.1 is in
    subst (λ (z : List Field). MeansFields z m) one s.2

pub start_from : (section : List ℕ) (fs : List Field) (m : PlainMessage) → IsSection section fs → (MeansHead fs m.head × MeansFields fs m.fields) ↔ MeansStart section m
start_from section fs m is = (λ p. record { fields = fs; is_section = is; head = p.0; means = p.1 }, start_is section fs m is)

-- where the head is meant, the fields decide
pub start_by_fields : (section : List ℕ) (fs : List Field) (m : PlainMessage) → IsSection section fs → MeansHead fs m.head → MeansFields fs m.fields ↔ MeansStart section m
start_by_fields section fs m is head = (λ p. record { fields = fs; is_section = is; head = head; means = p }, λ s. (start_is section fs m is s).1)

pub map_by_fields : (section : List ℕ) (fs : List Field) (m : Entries FieldValue) → IsSection section fs → MeansFields fs m ↔ MeansMap section m
map_by_fields section fs m is = (λ p. (fs, is, p), map_is section fs m is)
