-- A head that is written as a section, decoded and read is the same head.
use Rattle.std.proofs.Common.{◌≡◌, ℕ, ◌≤◌, cond, List, [], Option, Some, None, refl, sym, ap, ◌∙◌, subst, codes}
use Rattle.std.specs.Prelude.{is_some, unwrap_or, slice_get}
use Rattle.std.specs.Option.{option_map}
use Rattle.http_header.specs.FieldValue.{FieldValue}
use Rattle.http_header.specs.HeaderMap.{Entries, get_all}
use Rattle.http_uri.specs.Grammar.{or_slash}
use Rattle.qh_qpack.specs.SectionFault.{bounded_size, IsSectionFault}
use Rattle.qh_qpack.specs.declared.decoder.DecoderError.{DecoderError}
use Rattle.qh_qpack.proofs.FaultLaws.{no_fault}
use Rattle.qh_spec.specs.Fields.{Field}
use Rattle.qh_spec.specs.Message.{PlainTarget, has_path}
use Rattle.qh_spec.specs.Refusal as told
use Rattle.qh_spec.specs.Refusal.{HeaderFault, AreTaken, IsRefused, IsRequestFault}
use Rattle.qh_spec.specs.Same.{SameFields, SameTarget}
use Rattle.qh_spec.specs.Section.{section_bytes}
use Rattle.qh_spec.proofs.RefusalLaws.{taken_not_refused, request_has_none}
use Rattle.qh_spec.proofs.SectionLaws.{section_is_one}
use Rattle.qh_spec.proofs.WrittenSections.{section_written}
use Rattle.qh_h3wire.specs.Header.{request_header, response_header, trailer_header, written_fields, map_host, IsAuthorityOf, IsHeaderOf, IsReadAgain, IsSendable, IsTargetOf}
use Rattle.qh_h3wire.specs.HeaderFault.{IfFault}
use Rattle.qh_h3wire.specs.PlainHeader.{PlainHeader}
use Rattle.qh_h3wire.specs.ReadBack.{slash_target, AreLinesOf, IsReadBack}
use Rattle.qh_h3wire.specs.declared.headers.HeaderError.{HeaderError}
use Rattle.qh_h3wire.specs.declared.headers.HeaderError.TheVariants.{InvalidHeaderName, InvalidHeaderValue, InvalidRequest, MissingMethod, MissingStatus, MissingAuthority, ContradictedAuthority, Memory}
use Rattle.qh_h3wire.proofs.Means.{first_bytes, means_request, same_target}
use Rattle.qh_h3wire.proofs.ReadAgain.{taken, same}
use Rattle.qh_h3wire.proofs.Targets.{read_path, slashed, IsFit}

pub decoded : (h : PlainHeader) (max_size : ℕ) (e : DecoderError) → IsSendable h → bounded_size (written_fields h) ≤ max_size → IsSectionFault max_size (section_bytes (written_fields h)) e → ⊥
decoded h max_size e s within = no_fault max_size (section_bytes (written_fields h)) (written_fields h) e (section_written (written_fields h) s.short) within

-- the lines are those that were written
lines_are : (h : PlainHeader) (lines : List Field) → AreLinesOf h lines → lines ≡ written_fields h
lines_are h lines a = section_is_one (section_bytes (written_fields h)) lines (written_fields h) a.decoded (section_written (written_fields h) a.sendable.short)

pub lines_taken : (h : PlainHeader) (lines : List Field) → AreLinesOf h lines → AreTaken [] lines
lines_taken h lines a = subst (AreTaken []) (sym (lines_are h lines a)) (taken h a.sendable)

pub not_refused : (h : PlainHeader) (lines : List Field) (fault : HeaderFault) → AreLinesOf h lines → IsRefused [] lines fault → ⊥
not_refused h lines fault a = taken_not_refused [] lines fault (lines_taken h lines a)

again : (h : PlainHeader) (lines : List Field) (k : PlainHeader) → IsReadBack h lines k → IsReadAgain h k
again h lines k r = same h k r.are_lines.sendable (subst (λ (z : List Field). IsHeaderOf z k) (lines_are h lines r.are_lines) r.read)

pub request : (m : List ℕ) (t : PlainTarget) (f : Entries FieldValue) (lines : List Field) (k : PlainHeader) → IsReadBack (request_header m t f) lines k → (k.method ≡ Some m) × SameFields f k.fields
request m t f lines k r = let a = again (request_header m t f) lines k r in (a.method, a.fields)

pub response : (s : ℕ) (f : Entries FieldValue) (lines : List Field) (k : PlainHeader) → IsReadBack (response_header s f) lines k → (k.status ≡ Some s) × SameFields f k.fields
response s f lines k r = let a = again (response_header s f) lines k r in (a.status, a.fields)

pub trailers : (f : Entries FieldValue) (lines : List Field) (k : PlainHeader) → IsReadBack (trailer_header f) lines k → SameFields f k.fields
trailers f lines k r = (again (trailer_header f) lines k r).fields

-- the first host field is one of the fields
same_host : (f g : Entries FieldValue) → SameFields f g → map_host f ≡ map_host g
same_host f g s =
    first_bytes (get_all f (codes "host")) ∙ ap (λ (z : List (List ℕ)). slice_get z 0) (s (codes "host")) ∙ sym (first_bytes (get_all g (codes "host")))

some_slashed : (o : Option (List ℕ)) → is_some (option_map or_slash o) ≡ is_some o
some_slashed None = refl
some_slashed (Some p) = refl

-- the parts that make the target of a request are together
fit : (m : List ℕ) (t : PlainTarget) (f : Entries FieldValue) (is : IsTargetOf (request_header m t f) t) → IsFit t is.name
fit m t f is = record { authority = is.authority_kept; both = is.both }

-- the parts of the head that was read
pub makes_target : (m : List ℕ) (t : PlainTarget) (f : Entries FieldValue) (lines : List Field) (k : PlainHeader) → IsReadBack (request_header m t f) lines k
    → IsTargetOf (request_header m t f) t → IsTargetOf k (slash_target t)
makes_target m t f lines k r is =
    let a = again (request_header m t f) lines k r in
    let host = same_host f k.fields a.fields in
    let e = is.authority_kept in
    let s : is_some k.scheme ≡ is_some t.scheme = ap (λ (z : Option (List ℕ)). is_some z) a.scheme in
    let p : is_some k.path ≡ is_some (cond (has_path t) (Some t.path_and_query) None) = ap (λ (z : Option (List ℕ)). is_some z) a.path ∙ some_slashed (cond (has_path t) (Some t.path_and_query) None) in
    record {
      name = is.name;
      authority = rw (a.authority, ← host) is.authority;
      authority_kept = e;
      both = (λ x. p ∙ is.both.0 (sym s ∙ x), λ y. s ∙ is.both.1 (sym p ∙ y));
      scheme_kept = sym a.scheme;
      path_kept = rw e (read_path t.scheme t.path_and_query is.name is.both) ∙ ap (λ (z : Option (List ℕ)). unwrap_or z []) (sym a.path);
    }

authority_one : (own host : Option (List ℕ)) (a b : List ℕ) → IsAuthorityOf own host a → IsAuthorityOf own host b → a ≡ b
authority_one None None a b p q = absurd p
authority_one None (Some h) a b p q = p.0 ∙ sym q.0
authority_one (Some o) None a b p q = p ∙ sym q
authority_one (Some o) (Some h) a b p q = p.0 ∙ sym q.0

-- a head makes one target
target_one : (k : PlainHeader) (t u : PlainTarget) → IsTargetOf k t → IsTargetOf k u → SameTarget t u
target_one k t u p q =
    same_target t u (p.scheme_kept ∙ sym q.scheme_kept) (p.authority_kept ∙ ap Some (authority_one k.authority (map_host k.fields) p.name q.name p.authority q.authority) ∙ sym q.authority_kept)
    (p.path_kept ∙ sym q.path_kept)

pub same_target_read : (m : List ℕ) (t : PlainTarget) (f : Entries FieldValue) (lines : List Field) (k : PlainHeader) (u : PlainTarget) → IsReadBack (request_header m t f) lines k
    → IsTargetOf (request_header m t f) t → IsTargetOf k u → SameTarget t u
same_target_read m t f lines k u r is other =
    let a = slashed t is.name (fit m t f is) in
    let b = target_one k (slash_target t) u (makes_target m t f lines k r is) other in
    record { scheme = a.scheme ∙ b.scheme; authority = a.authority ∙ b.authority; path = a.path ∙ b.path; query = a.query ∙ b.query }

pub no_request_fault : (m : List ℕ) (t : PlainTarget) (f : Entries FieldValue) (lines : List Field) (k : PlainHeader) (fault : HeaderFault) → IsReadBack (request_header m t f) lines k
    → IsTargetOf (request_header m t f) t → IsRequestFault lines fault → ⊥
no_request_fault m t f lines k fault r is =
    let method = (request m t f lines k r).0 in
    request_has_none lines m (slash_target t) fault
    (means_request k m (slash_target t) method (makes_target m t f lines k r is) lines (lines_taken (request_header m t f) lines r.are_lines) r.read)

-- an error that tells no fault tells want of memory
pub only_memory : (P : HeaderFault → Type 0) (e : HeaderError) → ((a : HeaderFault) → P a → ⊥) → IfFault e P → e ≡ Memory
only_memory P Memory n f = refl
only_memory P InvalidHeaderName n f = absurd (n told.InvalidHeaderName f)
only_memory P InvalidHeaderValue n f = absurd (n told.InvalidHeaderValue f)
only_memory P InvalidRequest n f = absurd (n told.InvalidRequest f)
only_memory P MissingMethod n f = absurd (n told.MissingMethod f)
only_memory P MissingStatus n f = absurd (n told.MissingStatus f)
only_memory P MissingAuthority n f = absurd (n told.MissingAuthority f)
only_memory P ContradictedAuthority n f = absurd (n told.ContradictedAuthority f)
