-- Transcripts of ends that keep their laws, wrote a message or read one, and of ends that didn't.
use Rattle.std.proofs.Common.{◌≡◌, ◌<◌, inl, inr, ℕ, ◌+◌, ◌==◌, true, false, List, [], ◌∷◌, ◌++◌, length, Some, refl, sym, ap, ◌∙◌, subst, arith, append_assoc, append-nil, zero-add, length-append}
use Rattle.std.specs.Prelude.{slice_get}
use Rattle.std.proofs.lemmas.Bool.{cases_eq, ne_eqb}
use Rattle.qh_spec.specs.declared.sides.Side.{Side}
use Rattle.qh_spec.specs.declared.sides.Side.TheVariants.{Client, Server}
use Rattle.qh_spec.specs.declared.link.Event.{Event}
use Rattle.qh_spec.specs.declared.link.Event.TheVariants.{Sent, Given}
use Rattle.qh_spec.specs.Carried.{Carries, CarriesEnd}
use Rattle.qh_spec.specs.Honest.{IsHonest}
use Rattle.qh_spec.specs.HttpFrame.{HttpFrame, AreHttpFrames, headers_frame}
use Rattle.qh_spec.specs.Lawful.{Lawful, WritesMessage, ReadsMessage}
use Rattle.qh_spec.specs.Link.{other, sent_by}
use Rattle.qh_spec.specs.Lists.{In}
use Rattle.qh_spec.specs.Message.{PlainMessage}
use Rattle.qh_spec.specs.MessageRows.{get_message, other_message, get_bytes, get_section}
use Rattle.qh_spec.specs.QuicFrame.{StreamFrame}
use Rattle.qh_spec.specs.Spelling.{known_frames, Spells}
use Rattle.qh_spec.specs.Transcript.{HandedIn, HandedOut, Wrote, Finished, ReadBytes, ReadEnd, written, finished, pieces_read, read, ended}
use Rattle.qh_spec.specs.Whole.{IsWholeStream}
use Rattle.qh_spec.specs.WholeRows.{carrying_get, get_acts, got_acts, get_events}
use Rattle.qh_spec.proofs.FrameRows.{headers_is}
use Rattle.qh_spec.proofs.HttpFrameLaws.{no_prefix}
use Rattle.qh_spec.proofs.Members.{get_take, get_drop}
use Rattle.qh_spec.proofs.MessageRows.{get_spells, get_spells_no_other}
use Rattle.qh_spec.proofs.WholeRows.{only_run, carrying_whole}

-- where nothing was done
pub nothing_lawful : (s : Side) (m n : ℕ) → Lawful s m n []
nothing_lawful s m n = record {
  sent_byte = λ stream o b q. absurd q.has.among;
  sent_end = λ stream e q. absurd q.has.among;
  read_byte = λ stream at bytes k b i e. absurd i;
  read_end = λ stream e. cc;
}

whole : IsWholeStream 8 (carrying_get ∷ []) Client 0 get_bytes
whole = carrying_whole Client get_bytes (omega arith)

-- the datagram speaks of stream 0 alone
byte_on : (stream o b : ℕ) → Carries 8 (carrying_get ∷ []) Client stream o b → 0 ≡ stream
byte_on stream o b q = ap (λ (z : StreamFrame). z.id) (only_run Client Client true get_bytes (omega arith) q.run q.has).1 ∙ q.stream_is

end_on : (stream n : ℕ) → CarriesEnd 8 (carrying_get ∷ []) Client stream n → 0 ≡ stream
end_on stream n q = ap (λ (z : StreamFrame). z.id) (only_run Client Client true get_bytes (omega arith) q.run q.has).1 ∙ q.stream_is

pub writer_lawful : (n : ℕ) → Lawful Client n 8 get_acts
writer_lawful n = record {
  sent_byte = λ stream o b q.
      let here : 0 ≡ stream = byte_on stream o b q in
      subst (λ (z : ℕ). slice_get (written get_acts z) o ≡ Some b) here
      (whole.only o b (subst (λ (z : ℕ). Carries 8 (carrying_get ∷ []) Client z o b) (sym here) q));
  sent_end = λ stream e q.
      let here : 0 ≡ stream = end_on stream e q in
      subst (λ (z : ℕ). (finished get_acts z ≡ true) × (e ≡ length (written get_acts z))) here
      (refl, whole.once e (subst (λ (z : ℕ). CarriesEnd 8 (carrying_get ∷ []) Client z e) (sym here) q));
  read_byte = λ stream at bytes k b i e. absurd i;
  read_end = λ stream e. cc;
}

-- a byte of a piece stands in the message at its place
in_get : (p : ℕ × List ℕ) → In p (pieces_read got_acts 0) → (k b : ℕ) → slice_get p.1 k ≡ Some b → slice_get get_bytes (p.0 + k) ≡ Some b
in_get p (inl e) k b h =
    subst (λ (z : ℕ × List ℕ). slice_get z.1 k ≡ Some b → slice_get get_bytes (z.0 + k) ≡ Some b) e (λ g. rw zero-add (get_take get_bytes 2 k b g)) h
in_get p (inr (inl e)) k b h =
    subst (λ (z : ℕ × List ℕ). slice_get z.1 k ≡ Some b → slice_get get_bytes (z.0 + k) ≡ Some b) e (λ g. get_drop get_bytes 2 k b g) h
in_get p (inr (inr h)) k b e = absurd h

-- no other stream was read
no_piece : (stream : ℕ) (p : ℕ × List ℕ) → (0 ≡ stream → ⊥) → In p (pieces_read got_acts stream) → ⊥
no_piece stream p apart i =
    let t : 0 == stream ≡ false = ne_eqb 0 stream apart in
    rw t at i

no_end : (stream : ℕ) → (0 ≡ stream → ⊥) → ended got_acts stream ≡ true → ⊥
no_end stream apart e =
    let t : 0 == stream ≡ false = ne_eqb 0 stream apart in
    let f : false ≡ true = rw t at e in
    cc

pub reader_lawful : (n : ℕ) → Lawful Server 8 n got_acts
reader_lawful n = record {
  sent_byte = λ stream o b q. absurd q.has.among;
  sent_end = λ stream e q. absurd q.has.among;
  read_byte = λ stream at bytes k b i e.
      elim (cases_eq 0 stream) [
        | inl here ↦
            let there : In (at, bytes) (pieces_read got_acts 0) = subst (λ (z : ℕ). In (at, bytes) (pieces_read got_acts z)) (sym here) i in
            subst (λ (z : ℕ). Carries 8 (carrying_get ∷ []) Client z (at + k) b) here (whole.all (at + k) b (in_get (at, bytes) there k b e))
        | inr apart ↦ absurd (no_piece stream (at, bytes) apart i)
      ];
  read_end = λ stream e.
      elim (cases_eq 0 stream) [
        | inl here ↦ subst (λ (z : ℕ). CarriesEnd 8 (carrying_get ∷ []) Client z (length (read got_acts z))) here whole.ends
        | inr apart ↦ absurd (no_end stream apart e)
      ];
}

-- ends that don't keep one of the laws
pub unwritten_not : (n : ℕ) → Lawful Client n 8 (HandedOut carrying_get ∷ []) → ⊥
unwritten_not n law = let e = law.sent_byte 0 0 1 (whole.all 0 1 refl) in cc

pub unfinished_not : (n : ℕ) → Lawful Client n 8 (Wrote 0 get_bytes ∷ HandedOut carrying_get ∷ []) → ⊥
unfinished_not n law = let e : false ≡ true = (law.sent_end 0 15 whole.ends).0 in cc

pub uncarried_not : (n : ℕ) → Lawful Server 8 n (ReadBytes 0 0 get_bytes ∷ []) → ⊥
uncarried_not n law = (law.read_byte 0 0 get_bytes 0 1 (inl refl) refl).has.among

pub early_end_not : (n : ℕ) → Lawful Server 8 n (HandedIn carrying_get ∷ ReadEnd 0 ∷ []) → ⊥
early_end_not n law = let e = whole.once 0 (law.read_end 0 refl) in omega (arith, e)

-- more was written than the end says
pub short_end_not : (n : ℕ) → Lawful Client n 8 (Wrote 0 get_bytes ∷ Wrote 0 (0 ∷ []) ∷ Finished 0 ∷ HandedOut carrying_get ∷ []) → ⊥
short_end_not n law = let e : 15 ≡ 16 = (law.sent_end 0 15 whole.ends).1 in omega (arith, e)

-- the bytes were carried at another place
pub shifted_not : (n : ℕ) → Lawful Server 8 n (HandedIn carrying_get ∷ ReadBytes 0 1 get_bytes ∷ []) → ⊥
shifted_not n law = let e = whole.only 1 1 (law.read_byte 0 1 get_bytes 0 1 (inl refl) refl) in cc

-- messages that were written
pub get_was_written : WritesMessage get_acts 0 get_message
get_was_written = record { bytes = get_bytes; spells = get_spells; rest = []; front = refl; whole = λ e. refl }

pub front_was_written : WritesMessage (Wrote 0 (1 ∷ 13 ∷ []) ∷ []) 0 get_message
front_was_written = record { bytes = get_bytes; spells = get_spells; rest = get_section; front = refl; whole = λ e. cc }

-- a proper front of the bytes spells nothing
front_no_frames : (front rest : List ℕ) → get_bytes ≡ front ++ rest → 0 < length rest → (frames : List HttpFrame) → AreHttpFrames front frames → frames ≡ []
front_no_frames front rest e more [] h = refl
front_no_frames front rest e more (f ∷ fs) h =
    let whole : get_bytes ≡ h.0 ++ (h.1 ++ rest) = e ∙ ap (λ (z : List ℕ). z ++ rest) h.2 ∙ append_assoc h.0 h.1 rest in
    let none : h.1 ++ rest ≡ [] = (no_prefix h.0 get_bytes (h.1 ++ rest) f (headers_frame get_section) h.3 headers_is whole).0 in
    let count = ap length none in
    absurd (omega (arith, count, more, length-append h.1 rest))

front_no_message : (front rest : List ℕ) (m : PlainMessage) → get_bytes ≡ front ++ rest → 0 < length rest → Spells front m → ⊥
front_no_message front rest m e more p =
    let none : p.frames ≡ [] = front_no_frames front rest e more p.frames p.framed in
    let order = sym (ap known_frames none) ∙ p.order in
    cc

written_alone : (bytes : List ℕ) → bytes ≡ written (Wrote 0 bytes ∷ Finished 0 ∷ []) 0
written_alone bytes = sym (append-nil bytes)

pub cut_not_written : (front rest : List ℕ) (m : PlainMessage) → get_bytes ≡ front ++ rest → 0 < length rest
    → WritesMessage (Wrote 0 front ∷ Finished 0 ∷ []) 0 m → ⊥
cut_not_written front rest m e more w =
    let all : w.bytes ≡ front = w.front ∙ ap (λ (z : List ℕ). written (Wrote 0 front ∷ Finished 0 ∷ []) 0 ++ z) (w.whole refl)
    ∙ append-nil (written (Wrote 0 front ∷ Finished 0 ∷ []) 0) ∙ sym (written_alone front) in
    front_no_message front rest m e more (subst (λ (z : List ℕ). Spells z m) all w.spells)

pub other_not_written : WritesMessage get_acts 0 other_message → ⊥
other_not_written w =
    let all : w.bytes ≡ get_bytes = w.front ∙ ap (λ (z : List ℕ). get_bytes ++ z) (w.whole refl) in
    get_spells_no_other (subst (λ (z : List ℕ). Spells z other_message) all w.spells)

-- messages that were read
pub get_was_read : ReadsMessage got_acts 0 get_message
get_was_read = record { in_order = (refl, (refl, tt)); to_the_end = refl; spells = get_spells }

pub endless_not_read : (m : PlainMessage) → ReadsMessage (HandedIn carrying_get ∷ ReadBytes 0 0 get_bytes ∷ []) 0 m → ⊥
endless_not_read m r = let e = r.to_the_end in cc

pub gap_not_read : (m : PlainMessage) → ReadsMessage (ReadBytes 0 0 (1 ∷ 13 ∷ []) ∷ ReadBytes 0 3 get_section ∷ ReadEnd 0 ∷ []) 0 m → ⊥
gap_not_read m r = let e : 3 ≡ 2 = r.in_order.1.0 in omega (arith, e)

pub other_not_read : ReadsMessage got_acts 0 other_message → ⊥
other_not_read r = get_spells_no_other r.spells

-- a link that gave what was sent
no_more : (more after : List Event) (x : Event) → [] ≡ more ++ x ∷ after → ⊥
no_more [] after x e = cc
no_more (y ∷ more) after x e = cc

pub passed_on_honest : (x : List ℕ) → IsHonest (Sent Client x ∷ Given Server x ∷ [])
passed_on_honest x [] after s d e = absurd cc
passed_on_honest x (b ∷ []) after s d e =
    let same : (Sent Client x, Server, x) ≡ (b, s, d) = cc in
    subst (λ (z : Event × Side × List ℕ). In z.2 (sent_by (other z.1) (z.0 ∷ []))) same (inl refl)
passed_on_honest x (b ∷ c ∷ more) after s d e = let r : [] ≡ more ++ Given s d ∷ after = cc in absurd (no_more more after (Given s d) r)

pub get_events_honest : IsHonest get_events
get_events_honest = passed_on_honest carrying_get
