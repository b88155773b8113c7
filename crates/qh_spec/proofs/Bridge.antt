-- What one end read of a stream is what the other end wrote there.
use Rattle.std.proofs.Common.{◌≡◌, inl, inr, ℕ, ◌+◌, true, List, [], ◌∷◌, ◌++◌, length, Some, refl, sym, ap, ◌∙◌, subst, arith, append-nil}
use Rattle.std.specs.Prelude.{slice_get}
use Rattle.qh_spec.specs.declared.sides.Side.{Side}
use Rattle.qh_spec.specs.declared.sides.Side.TheVariants.{Client, Server}
use Rattle.qh_spec.specs.declared.link.Event.{Event}
use Rattle.qh_spec.specs.Carried.{Carries, CarriesEnd}
use Rattle.qh_spec.specs.Honest.{IsHonest}
use Rattle.qh_spec.specs.Lawful.{Lawful, AreInOrder, WritesMessage, ReadsMessage}
use Rattle.qh_spec.specs.Link.{other, sent_by, given_to}
use Rattle.qh_spec.specs.Lists.{In}
use Rattle.qh_spec.specs.Message.{PlainMessage}
use Rattle.qh_spec.specs.Same.{SameMessage, SameKind}
use Rattle.qh_spec.specs.Spelling.{Spells}
use Rattle.qh_spec.specs.Transcript.{Act, handed_in, handed_out, written, finished, pieces_read, joined, read, ended}
use Rattle.qh_spec.specs.Whole.{IsWholeStream, IsWhole}
use Rattle.qh_spec.proofs.CarriedLaws.{carries_more, carries_end_more}
use Rattle.qh_spec.proofs.EventLaws.{honest_all}
use Rattle.qh_spec.proofs.Members.{get_split, same_list}
use Rattle.qh_spec.proofs.MessageLaws.{spells_one}
use Rattle.qh_spec.proofs.SameLaws.{same_sym}

pub other_twice : (s : Side) → other (other s) ≡ s
other_twice Client = refl
other_twice Server = refl

-- each byte of pieces in order stands in one of them, at its place
pub in_a_piece : (n : ℕ) (ps : List (ℕ × List ℕ)) → AreInOrder n ps → (k byte : ℕ) → slice_get (joined ps) k ≡ Some byte
    → (at : ℕ) × (bytes : List ℕ) × (j : ℕ) × In (at, bytes) ps × (slice_get bytes j ≡ Some byte) × (at + j ≡ n + k)
in_a_piece n [] o k byte e = cc
in_a_piece n (p ∷ ps) o k byte e =
    elim (get_split p.1 (joined ps) k byte e) [
      | inl a ↦ let first = o.0 in (p.0, p.1, k, inl refl, a, omega (arith, first))
      | inr r ↦
          let q = in_a_piece (n + length p.1) ps o.1 r.0 byte r.2 in
          let before = r.1 in
          let sum = q.5 in
          (q.0, q.1, q.2, inr q.3, q.4, omega (arith, before, sum))
    ]

-- over an honest link the writer handed out whatever the reader's end was given
was_handed_out : (events : List Event) (writer : Side) (w : List Act) → IsHonest events → ((d : List ℕ) → In d (sent_by writer events) → In d (handed_out w))
    → (d : List ℕ) → In d (given_to (other writer) events) → In d (handed_out w)
was_handed_out events writer w honest sent d i =
    sent d (subst (λ (s : Side). In d (sent_by s events)) (other_twice writer) (honest_all (other writer) d events honest i))

-- each byte that was read was carried to the reader's end
read_came : (events : List Event) (writer : Side) (writer_length reader_length : ℕ) (r : List Act) → Lawful (other writer) reader_length writer_length r
    → ((d : List ℕ) → In d (handed_in r) → In d (given_to (other writer) events)) → (stream : ℕ) → AreInOrder 0 (pieces_read r stream)
    → (offset byte : ℕ) → slice_get (read r stream) offset ≡ Some byte → Carries reader_length (given_to (other writer) events) writer stream offset byte
read_came events writer writer_length reader_length r law given stream order offset byte e =
    let q = in_a_piece 0 (pieces_read r stream) order offset byte e in
    let sum = q.5 in
    let place : q.0 + q.2 ≡ offset = omega (arith, sum) in
    carries_more reader_length (handed_in r) (given_to (other writer) events) given writer stream offset byte
    (subst (λ (o : ℕ). Carries reader_length (handed_in r) writer stream o byte) place
    (subst (λ (s : Side). Carries reader_length (handed_in r) s stream (q.0 + q.2) byte) (other_twice writer) (law.read_byte stream q.0 q.1 q.2 byte q.3 q.4)))

-- what was read in order and to the end is all that was written, and it is whole in what the reader's end was given
pub crossed : (events : List Event) (writer : Side) (writer_length reader_length : ℕ) (w r : List Act) → IsHonest events
    → Lawful writer writer_length reader_length w → Lawful (other writer) reader_length writer_length r
    → ((d : List ℕ) → In d (sent_by writer events) → In d (handed_out w)) → ((d : List ℕ) → In d (handed_in r) → In d (given_to (other writer) events))
    → (stream : ℕ) → AreInOrder 0 (pieces_read r stream) → ended r stream ≡ true
    → (read r stream ≡ written w stream) × (finished w stream ≡ true)
    × IsWholeStream reader_length (given_to (other writer) events) writer stream (read r stream)
crossed events writer writer_length reader_length w r honest wrote took sent given stream order ends =
    let to : List (List ℕ) = given_to (other writer) events in
    let out = was_handed_out events writer w honest sent in
    let came = read_came events writer writer_length reader_length r took given stream order in
    let there : (o b : ℕ) → Carries reader_length to writer stream o b → slice_get (written w stream) o ≡ Some b
    = λ o b q. wrote.sent_byte stream o b (carries_more reader_length to (handed_out w) out writer stream o b q) in
    let end_there : (end : ℕ) → CarriesEnd reader_length to writer stream end → (finished w stream ≡ true) × (end ≡ length (written w stream))
    = λ end q. wrote.sent_end stream end (carries_end_more reader_length to (handed_out w) out writer stream end q) in
    let end : CarriesEnd reader_length to writer stream (length (read r stream))
    = carries_end_more reader_length (handed_in r) to given writer stream (length (read r stream))
    (subst (λ (s : Side). CarriesEnd reader_length (handed_in r) s stream (length (read r stream))) (other_twice writer) (took.read_end stream ends)) in
    let one : read r stream ≡ written w stream = same_list (read r stream) (written w stream) (end_there (length (read r stream)) end).1 (λ o b e. there o b (came o b e)) in (
      one,
      (end_there (length (read r stream)) end).0,
      record {
        all = came;
        only = λ o b q. subst (λ (z : List ℕ). slice_get z o ≡ Some b) (sym one) (there o b q);
        ends = end;
        once = λ e q. (end_there e q).1 ∙ ap length (sym one);
      },
    )

-- a message that was read is the one that was written, and is whole in what the reader's end was given
pub bridge : (events : List Event) (writer : Side) (writer_length reader_length : ℕ) (w r : List Act) → IsHonest events
    → Lawful writer writer_length reader_length w → Lawful (other writer) reader_length writer_length r
    → ((d : List ℕ) → In d (sent_by writer events) → In d (handed_out w)) → ((d : List ℕ) → In d (handed_in r) → In d (given_to (other writer) events))
    → (stream : ℕ) (m n : PlainMessage) → WritesMessage w stream m → ReadsMessage r stream n → SameKind m.head n.head
    → SameMessage n m × IsWhole reader_length (given_to (other writer) events) writer stream n
bridge events writer writer_length reader_length w r honest wrote took sent given stream m n writes reads kind =
    let x = crossed events writer writer_length reader_length w r honest wrote took sent given stream reads.in_order reads.to_the_end in
    let all : writes.bytes ≡ read r stream
    = writes.front ∙ ap (λ (z : List ℕ). written w stream ++ z) (writes.whole x.1) ∙ append-nil (written w stream) ∙ sym x.0 in
    let spells : Spells (read r stream) m = subst (λ (z : List ℕ). Spells z m) all writes.spells in
    (same_sym m n (spells_one (read r stream) m n kind spells reads.spells), record { bytes = read r stream; stream_is = x.2; spells = reads.spells })
