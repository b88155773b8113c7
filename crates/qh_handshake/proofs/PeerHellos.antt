-- The CRYPTO bytes that came from an honest peer are its hello's, and so what is whole of them is acceptable (RFC 9000, section 7.3).
use Rattle.std.proofs.Common.{◌≡◌, ◌⊎◌, ℕ, suc, ◌-◌, ◌≤◌, List, [], ◌∷◌, ◌++◌, length, Option, Some, None, refl, sym, ap, subst, ◌∙◌, inl, inr, arith}
use Rattle.std.proofs.lemmas.List.{append-nil, append_assoc}
use Rattle.std.proofs.lemmas.Option.{none-some, same_Some}
use Rattle.std.specs.Prelude.{slice_get}
use Rattle.qh_handshake.specs.Follows.{Follows, IsItsHello}
use Rattle.qh_handshake.specs.Handshake.{ids_at}
use Rattle.qh_handshake.specs.Incoming.{IsBehind}
use Rattle.qh_handshake.specs.Peers.{KnowsIds}
use Rattle.qh_handshake.specs.declared.handshake.Handshake.{Handshake}
use Rattle.qh_hello.proofs.Fronts.{form_of_hello, forms_agree}
use Rattle.qh_hello.proofs.Sizes.{hello_size}
use Rattle.qh_hello.specs.Greetings.{greeting}
use Rattle.qh_hello.specs.Parts.{IsHelloForm}
use Rattle.qh_hello.specs.declared.transport_parameters.TransportParameters.{TransportParameters}
use Rattle.qh_spec.proofs.HelloAccepted.{written_acceptable}
use Rattle.qh_spec.proofs.HelloFaultLaws.{exclusive}
use Rattle.qh_spec.proofs.HelloLaws.{hello_written}
use Rattle.qh_spec.proofs.HelloWritten.{has_spelling}
use Rattle.qh_spec.specs.Datagram.{Packet, HasPacket, one_rtt, initial, later}
use Rattle.qh_spec.specs.Greeted.{CarriesHello}
use Rattle.qh_spec.specs.Hello.{Greeting, hello_bytes, hello_of}
use Rattle.qh_spec.specs.HelloFaults.{IdsUsed, HelloFault, IsAcceptable, IsHelloFault}
use Rattle.qh_spec.specs.Link.{other}
use Rattle.qh_spec.specs.Lists.{In}
use Rattle.qh_spec.specs.Transcript.{Act, handed_out}
use Rattle.qh_spec.specs.declared.sides.Side.{Side}
use Rattle.qh_spec.specs.declared.sides.Side.TheVariants.{Client, Server}
use Rattle.qh_spec.specs.declared.sides.Space.TheVariants.{Initial}

-- ---- bytes that another list has too begin it

begins : (xs ys : List ℕ) → ((k byte : ℕ) → slice_get xs k ≡ Some byte → slice_get ys k ≡ Some byte) → (rest : List ℕ) × (ys ≡ xs ++ rest)
begins [] ys has = (ys, refl)
begins (x ∷ xs) [] has = absurd (none-some x (has 0 x refl))
begins (x ∷ xs) (y ∷ ys) has =
    let behind = begins xs ys (λ k byte at. has (suc k) byte at) in
    let first : y ≡ x = same_Some y x (has 0 x refl) in
    let others : ys ≡ xs ++ behind.0 = behind.1 in
    (behind.0, cc)

-- ---- what no Initial packet begins has none

pub behind_none : (id_length : ℕ) (p : Packet) (d : List ℕ) → IsBehind d → HasPacket id_length p d → p.space ≡ Initial → ⊥
behind_none id_length p d none (one_rtt _ is) in_initial = let e = is.content.space_is in cc
behind_none id_length p d none (initial front rest _ whole is) in_initial = none front rest _ _ whole is.form
behind_none id_length p d none (later front rest _ first body whole form has) in_initial = none front rest body first whole form

-- ---- the bytes

-- each byte that came is the hello's, if what came was handed out by one that says this hello
pub same_byte : (hello : List ℕ) (peer : Handshake) (u : List Act) (datagrams : List (List ℕ)) (k byte : ℕ) → Follows hello peer u
    → ((d : List ℕ) → In d datagrams → In d (handed_out u) ⊎ IsBehind d) → CarriesHello 0 datagrams peer.side k byte → slice_get hello k ≡ Some byte
same_byte hello peer u datagrams k byte follows came c =
    let of = c.has.of in
    elim (came of.datagram of.among) [
      | inr none ↦ absurd (behind_none 0 of.packet of.datagram none of.has of.space_is)
      | inl out ↦
          let says = follows.says 0 c.from c.payload (record {
            of = record { datagram = of.datagram; among = out; packet = of.packet; has = of.has; space_is = of.space_is; sender_is = of.sender_is };
            frame_among = c.has.frame_among;
          }) in
          let offset : k - c.from ≡ k = omega (arith, says.0) in
          let at : slice_get c.payload k ≡ Some byte = subst (λ (n : ℕ). slice_get c.payload n ≡ Some byte) offset c.byte_is in
          subst (λ (z : List ℕ). slice_get z k ≡ Some byte) says.1 at
    ]

-- the front of these bytes that has the form of a hello is the hello
pub front_is : (hello bytes front rest : List ℕ) → IsHelloForm hello → bytes ≡ front ++ rest → IsHelloForm front
    → ((k byte : ℕ) → slice_get bytes k ≡ Some byte → slice_get hello k ≡ Some byte) → front ≡ hello
front_is hello bytes front rest whole is form has =
    let b = begins bytes hello has in
    let same : front ++ (rest ++ b.0) ≡ hello ++ [] = sym (append_assoc front rest b.0) ∙ ap (λ (z : List ℕ). z ++ b.0) (sym is) ∙ sym b.1 ∙ sym (append-nil hello) in
    (forms_agree front hello (rest ++ b.0) [] form whole same).0

-- ---- the hello is acceptable

abbrev given_ids : Greeting → IdsUsed
given_ids g = record { original = g.original_id; source = g.source_id; retry = g.retry_id }

ids_by : (a x : Option (List ℕ)) (b y : List ℕ) (c z : Option (List ℕ)) → a ≡ x → b ≡ y → c ≡ z
    → ◌≡◌ {A = IdsUsed} (record { original = a; source = b; retry = c }) (record { original = x; source = y; retry = z })
ids_by a x b y c z e f g =
    let all : (a, b, c) ≡ (x, y, z) = cc in
    ap (λ (v : Option (List ℕ) × List ℕ × Option (List ℕ)). record { original = v.0; source = v.1; retry = v.2 }) all

-- the ids that its greeting gives are the ones that were used
ids_same : (side : Side) (own peer : Handshake) (hello source : List ℕ) → (said : IsItsHello hello peer.side peer.parameters) → peer.side ≡ other side → source ≡ peer.parameters.initial_source_connection_id
    → KnowsIds own peer side → given_ids (greeting peer.side said.name peer.parameters) ≡ ids_at side own.original_id source own.retry_id
ids_same Client own peer hello source said side_is source_is ids =
    let original : peer.parameters.original_destination_connection_id ≡ Some own.original_id = ids.0 in
    let retry : peer.parameters.retry_source_connection_id ≡ own.retry_id = ids.1 in
    ids_by _ _ _ _ _ _ original (sym source_is) retry
ids_same Server own peer hello source said side_is source_is ids =
    let none = said.sayable.client side_is in
    let original : peer.parameters.original_destination_connection_id ≡ None = none.0 in
    let retry : peer.parameters.retry_source_connection_id ≡ None = none.2 in
    ids_by _ _ _ _ _ _ original (sym source_is) retry

pub never_faulty : (own peer : Handshake) (hello source : List ℕ) (fault : HelloFault) → (said : IsItsHello hello peer.side peer.parameters) → peer.side ≡ other own.side
    → source ≡ peer.parameters.initial_source_connection_id → KnowsIds own peer own.side
    → IsHelloFault (other own.side) (ids_at own.side own.original_id source own.retry_id) hello fault → ⊥
never_faulty own peer hello source fault said side_is source_is ids is =
    let g = greeting peer.side said.name peer.parameters in
    let used = ids_at own.side own.original_id source own.retry_id in
    let written : IsAcceptable peer.side used (hello_bytes (hello_of g)) (hello_of g) =
    subst (λ (z : IdsUsed). IsAcceptable peer.side z (hello_bytes (hello_of g)) (hello_of g)) (ids_same own.side own peer hello source said side_is source_is ids) (written_acceptable g said.sayable) in
    let at_side : IsAcceptable (other own.side) used (hello_bytes (hello_of g)) (hello_of g) =
    subst (λ (z : Side). IsAcceptable z used (hello_bytes (hello_of g)) (hello_of g)) side_is written in
    exclusive (other own.side) used hello (hello_of g) fault (subst (λ (z : List ℕ). IsAcceptable (other own.side) used z (hello_of g)) (sym said.is) at_side) is.has

pub its_form : (hello : List ℕ) (side : Side) (p : TransportParameters) → IsItsHello hello side p → IsHelloForm hello
its_form hello side p said =
    let g = greeting side said.name p in
    subst IsHelloForm (sym said.is) (form_of_hello (hello_bytes (hello_of g)) (hello_of g) (hello_written (hello_of g) (has_spelling g said.sayable)))

pub its_size : (hello : List ℕ) (side : Side) (p : TransportParameters) → IsItsHello hello side p → length hello ≤ 512
its_size hello side p said = subst (λ (z : List ℕ). length z ≤ 512) (sym said.is) (hello_size (greeting side said.name p) said.sayable)
