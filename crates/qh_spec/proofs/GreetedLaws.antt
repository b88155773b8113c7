-- Both ends were greeted before either sends a 1-RTT packet, and what more datagrams have.
use Rattle.std.proofs.Common.{◌≡◌, inl, inr, ℕ, List, [], ◌∷◌, ◌++◌, Some, refl, sym, ap, ◌∙◌, subst, append_assoc}
use Rattle.std.specs.Prelude.{slice_get}
use Rattle.qh_spec.specs.Honest.{IsHonest}
use Rattle.qh_spec.specs.Link.{other, sent_by, given_to}
use Rattle.qh_spec.specs.Lists.{In}
use Rattle.qh_spec.specs.declared.link.Event.{Event}
use Rattle.qh_spec.specs.declared.link.Event.TheVariants.{Sent, Given, Dry, Round, Fault}
use Rattle.qh_spec.specs.declared.sides.Side.{Side}
use Rattle.qh_spec.specs.declared.sides.Side.TheVariants.{Client, Server}
use Rattle.qh_spec.specs.declared.sides.Space.{Space}
use Rattle.qh_spec.specs.declared.sides.Space.TheVariants.{Initial, Data}
use Rattle.qh_spec.proofs.EventLaws.{honest_all, given_to-append}
use Rattle.qh_spec.proofs.Members.{in_left}
use Rattle.qh_spec.specs.Hello.{Hello, hello_byte}
use Rattle.qh_spec.specs.QuicFrames.{QuicFrame}
use Rattle.qh_spec.specs.Greeted.{HasPacketOf, HasFrameOf, crypto_frame, HasCrypto, CarriesHello, CarriesWhole, IsGreeted, SentInOrder, AreBothGreeted}

-- a datagram that was sent was sent at some moment
sent_when : (s : Side) (d : List ℕ) (es : List Event) → In d (sent_by s es) → (before : List Event) × (after : List Event) × (es ≡ before ++ Sent s d ∷ after)
sent_when s d [] i = absurd i
sent_when s d (Given t x ∷ es) i = let r = sent_when s d es i in (Given t x ∷ r.0, r.1, ap (λ (z : List Event). Given t x ∷ z) r.2)
sent_when s d (Dry t ∷ es) i = let r = sent_when s d es i in (Dry t ∷ r.0, r.1, ap (λ (z : List Event). Dry t ∷ z) r.2)
sent_when s d (Round n ∷ es) i = let r = sent_when s d es i in (Round n ∷ r.0, r.1, ap (λ (z : List Event). Round n ∷ z) r.2)
sent_when s d (Fault ∷ es) i = let r = sent_when s d es i in (Fault ∷ r.0, r.1, ap (λ (z : List Event). Fault ∷ z) r.2)
sent_when Client d (Sent Client x ∷ es) (inl e) = ([], es, ap (λ (z : List ℕ). Sent Client z ∷ es) e)
sent_when Client d (Sent Client x ∷ es) (inr i) = let r = sent_when Client d es i in (Sent Client x ∷ r.0, r.1, ap (λ (z : List Event). Sent Client x ∷ z) r.2)
sent_when Client d (Sent Server x ∷ es) i = let r = sent_when Client d es i in (Sent Server x ∷ r.0, r.1, ap (λ (z : List Event). Sent Server x ∷ z) r.2)
sent_when Server d (Sent Client x ∷ es) i = let r = sent_when Server d es i in (Sent Client x ∷ r.0, r.1, ap (λ (z : List Event). Sent Client x ∷ z) r.2)
sent_when Server d (Sent Server x ∷ es) (inl e) = ([], es, ap (λ (z : List ℕ). Sent Server z ∷ es) e)
sent_when Server d (Sent Server x ∷ es) (inr i) = let r = sent_when Server d es i in (Sent Server x ∷ r.0, r.1, ap (λ (z : List Event). Sent Server x ∷ z) r.2)

-- what is honest was honest before
honest_before : (events before after : List Event) → IsHonest events → events ≡ before ++ after → IsHonest before
honest_before events before after honest e b a s d f =
    honest b (a ++ after) s d (e ∙ ap (λ (z : List Event). z ++ after) f ∙ append_assoc b (Given s d ∷ a) after)

pub packet_more : (k : ℕ) (xs ys : List (List ℕ)) (s : Side) (space : Space) → ((d : List ℕ) → In d xs → In d ys) → HasPacketOf k xs s space → HasPacketOf k ys s space
packet_more k xs ys s space f p = record { datagram = p.datagram; among = f p.datagram p.among; packet = p.packet; has = p.has; space_is = p.space_is; sender_is = p.sender_is }

-- the one datagram that has it
packet_alone : (k : ℕ) (xs : List (List ℕ)) (s : Side) (space : Space) (p : HasPacketOf k xs s space) → HasPacketOf k (p.datagram ∷ []) s space
packet_alone k xs s space p = record { datagram = p.datagram; among = inl refl; packet = p.packet; has = p.has; space_is = p.space_is; sender_is = p.sender_is }

pub frame_more : (k : ℕ) (xs ys : List (List ℕ)) (s : Side) (space : Space) (frame : QuicFrame) → ((d : List ℕ) → In d xs → In d ys) → HasFrameOf k xs s space frame → HasFrameOf k ys s space frame
unfolding packet_more
frame_more k xs ys s space frame f c = record { of = packet_more k xs ys s space f c.of; frame_among = c.frame_among }

hello_more : (k : ℕ) (xs ys : List (List ℕ)) (s : Side) (o b : ℕ) → ((d : List ℕ) → In d xs → In d ys) → CarriesHello k xs s o b → CarriesHello k ys s o b
hello_more k xs ys s o b f c = record { from = c.from; payload = c.payload; has = frame_more k xs ys s Initial (crypto_frame c.from c.payload) f c.has; starts = c.starts; byte_is = c.byte_is }

-- more datagrams greet no less
pub whole_more : (k : ℕ) (xs ys : List (List ℕ)) (s : Side) (h : Hello) → ((d : List ℕ) → In d xs → In d ys) → CarriesWhole k xs s h → CarriesWhole k ys s h
whole_more k xs ys s h f w = record { bytes = w.bytes; is = w.is; all = λ o b e. hello_more k xs ys s o b f (w.all o b e) }

pub greeted_more : (k : ℕ) (xs ys : List (List ℕ)) (s : Side) → ((d : List ℕ) → In d xs → In d ys) → IsGreeted k xs s → IsGreeted k ys s
greeted_more k xs ys s f g = (g.0, whole_more k xs ys s g.0 f g.1)

-- a hello has a byte, which a CRYPTO frame carried
pub record FirstCrypto (k : ℕ) (xs : List (List ℕ)) (s : Side) : Type 0 where
  pub from : ℕ
  pub payload : List ℕ
  pub has : HasCrypto k xs s from payload

pub first_crypto : (k : ℕ) (xs : List (List ℕ)) (s : Side) → IsGreeted k xs s → FirstCrypto k xs s
first_crypto k xs s g =
    let w = g.1 in
    let there : slice_get w.bytes 0 ≡ Some (hello_byte g.0.sender) = ap (λ (z : List ℕ). slice_get z 0) w.is.0.whole in
    let c = w.all 0 (hello_byte g.0.sender) there in
    record { from = c.from; payload = c.payload; has = c.has }

given_before : (s : Side) (d : List ℕ) (b before rest : List Event) → before ≡ b ++ rest → In d (given_to s b) → In d (given_to s before)
given_before s d b before rest e i =
    subst (λ (z : List Event). In d (given_to s z)) (sym e) (subst (λ (z : List (List ℕ)). In d z) (sym (given_to-append s b rest)) (in_left d (given_to s b) (given_to s rest) i))

-- Where a datagram came to an end the other sent it at some moment, and what that one was given by then it was given by now.
record WasSent (events before : List Event) (s : Side) (datagram : List ℕ) : Type 0 where
  at : List Event
  after : List Event
  is : events ≡ at ++ Sent s datagram ∷ after
  earlier : (d : List ℕ) → In d (given_to s at) → In d (given_to s before)

was_sent : (events before rest : List Event) (s : Side) (datagram : List ℕ) → events ≡ before ++ rest → In datagram (sent_by s before) → WasSent events before s datagram
was_sent events before rest s datagram e among =
    let w = sent_when s datagram before among in
    record {
      at = w.0;
      after = w.1 ++ rest;
      is = e ∙ ap (λ (z : List Event). z ++ rest) w.2 ∙ append_assoc w.0 (Sent s datagram ∷ w.1) rest;
      earlier = λ d i. given_before s d w.0 before (Sent s datagram ∷ w.1) w.2 i;
    }

crypto_alone : (k : ℕ) (xs : List (List ℕ)) (s : Side) (from : ℕ) (payload : List ℕ) (c : HasCrypto k xs s from payload) → HasCrypto k (c.of.datagram ∷ []) s from payload
unfolding packet_alone
crypto_alone k xs s from payload c = record { of = packet_alone k xs s Initial c.of; frame_among = c.frame_among }

pub both_greeted : (own peer : ℕ) (events before after : List Event) (side : Side) (datagram : List ℕ) → IsHonest events → SentInOrder own peer side events → SentInOrder peer own (other side) events
    → events ≡ before ++ Sent side datagram ∷ after → HasPacketOf peer (datagram ∷ []) side Data → AreBothGreeted own peer side before
both_greeted own peer events before after Client datagram honest by_client by_server e p =
    let mine : IsGreeted own (given_to Client before) Server = (by_client before after datagram e).greeted p in
    let first = first_crypto own (given_to Client before) Server mine in
    let out : In first.has.of.datagram (sent_by Server before) = honest_all Client first.has.of.datagram before (honest_before events before (Sent Client datagram ∷ after) honest e) first.has.of.among in
    let was = was_sent events before (Sent Client datagram ∷ after) Server first.has.of.datagram e out in
    let theirs : IsGreeted peer (given_to Server was.at) Client = (by_server was.at was.after first.has.of.datagram was.is).answers refl first.from first.payload (crypto_alone own (given_to Client before) Server first.from first.payload first.has) in
    record { own = mine; peer = greeted_more peer (given_to Server was.at) (given_to Server before) Client was.earlier theirs }
both_greeted own peer events before after Server datagram honest by_server by_client e p =
    let order = by_server before after datagram e in
    let heard : HasPacketOf own (given_to Server before) Client Data = order.connected refl p in
    let out : In heard.datagram (sent_by Client before) = honest_all Server heard.datagram before (honest_before events before (Sent Server datagram ∷ after) honest e) heard.among in
    let was = was_sent events before (Sent Server datagram ∷ after) Client heard.datagram e out in
    let theirs : IsGreeted peer (given_to Client was.at) Server = (by_client was.at was.after heard.datagram was.is).greeted (packet_alone own (given_to Server before) Client Data heard) in
    record { own = order.greeted p; peer = greeted_more peer (given_to Client was.at) (given_to Client before) Server was.earlier theirs }
