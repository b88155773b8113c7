-- Transcripts that are in the order of a handshake, parts of them, and ones that aren't.
use Rattle.std.proofs.Common.{◌≡◌, inl, inr, ℕ, ◌+◌, ◌<◌, List, [], ◌∷◌, ◌++◌, length, get_or, refl, sym, ap, arith, subst}
use Rattle.qh_spec.specs.Datagram.{HasPacket}
use Rattle.qh_spec.specs.Greeted.{HasPacketOf, CarriesHello, CarriesWhole, IsGreeted, GreetsInOrder, HasGreetedInOrder, SentInOrder}
use Rattle.qh_spec.specs.GreetedRows.{carrying_crypto, limit_hello, first_half, answer_hello, greeting_events}
use Rattle.qh_spec.specs.Hello.{IsHelloOf}
use Rattle.qh_spec.specs.HelloRows.{plain_hello, source, original}
use Rattle.qh_spec.specs.Honest.{IsHonest}
use Rattle.qh_spec.specs.Link.{other, sent_by}
use Rattle.qh_spec.specs.Lists.{In}
use Rattle.qh_spec.specs.Parted.{here, behind, IsInitialAlone, IsPartOf, none, rest, unheard, initial}
use Rattle.qh_spec.specs.Transcript.{HandedIn, HandedOut}
use Rattle.qh_spec.specs.WireRows.{forged, initial_part, two_packets}
use Rattle.qh_spec.specs.declared.link.Event.{Event}
use Rattle.qh_spec.specs.declared.link.Event.TheVariants.{Sent, Given}
use Rattle.qh_spec.specs.declared.sides.Side.{Side}
use Rattle.qh_spec.specs.declared.sides.Side.TheVariants.{Client, Server}
use Rattle.qh_spec.specs.declared.sides.Space.TheVariants.{Data}
use Rattle.qh_spec.proofs.GreetedRows.{form_is, has_crypto, nothing_greets_not, carries, carried_in_one, the_hello}
use Rattle.qh_spec.proofs.HandshakeOrderLaws.{nothing_sent, order_sent, none_in_order, quiet_in_order, sent_in_order}
use Rattle.qh_spec.proofs.HelloRows.{not_client, short_is}
use Rattle.qh_spec.proofs.PacketRows.{forged_is, initial_form}
use Rattle.qh_spec.proofs.PartLaws.{alone_has_none, last_or_before, part_in, part_out}

-- ---- the order of a handshake

no_data : (s t : Side) (payload : List ℕ) → length payload < 25 → HasPacketOf 8 (carrying_crypto s 0 payload ∷ []) t Data → ⊥
no_data s t payload short p =
    elim p.among [
      | inl e ↦
          let alone : IsInitialAlone (carrying_crypto s 0 payload) = record { first = 195; body = _; is = form_is s 0 payload short } in
          alone_has_none 8 p.packet (carrying_crypto s 0 payload) alone (subst (λ (z : List ℕ). HasPacket 8 p.packet z) (sym e) p.has) p.space_is
      | inr n ↦ n
    ]

hello_goes : GreetsInOrder 8 8 Client [] (carrying_crypto Client 0 limit_hello)
hello_goes = record {
  greeted = λ p. absurd (no_data Client Client limit_hello (omega arith) p);
  connected = λ s p. not_client Server refl (sym s);
  answers = λ s from payload c. not_client Server refl (sym s);
}

pub client_begins : HasGreetedInOrder 8 8 Client (HandedOut (carrying_crypto Client 0 limit_hello) ∷ [])
client_begins = order_sent 8 8 Client [] (carrying_crypto Client 0 limit_hello) hello_goes (nothing_sent 8 8 Client)

early_data : HasPacketOf 8 (forged ∷ []) Client Data
early_data = record { datagram = forged; among = inl refl; packet = _; has = forged_is.0; space_is = refl; sender_is = refl }

pub no_early_packet : HasGreetedInOrder 8 8 Client (HandedOut forged ∷ []) → ⊥
no_early_packet o = nothing_greets_not Server ((o [] [] forged refl).greeted early_data)

pub no_early_answer : HasGreetedInOrder 8 8 Server (HandedOut (carrying_crypto Server 0 first_half) ∷ []) → ⊥
no_early_answer o =
    nothing_greets_not Client ((o [] [] (carrying_crypto Server 0 first_half) refl).answers refl 0 first_half
    (has_crypto Server 0 first_half (carrying_crypto Server 0 first_half ∷ []) (omega arith) (omega arith) (inl refl)))

-- ---- both hellos went over

answer_is : IsHelloOf Server answer_hello (plain_hello Server (source ∷ original ∷ []))
answer_is = short_is Server (source ∷ original ∷ []) ((omega arith, omega arith), ((omega arith, omega arith), tt)) (omega arith)

abbrev answer : List ℕ
answer = carrying_crypto Server 0 answer_hello

answer_carried : CarriesWhole 8 (answer ∷ []) Server (plain_hello Server (source ∷ original ∷ []))
answer_carried = record {
  bytes = answer_hello;
  is = answer_is;
  all = λ offset byte e. subst (λ (o : ℕ). CarriesHello 8 (answer ∷ []) Server o byte) (let same : 0 + offset ≡ offset = omega arith in same)
      (carries Server 0 answer_hello (answer ∷ []) offset byte (omega arith) (omega arith) (inl refl) e);
}

server_was_greeted : IsGreeted 8 (carrying_crypto Client 0 limit_hello ∷ []) Client
server_was_greeted = (the_hello, carried_in_one (carrying_crypto Client 0 limit_hello ∷ []) (inl refl))

answer_goes : GreetsInOrder 8 8 Server (carrying_crypto Client 0 limit_hello ∷ []) answer
answer_goes = record {
  greeted = λ p. server_was_greeted;
  connected = λ s p. absurd (no_data Server Server answer_hello (omega arith) p);
  answers = λ s from payload c. server_was_greeted;
}

data_goes : GreetsInOrder 8 8 Client (answer ∷ []) forged
data_goes = record {
  greeted = λ p. (plain_hello Server (source ∷ original ∷ []), answer_carried);
  connected = λ s p. not_client Server refl (sym s);
  answers = λ s from payload c. not_client Server refl (sym s);
}

abbrev first_events : List Event
first_events = Sent Client (carrying_crypto Client 0 limit_hello) ∷ Given Server (carrying_crypto Client 0 limit_hello) ∷ []

abbrev four_events : List Event
four_events = first_events ++ Sent Server answer ∷ Given Client answer ∷ []

client_in_order : SentInOrder 8 8 Client greeting_events
client_in_order =
    let one = sent_in_order 8 8 Client [] (carrying_crypto Client 0 limit_hello) hello_goes (none_in_order 8 8 Client) in
    let two = quiet_in_order 8 8 Client (Sent Client (carrying_crypto Client 0 limit_hello) ∷ []) (Given Server (carrying_crypto Client 0 limit_hello)) (λ d e. cc) one in
    let three = quiet_in_order 8 8 Client first_events (Sent Server answer) (λ d e. cc) two in
    let four = quiet_in_order 8 8 Client (first_events ++ Sent Server answer ∷ []) (Given Client answer) (λ d e. cc) three in
    sent_in_order 8 8 Client four_events forged data_goes four

server_in_order : SentInOrder 8 8 Server greeting_events
server_in_order =
    let one = quiet_in_order 8 8 Server [] (Sent Client (carrying_crypto Client 0 limit_hello)) (λ d e. cc) (none_in_order 8 8 Server) in
    let two = quiet_in_order 8 8 Server (Sent Client (carrying_crypto Client 0 limit_hello) ∷ []) (Given Server (carrying_crypto Client 0 limit_hello)) (λ d e. cc) one in
    let three = sent_in_order 8 8 Server first_events answer answer_goes two in
    let four = quiet_in_order 8 8 Server (first_events ++ Sent Server answer ∷ []) (Given Client answer) (λ d e. cc) three in
    quiet_in_order 8 8 Server four_events (Sent Client forged) (λ d e. cc) four

-- one event more keeps a link honest
honest_more : (es : List Event) (e : Event) → ((s : Side) (d : List ℕ) → e ≡ Given s d → In d (sent_by (other s) es)) → IsHonest es → IsHonest (es ++ e ∷ [])
honest_more es e fine honest before after s d f =
    elim (last_or_before es before after e (Given s d) f) [
      | inl h ↦ subst (λ (z : List Event). In d (sent_by (other s) z)) h.0 (fine s d h.1)
      | inr h ↦ honest before h.0 s d h.1
    ]

none_honest : IsHonest []
none_honest [] after s d e = let l : 0 ≡ length (Given s d ∷ after) = ap length e in absurd (omega (arith, l))
none_honest (b ∷ before) after s d e = let l : 0 ≡ length (b ∷ (before ++ Given s d ∷ after)) = ap length e in absurd (omega (arith, l))

to_server : (es : List Event) (g : List ℕ) → In g (sent_by Client es) → (s : Side) (d : List ℕ) → Given Server g ≡ Given s d → In d (sent_by (other s) es)
to_server es g among Server d e = let same : g ≡ d = cc in subst (λ (z : List ℕ). In z (sent_by Client es)) same among
to_server es g among Client d e = absurd cc

to_client : (es : List Event) (g : List ℕ) → In g (sent_by Server es) → (s : Side) (d : List ℕ) → Given Client g ≡ Given s d → In d (sent_by (other s) es)
to_client es g among Client d e = let same : g ≡ d = cc in subst (λ (z : List ℕ). In z (sent_by Server es)) same among
to_client es g among Server d e = absurd cc

events_honest : IsHonest greeting_events
events_honest =
    let one = honest_more [] (Sent Client (carrying_crypto Client 0 limit_hello)) (λ s d e. cc) none_honest in
    let two = honest_more (Sent Client (carrying_crypto Client 0 limit_hello) ∷ []) (Given Server (carrying_crypto Client 0 limit_hello))
    (to_server (Sent Client (carrying_crypto Client 0 limit_hello) ∷ []) (carrying_crypto Client 0 limit_hello) (inl refl)) one in
    let three = honest_more first_events (Sent Server answer) (λ s d e. cc) two in
    let four = honest_more (first_events ++ Sent Server answer ∷ []) (Given Client answer) (to_client (first_events ++ Sent Server answer ∷ []) answer (inl refl)) three in
    honest_more four_events (Sent Client forged) (λ s d e. cc) four

pub greet_in_order : IsHonest greeting_events × SentInOrder 8 8 Client greeting_events × SentInOrder 8 8 Server greeting_events
greet_in_order = (events_honest, client_in_order, server_in_order)

-- ---- parts

pub tail_is_part : IsPartOf (HandedIn forged ∷ []) (HandedIn two_packets ∷ [])
tail_is_part = rest [] [] forged two_packets (behind initial_part forged two_packets 195 _ refl initial_form (here forged refl)) (omega arith, omega arith) none

pub nothing_is_part : IsPartOf [] (HandedIn two_packets ∷ [])
nothing_is_part = unheard [] [] two_packets none

pub whole_no_part : IsPartOf (HandedIn two_packets ∷ []) (HandedIn two_packets ∷ []) → ⊥
whole_no_part p =
    let e = part_in (HandedIn two_packets ∷ []) (HandedIn two_packets ∷ []) p two_packets (inl refl) in
    let low = e.short.1 in
    omega (arith, low)

pub initial_left_out : IsPartOf [] (HandedOut initial_part ∷ [])
initial_left_out = initial [] [] initial_part (record { first = 195; body = _; is = initial_form }) none

pub data_not_left_out : IsPartOf [] (HandedOut forged ∷ []) → ⊥
data_not_left_out p =
    elim (part_out [] (HandedOut forged ∷ []) p forged (inl refl)) [
      | inl n ↦ n
      | inr a ↦
          let first : 67 ≡ a.first = ap (λ (z : List ℕ). get_or z 0 0) a.is.whole in
          let long = a.is.long_header in
          omega (arith, first, long)
    ]
