-- Which hellos came, and in which order the ends of a pair greeted.
use Rattle.std.proofs.Common.{◌≡◌, ◌⊎◌, inl, inr, ◌-◌, ℕ, Bool, true, false, List, [], Option, Some, None, length, refl, sym, ◌∙◌, ap, subst, append-nil, arith}
use Rattle.std.specs.Prelude.{is_some, slice_get}
use Rattle.std.proofs.lemmas.Option.{same_Some}
use Rattle.qh_conn.specs.declared.config.ConnConfig.{ConnConfig}
use Rattle.qh_converse.proofs.ShakeLaws.{shake_in, shake_out, short_behind}
use Rattle.qh_converse.specs.Converses.{IsPeerLength}
use Rattle.qh_handshake.proofs.PeerHellos.{behind_none, front_is, its_form}
use Rattle.qh_handshake.specs.Follows.{Follows, IsGreetedWith}
use Rattle.qh_handshake.specs.Incoming.{IsBehind}
use Rattle.qh_handshake.specs.declared.handshake.Handshake.{Handshake}
use Rattle.qh_hello.proofs.Fronts.{form_of_hello}
use Rattle.qh_hello.specs.Greetings.{SaysGreeting, greeting, limits_of}
use Rattle.qh_hello.specs.declared.transport_parameters.TransportParameters.{TransportParameters}
use Rattle.qh_spec.proofs.EventLaws.{honest_all}
use Rattle.qh_spec.proofs.GreetedLaws.{whole_more}
use Rattle.qh_spec.proofs.HelloFaultLaws.{one_hello}
use Rattle.qh_spec.proofs.HelloLaws.{hello_written, one_limits, one_number, one_size}
use Rattle.qh_spec.proofs.HelloWritten.{has_spelling, says_datagram, says_id_limit, says_idle, says_limits, source_value}
use Rattle.qh_spec.specs.Greeted.{CarriesHello}
use Rattle.qh_spec.specs.Hello.{Hello, IsHelloOf, hello_bytes, hello_of}
use Rattle.qh_spec.specs.Honest.{IsHonest}
use Rattle.qh_spec.specs.Link.{other, given_to, sent_by}
use Rattle.qh_spec.specs.Lists.{In}
use Rattle.qh_spec.specs.ParameterIds as parameter_ids
use Rattle.qh_spec.specs.Transcript.{Act, handed_in, handed_out}
use Rattle.qh_spec.specs.declared.link.Event.{Event}
use Rattle.qh_spec.specs.declared.sides.Side.{Side}
use Rattle.qh_spec.specs.declared.sides.Side.TheVariants.{Client, Server}
use Rattle.qh_pair.specs.Ends.{End, IsEndOf, Stands, own_id}
use Rattle.qh_pair.specs.Hellos.{AreGreetedAsSet, AreSaidAsSet, HaveIdsOfLength, IsAsSet}
use Rattle.qh_pair.specs.Pair.{EndAt}
use Rattle.qh_pair.specs.declared.ends.Ids.{Ids}
use Rattle.qh_pair.proofs.Dropped.{dropped_in, in_sends_none, in_since, out_since}
use Rattle.qh_pair.proofs.EndNew.{said_datagram, said_idle, said_ids, said_limits, said_source}
use Rattle.qh_pair.proofs.Wire.{sent_was_told, told_nearly}

-- ---- a hello that an end says

-- each byte of a hello that came is the end's, if it handed out what came
its_byte : (m : ℕ) (hello : List ℕ) (q : Handshake) (shake : List Act) (datagrams : List (List ℕ)) (k byte : ℕ) → Follows hello q shake
    → ((d : List ℕ) → In d datagrams → In d (handed_out shake) ⊎ IsBehind d) → CarriesHello m datagrams q.side k byte → slice_get hello k ≡ Some byte
its_byte m hello q shake datagrams k byte follows came c =
    let of = c.has.of in
    elim (came of.datagram of.among) as (λ _. slice_get hello k ≡ Some byte) [
      | inr none ↦ absurd (behind_none m of.packet of.datagram none of.has of.space_is)
      | inl out ↦
          let says = follows.says m c.from c.payload (record {
            of = record { datagram = of.datagram; among = out; packet = of.packet; has = of.has; space_is = of.space_is; sender_is = of.sender_is };
            frame_among = c.has.frame_among;
          }) in
          let offset : k - c.from ≡ k = omega (arith, says.0) in
          let at : slice_get c.payload k ≡ Some byte = subst (λ (n : ℕ). slice_get c.payload n ≡ Some byte) offset c.byte_is in
          subst (λ (z : List ℕ). slice_get z k ≡ Some byte) says.1 at
    ]

-- what it says of its id, its idle time, its first limits, the ids and the datagrams that it takes is what its own parameters have
its_parameters : (m : ℕ) (hello : List ℕ) (q : Handshake) (shake : List Act) (datagrams : List (List ℕ)) (p : TransportParameters) → Follows hello q shake
    → ((d : List ℕ) → In d datagrams → In d (handed_out shake) ⊎ IsBehind d) → IsGreetedWith m datagrams q.side p
    → (p.initial_source_connection_id ≡ q.parameters.initial_source_connection_id) × (p.max_idle_timeout ≡ q.parameters.max_idle_timeout) × (limits_of p ≡ limits_of q.parameters)
    × (p.active_connection_id_limit ≡ q.parameters.active_connection_id_limit) × (p.max_datagram_frame_size ≡ q.parameters.max_datagram_frame_size)
its_parameters m hello q shake datagrams p follows came of =
    let said = follows.own in
    let g = greeting q.side said.name q.parameters in
    let bytes = of.carried.bytes in
    let has : (k byte : ℕ) → slice_get bytes k ≡ Some byte → slice_get hello k ≡ Some byte = λ k byte at. its_byte m hello q shake datagrams k byte follows came (of.carried.all k byte at) in
    let whole : bytes ≡ hello = front_is hello bytes bytes [] (its_form hello q.side q.parameters said) (sym (append-nil bytes)) (form_of_hello bytes of.hello of.carried.is.0) has in
    let read : IsHelloOf q.side (hello_bytes (hello_of g)) of.hello = subst (λ (z : List ℕ). IsHelloOf q.side z of.hello) (whole ∙ said.is) of.carried.is in
    let same : of.hello ≡ hello_of g = one_hello q.side (hello_bytes (hello_of g)) of.hello (hello_of g) read (hello_written (hello_of g) (has_spelling g said.sayable), refl) in
    let known : SaysGreeting (hello_of g) (greeting q.side of.name p) = subst (λ (z : Hello). SaysGreeting z (greeting q.side of.name p)) same of.says in (
      same_Some p.initial_source_connection_id q.parameters.initial_source_connection_id (sym known.source_id ∙ source_value g),
      one_number parameter_ids.max_idle_timeout 0 p.max_idle_timeout q.parameters.max_idle_timeout (hello_of g) known.idle (says_idle g said.sayable),
      one_limits (hello_of g) (limits_of p) (limits_of q.parameters) known.limits (says_limits g said.sayable),
      one_number parameter_ids.active_connection_id_limit 2 p.active_connection_id_limit q.parameters.active_connection_id_limit (hello_of g) known.id_limit (says_id_limit g said.sayable),
      one_size (hello_of g) p.max_datagram_frame_size q.parameters.max_datagram_frame_size known.datagram (says_datagram g said.sayable),
    )

-- no datagram carries no hello
pub none_greets : (m : ℕ) (side : Side) (p : TransportParameters) (datagrams : List (List ℕ)) → ((d : List ℕ) → In d datagrams → ⊥) → IsGreetedWith m datagrams side p → ⊥
none_greets m side p datagrams none of =
    let form = form_of_hello of.carried.bytes of.hello of.carried.is.0 in
    let has = (of.carried.all 0 form.first (ap (λ (z : List ℕ). slice_get z 0) form.whole)).has in
    none has.of.datagram has.of.among

greeted_more : (m : ℕ) (side : Side) (p : TransportParameters) (xs ys : List (List ℕ)) → ((d : List ℕ) → In d xs → In d ys) → IsGreetedWith m xs side p → IsGreetedWith m ys side p
greeted_more m side p xs ys each of = record { hello = of.hello; name = of.name; carried = whole_more m xs ys side of.hello each of.carried; says = of.says }

-- ---- of the ends of a pair

side_of : (side : Side) (ids : Ids) (config : ConnConfig) (c : End) → IsEndOf side ids config c → c.handshake.side ≡ side
side_of side ids config c of = sym of.whole.sound.side_is ∙ of.side_is

-- what an end says is as it is set
pub says_as_set : (side : Side) (ids : Ids) (config : ConnConfig) (o : Option End) (u : List Act) (datagrams : List (List ℕ)) (p : TransportParameters) (m : ℕ) → Stands side ids config o u
    → ((d : List ℕ) → In d datagrams → In d (handed_out u)) → IsGreetedWith m datagrams side p → IsAsSet (length ids.client) config p
says_as_set side ids config None u datagrams p m s each of =
    absurd (none_greets m side p datagrams (λ d i. subst (λ (z : List (List ℕ)). In d z) (in_sends_none u (dropped_in side u s)) (each d i)) of)
says_as_set side ids config (Some q) u datagrams p m s each of =
    let since = s.1 in
    let shook : (d : List ℕ) → In d datagrams → In d (handed_out since.stands.shake) ⊎ IsBehind d = λ d i.
    elim (shake_out since.stands.shake since.since since.stands.is_shake d
    (subst (λ (z : List (List ℕ)). In d z) (ap handed_out since.are ∙ out_since since.before since.since (dropped_in side since.before since.dropped)) (each d i)))
    as (λ _. In d (handed_out since.stands.shake) ⊎ IsBehind d) [ inl h ↦ inl h | inr short ↦ inr (short_behind d short) ] in
    let has = its_parameters m since.hello q.handshake since.stands.shake datagrams p since.stands.follows shook
    (subst (λ (z : Side). IsGreetedWith m datagrams z p) (sym (side_of side ids config q s.0)) of) in
    record {
      source = ap length (has.0 ∙ said_source config side (own_id side ids) ids.key q.handshake.parameters s.0.said) ∙ s.0.as_long;
      idle = has.1 ∙ said_idle config side (own_id side ids) ids.key q.handshake.parameters s.0.said;
      limits = has.2 ∙ said_limits config side (own_id side ids) ids.key q.handshake.parameters s.0.said;
      id_limit = has.3 ∙ said_ids config side (own_id side ids) ids.key q.handshake.parameters s.0.said;
      datagram = has.4 ∙ said_datagram config side (own_id side ids) ids.key q.handshake.parameters s.0.said;
    }

-- what an end knows of its peer came to it
pub came_with : (side : Side) (ids : Ids) (config : ConnConfig) (c : End) (t : List Act) (events : List Event) (p : TransportParameters) (m : ℕ) → Stands side ids config (Some c) t
    → ((d : List ℕ) → In d (handed_in t) → In d (given_to side events)) → c.handshake.peer ≡ Some p → IsGreetedWith m (given_to side events) (other side) p
came_with side ids config c t events p m s each known =
    let since = s.1 in
    subst (λ (z : Side). IsGreetedWith m (given_to side events) (other z) p) (side_of side ids config c s.0)
    (greeted_more m (other c.handshake.side) p (handed_in since.stands.shake) (given_to side events)
    (λ d i. each d (subst (λ (z : List Act). In d (handed_in z)) (sym since.are)
    (in_since since.before since.since d (subst (λ (z : List (List ℕ)). In d z) (shake_in since.stands.shake since.since since.stands.is_shake) i))))
    (since.stands.follows.greeted p m known))

length_by : (o : Option TransportParameters) (c : End) (k : ℕ) → c.handshake.peer ≡ o → ((p : TransportParameters) → c.handshake.peer ≡ Some p → k ≡ length c.handshake.remote_id) → IsPeerLength c.handshake k
length_by None c k e is greeted = absurd (let f : is_some c.handshake.peer ≡ true = greeted in let g : is_some c.handshake.peer ≡ false = ap is_some e in cc)
length_by (Some p) c k e is greeted = is p e

-- the ids of its peer are of the pair's length, as far as it knows that, if the hellos that came say so
pub length_set : (side : Side) (ids : Ids) (config : ConnConfig) (c : End) (t : List Act) (events : List Event) → Stands side ids config (Some c) t
    → ((d : List ℕ) → In d (handed_in t) → In d (given_to side events)) → HaveIdsOfLength (length ids.client) events → IsPeerLength c.handshake (length ids.client)
length_set side ids config c t events s each set =
    length_by c.handshake.peer c (length ids.client) refl
    (λ p known. sym (set side p (came_with side ids config c t events p (length ids.client) s each known)) ∙ ap length (s.1.stands.follows.sourced p known).0)

-- over an honest link they say so
pub honest_as_set : (w v : Bool) (ids : Ids) (config : ConnConfig) (client server : Option End) (events : List Event) (t u : List Act) → IsHonest events
    → EndAt w Client ids config client events t → EndAt v Server ids config server events u → AreGreetedAsSet (length ids.client) config events
honest_as_set w v ids config client server events t u honest c s Client p of =
    says_as_set Server ids config server u (given_to Client events) p (length ids.client) s.stands
    (λ d i. sent_was_told Server events u (told_nearly v Server events u s.told) d (honest_all Client d events honest i)) of
honest_as_set w v ids config client server events t u honest c s Server p of =
    says_as_set Client ids config client t (given_to Server events) p (length ids.client) c.stands
    (λ d i. sent_was_told Client events t (told_nearly w Client events t c.told) d (honest_all Server d events honest i)) of

pub set_ids : (k : ℕ) (config : ConnConfig) (events : List Event) → AreGreetedAsSet k config events → HaveIdsOfLength k events
set_ids k config events set side p of = (set side p of).source

-- each hello that an end said whole is so, over any link
said_at : (w : Bool) (side : Side) (ids : Ids) (config : ConnConfig) (end : Option End) (events : List Event) (t : List Act) (p : TransportParameters) → EndAt w side ids config end events t
    → IsGreetedWith (length ids.client) (sent_by side events) side p → IsAsSet (length ids.client) config p
said_at w side ids config end events t p at of =
    says_as_set side ids config end t (sent_by side events) p (length ids.client) at.stands (λ d i. sent_was_told side events t (told_nearly w side events t at.told) d i) of

pub said_as_set : (w v : Bool) (ids : Ids) (config : ConnConfig) (client server : Option End) (events : List Event) (t u : List Act)
    → EndAt w Client ids config client events t → EndAt v Server ids config server events u → AreSaidAsSet (length ids.client) config events
said_as_set w v ids config client server events t u c s Client p of = said_at w Client ids config client events t p c of
said_as_set w v ids config client server events t u c s Server p of = said_at v Server ids config server events u p s of
