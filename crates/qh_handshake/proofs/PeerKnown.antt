-- What an end knows of its honest peer is what the peer says (RFC 9000, sections 7 and 7.3).
use Rattle.std.proofs.Common.{◌≡◌, ℕ, List, [], Option, Some, None, refl, sym, ap, subst, ◌∙◌}
use Rattle.std.proofs.lemmas.List.{append-nil}
use Rattle.std.proofs.lemmas.Option.{none-some, same_Some}
use Rattle.std.specs.Prelude.{slice_get}
use Rattle.qh_base.specs.declared.shared.ResetToken.{ResetToken}
use Rattle.qh_handshake.proofs.PeerHellos.{front_is, its_form, same_byte}
use Rattle.qh_handshake.specs.Peers.{IsPeer}
use Rattle.qh_handshake.specs.declared.handshake.Handshake.{Handshake}
use Rattle.qh_hello.proofs.Fronts.{form_of_hello}
use Rattle.qh_hello.specs.Greetings.{SaysGreeting, greeting, limits_of, token_of}
use Rattle.qh_hello.specs.declared.transport_parameters.TransportParameters.{TransportParameters}
use Rattle.qh_spec.proofs.HelloFaultLaws.{one_hello}
use Rattle.qh_spec.proofs.HelloLaws.{hello_written, one_limits, one_number, one_size}
use Rattle.qh_spec.proofs.HelloWritten.{has_spelling, original_value, retry_value, says_datagram, says_id_limit, says_idle, says_limits, source_value, token_value}
use Rattle.qh_spec.specs.Greeted.{CarriesHello}
use Rattle.qh_spec.specs.Hello.{FirstLimits, Greeting, Hello, IsHelloOf, IsSayable, hello_bytes, hello_of}
use Rattle.qh_spec.specs.Link.{other}
use Rattle.qh_spec.specs.ParameterIds as parameter_ids
use Rattle.qh_spec.specs.Transcript.{Act, handed_in}
use Rattle.qh_spec.specs.declared.sides.Side.{Side}

-- ---- a hello says one greeting's parameters

same_token : (a b : Option ResetToken) → token_of a ≡ token_of b → a ≡ b
same_token None None e = refl
same_token None (Some b) e = absurd (none-some b.0 e)
same_token (Some a) None e = absurd (none-some a.0 (sym e))
same_token (Some a) (Some b) e = ap (λ (z : List ℕ). let t : ResetToken = record { 0 = z } in Some t) (same_Some a.0 b.0 e)

abbrev with_all : Option (List ℕ) → ℕ → Option ResetToken → FirstLimits → ℕ → List ℕ → Option (List ℕ) → Option ℕ → TransportParameters
with_all original idle token limits ids source retry size = record {
  original_destination_connection_id = original;
  max_idle_timeout = idle;
  stateless_reset_token = token;
  initial_max_data = limits.max_data;
  initial_max_stream_data_bidi_local = limits.bidi_local;
  initial_max_stream_data_bidi_remote = limits.bidi_remote;
  initial_max_stream_data_uni = limits.uni;
  initial_max_streams_bidi = limits.max_bidi;
  initial_max_streams_uni = limits.max_uni;
  active_connection_id_limit = ids;
  initial_source_connection_id = source;
  retry_source_connection_id = retry;
  max_datagram_frame_size = size;
}

same_parameters : (h : Hello) (side : Side) (name other_name : List ℕ) (p q : TransportParameters) → SaysGreeting h (greeting side name p) → SaysGreeting h (greeting side other_name q) → p ≡ q
same_parameters h side name other_name p q a b =
    let limits : limits_of p ≡ limits_of q = one_limits h (limits_of p) (limits_of q) a.limits b.limits in
    let original : p.original_destination_connection_id ≡ q.original_destination_connection_id = sym a.original_id ∙ b.original_id in
    let idle : p.max_idle_timeout ≡ q.max_idle_timeout = one_number parameter_ids.max_idle_timeout 0 p.max_idle_timeout q.max_idle_timeout h a.idle b.idle in
    let token : p.stateless_reset_token ≡ q.stateless_reset_token = same_token p.stateless_reset_token q.stateless_reset_token (sym a.reset_token ∙ b.reset_token) in
    let ids : p.active_connection_id_limit ≡ q.active_connection_id_limit =
    one_number parameter_ids.active_connection_id_limit 2 p.active_connection_id_limit q.active_connection_id_limit h a.id_limit b.id_limit in
    let source : p.initial_source_connection_id ≡ q.initial_source_connection_id = same_Some p.initial_source_connection_id q.initial_source_connection_id (sym a.source_id ∙ b.source_id) in
    let retry : p.retry_source_connection_id ≡ q.retry_source_connection_id = sym a.retry_id ∙ b.retry_id in
    let size : p.max_datagram_frame_size ≡ q.max_datagram_frame_size = one_size h p.max_datagram_frame_size q.max_datagram_frame_size a.datagram b.datagram in
    let all : ◌≡◌ {A = Option (List ℕ) × ℕ × Option ResetToken × FirstLimits × ℕ × List ℕ × Option (List ℕ) × Option ℕ}
    (p.original_destination_connection_id, p.max_idle_timeout, p.stateless_reset_token, limits_of p, p.active_connection_id_limit, p.initial_source_connection_id, p.retry_source_connection_id, p.max_datagram_frame_size)
    (q.original_destination_connection_id, q.max_idle_timeout, q.stateless_reset_token, limits_of q, q.active_connection_id_limit, q.initial_source_connection_id, q.retry_source_connection_id, q.max_datagram_frame_size) = cc in
    ap (λ (z : Option (List ℕ) × ℕ × Option ResetToken × FirstLimits × ℕ × List ℕ × Option (List ℕ) × Option ℕ). with_all z.0 z.1 z.2 z.3 z.4 z.5 z.6 z.7) all

-- ---- and that of an honest end is its own

says_own : (g : Greeting) → IsSayable g → SaysGreeting (hello_of g) g
says_own g s = record {
  sender = refl;
  server_name = refl;
  limits = says_limits g s;
  idle = says_idle g s;
  id_limit = says_id_limit g s;
  datagram = says_datagram g s;
  source_id = source_value g;
  original_id = original_value g;
  retry_id = retry_value g;
  reset_token = token_value g;
}

pub same_said : (own_hello peer_hello : List ℕ) (own peer : Handshake) (q : TransportParameters) (t u : List Act) → IsPeer own_hello peer_hello own peer t u → own.peer ≡ Some q → q ≡ peer.parameters
same_said own_hello peer_hello own peer q t u p is =
    let said = p.peer_follows.own in
    let g = greeting peer.side said.name peer.parameters in
    let of = p.own_follows.greeted q 0 is in
    let bytes = of.carried.bytes in
    let came : (k byte : ℕ) → slice_get bytes k ≡ Some byte → slice_get peer_hello k ≡ Some byte = λ k byte at. same_byte peer_hello peer u (handed_in t) k byte p.peer_follows p.came
    (subst (λ (z : Side). CarriesHello 0 (handed_in t) z k byte) (sym p.side_is) (of.carried.all k byte at)) in
    let whole : bytes ≡ peer_hello = front_is peer_hello bytes bytes [] (its_form peer_hello peer.side peer.parameters said) (sym (append-nil bytes)) (form_of_hello bytes of.hello of.carried.is.0) came in
    let read : IsHelloOf (other own.side) (hello_bytes (hello_of g)) of.hello = subst (λ (z : List ℕ). IsHelloOf (other own.side) z of.hello) (whole ∙ said.is) of.carried.is in
    let same : of.hello ≡ hello_of g = one_hello (other own.side) (hello_bytes (hello_of g)) of.hello (hello_of g) read (hello_written (hello_of g) (has_spelling g said.sayable), p.side_is) in
    let known : SaysGreeting (hello_of g) (greeting peer.side of.name q) =
    subst (λ (z : Side). SaysGreeting (hello_of g) (greeting z of.name q)) (sym p.side_is) (subst (λ (z : Hello). SaysGreeting z (greeting (other own.side) of.name q)) same of.says) in
    same_parameters (hello_of g) peer.side of.name said.name q peer.parameters known (says_own g said.sayable)

-- the peer's packets come from the id that it says
pub same_source : (own_hello peer_hello : List ℕ) (own peer : Handshake) (q : TransportParameters) (t u : List Act) → IsPeer own_hello peer_hello own peer t u → own.peer ≡ Some q
    → peer.parameters.initial_source_connection_id ≡ own.remote_id
same_source own_hello peer_hello own peer q t u p is =
    ap (λ (z : TransportParameters). z.initial_source_connection_id) (sym (same_said own_hello peer_hello own peer q t u p is)) ∙ (p.own_follows.sourced q is).0
