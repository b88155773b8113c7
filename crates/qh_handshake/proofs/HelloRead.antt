-- What becomes of the bytes of the peer's hello.
use Rattle.std.proofs.Common.{◌≡◌, ◌⊎◌, ◌≤◌, ℕ, true, false, List, [], ◌++◌, Option, Some, None, length, refl, sym, ap, ◌∙◌, inl, inr, subst}
use Rattle.std.specs.Prelude.{is_some}
use Rattle.qh_base.specs.TransportFault.{IsFault}
use Rattle.qh_base.specs.declared.connection_error.ConnectionError.{ConnectionError}
use Rattle.qh_base.specs.declared.connection_error.ConnectionError.TheVariants.{Memory as Wanting, TransportError as Fault}
use Rattle.qh_base.specs.declared.transport_error.TransportError.{TransportError}
use Rattle.qh_handshake.specs.Handshake.{dropping, ids_used}
use Rattle.qh_handshake.specs.Incoming.{IsHelloRead, IsHelloThere}
use Rattle.qh_handshake.specs.Incoming.IsHelloRead.{at_client, at_server, known, refused}
use Rattle.qh_handshake.specs.Unread.{IsHelloUnread}
use Rattle.qh_handshake.specs.Unread.IsHelloUnread.{unread}
use Rattle.qh_handshake.specs.declared.handshake.Handshake.{Handshake}
use Rattle.qh_handshake.specs.declared.initial_space.HelloState.TheVariants.{Waits}
use Rattle.qh_handshake.specs.declared.initial_space.InitialSpace.{InitialSpace}
use Rattle.qh_hello.specs.Greetings.{greeting}
use Rattle.qh_hello.specs.Parts.{IsHelloForm}
use Rattle.qh_hello.specs.Refusals.{IsRefused, fault_of}
use Rattle.qh_hello.specs.declared.hello.HelloError.{HelloError}
use Rattle.qh_hello.specs.declared.hello.HelloError.TheVariants as hello_error
use Rattle.qh_hello.specs.declared.hello.HelloFault.{HelloFault}
use Rattle.qh_hello.specs.declared.transport_parameters.TransportParameters.{TransportParameters}
use Rattle.qh_spec.specs.Codes as codes
use Rattle.qh_spec.specs.Hello.{hello_bytes, hello_of}
use Rattle.qh_spec.specs.HelloFaults.{LongName}
use Rattle.qh_spec.specs.Link.{other}
use Rattle.qh_spec.specs.declared.sides.Side.TheVariants.{Client, Server}

there : {A : Type 0} (o : Option A) → true ≡ is_some o → (x : A) × (o ≡ Some x)
there None e = absurd (cc)
there (Some x) e = (x, refl)

pub none_there : {A : Type 0} (o : Option A) → false ≡ is_some o → o ≡ None
none_there None e = refl
none_there (Some x) e = absurd (cc)

-- its name is short
pub name_fits : (h : Handshake) (name : List ℕ) (p : TransportParameters) → IsHelloThere h name p → length name ≤ 255
name_fits h name p t = subst (λ (n : List ℕ). length n ≤ 255) t.read.says.server_name (t.read.is.keeps LongName)

-- it was read before
pub read_before : (h : Handshake) → true ≡ is_some h.peer → IsHelloRead h h None None
read_before h e = let p = there h.peer e in known p.0 p.1 refl

-- a client was greeted
pub client_read : (h mid new : Handshake) (name : List ℕ) (p : TransportParameters) → IsHelloThere h name p → h.side ≡ Client → new ≡ mid → mid ≡ record (dropping h) { peer = Some p }
    → IsHelloRead h new None None
client_read h mid new name p t side same left = at_client name p t side (same ∙ left)

-- a server's own hello is to be sent
pub server_read : (h mid new : Handshake) (name : List ℕ) (p : TransportParameters) (hello : List ℕ) → IsHelloThere h name p → h.side ≡ Server → hello ≡ hello_bytes (hello_of (greeting Server [] h.parameters))
    → new ≡ mid → ((s : InitialSpace) → h.space ≡ Some s → mid ≡ record h { peer = Some p; space = Some (record s { hello = hello; state = Waits }) }) → IsHelloRead h new (Some name) None
server_read h mid new name p hello t side is same answered =
    at_server t.space name p t side t.space_is
    (same ∙ answered t.space t.space_is ∙ ap (λ (bytes : List ℕ). record h { peer = Some p; space = Some (record t.space { hello = bytes; state = Waits }) }) is)

-- it is refused, or memory is wanting
pub read_refused : (h : Handshake) (s : InitialSpace) (front rest : List ℕ) (error : HelloError) (e : ConnectionError) → h.space ≡ Some s → h.peer ≡ None → s.crypto.bytes ≡ front ++ rest → IsHelloForm front
    → IsRefused (other h.side) (ids_used h) front error
    → ((f : HelloFault) → error ≡ hello_error.Fault f → (t : TransportError) × (e ≡ Fault t) × IsFault codes.transport_parameter_error None t) → (error ≡ hello_error.Memory → e ≡ Wanting)
    → (e ≡ Wanting) ⊎ IsHelloRead h h None (Some e)
read_refused h s front rest (hello_error.Fault f) e space fresh whole form r says wants =
    let told = says f refl in
    inr (rw told.1 (refused s front rest (fault_of f) told.0 space fresh whole form r told.2 refl))
read_refused h s front rest hello_error.Memory e space fresh whole form r says wants = inl (wants refl)

-- memory is wanting only for one of which it isn't known whether it is at fault
pub read_wanting : (h : Handshake) (s : InitialSpace) (front rest : List ℕ) (error : HelloError) (e : ConnectionError) → h.space ≡ Some s → h.peer ≡ None → s.crypto.bytes ≡ front ++ rest → IsHelloForm front
    → IsRefused (other h.side) (ids_used h) front error
    → ((f : HelloFault) → error ≡ hello_error.Fault f → (t : TransportError) × (e ≡ Fault t) × IsFault codes.transport_parameter_error None t) → e ≡ Wanting → IsHelloUnread h
read_wanting h s front rest (hello_error.Fault f) e space peer whole form r says wanting =
    let told = says f refl in
    absurd (let both : Fault told.0 ≡ Wanting = sym told.1 ∙ wanting in cc)
read_wanting h s front rest hello_error.Memory e space peer whole form r says wanting = unread s front rest space peer whole form r
