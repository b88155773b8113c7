-- Attempts that wait, with what is kept for them.
use Rattle.std.proofs.Common.{◌≡◌, ◌↔◌, ℕ, ◌+◌, ◌≤◌, ◌++◌, ◌∷◌, Bool, true, false, List, [], length, Option, Some, None, Result, Ok, Err, OnOk, OnErr, IfOk, IfErr, IsTrue, refl, ap, subst, ◌∙◌}
use Rattle.std.specs.Prelude.{IsSomeAnd, is_some, is_err, not}
use Rattle.std.specs.declared.net.socket_addr.SocketAddr.{SocketAddr}
use Rattle.qh_attempts.specs.Attempts.{HasInstead, HasRoom, IsPending, PlainAttempt, PlainBuffers, attempt_at, attempt_count, total_bytes}
use Rattle.qh_attempts.specs.declared.incoming_buffers.AttemptKey.{AttemptKey}
use Rattle.qh_base.specs.declared.time.Moment.{Moment}
use Rattle.qh_endpoint.specs.Endpoint.{PlainEndpoint}
use Rattle.qh_endpoint.specs.Handled.{IsKept, kept, dropped}
use Rattle.qh_connections.specs.Connections.{PlainConnections}
use Rattle.qh_endpoint.specs.declared.incoming.Waiting.{Waiting}

pub held : {A : Type 0} (o : Option A) (P : A → Type 0) → IsSomeAnd o P → (a : A) × (o ≡ Some a)
held None P h = absurd h
held (Some a) P h = (a, refl)

pub is_absent : {A : Type 0} (o : Option A) (b : Bool) → is_some o ≡ not b → b ≡ true → o ≡ None
is_absent None b e t = refl
is_absent (Some a) b e t = cc

pub is_there : {A : Type 0} (o : Option A) (b : Bool) → is_some o ≡ not b → b ≡ false → (a : A) × (o ≡ Some a)
is_there None b e t = absurd (cc)
is_there (Some a) b e t = (a, refl)

pub when_ok : {A E : Type 0} (r : Result A E) (P : Type 0) → false ≡ is_err r → OnOk r P → P
when_ok (Ok a) P e h = h
when_ok (Err x) P e h = absurd (cc)

module _ {K G R T : Type 0} (key : ℕ) (now : Moment) (remote : SocketAddr) (datagram : List ℕ) (old new : PlainEndpoint K G R T) where
  pub keeps : (b : Bool) → (IsTrue b ↔ HasRoom old.incoming key (length datagram))
      → ((a : PlainAttempt Waiting) → b ≡ true → attempt_at old.incoming key ≡ Some a
      → HasInstead old.incoming new.incoming key (Some (record a { datagrams = a.datagrams ++ record { now = now; remote = remote; payload = datagram } ∷ [] })))
      → new.incoming.numbered ≡ old.incoming.numbered → attempt_count new.incoming ≡ attempt_count old.incoming → (b ≡ true → total_bytes new.incoming ≡ total_bytes old.incoming + length datagram)
      → (b ≡ false → new.incoming ≡ old.incoming) → new ≡ record old { incoming = new.incoming } → IsKept key now remote datagram old new
  keeps true room put numbered count bytes same rest =
      let a = held (attempt_at old.incoming key) _ (room.0 refl) in
      kept a.0 (room.0 refl) a.1 (put a.0 refl a.1) numbered count (bytes refl) rest
  keeps false room put numbered count bytes same rest = dropped (λ h. let is = room.1 h in cc) (rest ∙ ap (λ (i : PlainBuffers Waiting). record old { incoming = i }) (same refl))

-- only the routes differ
pub only_routes : {K G R T : Type 0} (old : PlainEndpoint K G R T) (incoming : PlainBuffers Waiting) (connections : PlainConnections G) → connections ≡ record old.connections { routes = connections.routes }
    → record old { incoming = incoming; connections = connections } ≡ record old { incoming = incoming; connections = record old.connections { routes = connections.routes } }
only_routes {G = G} old incoming connections e = ap (λ (n : PlainConnections G). record old { incoming = incoming; connections = n }) e

-- an attempt that waits by a key has the number of its name
pub waits_as : (b : PlainBuffers Waiting) (k : AttemptKey) (a : PlainAttempt Waiting) → attempt_at b k.key ≡ Some a → IsPending b k → a.number ≡ k.number
waits_as b k a is p = subst (λ (o : Option (PlainAttempt Waiting)). IsSomeAnd o (λ (x : PlainAttempt Waiting). x.number ≡ k.number)) is p

pub ok_so : {A E : Type 0} (r : Result A E) (P Q : Type 0) → (P → Q) → OnOk r P → OnOk r Q
ok_so (Ok a) P Q f h = f h
ok_so (Err x) P Q f h = h

pub if_ok : {A E : Type 0} (r : Result A E) (P Q : A → Type 0) → ((a : A) → P a → Q a) → IfOk r P → IfOk r Q
if_ok (Ok a) P Q f h = f a h
if_ok (Err x) P Q f h = h

pub if_err : {A E : Type 0} (r : Result A E) (P Q : E → Type 0) → ((e : E) → P e → Q e) → IfErr r P → IfErr r Q
if_err (Ok a) P Q f h = h
if_err (Err x) P Q f h = f x h

-- what holds holds of an error
pub on_err : {A E : Type 0} (r : Result A E) {P : Type 0} → P → OnErr r P
on_err (Ok a) p = tt
on_err (Err x) p = p

-- an attempt that waits
pub waits_there : (b : PlainBuffers Waiting) (k : AttemptKey) → IsPending b k → (a : PlainAttempt Waiting) × (attempt_at b k.key ≡ Some a)
waits_there b k p = held (attempt_at b k.key) _ p

pub if_ok_both : {A E : Type 0} (r : Result A E) (P Q R : A → Type 0) → ((a : A) → P a → Q a → R a) → IfOk r P → IfOk r Q → IfOk r R
if_ok_both (Ok a) P Q R f p q = f a p q
if_ok_both (Err x) P Q R f p q = p

pub err_at_server : {A E C : Type 0} (r : Result A E) (o : Option C) (size : ℕ) → (c : C) × (o ≡ Some c) → 1200 ≤ size → OnErr r ((c : C) × (o ≡ Some c) × (1200 ≤ size))
err_at_server (Ok a) o size there large = tt
err_at_server (Err x) o size there large = (there.0, there.1, large)
