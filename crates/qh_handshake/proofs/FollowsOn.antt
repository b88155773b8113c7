-- How a handshake stands to all that was done with it at first, and once something passed by itself.
use Rattle.std.proofs.Common.{◌≡◌, ◌⊎◌, ℕ, ◌+◌, ◌<◌, Bool, true, false, List, [], ◌∷◌, ◌++◌, length, Option, Some, None, refl, sym, ap, subst, ◌∙◌, inl, inr, arith}
use Rattle.std.proofs.lemmas.Option.{none-some, same_Some}
use Rattle.qh_base.specs.declared.time.Moment.{Moment}
use Rattle.qh_handshake.specs.Follows.{Follows, HasInitial, IsFresh, IsItsHello}
use Rattle.qh_handshake.specs.Handshake.{IsHandshake, dropping, with_origin}
use Rattle.qh_handshake.specs.Moments.{AreLostByAge, IsProbed, IsTimedOut}
use Rattle.qh_handshake.specs.Moments.AreLostByAge.{due as some_lost, not_yet as no_loss}
use Rattle.qh_handshake.specs.Moments.IsProbed.{due as some_probe, not_yet as no_probe}
use Rattle.qh_handshake.specs.Moments.IsTimedOut.{gone, recovery}
use Rattle.qh_handshake.specs.Outgoing.{IsCloseUnsent, IsUnsent}
use Rattle.qh_handshake.specs.Outgoing.IsCloseUnsent.{same as close_unchanged, used as number_used}
use Rattle.qh_handshake.specs.Outgoing.IsUnsent.{same as unchanged, lost as packet_lost}
use Rattle.qh_handshake.specs.Receiving.{IsLossTaken}
use Rattle.qh_handshake.specs.Sending.{counted as counted_space}
use Rattle.qh_handshake.specs.Timers.{with_probe}
use Rattle.qh_handshake.specs.declared.handshake.Handshake.{Handshake}
use Rattle.qh_handshake.specs.declared.initial_space.HelloFrame.{HelloFrame}
use Rattle.qh_handshake.specs.declared.initial_space.HelloState.{HelloState}
use Rattle.qh_handshake.specs.declared.initial_space.HelloState.TheVariants.{Held, Waits, Out, Acked}
use Rattle.qh_handshake.specs.declared.initial_space.InitialSpace.{InitialSpace}
use Rattle.qh_hello.specs.Crypto.{PlainCrypto, came_at}
use Rattle.qh_hello.specs.Greetings.{greeting}
use Rattle.qh_hello.specs.declared.transport_parameters.TransportParameters.{TransportParameters}
use Rattle.qh_recovery.specs.Accepted.{Remembers}
use Rattle.qh_recovery.specs.PendingAcks.{PlainPendingAcks}
use Rattle.qh_recovery.specs.declared.sent_packets.SentPacket.{SentPacket}
use Rattle.qh_spec.specs.Greeted.{CarriesHello}
use Rattle.qh_spec.specs.Hello.{hello_bytes, hello_of}
use Rattle.qh_spec.specs.Link.{other}
use Rattle.qh_spec.specs.Lists.{In}
use Rattle.qh_spec.specs.Transcript.{Act, HandedOut, handed_in, handed_out}
use Rattle.qh_spec.specs.declared.sides.Side.{Side}
use Rattle.qh_spec.specs.declared.sides.Side.TheVariants.{Server}

-- what is said of the space, of a side that knows so much of its peer
pub record SpaceFollows (hello : List ℕ) (side : Side) (peer : Option TransportParameters) (s : InitialSpace) (t : List Act) : Type 0 where
  pub kept : ((side ≡ Server) × (peer ≡ None)) ⊎ (s.hello ≡ hello)
  pub came : (k byte id_length : ℕ) → came_at s.crypto k ≡ Some byte → CarriesHello id_length (handed_in t) (other side) k byte
  pub numbers : (id_length number : ℕ) → HasInitial id_length (handed_out t) side number → number < s.next_number
  pub accepted : (accepted : List ℕ) × Remembers accepted s.dedup × ((number id_length : ℕ) → In number accepted → HasInitial id_length (handed_in t) (other side) number)

pub space_of : (hello : List ℕ) (h : Handshake) (t : List Act) (s : InitialSpace) → h.space ≡ Some s → Follows hello h t → SpaceFollows hello h.side h.peer s t
space_of hello h t s is p = record {
  kept = p.kept s is;
  came = λ k byte id_length there. p.came s k byte id_length is there;
  numbers = λ id_length number has. p.numbers s id_length number is has;
  accepted = p.accepted s is;
}

-- the handshake with this space, if there is one, and with other ids and another token
abbrev pub with_others : Handshake → (remote_id : List ℕ) → (retry_id : Option (List ℕ)) → (token : List ℕ) → (knows_peer : Bool) → (space : Option InitialSpace) → Handshake
with_others h remote_id retry_id token knows_peer space = record h { remote_id = remote_id; retry_id = retry_id; token = token; knows_peer = knows_peer; space = space }

pub others_follow : (hello : List ℕ) (h : Handshake) (t : List Act) (remote_id : List ℕ) (retry_id : Option (List ℕ)) (token : List ℕ) (knows_peer : Bool) (space : Option InitialSpace)
    → ((p : TransportParameters) → h.peer ≡ Some p → (p.initial_source_connection_id ≡ remote_id) × (knows_peer ≡ true))
    → ((s : InitialSpace) → space ≡ Some s → SpaceFollows hello h.side h.peer s t) → Follows hello h t → Follows hello (with_others h remote_id retry_id token knows_peer space) t
others_follow hello h t remote_id retry_id token knows_peer space sourced of p = record {
  own = p.own;
  kept = λ s is. (of s is).kept;
  came = λ s k byte id_length is there. (of s is).came k byte id_length there;
  greeted = p.greeted;
  sourced = sourced;
  says = p.says;
  answers = p.answers;
  unsaid = p.unsaid;
  once = p.once;
  numbers = λ s id_length number is has. (of s is).numbers id_length number has;
  accepted = λ s is. (of s is).accepted;
  received = p.received;
  sent = p.sent;
  limit = p.limit;
}

-- one is as the other in what is said of them
pub record IsSameSpace (old new : InitialSpace) : Type 0 where
  pub hello : new.hello ≡ old.hello
  pub crypto : new.crypto ≡ old.crypto
  pub number : new.next_number ≡ old.next_number
  pub dedup : new.dedup ≡ old.dedup

pub same_by : (old new s : InitialSpace) → new ≡ s → IsSameSpace old s → IsSameSpace old new
same_by old new s e same = subst (λ (z : InitialSpace). IsSameSpace old z) (sym e) same

pub same_both : (old mid new : InitialSpace) → IsSameSpace old mid → IsSameSpace mid new → IsSameSpace old new
same_both old mid new a b = record { hello = b.hello ∙ a.hello; crypto = b.crypto ∙ a.crypto; number = b.number ∙ a.number; dedup = b.dedup ∙ a.dedup }

pub same_follows : (hello : List ℕ) (side : Side) (peer : Option TransportParameters) (old new : InitialSpace) (t : List Act) → IsSameSpace old new → SpaceFollows hello side peer old t
    → SpaceFollows hello side peer new t
same_follows hello side peer old new t same p = record {
  kept = elim p.kept [ inl none ↦ inl none | inr e ↦ inr (same.hello ∙ e) ];
  came = λ k byte id_length there. p.came k byte id_length (ap (λ (c : PlainCrypto). came_at c k) (sym same.crypto) ∙ there);
  numbers = λ id_length number has. subst (λ (n : ℕ). number < n) (sym same.number) (p.numbers id_length number has);
  accepted = (p.accepted.0, subst (λ (d : _). Remembers p.accepted.0 d) (sym same.dedup) p.accepted.1, p.accepted.2);
}

-- ---- before the first datagram

not_empty : (before after : List Act) (datagram : List ℕ) → [] ≡ before ++ HandedOut datagram ∷ after → ⊥
not_empty [] after d e = let l : 0 ≡ length (HandedOut d ∷ after) = ap length e in omega (arith, l)
not_empty (b ∷ before) after d e = let l : 0 ≡ length (b ∷ (before ++ HandedOut d ∷ after)) = ap length e in omega (arith, l)

pub fresh_follows : (hello : List ℕ) (h : Handshake) → IsFresh hello h → Follows hello h []
fresh_follows hello h f =
    let one = λ (s : InitialSpace) (is : h.space ≡ Some s). same_Some f.space s (sym f.space_is ∙ is) in
    record {
      own = f.own;
      kept = λ s is. elim f.kept [ inl server ↦ inl (server, f.ungreeted) | inr e ↦ inr (ap (λ (s : InitialSpace). s.hello) (sym (one s is)) ∙ e) ];
      came = λ s k byte id_length is there.
          absurd (none-some byte (ap (λ (c : PlainCrypto). came_at c k) (sym f.unused.crypto ∙ ap (λ (s : InitialSpace). s.crypto) (one s is)) ∙ there));
      greeted = λ p id_length is. absurd (none-some p (sym f.ungreeted ∙ is));
      sourced = λ p is. absurd (none-some p (sym f.ungreeted ∙ is));
      says = λ id_length from payload has. absurd has.of.among;
      answers = λ before after datagram e. absurd (not_empty before after datagram e);
      unsaid = λ server none id_length from payload has. absurd has.of.among;
      once = λ before after datagram e. absurd (not_empty before after datagram e);
      numbers = λ s id_length number is has. absurd has.among;
      accepted = λ s is. ([], subst (λ (s : InitialSpace). Remembers [] s.dedup) (one s is) f.unused.received, λ number id_length there. absurd there);
      received = f.received;
      sent = f.sent;
      limit = λ e. omega arith;
    }

-- ---- what is set before the first datagram

pub origin_fresh : (hello original : List ℕ) (retry : Option (List ℕ)) (is_validated : Bool) (h : Handshake) → h.side ≡ Server → IsFresh hello h → IsHandshake (with_origin h original retry is_validated)
    → IsFresh (hello_bytes (hello_of (greeting Server [] (with_origin h original retry is_validated).parameters))) (with_origin h original retry is_validated)
origin_fresh hello original retry is_validated h server f whole =
    let p = (with_origin h original retry is_validated).parameters in
    let own : IsItsHello (hello_bytes (hello_of (greeting Server [] p))) Server p = record { name = []; unnamed = λ e. refl; sayable = (whole.server server).2; is = refl } in
    record {
      own = subst (λ (side : Side). IsItsHello (hello_bytes (hello_of (greeting Server [] p))) side p) (sym server) own;
      space = f.space;
      space_is = f.space_is;
      kept = inl server;
      state = f.state;
      initial_rtt = f.initial_rtt;
      now = f.now;
      unused = f.unused;
      ungreeted = f.ungreeted;
      received = f.received;
      sent = f.sent;
    }

pub borne_fresh : (hello token : List ℕ) (h : Handshake) → IsFresh hello h → IsFresh hello (record h { token = token })
borne_fresh hello token h f = record {
  own = f.own;
  space = f.space;
  space_is = f.space_is;
  kept = f.kept;
  state = f.state;
  initial_rtt = f.initial_rtt;
  now = f.now;
  unused = f.unused;
  ungreeted = f.ungreeted;
  received = f.received;
  sent = f.sent;
}

-- ---- the space is dropped, or discarded

-- the counts that are kept of it say nothing here
pub without_counts : (hello : List ℕ) (h : Handshake) (t : List Act) → Follows hello (record h { space = None }) t → Follows hello (dropping h) t
without_counts hello h t p = record {
  own = p.own;
  kept = p.kept;
  came = p.came;
  greeted = p.greeted;
  sourced = p.sourced;
  says = p.says;
  answers = p.answers;
  unsaid = p.unsaid;
  once = p.once;
  numbers = p.numbers;
  accepted = p.accepted;
  received = p.received;
  sent = p.sent;
  limit = p.limit;
}

pub dropped_follows : (hello : List ℕ) (h : Handshake) (t : List Act) → Follows hello h t → Follows hello (dropping h) t
dropped_follows hello h t p = without_counts hello h t (others_follow hello h t h.remote_id h.retry_id h.token h.knows_peer None p.sourced (λ s is. absurd (none-some s is)) p)

pub discarded_follows : (hello : List ℕ) (h : Handshake) (t : List Act) → Follows hello h t → Follows hello (record (dropping h) { is_validated = true }) t
discarded_follows hello h t p = record {
  own = p.own;
  kept = λ s is. absurd (none-some s is);
  came = λ s k byte id_length is there. absurd (none-some s is);
  greeted = p.greeted;
  sourced = p.sourced;
  says = p.says;
  answers = p.answers;
  unsaid = p.unsaid;
  once = p.once;
  numbers = λ s id_length number is has. absurd (none-some s is);
  accepted = λ s is. absurd (none-some s is);
  received = p.received;
  sent = p.sent;
  limit = λ e. absurd (let no_way : true ≡ false = e in cc);
}

-- ---- memory is wanting for a datagram, or a packet number is used up by a close that isn't handed out

-- what becomes of the space if a packet is made
pub record IsNextSpace (s next : InitialSpace) : Type 0 where
  pub hello : next.hello ≡ s.hello
  pub crypto : next.crypto ≡ s.crypto
  pub dedup : next.dedup ≡ s.dedup
  pub number : next.next_number ≡ s.next_number + 1

pub next_space : (s : InitialSpace) (packet : SentPacket HelloFrame) (is_eliciting has_hello : Bool) (acks : PlainPendingAcks) (now : Moment)
    → IsNextSpace s (record (counted_space s packet is_eliciting has_hello) { acks = acks; last_active = now })
next_space s packet true has_hello acks now = record { hello = refl; crypto = refl; dedup = refl; number = refl }
next_space s packet false has_hello acks now = record { hello = refl; crypto = refl; dedup = refl; number = refl }

-- one number more is used up
next_follows : (hello : List ℕ) (side : Side) (peer : Option TransportParameters) (old new : InitialSpace) (t : List Act) → IsNextSpace old new → SpaceFollows hello side peer old t
    → SpaceFollows hello side peer new t
next_follows hello side peer old new t next p = record {
  kept = elim p.kept [ inl none ↦ inl none | inr e ↦ inr (next.hello ∙ e) ];
  came = λ k byte id_length there. p.came k byte id_length (ap (λ (c : PlainCrypto). came_at c k) (sym next.crypto) ∙ there);
  numbers = λ id_length number has. let below = p.numbers id_length number has in omega (arith, below, next.number);
  accepted = (p.accepted.0, subst (λ (d : _). Remembers p.accepted.0 d) (sym next.dedup) p.accepted.1, p.accepted.2);
}

-- with the space that it has then
used_follows : (hello : List ℕ) (old : Handshake) (s next : InitialSpace) (t : List Act) → old.space ≡ Some s → IsNextSpace s next → Follows hello old t → Follows hello (record old { space = Some next }) t
used_follows hello old s next t is used p =
    let of = next_follows hello old.side old.peer s next t used (space_of hello old t s is p) in
    others_follow hello old t old.remote_id old.retry_id old.token old.knows_peer (Some next) p.sourced
    (λ x there. subst (λ (z : InitialSpace). SpaceFollows hello old.side old.peer z t) (same_Some next x there) of) p

pub unsent_follows : (now : Moment) (hello : List ℕ) (old new : Handshake) (t : List Act) → IsUnsent now old new → Follows hello old t → Follows hello new t
unsent_follows now hello old new t (unchanged e) p = subst (λ (z : Handshake). Follows hello z t) (sym e) p
unsent_follows now hello old new t (packet_lost s next frames is_eliciting is allowed number made e) p =
    let used : IsNextSpace s next = subst (λ (z : InitialSpace). IsNextSpace s z) (sym made.new_is) (next_space s made.packet is_eliciting _ _ now) in
    subst (λ (z : Handshake). Follows hello z t) (sym e) (used_follows hello old s next t is used p)

pub close_unsent_follows : (hello : List ℕ) (old new : Handshake) (t : List Act) → IsCloseUnsent old new → Follows hello old t → Follows hello new t
close_unsent_follows hello old new t (close_unchanged e) p = subst (λ (z : Handshake). Follows hello z t) (sym e) p
close_unsent_follows hello old new t (number_used s is allowed number e) p =
    subst (λ (z : Handshake). Follows hello z t) (sym e)
    (used_follows hello old s _ t is (record { hello = refl; crypto = refl; dedup = refl; number = refl }) p)

-- ---- what is due is done

pub loss_same : (largest now : ℕ) (old new : InitialSpace) → IsLossTaken largest now old new → IsSameSpace old new
loss_same largest now old new lost = same_by old new _ lost.rest_is (record { hello = refl; crypto = refl; number = refl; dedup = refl })

lost_same : (now : ℕ) (old new : InitialSpace) → AreLostByAge now old new → IsSameSpace old new
lost_same now old new (some_lost m largest at before acked lost) = loss_same largest now old new lost
lost_same now old new (no_loss later e) = same_by old new old e (record { hello = refl; crypto = refl; number = refl; dedup = refl })

probe_same : (state : HelloState) (s : InitialSpace) → IsSameSpace s (with_probe state s)
probe_same Out s = record { hello = refl; crypto = refl; number = refl; dedup = refl }
probe_same Waits s = record { hello = refl; crypto = refl; number = refl; dedup = refl }
probe_same Held s = record { hello = refl; crypto = refl; number = refl; dedup = refl }
probe_same Acked s = record { hello = refl; crypto = refl; number = refl; dedup = refl }

probed_same : (now : ℕ) (h : Handshake) (old new : InitialSpace) → IsProbed now h old new → IsSameSpace old new
probed_same now h old new (some_probe m at before queued) = same_by old new _ queued (probe_same old.state old)
probed_same now h old new (no_probe later e) = same_by old new old e (record { hello = refl; crypto = refl; number = refl; dedup = refl })

pub timed_out_follows : (now : ℕ) (hello : List ℕ) (old new : Handshake) (t : List Act) → IsTimedOut now old new → Follows hello old t → Follows hello new t
timed_out_follows now hello old new t (gone none e) p = subst (λ (z : Handshake). Follows hello z t) (sym e) p
timed_out_follows now hello old new t (recovery s mid next is lost probed e) p =
    let of = same_follows hello old.side old.peer s next t (same_both s mid next (lost_same now s mid lost) (probed_same now old mid next probed)) (space_of hello old t s is p) in
    subst (λ (z : Handshake). Follows hello z t) (sym e)
    (others_follow hello old t old.remote_id old.retry_id old.token old.knows_peer (Some next) p.sourced
    (λ x there. subst (λ (z : InitialSpace). SpaceFollows hello old.side old.peer z t) (same_Some next x there) of) p)
