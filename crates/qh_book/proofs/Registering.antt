-- Pending registers the interest.
use Rattle.std.proofs.Common.{◌≡◌, ℕ, ◌<◌, ◌==◌, Bool, true, false, ◌||◌, length, Option, Some, refl, sym, ap, arith, inl, inr, subst, eq-eqb}
use Rattle.std.proofs.lemmas.Bool.{and_from, and_parts, eqb-true, false≢true, ne_eqb}
use Rattle.qh_base.specs.declared.stream_id.StreamId.{StreamId}
use Rattle.qh_book.proofs.Held.{by_held, is_pending, never_pending}
use Rattle.qh_book.specs.Book.{Book}
use Rattle.qh_book.specs.Interests.{interest_of, is_same, is_same_dir, is_same_order, with_interest}
use Rattle.qh_book.specs.Promises.{IsRegistered}
use Rattle.qh_book.specs.Receiving.{Reads}
use Rattle.qh_book.specs.Step.{Allows, Steps}
use Rattle.qh_book.specs.Values.{TellsValue}
use Rattle.qh_book.specs.declared.call.Call.{Call}
use Rattle.qh_book.specs.declared.call.Call.TheVariants as call
use Rattle.qh_book.specs.declared.call.Getter.{Getter}
use Rattle.qh_book.specs.declared.call.Getter.TheVariants as getter
use Rattle.qh_book.specs.declared.interest.Interest.{Interest}
use Rattle.qh_book.specs.declared.interest.Interest.TheVariants as waiting
use Rattle.qh_book.specs.declared.reply.Reply.{Reply}
use Rattle.qh_book.specs.declared.reply.Reply.TheVariants as reply
use Rattle.qh_spec.specs.declared.sides.Dir.{Dir}
use Rattle.qh_spec.specs.declared.sides.Dir.TheVariants.{Bi, Uni}

-- ---- interests are a set

same_dir : (d e : Dir) → is_same_dir d e ≡ true → d ≡ e
same_dir Bi Bi h = refl
same_dir Uni Uni h = refl
same_dir Bi Uni h = absurd (false≢true h)
same_dir Uni Bi h = absurd (false≢true h)

same_order : (x y : Bool) → is_same_order x y ≡ true → x ≡ y
same_order true y h = sym h
same_order false true h = absurd (false≢true h)
same_order false false h = refl

same_id : (id other : StreamId) → (id.0 == other.0) ≡ true → id ≡ other
same_id id other h = λ i. record { 0 = eqb-true id.0 other.0 h i }

pub same_interest : (i j : Interest) → is_same i j ≡ true → i ≡ j
same_interest waiting.Connecting waiting.Connecting h = refl
same_interest waiting.HandshakeData waiting.HandshakeData h = refl
same_interest (waiting.Open dir) (waiting.Open other) h = ap (λ (d : Dir). waiting.Open d) (same_dir dir other h)
same_interest (waiting.Accept dir) (waiting.Accept other) h = ap (λ (d : Dir). waiting.Accept d) (same_dir dir other h)
same_interest (waiting.Read id is_ordered) (waiting.Read other order) h = let e = and_parts _ _ h in λ i. waiting.Read (same_id id other e.0 i) (same_order is_ordered order e.1 i)
same_interest (waiting.Write id) (waiting.Write other) h = ap (λ (x : StreamId). waiting.Write x) (same_id id other h)
same_interest (waiting.Stopped id) (waiting.Stopped other) h = ap (λ (x : StreamId). waiting.Stopped x) (same_id id other h)
same_interest (waiting.ReceivedReset id) (waiting.ReceivedReset other) h = ap (λ (x : StreamId). waiting.ReceivedReset x) (same_id id other h)
same_interest waiting.ReadDatagram waiting.ReadDatagram h = refl
same_interest (waiting.SendDatagram size) (waiting.SendDatagram other) h = ap (λ (n : ℕ). waiting.SendDatagram n) (eqb-true size other h)
same_interest waiting.Closed waiting.Closed h = refl
same_interest i j h = absurd (false≢true h)

dir_itself : (d : Dir) → is_same_dir d d ≡ true
dir_itself Bi = refl
dir_itself Uni = refl

order_itself : (o : Bool) → is_same_order o o ≡ true
order_itself true = refl
order_itself false = refl

number_itself : (n : ℕ) → (n == n) ≡ true
number_itself n = eq-eqb n n refl

pub interest_itself : (i : Interest) → is_same i i ≡ true
interest_itself waiting.Connecting = refl
interest_itself waiting.HandshakeData = refl
interest_itself (waiting.Open dir) = dir_itself dir
interest_itself (waiting.Accept dir) = dir_itself dir
interest_itself (waiting.Read id is_ordered) = and_from _ _ (number_itself id.0) (order_itself is_ordered)
interest_itself (waiting.Write id) = number_itself id.0
interest_itself (waiting.Stopped id) = number_itself id.0
interest_itself (waiting.ReceivedReset id) = number_itself id.0
interest_itself waiting.ReadDatagram = refl
interest_itself (waiting.SendDatagram size) = number_itself size
interest_itself waiting.Closed = refl

or_true : (x : Bool) → (x || true) ≡ true
or_true true = refl
or_true false = refl

or_false : (x : Bool) → (x || false) ≡ x
or_false true = refl
or_false false = refl

-- one that stands is registered again
pub registered_again : (b : Book) (i : Interest) → b.interests i ≡ true → with_interest (Some i) b ≡ b
registered_again b i stands = λ k. record b { interests = λ j. each j (is_same i j) refl k }
  where
    each : (j : Interest) (same : Bool) → is_same i j ≡ same → (b.interests j || is_same i j) ≡ b.interests j
    each j true e = let on : b.interests j ≡ true = subst (λ (x : Interest). b.interests x ≡ true) (same_interest i j e) stands in rw (e, on) refl
    each j false e = rw e (or_false (b.interests j))

last_added : (m c : Book) (o : Option Interest) (i : Interest) → o ≡ Some i → c ≡ with_interest o m → c.interests i ≡ true
last_added m c o i is h = rw h (rw is (rw (interest_itself i) (or_true (m.interests i))))

-- ---- Pending registers

pub read_interest : (id : StreamId) (max_length : ℕ) (is_ordered : Bool) → 0 < max_length → interest_of (call.Read id max_length is_ordered) ≡ Some (waiting.Read id is_ordered)
read_interest id max_length is_ordered some = let e : (max_length == 0) ≡ false = ne_eqb max_length 0 (λ none. omega (arith, some, none)) in rw e refl

read_waits_on : (T : Type 0) (b m : Book) (id : StreamId) (max_length : ℕ) (is_ordered : Bool) → Reads {T = T} b id max_length is_ordered reply.Pending m → 0 < max_length
read_waits_on T b m id max_length is_ordered (inl closed) = absurd closed.1
read_waits_on T b m id max_length is_ordered (inr h) = h.reads.1

-- nothing of a half that no handle holds waits
none_unheld : {T P : Type 0} (b m : Book) (r : Reply T) → is_pending r ≡ false → (reply.Pending ≡ r) × (m ≡ b) → P
none_unheld b m r other h = never_pending r other h.0

has_interest : (T : Type 0) (b m : Book) (c : Call) → Allows {T = T} b c reply.Pending m → (i : Interest) × (interest_of c ≡ Some i)
has_interest T b m call.Connecting h = (waiting.Connecting, refl)
has_interest T b m call.HandshakeData h = (waiting.HandshakeData, refl)
has_interest T b m (call.Open dir) h = (waiting.Open dir, refl)
has_interest T b m (call.Accept dir) h = (waiting.Accept dir, refl)
has_interest T b m (call.Read id max_length is_ordered) h = (waiting.Read id is_ordered, read_interest id max_length is_ordered (by_held (b.readers id.0) (read_waits_on T b m id max_length is_ordered) (none_unheld {T = T} b m reply.ClosedStream refl) h))
has_interest T b m (call.Write id payload) h = (waiting.Write id, refl)
has_interest T b m (call.Stopped id) h = (waiting.Stopped id, refl)
has_interest T b m (call.ReceivedReset id) h = (waiting.ReceivedReset id, refl)
has_interest T b m (call.Stop id code) h = by_held (b.readers id.0) (λ (x : ⊥). absurd x) (none_unheld {T = T} b m reply.ClosedStream refl) h
has_interest T b m (call.EndRecv id) h = by_held (b.readers id.0) (λ (x : ⊥). absurd x) (none_unheld {T = T} b m reply.Done refl) h
has_interest T b m call.ReadDatagram h = (waiting.ReadDatagram, refl)
has_interest T b m (call.SendDatagram payload wait) h = (waiting.SendDatagram (length payload), rw h.0 refl)
has_interest T b m call.Closed h = (waiting.Closed, refl)
has_interest T b m (call.Get g) h = absurd (no_value g h.0)
  where
    no_value : (g : Getter) → TellsValue {T = T} b g reply.Pending → ⊥
    no_value getter.MaxDatagramSize h = h
    no_value getter.DatagramSendBufferSpace h = h
    no_value getter.Side h = h
    no_value getter.RemoteAddress h = h
    no_value getter.LocalIp h = h
    no_value getter.StableId h = h
    no_value getter.Rtt h = h
    no_value getter.MinRtt h = h
    no_value getter.Stats h = h
    no_value getter.CongestionState h = h
    no_value getter.HandshakeData h = h
has_interest T b m c h = absurd h

pub pending_registers : (T : Type 0) (b after : Book) (c : Call) → Steps {T = T} b c reply.Pending after → IsRegistered c after
pending_registers T b after c s = let i = has_interest T b s.made c s.allows in record { interest = i.0; is_its = i.1; stands = last_added s.made after (interest_of c) i.0 i.1 s.is_after }
