-- What is owed: until when, and worked transcripts.
use Rattle.std.proofs.Common.{length, ◌≡◌, ◌<◌, inl, inr, ℕ, zero, suc, Bool, true, false, List, [], ◌∷◌, ◌++◌, Some, refl, sym, ap, ◌∙◌, subst, arith}
use Rattle.std.specs.Prelude.{slice_get}
use Rattle.std.proofs.lemmas.Option.{slice_get_within}
use Rattle.qh_spec.specs.declared.sides.Side.{Side}
use Rattle.qh_spec.specs.declared.sides.Side.TheVariants.{Client}
use Rattle.qh_spec.specs.declared.sides.Space.TheVariants.{Initial, Data}
use Rattle.qh_spec.specs.Acknowledged.{Covers}
use Rattle.qh_spec.specs.Carried.{HasNumberedRun, IsAcknowledged, IsOwed, IsEndOwed}
use Rattle.qh_spec.specs.Datagram.{Packet}
use Rattle.qh_spec.specs.Lists.{In}
use Rattle.qh_spec.specs.MessageRows.{get_bytes}
use Rattle.qh_spec.specs.QuicFrame.{StreamFrame}
use Rattle.qh_spec.specs.QuicFrames.{QuicFrame, Num, Nums}
use Rattle.qh_spec.specs.Transcript.{Act, Wrote, written, was_reset}
use Rattle.qh_spec.specs.WholeRows.{carrying, carrying_get, carrying_open_get, get_acts, ack_of}
use Rattle.qh_spec.proofs.Members.{in_left}
use Rattle.qh_spec.proofs.TranscriptLaws.{written-append}
use Rattle.qh_spec.proofs.WholeRows.{run_of, run_there, only_packet, only_run}

-- what is acknowledged stays so, and what was sent too
pub acknowledged_more : (xs ys : List Packet) (n : ℕ) → IsAcknowledged xs n → IsAcknowledged (xs ++ ys) n
acknowledged_more xs ys n q = record {
  packet = q.packet;
  among = in_left q.packet xs ys q.among;
  space_is = q.space_is;
  frame = q.frame;
  frame_among = q.frame_among;
  covers = q.covers;
}

pub numbered_more : (k : ℕ) (xs ys : List (List ℕ)) (s : Side) (n : ℕ) (run : StreamFrame) → HasNumberedRun k xs s n run → HasNumberedRun k (xs ++ ys) s n run
numbered_more k xs ys s n run q = record {
  has = record {
    datagram = q.has.datagram;
    among = in_left q.has.datagram xs ys q.has.among;
    packet = q.has.packet;
    has = q.has.has;
    space_is = q.has.space_is;
    sender_is = q.has.sender_is;
    frame = q.has.frame;
    frame_among = q.has.frame_among;
    is = q.has.is;
  };
  number_is = q.number_is;
}

-- what is owed when more was accepted, or sent, was owed before
pub owed_accepted : (k : ℕ) (sent : List (List ℕ)) (accepted more : List Packet) (s : Side) (t : List Act) (stream o b : ℕ)
    → IsOwed k sent (accepted ++ more) s t stream o b → IsOwed k sent accepted s t stream o b
owed_accepted k sent accepted more s t stream o b q = record {
  was_written = q.was_written;
  not_reset = q.not_reset;
  unacknowledged = λ n run h id from to a. q.unacknowledged n run h id from to (acknowledged_more accepted more n a);
}

pub owed_sent : (k : ℕ) (sent more : List (List ℕ)) (accepted : List Packet) (s : Side) (t : List Act) (stream o b : ℕ)
    → IsOwed k (sent ++ more) accepted s t stream o b → IsOwed k sent accepted s t stream o b
owed_sent k sent more accepted s t stream o b q = record {
  was_written = q.was_written;
  not_reset = q.not_reset;
  unacknowledged = λ n run h id from to a. q.unacknowledged n run (numbered_more k sent more s n run h) id from to a;
}

pub end_owed_accepted : (k : ℕ) (sent : List (List ℕ)) (accepted more : List Packet) (s : Side) (t : List Act) (stream : ℕ)
    → IsEndOwed k sent (accepted ++ more) s t stream → IsEndOwed k sent accepted s t stream
end_owed_accepted k sent accepted more s t stream q = record {
  was_finished = q.was_finished;
  not_reset = q.not_reset;
  unacknowledged = λ n run h id fin a. q.unacknowledged n run h id fin (acknowledged_more accepted more n a);
}

pub end_owed_sent : (k : ℕ) (sent more : List (List ℕ)) (accepted : List Packet) (s : Side) (t : List Act) (stream : ℕ)
    → IsEndOwed k (sent ++ more) accepted s t stream → IsEndOwed k sent accepted s t stream
end_owed_sent k sent more accepted s t stream q = record {
  was_finished = q.was_finished;
  not_reset = q.not_reset;
  unacknowledged = λ n run h id fin a. q.unacknowledged n run (numbered_more k sent more s n run h) id fin a;
}

-- nothing is owed of a stream that was reset
pub reset_not_owed : (k : ℕ) (sent : List (List ℕ)) (accepted : List Packet) (s : Side) (t : List Act) (stream o b : ℕ) → was_reset t stream ≡ true
    → IsOwed k sent accepted s t stream o b → ⊥
reset_not_owed k sent accepted s t stream o b e q = let r : true ≡ false = sym e ∙ q.not_reset in cc

pub reset_end_not_owed : (k : ℕ) (sent : List (List ℕ)) (accepted : List Packet) (s : Side) (t : List Act) (stream : ℕ) → was_reset t stream ≡ true
    → IsEndOwed k sent accepted s t stream → ⊥
reset_end_not_owed k sent accepted s t stream e q = let r : true ≡ false = sym e ∙ q.not_reset in cc

get_front : {X : Type 0} (xs ys : List X) (o : ℕ) (b : X) → slice_get xs o ≡ Some b → slice_get (xs ++ ys) o ≡ Some b
get_front [] ys o b e = cc
get_front (x ∷ xs) ys zero b e = e
get_front (x ∷ xs) ys (suc o) b e = get_front xs ys o b e

-- and whatever else is done, but a reset, it stays owed
pub owed_later : (k : ℕ) (sent : List (List ℕ)) (accepted : List Packet) (s : Side) (t u : List Act) (stream o b : ℕ) → was_reset (t ++ u) stream ≡ false
    → IsOwed k sent accepted s t stream o b → IsOwed k sent accepted s (t ++ u) stream o b
owed_later k sent accepted s t u stream o b kept q = record {
  was_written = subst (λ (z : List ℕ). slice_get z o ≡ Some b) (sym (written-append t u stream)) (get_front (written t stream) (written u stream) o b q.was_written);
  not_reset = kept;
  unacknowledged = q.unacknowledged;
}

only_one : {X : Type 0} (x y : X) → In x (y ∷ []) → y ≡ x
only_one x y (inl e) = e
only_one x y (inr h) = absurd h

abbrev ack_frame_of : ℕ → QuicFrame
ack_frame_of n = record { kind = 2; values = Num n ∷ Num 0 ∷ Nums (0 ∷ []) ∷ [] }

-- that packet acknowledges its number and no other
acked : (n : ℕ) → IsAcknowledged (ack_of n ∷ []) n
acked n = record {
  packet = ack_of n;
  among = inl refl;
  space_is = refl;
  frame = ack_frame_of n;
  frame_among = inl refl;
  covers = (refl, (n, omega arith, omega arith, omega arith));
}

acked_alone : (n m : ℕ) → IsAcknowledged (ack_of n ∷ []) m → m ≡ n
acked_alone n m a =
    let packet : ack_of n ≡ a.packet = only_one a.packet (ack_of n) a.among in
    let there : In a.frame (ack_frame_of n ∷ []) = subst (λ (z : Packet). In a.frame z.frames) (sym packet) a.frame_among in
    let frame : ack_frame_of n ≡ a.frame = only_one a.frame (ack_frame_of n) there in
    let covers : Covers (ack_frame_of n) m = subst (λ (z : QuicFrame). Covers z m) (sym frame) a.covers in
    let sum = covers.1.1 in
    let low = covers.1.2 in
    let high = covers.1.3 in
    omega (arith, sum, low, high)

none_acked : (n : ℕ) → IsAcknowledged [] n → ⊥
none_acked n a = a.among

-- the packet of the datagram has this number
number_is : (fin : Bool) (n : ℕ) (run : StreamFrame) → HasNumberedRun 8 (carrying Client fin get_bytes ∷ []) Client n run → n ≡ 1000
number_is fin n run h = sym h.number_is ∙ ap (λ (z : Packet). z.number) (only_packet Client Client fin get_bytes (omega arith) run h.has)

there : (fin : Bool) → HasNumberedRun 8 (carrying Client fin get_bytes ∷ []) Client 1000 (run_of fin get_bytes)
there fin =
    let has = run_there Client fin get_bytes (omega arith) in
    record { has = has; number_is = ap (λ (z : Packet). z.number) (only_packet Client Client fin get_bytes (omega arith) (run_of fin get_bytes) has) }

pub unsent_owed : IsOwed 8 [] [] Client (Wrote 0 get_bytes ∷ []) 0 0 1
unsent_owed = record { was_written = refl; not_reset = refl; unacknowledged = λ n run h id from to a. none_acked n a }

pub unheard_owed : IsOwed 8 (carrying_get ∷ []) [] Client get_acts 0 0 1
unheard_owed = record { was_written = refl; not_reset = refl; unacknowledged = λ n run h id from to a. none_acked n a }

pub other_ack_owed : (n : ℕ) → (n ≡ 1000 → ⊥) → IsOwed 8 (carrying_get ∷ []) (ack_of n ∷ []) Client get_acts 0 0 1
other_ack_owed n apart = record {
  was_written = refl;
  not_reset = refl;
  unacknowledged = λ m run h id from to a. apart (sym (acked_alone n m a) ∙ number_is true m run h);
}

pub acked_not_owed : (o b : ℕ) → IsOwed 8 (carrying_get ∷ []) (ack_of 1000 ∷ []) Client get_acts 0 o b → ⊥
acked_not_owed o b q =
    let within : o < 15 = slice_get_within get_bytes o b q.was_written in
    q.unacknowledged 1000 (run_of true get_bytes) (there true) refl (omega arith) (omega (arith, within)) (acked 1000)

-- an ACK of an Initial packet tells of another space
pub initial_ack_owed : IsOwed 8 (carrying_get ∷ []) (record (ack_of 1000) { space = Initial } ∷ []) Client get_acts 0 0 1
initial_ack_owed = record {
  was_written = refl;
  not_reset = refl;
  unacknowledged = λ n run h id from to a.
      let packet = only_one a.packet (record (ack_of 1000) { space = Initial }) a.among in
      let spaces : Initial ≡ Data = ap (λ (z : Packet). z.space) packet ∙ a.space_is in
      absurd cc;
}

-- the packet that was acknowledged carried two bytes
pub behind_owed : IsOwed 8 (carrying Client false (1 ∷ 13 ∷ []) ∷ []) (ack_of 1000 ∷ []) Client get_acts 0 2 0
behind_owed = record {
  was_written = refl;
  not_reset = refl;
  unacknowledged = λ n run h id from to a.
      let same = (only_run Client Client false (1 ∷ 13 ∷ []) (omega arith) run h.has).1 in
      let start : 0 ≡ run.offset = ap (λ (z : StreamFrame). z.offset) same in
      let two : 2 ≡ length run.payload = ap (λ (z : StreamFrame). length z.payload) same in
      omega (arith, start, two, to);
}

-- or the bytes of another stream
pub elsewhere_owed : IsOwed 8 (carrying_get ∷ []) (ack_of 1000 ∷ []) Client (Wrote 4 get_bytes ∷ []) 4 0 1
elsewhere_owed = record {
  was_written = refl;
  not_reset = refl;
  unacknowledged = λ n run h id from to a.
      let same = (only_run Client Client true get_bytes (omega arith) run h.has).1 in
      let zero_too : 0 ≡ run.id = ap (λ (z : StreamFrame). z.id) same in
      omega (arith, zero_too, id);
}

pub unwritten_not_owed : (b : ℕ) → IsOwed 8 [] [] Client (Wrote 0 get_bytes ∷ []) 0 15 b → ⊥
unwritten_not_owed b q = let e = q.was_written in cc

pub end_owed : IsEndOwed 8 (carrying_get ∷ []) [] Client get_acts 0
end_owed = record { was_finished = refl; not_reset = refl; unacknowledged = λ n run h id fin a. none_acked n a }

-- the packet that was acknowledged had no end
pub open_end_owed : IsEndOwed 8 (carrying_open_get ∷ []) (ack_of 1000 ∷ []) Client get_acts 0
open_end_owed = record {
  was_finished = refl;
  not_reset = refl;
  unacknowledged = λ n run h id fin a.
      let same : run_of false get_bytes ≡ run = (only_run Client Client false get_bytes (omega arith) run h.has).1 in
      let none : false ≡ true = ap (λ (z : StreamFrame). z.fin) same ∙ fin in
      absurd cc;
}

pub acked_end_not_owed : IsEndOwed 8 (carrying_get ∷ []) (ack_of 1000 ∷ []) Client get_acts 0 → ⊥
acked_end_not_owed q = q.unacknowledged 1000 (run_of true get_bytes) (there true) refl refl (acked 1000)

pub unfinished_not_owed : IsEndOwed 8 [] [] Client (Wrote 0 get_bytes ∷ []) 0 → ⊥
unfinished_not_owed q = let e = q.was_finished in cc
