-- What a read gives to the reader of a stream.
use Rattle.std.proofs.Common.{◌≡◌, ℕ, ◌+◌, ◌-◌, ◌<◌, ◌≤◌, ◌==◌, nat_lt, nat_le, Bool, true, false, ◌&&◌, ◌||◌, List, [], ◌∷◌, ◌++◌, length, slice_get, Option, Some, None, Result, Ok, if◌then◌else◌, refl, sym, ap, ◌∙◌, subst, arith, inl, inr}
use Rattle.std.proofs.lemmas.Bool.{false≢true, cases_lt, lt-ltb, le-ltb, le-leb, ltb-false, eqb-true, and_from, or_left, or_right}
use Rattle.std.proofs.lemmas.Bool.Decides.{eqb_tells}
use Rattle.std.proofs.lemmas.Option.{slice_get_within}
use Rattle.qh_buffers.specs.Assembler.{PlainAssembler, byte_of, is_over, to_give, IsGiven, IsFrontPiece}
use Rattle.qh_buffers.specs.Ranges.{PlainRange, is_in, has, front_of}
use Rattle.qh_buffers.specs.declared.assembler.Chunk.{Chunk}
use Rattle.qh_buffers.proofs.RangeLaws.{inside}
use Rattle.qh_half.specs.Recv.{PlainRecv, bytes_read, is_closed, ends_at, is_at_end, IsRead, IsReadAnswer}
use Rattle.qh_half.specs.Recv.IsReadAnswer.{bytes as bytes_given, nothing as nothing_given, end as end_given, reset as reset_given, blocked as blocked_read, memory as memory_read}
use Rattle.qh_half.specs.declared.fault.ReadFault.{ReadFault}
use Rattle.qh_half.specs.declared.recv.RecvState.{RecvState}
use Rattle.qh_half.specs.declared.recv.RecvState.TheVariants.{Recv, ResetRecvd}
use Rattle.qh_halves.specs.RecvHalves.{PlainRecvHalves, recv_at, IsRecvStep, Reads, half_is_closed, is_closed_at}
use Rattle.qh_spec.specs.QuicFrame.{StreamFrame as Run}
use Rattle.qh_spec.specs.Transcript.{Act, ReadBytes, ReadEnd, pieces_read, read, ended}
use Rattle.qh_streams.specs.Streams.{PlainStreams, was_opened}
use Rattle.qh_streams.proofs.StreamsTracked.{Goes, recv_goes}
use Rattle.qh_transcript.specs.Receiving.{HasCome, HasEndCome, IsReadInOrder, IsReaderOf, StandsIn, piece_acts, read_acts}
use Rattle.qh_transcript.proofs.ReceivingLists.{none_some, some_is, AllCame, none_came, all_came, same_pieces, same_count, same_end, same_reader, one_piece, other_piece, other_end, more_read, nothing_read, empty_read, reset_reads, others_stand}
use Rattle.qh_transcript.proofs.ReceivingSteps.{IsLike, like_same, like_stand}

-- ---- an ordered read begins where the one before it ended

front_has : (r : PlainRange) (rs : List PlainRange) (k : ℕ) → k < front_of (r ∷ rs) → has (r ∷ rs) k ≡ true
front_has r rs k below = elim (eqb_tells r.start 0) [
  | inl zero ↦ let under : k < r.end = rw zero.0 at below in or_left (is_in r k) (has rs k) (inside r k (omega (arith, zero.1)) under)
  | inr some ↦ let none : k < 0 = rw some.0 at below in absurd (omega (arith, none))
]

front_below : (rs : List PlainRange) (count : ℕ) → ((k : ℕ) → has rs k ≡ nat_lt k count) → front_of rs ≤ count
front_below [] count order = omega arith
front_below (r ∷ rs) count order = elim (cases_lt count (front_of (r ∷ rs))) [
  | inl more ↦ absurd (false≢true (sym (le-ltb count count (omega arith)) ∙ sym (order count) ∙ front_has r rs count more))
  | inr done ↦ done
]

pub at_count : (r : PlainRecv) (new : PlainAssembler) (max count : ℕ) (c : Chunk) → IsGiven r.assembler new max c → IsFrontPiece r.assembler max c → IsReadInOrder r count → c.offset ≡ count
at_count r new max count c given front order =
    let over : is_over c c.offset ≡ true = and_from _ _ (le-leb c.offset c.offset (omega arith)) (lt-ltb c.offset (c.offset + length c.bytes) (omega (arith, given.some))) in
    let low : count ≤ c.offset = ltb-false c.offset count (sym (order c.offset) ∙ given.new_ones c.offset over) in
    let high : front_of r.assembler.given ≤ count = front_below r.assembler.given count order in
    omega (arith, low, high, front.offset_is)

-- ---- a half that gave a piece, or its end

still_waits : (given : Bool) (o : Option ℕ) (byte : ℕ) → (if given then None else o) ≡ Some byte → o ≡ Some byte
still_waits true o byte e = cc
still_waits false o byte e = e

over_or_below : (offset n count k : ℕ) → offset ≡ count → ((nat_le offset k && nat_lt k (offset + n)) || nat_lt k count) ≡ nat_lt k (count + n)
over_or_below offset n count k e = grind (arith, e)

piece_reader : (came : List Run) (id : ℕ) (t : List Act) (r next : PlainRecv) (max : ℕ) (c : Chunk) → IsRead r next max c → IsReaderOf came id t r → IsReaderOf came id (t ++ ReadBytes id c.offset c.bytes ∷ []) next
piece_reader came id t r next max c g p =
    let order_is : next.is_unordered ≡ r.is_unordered = ap (λ (r : PlainRecv). r.is_unordered) g.rest_is in
    let more = more_read t id c.offset c.bytes in
    record {
      waits = λ k byte e. p.waits k byte (still_waits (is_over c k) (to_give r.assembler k) byte (sym (g.given.bytes_are k) ∙ e));
      size = λ n e. p.size n (sym (ap (λ (r : PlainRecv). r.state) g.rest_is) ∙ e);
      count = g.counted ∙ ap (λ (n : ℕ). n + length c.bytes) p.count ∙ sym more;
      in_order = λ ordered k.
          let was = sym order_is ∙ ordered in
          let here = at_count r next.assembler max (length (read t id)) c g.given (g.front was) (p.in_order was) in
          g.given.given_are k ∙ ap (λ (b : Bool). is_over c k || b) (p.in_order was k) ∙ over_or_below c.offset (length c.bytes) (length (read t id)) k here ∙ ap (λ (n : ℕ). nat_lt k n) (sym more);
      ends = λ told. ap is_closed g.rest_is ∙ p.ends (sym (same_end t (ReadBytes id c.offset c.bytes ∷ []) id refl) ∙ told);
    }

end_reader : (came : List Run) (id : ℕ) (t : List Act) (r : PlainRecv) → IsReaderOf came id t r → IsReaderOf came id (t ++ ReadEnd id ∷ []) (record r { is_given = true })
end_reader came id t r p =
    let count_is = same_count t (ReadEnd id ∷ []) id refl in
    record {
      waits = p.waits;
      size = p.size;
      count = p.count ∙ sym count_is;
      in_order = λ ordered k. p.in_order ordered k ∙ ap (λ (n : ℕ). nat_lt k n) (sym count_is);
      ends = λ told. or_right r.is_stopped true refl;
    }

end_known : (state : RecvState) (n : ℕ) → ends_at state n ≡ true → state ≡ Recv (Some n)
end_known (Recv (Some size)) n e = ap (λ (m : ℕ). Recv (Some m)) (sym (eqb-true n size e))
end_known (Recv None) n e = absurd (false≢true e)
end_known (ResetRecvd size code) n e = absurd (false≢true e)

pub end_came : (came : List Run) (id : ℕ) (t : List Act) (r : PlainRecv) → is_at_end r ≡ true → IsReaderOf came id t r → HasEndCome came id (length (read (t ++ ReadEnd id ∷ []) id))
end_came came id t r at_end p =
    subst (λ (n : ℕ). HasEndCome came id n) (p.count ∙ sym (same_count t (ReadEnd id ∷ []) id refl)) (p.size (bytes_read r) (end_known r.state (bytes_read r) at_end))

-- ---- the byte of a piece came

piece_byte : (c : Chunk) (k byte : ℕ) → slice_get c.bytes k ≡ Some byte → byte_of c (c.offset + k) ≡ Some byte
piece_byte c k byte e =
    let at : c.offset + k - c.offset ≡ k = omega arith in
    rw (le-ltb (c.offset + k) c.offset (omega arith)) (ap (λ (n : ℕ). slice_get c.bytes n) at ∙ e)

piece_came : (came : List Run) (id : ℕ) (t : List Act) (r next : PlainRecv) (max : ℕ) (c : Chunk) → IsRead r next max c → IsReaderOf came id t r → AllCame came id (pieces_read (ReadBytes id c.offset c.bytes ∷ []) id)
piece_came came id t r next max c g p = rw (one_piece id c.offset c.bytes) only where
  byte_came : (k byte : ℕ) → slice_get c.bytes k ≡ Some byte → HasCome came id (c.offset + k) byte
  byte_came k byte e =
      let low : k < length c.bytes = slice_get_within c.bytes k byte e in
      let over : is_over c (c.offset + k) ≡ true = and_from _ _ (le-leb c.offset (c.offset + k) (omega arith)) (lt-ltb (c.offset + k) (c.offset + length c.bytes) (omega (arith, low))) in
      p.waits (c.offset + k) byte (g.given.waited (c.offset + k) over ∙ piece_byte c k byte e)

  only : AllCame came id ((c.offset, c.bytes) ∷ [])
  only piece (inl same) k byte e = rw (← same) (byte_came k byte (rw (← same) at e))
  only piece (inr none) k byte e = absurd none

-- ---- all halves, where a reader of one got something

pub given_stand : {P : PlainRecv → PlainRecv → Type 0} {id : ℕ} (old new : PlainStreams) (came : List Run) (t u : List Act) (r : PlainRecv) → Goes P (recv_at old.recv) (recv_at new.recv) id
    → recv_at old.recv id ≡ Some r → ((k : ℕ) → (k == id) ≡ false → pieces_read u k ≡ []) → ((k : ℕ) → (k == id) ≡ false → ended u k ≡ false)
    → ((r next : PlainRecv) → P r next → IsReaderOf came id t r → IsReaderOf came id (t ++ u) next) → AllCame came id (pieces_read u id)
    → (ended (t ++ u) id ≡ true → HasEndCome came id (length (read (t ++ u) id))) → ((k : ℕ) → was_opened new k ≡ was_opened old k) → StandsIn old came t → StandsIn new came (t ++ u)
given_stand {id = id} old new came t u r goes was no_pieces no_ends reader now end_is opened s = record {
  halves = λ k next is. elim (eqb_tells k id) [
    | inl same ↦ let b = goes.here k next same.0 is in rw same.1 (reader b.half next b.step (s.halves id b.half b.was))
    | inr apart ↦ same_reader came k t (t ++ u) next (same_count t u k (no_pieces k apart.0)) (same_end t u k (no_ends k apart.0)) (s.halves k next (sym (goes.apart k apart.0) ∙ is))
  ];
  pieces = λ k. elim (eqb_tells k id) [
    | inl same ↦ rw same.1 (all_came came t u id (s.pieces id) now)
    | inr apart ↦ all_came came t u k (s.pieces k) (none_came came k (pieces_read u k) (no_pieces k apart.0))
  ];
  end = λ k told. elim (eqb_tells k id) [
    | inl same ↦ rw same.1 (end_is (rw same.1 at told))
    | inr apart ↦ subst (λ (n : ℕ). HasEndCome came k n) (sym (same_count t u k (no_pieces k apart.0))) (s.end k (sym (same_end t u k (no_ends k apart.0)) ∙ told))
  ];
  unopened = λ k closed. let none = s.unopened k (sym (opened k) ∙ closed) in elim (eqb_tells k id) [
    | inl same ↦ none_some _ (recv_at old.recv id) r (ap (λ (i : ℕ). recv_at old.recv i) (sym same.1) ∙ none.0) was
    | inr apart ↦ (goes.apart k apart.0 ∙ none.0, same_pieces t u k (no_pieces k apart.0) ∙ none.1, same_end t u k (no_ends k apart.0) ∙ none.2)
  ];
}

-- the half is this one, and goes on to that one
abbrev Exactly : (r next : PlainRecv) → PlainRecv → PlainRecv → Type 0
Exactly r next a b = (a ≡ r) × (b ≡ next)

exactly : {P : PlainRecv → PlainRecv → Type 0} {old new : PlainRecvHalves} {id n : ℕ} (s : IsRecvStep P old new id n) → IsRecvStep (Exactly s.half s.next) old new id n
exactly s = record { half = s.half; next = s.next; was = s.was; step = (refl, refl); halves_are = s.halves_are; rest_is = s.rest_is }

module _ (old new : PlainStreams) (came : List Run) (t : List Act) (id : ℕ) (r next : PlainRecv) (was : recv_at old.recv id ≡ Some r) (goes : Goes (Exactly r next) (recv_at old.recv) (recv_at new.recv) id)
    (opened : (k : ℕ) → was_opened new k ≡ was_opened old k) (live : is_closed r ≡ false) (s : StandsIn old came t) where
  none_told : ended t id ≡ true → ⊥
  none_told told = false≢true (sym live ∙ (s.halves id r was).ends told)

  piece_stands : (max : ℕ) (c : Chunk) (bytes : List ℕ) → c.bytes ≡ bytes → IsRead r next max c → StandsIn new came (t ++ piece_acts id c.offset bytes)
  piece_stands max c [] e g = let some = g.given.some in absurd (omega (arith, some, ap length e))
  piece_stands max c (b ∷ bs) e g = rw (← e) (given_stand old new came t (ReadBytes id c.offset c.bytes ∷ []) r goes was (other_piece id c.offset c.bytes) (λ k apart. refl)
      (λ a b e p. rw e.1 (piece_reader came id t r next max c g (rw e.0 at p))) (piece_came came id t r next max c g (s.halves id r was))
      (λ told. absurd (none_told (sym (same_end t (ReadBytes id c.offset c.bytes ∷ []) id refl) ∙ told))) opened s)

  end_stands : is_at_end r ≡ true → next ≡ record r { is_given = true } → StandsIn new came (t ++ ReadEnd id ∷ [])
  end_stands at_end e = given_stand old new came t (ReadEnd id ∷ []) r goes was (λ k apart. refl) (other_end id)
      (λ a b f p. rw (f.1, e) (end_reader came id t r (rw f.0 at p))) (λ piece there. absurd there)
      (λ told. end_came came id t r at_end (s.halves id r was)) opened s

  same_stands : IsLike came id r next → StandsIn new came t
  same_stands like = like_stand old new came t goes (λ a b e. rw (e.0, e.1) like) opened s

  unchanged : next ≡ r → IsLike came id r next
  unchanged e = rw e (like_same came id r r refl refl refl (λ closed. closed))

  read_stands : (max : ℕ) (answer : Result (Option Chunk) ReadFault) → IsReadAnswer r next max answer → StandsIn new came (t ++ read_acts id answer)
  read_stands max answer (bytes_given c some g) = piece_stands max c c.bytes refl g
  read_stands max answer (nothing_given none e c empty) = others_stand new came t _ (empty_read id c.offset c.bytes empty) (same_stands (unchanged e))
  read_stands max answer (end_given some waits at_end e) = end_stands at_end e
  read_stands max answer (reset_given code some is e) = others_stand new came t _ (reset_reads id code) (same_stands (rw e (like_same came id r _ refl refl refl (λ closed. or_right r.is_stopped true refl))))
  read_stands max answer (blocked_read some waits at_end is e) = others_stand new came t _ nothing_read (same_stands (unchanged e))
  read_stands max answer (memory_read wants e) = others_stand new came t _ nothing_read (same_stands (unchanged e))

pub answer_stands : (old new : PlainStreams) (came : List Run) (t : List Act) (id max : ℕ) (answer : Result (Option Chunk) ReadFault) → is_closed_at old.recv id ≡ false
    → IsRecvStep (Reads max answer) old.recv new.recv id 0 → ((k : ℕ) → was_opened new k ≡ was_opened old k) → StandsIn old came t → StandsIn new came (t ++ read_acts id answer)
answer_stands old new came t id max answer live step opened s =
    read_stands old new came t id step.half step.next step.was (recv_goes (exactly step)) opened (sym (ap half_is_closed step.was) ∙ live) s max answer step.step

offset_is : (came : List Run) (id : ℕ) (t : List Act) (r next : PlainRecv) (max : ℕ) (c : Chunk) (answer : Result (Option Chunk) ReadFault) → answer ≡ Ok (Some c) → IsReadAnswer r next max answer → r.is_unordered ≡ false → 0 < length c.bytes
    → IsReaderOf came id t r → c.offset ≡ length (read t id)
offset_is came id t r next max c answer is (bytes_given d some g) ordered more p = let same : d ≡ c = cc in rw (← same) (at_count r next.assembler max (length (read t id)) d g.given (g.front ordered) (p.in_order ordered))
offset_is came id t r next max c answer is (nothing_given none e d empty) ordered more p = let same : d ≡ c = cc in absurd (omega (arith, more, empty, ap (λ (x : Chunk). length x.bytes) same))
offset_is came id t r next max c answer is (end_given some waits at_end e) ordered more p = cc
offset_is came id t r next max c answer is (reset_given code some was e) ordered more p = cc
offset_is came id t r next max c answer is (blocked_read some waits at_end was e) ordered more p = cc
offset_is came id t r next max c answer is (memory_read wants e) ordered more p = cc

pub in_order_stands : (old new : PlainStreams) (came : List Run) (t : List Act) (id max : ℕ) (c : Chunk) (r : PlainRecv) → IsRecvStep (Reads max (Ok (Some c))) old.recv new.recv id 0 → recv_at old.recv id ≡ Some r
    → r.is_unordered ≡ false → 0 < length c.bytes → StandsIn old came t → c.offset ≡ length (read t id)
in_order_stands old new came t id max c r step was ordered more s =
    let same : step.half ≡ r = some_is step.half r (sym step.was ∙ was) in
    offset_is came id t step.half step.next max c (Ok (Some c)) refl step.step (ap (λ (r : PlainRecv). r.is_unordered) same ∙ ordered) more (s.halves id step.half step.was)
