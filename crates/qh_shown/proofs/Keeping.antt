-- What items leave of a book: a half that has a page keeps its state and its mode, and no stream that arrives had one.
use Rattle.std.proofs.Common.{◌≡◌, ℕ, ◌+◌, ◌%◌, ◌==◌, nat_le, nat_lt, max, Bool, true, false, ◌&&◌, not, List, [], ◌∷◌, ◌++◌, length, map, Option, Some, None, is_some, IfSome, if◌then◌else◌, refl, sym, ap, subst, ◌∙◌, arith}
use Rattle.std.proofs.lemmas.Bool.{and_parts, eqb-true, false≢true, le-leb, leb-true}
use Rattle.std.proofs.lemmas.Option.{none-some, same_Some}
use Rattle.std.specs.Option.{option_map}
use Rattle.qh_base.specs.declared.connection_error.ConnectionError.TheVariants as error
use Rattle.qh_base.specs.declared.stream_id.StreamId.{StreamId}
use Rattle.qh_book.specs.Book.{Book, index_of, is_own, is_read, is_two_way, tally, was_opened as book_opened, with_recv, with_tally}
use Rattle.qh_book.specs.Items.{arrives, bring, bring_all, brought_recv, brought_send, confirmed, item_of, on_recv, on_send, with_arrived}
use Rattle.qh_book.specs.Pages.{RecvPage, SendPage, Tally, is_open, is_reset, live_send, new_recv_page, open_recv, with_end, with_reset_by_peer, with_run, without_waiting}
use Rattle.qh_book.specs.Shown.{Note, ShowsStreams}
use Rattle.qh_book.specs.declared.interest.Interest.{Interest}
use Rattle.qh_book.specs.declared.item.Item.TheVariants as item
use Rattle.qh_buffers.specs.declared.assembler.Chunk.{Chunk}
use Rattle.qh_half.specs.Send.{PlainSend}
use Rattle.qh_halves.specs.Counts.{has_recv, has_send, is_bi}
use Rattle.qh_halves.specs.SendHalves.{send_at}
use Rattle.qh_shown.specs.Kept.{IsUncalled, IsUntouched, Keeps, KeepsLost, is_unaccepted}
use Rattle.qh_spec.specs.FrameTypes as frame_types
use Rattle.qh_spec.specs.declared.sides.Dir.{Dir}
use Rattle.qh_spec.specs.declared.sides.Dir.TheVariants.{Bi, Uni}
use Rattle.qh_spec.specs.declared.sides.Side.{Side}
use Rattle.qh_streams.proofs.StreamsArrived.{closed_before}
use Rattle.qh_streams.specs.Items.{arrival, confirmed_items, confirmed_of, end_items, first_items, items_of}
use Rattle.qh_streams.specs.Streams.{PlainStreams, Refusal, arrives_with, counts_of, first_limit, id_refusal, or_refusal, refusal_of, size_refusal, was_opened}
use Rattle.qh_streams.specs.declared.frames.PeerLimits.{PeerLimits}
use Rattle.qh_streams.specs.declared.frames.SentFrame.{SentFrame}
use Rattle.qh_streams.specs.declared.frames.SentFrame.TheVariants as sent
use Rattle.qh_streams.specs.declared.frames.StreamFrame.{StreamFrame}
use Rattle.qh_streams.specs.declared.frames.StreamFrame.TheVariants as coming
use Rattle.qh_streams.specs.declared.items.Item.{Item}
use Rattle.qh_streams.specs.declared.items.Item.TheVariants as logged

-- ---- one after another

pub keeps_self : (b : Book) → Keeps b b
keeps_self b = record { readers = refl; handles = refl; interests = refl; stable_id = refl; error = refl; is_emptied = refl; page = λ k p is. (p, is, refl, refl, refl); untouched = λ u. u }

pub keeps_both : (b c d : Book) → Keeps b c → Keeps c d → Keeps b d
keeps_both b c d x y = record {
  readers = y.readers ∙ x.readers;
  handles = y.handles ∙ x.handles;
  interests = y.interests ∙ x.interests;
  stable_id = y.stable_id ∙ x.stable_id;
  error = y.error ∙ x.error;
  is_emptied = y.is_emptied ∙ x.is_emptied;
  page = λ k p is. let m = x.page k p is in let n = y.page k m.0 m.1 in (n.0, n.1, n.2 ∙ m.2, n.3 ∙ m.3, n.4 ∙ m.4);
  untouched = λ u. y.untouched (x.untouched u);
}

pub keeps_lost : (b c d : Book) → Keeps b c → KeepsLost c d → KeepsLost b d
keeps_lost b c d x y = record {
  readers = y.readers ∙ x.readers;
  handles = y.handles ∙ x.handles;
  interests = y.interests ∙ x.interests;
  stable_id = y.stable_id ∙ x.stable_id;
  error = y.error;
  page = λ k p is. let m = x.page k p is in let n = y.page k m.0 m.1 in (n.0, n.1, n.2 ∙ m.2, n.3 ∙ m.3, n.4 ∙ m.4);
  untouched = λ u. y.untouched (x.untouched u);
}

pub uncalled_on : (id : ℕ) (b c : Book) → IsUncalled id b → Keeps b c → IsUncalled id c
uncalled_on id b c u s = record {
  readers = λ k. ap (λ (z : ℕ → Bool). z k) s.readers ∙ u.readers k;
  handles = s.handles ∙ u.handles;
  interests = λ i. ap (λ (z : Interest → Bool). z i) s.interests ∙ u.interests i;
  stable_id = s.stable_id ∙ u.stable_id;
  error = s.error ∙ u.error;
  untouched = s.untouched u.untouched;
}

brought_both : (xs ys : List Item) (b : Book) → bring_all (map item_of (xs ++ ys)) b ≡ bring_all (map item_of ys) (bring_all (map item_of xs) b)
brought_both [] ys b = refl
brought_both (x ∷ xs) ys b = brought_both xs ys (bring (item_of x) b)

-- ---- pages

-- what stays of a page
record IsSamePage (p q : RecvPage) : Type 0 where
  state : q.state ≡ p.state
  gave_error : q.gave_error ≡ p.gave_error
  is_unordered : q.is_unordered ≡ p.is_unordered

same_if : (test : Bool) (p q : RecvPage) → IsSamePage p q → IsSamePage p (if test then p else q)
same_if true p q s = record { state = refl; gave_error = refl; is_unordered = refl }
same_if false p q s = s

same_run : (c : Chunk) (p : RecvPage) → IsSamePage p (with_run c p)
same_run c p = same_if (is_some p.reset_code) p _ (record { state = refl; gave_error = refl; is_unordered = refl })

same_end : (size : ℕ) (p : RecvPage) → IsSamePage p (with_end size p)
same_end size p = same_if (is_some p.reset_code) p _ (record { state = refl; gave_error = refl; is_unordered = refl })

same_reset : (code size : ℕ) (p : RecvPage) → IsSamePage p (with_reset_by_peer code size p)
same_reset code size p = same_if (is_some p.reset_code) p _ (record { state = refl; gave_error = refl; is_unordered = refl })

-- what becomes of the page of a half, if it has one
record IsKept (o n : Option RecvPage) : Type 0 where
  page : (p : RecvPage) → o ≡ Some p → (q : RecvPage) × (n ≡ Some q) × (q.state ≡ p.state) × (q.gave_error ≡ p.gave_error) × (q.is_unordered ≡ p.is_unordered)
  untouched : IfSome o IsUntouched → IfSome n IsUntouched

kept_self : (o : Option RecvPage) → IsKept o o
kept_self o = record { page = λ p is. (p, is, refl, refl, refl); untouched = λ u. u }

kept_page : (p q : RecvPage) → IsSamePage p q → IsKept (Some p) (Some q)
kept_page p q s = record {
  page = λ r is. let same : p ≡ r = same_Some p r is in (
    q,
    refl,
    s.state ∙ ap (λ (z : RecvPage). z.state) same,
    s.gave_error ∙ ap (λ (z : RecvPage). z.gave_error) same,
    s.is_unordered ∙ ap (λ (z : RecvPage). z.is_unordered) same,
  );
  untouched = λ u. record { state = s.state ∙ u.state; gave_error = s.gave_error ∙ u.gave_error; is_unordered = s.is_unordered ∙ u.is_unordered };
}

kept_put : (here : Bool) (o : Option RecvPage) (p q : RecvPage) → (here ≡ true → o ≡ Some p) → IsSamePage p q → IsKept o (if here then Some q else o)
kept_put true o p q is s = subst (λ (z : Option RecvPage). IsKept z (Some q)) (sym (is refl)) (kept_page p q s)
kept_put false o p q is s = kept_self o

kept_new : (here : Bool) (o : Option RecvPage) → (here ≡ true → o ≡ None) → IsKept o (if here then Some new_recv_page else o)
kept_new true o none = record {
  page = λ p is. absurd (none-some p (sym (none refl) ∙ is));
  untouched = λ u. record { state = refl; gave_error = refl; is_unordered = refl };
}
kept_new false o none = kept_self o

-- ---- books

-- only what shows streams changed, and no stream was accepted
record IsLike (b c : Book) : Type 0 where
  readers : c.readers ≡ b.readers
  handles : c.handles ≡ b.handles
  interests : c.interests ≡ b.interests
  stable_id : c.stable_id ≡ b.stable_id
  error : c.error ≡ b.error
  is_emptied : c.is_emptied ≡ b.is_emptied
  side : c.side ≡ b.side
  bi : c.bi.accepted ≡ b.bi.accepted
  uni : c.uni.accepted ≡ b.uni.accepted
  pages : (k : ℕ) → IsKept (b.recvs k) (c.recvs k)

keeps_like : (b c : Book) → IsLike b c → Keeps b c
keeps_like b c l = record {
  readers = l.readers;
  handles = l.handles;
  interests = l.interests;
  stable_id = l.stable_id;
  error = l.error;
  is_emptied = l.is_emptied;
  page = λ k. (l.pages k).page;
  untouched = λ u. record {
    unheld = λ k waits. ap (λ (z : ℕ → Bool). z k) l.readers ∙ u.unheld k (sym (same k) ∙ waits);
    page = λ k waits. (l.pages k).untouched (u.page k (sym (same k) ∙ waits));
  };
}
  where
    same : (k : ℕ) → is_unaccepted c k ≡ is_unaccepted b k
    same k = ap (λ (z : Side). not (is_own z k) && nat_le (if is_two_way k then c.bi.accepted else c.uni.accepted) (index_of k)) l.side
        ∙ ap (λ (n : ℕ). not (is_own b.side k) && nat_le (if is_two_way k then n else c.uni.accepted) (index_of k)) l.bi
        ∙ ap (λ (n : ℕ). not (is_own b.side k) && nat_le (if is_two_way k then b.bi.accepted else n) (index_of k)) l.uni

keeps_if : (test : Bool) (b c d : Book) → Keeps b c → Keeps b d → Keeps b (if test then c else d)
keeps_if true b c d x y = x
keeps_if false b c d x y = y

-- ---- items of a connection

pub connected_keeps : (b : Book) → Keeps b (bring item.Connected b)
connected_keeps b =
    keeps_like b _ (record { readers = refl; handles = refl; interests = refl; stable_id = refl; error = refl; is_emptied = refl; side = refl; bi = refl; uni = refl; pages = λ k. kept_self (b.recvs k) })

pub datagram_keeps : (payload : List ℕ) (b : Book) → Keeps b (bring (item.Datagram payload) b)
datagram_keeps payload b =
    keeps_like b _ (record { readers = refl; handles = refl; interests = refl; stable_id = refl; error = refl; is_emptied = refl; side = refl; bi = refl; uni = refl; pages = λ k. kept_self (b.recvs k) })

pub sent_keeps : (count : ℕ) (b : Book) → Keeps b (bring (item.DatagramsSent count) b)
sent_keeps count b =
    keeps_like b _ (record { readers = refl; handles = refl; interests = refl; stable_id = refl; error = refl; is_emptied = refl; side = refl; bi = refl; uni = refl; pages = λ k. kept_self (b.recvs k) })

pub bounded_keeps : (most : Option ℕ) (b : Book) → Keeps b (bring (item.MaxDatagramSize most) b)
bounded_keeps most b =
    keeps_like b _ (record { readers = refl; handles = refl; interests = refl; stable_id = refl; error = refl; is_emptied = refl; side = refl; bi = refl; uni = refl; pages = λ k. kept_self (b.recvs k) })

-- ---- want of memory

module _ (b : Book) where
  -- what isn't accepted then wasn't before
  unaccepted_before : (k : ℕ) → is_unaccepted (bring (item.Lost error.Memory) b) k ≡ true → is_unaccepted b k ≡ true
  unaccepted_before k waits = let parts = and_parts (not (is_own b.side k)) (nat_le (if is_two_way k then max b.bi.accepted b.bi.arrived else max b.uni.accepted b.uni.arrived) (index_of k)) waits in
      subst (λ (z : Bool). (z && nat_le (if is_two_way k then b.bi.accepted else b.uni.accepted) (index_of k)) ≡ true) (sym parts.0) (below (is_two_way k) parts.1)
    where
      below : (two_way : Bool) → nat_le (if two_way then max b.bi.accepted b.bi.arrived else max b.uni.accepted b.uni.arrived) (index_of k) ≡ true → nat_le (if two_way then b.bi.accepted else b.uni.accepted) (index_of k) ≡ true
      below true is = let low = leb-true (max b.bi.accepted b.bi.arrived) (index_of k) is in le-leb b.bi.accepted (index_of k) (omega arith)
      below false is = let low = leb-true (max b.uni.accepted b.uni.arrived) (index_of k) is in le-leb b.uni.accepted (index_of k) (omega arith)

  untouched_still : (o : Option RecvPage) → IfSome o IsUntouched → IfSome (option_map without_waiting o) IsUntouched
  untouched_still None u = u
  untouched_still (Some p) u = record { state = u.state; gave_error = u.gave_error; is_unordered = u.is_unordered }

  pub lost_keeps : KeepsLost b (bring (item.Lost error.Memory) b)
  lost_keeps = record {
    readers = refl;
    handles = refl;
    interests = refl;
    stable_id = refl;
    error = refl;
    page = λ k p is. (without_waiting p, ap (λ (o : Option RecvPage). option_map without_waiting o) is, refl, refl, refl);
    untouched = λ u. record {
      unheld = λ k waits. u.unheld k (unaccepted_before k waits);
      page = λ k waits. untouched_still (b.recvs k) (u.page k (unaccepted_before k waits));
    };
  }

-- ---- items of streams that arrived

open_is : (o : Option RecvPage) (p : RecvPage) → open_recv o ≡ Some p → o ≡ Some p
open_is None p is = is
open_is (Some q) p is = cases (is_open q.state) is
  where
    cases : (up : Bool) → (if up then Some q else None) ≡ Some p → Some q ≡ Some p
    cases true same = same
    cases false none = absurd (none-some p none)

recv_keeps : (f : RecvPage → RecvPage) → ((p : RecvPage) → IsSamePage p (f p)) → (id : ℕ) (b : Book) → Keeps b (brought_recv f id b)
recv_keeps f same id b = at (open_recv (b.recvs id)) refl
  where
    at : (o : Option RecvPage) → open_recv (b.recvs id) ≡ o → Keeps b (on_recv f o id b)
    at None is = keeps_self b
    at (Some p) is = keeps_like b (with_recv b id (f p)) (record {
      readers = refl;
      handles = refl;
      interests = refl;
      stable_id = refl;
      error = refl;
      is_emptied = refl;
      side = refl;
      bi = refl;
      uni = refl;
      pages = λ k. kept_put (k == id) (b.recvs k) p (f p) (λ here. ap b.recvs (eqb-true k id here) ∙ open_is (b.recvs id) p is) (same p);
    })

send_keeps : (f : SendPage → SendPage) (id : ℕ) (b : Book) → Keeps b (brought_send f id b)
send_keeps f id b = at (live_send (b.sends id))
  where
    at : (o : Option SendPage) → Keeps b (on_send f o id b)
    at None = keeps_self b
    at (Some p) = keeps_like b _ (record { readers = refl; handles = refl; interests = refl; stable_id = refl; error = refl; is_emptied = refl; side = refl; bi = refl; uni = refl; pages = λ k. kept_self (b.recvs k) })

count_keeps : (dir : Dir) (b : Book) (permitted : ℕ) → Keeps b (with_tally b dir (record (tally b dir) { permitted = permitted }))
count_keeps Bi b permitted =
    keeps_like b _ (record { readers = refl; handles = refl; interests = refl; stable_id = refl; error = refl; is_emptied = refl; side = refl; bi = refl; uni = refl; pages = λ k. kept_self (b.recvs k) })
count_keeps Uni b permitted =
    keeps_like b _ (record { readers = refl; handles = refl; interests = refl; stable_id = refl; error = refl; is_emptied = refl; side = refl; bi = refl; uni = refl; pages = λ k. kept_self (b.recvs k) })

credits_keeps : (bidi uni : ℕ) (b : Book) → Keeps b (bring (item.FirstCredits bidi uni) b)
credits_keeps bidi uni b =
    keeps_like b _ (record { readers = refl; handles = refl; interests = refl; stable_id = refl; error = refl; is_emptied = refl; side = refl; bi = refl; uni = refl; pages = λ k. kept_self (b.recvs k) })

credit_keeps : (limit : ℕ) (b : Book) → Keeps b (bring (item.Credit limit) b)
credit_keeps limit b =
    keeps_like b _ (record { readers = refl; handles = refl; interests = refl; stable_id = refl; error = refl; is_emptied = refl; side = refl; bi = refl; uni = refl; pages = λ k. kept_self (b.recvs k) })

confirmed_keeps : (to : ℕ) (has_end : Bool) (o : Option SendPage) (id : ℕ) (b : Book) → Keeps b (confirmed to has_end o id b)
confirmed_keeps to has_end None id b = keeps_self b
confirmed_keeps to has_end (Some p) id b = keeps_if (is_reset p.state) b b _ (keeps_self b)
    (keeps_like b _ (record { readers = refl; handles = refl; interests = refl; stable_id = refl; error = refl; is_emptied = refl; side = refl; bi = refl; uni = refl; pages = λ k. kept_self (b.recvs k) }))

piece_keeps : (id : StreamId) (offset : ℕ) (payload : List ℕ) (fin : Bool) (b : Book) → Keeps b (bring_all (map item_of (logged.Run id offset payload ∷ end_items fin id (offset + length payload))) b)
piece_keeps id offset payload fin b = keeps_both b mid _ (recv_keeps (with_run (record { offset = offset; bytes = payload })) (same_run (record { offset = offset; bytes = payload })) id.0 b) (ends fin)
  where
    mid : Book
    mid = brought_recv (with_run (record { offset = offset; bytes = payload })) id.0 b

    ends : (fin : Bool) → Keeps mid (bring_all (map item_of (end_items fin id (offset + length payload))) mid)
    ends true = recv_keeps (with_end (offset + length payload)) (same_end (offset + length payload)) id.0 mid
    ends false = keeps_self mid

-- ---- streams that arrive

and_false : (x : Bool) → (x && false) ≡ false
and_false true = refl
and_false false = refl

none_of : {X : Type 0} (o : Option X) → is_some o ≡ false → o ≡ None
none_of None is = refl
none_of (Some x) is = absurd (false≢true (sym is))

new_keeps : (b : Book) (sends : ℕ → Option SendPage) (recvs : ℕ → Option RecvPage) (dir : Dir) (arrived : ℕ) → ((k : ℕ) → IsKept (b.recvs k) (recvs k))
    → Keeps b (with_tally (record b { sends = sends; recvs = recvs }) dir (record (tally b dir) { arrived = arrived }))
new_keeps b sends recvs Bi arrived pages = keeps_like b _ (record { readers = refl; handles = refl; interests = refl; stable_id = refl; error = refl; is_emptied = refl; side = refl; bi = refl; uni = refl; pages = pages })
new_keeps b sends recvs Uni arrived pages = keeps_like b _ (record { readers = refl; handles = refl; interests = refl; stable_id = refl; error = refl; is_emptied = refl; side = refl; bi = refl; uni = refl; pages = pages })

arrived_keeps : (id credit : ℕ) (b : Book) → ((k : ℕ) → arrives b id k ≡ true → b.recvs k ≡ None) → Keeps b (with_arrived id credit b)
arrived_keeps id credit b none = new_keeps b _ _ _ _ (λ k. kept_new (arrives b id k) (b.recvs k) (none k))

module _ {notes : ℕ → Note} (s : PlainStreams) (b : Book) (shown : ShowsStreams s notes b) where
  opened_count : (own two_way : Bool) → (if own then (if two_way then b.bi.opened else b.uni.opened) else (if two_way then b.bi.arrived else b.uni.arrived)) ≡ (if own then (counts_of s two_way).opened else (counts_of s two_way).arrived)
  opened_count true true = ap (λ (t : Tally). t.opened) shown.bi
  opened_count true false = ap (λ (t : Tally). t.opened) shown.uni
  opened_count false true = ap (λ (t : Tally). t.arrived) shown.bi
  opened_count false false = ap (λ (t : Tally). t.arrived) shown.uni

  same_opened : (k : ℕ) → book_opened b k ≡ was_opened s k
  same_opened k =
      ap (λ (z : Side). nat_lt (index_of k) (if is_own z k then (if is_two_way k then b.bi.opened else b.uni.opened) else (if is_two_way k then b.bi.arrived else b.uni.arrived))) shown.side
      ∙ ap (λ (n : ℕ). nat_lt (index_of k) n) (opened_count (is_own s.side k) (is_bi k))

  -- a stream that wasn't opened has no page
  no_page : (k : ℕ) → was_opened s k ≡ false → b.recvs k ≡ None
  no_page k closed = none_of (b.recvs k) (shown.pages k ∙ ap (λ (z : Bool). is_read b k && z) (same_opened k ∙ closed) ∙ and_false (is_read b k))

  arrived_count : (two_way : Bool) → (tally b (if two_way then Bi else Uni)).arrived ≡ (counts_of s two_way).arrived
  arrived_count true = ap (λ (t : Tally). t.arrived) shown.bi
  arrived_count false = ap (λ (t : Tally). t.arrived) shown.uni

  same_arrives : (id k : ℕ) → arrives b id k ≡ arrives_with s id k
  same_arrives id k = ap (λ (n : ℕ). k % 4 == id % 4 && (nat_le n (index_of k) && nat_le (index_of k) (index_of id))) (arrived_count (is_bi id))

  theirs : (own opened : Bool) → opened ≡ false → (own ≡ true → opened ≡ true) → own ≡ false
  theirs true opened closed ours = absurd (false≢true (sym closed ∙ ours refl))
  theirs false opened closed ours = refl

  -- a stream of this end's that a frame names was opened
  pub arrival_keeps : (id : StreamId) → (is_own s.side id.0 ≡ true → was_opened s id.0 ≡ true) → Keeps b (bring_all (map item_of (arrival s id)) b)
  arrival_keeps id ours = cases (was_opened s id.0) refl
    where
      cases : (opened : Bool) → was_opened s id.0 ≡ opened → Keeps b (bring_all (map item_of (if opened then [] else logged.Arrived id (first_limit s id.0) ∷ [])) b)
      cases true is = keeps_self b
      cases false is =
          let own = theirs (is_own s.side id.0) (was_opened s id.0) is ours in
          arrived_keeps id.0 (first_limit s id.0) b (λ k there. no_page k (closed_before s id.0 (is_bi id.0) own refl k (sym (same_arrives id.0 k) ∙ there)))

-- ---- frames

first_none : (o second : Option Refusal) → or_refusal o second ≡ None → o ≡ None
first_none None second is = refl
first_none (Some r) second is = is

ours_at : (has own opened : Bool) (a c : Option Refusal) (r s : Refusal) → (if not has then Some r else if own then (if opened then None else Some s) else c) ≡ None → own ≡ true → opened ≡ true
ours_at false own opened a c r s is up = absurd (none-some r (sym is))
ours_at true true true a c r s is up = refl
ours_at true true false a c r s is up = absurd (none-some s (sym is))
ours_at true false opened a c r s is up = absurd (false≢true up)

ours : (s : PlainStreams) (id : ℕ) (has : Bool) (frame : ℕ) → id_refusal s id has frame ≡ None → is_own s.side id ≡ true → was_opened s id ≡ true
ours s id has frame is = ours_at has (is_own s.side id) (was_opened s id) None _ _ _ is

-- a stream that a frame names, and what it brings of it
named_keeps : {notes : ℕ → Note} (s : PlainStreams) (b : Book) (id : StreamId) (items : List Item) → ShowsStreams s notes b → (is_own s.side id.0 ≡ true → was_opened s id.0 ≡ true) → ((c : Book) → Keeps c (bring_all (map item_of items) c))
    → Keeps b (bring_all (map item_of (arrival s id ++ items)) b)
named_keeps s b id items shown own rest =
    let mid = bring_all (map item_of (arrival s id)) b in
    subst (λ (z : Book). Keeps b z) (sym (brought_both (arrival s id) items b)) (keeps_both b mid (bring_all (map item_of items) mid) (arrival_keeps s b shown id own) (rest mid))

pub received_keeps : {notes : ℕ → Note} (s : PlainStreams) (b : Book) (frame : StreamFrame) → ShowsStreams s notes b → refusal_of s frame ≡ None → Keeps b (bring_all (map item_of (items_of s frame)) b)
received_keeps s b (coming.Stream id offset payload fin) shown none =
    named_keeps s b id _ shown (ours s id.0 (has_recv s.side id.0) frame_types.stream (first_none _ (size_refusal s id.0 (offset + length payload) fin frame_types.stream) none)) (piece_keeps id offset payload fin)
received_keeps s b (coming.Reset id code size) shown none =
    named_keeps s b id (logged.Reset id code size ∷ []) shown (ours s id.0 (has_recv s.side id.0) frame_types.reset_stream (first_none _ (size_refusal s id.0 size true frame_types.reset_stream) none))
    (recv_keeps (with_reset_by_peer code size) (same_reset code size) id.0)
received_keeps s b (coming.Stop id code) shown none = named_keeps s b id (logged.Stop id code ∷ []) shown (ours s id.0 (has_send s.side id.0) frame_types.stop_sending none) (send_keeps _ id.0)
received_keeps s b (coming.MaxData limit) shown none = credit_keeps limit b
received_keeps s b (coming.MaxStreamData id limit) shown none = named_keeps s b id (logged.StreamCredit id limit ∷ []) shown (ours s id.0 (has_send s.side id.0) frame_types.max_stream_data none) (send_keeps _ id.0)
received_keeps s b (coming.MaxStreams dir count) shown none = count_keeps dir b _

said_keeps : (id : StreamId) (before after : Option PlainSend) (b : Book) → Keeps b (bring_all (map item_of (confirmed_of id before after)) b)
said_keeps id None after b = keeps_self b
said_keeps id (Some half) after b = confirmed_keeps _ _ (live_send (b.sends id.0)) id.0 b

reset_said : (test : Bool) (id : StreamId) (b : Book) → Keeps b (bring_all (map item_of (if test then logged.ResetConfirmed id ∷ [] else [])) b)
reset_said true id b = send_keeps _ id.0 b
reset_said false id b = keeps_self b

pub acked_keeps : (old new : PlainStreams) (b : Book) (frame : SentFrame) → Keeps b (bring_all (map item_of (confirmed_items old new frame)) b)
acked_keeps old new b (sent.Stream id piece) = said_keeps id (send_at old.send id.0) (send_at new.send id.0) b
acked_keeps old new b (sent.ResetStream id reset_frame) = reset_said (is_some (send_at old.send id.0) && not (is_some (send_at new.send id.0))) id b
acked_keeps old new b other = keeps_self b

pub first_keeps : (peer : PeerLimits) (b : Book) → Keeps b (bring_all (map item_of (first_items peer)) b)
first_keeps peer b =
    let one = bring (item.FirstCredits peer.bidi_remote peer.uni) b in
    let two = bring (item.Credit peer.max_data) one in
    let three = bring (item_of (logged.Count Bi _)) two in
    keeps_both b one _ (credits_keeps peer.bidi_remote peer.uni b) (keeps_both one two _ (credit_keeps peer.max_data one) (keeps_both two three _ (count_keeps Bi two _) (count_keeps Uni three _)))
