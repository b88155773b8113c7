-- Streams that are opened, accepted and that arrive.
use Rattle.std.proofs.Common.{◌≡◌, ℕ, ◌+◌, ◌/◌, ◌%◌, ◌<◌, ◌≤◌, ◌==◌, nat_lt, Bool, true, false, ◌&&◌, ◌||◌, not, Option, Some, None, is_some, if◌then◌else◌, refl, sym, ap, ◌∙◌, arith, inl, inr, subst}
use Rattle.std.proofs.lemmas.Bool.{cases_Bool, cases_order, eqb-false, eqb-true, false≢true, le-leb, le-ltb, lt-ltb}
use Rattle.qh_base.specs.declared.stream_id.StreamId.{StreamId}
use Rattle.qh_book.specs.Book.{Book, held_with, is_read, tally, was_opened}
use Rattle.qh_book.specs.Interests.{waits}
use Rattle.qh_book.specs.declared.interest.Interest.TheVariants as waiting
use Rattle.qh_base.specs.declared.connection_error.ConnectionError.{ConnectionError}
use Rattle.qh_book.specs.Opening.{Accepts, Opens, handles_of, with_accepted, with_opened}
use Rattle.qh_book.specs.Pages.{RecvPage, SendPage, Tally, new_recv_page, new_send_page}
use Rattle.qh_book.specs.Shown.{IsStreamStep, Note, ShowsRecv, ShowsSend, ShowsStreams, no_note, tally_of}
use Rattle.qh_book.specs.declared.call.Call.TheVariants as call
use Rattle.qh_book.specs.declared.reply.Reply.TheVariants as reply
use Rattle.qh_half.specs.Recv.{PlainRecv, new_recv}
use Rattle.qh_half.specs.Send.{PlainSend, new_send}
use Rattle.qh_halves.specs.Counts.{has_recv, has_send, index_of, is_bi, is_own, other_side}
use Rattle.qh_halves.specs.RecvHalves.{recv_at}
use Rattle.qh_halves.specs.SendHalves.{PlainSendHalves, send_at}
use Rattle.qh_spec.specs.Link.{other}
use Rattle.qh_spec.specs.StreamId.{stream_id}
use Rattle.qh_spec.specs.declared.sides.Dir.{Dir}
use Rattle.qh_spec.specs.declared.sides.Dir.TheVariants.{Bi, Uni}
use Rattle.qh_spec.specs.declared.sides.Side.{Side}
use Rattle.qh_spec.specs.declared.sides.Side.TheVariants.{Client, Server}
use Rattle.qh_streams.proofs.StreamsOpened.{bi_id, index_id, own_id}
use Rattle.qh_streams.specs.Streams.{IsOpened, PlainStreams, counts_of, is_two_way, new_recv_half, new_send_half, with_accepted as counts_accepted, with_counts, with_opened as counts_opened}

-- ---- halves that are new

pub new_send_shown : (limit : ℕ) → ShowsSend (Some (new_send limit)) (Some (new_send_page limit))
new_send_shown limit = (refl, refl)

pub new_recv_shown : (note : Note) (window : ℕ) → note ≡ no_note → ShowsRecv note (Some (new_recv window)) (Some new_recv_page)
new_recv_shown note window none = (refl, (record { state = refl; unread = λ k. nothing (nat_lt k 0); next = λ ordered k. none_below k; was_read = λ k. refl; read = refl; end = refl; reset_code = refl; dry = λ has k. nothing (nat_lt k 0); is_unordered = refl }, record { none = ap (λ (x : Note). x.code) none; untold = ap (λ (x : Note). x.is_told) none; gave_error = sym (ap (λ (x : Note). x.gave_error) none) }))
  where
    nothing : (low : Bool) → ◌≡◌ {A = Option ℕ} (if low then None else None) None
    nothing true = refl
    nothing false = refl

    none_below : (k : ℕ) → false ≡ nat_lt k 0
    none_below k = grind arith

pub put_send : (here : Bool) (n new o : Option PlainSend) (page : Option SendPage) (p : SendPage) → n ≡ (if here then new else o) → ShowsSend o page → (here ≡ true → ShowsSend new (Some p)) → ShowsSend n (if here then Some p else page)
put_send true n new o page p is before after = rw is (after refl)
put_send false n new o page p is before after = rw is before

pub put_recv : (note : Note) (here : Bool) (n new o : Option PlainRecv) (page : Option RecvPage) (p : RecvPage) → n ≡ (if here then new else o) → ShowsRecv note o page → (here ≡ true → ShowsRecv note new (Some p)) → ShowsRecv note n (if here then Some p else page)
put_recv note true n new o page p is before after = rw is (after refl)
put_recv note false n new o page p is before after = rw is before

keep_recv : (note : Note) (here : Bool) (n new o : Option PlainRecv) (page : Option RecvPage) → n ≡ (if here then new else o) → ShowsRecv note o page → (here ≡ true → (new ≡ None) × (o ≡ None)) → ShowsRecv note n page
keep_recv note true n new o page is before none = let gone : n ≡ o = is ∙ ((none refl).0 ∙ sym (none refl).1) in subst (λ (x : Option PlainRecv). ShowsRecv note x page) (sym gone) before
keep_recv note false n new o page is before none = subst (λ (x : Option PlainRecv). ShowsRecv note x page) (sym is) before

pub no_half : (here : Bool) (n new o : Option PlainRecv) → n ≡ (if here then new else o) → o ≡ None → new ≡ None → n ≡ None
no_half true n new o is before none = is ∙ none
no_half false n new o is before none = is ∙ before

pub no_send : (here : Bool) (n new o : Option PlainSend) → n ≡ (if here then new else o) → o ≡ None → new ≡ None → n ≡ None
no_send true n new o is before none = is ∙ none
no_send false n new o is before none = is ∙ before

pub new_send_none : (s : PlainStreams) (k : ℕ) → has_send s.side k ≡ false → new_send_half s k ≡ None
new_send_none s k off = rw off refl

pub new_recv_none : (s : PlainStreams) (k : ℕ) → has_recv s.side k ≡ false → new_recv_half s k ≡ None
new_recv_none s k off = rw off refl

-- ---- this end opens a stream

none_of : {X : Type 0} (o : Option X) → is_some o ≡ false → o ≡ None
none_of None h = refl
none_of (Some x) h = absurd (false≢true (sym h))

pub note_is : {note : Note} (o : Option PlainRecv) → ShowsRecv note o None → note ≡ no_note
note_is None s = s
note_is (Some r) s = absurd s

-- one more is below the next number, unless it is that
next_below : (k n : ℕ) → (k ≡ n → ⊥) → nat_lt k n ≡ nat_lt k (n + 1)
next_below k n apart = elim (cases_order k n) [
  | inl same ↦ absurd (apart same)
  | inr (inl under) ↦ lt-ltb k n under ∙ sym (lt-ltb k (n + 1) (omega (arith, under)))
  | inr (inr over) ↦ le-ltb k n (omega (arith, over)) ∙ sym (le-ltb k (n + 1) (omega (arith, over)))
]

-- the id of a two-way stream of this end's, by its index
same_id : (side : Side) (k : ℕ) → is_own side k ≡ true → is_bi k ≡ true → k ≡ stream_id side Bi (index_of k)
same_id Client k own two_way = let o = eqb-true 0 (k % 2) own in let t = eqb-true (k / 2 % 2) 0 two_way in omega (arith, o, t)
same_id Server k own two_way = let o = eqb-true 1 (k % 2) own in let t = eqb-true (k / 2 % 2) 0 two_way in omega (arith, o, t)

module _ {notes : ℕ → Note} (old new : PlainStreams) (b : Book) (id : ℕ) (shown : ShowsStreams old notes b) (o : IsOpened old new id) where
  module _ (dir : Dir) (id_is : id ≡ stream_id old.side dir (counts_of old (is_two_way dir)).opened) where
    own : is_own old.side id ≡ true
    own = ap (is_own old.side) id_is ∙ own_id old.side dir _

    bi : is_bi id ≡ is_two_way dir
    bi = ap is_bi id_is ∙ bi_id old.side dir _

    rest : new ≡ with_counts (record old { send = new.send; recv = new.recv }) (is_two_way dir) (counts_opened (counts_of old (is_two_way dir)))
    rest = o.rest_is ∙ ap (λ (two_way : Bool). with_counts (record old { send = new.send; recv = new.recv }) two_way (counts_opened (counts_of old two_way))) bi

  opened_unread : (k : ℕ) → new.side ≡ old.side → has_recv new.side k ≡ false → recv_at new.recv k ≡ None
  opened_unread k side none = let off : has_recv old.side k ≡ false = ap (λ (s : Side). has_recv s k) (sym side) ∙ none in
      no_half (k == id) _ (new_recv_half old k) _ (o.halves.recv_is k) (shown.unread_sides k off) (new_recv_none old k off)

  opened_unsent : (k : ℕ) → new.side ≡ old.side → has_send new.side k ≡ false → send_at new.send k ≡ None
  opened_unsent k side none = let off : has_send old.side k ≡ false = ap (λ (s : Side). has_send s k) (sym side) ∙ none in
      no_send (k == id) _ (new_send_half old k) _ (o.halves.send_is k) (shown.unsent_sides k off) (new_send_none old k off)

  opened_bi : id ≡ stream_id old.side Bi old.bi.opened → ShowsStreams new notes (with_opened Bi id b)
  opened_bi id_is =
      let r = rest Bi id_is in
      let own_is = own Bi id_is in
      let bi_is = bi Bi id_is in
      record {
        side = shown.side ∙ sym (ap (λ (s : PlainStreams). s.side) r);
        sends = λ k. put_send (k == id) _ (new_send_half old k) _ (b.sends k) (new_send_page b.first_bi) (o.halves.send_is k) (shown.sends k) (λ here. send_new own_is bi_is k (eqb-true k id here));
        recvs = λ k. put_recv (notes k) (k == id) _ (new_recv_half old k) _ (b.recvs k) new_recv_page (o.halves.recv_is k) (shown.recvs k) (λ here. recv_new own_is bi_is k (eqb-true k id here));
        unsent_sides = λ k. opened_unsent k (ap (λ (s : PlainStreams). s.side) r);
        unread_sides = λ k. opened_unread k (ap (λ (s : PlainStreams). s.side) r);
        pages = λ k. page_opened id_is k;
        bi = ap (λ (t : Tally). record t { opened = t.opened + 1 }) shown.bi ∙ sym (ap (λ (s : PlainStreams). tally_of s.bi) r);
        uni = shown.uni ∙ sym (ap (λ (s : PlainStreams). tally_of s.uni) r);
        first_bi = shown.first_bi ∙ sym (ap (λ (s : PlainStreams). s.peer.bidi_remote) r);
        first_uni = shown.first_uni ∙ sym (ap (λ (s : PlainStreams). s.peer.uni) r);
        credit_to = shown.credit_to ∙ sym (ap (λ (s : PlainSendHalves). s.max_data) o.halves.send_rest);
        taken = shown.taken ∙ sym (ap (λ (s : PlainSendHalves). s.data_sent) o.halves.send_rest);
        send_window = shown.send_window ∙ sym (ap (λ (s : PlainSendHalves). s.send_window) o.halves.send_rest);
        unconfirmed = shown.unconfirmed ∙ sym o.halves.held_is;
      }
    where
      -- nothing was at its id
      no_page_before : id ≡ stream_id old.side Bi old.bi.opened → b.recvs id ≡ None
      no_page_before is =
          let own_is : is_own b.side id ≡ true = ap (λ (side : Side). is_own side id) shown.side ∙ own Bi is in
          let index : index_of id ≡ b.bi.opened = ap index_of is ∙ (index_id old.side Bi old.bi.opened ∙ sym (ap (λ (t : Tally). t.opened) shown.bi)) in
          none_of (b.recvs id) (shown.pages id ∙ (rw (own_is, bi Bi is) (le-ltb (index_of id) b.bi.opened (omega (arith, index)))))

      no_note_before : id ≡ stream_id old.side Bi old.bi.opened → notes id ≡ no_note
      no_note_before is = note_is (recv_at old.recv id) (subst (λ (q : Option RecvPage). ShowsRecv (notes id) (recv_at old.recv id) q) (no_page_before is) (shown.recvs id))

      page_opened : id ≡ stream_id old.side Bi old.bi.opened → (k : ℕ) → is_some (if k == id then Some new_recv_page else b.recvs k) ≡ (is_read b k && was_opened (with_opened Bi id b) k)
      page_opened is k = elim (cases_Bool (k == id)) [
        | inl here ↦ let same : k ≡ id = eqb-true k id here in
            let own_is : is_own b.side k ≡ true = ap (is_own b.side) same ∙ (ap (λ (side : Side). is_own side id) shown.side ∙ own Bi is) in
            let two_way : is_bi k ≡ true = ap is_bi same ∙ bi Bi is in
            let index : index_of k ≡ b.bi.opened = ap index_of same ∙ (ap index_of is ∙ (index_id old.side Bi old.bi.opened ∙ sym (ap (λ (t : Tally). t.opened) shown.bi))) in
            rw (here, own_is, two_way) (sym (lt-ltb (index_of k) (b.bi.opened + 1) (omega (arith, index))))
        | inr apart ↦ rw apart (shown.pages k ∙ others k (is_own b.side k) (is_bi k) refl refl
            (λ own_is two_way index. absurd (eqb-false k id apart (same_id b.side k own_is two_way ∙ (rw (index, shown.side, shown.bi) (sym is))))))
      ]
        where
          others : (k : ℕ) (o t : Bool) → is_own b.side k ≡ o → is_bi k ≡ t → (is_own b.side k ≡ true → is_bi k ≡ true → index_of k ≡ b.bi.opened → ⊥)
              → ((not o || t) && nat_lt (index_of k) (if o then (if t then b.bi.opened else b.uni.opened) else (if t then b.bi.arrived else b.uni.arrived)))
              ≡ ((not o || t) && nat_lt (index_of k) (if o then (if t then b.bi.opened + 1 else b.uni.opened) else (if t then b.bi.arrived else b.uni.arrived)))
          others k true true own_is two_way apart = next_below (index_of k) b.bi.opened (apart own_is two_way)
          others k true false own_is two_way apart = refl
          others k false true own_is two_way apart = refl
          others k false false own_is two_way apart = refl

      send_new : is_own old.side id ≡ true → is_bi id ≡ true → (k : ℕ) → k ≡ id → ShowsSend (new_send_half old k) (Some (new_send_page b.first_bi))
      send_new own_is bi_is k is = rw is (rw (own_is, bi_is) (rw (sym shown.first_bi) (new_send_shown b.first_bi)))

      recv_new : is_own old.side id ≡ true → is_bi id ≡ true → (k : ℕ) → k ≡ id → ShowsRecv (notes k) (new_recv_half old k) (Some new_recv_page)
      recv_new own_is bi_is k is = rw is (rw (own_is, bi_is) (new_recv_shown (notes id) _ (no_note_before id_is)))

  opened_uni : id ≡ stream_id old.side Uni old.uni.opened → ShowsStreams new notes (with_opened Uni id b)
  opened_uni id_is =
      let r = rest Uni id_is in
      let own_is = own Uni id_is in
      let bi_is = bi Uni id_is in
      record {
        side = shown.side ∙ sym (ap (λ (s : PlainStreams). s.side) r);
        sends = λ k. put_send (k == id) _ (new_send_half old k) _ (b.sends k) (new_send_page b.first_uni) (o.halves.send_is k) (shown.sends k) (λ here. send_new own_is bi_is k (eqb-true k id here));
        recvs = λ k. keep_recv (notes k) (k == id) _ (new_recv_half old k) _ (b.recvs k) (o.halves.recv_is k) (shown.recvs k) (λ here. none_new own_is bi_is k (eqb-true k id here));
        unsent_sides = λ k. opened_unsent k (ap (λ (s : PlainStreams). s.side) r);
        unread_sides = λ k. opened_unread k (ap (λ (s : PlainStreams). s.side) r);
        pages = λ k. shown.pages k ∙ one_way_opened (is_own b.side k) (is_bi k) (index_of k);
        bi = shown.bi ∙ sym (ap (λ (s : PlainStreams). tally_of s.bi) r);
        uni = ap (λ (t : Tally). record t { opened = t.opened + 1 }) shown.uni ∙ sym (ap (λ (s : PlainStreams). tally_of s.uni) r);
        first_bi = shown.first_bi ∙ sym (ap (λ (s : PlainStreams). s.peer.bidi_remote) r);
        first_uni = shown.first_uni ∙ sym (ap (λ (s : PlainStreams). s.peer.uni) r);
        credit_to = shown.credit_to ∙ sym (ap (λ (s : PlainSendHalves). s.max_data) o.halves.send_rest);
        taken = shown.taken ∙ sym (ap (λ (s : PlainSendHalves). s.data_sent) o.halves.send_rest);
        send_window = shown.send_window ∙ sym (ap (λ (s : PlainSendHalves). s.send_window) o.halves.send_rest);
        unconfirmed = shown.unconfirmed ∙ sym o.halves.held_is;
      }
    where
      -- this end reads no one-way stream of its own
      one_way_opened : (o t : Bool) (index : ℕ) → ((not o || t) && nat_lt index (if o then (if t then b.bi.opened else b.uni.opened) else (if t then b.bi.arrived else b.uni.arrived)))
          ≡ ((not o || t) && nat_lt index (if o then (if t then b.bi.opened else b.uni.opened + 1) else (if t then b.bi.arrived else b.uni.arrived)))
      one_way_opened true true index = refl
      one_way_opened true false index = refl
      one_way_opened false true index = refl
      one_way_opened false false index = refl

      send_new : is_own old.side id ≡ true → is_bi id ≡ false → (k : ℕ) → k ≡ id → ShowsSend (new_send_half old k) (Some (new_send_page b.first_uni))
      send_new own_is bi_is k is = rw is (rw (own_is, bi_is) (rw (sym shown.first_uni) (new_send_shown b.first_uni)))

      none_new : is_own old.side id ≡ true → is_bi id ≡ false → (k : ℕ) → k ≡ id → (new_recv_half old k ≡ None) × (recv_at old.recv k ≡ None)
      none_new own_is bi_is k is =
          let off : has_recv old.side k ≡ false = ap (has_recv old.side) is ∙ rw (own_is, bi_is) refl in
          (new_recv_none old k off, shown.unread_sides k off)

pub open_stepped : {notes : ℕ → Note} (T : Type 0) (old new : PlainStreams) (b : Book) (id : StreamId) (dir : Dir) → ShowsStreams old notes b → b.error ≡ None → IsOpened old new id.0 → id.0 ≡ stream_id old.side dir (counts_of old (is_two_way dir)).opened
    → (counts_of old (is_two_way dir)).opened < (counts_of old (is_two_way dir)).max_opened → IsStreamStep {T = T} b (call.Open dir) (reply.Opened id) new notes
open_stepped T old new b id Bi shown none o id_is below = record {
  after = with_opened Bi id.0 b;
  allows = (none, rw shown.bi below, id_is ∙ rw (shown.side, shown.bi) refl, refl);
  shows = opened_bi old new b id.0 shown o id_is;
  rest = refl;
}
open_stepped T old new b id Uni shown none o id_is below = record {
  after = with_opened Uni id.0 b;
  allows = (none, rw shown.uni below, id_is ∙ rw (shown.side, shown.uni) refl, refl);
  shows = opened_uni old new b id.0 shown o id_is;
  rest = refl;
}

-- ---- this end accepts a stream

same_side : (side : Side) → other side ≡ other_side side
same_side Client = refl
same_side Server = refl

accepted : {notes : ℕ → Note} (old new : PlainStreams) (b : Book) (dir : Dir) → ShowsStreams old notes b → new ≡ with_counts old (is_two_way dir) (counts_accepted (counts_of old (is_two_way dir))) → ShowsStreams new notes (with_accepted dir b)
accepted {notes = notes} old new b Bi shown is = subst (λ (s : PlainStreams). ShowsStreams s notes (with_accepted Bi b)) (sym is) (record {
  side = shown.side;
  sends = shown.sends;
  recvs = shown.recvs;
  unsent_sides = shown.unsent_sides;
  unread_sides = shown.unread_sides;
  pages = shown.pages;
  bi = ap (λ (t : Tally). record t { accepted = t.accepted + 1 }) shown.bi;
  uni = shown.uni;
  first_bi = shown.first_bi;
  first_uni = shown.first_uni;
  credit_to = shown.credit_to;
  taken = shown.taken;
  send_window = shown.send_window;
  unconfirmed = shown.unconfirmed;
})
accepted {notes = notes} old new b Uni shown is = subst (λ (s : PlainStreams). ShowsStreams s notes (with_accepted Uni b)) (sym is) (record {
  side = shown.side;
  sends = shown.sends;
  recvs = shown.recvs;
  unsent_sides = shown.unsent_sides;
  unread_sides = shown.unread_sides;
  pages = shown.pages;
  bi = shown.bi;
  uni = ap (λ (t : Tally). record t { accepted = t.accepted + 1 }) shown.uni;
  first_bi = shown.first_bi;
  first_uni = shown.first_uni;
  credit_to = shown.credit_to;
  taken = shown.taken;
  send_window = shown.send_window;
  unconfirmed = shown.unconfirmed;
})

tally_shown : {notes : ℕ → Note} (s : PlainStreams) (b : Book) (dir : Dir) → ShowsStreams s notes b → tally b dir ≡ tally_of (counts_of s (is_two_way dir))
tally_shown s b Bi shown = shown.bi
tally_shown s b Uni shown = shown.uni

pub accept_stepped : {notes : ℕ → Note} (T : Type 0) (old new : PlainStreams) (b : Book) (id : StreamId) (dir : Dir) → ShowsStreams old notes b → new ≡ with_counts old (is_two_way dir) (counts_accepted (counts_of old (is_two_way dir)))
    → id.0 ≡ stream_id (other_side old.side) dir (counts_of old (is_two_way dir)).accepted → (counts_of old (is_two_way dir)).accepted < (counts_of old (is_two_way dir)).arrived → IsStreamStep {T = T} b (call.Accept dir) (reply.Opened id) new notes
accept_stepped T old new b id dir shown is id_is below = record {
  after = with_accepted dir b;
  allows = (rw (tally_shown old b dir shown) below, number_is, refl);
  shows = accepted old new b dir shown is;
  rest = accepted_rest dir id.0 (sym number_is);
}
  where
    number_is : id.0 ≡ stream_id (other b.side) dir (tally b dir).accepted
    number_is = id_is ∙ (rw (tally_shown old b dir shown, shown.side) (ap (λ (side : Side). stream_id side dir (counts_of old (is_two_way dir)).accepted) (sym (same_side old.side))))

    accepted_rest : (d : Dir) (n : ℕ) → stream_id (other b.side) d (tally b d).accepted ≡ n → with_accepted d b ≡ record b {
      sends = (with_accepted d b).sends;
      recvs = (with_accepted d b).recvs;
      readers = held_with b.readers n;
      bi = (with_accepted d b).bi;
      uni = (with_accepted d b).uni;
      taken = (with_accepted d b).taken;
      unconfirmed = (with_accepted d b).unconfirmed;
      handles = b.handles + handles_of d;
    }
    accepted_rest Bi n is = ap (λ (k : ℕ). record (with_accepted Bi b) { readers = held_with b.readers k }) is
    accepted_rest Uni n is = ap (λ (k : ℕ). record (with_accepted Uni b) { readers = held_with b.readers k }) is

-- ---- nothing can be opened, or accepted

pub open_waits : {notes : ℕ → Note} (T : Type 0) (s : PlainStreams) (b : Book) (dir : Dir) → ShowsStreams s notes b → b.error ≡ None → (counts_of s (is_two_way dir)).opened ≡ (counts_of s (is_two_way dir)).max_opened → Opens {T = T} b dir reply.Pending b
open_waits T s b dir shown none full =
    let all : (tally b dir).permitted ≤ (tally b dir).opened = rw (tally_shown s b dir shown) (omega (arith, full)) in
    let waits_now : waits b (waiting.Open dir) ≡ true = rw none (le-leb _ _ all) in (waits_now, refl)

all_accepted : {notes : ℕ → Note} (s : PlainStreams) (b : Book) (dir : Dir) → ShowsStreams s notes b → (counts_of s (is_two_way dir)).accepted ≡ (counts_of s (is_two_way dir)).arrived → (tally b dir).arrived ≤ (tally b dir).accepted
all_accepted s b dir shown all = rw (tally_shown s b dir shown) (omega (arith, all))

pub accept_waits : {notes : ℕ → Note} (T : Type 0) (s : PlainStreams) (b : Book) (dir : Dir) → ShowsStreams s notes b → b.error ≡ None → (counts_of s (is_two_way dir)).accepted ≡ (counts_of s (is_two_way dir)).arrived → Accepts {T = T} b dir reply.Pending b
accept_waits T s b dir shown none all = let waits_now : waits b (waiting.Accept dir) ≡ true = rw none (le-leb _ _ (all_accepted s b dir shown all)) in (waits_now, refl)

pub accept_lost : {notes : ℕ → Note} (T : Type 0) (s : PlainStreams) (b : Book) (dir : Dir) (e : ConnectionError) → ShowsStreams s notes b → b.error ≡ Some e → (counts_of s (is_two_way dir)).accepted ≡ (counts_of s (is_two_way dir)).arrived → Accepts {T = T} b dir (reply.ConnectionLost e) b
accept_lost T s b dir e shown is all = (all_accepted s b dir shown all, is, refl)
