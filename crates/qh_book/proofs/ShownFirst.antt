-- The first book shows streams that aren't used yet, and then the peer's first limits and the settings of this end.
use Rattle.std.proofs.Common.{◌≡◌, ℕ, ◌^◌, nat_lt, min, max, Bool, true, false, ◌&&◌, map, Option, if◌then◌else◌, refl, sym, ap, ◌∙◌, arith, subst}
use Rattle.std.proofs.lemmas.Bool.{le-ltb}
use Rattle.qh_base.specs.declared.path.FourTuple.{FourTuple}
use Rattle.qh_book.specs.Book.{Book, first_book, index_of, is_own, is_read, is_two_way}
use Rattle.qh_book.specs.Items.{bring_all, item_of}
use Rattle.qh_book.specs.Pages.{Tally}
use Rattle.qh_book.specs.Shown.{AreFirst, Note, ShowsRecv, ShowsSend, ShowsStreams, no_note}
use Rattle.qh_book.specs.Values.{with_setting}
use Rattle.qh_book.specs.declared.call.Setting.TheVariants as setting
use Rattle.qh_half.specs.Recv.{PlainRecv}
use Rattle.qh_half.specs.Send.{PlainSend}
use Rattle.qh_streams.specs.Items.{first_items}
use Rattle.qh_streams.specs.Streams.{PlainStreams, with_peer}
use Rattle.qh_streams.specs.declared.frames.PeerLimits.{PeerLimits}

pub first_shown : (s : PlainStreams) (addresses : FourTuple) (stable_id : ℕ) (datagram_receive : Option ℕ) (datagram_send : ℕ) → AreFirst s → ShowsStreams s (λ k. no_note) (first_book s.side addresses stable_id s.send.send_window datagram_receive datagram_send)
first_shown s addresses stable_id datagram_receive datagram_send f = record {
  side = refl;
  sends = λ k. rw (f.sends k) tt;
  recvs = λ k. rw (f.recvs k) refl;
  unsent_sides = λ k none. f.sends k;
  unread_sides = λ k none. f.recvs k;
  pages = λ k. none_opened (is_read (first_book s.side addresses stable_id s.send.send_window datagram_receive datagram_send) k) (is_own s.side k) (is_two_way k) (index_of k);
  bi = f.bi;
  uni = f.uni;
  first_bi = f.first_bi;
  first_uni = f.first_uni;
  credit_to = f.credit_to;
  taken = f.taken;
  send_window = refl;
  unconfirmed = f.unconfirmed;
}
  where
    none_opened : (reads own two_way : Bool) (index : ℕ) → false ≡ (reads && nat_lt index (if own then (if two_way then 0 else 0) else (if two_way then 0 else 0)))
    none_opened reads own two_way index = rw (zero_each own two_way) (rw (le-ltb index 0 (omega arith)) (sym (and_false reads)))
      where
        zero_each : (a b : Bool) → ◌≡◌ {A = ℕ} (if a then (if b then 0 else 0) else (if b then 0 else 0)) 0
        zero_each true true = refl
        zero_each true false = refl
        zero_each false true = refl
        zero_each false false = refl

        and_false : (x : Bool) → (x && false) ≡ false
        and_false true = refl
        and_false false = refl

-- the peer's first limits come
pub peer_shown : {notes : ℕ → Note} (s : PlainStreams) (b : Book) (peer : PeerLimits) → ShowsStreams s notes b → ShowsStreams (with_peer s peer) notes (bring_all (map item_of (first_items peer)) b)
peer_shown s b peer shown = record {
  side = shown.side;
  sends = shown.sends;
  recvs = shown.recvs;
  unsent_sides = shown.unsent_sides;
  unread_sides = shown.unread_sides;
  pages = shown.pages;
  bi = (λ i. record (shown.bi i) { permitted = count s.bi.max_opened b.bi.permitted peer.max_bidi (ap (λ (t : Tally). t.permitted) shown.bi) i });
  uni = (λ i. record (shown.uni i) { permitted = count s.uni.max_opened b.uni.permitted peer.max_uni (ap (λ (t : Tally). t.permitted) shown.uni) i });
  first_bi = refl;
  first_uni = refl;
  credit_to = ap (λ (n : ℕ). max n peer.max_data) shown.credit_to;
  taken = shown.taken;
  send_window = shown.send_window;
  unconfirmed = shown.unconfirmed;
}
  where
    count : (known permitted most : ℕ) → permitted ≡ known → max permitted (min (min most (2 ^ 60)) (2 ^ 60)) ≡ max known (min most (2 ^ 60))
    count known permitted most same = omega (arith, same)

pub window_shown : {notes : ℕ → Note} (s : PlainStreams) (b : Book) (bytes : ℕ) → ShowsStreams s notes b → ShowsStreams (record s { send = record s.send { send_window = bytes } }) notes (with_setting (setting.SendWindow bytes) b)
window_shown s b bytes shown = record {
  side = shown.side;
  sends = shown.sends;
  recvs = shown.recvs;
  unsent_sides = shown.unsent_sides;
  unread_sides = shown.unread_sides;
  pages = shown.pages;
  bi = shown.bi;
  uni = shown.uni;
  first_bi = shown.first_bi;
  first_uni = shown.first_uni;
  credit_to = shown.credit_to;
  taken = shown.taken;
  send_window = refl;
  unconfirmed = shown.unconfirmed;
}

-- streams that begin anew, with the same window
pub anew_shown : {notes : ℕ → Note} (s t : PlainStreams) (b : Book) → AreFirst s → AreFirst t → t.side ≡ s.side → t.send.send_window ≡ s.send.send_window → ShowsStreams s notes b → ShowsStreams t notes b
anew_shown {notes = notes} s t b f g side window shown = record {
  side = shown.side ∙ sym side;
  sends = λ k. subst (λ (o : Option PlainSend). ShowsSend o (b.sends k)) (f.sends k ∙ sym (g.sends k)) (shown.sends k);
  recvs = λ k. subst (λ (o : Option PlainRecv). ShowsRecv (notes k) o (b.recvs k)) (f.recvs k ∙ sym (g.recvs k)) (shown.recvs k);
  unsent_sides = λ k none. g.sends k;
  unread_sides = λ k none. g.recvs k;
  pages = shown.pages;
  bi = shown.bi ∙ (sym f.bi ∙ g.bi);
  uni = shown.uni ∙ (sym f.uni ∙ g.uni);
  first_bi = shown.first_bi ∙ (sym f.first_bi ∙ g.first_bi);
  first_uni = shown.first_uni ∙ (sym f.first_uni ∙ g.first_uni);
  credit_to = shown.credit_to ∙ (sym f.credit_to ∙ g.credit_to);
  taken = shown.taken ∙ (sym f.taken ∙ g.taken);
  send_window = shown.send_window ∙ sym window;
  unconfirmed = shown.unconfirmed ∙ (sym f.unconfirmed ∙ g.unconfirmed);
}
