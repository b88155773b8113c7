-- The book shows the datagrams that wait.
use Rattle.std.proofs.Common.{◌≡◌, ℕ, zero, suc, ◌+◌, ◌<◌, ◌≤◌, nat_le, Bool, true, false, List, [], ◌∷◌, ◌++◌, length, map, drop, fold, sum, Option, Some, None, is_some, if◌then◌else◌, refl, sym, ap, ◌∙◌, arith, inl, inr}
use Rattle.std.proofs.lemmas.Bool.{cases_Bool, le-leb, leb-true}
use Rattle.qh_base.specs.declared.connection_error.ConnectionError.{ConnectionError}
use Rattle.qh_base.specs.declared.connection_error.ConnectionError.TheVariants as error
use Rattle.qh_base.specs.declared.path.FourTuple.{FourTuple}
use Rattle.qh_book.specs.Book.{Book, first_book}
use Rattle.qh_book.specs.Datagrams.{IsSendable, ReadsDatagram, SendsDatagram, made_room}
use Rattle.qh_book.specs.Interests.{has_room_for, is_within, waits}
use Rattle.qh_book.specs.Items.{bring}
use Rattle.qh_book.specs.Shown.{DatagramBounds, IsDatagramStep, ShowsDatagrams}
use Rattle.qh_book.specs.declared.call.Call.TheVariants as call
use Rattle.qh_book.specs.declared.interest.Interest.TheVariants as waiting
use Rattle.qh_book.specs.declared.item.Item.TheVariants as item
use Rattle.qh_book.specs.declared.reply.Reply.TheVariants as reply
use Rattle.qh_datagrams.specs.Datagrams.{PlainDatagrams, bytes_of, newest, with_room}
use Rattle.qh_spec.specs.declared.sides.Side.{Side}

lengths : List (List ℕ) → List ℕ
lengths payloads = map (λ (payload : List ℕ). length payload) payloads

pub datagram_came : (d : PlainDatagrams) (l : DatagramBounds) (b : Book) (payload : List ℕ) (most : ℕ) → ShowsDatagrams d l b → l.receive ≡ Some most → ShowsDatagrams (record d { incoming = newest most (d.incoming ++ payload ∷ []) }) l (bring (item.Datagram payload) b)
datagram_came d l b payload most shown is = record { datagrams = rw (shown.receive ∙ is) (ap (λ (ds : List (List ℕ)). newest most (ds ++ payload ∷ [])) shown.datagrams); queued = shown.queued; receive = shown.receive; send = shown.send; most = shown.most }

fewer_lengths : (n : ℕ) (xs : List (List ℕ)) → drop n (map (λ (payload : List ℕ). length payload) xs) ≡ map (λ (payload : List ℕ). length payload) (drop n xs)
fewer_lengths zero xs = refl
fewer_lengths (suc n) [] = refl
fewer_lengths (suc n) (x ∷ xs) = fewer_lengths n xs

pub datagrams_sent : (d : PlainDatagrams) (l : DatagramBounds) (b : Book) (count : ℕ) (blocked : Bool) → ShowsDatagrams d l b → ShowsDatagrams (record d { outgoing = drop count d.outgoing; is_send_blocked = blocked }) l (bring (item.DatagramsSent count) b)
datagrams_sent d l b count blocked shown = record { datagrams = shown.datagrams; queued = ap (drop count) shown.queued ∙ fewer_lengths count d.outgoing; receive = shown.receive; send = shown.send; most = shown.most }

pub datagram_read : (T : Type 0) (d new : PlainDatagrams) (l : DatagramBounds) (b : Book) (payload : List ℕ) → ShowsDatagrams d l b → d.incoming ≡ payload ∷ new.incoming → new ≡ record d { incoming = new.incoming } → IsDatagramStep {T = T} b call.ReadDatagram (reply.Datagram payload) new l
datagram_read T d new l b payload shown is rest = record {
  after = record b { datagrams = new.incoming };
  allows = (shown.datagrams ∙ is, refl);
  shows = record { datagrams = refl; queued = shown.queued ∙ ap (λ (x : PlainDatagrams). map (λ (payload : List ℕ). length payload) x.outgoing) (sym rest); receive = shown.receive; send = shown.send; most = shown.most };
  rest = refl;
}

bytes_from : (n : ℕ) (xs : List (List ℕ)) → fold (λ a x. a + x) n (map (λ (payload : List ℕ). length payload) xs) ≡ fold (λ a (x : List ℕ). a + length x) n xs
bytes_from n [] = refl
bytes_from n (x ∷ xs) = bytes_from (n + length x) xs

all_bytes : (xs : List (List ℕ)) → sum (map (λ (payload : List ℕ). length payload) xs) ≡ bytes_of xs
all_bytes xs = bytes_from 0 xs

one_more : (xs : List (List ℕ)) (payload : List ℕ) → map (λ (p : List ℕ). length p) xs ++ length payload ∷ [] ≡ map (λ (p : List ℕ). length p) (xs ++ payload ∷ [])
one_more [] payload = refl
one_more (x ∷ xs) payload = ap (λ (ns : List ℕ). length x ∷ ns) (one_more xs payload)

same_room : (size room : ℕ) (xs : List (List ℕ)) → made_room size room (map (λ (payload : List ℕ). length payload) xs) ≡ map (λ (payload : List ℕ). length payload) (with_room size room xs)
same_room size room [] = refl
same_room size room (x ∷ xs) =
    ap (λ (n : ℕ). if nat_le (n + size) room then length x ∷ map (λ (payload : List ℕ). length payload) xs else made_room size room (map (λ (payload : List ℕ). length payload) xs)) (all_bytes (x ∷ xs))
    ∙ (by_room (nat_le (bytes_of (x ∷ xs) + size) room) (same_room size room xs))
  where
    by_room : (fits : Bool) → made_room size room (map (λ (payload : List ℕ). length payload) xs) ≡ map (λ (payload : List ℕ). length payload) (with_room size room xs)
        → (if fits then length x ∷ map (λ (payload : List ℕ). length payload) xs else made_room size room (map (λ (payload : List ℕ). length payload) xs)) ≡ map (λ (payload : List ℕ). length payload) (if fits then x ∷ xs else with_room size room xs)
    by_room true rest = refl
    by_room false rest = rest

room_is : (d : PlainDatagrams) (l : DatagramBounds) (b : Book) (size : ℕ) → ShowsDatagrams d l b → has_room_for b size ≡ nat_le (bytes_of d.outgoing + size) l.send
room_is d l b size shown = ap (λ (n : ℕ). nat_le (n + size) b.datagram_send) (ap sum shown.queued ∙ all_bytes d.outgoing) ∙ ap (nat_le (bytes_of d.outgoing + size)) shown.send

can_send : (d : PlainDatagrams) (l : DatagramBounds) (b : Book) (payload : List ℕ) (most : ℕ) → ShowsDatagrams d l b → b.error ≡ None → is_some l.receive ≡ true → l.most ≡ Some most → length payload ≤ most → IsSendable b (length payload)
can_send d l b payload most shown none on known short = record { open_still = none; is_on = ap is_some shown.receive ∙ on; most = most; is_most = shown.most ∙ known; fits = short }

lt-leb : (m n : ℕ) → m < n → nat_le n m ≡ false
lt-leb m n below = elim (cases_Bool (nat_le n m)) [ inl le ↦ let h = leb-true n m le in absurd (omega (arith, below, h)) | inr over ↦ over ]

pub datagram_queued : (T : Type 0) (d new : PlainDatagrams) (l : DatagramBounds) (b : Book) (payload : List ℕ) (most : ℕ) → ShowsDatagrams d l b → b.error ≡ None → is_some l.receive ≡ true → l.most ≡ Some most → length payload ≤ most
    → bytes_of d.outgoing + length payload ≤ l.send → new ≡ record d { outgoing = d.outgoing ++ payload ∷ [] } → IsDatagramStep {T = T} b (call.SendDatagram payload true) reply.Done new l
datagram_queued T d new l b payload most shown none on known short fits is = record {
  after = record b { queued = b.queued ++ length payload ∷ [] };
  allows = (can_send d l b payload most shown none on known short, (room, refl));
  shows = record {
    datagrams = shown.datagrams ∙ ap (λ (x : PlainDatagrams). x.incoming) (sym is);
    queued = ap (λ (ns : List ℕ). ns ++ length payload ∷ []) shown.queued ∙ (one_more d.outgoing payload ∙ ap (λ (x : PlainDatagrams). map (λ (p : List ℕ). length p) x.outgoing) (sym is));
    receive = shown.receive;
    send = shown.send;
    most = shown.most;
  };
  rest = refl;
}
  where
    room : has_room_for b (length payload) ≡ true
    room = room_is d l b (length payload) shown ∙ le-leb (bytes_of d.outgoing + length payload) l.send fits

pub datagram_pushed : (T : Type 0) (d new : PlainDatagrams) (l : DatagramBounds) (b : Book) (payload : List ℕ) (most : ℕ) → ShowsDatagrams d l b → b.error ≡ None → is_some l.receive ≡ true → l.most ≡ Some most → length payload ≤ most
    → new ≡ record d { outgoing = with_room (length payload) l.send d.outgoing ++ payload ∷ [] } → IsDatagramStep {T = T} b (call.SendDatagram payload false) reply.Done new l
datagram_pushed T d new l b payload most shown none on known short is = record {
  after = record b { queued = made_room (length payload) b.datagram_send b.queued ++ length payload ∷ [] };
  allows = (can_send d l b payload most shown none on known short, refl);
  shows = record {
    datagrams = shown.datagrams ∙ ap (λ (x : PlainDatagrams). x.incoming) (sym is);
    queued = ap (λ (ns : List ℕ). made_room (length payload) b.datagram_send ns ++ length payload ∷ []) shown.queued
        ∙ (ap (λ (n : ℕ). made_room (length payload) n (map (λ (p : List ℕ). length p) d.outgoing) ++ length payload ∷ []) shown.send
        ∙ (ap (λ (ns : List ℕ). ns ++ length payload ∷ []) (same_room (length payload) l.send d.outgoing)
        ∙ (one_more (with_room (length payload) l.send d.outgoing) payload ∙ ap (λ (x : PlainDatagrams). map (λ (p : List ℕ). length p) x.outgoing) (sym is))));
    receive = shown.receive;
    send = shown.send;
    most = shown.most;
  };
  rest = refl;
}

-- ---- before the first datagram, and once memory lacked

pub datagrams_first : (side : Side) (addresses : FourTuple) (stable_id send_window : ℕ) (l : DatagramBounds) (blocked : Bool) → l.most ≡ None
    → ShowsDatagrams (record { incoming = []; outgoing = []; is_send_blocked = blocked }) l (first_book side addresses stable_id send_window l.receive l.send)
datagrams_first side addresses stable_id send_window l blocked none = record { datagrams = refl; queued = refl; receive = refl; send = refl; most = sym none }

pub datagrams_emptied : (d : PlainDatagrams) (l : DatagramBounds) (b : Book) (blocked : Bool) → ShowsDatagrams d l b → ShowsDatagrams (record { incoming = []; outgoing = []; is_send_blocked = blocked }) l (bring (item.Lost error.Memory) b)
datagrams_emptied d l b blocked shown = record { datagrams = refl; queued = refl; receive = shown.receive; send = shown.send; most = shown.most }

pub datagrams_bounded : (d : PlainDatagrams) (l : DatagramBounds) (b : Book) (most : Option ℕ) → ShowsDatagrams d l b → ShowsDatagrams d (record l { most = most }) (bring (item.MaxDatagramSize most) b)
datagrams_bounded d l b most shown = record { datagrams = shown.datagrams; queued = shown.queued; receive = shown.receive; send = shown.send; most = refl }

-- ---- refusals

module _ (T : Type 0) (d : PlainDatagrams) (l : DatagramBounds) (b : Book) (shown : ShowsDatagrams d l b) where
  none_waits : d.incoming ≡ [] → b.datagrams ≡ []
  none_waits none = shown.datagrams ∙ none

  pub read_waits : d.incoming ≡ [] → b.error ≡ None → ReadsDatagram {T = T} b reply.Pending b
  read_waits none open_still = let empty = none_waits none in let waits_now : waits b waiting.ReadDatagram ≡ true = rw open_still (rw empty refl) in (waits_now, refl)

  pub read_lost : (e : ConnectionError) → d.incoming ≡ [] → b.error ≡ Some e → ReadsDatagram {T = T} b (reply.ConnectionLost e) b
  read_lost e none lost = (none_waits none, lost, refl)

  module _ (payload : List ℕ) (wait : Bool) (open_still : b.error ≡ None) where
    pub send_disabled : l.receive ≡ None → SendsDatagram {T = T} b payload wait reply.Disabled b
    send_disabled off = (open_still, shown.receive ∙ off, refl)

    is_on : is_some l.receive ≡ true → is_some b.datagram_receive ≡ true
    is_on on = ap is_some shown.receive ∙ on

    pub send_unsupported : is_some l.receive ≡ true → l.most ≡ None → SendsDatagram {T = T} b payload wait reply.UnsupportedByPeer b
    send_unsupported on none = (open_still, is_on on, shown.most ∙ none, refl)

    module _ (most : ℕ) (on : is_some l.receive ≡ true) (known : l.most ≡ Some most) where
      pub send_too_large : most < length payload → SendsDatagram {T = T} b payload wait reply.TooLarge b
      send_too_large long = (most, open_still, is_on on, shown.most ∙ known, long, refl)

  pub send_waits : (payload : List ℕ) (most : ℕ) → b.error ≡ None → is_some l.receive ≡ true → l.most ≡ Some most → length payload ≤ most → l.send < bytes_of d.outgoing + length payload → SendsDatagram {T = T} b payload true reply.Pending b
  send_waits payload most open_still on known short full =
      let is_on : is_some b.datagram_receive ≡ true = ap is_some shown.receive ∙ on in
      let fits : is_within (length payload) b.max_datagram_size ≡ true = ap (is_within (length payload)) (shown.most ∙ known) ∙ le-leb (length payload) most short in
      let no_room : has_room_for b (length payload) ≡ false = room_is d l b (length payload) shown ∙ lt-leb l.send (bytes_of d.outgoing + length payload) full in
      let waits_now : waits b (waiting.SendDatagram (length payload)) ≡ true = rw open_still (rw is_on (rw fits (rw no_room refl))) in (refl, waits_now, refl)
