-- Changes of a book that show the same streams, or the same datagrams.
use Rattle.std.proofs.Common.{◌≡◌, ℕ, ◌-◌, ◌==◌, Bool, true, false, ◌&&◌, not, List, [], ◌∷◌, map, Option, Some, None, is_some, if◌then◌else◌, refl, sym, ap, ◌∙◌, subst}
use Rattle.std.proofs.lemmas.Bool.{false≢true}
use Rattle.qh_base.specs.declared.connection_error.ConnectionError.{ConnectionError}
use Rattle.qh_book.specs.Book.{Book, with_close, with_tally, without_handle}
use Rattle.qh_book.specs.Interests.{interest_of, registered, settled, with_interest}
use Rattle.qh_book.specs.Items.{bring, bring_all, confirmed, is_memory, item_of, on_recv, on_send, with_loss, without_all_waiting}
use Rattle.qh_book.specs.Pages.{RecvPage, SendPage, Tally, is_reset, live_send, open_recv}
use Rattle.qh_book.specs.Shown.{DatagramBounds, IsDatagramStep, IsStreamChange, IsStreamStep, Note, SameDatagrams, SameStreams, ShowsDatagrams, ShowsRecv, ShowsSend, ShowsStreams}
use Rattle.qh_book.specs.Values.{with_setting}
use Rattle.qh_book.specs.declared.call.Call.{Call}
use Rattle.qh_book.specs.declared.call.Setting.{Setting}
use Rattle.qh_book.specs.declared.call.Setting.TheVariants as setting
use Rattle.qh_book.specs.declared.interest.Interest.{Interest}
use Rattle.qh_book.specs.declared.reply.Reply.{Reply}
use Rattle.qh_book.specs.declared.reply.Reply.TheVariants as reply
use Rattle.qh_datagrams.specs.Datagrams.{PlainDatagrams}
use Rattle.qh_halves.specs.RecvHalves.{recv_at}
use Rattle.qh_halves.specs.SendHalves.{send_at}
use Rattle.qh_spec.specs.declared.sides.Dir.{Dir}
use Rattle.qh_spec.specs.declared.sides.Dir.TheVariants.{Bi, Uni}
use Rattle.qh_streams.specs.Streams.{PlainStreams}
use Rattle.qh_streams.specs.declared.items.Item.{Item as StreamItem}
use Rattle.qh_streams.specs.declared.items.Item.TheVariants as coming

pub streams_kept : {notes : ℕ → Note} (s : PlainStreams) (b c : Book) → SameStreams b c → ShowsStreams s notes b → ShowsStreams s notes c
streams_kept {notes = notes} s b c same shown = record {
  side = same.side ∙ shown.side;
  sends = λ k. subst (λ (pages : ℕ → Option SendPage). ShowsSend (send_at s.send k) (pages k)) (sym same.sends) (shown.sends k);
  recvs = λ k. subst (λ (pages : ℕ → Option RecvPage). ShowsRecv (notes k) (recv_at s.recv k) (pages k)) (sym same.recvs) (shown.recvs k);
  unsent_sides = shown.unsent_sides;
  unread_sides = shown.unread_sides;
  pages = λ k. rw (same.recvs, same.side, same.bi, same.uni) (shown.pages k);
  bi = same.bi ∙ shown.bi;
  uni = same.uni ∙ shown.uni;
  first_bi = same.first_bi ∙ shown.first_bi;
  first_uni = same.first_uni ∙ shown.first_uni;
  credit_to = same.credit_to ∙ shown.credit_to;
  taken = same.taken ∙ shown.taken;
  send_window = same.send_window ∙ shown.send_window;
  unconfirmed = same.unconfirmed ∙ shown.unconfirmed;
}

pub datagrams_kept : (d : PlainDatagrams) (l : DatagramBounds) (b c : Book) → SameDatagrams b c → ShowsDatagrams d l b → ShowsDatagrams d l c
datagrams_kept d l b c same shown = record {
  datagrams = same.datagrams ∙ shown.datagrams;
  queued = same.queued ∙ shown.queued;
  receive = same.receive ∙ shown.receive;
  send = same.send ∙ shown.send;
  most = same.most ∙ shown.most;
}

pub same_streams : (b : Book) → SameStreams b b
same_streams b = record { side = refl; sends = refl; recvs = refl; bi = refl; uni = refl; first_bi = refl; first_uni = refl; credit_to = refl; taken = refl; send_window = refl; unconfirmed = refl }

pub same_datagrams : (b : Book) → SameDatagrams b b
same_datagrams b = record { datagrams = refl; queued = refl; receive = refl; send = refl; most = refl }

-- ---- both are the same

record SameShown (b c : Book) : Type 0 where
  streams : SameStreams b c
  datagrams : SameDatagrams b c

same_shown : (b : Book) → SameShown b b
same_shown b = record { streams = same_streams b; datagrams = same_datagrams b }

both : (b c : Book) → SameShown b c → SameStreams b c × SameDatagrams b c
both b c s = (s.streams, s.datagrams)

other_interests : (b : Book) (interests : Interest → Bool) → SameShown b (record b { interests = interests })
other_interests b interests = record {
  streams = record { side = refl; sends = refl; recvs = refl; bi = refl; uni = refl; first_bi = refl; first_uni = refl; credit_to = refl; taken = refl; send_window = refl; unconfirmed = refl };
  datagrams = record { datagrams = refl; queued = refl; receive = refl; send = refl; most = refl };
}

interest_same : (i : Option Interest) (b : Book) → SameShown b (with_interest i b)
interest_same None b = same_shown b
interest_same (Some i) b = other_interests b _

registered_same : {T : Type 0} (c : Call) (r : Reply T) (b : Book) → SameShown b (registered c r b)
registered_same c reply.Pending b = interest_same (interest_of c) b
registered_same c r b = same_shown b

closed_same : (b : Book) (handles : ℕ) → SameShown b (with_close (record b { handles = handles }))
closed_same b handles = record {
  streams = record { side = refl; sends = refl; recvs = refl; bi = refl; uni = refl; first_bi = refl; first_uni = refl; credit_to = refl; taken = refl; send_window = refl; unconfirmed = refl };
  datagrams = record { datagrams = refl; queued = refl; receive = refl; send = refl; most = refl };
}

handles_same : (b : Book) (handles : ℕ) → SameShown b (record b { handles = handles })
handles_same b handles = record {
  streams = record { side = refl; sends = refl; recvs = refl; bi = refl; uni = refl; first_bi = refl; first_uni = refl; credit_to = refl; taken = refl; send_window = refl; unconfirmed = refl };
  datagrams = record { datagrams = refl; queued = refl; receive = refl; send = refl; most = refl };
}

either_same : (test : Bool) (b c d : Book) → SameShown d b → SameShown d c → SameShown d (if test then b else c)
either_same true b c d left right = left
either_same false b c d left right = right

pub kept_registered : {T : Type 0} (c : Call) (r : Reply T) (b : Book) → SameStreams b (registered c r b) × SameDatagrams b (registered c r b)
kept_registered c r b = both b (registered c r b) (registered_same c r b)

pub kept_settled : (b : Book) → SameStreams b (settled b) × SameDatagrams b (settled b)
kept_settled b = both b (settled b) (other_interests b _)

pub kept_closed : (b : Book) → SameStreams b (with_close b) × SameDatagrams b (with_close b)
kept_closed b = both b (with_close b) (closed_same b b.handles)

pub kept_handle : (b : Book) → SameStreams b (without_handle b) × SameDatagrams b (without_handle b)
kept_handle b = both b (without_handle b) (either_same (b.handles - 1 == 0 && not (is_some b.error)) (with_close (record b { handles = b.handles - 1 })) (record b { handles = b.handles - 1 }) b
    (closed_same b (b.handles - 1)) (handles_same b (b.handles - 1)))

pub kept_cloned : (b : Book) (handles : ℕ) → SameStreams b (record b { handles = handles }) × SameDatagrams b (record b { handles = handles })
kept_cloned b handles = both b (record b { handles = handles }) (handles_same b handles)

lost_same : (m : Bool) (e : ConnectionError) (b : Book) → m ≡ false → SameShown b (record (if m then without_all_waiting b else b) { error = Some e })
lost_same true e b is = absurd (false≢true (sym is))
lost_same false e b is = record {
  streams = record { side = refl; sends = refl; recvs = refl; bi = refl; uni = refl; first_bi = refl; first_uni = refl; credit_to = refl; taken = refl; send_window = refl; unconfirmed = refl };
  datagrams = record { datagrams = refl; queued = refl; receive = refl; send = refl; most = refl };
}

pub kept_lost : (e : ConnectionError) (b : Book) → is_memory e ≡ false → SameStreams b (with_loss e b) × SameDatagrams b (with_loss e b)
kept_lost e b is = both b (with_loss e b) (lost_same (is_memory e) e b is)

connected_same : (b : Book) → SameShown b (record b { is_connected = true })
connected_same b = record {
  streams = record { side = refl; sends = refl; recvs = refl; bi = refl; uni = refl; first_bi = refl; first_uni = refl; credit_to = refl; taken = refl; send_window = refl; unconfirmed = refl };
  datagrams = record { datagrams = refl; queued = refl; receive = refl; send = refl; most = refl };
}

pub kept_connected : (b : Book) → SameStreams b (record b { is_connected = true }) × SameDatagrams b (record b { is_connected = true })
kept_connected b = both b (record b { is_connected = true }) (connected_same b)

-- ---- datagrams change no streams, and streams no datagrams

pub other_datagrams : (b : Book) (datagrams : List (List ℕ)) (queued : List ℕ) (most : Option ℕ) → SameStreams b (record b { datagrams = datagrams; queued = queued; max_datagram_size = most })
other_datagrams b datagrams queued most = record { side = refl; sends = refl; recvs = refl; bi = refl; uni = refl; first_bi = refl; first_uni = refl; credit_to = refl; taken = refl; send_window = refl; unconfirmed = refl }

-- what changed is this alone
streams_alone : (b c d : Book) → c ≡ d → SameStreams b d → SameStreams b c
streams_alone b c d is same = subst (λ (x : Book). SameStreams b x) (sym is) same

datagrams_alone : (b c d : Book) → c ≡ d → SameDatagrams b d → SameDatagrams b c
datagrams_alone b c d is same = subst (λ (x : Book). SameDatagrams b x) (sym is) same

pub datagram_step_same : {T : Type 0} (b : Book) (c : Call) (r : Reply T) (new : PlainDatagrams) (l : DatagramBounds) (s : IsDatagramStep b c r new l) → SameStreams b s.after
datagram_step_same b c r new l s = streams_alone b s.after _ s.rest (other_datagrams b s.after.datagrams s.after.queued b.max_datagram_size)

pub stream_step_same : {T : Type 0} (b : Book) (c : Call) (r : Reply T) (new : PlainStreams) (notes : ℕ → Note) (s : IsStreamStep b c r new notes) → SameDatagrams b s.after
stream_step_same b c r new notes s = datagrams_alone b s.after _ s.rest (record { datagrams = refl; queued = refl; receive = refl; send = refl; most = refl })

tally_change : (b : Book) (dir : Dir) (t : Tally) → IsStreamChange b (with_tally b dir t)
tally_change b Bi t = refl
tally_change b Uni t = refl

arrived_change : (b : Book) (sends : ℕ → Option SendPage) (recvs : ℕ → Option RecvPage) (dir : Dir) (t : Tally) → IsStreamChange b (with_tally (record b { sends = sends; recvs = recvs }) dir t)
arrived_change b sends recvs Bi t = refl
arrived_change b sends recvs Uni t = refl

recv_change : (f : RecvPage → RecvPage) (o : Option RecvPage) (id : ℕ) (b : Book) → IsStreamChange b (on_recv f o id b)
recv_change f None id b = refl
recv_change f (Some p) id b = refl

send_change : (f : SendPage → SendPage) (o : Option SendPage) (id : ℕ) (b : Book) → IsStreamChange b (on_send f o id b)
send_change f None id b = refl
send_change f (Some p) id b = refl

either_change : (test : Bool) (b c d : Book) → IsStreamChange d b → IsStreamChange d c → IsStreamChange d (if test then b else c)
either_change true b c d left right = left
either_change false b c d left right = right

confirmed_change : (to : ℕ) (has_end : Bool) (o : Option SendPage) (id : ℕ) (b : Book) → IsStreamChange b (confirmed to has_end o id b)
confirmed_change to has_end None id b = refl
confirmed_change to has_end (Some p) id b = either_change (is_reset p.state) b _ b refl refl

item_change : (i : StreamItem) (b : Book) → IsStreamChange b (bring (item_of i) b)
item_change (coming.FirstCredits bidi uni) b = refl
item_change (coming.Arrived id credit) b = arrived_change b _ _ _ _
item_change (coming.Run id offset bytes) b = recv_change _ (open_recv (b.recvs id.0)) id.0 b
item_change (coming.End id size) b = recv_change _ (open_recv (b.recvs id.0)) id.0 b
item_change (coming.Reset id code size) b = recv_change _ (open_recv (b.recvs id.0)) id.0 b
item_change (coming.Stop id code) b = send_change _ (live_send (b.sends id.0)) id.0 b
item_change (coming.StreamCredit id limit) b = send_change _ (live_send (b.sends id.0)) id.0 b
item_change (coming.Credit limit) b = refl
item_change (coming.Count dir count) b = tally_change b dir _
item_change (coming.Confirmed id to has_end) b = confirmed_change to has_end (live_send (b.sends id.0)) id.0 b
item_change (coming.ResetConfirmed id) b = send_change _ (live_send (b.sends id.0)) id.0 b

change_again : (b c d : Book) → IsStreamChange b c → IsStreamChange c d → IsStreamChange b d
change_again b c d first second = second ∙ ap (λ (x : Book). record x {
  sends = d.sends;
  recvs = d.recvs;
  bi = d.bi;
  uni = d.uni;
  first_bi = d.first_bi;
  first_uni = d.first_uni;
  credit_to = d.credit_to;
  taken = d.taken;
  send_window = d.send_window;
  unconfirmed = d.unconfirmed;
}) first

pub items_change : (items : List StreamItem) (b : Book) → IsStreamChange b (bring_all (map item_of items) b)
items_change [] b = refl
items_change (i ∷ items) b = change_again b (bring (item_of i) b) (bring_all (map item_of items) (bring (item_of i) b)) (item_change i b) (items_change items (bring (item_of i) b))

pub change_same : (b c : Book) → IsStreamChange b c → SameDatagrams b c
change_same b c is = datagrams_alone b c _ is (record { datagrams = refl; queued = refl; receive = refl; send = refl; most = refl })

pub setting_change : (s : Setting) (b : Book) → IsStreamChange b (with_setting s b)
setting_change (setting.SendWindow bytes) b = refl
setting_change (setting.MaxConcurrentUniStreams count) b = refl
setting_change (setting.MaxConcurrentBiStreams count) b = refl
setting_change (setting.ReceiveWindow bytes) b = refl
