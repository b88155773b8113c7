-- What a turn of the driver brings: each item is one small change of the book.
use Rattle.std.specs.Prelude.{ℕ, ◌+◌, ◌-◌, ◌%◌, ◌==◌, nat_le, max, min, ◌^◌, Bool, true, false, ◌&&◌, ◌||◌, List, [], ◌∷◌, ◌++◌, length, drop, Option, Some, None, if◌then◌else◌}
use Rattle.std.specs.Option.{option_map}
use Rattle.qh_base.specs.declared.connection_error.ConnectionError.{ConnectionError}
use Rattle.qh_base.specs.declared.connection_error.ConnectionError.TheVariants as error
use Rattle.qh_book.specs.Book.{Book, dir_of, index_of, is_two_way, tally, with_recv, with_send, with_tally}
use Rattle.qh_book.specs.Pages.{SendPage, RecvPage, Tally, is_reset, live_send, new_recv_page, new_send_page, open_recv, with_confirmed, with_end, with_reset_by_peer, with_run, without_waiting}
use Rattle.qh_book.specs.declared.item.Item.{Item}
use Rattle.qh_book.specs.declared.item.Item.TheVariants as item
use Rattle.qh_datagrams.specs.Datagrams.{newest}
use Rattle.qh_streams.specs.declared.items.Item.{Item as StreamItem}
use Rattle.qh_streams.specs.declared.items.Item.TheVariants as coming

-- ---- streams that arrive

-- the streams of the same kind up to this one that didn't come yet
abbrev pub arrives : Book → (id k : ℕ) → Bool
arrives b id k = k % 4 == id % 4 && (nat_le (tally b (dir_of id)).arrived (index_of k) && nat_le (index_of k) (index_of id))

abbrev pub with_arrived : (id credit : ℕ) → Book → Book
with_arrived id credit b = with_tally (record b {
  sends = λ k. if arrives b id k && is_two_way id then Some (new_send_page credit) else b.sends k;
  recvs = λ k. if arrives b id k then Some new_recv_page else b.recvs k;
}) (dir_of id) (record (tally b (dir_of id)) { arrived = max (tally b (dir_of id)).arrived (index_of id + 1) })

-- ---- halves

-- nothing comes to a half that isn't read any more
abbrev pub on_recv : (RecvPage → RecvPage) → Option RecvPage → (id : ℕ) → Book → Book
on_recv f None id b = b
on_recv f (Some p) id b = with_recv b id (f p)

abbrev pub brought_recv : (RecvPage → RecvPage) → (id : ℕ) → Book → Book
brought_recv f id b = on_recv f (open_recv (b.recvs id)) id b

-- nor to one that is done
abbrev pub on_send : (SendPage → SendPage) → Option SendPage → (id : ℕ) → Book → Book
on_send f None id b = b
on_send f (Some p) id b = with_send b id (f p)

abbrev pub brought_send : (SendPage → SendPage) → (id : ℕ) → Book → Book
brought_send f id b = on_send f (live_send (b.sends id)) id b

abbrev pub or_first : Option ℕ → ℕ → Option ℕ
or_first None code = Some code
or_first (Some known) code = Some known

-- of a half that was reset a STREAM frame confirms nothing
abbrev pub confirmed : (to : ℕ) → (has_end : Bool) → Option SendPage → (id : ℕ) → Book → Book
confirmed to has_end None id b = b
confirmed to has_end (Some p) id b = if is_reset p.state then b
    else record (with_send b id (with_confirmed to has_end p)) { unconfirmed = b.unconfirmed - (length p.unconfirmed - length (with_confirmed to has_end p).unconfirmed) }

abbrev pub with_reset_confirmed : SendPage → SendPage
with_reset_confirmed p = record p { is_confirmed = (p.is_confirmed || is_reset p.state) }

-- ---- datagrams

-- the oldest go beyond what the end keeps
abbrev pub kept_datagrams : Option ℕ → List (List ℕ) → List (List ℕ)
kept_datagrams None datagrams = []
kept_datagrams (Some most) datagrams = newest most datagrams

-- ---- the connection is lost

abbrev pub is_memory : ConnectionError → Bool
is_memory error.Memory = true
is_memory other = false

abbrev pub all_accepted : Tally → Tally
all_accepted t = record t { accepted = max t.accepted t.arrived }

-- what waited to be read, accepted, told or sent goes, and with it all sending halves
abbrev pub without_all_waiting : Book → Book
without_all_waiting b = record b {
  sends = λ k. None;
  recvs = λ k. option_map without_waiting (b.recvs k);
  is_emptied = true;
  bi = all_accepted b.bi;
  uni = all_accepted b.uni;
  datagrams = [];
  queued = [];
}

-- the error is kept, in place of one that was kept before
abbrev pub with_loss : ConnectionError → Book → Book
with_loss e b = record (if is_memory e then without_all_waiting b else b) { error = Some e }

-- ---- items

abbrev pub bring : Item → Book → Book
bring item.Connected b = record b { is_connected = true }
bring (item.Arrived id credit) b = with_arrived id.0 credit b
bring (item.Run id offset bytes) b = brought_recv (with_run (record { offset = offset; bytes = bytes })) id.0 b
bring (item.End id size) b = brought_recv (with_end size) id.0 b
bring (item.Reset id code size) b = brought_recv (with_reset_by_peer code size) id.0 b
bring (item.Stop id code) b = brought_send (λ p. record p { stop_code = or_first p.stop_code code }) id.0 b
bring (item.StreamCredit id limit) b = brought_send (λ p. record p { credit_to = max p.credit_to limit }) id.0 b
bring (item.Credit limit) b = record b { credit_to = max b.credit_to limit }
bring (item.Count dir count) b = with_tally b dir (record (tally b dir) { permitted = max (tally b dir).permitted (min count (2 ^ 60)) })
bring (item.FirstCredits bidi uni) b = record b { first_bi = bidi; first_uni = uni }
bring (item.Confirmed id to has_end) b = confirmed to has_end (live_send (b.sends id.0)) id.0 b
bring (item.ResetConfirmed id) b = brought_send with_reset_confirmed id.0 b
bring (item.Datagram payload) b = record b { datagrams = kept_datagrams b.datagram_receive (b.datagrams ++ payload ∷ []) }
bring (item.DatagramsSent count) b = record b { queued = drop count b.queued }
bring (item.MaxDatagramSize size) b = record b { max_datagram_size = size }
bring (item.Lost e) b = with_loss e b

-- one after another
abbrev pub bring_all : List Item → Book → Book
bring_all [] b = b
bring_all (i ∷ items) b = bring_all items (bring i b)

-- ---- the items of the log of a connection's streams

abbrev pub item_of : StreamItem → Item
item_of (coming.FirstCredits bidi uni) = item.FirstCredits bidi uni
item_of (coming.Arrived id credit) = item.Arrived id credit
item_of (coming.Run id offset bytes) = item.Run id offset bytes
item_of (coming.End id size) = item.End id size
item_of (coming.Reset id code size) = item.Reset id code size
item_of (coming.Stop id code) = item.Stop id code
item_of (coming.StreamCredit id limit) = item.StreamCredit id limit
item_of (coming.Credit limit) = item.Credit limit
item_of (coming.Count dir count) = item.Count dir count
item_of (coming.Confirmed id to has_end) = item.Confirmed id to has_end
item_of (coming.ResetConfirmed id) = item.ResetConfirmed id
