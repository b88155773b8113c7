-- Which calls wait at a state, and the state once those that don't are woken.
use Rattle.std.proofs.Common.{◌≡◌, ◌⊎◌, ℕ, ◌+◌, ◌==◌, nat_lt, nat_le, Bool, true, false, ◌&&◌, ◌||◌, not, List, [], ◌∷◌, length, Option, Some, None, is_some, refl, sym, ap, ◌∙◌, subst}
use Rattle.std.proofs.lemmas.Bool.{false≢true}
use Rattle.std.specs.List.{filter}
use Rattle.std.specs.Prelude.{IfSome, IsSome}
use Rattle.qh_base.specs.declared.connection_error.ConnectionError.{ConnectionError}
use Rattle.qh_book.specs.Book.{Book, tally}
use Rattle.qh_book.specs.Interests.{is_same, is_within, read_waits, reset_waits, settled, stop_waits, waits, waits_open, write_waits}
use Rattle.qh_book.specs.Pages.{RecvPage, SendPage, Tally, is_empty, live_send, open_recv, open_send}
use Rattle.qh_book.specs.Shown.{Note, ShowsStreams, tally_of}
use Rattle.qh_book.specs.declared.interest.Interest.{Interest}
use Rattle.qh_book.specs.declared.interest.Interest.TheVariants as waiting
use Rattle.qh_buffers.specs.Assembler.{read_to, was_given}
use Rattle.qh_conn.specs.Whole.{IsWhole}
use Rattle.qh_conn.specs.declared.connection.Connection.{Connection}
use Rattle.qh_core.specs.Inner.{is_open}
use Rattle.qh_datagrams.specs.Datagrams.{bytes_of}
use Rattle.qh_half.specs.Send.{PlainSend, is_blocked_fault}
use Rattle.qh_halves.specs.RecvHalves.{IsReadBlockedAt, half_awaits_reset, recv_at}
use Rattle.qh_halves.specs.SendHalves.{send_at, write_fault_at}
use Rattle.qh_quinn.proofs.Holding.{held_by, unheld_by}
use Rattle.qh_quinn.proofs.Moving.{calm_if_none}
use Rattle.qh_quinn.proofs.Sends.{send_gone}
use Rattle.qh_quinn.proofs.StatesKept.{connection_beside}
use Rattle.qh_quinn.proofs.Waits.{has_room_is, none_to_read, not_below, or_off, read_blocked, read_free, reset_is, stop_gone, stop_is, write_at}
use Rattle.qh_quinn.specs.Acting.{IsChanged}
use Rattle.qh_quinn.specs.Readers.{HoldsReader, reader_in}
use Rattle.qh_quinn.specs.States.{IsState, Shows}
use Rattle.qh_quinn.specs.Waiting.{is_among}
use Rattle.qh_quinn.specs.declared.inner.StateInner.{StateInner}
use Rattle.qh_quinn.specs.declared.readers.Reader.{Reader}
use Rattle.qh_quinn.specs.declared.waiting.Waiting.{Waiting}
use Rattle.qh_shown.specs.Brings.{IsLogging}
use Rattle.qh_shown.specs.Connections.{ShowsLive, bounds_of, is_wanting}
use Rattle.qh_spec.specs.declared.sides.Dir.{Dir}
use Rattle.qh_spec.specs.declared.sides.Dir.TheVariants.{Bi, Uni}
use Rattle.qh_streams.specs.Streams.{PlainStreams, counts_of, is_two_way}

tally_is : (s : PlainStreams) (notes : ℕ → Note) (b : Book) (dir : Dir) → ShowsStreams s notes b → tally b dir ≡ tally_of (counts_of s (is_two_way dir))
tally_is s notes b Bi shown = shown.bi
tally_is s notes b Uni shown = shown.uni

held_is : (w : Bool) (reader : Option Reader) (is_held : Bool) (note : Note) (page : Option RecvPage) → HoldsReader w reader is_held note page → is_some reader ≡ is_held
held_is w None is_held note page h = sym (unheld_by w None is_held note page refl h)
held_is w (Some r) is_held note page h = sym (held_by w (Some r) r is_held note page refl h).held

-- no handle holds the half, or one does
pub unheld_waits : (held is_held x : Bool) → held ≡ false → held ≡ is_held → false ≡ (is_held && x)
unheld_waits true is_held x off same = absurd (false≢true (sym off))
unheld_waits false is_held x off same = rw (sym same) refl

pub held_waits : (held is_held r x : Bool) → held ≡ true → held ≡ is_held → r ≡ x → r ≡ (is_held && x)
held_waits true is_held r x on same is = rw (sym same) is
held_waits false is_held r x on same is = absurd (false≢true on)

lacking : (x y : Bool) → y ≡ false → false ≡ (x && y)
lacking true y off = sym off
lacking false y off = refl

module _ {S : Type 0} where
  live_at : (s : StateInner S) → IsState s → s.error ≡ None → (b : Book) (h : Shows s b) → ShowsLive s.connection h.notes b
  live_at s state none b h = h.shows.connection.live (calm_if_none s state none)

  -- ---- each call

  pub none_lost : (s : StateInner S) (i : Interest) → is_some s.error ≡ true → (b : Book) → Shows s b → false ≡ waits b i
  none_lost s i lost b h = let e : is_some b.error ≡ true = ap (λ (x : Option ConnectionError). is_some x) h.shows.error ∙ lost in rw e refl

  pub waits_if_open : (s : StateInner S) (i : Interest) (r : Bool) → is_some s.error ≡ false → ((b : Book) → Shows s b → r ≡ waits_open b i) → (b : Book) → Shows s b → r ≡ waits b i
  waits_if_open s i r none is b h = let e : is_some b.error ≡ false = ap (λ (x : Option ConnectionError). is_some x) h.shows.error ∙ none in rw e (is b h)

  pub connecting : (s : StateInner S) → IsState s → (b : Book) → Shows s b → not s.is_connected ≡ not b.is_connected
  connecting s state b h = ap not (sym (h.shows.connection.connected ∙ or_off s.is_connected s.connection.is_connected_due state.told))

  pub to_open : (s : StateInner S) (dir : Dir) (r : Bool) → IsState s → s.error ≡ None
      → r ≡ nat_lt (counts_of s.connection.core.space.streams (is_two_way dir)).opened (counts_of s.connection.core.space.streams (is_two_way dir)).max_opened → (b : Book) → Shows s b → not r ≡ waits_open b (waiting.Open dir)
  to_open s dir r state none is b h =
      let streams = s.connection.core.space.streams in
      ap not is ∙ (not_below (counts_of streams (is_two_way dir)).opened (counts_of streams (is_two_way dir)).max_opened
      ∙ sym (ap (λ (t : Tally). nat_le t.permitted t.opened) (tally_is streams h.notes b dir (live_at s state none b h).streams)))

  pub to_accept : (s : StateInner S) (dir : Dir) (r : Bool) → IsState s → s.error ≡ None
      → r ≡ nat_lt (counts_of s.connection.core.space.streams (is_two_way dir)).accepted (counts_of s.connection.core.space.streams (is_two_way dir)).arrived → (b : Book) → Shows s b → not r ≡ waits_open b (waiting.Accept dir)
  to_accept s dir r state none is b h =
      let streams = s.connection.core.space.streams in
      ap not is ∙ (not_below (counts_of streams (is_two_way dir)).accepted (counts_of streams (is_two_way dir)).arrived
      ∙ sym (ap (λ (t : Tally). nat_le t.arrived t.accepted) (tally_is streams h.notes b dir (live_at s state none b h).streams)))

  pub holds : (s : StateInner S) (k : ℕ) (b : Book) → Shows s b → is_some (reader_in s.readers k) ≡ b.readers k
  holds s k b h = held_is (is_wanting s.connection) (reader_in s.readers k) (b.readers k) (h.notes k) (b.recvs k) (h.shows.readers k)

  pub to_read : (s : StateInner S) (k : ℕ) (is_ordered r : Bool) → IsState s → s.error ≡ None
      → (r ≡ true → IsReadBlockedAt s.connection.core.space.streams.recv k is_ordered) → (r ≡ false → IsReadBlockedAt s.connection.core.space.streams.recv k is_ordered → ⊥)
      → IfSome (recv_at s.connection.core.space.streams.recv k) (λ r. was_given r.assembler (read_to r.assembler) ≡ false) → (b : Book) → Shows s b → r ≡ read_waits is_ordered (open_recv (b.recvs k))
  to_read s k is_ordered true state none up off fresh b h = sym (read_blocked (h.notes k) (recv_at s.connection.core.space.streams.recv k) (b.recvs k) is_ordered ((live_at s state none b h).streams.recvs k) (up refl))
  to_read s k is_ordered false state none up off fresh b h = sym (read_free (h.notes k) (recv_at s.connection.core.space.streams.recv k) (b.recvs k) is_ordered ((live_at s state none b h).streams.recvs k) fresh (off refl))

  pub for_reset : (s : StateInner S) (k : ℕ) (r : Bool) → IsState s → s.error ≡ None → r ≡ half_awaits_reset (recv_at s.connection.core.space.streams.recv k) → (b : Book) → Shows s b → r ≡ reset_waits (open_recv (b.recvs k))
  for_reset s k r state none is b h = is ∙ reset_is (h.notes k) (recv_at s.connection.core.space.streams.recv k) (b.recvs k) ((live_at s state none b h).streams.recvs k)

  pub to_write : (s : StateInner S) (k : ℕ) (r : Bool) → IsState s → s.error ≡ None → r ≡ is_blocked_fault (write_fault_at s.connection.core.space.streams.send k) → (b : Book) → Shows s b → r ≡ write_waits b (open_send (b.sends k))
  to_write s k r state none is b h =
      let streams = s.connection.core.space.streams in
      let shown = (live_at s state none b h).streams in
      is ∙ write_at h.notes streams b k (send_at streams.send k) shown (shown.sends k)

  -- the peer asked to stop the half with this code, or didn't
  pub for_stop : (s : StateInner S) (k : ℕ) (code : Option ℕ) → IsState s → s.error ≡ None → IsSome (send_at s.connection.core.space.streams.send k) → IfSome (send_at s.connection.core.space.streams.send k) (λ h. code ≡ h.stop_reason)
      → (b : Book) → Shows s b → not (is_some code) ≡ stop_waits (live_send (b.sends k))
  for_stop s k code state none some is b h = at (send_at s.connection.core.space.streams.send k) refl some is
    where
      at : (o : Option PlainSend) → send_at s.connection.core.space.streams.send k ≡ o → IsSome o → IfSome o (λ h. code ≡ h.stop_reason) → not (is_some code) ≡ stop_waits (live_send (b.sends k))
      at None there some is = absurd (false≢true some)
      at (Some half) there some is = ap (λ (o : Option ℕ). not (is_some o)) is ∙ sym (stop_is (send_at s.connection.core.space.streams.send k) (b.sends k) half there ((live_at s state none b h).streams.sends k))

  pub no_stop : (s : StateInner S) (k : ℕ) → IsState s → s.error ≡ None → (is_some s.connection.handshake.peer ≡ false) ⊎ (send_at s.connection.core.space.streams.send k ≡ None) → (b : Book) → Shows s b → false ≡ stop_waits (live_send (b.sends k))
  no_stop s k state none gone b h =
      let live = live_at s state none b h in
      sym (stop_gone (send_at s.connection.core.space.streams.send k) (b.sends k) (send_gone s.connection h.notes b k live gone) (live.streams.sends k))

  pub for_datagram : (s : StateInner S) (r : Bool) → IsState s → s.error ≡ None → r ≡ not (length s.connection.control.datagrams.incoming == 0) → (b : Book) → Shows s b → not r ≡ is_empty b.datagrams
  for_datagram s r state none is b h =
      ap not is ∙ (none_to_read s.connection.control.datagrams.incoming ∙ sym (ap (λ (xs : List (List ℕ)). is_empty xs) (live_at s state none b h).datagrams.datagrams))

  -- datagrams are off, the peer takes none, or it is too long
  pub datagrams_off : (s : StateInner S) (size : ℕ) → IsState s → s.error ≡ None → is_some s.connection.control.datagram_receive ≡ false → (b : Book) → Shows s b → false ≡ waits_open b (waiting.SendDatagram size)
  datagrams_off s size state none off b h = let e : is_some b.datagram_receive ≡ false = ap (λ (o : Option ℕ). is_some o) (live_at s state none b h).datagrams.receive ∙ off in rw e refl

  pub not_within : (s : StateInner S) (size : ℕ) → IsState s → s.error ≡ None → is_within size s.connection.control.peer_datagram ≡ false → (b : Book) → Shows s b → false ≡ waits_open b (waiting.SendDatagram size)
  not_within s size state none off b h =
      let e : is_within size b.max_datagram_size ≡ false = ap (is_within size) (live_at s state none b h).datagrams.most ∙ off in
      rw e (lacking (is_some b.datagram_receive) false refl)

  pub for_room : (s : StateInner S) (size : ℕ) (r : Bool) → IsState s → s.error ≡ None → is_some s.connection.control.datagram_receive ≡ true → is_within size s.connection.control.peer_datagram ≡ true
      → r ≡ nat_le (bytes_of s.connection.control.datagrams.outgoing + size) s.connection.control.datagram_send → (b : Book) → Shows s b → not r ≡ waits_open b (waiting.SendDatagram size)
  for_room s size r state none on within is b h =
      let d = (live_at s state none b h).datagrams in
      let up : is_some b.datagram_receive ≡ true = ap (λ (o : Option ℕ). is_some o) d.receive ∙ on in
      let fits : is_within size b.max_datagram_size ≡ true = ap (is_within size) d.most ∙ within in
      rw (up, fits) (ap not (is ∙ sym (has_room_is s.connection.control.datagrams (bounds_of s.connection.control) b size d)))

-- ---- those that wait still

-- the calls that wait say nothing of which have a reply
write_beside : (b : Book) (f : Interest → Bool) (q : Option SendPage) → write_waits (record b { interests = f }) q ≡ write_waits b q
write_beside b f None = refl
write_beside b f (Some p) = refl

waits_beside : (b : Book) (f : Interest → Bool) (i : Interest) → waits (record b { interests = f }) i ≡ waits b i
waits_beside b f waiting.Connecting = refl
waits_beside b f waiting.HandshakeData = refl
waits_beside b f (waiting.Open Bi) = refl
waits_beside b f (waiting.Open Uni) = refl
waits_beside b f (waiting.Accept Bi) = refl
waits_beside b f (waiting.Accept Uni) = refl
waits_beside b f (waiting.Read id is_ordered) = refl
waits_beside b f (waiting.Write id) = ap (λ (x : Bool). not (is_some b.error) && x) (write_beside b f (open_send (b.sends id.0)))
waits_beside b f (waiting.Stopped id) = refl
waits_beside b f (waiting.ReceivedReset id) = refl
waits_beside b f waiting.ReadDatagram = refl
waits_beside b f (waiting.SendDatagram size) = refl
waits_beside b f waiting.Closed = refl

kept_first : (equal : (i j : Interest) → is_same i j ≡ true → i ≡ j) (f : Interest → Bool) (w : Waiting) (ws : List Waiting) (i : Interest) (kept : Bool) → f w.interest ≡ kept → is_among i (filter (λ (v : Waiting). f v.interest) ws) ≡ (is_among i ws && f i)
    → is_among i (filter (λ (v : Waiting). f v.interest) (w ∷ ws)) ≡ (is_among i (w ∷ ws) && f i)
kept_first equal f w ws i kept is rest = at kept is
  where
    more : (same : Bool) → (same ≡ true → f i ≡ true) → (m : Bool) → (same || (m && f i)) ≡ ((same || m) && f i)
    more true e m = sym (e refl)
    more false e m = refl

    less : (same : Bool) → (same ≡ true → f i ≡ false) → (m : Bool) → (m && f i) ≡ ((same || m) && f i)
    less true e true = refl
    less true e false = sym (e refl)
    less false e m = refl

    at : (here : Bool) → f w.interest ≡ here → is_among i (filter (λ (v : Waiting). f v.interest) (w ∷ ws)) ≡ (is_among i (w ∷ ws) && f i)
    at true h = rw h (ap (λ (m : Bool). is_same w.interest i || m) rest ∙ more (is_same w.interest i) (λ e. ap f (sym (equal w.interest i e)) ∙ h) (is_among i ws))
    at false h = rw h (rest ∙ less (is_same w.interest i) (λ e. ap f (sym (equal w.interest i e)) ∙ h) (is_among i ws))

pub among_kept : ((i j : Interest) → is_same i j ≡ true → i ≡ j) → (f : Interest → Bool) (ws : List Waiting) (i : Interest) → is_among i (filter (λ (w : Waiting). f w.interest) ws) ≡ (is_among i ws && f i)
among_kept equal f [] i = refl
among_kept equal f (w ∷ ws) i = kept_first equal f w ws i (f w.interest) refl (among_kept equal f ws i)

filter_alike : (p q : Waiting → Bool) → ((w : Waiting) → p w ≡ q w) → (ws : List Waiting) → filter p ws ≡ filter q ws
filter_alike p q same [] = refl
filter_alike p q same (w ∷ ws) = rw (same w, filter_alike p q same ws) refl

module _ {S : Type 0} where
  -- other calls wait, and nothing else is said
  others_wait : (old new : StateInner S) → new ≡ record old { waiting = new.waiting } → (b : Book) (f : Interest → Bool) → ((i : Interest) → f i ≡ is_among i new.waiting.items) → Shows old b → Shows new (record b { interests = f })
  others_wait old new is b f are h =
      subst (λ (s : StateInner S). Shows s (record b { interests = f })) (sym is)
      (record {
        notes = h.notes;
        shows = record {
          connection = connection_beside old.is_connected old.connection h.notes b h.shows.connection;
          readers = h.shows.readers;
          untouched = record { unheld = h.shows.untouched.unheld; page = h.shows.untouched.page };
          stable_id = h.shows.stable_id;
          error = h.shows.error;
          handles = h.shows.handles;
          interests = are;
        };
      })

  state_beside : (old new : StateInner S) → IsState old → new ≡ record old { waiting = new.waiting } → (b : Book) → Shows new b → IsState new
  state_beside old new state is b h = record {
    whole = subst (λ (c : Connection S). IsWhole c) (sym (ap (λ (s : StateInner S). s.connection) is)) state.whole;
    lost = ap (λ (s : StateInner S). is_some s.error) is ∙ state.lost ∙ ap (λ (s : StateInner S). not (is_open s.connection.core.state)) (sym is);
    told = ap (λ (s : StateInner S). s.connection.is_connected_due) is ∙ state.told;
    logging = subst (λ (c : Connection S). IsLogging c) (sym (ap (λ (s : StateInner S). s.connection) is)) state.logging;
    book = b;
    shown = h;
  }

  pub still_state : (old new : StateInner S) → IsState old → new ≡ record old { waiting = new.waiting } → IsState new
  still_state old new state is =
      state_beside old new state is (record state.book { interests = λ i. is_among i new.waiting.items }) (others_wait old new is state.book (λ i. is_among i new.waiting.items) (λ i. refl) state.shown)

  -- what waits in the meantime doesn't matter
  pub settles : (old mid new : StateInner S) → IsState old → mid ≡ record old { waiting = mid.waiting } → new ≡ record old { waiting = new.waiting }
      → ((b : Book) → Shows mid b → (i : Interest) → is_among i new.waiting.items ≡ (is_among i old.waiting.items && waits b i)) → IsChanged settled old new
  settles old mid new state aside is kept =
      let shows : (b : Book) → Shows old b → Shows new (settled b) = λ b h.
      let c : Book = record b { interests = λ i. is_among i mid.waiting.items } in
      let here : Shows mid c = others_wait old mid aside b (λ i. is_among i mid.waiting.items) (λ i. refl) h in
      others_wait old new is b (λ i. b.interests i && waits b i)
      (λ i. ap (λ (x : Bool). x && waits b i) (h.shows.interests i) ∙ (ap (λ (x : Bool). is_among i old.waiting.items && x) (sym (waits_beside b (λ i. is_among i mid.waiting.items) i)) ∙ sym (kept c here i))) h in
      record { each = shows; state = state_beside old new state is (settled state.book) (shows state.book state.shown) }

  -- the calls that wait still are those of any book that shows the state
  pub woken_by_replies : (old mid : StateInner S) (was kept : List Waiting) → mid ≡ record old { waiting = mid.waiting } → was ≡ old.waiting.items → ((b : Book) → Shows mid b → kept ≡ filter (λ (w : Waiting). waits b w.interest) was)
      → (b : Book) → Shows old b → kept ≡ filter (λ (w : Waiting). waits b w.interest) old.waiting.items
  woken_by_replies old mid was kept aside same each b h =
      let f : Interest → Bool = λ i. is_among i mid.waiting.items in
      each (record b { interests = f }) (others_wait old mid aside b f (λ i. refl) h) ∙ filter_alike (λ w. waits (record b { interests = f }) w.interest) (λ w. waits b w.interest) (λ w. waits_beside b f w.interest) was
      ∙ ap (λ (ws : List Waiting). filter (λ (w : Waiting). waits b w.interest) ws) same
