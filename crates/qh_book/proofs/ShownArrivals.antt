-- Streams of the peer's arrive.
use Rattle.std.proofs.Common.{◌≡◌, ◌⊎◌, ℕ, ◌+◌, ◌/◌, ◌%◌, ◌<◌, ◌≤◌, ◌==◌, nat_le, nat_lt, max, Bool, true, false, ◌&&◌, ◌||◌, not, [], ◌∷◌, ◌++◌, Option, Some, None, is_some, if◌then◌else◌, refl, sym, ap, ◌∙◌, arith, inl, inr, subst, eq-eqb}
use Rattle.std.proofs.lemmas.Bool.{cases_Bool, eqb-false, false≢true, leb-false, le-ltb, lt-ltb, ltb-false}
use Rattle.qh_book.proofs.ShownOpens.{no_half, no_send, note_is, new_recv_none, new_send_none, new_recv_shown, new_send_shown, put_recv, put_send}
use Rattle.qh_book.specs.Book.{Book, index_of, is_read, tally, was_opened as book_opened, with_tally}
use Rattle.qh_book.specs.Items.{with_arrived}
use Rattle.qh_book.specs.Pages.{RecvPage, SendPage, Tally, new_recv_page, new_send_page}
use Rattle.qh_book.specs.Shown.{Note, ShowsRecv, ShowsSend, ShowsStreams, no_note, tally_of}
use Rattle.qh_half.specs.Send.{PlainSend}
use Rattle.qh_halves.specs.Counts.{has_recv, has_send, is_bi, is_own}
use Rattle.qh_halves.specs.RecvHalves.{recv_at}
use Rattle.qh_halves.specs.SendHalves.{PlainSendHalves, send_at}
use Rattle.qh_spec.specs.declared.sides.Dir.TheVariants.{Bi, Uni}
use Rattle.qh_spec.specs.StreamId.{side_bit}
use Rattle.qh_spec.specs.declared.sides.Side.{Side}
use Rattle.qh_spec.specs.declared.sides.Side.TheVariants.{Client, Server}
use Rattle.qh_streams.proofs.StreamsArrived.{arriving}
use Rattle.qh_streams.proofs.StreamsOpened.{opened_is}
use Rattle.qh_streams.specs.declared.frames.StreamEvent.TheVariants.{Opened}
use Rattle.qh_streams.specs.Streams.{AreOpened, HasArrived, PlainStreams, arrives_with, dir_of as streams_dir_of, counts_of, first_limit, new_recv_half, new_send_half, was_opened, with_counts}

keep_send : (here : Bool) (n new o : Option PlainSend) (page : Option SendPage) → n ≡ (if here then new else o) → ShowsSend o page → (here ≡ true → ShowsSend new page) → ShowsSend n page
keep_send true n new o page is before after = subst (λ (x : Option PlainSend). ShowsSend x page) (sym is) (after refl)
keep_send false n new o page is before after = subst (λ (x : Option PlainSend). ShowsSend x page) (sym is) before

and_true : (x : Bool) → (x && true) ≡ x
and_true true = refl
and_true false = refl

and_false : (x : Bool) → (x && false) ≡ false
and_false true = refl
and_false false = refl

-- what an arrival does, by the direction
abbrev arrived_at : (two_way : Bool) → (id credit : ℕ) → Book → Book
arrived_at two_way id credit b = with_tally (record b {
  sends = λ k. if (k % 4 == id % 4 && (nat_le (tally b (if two_way then Bi else Uni)).arrived (index_of k) && nat_le (index_of k) (index_of id))) && two_way then Some (new_send_page credit) else b.sends k;
  recvs = λ k. if k % 4 == id % 4 && (nat_le (tally b (if two_way then Bi else Uni)).arrived (index_of k) && nat_le (index_of k) (index_of id)) then Some new_recv_page else b.recvs k;
}) (if two_way then Bi else Uni) (record (tally b (if two_way then Bi else Uni)) { arrived = max (tally b (if two_way then Bi else Uni)).arrived (index_of id + 1) })

-- ---- which streams were opened then

none_of : {X : Type 0} (o : Option X) → is_some o ≡ false → o ≡ None
none_of None h = refl
none_of (Some x) h = absurd (false≢true (sym h))

outside : (index last arrived : ℕ) → (nat_le arrived index && nat_le index last) ≡ false → (index < arrived) ⊎ (last < index)
outside index last arrived out = elim (cases_Bool (nat_le arrived index)) [
  | inl from ↦ inr (leb-false index last (rw from at out))
  | inr before ↦ inl (leb-false arrived index before)
]

later_below : (index last arrived : ℕ) → arrived ≤ last → (index < arrived) ⊎ (last < index) → nat_lt index arrived ≡ nat_lt index (max arrived (last + 1))
later_below index last arrived low (inl under) = lt-ltb index arrived under ∙ sym (lt-ltb index (max arrived (last + 1)) (omega (arith, under)))
later_below index last arrived low (inr over) = le-ltb index arrived (omega (arith, low, over)) ∙ sym (le-ltb index (max arrived (last + 1)) (omega (arith, low, over)))

-- streams of the peer's in one direction
parity : (n k j : ℕ) → n ≤ 1 → (n == k % 2) ≡ false → (n == j % 2) ≡ false → k % 2 ≡ j % 2
parity n k j small a b = omega (arith, small, eqb-false n (k % 2) a, eqb-false n (j % 2) b)

small_bit : (side : Side) → side_bit side ≤ 1
small_bit Client = omega arith
small_bit Server = omega arith

same_bit : (k j : ℕ) → (k / 2 % 2 == 0) ≡ (j / 2 % 2 == 0) → k / 2 % 2 ≡ j / 2 % 2
same_bit k j e = grind (arith, e)

same_class : (side : Side) (k id : ℕ) → is_own side k ≡ false → is_own side id ≡ false → is_bi k ≡ is_bi id → k % 4 ≡ id % 4
same_class side k id a b c =
    let low = parity (side_bit side) k id (small_bit side) a b in
    let high = same_bit k id c in
    omega (arith, low, high)

-- a stream of the peer's that wasn't there, and those before it
module _ {notes : ℕ → Note} (old new : PlainStreams) (b : Book) (id : ℕ) (shown : ShowsStreams old notes b) (own : is_own old.side id ≡ false) (closed : was_opened old id ≡ false) (h : HasArrived old new id) where
  halves : AreOpened old new (arrives_with old id)
  halves = h.halves closed

  -- it lies behind those that came
  behind : (two_way : Bool) → is_bi id ≡ two_way → (counts_of old two_way).arrived ≤ index_of id
  behind two_way bi = ltb-false (index_of id) (counts_of old two_way).arrived (sym (opened_is old id false two_way own bi) ∙ closed)

  arrived_unread : (k : ℕ) → new.side ≡ old.side → has_recv new.side k ≡ false → recv_at new.recv k ≡ None
  arrived_unread k side none = let off : has_recv old.side k ≡ false = ap (λ (s : Side). has_recv s k) (sym side) ∙ none in
      no_half (arrives_with old id k) _ (new_recv_half old k) _ (halves.recv_is k) (shown.unread_sides k off) (new_recv_none old k off)

  -- none of those that arrive had a page
  no_page_before : (two_way : Bool) → is_bi id ≡ two_way → (k : ℕ) → arrives_with old id k ≡ true → b.recvs k ≡ None
  no_page_before true bi k there =
      let a = arriving old id true own bi k there in
      let theirs : is_own b.side k ≡ false = ap (λ (side : Side). is_own side k) shown.side ∙ a.own in
      let known : b.bi.arrived ≡ old.bi.arrived = ap (λ (t : Tally). t.arrived) shown.bi in
      none_of (b.recvs k) (shown.pages k ∙ (rw (theirs, a.bi) (le-ltb (index_of k) b.bi.arrived (omega (arith, a.from, known)))))
  no_page_before false bi k there =
      let a = arriving old id false own bi k there in
      let theirs : is_own b.side k ≡ false = ap (λ (side : Side). is_own side k) shown.side ∙ a.own in
      let known : b.uni.arrived ≡ old.uni.arrived = ap (λ (t : Tally). t.arrived) shown.uni in
      none_of (b.recvs k) (shown.pages k ∙ (rw (theirs, a.bi) (le-ltb (index_of k) b.uni.arrived (omega (arith, a.from, known)))))

  no_note_before : (two_way : Bool) → is_bi id ≡ two_way → (k : ℕ) → arrives_with old id k ≡ true → notes k ≡ no_note
  no_note_before two_way bi k there = note_is (recv_at old.recv k) (subst (λ (q : Option RecvPage). ShowsRecv (notes k) (recv_at old.recv k) q) (no_page_before two_way bi k there) (shown.recvs k))

  recv_new : (two_way : Bool) → is_bi id ≡ two_way → (k : ℕ) → arrives_with old id k ≡ true → ShowsRecv (notes k) (new_recv_half old k) (Some new_recv_page)
  recv_new two_way bi k there = let a = arriving old id two_way own bi k there in rw a.own (new_recv_shown (notes k) _ (no_note_before two_way bi k there))

  arrived_unsent : (k : ℕ) → new.side ≡ old.side → has_send new.side k ≡ false → send_at new.send k ≡ None
  arrived_unsent k side none = let off : has_send old.side k ≡ false = ap (λ (s : Side). has_send s k) (sym side) ∙ none in
      no_send (arrives_with old id k) _ (new_send_half old k) _ (halves.send_is k) (shown.unsent_sides k off) (new_send_none old k off)

  rest : (two_way : Bool) → is_bi id ≡ two_way → new ≡ with_counts (record old { send = new.send; recv = new.recv; events = old.events ++ Opened (streams_dir_of id) ∷ [] }) two_way (record (counts_of old two_way) { arrived = index_of id + 1 })
  rest two_way bi = h.rest_is closed ∙ ap (λ (t : Bool). with_counts (record old { send = new.send; recv = new.recv; events = old.events ++ Opened (streams_dir_of id) ∷ [] }) t (record (counts_of old t) { arrived = index_of id + 1 })) bi

  -- the book's test is that of the streams
  same_test : (two_way : Bool) (arrived : ℕ) → is_bi id ≡ two_way → arrived ≡ (counts_of old two_way).arrived → (k : ℕ) → (k % 4 == id % 4 && (nat_le arrived (index_of k) && nat_le (index_of k) (index_of id))) ≡ arrives_with old id k
  same_test two_way arrived bi is k = ap (λ (n : ℕ). k % 4 == id % 4 && (nat_le n (index_of k) && nat_le (index_of k) (index_of id))) (is ∙ ap (λ (t : Bool). (counts_of old t).arrived) (sym bi))

  newest_is : (two_way : Bool) (arrived : ℕ) → is_bi id ≡ two_way → arrived ≡ (counts_of old two_way).arrived → max arrived (index_of id + 1) ≡ index_of id + 1
  newest_is two_way arrived bi is = let low = behind two_way bi in omega (arith, low, is)

  -- a stream of the same kind that doesn't arrive had come before, or lies behind
  page_later : (arrived k : ℕ) → arrived ≤ index_of id → is_own b.side k ≡ false → is_bi k ≡ is_bi id → (k % 4 == id % 4 && (nat_le arrived (index_of k) && nat_le (index_of k) (index_of id))) ≡ false
      → nat_lt (index_of k) arrived ≡ nat_lt (index_of k) (max arrived (index_of id + 1))
  page_later arrived k low theirs kind out =
      let mine : is_own b.side id ≡ false = ap (λ (side : Side). is_own side id) shown.side ∙ own in
      let same = same_class b.side k id theirs mine kind in
      later_below (index_of k) (index_of id) arrived low (outside (index_of k) (index_of id) arrived (sym (ap (λ (here : Bool). here && (nat_le arrived (index_of k) && nat_le (index_of k) (index_of id))) (eq-eqb (k % 4) (id % 4) same)) ∙ out))

  page_bi : is_bi id ≡ true → (k : ℕ) → is_some ((arrived_at true id (first_limit old id) b).recvs k) ≡ (is_read b k && book_opened (arrived_at true id (first_limit old id) b) k)
  page_bi bi k = elim (cases_Bool (k % 4 == id % 4 && (nat_le b.bi.arrived (index_of k) && nat_le (index_of k) (index_of id)))) [
    | inl there ↦ let a = arriving old id true own bi k (sym (same_test true b.bi.arrived bi (ap (λ (t : Tally). t.arrived) shown.bi) k) ∙ there) in
        let theirs : is_own b.side k ≡ false = ap (λ (side : Side). is_own side k) shown.side ∙ a.own in
        rw (there, theirs, a.bi) (sym (lt-ltb (index_of k) (max b.bi.arrived (index_of id + 1)) (omega (arith, a.to))))
    | inr out ↦ rw out (shown.pages k ∙ others (is_own b.side k) (is_bi k) refl refl out)
  ]
    where
      others : (o t : Bool) → is_own b.side k ≡ o → is_bi k ≡ t → (k % 4 == id % 4 && (nat_le b.bi.arrived (index_of k) && nat_le (index_of k) (index_of id))) ≡ false
          → ((not o || t) && nat_lt (index_of k) (if o then (if t then b.bi.opened else b.uni.opened) else (if t then b.bi.arrived else b.uni.arrived)))
          ≡ ((not o || t) && nat_lt (index_of k) (if o then (if t then b.bi.opened else b.uni.opened) else (if t then max b.bi.arrived (index_of id + 1) else b.uni.arrived)))
      others true true o t out = refl
      others true false o t out = refl
      others false false o t out = refl
      others false true o t out = let low = behind true bi in let known = ap (λ (t : Tally). t.arrived) shown.bi in page_later b.bi.arrived k (omega (arith, low, known)) o (t ∙ sym bi) out

  page_uni : is_bi id ≡ false → (k : ℕ) → is_some ((arrived_at false id (first_limit old id) b).recvs k) ≡ (is_read b k && book_opened (arrived_at false id (first_limit old id) b) k)
  page_uni bi k = elim (cases_Bool (k % 4 == id % 4 && (nat_le b.uni.arrived (index_of k) && nat_le (index_of k) (index_of id)))) [
    | inl there ↦ let a = arriving old id false own bi k (sym (same_test false b.uni.arrived bi (ap (λ (t : Tally). t.arrived) shown.uni) k) ∙ there) in
        let theirs : is_own b.side k ≡ false = ap (λ (side : Side). is_own side k) shown.side ∙ a.own in
        rw (there, theirs, a.bi) (sym (lt-ltb (index_of k) (max b.uni.arrived (index_of id + 1)) (omega (arith, a.to))))
    | inr out ↦ rw out (shown.pages k ∙ others (is_own b.side k) (is_bi k) refl refl out)
  ]
    where
      others : (o t : Bool) → is_own b.side k ≡ o → is_bi k ≡ t → (k % 4 == id % 4 && (nat_le b.uni.arrived (index_of k) && nat_le (index_of k) (index_of id))) ≡ false
          → ((not o || t) && nat_lt (index_of k) (if o then (if t then b.bi.opened else b.uni.opened) else (if t then b.bi.arrived else b.uni.arrived)))
          ≡ ((not o || t) && nat_lt (index_of k) (if o then (if t then b.bi.opened else b.uni.opened) else (if t then b.bi.arrived else max b.uni.arrived (index_of id + 1))))
      others true true o t out = refl
      others true false o t out = refl
      others false true o t out = refl
      others false false o t out = let low = behind false bi in let known = ap (λ (t : Tally). t.arrived) shown.uni in page_later b.uni.arrived k (omega (arith, low, known)) o (t ∙ sym bi) out

  arrived_bi : is_bi id ≡ true → ShowsStreams new notes (arrived_at true id (first_limit old id) b)
  arrived_bi bi =
      let r = rest true bi in
      let known : b.bi.arrived ≡ old.bi.arrived = ap (λ (t : Tally). t.arrived) shown.bi in
      record {
        side = shown.side ∙ sym (ap (λ (s : PlainStreams). s.side) r);
        sends = λ k. subst (λ (t : Bool). ShowsSend (send_at new.send k) (if t then Some (new_send_page (first_limit old id)) else b.sends k)) (sym (and_true _ ∙ same_test true b.bi.arrived bi known k))
            (put_send (arrives_with old id k) _ (new_send_half old k) _ (b.sends k) (new_send_page (first_limit old id)) (halves.send_is k) (shown.sends k) (send_new k));
        recvs = λ k. subst (λ (t : Bool). ShowsRecv (notes k) (recv_at new.recv k) (if t then Some new_recv_page else b.recvs k)) (sym (same_test true b.bi.arrived bi known k))
            (put_recv (notes k) (arrives_with old id k) _ (new_recv_half old k) _ (b.recvs k) new_recv_page (halves.recv_is k) (shown.recvs k) (recv_new true bi k));
        unsent_sides = λ k. arrived_unsent k (ap (λ (s : PlainStreams). s.side) r);
        unread_sides = λ k. arrived_unread k (ap (λ (s : PlainStreams). s.side) r);
        pages = page_bi bi;
        bi = (λ i. record (shown.bi i) { arrived = newest_is true b.bi.arrived bi known i }) ∙ sym (ap (λ (s : PlainStreams). tally_of s.bi) r);
        uni = shown.uni ∙ sym (ap (λ (s : PlainStreams). tally_of s.uni) r);
        first_bi = shown.first_bi ∙ sym (ap (λ (s : PlainStreams). s.peer.bidi_remote) r);
        first_uni = shown.first_uni ∙ sym (ap (λ (s : PlainStreams). s.peer.uni) r);
        credit_to = shown.credit_to ∙ sym (ap (λ (s : PlainSendHalves). s.max_data) halves.send_rest);
        taken = shown.taken ∙ sym (ap (λ (s : PlainSendHalves). s.data_sent) halves.send_rest);
        send_window = shown.send_window ∙ sym (ap (λ (s : PlainSendHalves). s.send_window) halves.send_rest);
        unconfirmed = shown.unconfirmed ∙ sym halves.held_is;
      }
    where
      send_new : (k : ℕ) → arrives_with old id k ≡ true → ShowsSend (new_send_half old k) (Some (new_send_page (first_limit old id)))
      send_new k there = let a = arriving old id true own bi k there in rw (a.own, a.bi, own, bi) (new_send_shown _)

  arrived_uni : is_bi id ≡ false → ShowsStreams new notes (arrived_at false id (first_limit old id) b)
  arrived_uni bi =
      let r = rest false bi in
      let known : b.uni.arrived ≡ old.uni.arrived = ap (λ (t : Tally). t.arrived) shown.uni in
      record {
        side = shown.side ∙ sym (ap (λ (s : PlainStreams). s.side) r);
        sends = λ k. subst (λ (t : Bool). ShowsSend (send_at new.send k) (if t then Some (new_send_page (first_limit old id)) else b.sends k)) (sym (and_false _))
            (keep_send (arrives_with old id k) _ (new_send_half old k) _ (b.sends k) (halves.send_is k) (shown.sends k) (send_none k));
        recvs = λ k. subst (λ (t : Bool). ShowsRecv (notes k) (recv_at new.recv k) (if t then Some new_recv_page else b.recvs k)) (sym (same_test false b.uni.arrived bi known k))
            (put_recv (notes k) (arrives_with old id k) _ (new_recv_half old k) _ (b.recvs k) new_recv_page (halves.recv_is k) (shown.recvs k) (recv_new false bi k));
        unsent_sides = λ k. arrived_unsent k (ap (λ (s : PlainStreams). s.side) r);
        unread_sides = λ k. arrived_unread k (ap (λ (s : PlainStreams). s.side) r);
        pages = page_uni bi;
        bi = shown.bi ∙ sym (ap (λ (s : PlainStreams). tally_of s.bi) r);
        uni = (λ i. record (shown.uni i) { arrived = newest_is false b.uni.arrived bi known i }) ∙ sym (ap (λ (s : PlainStreams). tally_of s.uni) r);
        first_bi = shown.first_bi ∙ sym (ap (λ (s : PlainStreams). s.peer.bidi_remote) r);
        first_uni = shown.first_uni ∙ sym (ap (λ (s : PlainStreams). s.peer.uni) r);
        credit_to = shown.credit_to ∙ sym (ap (λ (s : PlainSendHalves). s.max_data) halves.send_rest);
        taken = shown.taken ∙ sym (ap (λ (s : PlainSendHalves). s.data_sent) halves.send_rest);
        send_window = shown.send_window ∙ sym (ap (λ (s : PlainSendHalves). s.send_window) halves.send_rest);
        unconfirmed = shown.unconfirmed ∙ sym halves.held_is;
      }
    where
      send_none : (k : ℕ) → arrives_with old id k ≡ true → ShowsSend (new_send_half old k) (b.sends k)
      send_none k there =
          let a = arriving old id false own bi k there in
          let off : has_send old.side k ≡ false = rw (a.own, a.bi) refl in
          let before : ShowsSend None (b.sends k) = subst (λ (o : Option PlainSend). ShowsSend o (b.sends k)) (shown.unsent_sides k off) (shown.sends k) in
          subst (λ (o : Option PlainSend). ShowsSend o (b.sends k)) (sym (new_send_none old k off)) before

  pub arrived_shown : ShowsStreams new notes (with_arrived id (first_limit old id) b)
  arrived_shown = elim (cases_Bool (is_bi id)) [
    | inl bi ↦ subst (λ (t : Bool). ShowsStreams new notes (arrived_at t id (first_limit old id) b)) (sym bi) (arrived_bi bi)
    | inr uni ↦ subst (λ (t : Bool). ShowsStreams new notes (arrived_at t id (first_limit old id) b)) (sym uni) (arrived_uni uni)
  ]
