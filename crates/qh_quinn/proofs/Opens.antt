-- Streams that are opened and accepted.
use Rattle.std.proofs.Common.{◌≡◌, ℕ, ◌+◌, ◌/◌, ◌%◌, ◌<◌, ◌≤◌, ◌==◌, nat_lt, nat_le, Bool, true, false, ◌&&◌, ◌||◌, not, Option, Some, None, is_some, if◌then◌else◌, refl, sym, ap, ◌∙◌, subst, arith}
use Rattle.std.proofs.lemmas.Bool.{eq-eqb, eqb-true, false≢true, le-leb, le-ltb, leb-true, lt-ltb, ne_eqb}
use Rattle.std.specs.Prelude.{IfSome}
use Rattle.qh_book.specs.Book.{Book, held_with, index_of, is_own, is_read, is_two_way, tally, was_opened}
use Rattle.qh_book.specs.Opening.{held_by_opener, with_accepted, with_opened, with_reader}
use Rattle.qh_book.specs.Pages.{RecvPage, is_open, new_recv_page}
use Rattle.qh_book.specs.Shown.{Note, ShowsRecv, ShowsStreams, no_note}
use Rattle.qh_half.specs.Recv.{PlainRecv}
use Rattle.qh_halves.specs.RecvHalves.{recv_at}
use Rattle.qh_quinn.proofs.Recvs.{read_at}
use Rattle.qh_quinn.specs.Readers.{HoldsReader, new_reader, reader_in, PlainReaders}
use Rattle.qh_quinn.specs.States.{AreUntouched, IsUntouched, is_unaccepted}
use Rattle.qh_quinn.specs.declared.readers.Reader.{Reader}
use Rattle.qh_spec.specs.Link.{other}
use Rattle.qh_spec.specs.StreamId.{stream_id}
use Rattle.qh_spec.specs.declared.sides.Dir.{Dir}
use Rattle.qh_spec.specs.declared.sides.Dir.TheVariants.{Bi, Uni}
use Rattle.qh_spec.specs.declared.sides.Side.{Side}
use Rattle.qh_spec.specs.declared.sides.Side.TheVariants.{Client, Server}
use Rattle.qh_streams.specs.Streams.{PlainStreams}

-- ---- ids

pub own_id : (side : Side) (dir : Dir) (n : ℕ) → is_own side (stream_id side dir n) ≡ true
own_id Client Bi n = eq-eqb 0 (stream_id Client Bi n % 2) (omega arith)
own_id Client Uni n = eq-eqb 0 (stream_id Client Uni n % 2) (omega arith)
own_id Server Bi n = eq-eqb 1 (stream_id Server Bi n % 2) (omega arith)
own_id Server Uni n = eq-eqb 1 (stream_id Server Uni n % 2) (omega arith)

other_id : (side : Side) (dir : Dir) (n : ℕ) → is_own side (stream_id (other side) dir n) ≡ false
other_id Client Bi n = ne_eqb 0 (stream_id Server Bi n % 2) (λ e. omega arith)
other_id Client Uni n = ne_eqb 0 (stream_id Server Uni n % 2) (λ e. omega arith)
other_id Server Bi n = ne_eqb 1 (stream_id Client Bi n % 2) (λ e. omega arith)
other_id Server Uni n = ne_eqb 1 (stream_id Client Uni n % 2) (λ e. omega arith)

pub id_index : (side : Side) (dir : Dir) (n : ℕ) → index_of (stream_id side dir n) ≡ n
id_index Client Bi n = omega arith
id_index Client Uni n = omega arith
id_index Server Bi n = omega arith
id_index Server Uni n = omega arith

abbrev pub is_bi : Dir → Bool
is_bi Bi = true
is_bi Uni = false

pub id_way : (side : Side) (dir : Dir) (n : ℕ) → is_two_way (stream_id side dir n) ≡ is_bi dir
id_way Client Bi n = eq-eqb (stream_id Client Bi n / 2 % 2) 0 (omega arith)
id_way Server Bi n = eq-eqb (stream_id Server Bi n / 2 % 2) 0 (omega arith)
id_way Client Uni n = ne_eqb (stream_id Client Uni n / 2 % 2) 0 (λ e. omega arith)
id_way Server Uni n = ne_eqb (stream_id Server Uni n / 2 % 2) 0 (λ e. omega arith)

not_below : (n : ℕ) → nat_lt n n ≡ false
not_below n = le-ltb n n (omega arith)

-- the stream that this end opens next wasn't opened
pub next_unopened : (b : Book) (dir : Dir) (id : ℕ) → id ≡ stream_id b.side dir (tally b dir).opened → was_opened b id ≡ false
next_unopened b dir id is = rw is (at dir)
  where
    at : (d : Dir) → was_opened b (stream_id b.side d (tally b d).opened) ≡ false
    at Bi = rw (own_id b.side Bi b.bi.opened, id_way b.side Bi b.bi.opened, id_index b.side Bi b.bi.opened) (not_below b.bi.opened)
    at Uni = rw (own_id b.side Uni b.uni.opened, id_way b.side Uni b.uni.opened, id_index b.side Uni b.uni.opened) (not_below b.uni.opened)

none_by : {X : Type 0} (o : Option X) (x y : Bool) → is_some o ≡ (x && y) → y ≡ false → o ≡ None
none_by None x y e off = refl
none_by (Some z) true y e off = absurd (false≢true (sym off ∙ sym e))
none_by (Some z) false y e off = absurd (false≢true (sym e))

pub next_no_page : (s : PlainStreams) (notes : ℕ → Note) (b : Book) (dir : Dir) (id : ℕ) → ShowsStreams s notes b → id ≡ stream_id b.side dir (tally b dir).opened → b.recvs id ≡ None
next_no_page s notes b dir id shown is = none_by (b.recvs id) (is_read b id) (was_opened b id) (shown.pages id) (next_unopened b dir id is)

no_note_in : (note : Note) (o : Option PlainRecv) → ShowsRecv note o None → note ≡ no_note
no_note_in note None s = s
no_note_in note (Some r) s = absurd s

-- what nobody holds has no reader
unpaged : (w : Bool) (reader : Option Reader) (held : Bool) (note : Note) → HoldsReader w reader held note None → (reader ≡ None) × (held ≡ false)
unpaged w None false note h = (refl, refl)
unpaged w None true note h = absurd h
unpaged w (Some r) true note h = absurd h
unpaged w (Some r) false note h = absurd h

pub no_page_unheld : (w : Bool) (reader : Option Reader) (held : Bool) (note : Note) (page : Option RecvPage) → page ≡ None → HoldsReader w reader held note page → (reader ≡ None) × (held ≡ false)
no_page_unheld w reader held note page is h = unpaged w reader held note (subst (λ (o : Option RecvPage). HoldsReader w reader held note o) is h)

-- ---- a stream is opened

opened_recvs : (dir : Dir) (id : ℕ) (b : Book) → (with_opened dir id b).recvs ≡ with_reader dir id b.recvs
opened_recvs Bi id b = refl
opened_recvs Uni id b = refl

opened_readers : (dir : Dir) (id : ℕ) (b : Book) → (with_opened dir id b).readers ≡ held_by_opener dir id b.readers
opened_readers Bi id b = refl
opened_readers Uni id b = refl

pub readers_opened : (s : PlainStreams) (notes : ℕ → Note) (b : Book) (dir : Dir) (id : ℕ) (held new : PlainReaders) → ShowsStreams s notes b → id ≡ stream_id b.side dir (tally b dir).opened
    → ((k : ℕ) → reader_in new k ≡ (if held_by_opener dir id (λ j. false) k then Some new_reader else reader_in held k)) → ((k : ℕ) → HoldsReader false (reader_in held k) (b.readers k) (notes k) (b.recvs k))
    → (k : ℕ) → HoldsReader false (reader_in new k) ((with_opened dir id b).readers k) (notes k) ((with_opened dir id b).recvs k)
readers_opened s notes b Uni id held new shown is put old k = subst (λ (o : Option Reader). HoldsReader false o (b.readers k) (notes k) (b.recvs k)) (sym (put k)) (old k)
readers_opened s notes b Bi id held new shown is put old k =
    subst (λ (o : Option Reader). HoldsReader false o (k == id || b.readers k) (notes k) (if k == id then Some new_recv_page else b.recvs k)) (sym (put k)) (at (k == id) (eqb-true k id))
  where
    none : b.recvs id ≡ None
    none = next_no_page s notes b Bi id shown is

    first : notes id ≡ no_note
    first = no_note_in (notes id) (recv_at s.recv id) (subst (λ (o : Option RecvPage). ShowsRecv (notes id) (recv_at s.recv id) o) none (shown.recvs id))

    at : (here : Bool) → (here ≡ true → k ≡ id) → HoldsReader false (if here || false then Some new_reader else reader_in held k) (here || b.readers k) (notes k) (if here then Some new_recv_page else b.recvs k)
    at true same = (ap notes (same refl) ∙ first, refl, refl, λ e. refl)
    at false same = old k

not_own : (b : Book) (k : ℕ) → is_unaccepted b k ≡ true → is_own b.side k ≡ false
not_own b k is = at (is_own b.side k) is
  where
    at : (own : Bool) → (not own && nat_le (if is_two_way k then b.bi.accepted else b.uni.accepted) (index_of k)) ≡ true → own ≡ false
    at true e = absurd (false≢true e)
    at false e = refl

pub untouched_opened : (b : Book) (dir : Dir) (id : ℕ) → id ≡ stream_id b.side dir (tally b dir).opened → AreUntouched b → AreUntouched (with_opened dir id b)
untouched_opened b Uni id is u = record { unheld = u.unheld; page = u.page }
untouched_opened b Bi id is u = record { unheld = λ k e. apart k e (k == id) (eqb-true k id); page = λ k e. there k e (k == id) (eqb-true k id) }
  where
    own : (k : ℕ) → is_unaccepted b k ≡ true → k ≡ id → ⊥
    own k e same = false≢true (sym (not_own b k e) ∙ ap (is_own b.side) (same ∙ is) ∙ own_id b.side Bi b.bi.opened)

    apart : (k : ℕ) → is_unaccepted b k ≡ true → (here : Bool) → (here ≡ true → k ≡ id) → (here || b.readers k) ≡ false
    apart k e true same = absurd (own k e (same refl))
    apart k e false same = u.unheld k e

    there : (k : ℕ) → is_unaccepted b k ≡ true → (here : Bool) → (here ≡ true → k ≡ id) → IfSome (if here then Some new_recv_page else b.recvs k) IsUntouched
    there k e true same = absurd (own k e (same refl))
    there k e false same = u.page k e

-- ---- a stream is accepted

le_less : (n k : ℕ) → nat_le (n + 1) k ≡ true → (nat_le n k ≡ true) × (k ≡ n → ⊥)
le_less n k e = let low : n + 1 ≤ k = leb-true (n + 1) k e in (le-leb n k (omega arith), λ same. omega arith)

abbrev pub next_id : Book → Dir → ℕ
next_id b dir = stream_id (other b.side) dir (tally b dir).accepted

pub next_unaccepted : (b : Book) (dir : Dir) → is_unaccepted b (next_id b dir) ≡ true
next_unaccepted b Bi = rw (other_id b.side Bi b.bi.accepted, id_way (other b.side) Bi b.bi.accepted, id_index (other b.side) Bi b.bi.accepted) (le-leb b.bi.accepted b.bi.accepted (omega arith))
next_unaccepted b Uni = rw (other_id b.side Uni b.uni.accepted, id_way (other b.side) Uni b.uni.accepted, id_index (other b.side) Uni b.uni.accepted) (le-leb b.uni.accepted b.uni.accepted (omega arith))

next_came : (b : Book) (dir : Dir) → (tally b dir).accepted < (tally b dir).arrived → (is_read b (next_id b dir) && was_opened b (next_id b dir)) ≡ true
next_came b Bi low = rw (other_id b.side Bi b.bi.accepted, id_way (other b.side) Bi b.bi.accepted, id_index (other b.side) Bi b.bi.accepted) (lt-ltb b.bi.accepted b.bi.arrived low)
next_came b Uni low = rw (other_id b.side Uni b.uni.accepted, id_way (other b.side) Uni b.uni.accepted, id_index (other b.side) Uni b.uni.accepted) (lt-ltb b.uni.accepted b.uni.arrived low)

fresh_note : (n : Note) → n.code ≡ None → n.is_told ≡ false → n.gave_error ≡ false → n ≡ no_note
fresh_note n none untold calm =
    ap (λ (c : Option ℕ). record n { code = c }) none ∙ ap (λ (t : Bool). record n { code = None; is_told = t }) untold ∙ ap (λ (g : Bool). record { code = None; is_told = false; gave_error = g }) calm

some_page : (o : Option RecvPage) → is_some o ≡ true → (p : RecvPage) × (o ≡ Some p)
some_page None e = absurd (false≢true e)
some_page (Some p) e = (p, refl)

fresh_held : (s : PlainStreams) (notes : ℕ → Note) (b : Book) (id : ℕ) → ShowsStreams s notes b → AreUntouched b → is_unaccepted b id ≡ true → (is_read b id && was_opened b id) ≡ true → HoldsReader false (Some new_reader) true (notes id) (b.recvs id)
fresh_held s notes b id shown u waits came =
    let q = some_page (b.recvs id) (shown.pages id ∙ came) in
    let p = q.0 in
    let untouched : IsUntouched p = subst (λ (o : Option RecvPage). IfSome o IsUntouched) q.1 (u.page id waits) in
    let opened : is_open p.state ≡ true = ap is_open untouched.state in
    let half = read_at notes s b id p shown q.1 opened in
    subst (λ (o : Option RecvPage). HoldsReader false (Some new_reader) true (notes id) o) (sym q.1)
    (fresh_note (notes id) half.noted.none half.noted.untold (sym half.noted.gave_error ∙ untouched.gave_error), opened, untouched.is_unordered, λ e. refl)

accepted_recvs : (dir : Dir) (b : Book) → (with_accepted dir b).recvs ≡ b.recvs
accepted_recvs Bi b = refl
accepted_recvs Uni b = refl

accepted_readers : (dir : Dir) (b : Book) → (with_accepted dir b).readers ≡ held_with b.readers (next_id b dir)
accepted_readers Bi b = refl
accepted_readers Uni b = refl

pub readers_accepted : (s : PlainStreams) (notes : ℕ → Note) (b : Book) (dir : Dir) (id : ℕ) (held new : PlainReaders) → ShowsStreams s notes b → AreUntouched b → id ≡ next_id b dir → (tally b dir).accepted < (tally b dir).arrived
    → ((k : ℕ) → reader_in new k ≡ (if k == id then Some new_reader else reader_in held k)) → ((k : ℕ) → HoldsReader false (reader_in held k) (b.readers k) (notes k) (b.recvs k))
    → (k : ℕ) → HoldsReader false (reader_in new k) ((with_accepted dir b).readers k) (notes k) ((with_accepted dir b).recvs k)
readers_accepted s notes b dir id held new shown u is low put old k =
    rw (accepted_recvs dir b, accepted_readers dir b, ← is) (subst (λ (o : Option Reader). HoldsReader false o (k == id || b.readers k) (notes k) (b.recvs k)) (sym (put k)) (at (k == id) (eqb-true k id)))
  where
    fresh : HoldsReader false (Some new_reader) true (notes id) (b.recvs id)
    fresh = fresh_held s notes b id shown u (rw is (next_unaccepted b dir)) (rw is (next_came b dir low))

    at : (here : Bool) → (here ≡ true → k ≡ id) → HoldsReader false (if here then Some new_reader else reader_in held k) (here || b.readers k) (notes k) (b.recvs k)
    at true same = subst (λ (n : ℕ). HoldsReader false (Some new_reader) true (notes n) (b.recvs n)) (sym (same refl)) fresh
    at false same = old k

both : (x y : Bool) → (not x && y) ≡ true → (x ≡ false) × (y ≡ true)
both true y e = absurd (false≢true e)
both false y e = (refl, e)

-- one that waits then waited before, and is another one
still_waits : (b : Book) (dir : Dir) (k : ℕ) → is_unaccepted (with_accepted dir b) k ≡ true → (is_unaccepted b k ≡ true) × (k ≡ next_id b dir → ⊥)
still_waits b Bi k e = let p = both (is_own b.side k) _ e in at (is_two_way k) refl p.0 p.1
  where
    at : (two : Bool) → is_two_way k ≡ two → is_own b.side k ≡ false → nat_le (if two then b.bi.accepted + 1 else b.uni.accepted) (index_of k) ≡ true → (is_unaccepted b k ≡ true) × (k ≡ next_id b Bi → ⊥)
    at true two own low = let less = le_less b.bi.accepted (index_of k) low in (rw (own, two) less.0, λ same. less.1 (ap index_of same ∙ id_index (other b.side) Bi b.bi.accepted))
    at false two own low = (rw (own, two) low, λ same. false≢true (sym two ∙ ap is_two_way same ∙ id_way (other b.side) Bi b.bi.accepted))
still_waits b Uni k e = let p = both (is_own b.side k) _ e in at (is_two_way k) refl p.0 p.1
  where
    at : (two : Bool) → is_two_way k ≡ two → is_own b.side k ≡ false → nat_le (if two then b.bi.accepted else b.uni.accepted + 1) (index_of k) ≡ true → (is_unaccepted b k ≡ true) × (k ≡ next_id b Uni → ⊥)
    at true two own low = (rw (own, two) low, λ same. false≢true (sym (id_way (other b.side) Uni b.uni.accepted) ∙ sym (ap is_two_way same) ∙ two))
    at false two own low = let less = le_less b.uni.accepted (index_of k) low in (rw (own, two) less.0, λ same. less.1 (ap index_of same ∙ id_index (other b.side) Uni b.uni.accepted))

pub untouched_accepted : (b : Book) (dir : Dir) → AreUntouched b → AreUntouched (with_accepted dir b)
untouched_accepted b dir u = record {
  unheld = λ k e. let s = still_waits b dir k e in rw (accepted_readers dir b) (apart k s.0 s.1 (k == next_id b dir) (eqb-true k (next_id b dir)));
  page = λ k e. rw (accepted_recvs dir b) (u.page k (still_waits b dir k e).0);
}
  where
    apart : (k : ℕ) → is_unaccepted b k ≡ true → (k ≡ next_id b dir → ⊥) → (here : Bool) → (here ≡ true → k ≡ next_id b dir) → (here || b.readers k) ≡ false
    apart k e other true same = absurd (other (same refl))
    apart k e other false same = u.unheld k e
