-- What the steps of a client leave of it, whatever was done before.
use Rattle.std.proofs.Common.{◌≡◌, ℕ, ◌+◌, ◌*◌, ◌<◌, ◌≤◌, Bool, true, List, [], ◌∷◌, ◌++◌, length, get_or, Option, Some, None, IfSome, Result, Ok, inl, inr, refl, sym, ap, ◌∙◌, subst, arith, append_assoc, append-nil}
use Rattle.std.specs.Prelude.{map, filter, replicate, slice_get, slice_set}
use Rattle.std.proofs.lemmas.Bool.{cases_eq}
use Rattle.std.proofs.lemmas.List.{length-replicate, map-append, set-set}
use Rattle.std.proofs.lemmas.Option.{slice_get-get_or}
use Rattle.qh_base.specs.declared.connection_error.ConnectionError.TheVariants.{Memory}
use Rattle.qh_base.specs.declared.memory.Memory.{Memory as OutOfMemory}
use Rattle.qh_base.specs.declared.stream_id.StreamId.{StreamId}
use Rattle.qh_conduct.specs.Behaves.{Behaves}
use Rattle.qh_core.specs.Follows.{Follows}
use Rattle.qh_core.specs.Inner.{is_open, with_streams}
use Rattle.qh_core.specs.declared.inner.Inner.{Inner}
use Rattle.qh_halves.specs.Counts.{is_bi}
use Rattle.qh_roles.proofs.Acts.{fresh_append, calls_append, none_calls, fresh_writing}
use Rattle.qh_roles.proofs.ClientLaws.{asks_kept, answer_kept, asked_kept, advances_as}
use Rattle.qh_roles.proofs.ClientLists.{in_set, in_set_apart, map_set, of_filtered, distinct_filter, get_set, length_set, answers_kept, none_held, nothing_left}
use Rattle.qh_roles.specs.Client.{PlainClient, AreAskable, Asking, IsAskedIn, IsClient, SpellsAsked, held}
use Rattle.qh_roles.specs.ClientSteps.{Advances, AsksOn, Goes, IsAdvanced, with_answer}
use Rattle.qh_roles.specs.Going.{WentFrom}
use Rattle.qh_roles.specs.Streams.{IsFresh, IsStirred, Acted}
use Rattle.qh_roles.specs.declared.client.RequestStream.{RequestStream}
use Rattle.qh_roles.specs.declared.client.RequestState.{RequestState}
use Rattle.qh_roles.specs.declared.client.RequestState.TheVariants.{Sending, Done}
use Rattle.qh_space.specs.declared.data_space.DataSpace.{DataSpace}
use Rattle.qh_spec.proofs.Members.{in_at, from_map, in_more, distinct_more}
use Rattle.qh_spec.specs.Lawful.{ReadsMessage}
use Rattle.qh_spec.specs.Lists.{In, Distinct}
use Rattle.qh_spec.specs.Message.{PlainMessage, IsResponse}
use Rattle.qh_spec.specs.StreamId.{stream_id}
use Rattle.qh_spec.specs.Transcript.{Act}
use Rattle.qh_spec.specs.declared.sides.Dir.TheVariants.{Bi}
use Rattle.qh_spec.specs.declared.sides.Side.{Side}
use Rattle.qh_spec.specs.declared.sides.Side.TheVariants.{Client}
use Rattle.qh_streams.proofs.StreamsOpened.{bi_id}
use Rattle.qh_streams.specs.Streams.{PlainStreams, IsOpened, counts_of, with_counts, with_opened}

abbrev index_of : RequestStream → ℕ
index_of r = r.index

-- the client whose stream at this place is in this state, and where an answer came, with that
abbrev pub moved : PlainClient → (at index : ℕ) → RequestState → Option PlainMessage → PlainClient
moved c at index state answer = record {
  requests = c.requests;
  next = c.next;
  streams = slice_set c.streams at (record { index = index; state = state });
  answers = with_answer c.answers index answer;
}

pub length_with : (answers : List (Option PlainMessage)) (index : ℕ) (answer : Option PlainMessage) → length (with_answer answers index answer) ≡ length answers
length_with answers index None = refl
length_with answers index (Some answer) = length_set answers index (Some answer)

-- ---- the invariant

pub client_set : (c : PlainClient) (at : ℕ) (x : RequestStream) → x.index < c.next → IsClient c → IsClient (record c { streams = slice_set c.streams at x })
client_set c at x below ok = record {
  places = ok.places;
  next_within = ok.next_within;
  askable = ok.askable;
  opened = λ r among. elim (in_set c.streams at x r among) [
    | inl e ↦ subst (λ (y : RequestStream). y.index < c.next) e below
    | inr m ↦ ok.opened r m
  ];
}

pub client_filter : (c : PlainClient) (p : RequestStream → Bool) → IsClient c → IsClient (record c { streams = filter p c.streams })
client_filter c p ok = record {
  places = ok.places;
  next_within = ok.next_within;
  askable = ok.askable;
  opened = λ r among. ok.opened r (of_filtered p c.streams r among).0;
}

pub client_answer : (c : PlainClient) (index : ℕ) (answer : Option PlainMessage) → IsClient c → IsClient (record c { answers = slice_set c.answers index answer })
client_answer c index answer ok = record {
  places = length_set c.answers index answer ∙ ok.places;
  next_within = ok.next_within;
  askable = ok.askable;
  opened = ok.opened;
}

-- one stream was opened more
pub client_next : (c : PlainClient) → c.next < length c.requests → IsClient c → IsClient (record c { next = c.next + 1 })
client_next c left ok = record {
  places = ok.places;
  next_within = omega (arith, left);
  askable = ok.askable;
  opened = λ r among. let below = ok.opened r among in omega (arith, below);
}

pub client_push : (c : PlainClient) (x : RequestStream) → c.next < length c.requests → x.index ≡ c.next → IsClient c → IsClient (record c { next = c.next + 1; streams = c.streams ++ x ∷ [] })
client_push c x left is ok = record {
  places = ok.places;
  next_within = omega (arith, left);
  askable = ok.askable;
  opened = λ r among. elim (in_more r x c.streams among) [
    | inl m ↦ let below = ok.opened r m in omega (arith, below)
    | inr e ↦ let same = ap index_of e in omega (arith, same, is)
  ];
}

-- ---- the client alone

pub filter_asking : (c : PlainClient) (p : RequestStream → Bool) (t : List Act) → Asking c t → Asking (record c { streams = filter p c.streams }) t
filter_asking c p t a = record {
  asks = a.asks;
  answers_are = a.answers_are;
  streams = record {
    each = λ r among. a.streams.each r (of_filtered p c.streams r among).0;
    apart = distinct_filter p index_of c.streams a.streams.apart;
    fresh = a.streams.fresh;
  };
}

pub next_asking : (c : PlainClient) (t : List Act) → Asking c t → Asking (record c { next = c.next + 1 }) t
next_asking c t a = record {
  asks = a.asks;
  answers_are = a.answers_are;
  streams = record { each = a.streams.each; apart = a.streams.apart; fresh = λ k above. a.streams.fresh k (omega (arith, above)) };
}

pub push_asking : (c : PlainClient) (stream : ℕ) (bytes : List ℕ) (t : List Act) → IsClient c → stream ≡ 4 * c.next → SpellsAsked c.requests c.next bytes → Asking c t
    → Asking (record c { next = c.next + 1; streams = c.streams ++ record { index = c.next; state = Sending (record { stream = stream; bytes = bytes; taken = 0 }) } ∷ [] }) t
push_asking c stream bytes t ok at spells a =
    let last : RequestStream = record { index = c.next; state = Sending (record { stream = stream; bytes = bytes; taken = 0 }) } in
    let fresh : IsFresh t (4 * c.next) = a.streams.fresh c.next (omega arith) in
    record {
      asks = a.asks;
      answers_are = a.answers_are;
      streams = record {
        each = λ r among. elim (in_more r last c.streams among) [
          | inl m ↦ a.streams.each r m
          | inr e ↦ subst (λ (x : RequestStream). IsAskedIn c.requests t x.index x.state) e
              (at, spells, fresh_writing t stream bytes (subst (λ (k : ℕ). IsFresh t k) (sym at) fresh).0, fresh.1)
        ];
        apart = subst Distinct (sym (map-append index_of c.streams (last ∷ []))) (distinct_more (map index_of c.streams) c.next a.streams.apart
            (λ among. let q = from_map index_of c.next c.streams among in let below = ok.opened q.0 q.1 in let same = q.2 in omega (arith, below, same)));
        fresh = λ k above. a.streams.fresh k (omega (arith, above));
      };
    }

one_more : (s new : PlainStreams) (id : ℕ) → is_bi id ≡ true → IsOpened s new id → new.bi.opened ≡ s.bi.opened + 1
one_more s new id two_way o =
    let is : new ≡ with_counts (record s { send = new.send; recv = new.recv }) true (with_opened (counts_of s true)) =
    subst (λ (b : Bool). new ≡ with_counts (record s { send = new.send; recv = new.recv }) b (with_opened (counts_of s b))) two_way o.rest_is in
    ap (λ (x : PlainStreams). x.bi.opened) is

-- ---- before a stream is opened

pub unused : (p : PlainClient) → IsClient p → (p.next ≡ 0) × (p.streams ≡ []) × (p.requests ≡ []) → (p.next ≡ 0) × (p.streams ≡ []) × (held p.answers ≡ 0)
unused p ok was = (was.0, was.1, ap held (nothing_left p.answers (ok.places ∙ ap length was.2)))

pub fresh_asking : (p : PlainClient) → p.streams ≡ [] → ((k : ℕ) (m : PlainMessage) → slice_get p.answers k ≡ Some (Some m) → ⊥) → Asking p []
fresh_asking p none unheld = record {
  asks = λ stream. inl (refl, refl);
  answers_are = λ k m is. absurd (unheld k m is);
  streams = record {
    each = λ r among. absurd (subst (In r) none among);
    apart = subst (λ (xs : List RequestStream). Distinct (map index_of xs)) (sym none) tt;
    fresh = λ k above. ((refl, refl), (refl, refl));
  };
}

pub unused_asking : (p : PlainClient) → IsClient p → (p.next ≡ 0) × (p.streams ≡ []) × (p.requests ≡ []) → Asking p []
unused_asking p ok was =
    let none : p.answers ≡ [] = nothing_left p.answers (ok.places ∙ ap length was.2) in
    fresh_asking p was.1 (λ k m is. let never : slice_get {X = Option PlainMessage} [] k ≡ Some (Some m) = subst (λ (xs : List (Option PlainMessage)). slice_get xs k ≡ Some (Some m)) none is in cc)

pub asked_client : (p : PlainClient) (asked : List PlainMessage) (n : ℕ) → p.requests ≡ asked → p.answers ≡ replicate n None → n ≡ length asked → p.next ≡ 0 → p.streams ≡ [] → AreAskable asked → IsClient p
asked_client p asked n requests answers size next streams askable = record {
  places = ap length answers ∙ length-replicate n None ∙ size ∙ sym (ap length requests);
  next_within = omega (arith, next);
  askable = subst AreAskable (sym requests) askable;
  opened = λ r among. absurd (subst (In r) streams among);
}

pub asked_asking : (p : PlainClient) (n : ℕ) → p.answers ≡ replicate n None → p.streams ≡ [] → Asking p []
asked_asking p n answers streams =
    fresh_asking p streams (λ k m is. none_held n k m (subst (λ (xs : List (Option PlainMessage)). slice_get xs k ≡ Some (Some m)) answers is))

-- ---- one of the streams

-- the stream that was read at this place, and its index
pub stream_at : (p old : PlainClient) (at : ℕ) (x : RequestStream) → p ≡ old → IsClient p → at < length old.streams → x ≡ get_or p.streams at x
    → (slice_get old.streams at ≡ Some x) × (x.index < old.next) × (x.index < length old.answers)
stream_at p old at x same ok within is =
    let fine = subst IsClient same ok in
    let here : slice_get old.streams at ≡ Some x =
    slice_get-get_or old.streams at x within ∙ ap (λ (y : RequestStream). Some y) (sym (subst (λ (c : PlainClient). x ≡ get_or c.streams at x) same is)) in
    let below = fine.opened x (in_at old.streams at x here) in
    (here, below, omega (arith, below, fine.places, fine.next_within))

-- a state taken out, put back, and an answer held
pub moved_is : (old s1 s2 d : PlainClient) (at index : ℕ) (state : RequestState) (answer : Option PlainMessage) → s1 ≡ record old { streams = slice_set old.streams at (record { index = index; state = Done }) }
    → s2 ≡ record s1 { streams = slice_set s1.streams at (record { index = index; state = state }) } → d ≡ record s2 { answers = with_answer s2.answers index answer } → d ≡ moved old at index state answer
moved_is old s1 s2 d at index state answer taken put held =
    held
    ∙ ap (λ (s : PlainClient). record s { answers = with_answer s.answers index answer }) (put ∙ ap (λ (s : PlainClient). record s { streams = slice_set s.streams at (record { index = index; state = state }) }) taken)
    ∙ ap (λ (xs : List RequestStream). record { requests = old.requests; next = old.next; streams = xs; answers = with_answer old.answers index answer }) (set-set old.streams at _ _)

-- ---- acts on one stream

apart_streams : (k j : ℕ) → (k ≡ j → ⊥) → 4 * k ≡ 4 * j → ⊥
apart_streams k j apart e = apart (omega (arith, e))

module _ {S : Type 0} where
  module _ (c : PlainClient) (at : ℕ) (r : RequestStream) (state : RequestState) (answer : Option PlainMessage) (new start : Inner S) (before t : List Act)
      (place : slice_get c.streams at ≡ Some r) (below : r.index < c.next) (asking : Asking c t)
      (a : Advances start before (λ (u : List Act). IsAskedIn c.requests u r.index state × IfSome answer (λ m. IsResponse m.head × ReadsMessage u (4 * r.index) m)) c.requests r.index new t) where
    moved_asks : (stream : ℕ) → AsksOn c.requests (t ++ a.acts) stream
    moved_asks stream = elim (cases_eq stream (4 * r.index)) [
      | inl e ↦ subst (AsksOn c.requests (t ++ a.acts)) (sym e) (a.asks (asking.asks (4 * r.index)))
      | inr apart ↦ asks_kept c.requests t a.acts stream (a.on.others stream apart).0 (asking.asks stream)
    ]

    old_answer : (k : ℕ) (m : PlainMessage) → slice_get c.answers k ≡ Some (Some m) → IsResponse m.head × ReadsMessage (t ++ a.acts) (4 * k) m
    old_answer k m is =
        let was = asking.answers_are k m is in
        elim (cases_eq k r.index) [
          | inl e ↦ (was.0, subst (λ (j : ℕ). ReadsMessage (t ++ a.acts) (4 * j) m) (sym e) (a.answered m (subst (λ (j : ℕ). ReadsMessage t (4 * j) m) e was.1)))
          | inr apart ↦ (was.0, answer_kept t a.acts (4 * k) m (a.on.others (4 * k) (apart_streams k r.index apart)).1 was.1)
        ]

    moved_stream : (q : RequestStream) → In q (slice_set c.streams at (record { index = r.index; state = state })) → IsAskedIn c.requests (t ++ a.acts) q.index q.state
    moved_stream q among = elim (in_set_apart index_of c.streams at r (record { index = r.index; state = state }) q place refl asking.streams.apart among) [
      | inl e ↦ subst (λ (x : RequestStream). IsAskedIn c.requests (t ++ a.acts) x.index x.state) e a.is.0
      | inr m ↦ asked_kept c.requests t a.acts q.index q.state (a.on.others (4 * q.index) (apart_streams q.index r.index m.1)) (asking.streams.each q m.0)
    ]

    moved_fresh : (k : ℕ) → c.next ≤ k → IsFresh (t ++ a.acts) (4 * k)
    moved_fresh k above = fresh_append t a.acts (4 * k) (asking.streams.fresh k above) (a.on.others (4 * k) (apart_streams k r.index (λ e. omega (arith, e, above, below))))

    new_answers : (answer : Option PlainMessage) → IfSome answer (λ m. IsResponse m.head × ReadsMessage (t ++ a.acts) (4 * r.index) m)
        → (k : ℕ) (m : PlainMessage) → slice_get (with_answer c.answers r.index answer) k ≡ Some (Some m) → IsResponse m.head × ReadsMessage (t ++ a.acts) (4 * k) m
    new_answers None came k m is = old_answer k m is
    new_answers (Some x) came k m is = elim (get_set c.answers r.index k (Some x) (Some m) is) [
      | inl h ↦
          let one : x ≡ m = let some : ◌≡◌ {A = Option PlainMessage} (Some x) (Some m) = h.0 in cc in
          (subst (λ (y : PlainMessage). IsResponse y.head) one came.0, subst (λ (y : PlainMessage). ReadsMessage (t ++ a.acts) (4 * k) y) one (subst (λ (j : ℕ). ReadsMessage (t ++ a.acts) (4 * j) x) (sym h.1) came.1))
      | inr h ↦ old_answer k m h.0
    ]

    -- what a client does where one of its streams went on
    pub moved_asking : Acted start before (Asking (moved c at r.index state answer)) new t
    moved_asking = record {
      acts = a.acts;
      calls = a.on.calls;
      follows = a.follows;
      holds = record {
        asks = moved_asks;
        answers_are = new_answers answer a.is.1;
        streams = record {
          each = moved_stream;
          apart = subst Distinct (sym (map_set index_of c.streams at r (record { index = r.index; state = state }) place refl)) asking.streams.apart;
          fresh = moved_fresh;
        };
      };
    }

  -- ---- going on

  pub goes_same : (c : PlainClient) (end : Inner S) → Goes c end c end
  goes_same c end = record {
    rest = refl;
    requests = refl;
    places = refl;
    kept = λ k m is. (m, is);
    opened = λ h. h;
    asks = λ start before t f h a. record { acts = []; calls = none_calls; follows = subst (WentFrom start before end) (sym (append-nil t)) f; holds = subst (Asking c) (sym (append-nil t)) a };
  }

  pub goes_after : (c d e : PlainClient) (old mid new : Inner S) → Goes c old d mid → Goes d mid e new → Goes c old e new
  goes_after c d e old mid new first second = record {
    rest = second.rest ∙ ap (λ (x : Inner S). with_streams x new.space.streams) first.rest;
    requests = second.requests ∙ first.requests;
    places = second.places ∙ first.places;
    kept = λ k m is. let one = first.kept k m is in second.kept k one.0 one.1;
    opened = λ h. second.opened (first.opened h);
    asks = λ start before t f h a.
        let one = first.asks start before t f h a in
        let two = second.asks start before (t ++ one.acts) one.follows (first.opened h) one.holds in
        record {
          acts = one.acts ++ two.acts;
          calls = calls_append one.acts two.acts one.calls two.calls;
          follows = subst (WentFrom start before new) (append_assoc t one.acts two.acts) two.follows;
          holds = subst (Asking e) (append_assoc t one.acts two.acts) two.holds;
        };
  }

  -- where the client alone changes
  pub goes_by : (c d : PlainClient) (end : Inner S) → d.requests ≡ c.requests → d.answers ≡ c.answers → d.next ≡ c.next → ((t : List Act) → Asking c t → Asking d t) → Goes c end d end
  goes_by c d end requests answers next f = record {
    rest = refl;
    requests = requests;
    places = ap length answers;
    kept = λ k m is. (m, rw answers is);
    opened = λ h. elim h [ inl e ↦ inl e | inr n ↦ inr (n ∙ sym next) ];
    asks = λ start before t follows h a. record { acts = []; calls = none_calls; follows = subst (WentFrom start before end) (sym (append-nil t)) follows; holds = subst (Asking d) (sym (append-nil t)) (f t a) };
  }

  pub filter_goes : (c : PlainClient) (p : RequestStream → Bool) (end : Inner S) → Goes c end (record c { streams = filter p c.streams }) end
  filter_goes c p end = goes_by c (record c { streams = filter p c.streams }) end refl refl refl (filter_asking c p)

  -- one stream goes on
  pub moved_goes : (c d : PlainClient) (at : ℕ) (r : RequestStream) (state : RequestState) (answer : Option PlainMessage) (old new : Inner S)
      → slice_get c.streams at ≡ Some r → r.index < c.next → d ≡ moved c at r.index state answer → IsStirred old new
      → ((requests : List PlainMessage) (index : ℕ) (start : Inner S) (before t : List Act) → WentFrom start before old t → IsAskedIn requests t index r.state
      → Advances start before (λ (u : List Act). IsAskedIn requests u index state × IfSome answer (λ m. IsResponse m.head × ReadsMessage u (4 * index) m)) requests index new t)
      → Goes c old d new
  moved_goes c d at r state answer old new place below is stirred advances = subst (λ (x : PlainClient). Goes c old x new) (sym is) (record {
    rest = stirred.rest_is;
    requests = refl;
    places = length_with c.answers r.index answer;
    kept = answers_kept c.answers r.index answer;
    opened = λ h. elim h [
      | inl e ↦ inl (ap (λ (x : Inner S). x.error) stirred.rest_is ∙ e)
      | inr n ↦ inr (stirred.counts.bi_opened ∙ n)
    ];
    asks = λ start before t f h a. moved_asking c at r state answer new start before t place below a (advances c.requests r.index start before t f (a.streams.each r (in_at c.streams at r place)));
  })

  -- a stream on which memory lacked is given up
  pub lost_goes : (c d : PlainClient) (at : ℕ) (x r : RequestStream) (result : Result (RequestState × Option PlainMessage) OutOfMemory) (old new : Inner S)
      → slice_get c.streams at ≡ Some x → slice_get c.streams at ≡ Some r → x.index < c.next → d ≡ record c { streams = slice_set c.streams at (record { index = x.index; state = Done }) } → IsStirred old new
      → ((requests : List PlainMessage) (index : ℕ) (start : Inner S) (before t : List Act) → WentFrom start before old t → IsAskedIn requests t index r.state → Advances start before (IsAdvanced requests index result) requests index new t) → Goes c old d new
  lost_goes c d at x r result old new place taken below is stirred advances =
      let one : x ≡ r = let some : ◌≡◌ {A = Option RequestStream} (Some x) (Some r) = sym place ∙ taken in cc in
      let index : x.index ≡ r.index = ap index_of one in
      moved_goes c d at r Done None old new taken (omega (arith, below, index)) (is ∙ ap (λ (k : ℕ). moved c at k Done None) index) stirred
      (λ requests k start before t f a. advances_as start before (λ (u : List Act). IsAskedIn requests u k Done × IfSome {T = PlainMessage} None (λ m. IsResponse m.head × ReadsMessage u (4 * k) m)) (IsAdvanced requests k result) requests k new t (λ u h. (tt, tt)) (advances requests k start before t f a))

  -- a stream went on, and its answer is held where it came
  pub kept_goes : (c d : PlainClient) (at : ℕ) (x r : RequestStream) (state : RequestState) (answer : Option PlainMessage) (result : Result (RequestState × Option PlainMessage) OutOfMemory) (old new : Inner S)
      → slice_get c.streams at ≡ Some x → slice_get c.streams at ≡ Some r → x.index < c.next → result ≡ Ok (state, answer) → d ≡ moved c at x.index state answer → IsStirred old new
      → ((requests : List PlainMessage) (index : ℕ) (start : Inner S) (before t : List Act) → WentFrom start before old t → IsAskedIn requests t index r.state → Advances start before (IsAdvanced requests index result) requests index new t) → Goes c old d new
  kept_goes c d at x r state answer result old new place taken below ok is stirred advances =
      let one : x ≡ r = let some : ◌≡◌ {A = Option RequestStream} (Some x) (Some r) = sym place ∙ taken in cc in
      let index : x.index ≡ r.index = ap index_of one in
      moved_goes c d at r state answer old new taken (omega (arith, below, index)) (is ∙ ap (λ (k : ℕ). moved c at k state answer) index) stirred
      (λ requests k start before t f a. advances_as start before (λ (u : List Act). IsAskedIn requests u k state × IfSome answer (λ m. IsResponse m.head × ReadsMessage u (4 * k) m)) (IsAdvanced requests k result) requests k new t
      (λ u h. subst (λ (r : Result (RequestState × Option PlainMessage) OutOfMemory). IsAdvanced requests k r u) ok h) (advances requests k start before t f a))

  -- ---- opening a stream

  -- the connection stands as its side says, unless want of memory ended it
  side_of : (end : Inner S) (t : List Act) → Behaves end t → (end.error ≡ Some Memory → ⊥) → end.space.streams.side ≡ end.side
  unfolding Follows
  side_of end t f lives = elim f.follows.is_space [
    | inl failed ↦ absurd (lives failed)
    | inr same ↦ ap (λ (s : DataSpace). s.streams.side) same ∙ f.follows.of.side_is
  ]

  -- a stream was opened for the next request
  pub opened_goes : (c d : PlainClient) (old new : Inner S) (id : ℕ) → is_open old.state ≡ true → (is_open old.state ≡ true → old.error ≡ None) → old.side ≡ Client
      → id ≡ stream_id old.space.streams.side Bi old.space.streams.bi.opened → IsOpened old.space.streams new.space.streams id → new ≡ with_streams old new.space.streams
      → ((start : Inner S) (before t : List Act) → WentFrom start before old t → WentFrom start before new t)
      → d.next ≡ c.next + 1 → d.requests ≡ c.requests → d.answers ≡ c.answers → ((t : List Act) → id ≡ 4 * c.next → Asking c t → Asking d t) → Goes c old d new
  opened_goes c d old new id open_now named side is opened rest follows next requests answers asks =
      let lives : (old.error ≡ Some Memory → ⊥) = λ failed. let none = named open_now in absurd (cc) in
      record {
        rest = rest;
        requests = requests;
        places = ap length answers;
        kept = λ k m is. (m, rw answers is);
        opened = λ h. elim h [
          | inl failed ↦ absurd (lives failed)
          | inr n ↦
              let more = one_more old.space.streams new.space.streams id (subst (λ (k : ℕ). is_bi k ≡ true) (sym is) (bi_id old.space.streams.side Bi old.space.streams.bi.opened)) opened in
              inr (omega (arith, more, n, next))
        ];
        asks = λ start before t f h a. elim h [
          | inl failed ↦ absurd (lives failed)
          | inr n ↦
              let client = side_of old t f.behaves lives ∙ side in
              let id_is : id ≡ 4 * old.space.streams.bi.opened + 2 * 0 + 0 = subst (λ (s : Side). id ≡ stream_id s Bi old.space.streams.bi.opened) client is in
              record {
                acts = [];
                calls = none_calls;
                follows = subst (WentFrom start before new) (sym (append-nil t)) (follows start before t f);
                holds = subst (Asking d) (sym (append-nil t)) (asks t (omega (arith, id_is, n)) a);
              }
        ];
      }

  -- the same where the connection's answer tells the stream
  pub open_goes : (c d : PlainClient) (old new : Inner S) (given : Option StreamId) (stream : StreamId) → given ≡ Some stream
      → IfSome given (λ (id : StreamId). (is_open old.state ≡ true) × (id.0 ≡ stream_id old.space.streams.side Bi old.space.streams.bi.opened) × (old.space.streams.bi.opened < old.space.streams.bi.max_opened)
      × IsOpened old.space.streams new.space.streams id.0 × (new ≡ with_streams old new.space.streams))
      → (is_open old.state ≡ true → old.error ≡ None) → old.side ≡ Client
      → ((id : ℕ) → id ≡ stream_id old.space.streams.side Bi old.space.streams.bi.opened → IsOpened old.space.streams new.space.streams id → new ≡ with_streams old new.space.streams
      → (start : Inner S) (before t : List Act) → WentFrom start before old t → WentFrom start before new t)
      → d.next ≡ c.next + 1 → (d.requests ≡ c.requests) × (d.answers ≡ c.answers) → ((t : List Act) → stream.0 ≡ 4 * c.next → Asking c t → Asking d t) → Goes c old d new
  open_goes c d old new None stream is some named side follows next same asks = absurd (cc)
  open_goes c d old new (Some id) stream is some named side follows next same asks =
      let one : id ≡ stream = let two : ◌≡◌ {A = Option StreamId} (Some id) (Some stream) = is in cc in
      opened_goes c d old new id.0 some.0 named side some.1 some.3 some.4 (follows id.0 some.1 some.3 some.4) next same.0 same.1 (λ t e a. asks t (sym (ap (λ (s : StreamId). s.0) one) ∙ e) a)
