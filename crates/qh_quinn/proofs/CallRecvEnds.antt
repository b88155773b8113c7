-- What the end of the handle of a stream's receiving half does to the connection.
use Rattle.std.proofs.Common.{◌≡◌, ℕ, Bool, true, false, List, [], Option, Some, None, is_some, if◌then◌else◌, refl, sym, ap, ◌∙◌, subst, inl, inr, append-nil}
use Rattle.std.proofs.lemmas.Bool.{false≢true}
use Rattle.std.specs.Prelude.{MatchBool, MatchOption}
use Rattle.qh_base.specs.declared.connection_error.ConnectionError.{ConnectionError}
use Rattle.qh_base.specs.declared.time.Moment.{Moment}
use Rattle.qh_base.specs.declared.stream_id.StreamId.{StreamId}
use Rattle.qh_book.specs.Book.{Book}
use Rattle.qh_book.specs.Pages.{RecvPage, open_recv}
use Rattle.qh_book.specs.Receiving.{with_recv_ended, without_reader}
use Rattle.qh_book.specs.Shown.{Note}
use Rattle.qh_book.specs.declared.call.Call.TheVariants as call
use Rattle.qh_book.specs.declared.reply.Reply.TheVariants as reply
use Rattle.qh_conn.specs.Whole.{CarriesOn}
use Rattle.qh_conn.specs.declared.connection.Connection.{Connection}
use Rattle.qh_quinn.proofs.CallReads.{carries_as, carries_both, carries_same, no_page}
use Rattle.qh_quinn.proofs.CallStreams.{read_still}
use Rattle.qh_quinn.proofs.Holding.{unheld_by}
use Rattle.qh_quinn.proofs.Moving.{calm_if_none}
use Rattle.qh_quinn.proofs.RecvEnds.{is_stopped_by_end, no_error_by, opened_by, unlost_by}
use Rattle.qh_quinn.proofs.Recvs.{holder, open_page, read_at}
use Rattle.qh_quinn.specs.Acting.{IsChanged, KeepsTurns}
use Rattle.qh_quinn.specs.Calls.{EndsHalfOf, EndsHandleOf, IsCallOf, WakesIfChanged, call_acts, recv_end_acts, recv_handle_acts, stop_acts}
use Rattle.qh_quinn.specs.Readers.{reader_in}
use Rattle.qh_quinn.specs.States.{IsState, Shows}
use Rattle.qh_quinn.specs.Streaming.{EndsReading, StopsOne, StopsReading}
use Rattle.qh_quinn.specs.declared.inner.StateInner.{StateInner}
use Rattle.qh_quinn.specs.declared.readers.Reader.{Reader}
use Rattle.qh_shown.specs.Connections.{is_wanting}
use Rattle.qh_spec.specs.Transcript.{Act}

-- ---- the half itself

abbrev half_acts : Option ConnectionError → (is_emptied : Bool) → (id : ℕ) → Option RecvPage → List Act
half_acts error is_emptied id page = if is_some error then [] else recv_end_acts is_emptied id page

abbrev unless_error : (gave_error : Bool) → List Act → List Act
unless_error gave_error acts = if gave_error then [] else acts

module _ {S : Type 0} (s : StateInner S) (id : ℕ) (reader : Reader) (state : IsState s) (there : reader_in s.readers id ≡ Some reader) where
  -- the page of one that is read says whether a read gave an error
  error_page : s.error ≡ None → reader.is_open ≡ true → (b : Book) → Shows s b → (p : RecvPage) × (open_recv (b.recvs id) ≡ Some p) × (p.gave_error ≡ reader.gave_error)
  error_page unlost opened b shown =
      let h = holder shown.notes s b id reader shown.shows there in
      let streams = (shown.shows.connection.live (calm_if_none s state unlost)).streams in
      let r = read_at shown.notes s.connection.core.space.streams b id h.p streams h.page_is (h.opened ∙ opened) in
      (h.p, open_page (b.recvs id) h.p h.page_is (h.opened ∙ opened), r.noted.gave_error ∙ ap (λ (n : Note). n.gave_error) h.note_is)

  -- it isn't stopped
  pub end_stays : is_stopped_by_end s.error reader.is_open reader.gave_error ≡ false → (b : Book) → Shows s b → recv_handle_acts b id ≡ []
  end_stays off b shown = at s.error reader.is_open reader.gave_error refl refl refl off
    where
      at : (error : Option ConnectionError) (opened gave_error : Bool) → s.error ≡ error → reader.is_open ≡ opened → reader.gave_error ≡ gave_error → is_stopped_by_end error opened gave_error ≡ false → recv_handle_acts b id ≡ []
      at (Some e) opened gave_error has is gave off = ap (λ (o : Option ConnectionError). half_acts o b.is_emptied id (open_recv (b.recvs id))) (shown.shows.error ∙ has)
      at None false gave_error none shut gave off =
          ap (λ (o : Option ConnectionError). half_acts o b.is_emptied id (open_recv (b.recvs id))) (shown.shows.error ∙ none) ∙ ap (λ (o : Option RecvPage). recv_end_acts b.is_emptied id o) (no_page s id reader there shut b shown)
      at None true true none is gave off =
          let page = error_page none is b shown in
          ap (λ (o : Option ConnectionError). half_acts o b.is_emptied id (open_recv (b.recvs id))) (shown.shows.error ∙ none) ∙ ap (λ (o : Option RecvPage). recv_end_acts b.is_emptied id o) page.1
          ∙ ap (λ (x : Bool). unless_error x (stop_acts b.is_emptied id 0 (Some page.0))) (page.2 ∙ gave)
      at None true false none is gave off = absurd (false≢true (sym off))

  -- it is stopped, with the code 0
  pub end_stops : (code : ℕ) → code ≡ 0 → is_stopped_by_end s.error reader.is_open reader.gave_error ≡ true → (b : Book) → Shows s b → recv_handle_acts b id ≡ stop_acts b.is_emptied id code (open_recv (b.recvs id))
  end_stops code zero stopped b shown =
      let none = unlost_by s.error reader.is_open reader.gave_error stopped in
      let page = error_page none (opened_by s.error reader.is_open reader.gave_error stopped) b shown in
      ap (λ (o : Option ConnectionError). half_acts o b.is_emptied id (open_recv (b.recvs id))) (shown.shows.error ∙ none) ∙ ap (λ (o : Option RecvPage). recv_end_acts b.is_emptied id o) page.1
      ∙ ap (λ (x : Bool). unless_error x (stop_acts b.is_emptied id 0 (Some page.0))) (page.2 ∙ no_error_by s.error reader.is_open reader.gave_error stopped)
      ∙ sym (ap (λ (o : Option RecvPage). stop_acts b.is_emptied id 0 o) page.1) ∙ ap (λ (n : ℕ). stop_acts b.is_emptied id n (open_recv (b.recvs id))) (sym zero)

  -- what that makes of the connection
  pub half_stops : (code : ℕ) (new : StateInner S) → code ≡ 0 → is_stopped_by_end s.error reader.is_open reader.gave_error ≡ true → StopsOne id code s new → EndsReading s.error reader id s.connection new.connection
  half_stops code new zero stopped h =
      let reads = read_still s id reader there (calm_if_none s state (unlost_by s.error reader.is_open reader.gave_error stopped)) (opened_by s.error reader.is_open reader.gave_error stopped) in
      let made = subst (λ (x : Bool). MatchBool x (StopsReading id code s.connection new.connection) (new.connection ≡ s.connection)) reads h in
      subst (λ (x : Bool). MatchBool x (StopsReading id 0 s.connection new.connection) (new.connection ≡ s.connection)) (sym stopped) (subst (λ (n : ℕ). StopsReading id n s.connection new.connection) zero made)

  pub half_stays : is_stopped_by_end s.error reader.is_open reader.gave_error ≡ false → EndsReading s.error reader id s.connection s.connection
  half_stays off = subst (λ (x : Bool). MatchBool x (StopsReading id 0 s.connection s.connection) (s.connection ≡ s.connection)) (sym off) refl

  pub stops_unlost : is_stopped_by_end s.error reader.is_open reader.gave_error ≡ true → is_some s.error ≡ true → ⊥
  stops_unlost stopped lost = false≢true (sym (ap is_some (unlost_by s.error reader.is_open reader.gave_error stopped)) ∙ lost)

-- ---- the whole end

in_held : {A : Type 0} (held : Bool) (x y : A) → held ≡ true → (if held then x else y) ≡ x
in_held true x y is = refl
in_held false x y is = absurd (false≢true is)

not_held : {A : Type 0} (held : Bool) (x y : A) → held ≡ false → (if held then x else y) ≡ y
not_held true x y is = absurd (false≢true (sym is))
not_held false x y is = refl

module _ {S : Type 0} where
  -- no handle holds the half
  pub unheld_called : (s : StateInner S) (id : StreamId) → reader_in s.readers id.0 ≡ None → IsCallOf {T = Unit {0}} (call.EndRecv id) reply.Done s s
  unheld_called s id none = record {
    carries = λ b shown.
        let off = unheld_by (is_wanting s.connection) (reader_in s.readers id.0) (b.readers id.0) (shown.notes id.0) (b.recvs id.0) none (shown.shows.readers id.0) in
        carries_as s.connection s.connection [] (call_acts {T = Unit {0}} b (call.EndRecv id) reply.Done) (not_held (b.readers id.0) (recv_handle_acts b id.0) [] off) (carries_same s.connection s.connection refl);
    called = subst (λ (o : Option Reader). MatchOption o (s.connection ≡ s.connection) (λ reader. EndsHalfOf (EndsReading s.error reader id.0) s.handles s.error s.last_turn s.connection s.connection)) (sym none) refl;
    wakes = λ sends. inl refl;
  }

  -- it is no turn of the driver
  pub turn_kept : (old mid : StateInner S) → KeepsTurns old mid → mid.last_turn ≡ old.last_turn
  turn_kept old mid rest = ap (λ (s : StateInner S). s.last_turn) rest

  -- what the end of a half leaves
  pub record IsHalfEnded (id : ℕ) (reader : Reader) (old mid : StateInner S) : Type 0 where
    pub changed : IsChanged (λ b. with_recv_ended b id) old mid
    pub carries : (b : Book) → Shows old b → CarriesOn old.connection mid.connection (recv_handle_acts b id)
    pub half : EndsReading old.error reader id old.connection mid.connection
    pub lost : is_some old.error ≡ true → mid.connection ≡ old.connection
    pub wakes : WakesIfChanged old mid
    pub handles : mid.handles ≡ old.handles
    pub error : mid.error ≡ old.error
    pub last_turn : mid.last_turn ≡ old.last_turn

  wakes_both : (old mid last new : StateInner S) → last.connection ≡ mid.connection → last.driver ≡ mid.driver → WakesIfChanged old mid → WakesIfChanged last new → (last.driver ≡ None → new.driver ≡ None) → WakesIfChanged old new
  wakes_both old mid last new same kept first (inr woken) awake = inr woken
  wakes_both old mid last new same kept (inl one) (inl other) awake = inl (other ∙ same ∙ one)
  wakes_both old mid last new same kept (inr woken) (inl other) awake = inr (awake (kept ∙ woken))

  pub recv_ends_called : (old mid last new : StateInner S) (id : StreamId) (reader : Reader) → reader_in old.readers id.0 ≡ Some reader → IsHalfEnded id.0 reader old mid → IsChanged (without_reader id.0) mid last → last ≡ record mid { readers = last.readers }
      → IsCallOf {T = Unit {0}} call.EndHandle reply.Done last new → (last.driver ≡ None → new.driver ≡ None) → IsCallOf {T = Unit {0}} (call.EndRecv id) reply.Done old new
  recv_ends_called old mid last new id reader there h i same k awake = record {
    carries = λ b shown.
        let acts = recv_handle_acts b id.0 in
        let held = (holder shown.notes old b id.0 reader shown.shows there).held in
        let ended = k.carries (without_reader id.0 (with_recv_ended b id.0)) (i.each (with_recv_ended b id.0) (h.changed.each b shown)) in
        carries_as old.connection new.connection acts (call_acts {T = Unit {0}} b (call.EndRecv id) reply.Done) (in_held (b.readers id.0) acts [] held)
        (subst (λ (z : List Act). CarriesOn old.connection new.connection z) (append-nil acts)
        (carries_both old.connection mid.connection new.connection acts [] (h.carries b shown) (subst (λ (c : Connection S). CarriesOn c new.connection []) connection ended)));
    called = subst (λ (o : Option Reader). MatchOption o (new.connection ≡ old.connection) (λ reader. EndsHalfOf (EndsReading old.error reader id.0) old.handles old.error old.last_turn old.connection new.connection)) (sym there)
        (record { mid = mid.connection; half = h.half; lost = h.lost; ends = ends });
    wakes = λ sends. wakes_both old mid last new connection (ap (λ (s : StateInner S). s.driver) same) h.wakes (k.wakes tt) awake;
  }
    where
      connection : last.connection ≡ mid.connection
      connection = ap (λ (s : StateInner S). s.connection) same

      ends : EndsHandleOf old.handles old.error old.last_turn mid.connection new.connection
      ends =
          subst (λ (m : Moment). EndsHandleOf old.handles old.error m mid.connection new.connection) h.last_turn
          (subst (λ (e : Option ConnectionError). EndsHandleOf old.handles e mid.last_turn mid.connection new.connection) h.error
          (subst (λ (n : ℕ). EndsHandleOf n mid.error mid.last_turn mid.connection new.connection) h.handles
          (subst (λ (s : StateInner S). EndsHandleOf s.handles s.error s.last_turn s.connection new.connection) same k.called)))
