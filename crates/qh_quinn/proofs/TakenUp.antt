-- What holds of a state behind a turn, however it ended.
use Rattle.std.proofs.Common.{◌≡◌, ◌⊎◌, ◌≢◌, Bool, true, false, ◌&&◌, ◌||◌, not, List, [], ◌++◌, map, Option, None, Some, Result, Ok, Err, is_some, if◌then◌else◌, refl, sym, ap, subst, inl, inr, ◌∙◌}
use Rattle.std.specs.List.{list_any}
use Rattle.std.proofs.lemmas.Bool.{false≢true}
use Rattle.qh_base.specs.declared.connection_error.ConnectionError.{ConnectionError}
use Rattle.qh_base.specs.declared.connection_error.ConnectionError.TheVariants as error
use Rattle.qh_base.specs.declared.time.Moment.{Moment}
use Rattle.qh_base.specs.declared.transport_error.TransportError.{TransportError}
use Rattle.qh_book.specs.Interests.{is_same}
use Rattle.qh_book.specs.Items.{bring_all}
use Rattle.qh_conn.specs.Whole.{IsWhole, StandsStill}
use Rattle.qh_conn.specs.declared.connection.Connection.{Connection}
use Rattle.qh_core.specs.Event.{is_drained}
use Rattle.qh_core.specs.Inner.{is_open}
use Rattle.qh_core.specs.Receiving.{IsFaulted}
use Rattle.qh_core.specs.declared.inner.Inner.{Inner}
use Rattle.qh_core.specs.declared.state.State.{State as CoreState}
use Rattle.qh_core.specs.declared.state.State.TheVariants as core_state
use Rattle.qh_quinn.proofs.Bringing.{Both}
use Rattle.qh_quinn.proofs.Tellings.{Tells, told_stands, told_state}
use Rattle.qh_quinn.proofs.TurnStates.{IsNews, IsToldOn, Leads, failed_leads, kept_leads, led_state, reason_leads, reason_lost}
use Rattle.qh_quinn.specs.Losses.{lost_items, new_loss}
use Rattle.qh_quinn.specs.States.{IsState, Shows}
use Rattle.qh_quinn.specs.Telling.{AreTold}
use Rattle.qh_quinn.specs.Turning.{HasSameCalls, IsBrought, IsBroughtBy, IsEnded, IsErrorKept, IsHeeded, IsTakenUp}
use Rattle.qh_quinn.specs.Waiting.{interests_in, is_among}
use Rattle.qh_quinn.specs.declared.inner.StateInner.{StateInner}
use Rattle.qh_runtime.specs.Socket.{has_failed}
use Rattle.qh_runtime.specs.declared.runtime.IoFault.{IoFault}
use Rattle.qh_runtime.specs.declared.runtime.IoFault.TheVariants as faults
use Rattle.qh_shown.specs.Brings.{Brings, BringsSome, IsLogging}
use Rattle.qh_shown.specs.Connections.{is_wanting}
use Rattle.qh_shown.specs.Items.{item_of}
use Rattle.qh_spec.specs.Codes as codes

-- ---- how a turn ended

pub if_failed : (r : Result (Unit {0}) IoFault) → has_failed r ≡ true → r ≡ Err faults.Failed
if_failed (Err faults.Failed) is = refl
if_failed (Err faults.WouldBlock) is = absurd (false≢true is)
if_failed (Err faults.Reset) is = absurd (false≢true is)
if_failed (Err faults.Memory) is = absurd (false≢true is)
if_failed (Ok done) is = absurd (false≢true is)

pub not_failed : (r : Result (Unit {0}) IoFault) → has_failed r ≡ false → r ≢ Err faults.Failed
not_failed r off is = false≢true (sym off ∙ ap has_failed is)

pub drained_shut : (s : CoreState) → is_drained s ≡ true → is_open s ≡ false
drained_shut core_state.Drained is = refl
drained_shut core_state.Established is = absurd (false≢true is)
drained_shut (core_state.Closed reason due until) is = absurd (false≢true is)
drained_shut (core_state.Draining until) is = absurd (false≢true is)

shut_if : (x y : Bool) → x ≡ not y → x ≡ true → y ≡ false
shut_if x false is on = refl
shut_if x true is on = absurd (false≢true (sym is ∙ on))

lost_is : (x y : Bool) → x ≡ true → y ≡ false → x ≡ not y
lost_is x y on off = on ∙ ap not (sym off)

unfailed : (r : Result (Unit {0}) IoFault) → r ≢ Err faults.Failed → has_failed r ≡ false
unfailed (Err faults.Failed) isnt = absurd (isnt refl)
unfailed (Err faults.WouldBlock) isnt = refl
unfailed (Err faults.Reset) isnt = refl
unfailed (Err faults.Memory) isnt = refl
unfailed (Ok done) isnt = refl

-- which error is kept, of those of the state and of its connection
abbrev pub KeepsLoss : {S : Type 0} → (has_failed was_emptied : Bool) → (old new : StateInner S) → Type 0
KeepsLoss has_failed was_emptied old new =
    (has_failed ≡ true → new.error ≡ old.connection.core.error)
    × (has_failed ≡ false → ((new.error ≡ old.connection.core.error) × ((old.error ≡ None) ⊎ ((was_emptied ≡ false) × (is_wanting old.connection ≡ true))))
    ⊎ ((new.error ≡ old.error) × (is_some old.error ≡ true) × ((was_emptied ≡ true) ⊎ (is_wanting old.connection ≡ false))))

-- ---- which error is new

failed_loss : (failed : Bool) (old new : Option ConnectionError) (was is : Bool) → failed ≡ true → (if failed || (not (is_some old) || (not was && is)) then new else None) ≡ new
failed_loss true old new was is h = refl
failed_loss false old new was is h = absurd (false≢true h)

news_loss : (failed : Bool) (old new : Option ConnectionError) (was is : Bool) → (old ≡ None) ⊎ ((was ≡ false) × (is ≡ true)) → (if failed || (not (is_some old) || (not was && is)) then new else None) ≡ new
news_loss true old new was is h = refl
news_loss false None new was is h = refl
news_loss false (Some e) new was is (inl none) = cc
news_loss false (Some e) new false true (inr both) = refl
news_loss false (Some e) new true is (inr both) = absurd (false≢true (sym both.0))
news_loss false (Some e) new false false (inr both) = absurd (false≢true both.1)

kept_loss : (failed : Bool) (old new : Option ConnectionError) (was is : Bool) → failed ≡ false → is_some old ≡ true → (was ≡ false → is ≡ false) → (if failed || (not (is_some old) || (not was && is)) then new else None) ≡ None
kept_loss true old new was is off had still = absurd (false≢true (sym off))
kept_loss false None new was is off had still = absurd (false≢true had)
kept_loss false (Some e) new true is off had still = refl
kept_loss false (Some e) new false false off had still = refl
kept_loss false (Some e) new false true off had still = absurd (false≢true (sym (still refl)))

module _ {S : Type 0} where
  brought_by : (r : Result (Unit {0}) IoFault) (old new : Connection S) → IsBroughtBy r old new → IsBrought old new
  brought_by (Err faults.Memory) old new h = h
  brought_by (Err faults.WouldBlock) old new h = IsBrought.some h
  brought_by (Err faults.Reset) old new h = IsBrought.some h
  brought_by (Err faults.Failed) old new h = IsBrought.some h
  brought_by (Ok done) old new h = IsBrought.some h

  some_by : (r : Result (Unit {0}) IoFault) (old new : Connection S) → r ≡ Err faults.Failed → IsBroughtBy r old new → BringsSome old new
  some_by r old new is h = subst (λ (z : Result (Unit {0}) IoFault). IsBroughtBy z old new) is h

  -- what was due of its connection was told, and an error may be kept then
  told_on : (first mid told new : StateInner S) → HasSameCalls first mid → AreTold mid.is_connected mid.connection told.is_connected told.connection → IsWhole told.connection → told.connection.is_connected_due ≡ false
      → interests_in told.waiting.items ≡ interests_in mid.waiting.items → told ≡ record mid { connection = told.connection; is_connected = told.is_connected; waiting = told.waiting } → new ≡ record told { error = new.error }
      → (is_open told.connection.core.state ≡ true → told.connection.core.error ≡ None) → (is_open told.connection.core.state ≡ false → is_some told.connection.core.error ≡ true) → IsToldOn first mid.connection new
  told_on first mid told new same tells whole due waiting rest kept lives lost =
      subst (λ (z : StateInner S). IsToldOn first mid.connection z) (sym kept)
      (record {
        beside = record {
          readers = ap (λ (z : StateInner S). z.readers) rest ∙ ap (λ (z : StateInner S). z.readers) same;
          stable_id = ap (λ (z : StateInner S). z.stable_id) rest ∙ ap (λ (z : StateInner S). z.stable_id) same;
          handles = ap (λ (z : StateInner S). z.handles) rest ∙ ap (λ (z : StateInner S). z.handles) same;
          interests = λ i. ap (λ (z : List _). list_any (λ (j : _). is_same j i) z) waiting ∙ ap (λ (z : StateInner S). is_among i z.waiting.items) same;
        };
        told = subst (λ (z : Bool). AreTold z mid.connection told.is_connected told.connection) (ap (λ (z : StateInner S). z.is_connected) same) tells;
        whole = whole;
        due = due;
        lives = lives;
        lost = lost;
      })

  -- the log of its streams is on still, or the connection isn't open any more
  brought_logging : (first : StateInner S) (mid : Connection S) → IsState first → IsBrought first.connection mid → IsLogging mid
  brought_logging first mid state (IsBrought.some s) = s.brings.logging state.logging
  brought_logging first mid state (IsBrought.wanting was e) =
      let h = e.shows first.is_connected state.shown.notes state.book state.shown.shows.connection in
      λ opened. absurd (false≢true (sym (drained_shut mid.core.state (h.drained e.wanting)) ∙ opened))

  ended_shut : (first : StateInner S) (mid : Connection S) (new : StateInner S) → IsState first → IsEnded first.connection mid → IsToldOn first mid new → is_some first.error ≡ true → is_open new.connection.core.state ≡ false
  ended_shut first mid new state ended on is =
      ap is_open (told_state first.is_connected mid new.is_connected new.connection on.told).0 ∙ ended (shut_if (is_some first.error) (is_open first.connection.core.state) state.lost is)

  taken : Tells S → (done : Result (Unit {0}) IoFault) (loss : Option ConnectionError) (first new : StateInner S) (mid : Connection S) → IsState first → Leads loss first new → IsToldOn first mid new → is_some new.error ≡ not (is_open new.connection.core.state)
      → IsLogging mid → (done ≡ Err faults.Failed → (e : TransportError) × (new.error ≡ Some (error.TransportError e)) × (e.code.0 ≡ codes.internal_error)) → new_loss (has_failed done) first new ≡ loss → IsTakenUp done first new
  taken law done loss first new mid state leads on lost logging failed is = record {
    items = leads.items;
    logs = leads.logs;
    each = λ b h. subst (λ (l : Option ConnectionError). Shows new (bring_all (map item_of leads.items ++ lost_items l) b)) (sym is) (leads.each b h);
    state = led_state law loss first new mid state leads on lost logging;
    failed = failed;
  }

  -- ---- the socket failed

  taken_failed : Tells S → (done : Result (Unit {0}) IoFault) (first new : StateInner S) (mid : Connection S) (e : TransportError) → IsState first → done ≡ Err faults.Failed → BringsSome first.connection mid → IsToldOn first mid new → is_open mid.core.state ≡ false
      → new.error ≡ Some (error.TransportError e) → e.code.0 ≡ codes.internal_error → IsTakenUp done first new
  taken_failed law done first new mid e state was s on shut kept code =
      let off : is_open new.connection.core.state ≡ false = ap is_open (told_state first.is_connected mid new.is_connected new.connection on.told).0 ∙ shut in
      taken law done (Some (error.TransportError e)) first new mid state (failed_leads law first new mid e s on kept) on (lost_is (is_some new.error) (is_open new.connection.core.state) (ap is_some kept) off) (s.brings.logging state.logging) (λ is. (e, kept, code))
      (failed_loss (has_failed done) first.error new.error (is_wanting first.connection) (is_wanting new.connection) (ap has_failed was) ∙ kept)

  -- ---- it didn't

  news_of : (first told new : StateInner S) (was_emptied : Bool) → new.connection ≡ told.connection → told.error ≡ first.error → was_emptied ≡ is_wanting first.connection
      → (told.error ≡ None) ⊎ ((was_emptied ≡ false) × (is_wanting told.connection ≡ true)) → IsNews first new
  news_of first told new was_emptied same error was (inl none) = inl (sym error ∙ none)
  news_of first told new was_emptied same error was (inr both) = inr (sym was ∙ both.0, ap is_wanting same ∙ both.1)

  calm_still : (first told new : StateInner S) (was_emptied : Bool) → new.connection ≡ told.connection → was_emptied ≡ is_wanting first.connection → (was_emptied ≡ true) ⊎ (is_wanting told.connection ≡ false)
      → is_wanting first.connection ≡ false → is_wanting new.connection ≡ false
  calm_still first told new was_emptied same was (inl on) calm = absurd (false≢true (sym calm ∙ (sym was ∙ on)))
  calm_still first told new was_emptied same was (inr off) calm = ap is_wanting same ∙ off

  taken_on : Tells S → (done : Result (Unit {0}) IoFault) (first told new : StateInner S) (mid : Connection S) (was_emptied : Bool) → IsState first → done ≢ Err faults.Failed → IsBrought first.connection mid → IsEnded first.connection mid → IsToldOn first mid new
      → was_emptied ≡ is_wanting first.connection → told.error ≡ first.error → new.connection ≡ told.connection
      → ((new.error ≡ told.connection.core.error) × ((told.error ≡ None) ⊎ ((was_emptied ≡ false) × (is_wanting told.connection ≡ true)))) ⊎ ((new.error ≡ told.error) × (is_some told.error ≡ true) × ((was_emptied ≡ true) ⊎ (is_wanting told.connection ≡ false)))
      → IsTakenUp done first new
  taken_on law done first told new mid was_emptied state calm brought ended on was error same (inl by) =
      let kept : new.error ≡ new.connection.core.error = by.0 ∙ sym (ap (λ (z : Connection S). z.core.error) same) in
      taken law done new.error first new mid state (reason_leads law first new mid state (news_of first told new was_emptied same error was by.1) brought on kept) on (reason_lost first new mid on kept) (brought_logging first mid state brought) (λ is. absurd (calm is))
      (news_loss (has_failed done) first.error new.error (is_wanting first.connection) (is_wanting new.connection) (news_of first told new was_emptied same error was by.1))
  taken_on law done first told new mid was_emptied state calm brought ended on was error same (inr by) =
      let kept : new.error ≡ first.error = by.0 ∙ error in
      let had : is_some first.error ≡ true = sym (ap is_some error) ∙ by.1 in
      taken law done None first new mid state (kept_leads law first new mid state (calm_still first told new was_emptied same was by.2) brought on kept) on
      (lost_is (is_some new.error) (is_open new.connection.core.state) (ap is_some kept ∙ had) (ended_shut first mid new state ended on had)) (brought_logging first mid state brought) (λ is. absurd (calm is))
      (kept_loss (has_failed done) first.error new.error (is_wanting first.connection) (is_wanting new.connection) (unfailed done calm) had (calm_still first told new was_emptied same was by.2))

  -- ---- a turn that ended so

  -- the socket may have failed: then the datagram that waited is dropped, and the connection is lost by it, unless it was drained
  pub record HasHeeded (now : Moment) (sent done : Result (Unit {0}) IoFault) (old mid : StateInner S) : Type 0 where
    pub other : sent ≢ Err faults.Failed → (done ≡ sent) × (mid ≡ old)
    pub drained : sent ≡ Err faults.Failed → is_drained old.connection.core.state ≡ true → (done ≡ Ok tt) × (mid ≡ record old { outgoing = None })
    pub failed : sent ≡ Err faults.Failed → is_drained old.connection.core.state ≡ false
        → (done ≡ sent) × (is_open mid.connection.core.state ≡ false) × (mid ≡ record old { outgoing = None; connection = record old.connection { core = mid.connection.core } })
    pub faulted : sent ≡ Err faults.Failed → is_drained old.connection.core.state ≡ false → (e : TransportError) × IsFaulted now e old.connection.core mid.connection.core × (e.code.0 ≡ codes.internal_error)
    pub brings : sent ≡ Err faults.Failed → is_drained old.connection.core.state ≡ false → Brings [] old.connection mid.connection

  -- the socket failed, or the connection went on and it didn't
  record Went (done : Result (Unit {0}) IoFault) (first mid : StateInner S) : Type 0 where
    same : HasSameCalls first mid
    how : ((done ≡ Err faults.Failed) × BringsSome first.connection mid.connection × (is_open mid.connection.core.state ≡ false))
        ⊎ ((done ≢ Err faults.Failed) × IsBrought first.connection mid.connection × IsEnded first.connection mid.connection)
    fault : done ≡ Err faults.Failed → (e : TransportError) × (mid.connection.core.error ≡ Some (error.TransportError e)) × (e.code.0 ≡ codes.internal_error)

  went : Both S → (now : Moment) (sent done : Result (Unit {0}) IoFault) (first old mid : StateInner S) → HasSameCalls first old → IsBroughtBy sent first.connection old.connection → IsEnded first.connection old.connection → HasHeeded now sent done old mid → Went done first mid
  went both now sent done first old mid same brought ended heeded = at (has_failed sent) refl
    where
      failing : sent ≡ Err faults.Failed → (drained : Bool) → is_drained old.connection.core.state ≡ drained → Went done first mid
      failing is true drained =
          let h = heeded.drained is drained in
          record {
            same = subst (λ (z : StateInner S). HasSameCalls first z) (sym h.1) (ap (λ (z : StateInner S). record z { outgoing = None }) same);
            how = inr (
              λ e. false≢true (ap has_failed (sym h.0 ∙ e)),
              subst (λ (z : StateInner S). IsBrought first.connection z.connection) (sym h.1) (brought_by sent first.connection old.connection brought),
              subst (λ (z : StateInner S). IsEnded first.connection z.connection) (sym h.1) ended,
            );
            fault = λ e. absurd (false≢true (ap has_failed (sym h.0 ∙ e)));
          }
      failing is false lives =
          let h = heeded.failed is lives in
          record {
            same = subst (λ (z : StateInner S). HasSameCalls first z) (sym h.2) (ap (λ (z : StateInner S). record z { outgoing = None; connection = record old.connection { core = mid.connection.core } }) same);
            how = inl (
              h.0 ∙ is,
              both first.connection old.connection mid.connection (some_by sent first.connection old.connection is brought) (record { items = []; brings = heeded.brings is lives }),
              h.1,
            );
            fault = λ e. let f = heeded.faulted is lives in (f.0, ap (λ (z : Inner S). z.error) f.1.closed.rest_is, f.2);
          }

      at : (failed : Bool) → has_failed sent ≡ failed → Went done first mid
      at true is = failing (if_failed sent is) (is_drained old.connection.core.state) refl
      at false is =
          let isnt = not_failed sent is in
          let h = heeded.other isnt in
          record {
            same = subst (λ (z : StateInner S). HasSameCalls first z) (sym h.1) same;
            how = inr (
              λ e. isnt (sym h.0 ∙ e),
              subst (λ (z : StateInner S). IsBrought first.connection z.connection) (sym h.1) (brought_by sent first.connection old.connection brought),
              subst (λ (z : StateInner S). IsEnded first.connection z.connection) (sym h.1) ended,
            );
            fault = λ e. absurd (isnt (sym h.0 ∙ e));
          }

  -- what was due was told, and the error is kept
  pub record IsKnown (failed was_emptied : Bool) (mid told new : StateInner S) : Type 0 where
    pub tells : AreTold mid.is_connected mid.connection told.is_connected told.connection
    pub whole : IsWhole told.connection
    pub due : told.connection.is_connected_due ≡ false
    pub waiting : interests_in told.waiting.items ≡ interests_in mid.waiting.items
    pub rest : told ≡ record mid { connection = told.connection; is_connected = told.is_connected; waiting = told.waiting }
    pub lives : is_open told.connection.core.state ≡ true → told.connection.core.error ≡ None
    pub lost : is_open told.connection.core.state ≡ false → is_some told.connection.core.error ≡ true
    pub loss : KeepsLoss failed was_emptied told new
    pub kept : new ≡ record told { error = new.error }

  pub taken_up : Tells S → Both S → (now : Moment) (sent done : Result (Unit {0}) IoFault) (first old mid told new : StateInner S) (failed was_emptied : Bool) → IsState first → HasSameCalls first old → IsBroughtBy sent first.connection old.connection
      → IsEnded first.connection old.connection → was_emptied ≡ is_wanting first.connection → HasHeeded now sent done old mid → failed ≡ has_failed done → IsKnown failed was_emptied mid told new → IsTakenUp done first new
  taken_up law both now sent done first old mid told new failed was_emptied state same brought ended was heeded flag known = at w.how
    where
      w : Went done first mid
      w = went both now sent done first old mid same brought ended heeded

      on : IsToldOn first mid.connection new
      on = told_on first mid told new w.same known.tells known.whole known.due known.waiting known.rest known.kept known.lives known.lost

      at : ((done ≡ Err faults.Failed) × BringsSome first.connection mid.connection × (is_open mid.connection.core.state ≡ false))
          ⊎ ((done ≢ Err faults.Failed) × IsBrought first.connection mid.connection × IsEnded first.connection mid.connection) → IsTakenUp done first new
      at (inl h) =
          let e = w.fault h.0 in
          let kept : new.error ≡ Some (error.TransportError e.0) =
          known.loss.0 (flag ∙ ap has_failed h.0) ∙ (told_state mid.is_connected mid.connection told.is_connected told.connection known.tells).1 ∙ e.1
          in
          taken_failed law done first new mid.connection e.0 state h.0 h.1 on h.2 kept e.2
      at (inr h) =
          taken_on law done first told new mid.connection was_emptied state h.0 h.1 h.2 on was (ap (λ (z : StateInner S). z.error) known.rest ∙ ap (λ (z : StateInner S). z.error) w.same) (ap (λ (z : StateInner S). z.connection) known.kept)
          (known.loss.1 (flag ∙ unfailed done h.0))

  pub failed_out : (now : Moment) (sent done : Result (Unit {0}) IoFault) (old mid told new : StateInner S) → HasHeeded now sent done old mid → AreTold mid.is_connected mid.connection told.is_connected told.connection
      → told ≡ record mid { connection = told.connection; is_connected = told.is_connected; waiting = told.waiting } → new ≡ record told { error = new.error } → sent ≡ Err faults.Failed
      → (new.outgoing ≡ None) × ((done ≡ sent) ⊎ ((done ≡ Ok tt) × (is_drained new.connection.core.state ≡ true)))
  failed_out now sent done old mid told new heeded tells rest kept is = at (is_drained old.connection.core.state) refl
    where
      out : mid.outgoing ≡ None → new.outgoing ≡ None
      out none = ap (λ (z : StateInner S). z.outgoing) kept ∙ ap (λ (z : StateInner S). z.outgoing) rest ∙ none

      state_is : new.connection.core.state ≡ mid.connection.core.state
      state_is = ap (λ (z : StateInner S). z.connection.core.state) kept ∙ (told_state mid.is_connected mid.connection told.is_connected told.connection tells).0

      at : (drained : Bool) → is_drained old.connection.core.state ≡ drained → (new.outgoing ≡ None) × ((done ≡ sent) ⊎ ((done ≡ Ok tt) × (is_drained new.connection.core.state ≡ true)))
      at true drained =
          let h = heeded.drained is drained in
          (out (ap (λ (z : StateInner S). z.outgoing) h.1), inr (h.0, ap is_drained (state_is ∙ ap (λ (z : StateInner S). z.connection.core.state) h.1) ∙ drained))
      at false lives =
          let h = heeded.failed is lives in
          (out (ap (λ (z : StateInner S). z.outgoing) h.2), inl h.0)

  -- ---- what is said of the connection and of its error

  -- what heeding leaves of the state and of its connection, whether the socket failed or not
  record Heeds (now : Moment) (done : Result (Unit {0}) IoFault) (old mid : StateInner S) : Type 0 where
    is_connected : mid.is_connected ≡ old.is_connected
    kept : mid.error ≡ old.error
    fails : has_failed done ≡ true → (e : TransportError) × IsFaulted now e old.connection.core mid.connection.core × (mid.connection ≡ record old.connection { core = mid.connection.core }) × (e.code.0 ≡ codes.internal_error)
    other : has_failed done ≡ false → mid.connection ≡ old.connection

  heeds : (now : Moment) (sent done : Result (Unit {0}) IoFault) (old mid : StateInner S) → HasHeeded now sent done old mid → Heeds now done old mid
  heeds now sent done old mid h = at (has_failed sent) refl (is_drained old.connection.core.state) refl
    where
      at : (failed : Bool) → has_failed sent ≡ failed → (drained : Bool) → is_drained old.connection.core.state ≡ drained → Heeds now done old mid
      at false off drained state =
          let k = h.other (not_failed sent off) in
          record {
            is_connected = ap (λ (z : StateInner S). z.is_connected) k.1;
            kept = ap (λ (z : StateInner S). z.error) k.1;
            fails = λ is. absurd (false≢true (sym off ∙ (sym (ap has_failed k.0) ∙ is)));
            other = λ is. ap (λ (z : StateInner S). z.connection) k.1;
          }
      at true on true state =
          let k = h.drained (if_failed sent on) state in
          record {
            is_connected = ap (λ (z : StateInner S). z.is_connected) k.1;
            kept = ap (λ (z : StateInner S). z.error) k.1;
            fails = λ is. absurd (false≢true (sym (ap has_failed k.0) ∙ is));
            other = λ is. ap (λ (z : StateInner S). z.connection) k.1;
          }
      at true on false lives =
          let k = h.failed (if_failed sent on) lives in
          let f = h.faulted (if_failed sent on) lives in
          record {
            is_connected = ap (λ (z : StateInner S). z.is_connected) k.2;
            kept = ap (λ (z : StateInner S). z.error) k.2;
            fails = λ is. (f.0, f.1, ap (λ (z : StateInner S). z.connection) k.2, f.2);
            other = λ is. absurd (false≢true (sym is ∙ (ap has_failed k.0 ∙ on)));
          }

  pub heeded_on : (now : Moment) (sent done : Result (Unit {0}) IoFault) (old mid told new : StateInner S) (failed was_emptied : Bool) → HasHeeded now sent done old mid → failed ≡ has_failed done
      → AreTold mid.is_connected mid.connection told.is_connected told.connection → KeepsLoss failed was_emptied told new → new ≡ record told { error = new.error } → IsHeeded now (has_failed done) old.is_connected old.connection new
  heeded_on now sent done old mid told new failed was_emptied heeded flag tells loss kept =
      let h = heeds now sent done old mid heeded in
      record {
        lost = mid.connection;
        fails = λ is.
            let f = h.fails is in
            (f.0, f.1, f.2, f.3, loss.0 (flag ∙ is) ∙ (told_state mid.is_connected mid.connection told.is_connected told.connection tells).1 ∙ ap (λ (z : Inner S). z.error) f.1.closed.rest_is);
        other = h.other;
        tells = subst (λ (z : StateInner S). AreTold old.is_connected mid.connection z.is_connected z.connection) (sym kept) (subst (λ (was : Bool). AreTold was mid.connection told.is_connected told.connection) h.is_connected tells);
      }

  pub error_kept : (now : Moment) (sent done : Result (Unit {0}) IoFault) (first old mid told new : StateInner S) (failed was_emptied : Bool) → HasHeeded now sent done old mid → failed ≡ has_failed done
      → told ≡ record mid { connection = told.connection; is_connected = told.is_connected; waiting = told.waiting } → KeepsLoss failed was_emptied told new → new ≡ record told { error = new.error } → has_failed done ≡ false
      → first.error ≡ old.error → was_emptied ≡ is_wanting first.connection → IsErrorKept first new
  error_kept now sent done first old mid told new failed was_emptied heeded flag rest loss kept calm before was = at (loss.1 (flag ∙ calm))
    where
      error_is : told.error ≡ first.error
      error_is = ap (λ (z : StateInner S). z.error) rest ∙ (heeds now sent done old mid heeded).kept ∙ sym before

      same : new.connection ≡ told.connection
      same = ap (λ (z : StateInner S). z.connection) kept

      -- the error that was kept gives way only to want of memory
      taken_place : is_some first.error ≡ true → (is_wanting first.connection ≡ true) ⊎ (is_wanting new.connection ≡ false) → (told.error ≡ None) ⊎ ((was_emptied ≡ false) × (is_wanting told.connection ≡ true)) → ⊥
      taken_place had how (inl none) = false≢true (ap is_some (sym none ∙ error_is) ∙ had)
      taken_place had (inl on) (inr wants) = false≢true (sym wants.0 ∙ (was ∙ on))
      taken_place had (inr off) (inr wants) = false≢true (sym off ∙ (ap is_wanting same ∙ wants.1))

      left_as_it_was : is_some told.error ≡ true → (first.error ≡ None) ⊎ ((is_wanting first.connection ≡ false) × (is_wanting new.connection ≡ true)) → (was_emptied ≡ true) ⊎ (is_wanting told.connection ≡ false) → ⊥
      left_as_it_was had (inl none) how = false≢true (ap is_some (sym none ∙ sym error_is) ∙ had)
      left_as_it_was had (inr wants) (inl on) = false≢true (sym wants.0 ∙ (sym was ∙ on))
      left_as_it_was had (inr wants) (inr off) = false≢true (sym off ∙ (sym (ap is_wanting same) ∙ wants.1))

      at : ((new.error ≡ told.connection.core.error) × ((told.error ≡ None) ⊎ ((was_emptied ≡ false) × (is_wanting told.connection ≡ true)))) ⊎ ((new.error ≡ told.error) × (is_some told.error ≡ true) × ((was_emptied ≡ true) ⊎ (is_wanting told.connection ≡ false)))
          → IsErrorKept first new
      at (inl by) = record { stays = λ had how. absurd (taken_place had how by.1); lost = λ how. by.0 ∙ sym (ap (λ (z : Connection S). z.core.error) same) }
      at (inr by) = record { stays = λ had how. by.0 ∙ error_is; lost = λ how. absurd (left_as_it_was by.1 how by.2) }

  pub stands_on : (old mid told new : StateInner S) → StandsStill old.connection mid.connection → AreTold mid.is_connected mid.connection told.is_connected told.connection → new ≡ record told { error = new.error } → StandsStill old.connection new.connection
  stands_on old mid told new stands tells kept =
      subst (λ (z : StateInner S). StandsStill old.connection z.connection) (sym kept)
      (λ accepts sealed hello t h. told_stands mid.is_connected mid.connection told.is_connected told.connection tells accepts sealed hello t (stands accepts sealed hello t h))
