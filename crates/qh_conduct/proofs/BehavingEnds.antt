-- An end goes on as it behaved, over events, datagrams and timers.
use Rattle.std.proofs.Common.{◌≡◌, ◌⊎◌, ℕ, ◌≤◌, ◌^◌, Bool, true, false, List, [], ◌++◌, Option, Some, refl, sym, ap, subst, inl, inr, arith}
use Rattle.std.specs.Prelude.{Ok}
use Rattle.std.proofs.lemmas.Bool.{both_ways, cases_Bool}
use Rattle.std.proofs.lemmas.List.{append-nil}
use Rattle.qh_base.specs.declared.connection_error.ConnectionError.TheVariants.{LocallyClosed}
use Rattle.qh_base.specs.declared.path.Transmit.{Transmit}
use Rattle.qh_base.specs.declared.time.Moment.{Moment}
use Rattle.qh_conduct.proofs.AnnouncedCalls as announced
use Rattle.qh_conduct.proofs.AnnouncedFirst.{failed_announced, first_announced}
use Rattle.qh_conduct.proofs.DatagramsKept.{made_stands}
use Rattle.qh_conduct.proofs.FilledFrames.{fresh_filled, quiet_filled}
use Rattle.qh_conduct.proofs.GrantedCalls as granted
use Rattle.qh_conduct.proofs.ReachConnections as reached
use Rattle.qh_conduct.proofs.SizedCalls as sized
use Rattle.qh_conduct.proofs.TurnedAside.{IsAside, turned_aside}
use Rattle.qh_conduct.specs.Announced.{MakesTags}
use Rattle.qh_conduct.specs.Behaves.{Behaves}
use Rattle.qh_conduct.specs.Filled.{AreFilled}
use Rattle.qh_conduct.specs.Reached.{AreNamed}
use Rattle.qh_core.specs.Event.{IsDrainedTold, IsPolledEvent}
use Rattle.qh_core.specs.Follows.{Follows, event_acts, transmit_acts}
use Rattle.qh_core.specs.Inner.{IsFailedBy, IsNewSpace, IsSameEnd, is_open}
use Rattle.qh_core.specs.Made.{IsTurned}
use Rattle.qh_core.specs.Receiving.{IsClosedWith, IsEventTaken, received}
use Rattle.qh_core.specs.Sending.{ClosesReadBack, IsDatagramMade, NothingIsSent}
use Rattle.qh_core.specs.Timers.{IsTimedOut}
use Rattle.qh_core.specs.declared.event.ConnectionEvent.{ConnectionEvent}
use Rattle.qh_core.specs.declared.event.ConnectionEvent.TheVariants.{Close, Datagram}
use Rattle.qh_core.specs.declared.event.EndpointEvent.{EndpointEvent}
use Rattle.qh_core.specs.declared.event.Event.{Event}
use Rattle.qh_core.specs.declared.inner.Inner.{Inner}
use Rattle.qh_core.specs.declared.state.Close.TheVariants.{Application}
use Rattle.qh_space.specs.Space.{first_streams}
use Rattle.qh_spec.specs.Transcript.{Act, handed_out}
use Rattle.qh_spec.specs.declared.sides.Side.{Side}
use Rattle.qh_spec.specs.declared.sides.Space.{Space}
use Rattle.qh_streams.specs.Streams.{PlainStreams, counts_of}
use Rattle.qh_streams.specs.declared.frames.PeerLimits.{PeerLimits}
use Rattle.qh_streams.specs.declared.frames.StreamLimits.{StreamLimits}

-- ---- the counts of new streams

first_arrived : (side : Side) (limits : StreamLimits) (peer : PeerLimits) (two_way : Bool) → (counts_of (first_streams side limits peer) two_way).arrived ≡ 0
first_arrived side limits peer true = refl
first_arrived side limits peer false = refl

first_count : (side : Side) (limits : StreamLimits) (peer : PeerLimits) (two_way : Bool) → (counts_of (first_streams side limits peer) two_way).announced.value ≤ 2 ^ 60
first_count side limits peer true = omega arith
first_count side limits peer false = omega arith

-- ---- what an event adds

pub event_out : (event : ConnectionEvent) → handed_out (event_acts event) ≡ []
event_out (Datagram now remote payload) = refl
event_out (Close now code reason) = refl

module _ {S : Type 0} where
  -- ---- states of one end

  pub same_end : (old new c : Inner S) → new ≡ c → IsSameEnd old c → IsSameEnd old new
  same_end old new c e same = subst (λ (c : Inner S). IsSameEnd old c) (sym e) same

  own_end : (c : Inner S) → IsSameEnd c c
  own_end c = record { side = refl; local_id = refl; remote_length = refl; config = refl }

  none_end : (old new : Inner S) → NothingIsSent old new → IsSameEnd old new
  none_end old new n = same_end old new old n.0 (own_end old)

  failed_end : (old new : Inner S) → IsFailedBy old new → IsSameEnd old new
  failed_end old new f = same_end old new _ f.rest_is (record { side = refl; local_id = refl; remote_length = refl; config = refl })

  received_end : (event : ConnectionEvent) (old new : Inner S) → IsFailedBy (received event old) new → IsSameEnd old new
  received_end (Datagram now remote payload) old new f = same_end old new _ f.rest_is (record { side = refl; local_id = refl; remote_length = refl; config = refl })
  received_end (Close now code reason) old new f = failed_end old new f

  pub still_filled : (old new : Inner S) (t : List Act) → IsSameEnd old new → AreFilled old t → AreFilled new t
  still_filled old new t same p = subst (λ (u : List Act). AreFilled new u) (append-nil t) (quiet_filled old new t [] same refl p)

  -- ---- the law

  pub fresh_behaves : (c : Inner S) → IsNewSpace c.config c.side c.space → Follows c [] → Behaves c []
  fresh_behaves c new follows =
      let are = new.streams_are in record {
        follows = follows;
        reached = reached.fresh_law c (record {
          side_is = new.of.side_is;
          no_half = new.no_half.recv;
          received = ap (λ (s : PlainStreams). s.recv.received) are;
          arrived = λ two_way. rw are (first_arrived c.side c.config.limits c.config.peer two_way);
        });
        announced = first_announced c new (λ two_way. rw are (first_count c.side c.config.limits c.config.peer two_way));
        granted = granted.fresh_granted c new;
        sized = sized.fresh_sized c new;
        filled = fresh_filled c;
      }

  pub event_behaves : (accepts : Side → Space → ℕ → List ℕ → Bool) (event : ConnectionEvent) (old new : Inner S) (t : List Act) → AreNamed accepts → IsEventTaken accepts event old new → IsSameEnd old new → Follows new (t ++ event_acts event)
      → Behaves old t → Behaves new (t ++ event_acts event)
  event_behaves accepts event old new t named came same follows b = record {
    follows = follows;
    reached = reached.event_law accepts event old new t named came b.reached;
    announced = announced.event_stands accepts (λ from number tag. named from _ number tag) event old new t came b.announced;
    granted = granted.event_granted accepts event old new came b.granted;
    sized = sized.event_sized accepts event old new t came b.sized;
    filled = quiet_filled old new t (event_acts event) same (event_out event) b.filled;
  }

  close_taken : (accepts : Side → Space → ℕ → List ℕ → Bool) (now : Moment) (code : ℕ) (reason : List ℕ) (old new : Inner S)
      → (is_open old.state ≡ true → IsClosedWith now (Application (record { error_code = code; reason = reason })) LocallyClosed old new) → (is_open old.state ≡ false → new ≡ old)
      → IsEventTaken accepts (Close now code reason) old new
  close_taken accepts now code reason old new closed kept = elim (cases_Bool (is_open old.state)) [ inl up ↦ rw up (closed up) | inr down ↦ rw down (kept down) ]

  -- the application closes, which is an event of any session
  pub closed_behaves : (now : Moment) (code : ℕ) (reason : List ℕ) (old new : Inner S) (t : List Act)
      → (is_open old.state ≡ true → IsClosedWith now (Application (record { error_code = code; reason = reason })) LocallyClosed old new) → (is_open old.state ≡ false → new ≡ old)
      → IsSameEnd old new → Follows new t → Behaves old t → Behaves new t
  closed_behaves now code reason old new t closed kept same follows b =
      subst (λ (u : List Act). Behaves new u) (append-nil t)
      (event_behaves (λ from space number tag. false) (Close now code reason) old new t (λ from space number tag fits takes. absurd (both_ways false refl takes))
      (close_taken (λ from space number tag. false) now code reason old new closed kept) same (subst (λ (u : List Act). Follows new u) (sym (append-nil t)) follows) b)

  pub failed_event : (event : ConnectionEvent) (old new : Inner S) (t : List Act) → IsFailedBy (received event old) new → Follows new (t ++ event_acts event) → Behaves old t → Behaves new (t ++ event_acts event)
  failed_event event old new t failed follows b = record {
    follows = follows;
    reached = reached.failed_law (received event old) new (t ++ event_acts event) failed;
    announced = failed_announced (received event old) new (t ++ event_acts event) failed;
    granted = granted.failed_granted (received event old) new failed;
    sized = sized.failed_sized (received event old) new (t ++ event_acts event) failed (sized.came_sized event old t b.sized);
    filled = quiet_filled old new t (event_acts event) (received_end event old new failed) (event_out event) b.filled;
  }

  pub failed_behaves : (old new : Inner S) (t : List Act) → IsFailedBy old new → Follows new t → Behaves old t → Behaves new t
  failed_behaves old new t failed follows b = record {
    follows = follows;
    reached = reached.failed_law old new t failed;
    announced = failed_announced old new t failed;
    granted = granted.failed_granted old new failed;
    sized = sized.failed_sized old new t failed b.sized;
    filled = still_filled old new t (failed_end old new failed) b.filled;
  }

  aside_behaves : (old new : Inner S) (t : List Act) → IsAside old new → Follows new t → Behaves old t → Behaves new t
  aside_behaves old new t aside follows b = record {
    follows = follows;
    reached = reached.aside_law old new t aside b.reached;
    announced = announced.aside_announced old new t aside b.announced;
    granted = granted.aside_granted old new aside b.granted;
    sized = sized.aside_sized old new t aside b.sized;
    filled = still_filled old new t aside.same b.filled;
  }

  pub turned_behaves : (old new : Inner S) (t : List Act) → IsTurned old new → Follows new t → Behaves old t → Behaves new t
  turned_behaves old new t turned follows b = elim (turned_aside old new turned) [
    | inl lacks ↦ failed_behaves old new t lacks follows b
    | inr aside ↦ aside_behaves old new t aside follows b
  ]

  -- its STREAM frames are filled, as is said of each datagram that is made
  pub made_behaves : (sealed : Side → Space → ℕ → List ℕ) → MakesTags sealed → (now : Moment) (old new : Inner S) (before after : List ℕ) (transmit : Transmit) (t : List Act) → IsDatagramMade sealed now old new before after transmit
      → (is_open old.state ≡ true) ⊎ ClosesReadBack old.state → Follows new (t ++ transmit_acts before after (Ok (Some transmit))) → AreFilled new (t ++ transmit_acts before after (Ok (Some transmit)))
      → Behaves old t → Behaves new (t ++ transmit_acts before after (Ok (Some transmit)))
  made_behaves sealed tags now old new before after transmit t made back follows filled b = record {
    follows = follows;
    reached = reached.acts_law new t _ (reached.made_law sealed now old new before after transmit t made b.reached);
    announced = made_stands sealed tags now old new before after transmit t made back b.announced;
    granted = granted.made_granted sealed now old new before after transmit made b.granted;
    sized = sized.made_sized sealed tags now old new before after transmit t made back b.sized;
    filled = filled;
  }

  pub none_behaves : (old new : Inner S) (t : List Act) → NothingIsSent old new → Follows new t → Behaves old t → Behaves new t
  none_behaves old new t none follows b = record {
    follows = follows;
    reached = reached.none_law old new t none b.reached;
    announced = announced.none_sent old new t none b.announced;
    granted = granted.none_granted old new none b.granted;
    sized = sized.none_sized old new t none b.sized;
    filled = still_filled old new t (none_end old new none) b.filled;
  }

  pub timed_behaves : (now : ℕ) (old new : Inner S) (t : List Act) → IsTimedOut now old new → IsSameEnd old new → Follows new t → Behaves old t → Behaves new t
  timed_behaves now old new t timed same follows b = record {
    follows = follows;
    reached = reached.timeout_law now old new t timed b.reached;
    announced = announced.timed_out now old new t timed b.announced;
    granted = granted.timed_granted now old new timed b.granted;
    sized = sized.timed_sized now old new t timed b.sized;
    filled = still_filled old new t same b.filled;
  }

  pub polled_behaves : (old new : Inner S) (told : Option Event) (t : List Act) → IsPolledEvent old new told → IsSameEnd old new → Follows new t → Behaves old t → Behaves new t
  polled_behaves old new o t polled same follows b = record {
    follows = follows;
    reached = reached.polled_law old new o t polled b.reached;
    announced = announced.polled old new o t polled b.announced;
    granted = granted.polled_granted old new o polled b.granted;
    sized = sized.polled_sized old new o t polled b.sized;
    filled = still_filled old new t same b.filled;
  }

  pub drained_behaves : (old new : Inner S) (told : Option EndpointEvent) (t : List Act) → IsDrainedTold old new told → IsSameEnd old new → Follows new t → Behaves old t → Behaves new t
  drained_behaves old new o t drain same follows b = record {
    follows = follows;
    reached = reached.told_law old new o t drain b.reached;
    announced = announced.told_drained old new o t drain b.announced;
    granted = granted.drained_granted old new o drain b.granted;
    sized = sized.drained_sized old new o t drain b.sized;
    filled = still_filled old new t same b.filled;
  }
