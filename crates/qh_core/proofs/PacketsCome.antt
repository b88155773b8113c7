-- What is handed in from outside: how the connection stands to all that was done then.
use Rattle.std.proofs.Common.{◌≡◌, ℕ, Bool, true, false, List, [], ◌∷◌, ◌++◌, length, Option, Some, None, refl, sym, ap, subst, ◌∙◌, inl, inr}
use Rattle.std.proofs.lemmas.List.{append-nil}
use Rattle.std.specs.Prelude.{OnErr, OnOk, Result, Ok, Err}
use Rattle.qh_base.specs.declared.connection_error.ConnectionError.{ConnectionError}
use Rattle.qh_base.specs.declared.connection_error.ConnectionError.TheVariants as error
use Rattle.qh_base.specs.declared.memory.Memory.{Memory as OutOfMemory}
use Rattle.qh_base.specs.declared.time.Moment.{Moment}
use Rattle.qh_base.specs.declared.transport_error.TransportError.{TransportError}
use Rattle.qh_core.proofs.Acts.{in_last_act}
use Rattle.qh_core.proofs.DatagramsCome.{accepted_follows, handed_in_follows}
use Rattle.qh_core.proofs.Ends.{ended_with}
use Rattle.qh_core.proofs.Followed.{FollowsOf, carried_on, space_follows, unchanged}
use Rattle.qh_core.proofs.Following.{close_follows}
use Rattle.qh_core.proofs.FramesCome.{frames_follow}
use Rattle.qh_core.specs.Follows.{Following, Follows, HasFrame, HasNumber, event_acts}
use Rattle.qh_core.specs.Inner.{IsConnection, IsFailedBy, IsSameEnd, is_open}
use Rattle.qh_core.specs.Receiving.{GoesOnWith, HasContent, HasWhatOpens, IsClosedWith, IsFaulted, IsDatagramTaken, IsPacketHandled, IsPacketTaken}
use Rattle.qh_core.specs.Receiving.IsDatagramTaken.{dropped, handled, told_again, closed_too, draining, drained}
use Rattle.qh_core.specs.Receiving.IsPacketHandled.{repeated, empty, faulty, unnoted, taken}
use Rattle.qh_core.specs.declared.event.ConnectionEvent.{ConnectionEvent}
use Rattle.qh_core.specs.declared.event.ConnectionEvent.TheVariants.{Close}
use Rattle.qh_core.specs.declared.inner.Inner.{Inner}
use Rattle.qh_core.specs.declared.state.Close.TheVariants.{Application}
use Rattle.qh_core.specs.declared.stats.UdpStats.{UdpStats}
use Rattle.qh_space.specs.declared.data_space.DataSpace.{DataSpace}
use Rattle.qh_spec.specs.Link.{other}
use Rattle.qh_spec.specs.Lists.{In}
use Rattle.qh_spec.specs.QuicFrames.{QuicFrame, AreQuicFrames}
use Rattle.qh_spec.specs.Transcript.{Act, HandedIn, handed_in}
use Rattle.qh_spec.specs.declared.sides.Side.{Side}
use Rattle.qh_spec.specs.declared.sides.Space.{Space}
use Rattle.qh_transcript.proofs.ReceivingLists.{none_some}

behind_none : (P : List Act → Type 0) (t : List Act) → P t → P (t ++ [])
behind_none P t p = subst P (sym (append-nil t)) p

module _ {S : Type 0} where
  -- the same end with this space, and in whatever state
  record GoesTo (old new : Inner S) : Type 0 where
    same : IsSameEnd old new
    space : new.space ≡ old.space

  parts : {old new : Inner S} → new.side ≡ old.side → new.local_id ≡ old.local_id → length new.remote_id ≡ length old.remote_id → new.config ≡ old.config → new.space ≡ old.space → GoesTo old new
  parts side local_id remote_length config space = record { same = record { side = side; local_id = local_id; remote_length = remote_length; config = config }; space = space }

  goes_on : (now : Moment) (end : Option ConnectionError) (old new : Inner S) → GoesOnWith now end old new → GoesTo old new
  goes_on now None old new e = rw e (parts refl refl refl refl refl)
  goes_on now (Some e) old new on = rw (ended_with now e old new on).rest_is (parts refl refl refl refl refl)

  -- ---- a packet that is taken

  content_number : (c : Inner S) (t : List Act) (datagram : List ℕ) (number : ℕ) (fs : List QuicFrame) → HasContent c datagram number fs
      → HasNumber (length c.local_id) (handed_in (t ++ HandedIn datagram ∷ [])) (other c.side) number
  content_number c t d number fs has = record { datagram = d; among = in_last_act t d; packet = _; has = has; space_is = refl; sender_is = refl; number_is = refl }

  content_frame : (c : Inner S) (t : List Act) (datagram : List ℕ) (number : ℕ) (fs : List QuicFrame) → HasContent c datagram number fs
      → (q : QuicFrame) → In q fs → HasFrame (length c.local_id) (handed_in (t ++ HandedIn datagram ∷ [])) (other c.side) q
  content_frame c t d number fs has q there = record { datagram = d; among = in_last_act t d; packet = _; has = has; space_is = refl; sender_is = refl; frame_among = there }

  packet_follows : (now : Moment) (number : ℕ) (bytes datagram : List ℕ) (old new : Inner S) (t : List Act) → IsPacketTaken now number bytes old new
      → ((fs : List QuicFrame) → AreQuicFrames bytes fs → HasContent old datagram number fs)
      → FollowsOf old.side (length old.local_id) (length old.remote_id) old.config old.space (t ++ HandedIn datagram ∷ []) → Following new (t ++ HandedIn datagram ∷ [])
  packet_follows now number bytes d old new t a has p =
      let fs = a.surveyed.frames in
      let is = has fs a.surveyed.are in
      let u = t ++ HandedIn d ∷ [] in
      let to = goes_on now a.end _ new a.goes_on in
      let ends : IsSameEnd old new = record { side = to.same.side; local_id = to.same.local_id; remote_length = to.same.remote_length; config = to.same.config } in
      carried_on old new u a.space ends (inr to.space)
      (frames_follow old.side (length old.local_id) (length old.remote_id) old.config now.0 bytes a.mid a.space a.taken a.end fs u a.are_taken a.surveyed.are (content_frame old t d number fs is)
      (accepted_follows old.side (length old.local_id) (length old.remote_id) old.config old.space a.mid u number a.is_eliciting a.accepted (content_number old t d number fs is) p))

  faulted : (now : Moment) (e : TransportError) (old new : Inner S) → IsFaulted now e old new → GoesTo old new
  faulted now e old new f = rw f.closed.rest_is (parts refl refl refl refl refl)

  -- ---- a datagram

  -- what a step of the connection leaves of its space, which is that of all that was done then
  stays : (old new : Inner S) (t u : List Act) → (p : Following old t) → GoesTo old new → (old.error ≡ Some error.Memory → new.error ≡ Some error.Memory)
      → FollowsOf old.side (length old.local_id) (length old.remote_id) old.config p.space u → Following new u
  stays old new t u p to failed h = carried_on old new u p.space to.same (elim p.is_space [ inl lost ↦ inl (failed lost) | inr is ↦ inr (to.space ∙ is) ]) h

  arrived : (old : Inner S) (t : List Act) (datagram : List ℕ) → (p : Following old t) → FollowsOf old.side (length old.local_id) (length old.remote_id) old.config p.space (t ++ HandedIn datagram ∷ [])
  arrived old t datagram p = handed_in_follows old.side (length old.local_id) (length old.remote_id) old.config p.space t datagram (space_follows old t p)

  unmoved : (old new : Inner S) (t : List Act) (datagram : List ℕ) → GoesTo old new → new.error ≡ old.error → Following old t → Following new (t ++ HandedIn datagram ∷ [])
  unmoved old new t datagram to same p = stays old new t (t ++ HandedIn datagram ∷ []) p to (λ failed. same ∙ failed) (arrived old t datagram p)

  module _ (accepts : Side → Space → ℕ → List ℕ → Bool) (now : Moment) (datagram : List ℕ) where
    handled_follows : (number : ℕ) (bytes : List ℕ) (old new : Inner S) (t : List Act) → IsPacketHandled now number bytes old new → old.error ≡ None
        → ((fs : List QuicFrame) → AreQuicFrames bytes fs → HasContent old datagram number fs) → (p : Following old t)
        → FollowsOf old.side (length old.local_id) (length old.remote_id) old.config p.space (t ++ HandedIn datagram ∷ []) → Following new (t ++ HandedIn datagram ∷ [])
    handled_follows number bytes old new t (repeated is e) none has p h = stays old new t (t ++ HandedIn datagram ∷ []) p (rw e (parts refl refl refl refl refl)) (none_some _ old.error error.Memory none) h
    handled_follows number bytes old new t (empty fault is no_byte says f) none has p h = stays old new t (t ++ HandedIn datagram ∷ []) p (faulted now fault old new f) (none_some _ old.error error.Memory none) h
    handled_follows number bytes old new t (faulty fault kind is at says f) none has p h = stays old new t (t ++ HandedIn datagram ∷ []) p (faulted now fault old new f) (none_some _ old.error error.Memory none) h
    handled_follows number bytes old new t (unnoted fault eliciting is read at f) none has p h = stays old new t (t ++ HandedIn datagram ∷ []) p (faulted now fault old new f) (none_some _ old.error error.Memory none) h
    handled_follows number bytes old new t (taken is a) none has p h =
        let same : old.space ≡ p.space = elim p.is_space [ inl failed ↦ none_some _ old.error error.Memory none failed | inr same ↦ same ] in
        packet_follows now number bytes datagram old new t a has
        (subst (λ (s : DataSpace). FollowsOf old.side (length old.local_id) (length old.remote_id) old.config s (t ++ HandedIn datagram ∷ [])) (sym same) h)

    datagram_follows : (old new : Inner S) (t : List Act) → IsDatagramTaken accepts now datagram old new → (is_open old.state ≡ true → old.error ≡ None)
        → (is_open old.state ≡ true → HasWhatOpens accepts old datagram)
        → Following old t → Following new (t ++ HandedIn datagram ∷ [])
    datagram_follows old new t (dropped up no_packet e) none has p = unmoved old new t datagram (rw e (parts refl refl refl refl refl)) (ap (λ (c : Inner S). c.error) e) p
    datagram_follows old new t (handled number bytes up opened packet) none has p = handled_follows number bytes old new t packet (none up) (λ fs are. has up number bytes fs opened are) p (arrived old t datagram p)
    datagram_follows old new t (told_again reason is_due until is no_close e) none has p = unmoved old new t datagram (rw e (parts refl refl refl refl refl)) (ap (λ (c : Inner S). c.error) e) p
    datagram_follows old new t (closed_too reason is_due until is brings e) none has p = unmoved old new t datagram (rw e (parts refl refl refl refl refl)) (ap (λ (c : Inner S). c.error) e) p
    datagram_follows old new t (draining until is e) none has p = unmoved old new t datagram (rw e (parts refl refl refl refl refl)) (ap (λ (c : Inner S). c.error) e) p
    datagram_follows old new t (drained is e) none has p = unmoved old new t datagram (rw e (parts refl refl refl refl refl)) (ap (λ (c : Inner S). c.error) e) p

  -- ---- want of memory

  pub failed_end : (old new : Inner S) → IsFailedBy old new → IsSameEnd old new
  failed_end old new f = rw f.rest_is (record { side = refl; local_id = refl; remote_length = refl; config = refl })

  pub failed_follows : (old new : Inner S) (t : List Act) → IsFailedBy old new → Following old t → Following new t
  failed_follows old new t f p = carried_on old new t p.space (failed_end old new f) (inl (ap (λ (c : Inner S). c.error) f.rest_is)) (space_follows old t p)

  -- ---- a datagram came, and was counted

  -- what is counted changes nothing of it
  counts_follow : (c : Inner S) (counts : UdpStats) (t : List Act) → Following c t → Following (record c { udp_rx = counts }) t
  counts_follow c counts t p = unchanged c (record c { udp_rx = counts }) t (record { side = refl; local_id = refl; remote_length = refl; config = refl }) refl (λ failed. failed) p

  datagram_failed : (c new : Inner S) (t : List Act) (datagram : List ℕ) → IsFailedBy c new → Following c t → Following new (t ++ HandedIn datagram ∷ [])
  datagram_failed c new t datagram f p = carried_on c new (t ++ HandedIn datagram ∷ []) p.space (failed_end c new f) (inl (ap (λ (c : Inner S). c.error) f.rest_is)) (arrived c t datagram p)

  module _ {A : Type 0} (accepts : Side → Space → ℕ → List ℕ → Bool) (now : Moment) (datagram : List ℕ) (old new : Inner S) (counts : UdpStats) where
    following : (answer : Result A OutOfMemory) → OnOk answer (IsDatagramTaken accepts now datagram (record old { udp_rx = counts }) new)
        → OnErr answer (IsFailedBy (record old { udp_rx = counts }) new) → (is_open old.state ≡ true → HasWhatOpens accepts (record old { udp_rx = counts }) datagram) → IsConnection old
        → (t : List Act) → Following old t → Following new (t ++ HandedIn datagram ∷ [])
    following (Ok x) ok err has c t p = datagram_follows accepts now datagram (record old { udp_rx = counts }) new t ok c.not_lost has (counts_follow old counts t p)
    following (Err e) ok err has c t p = datagram_failed (record old { udp_rx = counts }) new t datagram err (counts_follow old counts t p)

    pub handled_datagram_follows : (answer : Result A OutOfMemory) → OnOk answer (IsDatagramTaken accepts now datagram (record old { udp_rx = counts }) new)
        → OnErr answer (IsFailedBy (record old { udp_rx = counts }) new) → (is_open old.state ≡ true → HasWhatOpens accepts (record old { udp_rx = counts }) datagram) → IsConnection old
        → (t : List Act) → Follows old t → Follows new (t ++ HandedIn datagram ∷ [])
    unfolding Follows
    handled_datagram_follows answer ok err has c t p = following answer ok err has c t p

  -- the application closed
  pub close_event_follows : (event : ConnectionEvent) (old new : Inner S) (now : Moment) (code : ℕ) (reason : List ℕ) → event ≡ Close now code reason
      → (is_open old.state ≡ true → IsClosedWith now (Application (record { error_code = code; reason = reason })) error.LocallyClosed old new) → (is_open old.state ≡ false → new ≡ old)
      → IsConnection old → (t : List Act) → Follows old t → Follows new (t ++ event_acts event)
  close_event_follows event old new now code reason event_is closed kept c t f =
      rw event_is (behind_none (λ t. Follows new t) t (close_follows old new now (Application (record { error_code = code; reason = reason })) error.LocallyClosed t closed kept c f))
