-- What the moments do that are due: the connection stands to all that was done as before.
use Rattle.std.proofs.Common.{◌≡◌, ℕ, List, length, Option, Some, refl, sym, ap, subst, ◌∙◌, inl, inr}
use Rattle.qh_base.specs.declared.connection_error.ConnectionError.{ConnectionError}
use Rattle.qh_base.specs.declared.connection_error.ConnectionError.TheVariants.{Memory}
use Rattle.qh_core.proofs.Followed.{FollowsOf, carried_on, same_end, space_follows, stepped, unchanged}
use Rattle.qh_core.specs.Follows.{Following, Follows}
use Rattle.qh_core.specs.Inner.{IsConnection, IsSameEnd}
use Rattle.qh_core.specs.Timers.{AreLostByAge, IsProbed, IsTimedOut}
use Rattle.qh_core.specs.Timers.AreLostByAge.{due as age_due, not_yet as age_not_yet}
use Rattle.qh_core.specs.Timers.IsProbed.{due as probe_due, not_yet as probe_not_yet}
use Rattle.qh_core.specs.Timers.IsTimedOut.{idle, recovery, closed, draining, waits, drained}
use Rattle.qh_core.specs.declared.config.ConnConfig.{ConnConfig}
use Rattle.qh_core.specs.declared.inner.Inner.{Inner}
use Rattle.qh_history.proofs.Arrivals as arrival
use Rattle.qh_history.proofs.SameEnd as same
use Rattle.qh_history.proofs.WithinLimits as within
use Rattle.qh_loss.specs.declared.probe.Probe.{Probe}
use Rattle.qh_loss.specs.declared.probe.Probe.TheVariants as probe
use Rattle.qh_space.specs.Receiving.{IsLossTaken}
use Rattle.qh_space.specs.Timers.{IsProbeDue, pings_after}
use Rattle.qh_space.specs.declared.data_space.DataSpace.{DataSpace}
use Rattle.qh_spec.specs.Transcript.{Act}
use Rattle.qh_spec.specs.declared.sides.Side.{Side}
use Rattle.qh_transcript.proofs.ReceivingLists.{none_some}

-- ---- what is lost, and a probe

module _ (side : Side) (own peer : ℕ) (config : ConnConfig) where
  lost_follows : (largest now : ℕ) (old new : DataSpace) (t : List Act) → IsLossTaken largest now old new → FollowsOf side own peer config old t → FollowsOf side own peer config new t
  lost_follows largest now old new t lost = stepped side own peer config old new t (same.lost largest now old new lost) (ap (λ (s : DataSpace). s.dedup) lost.rest_is) (ap (λ (s : DataSpace). s.datagram_receive) lost.rest_is)
      (λ sent came. arrival.lost_stands largest now old new sent came t lost) (λ given. within.lost largest now old new given t lost)

  pinged : (p : Probe) (s : DataSpace) → (pings_after p s).dedup ≡ s.dedup
  pinged probe.Ping s = refl
  pinged probe.Stream s = refl
  pinged probe.Others s = refl

  pinged_datagrams : (p : Probe) (s : DataSpace) → (pings_after p s).datagram_receive ≡ s.datagram_receive
  pinged_datagrams probe.Ping s = refl
  pinged_datagrams probe.Stream s = refl
  pinged_datagrams probe.Others s = refl

  probe_follows : (old new : DataSpace) (t : List Act) → IsProbeDue old new → FollowsOf side own peer config old t → FollowsOf side own peer config new t
  probe_follows old new t due = stepped side own peer config old new t (same.probe old new due) (ap (λ (s : DataSpace). s.dedup) due.rest_is ∙ pinged due.probe _)
      (ap (λ (s : DataSpace). s.datagram_receive) due.rest_is ∙ pinged_datagrams due.probe _)
      (λ sent came. arrival.probe_stands old new sent came t due) (λ given. within.probe old new given t due)

  aged : (now : ℕ) (old new : DataSpace) (t : List Act) → AreLostByAge now old new → FollowsOf side own peer config old t → FollowsOf side own peer config new t
  aged now old new t (age_due moment largest is by_now acked lost) p = lost_follows largest now old new t lost p
  aged now old new t (age_not_yet none e) p = subst (λ (s : DataSpace). FollowsOf side own peer config s t) (sym e) p

  probed : (now : ℕ) (old new : DataSpace) (t : List Act) → IsProbed now old new → FollowsOf side own peer config old t → FollowsOf side own peer config new t
  probed now old new t (probe_due moment is by_now due) p = probe_follows old new t due p
  probed now old new t (probe_not_yet none e) p = subst (λ (s : DataSpace). FollowsOf side own peer config s t) (sym e) p

failed_as : (c d : Option ConnectionError) → d ≡ c → c ≡ Some Memory → d ≡ Some Memory
failed_as c d e failed = e ∙ failed

module _ {S : Type 0} where
  pub timed_out_end : (now : ℕ) (old new : Inner S) → IsTimedOut now old new → IsSameEnd old new
  timed_out_end now old new (idle up due e) = rw e (same_end refl refl refl refl)
  timed_out_end now old new (recovery mid up not_due aged probed e) = rw e (same_end refl refl refl refl)
  timed_out_end now old new (closed reason is_due until is by_now e) = rw e (same_end refl refl refl refl)
  timed_out_end now old new (draining until is by_now e) = rw e (same_end refl refl refl refl)
  timed_out_end now old new (waits moment is before e) = rw e (same_end refl refl refl refl)
  timed_out_end now old new (drained is e) = rw e (same_end refl refl refl refl)

  timed_out_following : (now : ℕ) (old new : Inner S) (t : List Act) → IsTimedOut now old new → IsConnection old → Following old t → Following new t
  timed_out_following now old new t (idle up due e) c p = unchanged old new t (timed_out_end now old new (idle up due e)) (ap (λ (c : Inner S). c.space) e) (none_some _ old.error Memory (c.not_lost up)) p
  timed_out_following now old new t (recovery mid up not_due lost queued e) c p =
      let is : old.space ≡ p.space = elim p.is_space [ inl failed ↦ none_some _ old.error Memory (c.not_lost up) failed | inr same ↦ same ] in
      let before = subst (λ (s : DataSpace). FollowsOf old.side (length old.local_id) (length old.remote_id) old.config s t) (sym is) (space_follows old t p) in
      carried_on old new t new.space (timed_out_end now old new (recovery mid up not_due lost queued e)) (inr refl)
      (probed old.side (length old.local_id) (length old.remote_id) old.config now mid new.space t queued (aged old.side (length old.local_id) (length old.remote_id) old.config now old.space mid t lost before))
  timed_out_following now old new t (closed reason is_due until is by_now e) c p = unchanged old new t (timed_out_end now old new (closed reason is_due until is by_now e)) (ap (λ (c : Inner S). c.space) e) (failed_as old.error new.error (ap (λ (c : Inner S). c.error) e)) p
  timed_out_following now old new t (draining until is by_now e) c p = unchanged old new t (timed_out_end now old new (draining until is by_now e)) (ap (λ (c : Inner S). c.space) e) (failed_as old.error new.error (ap (λ (c : Inner S). c.error) e)) p
  timed_out_following now old new t (waits moment is before e) c p = subst (λ (c : Inner S). Following c t) (sym e) p
  timed_out_following now old new t (drained is e) c p = subst (λ (c : Inner S). Following c t) (sym e) p

  pub timed_out_follows : (now : ℕ) (old new : Inner S) (t : List Act) → IsTimedOut now old new → IsConnection old → Follows old t → Follows new t
  unfolding Follows
  timed_out_follows now old new t timed_out c p = timed_out_following now old new t timed_out c p
