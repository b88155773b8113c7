-- Before the first datagram.
use Rattle.std.proofs.Common.{◌≡◌, ℕ, ◌≤◌, ◌^◌, Bool, true, List, [], is_some, ap, subst, inl, inr}
use Rattle.qh_buffers.specs.Ranges.{has}
use Rattle.qh_conduct.specs.Announced.{AreLive, HasAnnounced}
use Rattle.qh_core.specs.Inner.{HasNoHalf, IsFailedBy, IsNewSpace}
use Rattle.qh_core.specs.declared.inner.Inner.{Inner}
use Rattle.qh_half.specs.Recv.{PlainRecv}
use Rattle.qh_half.specs.Send.{PlainSend}
use Rattle.qh_halves.specs.RecvHalves.{recv_half_in}
use Rattle.qh_halves.specs.SendHalves.{half_in}
use Rattle.qh_recovery.specs.PendingAcks.{PlainPendingAcks}
use Rattle.qh_spec.specs.Transcript.{Act}
use Rattle.qh_streams.specs.Streams.{PlainStreams, counts_of}

no_half_live : (s : PlainStreams) → HasNoHalf s → ((two_way : Bool) → (counts_of s two_way).announced.value ≤ 2 ^ 60) → AreLive s
no_half_live s none counts = record {
  send = λ id there. let nothing : is_some (half_in [] id) ≡ true = subst (λ (l : List (ℕ × PlainSend)). is_some (half_in l id) ≡ true) none.send there in absurd (cc);
  recv = λ id there. let nothing : is_some (recv_half_in [] id) ≡ true = subst (λ (l : List (ℕ × PlainRecv)). is_some (recv_half_in l id) ≡ true) none.recv there in absurd (cc);
  counts = counts;
}

pub first_announced : {S : Type 0} (c : Inner S) → IsNewSpace c.config c.side c.space → ((two_way : Bool) → (counts_of c.space.streams two_way).announced.value ≤ 2 ^ 60) → HasAnnounced c []
unfolding HasAnnounced
first_announced c new counts = inr (record {
  live = no_half_live c.space.streams new.no_half counts;
  acks = λ n there. let nothing : has [] n ≡ true = subst (λ (a : PlainPendingAcks). has a.ranges n ≡ true) new.acks there in absurd (cc);
  sent = λ datagram among. absurd among;
})

-- want of memory ended it
pub failed_announced : {S : Type 0} (old new : Inner S) (t : List Act) → IsFailedBy old new → HasAnnounced new t
unfolding HasAnnounced
failed_announced old new t failed = inl (ap (λ (c : Inner _). c.error) failed.rest_is, ap (λ (c : Inner _). c.state) failed.rest_is)
