-- What is owed still is after calls of writers.
use Rattle.std.proofs.Common.{◌≡◌, ℕ, ap, inl, inr}
use Rattle.std.proofs.lemmas.Bool.{cases_lt}
use Rattle.qh_recovery.specs.SentPackets.{NoneIs, IsFrom, IsNext}
use Rattle.qh_streams.specs.Streams.{PlainStreams, KeepsOut, IsOpened, counts_of, is_two_way}
use Rattle.qh_streams.specs.Tracked.{IsSendingStep, SameCounts}
use Rattle.qh_streams.proofs.StreamsTracked.{keeps_tracked}
use Rattle.qh_streams.proofs.StreamsTrackedCalls.{sending_keeps, opened_keeps}
use Rattle.qh_loss.specs.Owed.{AreOwed, frames_out}
use Rattle.qh_loss.proofs.FramesOut.{Packets, all_out_kept}

same_counts : (old new : PlainStreams) → new ≡ record old { send = new.send } → SameCounts old new
same_counts old new e = λ dir. ap (λ (s : PlainStreams). (counts_of s (is_two_way dir)).announced) e

pub sending_owed : (old new : PlainStreams) (id : ℕ) (es : Packets) → IsSendingStep old.send new.send id → new ≡ record old { send = new.send } → KeepsOut old new → AreOwed old es → AreOwed new es
sending_owed old new id es step e keeps owed = record {
  tracked = keeps_tracked (sending_keeps old new id step (ap (λ (s : PlainStreams). s.recv) e) (same_counts old new e)) owed.tracked;
  out = all_out_kept old new (frames_out es) keeps owed.out;
}

pub opened_owed : (old new : PlainStreams) (id : ℕ) (es : Packets) → IsOpened old new id → KeepsOut old new → AreOwed old es → AreOwed new es
opened_owed old new id es opened keeps owed = record {
  tracked = keeps_tracked (opened_keeps old new id opened) owed.tracked;
  out = all_out_kept old new (frames_out es) keeps owed.out;
}

pub below_next : (es : Packets) (number : ℕ) → NoneIs (IsFrom number) es → IsNext number es
below_next es number none = λ k q there. elim (cases_lt k number) [ inl less ↦ less | inr from ↦ absurd (none k q there from) ]
