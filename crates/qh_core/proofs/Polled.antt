-- The connection once it told what happened to its streams.
use Rattle.std.proofs.Common.{◌≡◌, Bool, Option, sym, ap, ◌∙◌, subst}
use Rattle.qh_core.specs.Inner.{IsConnection, with_streams}
use Rattle.qh_core.specs.declared.inner.Inner.{Inner}
use Rattle.qh_space.proofs.StreamsStepped.{stepped}
use Rattle.qh_space.specs.Space.{IsSpace}
use Rattle.qh_space.specs.declared.data_space.DataSpace.{DataSpace}
use Rattle.qh_streams.specs.Streams.{PlainStreams, IsPolled, KeepsOut}
use Rattle.qh_streams.specs.Streams.IsPolled.{writable, queued, none}
use Rattle.qh_streams.specs.Tracked.{AreTracked}
use Rattle.qh_streams.specs.declared.frames.StreamEvent.{StreamEvent}

-- what is told of streams leaves all but what waits to be told
pub told_apart : (old new : PlainStreams) (e : Option StreamEvent) → IsPolled old new e → new ≡ record old { blocked = new.blocked; events = new.events }
told_apart old new e (writable id front rest may blocked before can new_is) = new_is ∙ sym (ap (λ (s : PlainStreams). record old { blocked = s.blocked; events = s.events }) new_is)
told_apart old new e (queued first rest nothing there new_is) = new_is ∙ sym (ap (λ (s : PlainStreams). record old { blocked = s.blocked; events = s.events }) new_is)
told_apart old new e (none nothing there new_is) = new_is ∙ sym (ap (λ (s : PlainStreams). record old { blocked = s.blocked; events = s.events }) new_is)

polled_space : (s : DataSpace) (new : PlainStreams) (e : Option StreamEvent) → IsSpace s → IsPolled s.streams new e → KeepsOut s.streams new → IsSpace (record s { streams = new })
polled_space s new e space polled keeps = stepped s new space (λ frames t. subst (λ (z : PlainStreams). AreTracked z frames) (sym (told_apart s.streams new e polled)) (record {
  bytes = t.bytes;
  ends = t.ends;
  resets = t.resets;
  stops = t.stops;
  stream_limits = t.stream_limits;
  data_limit = t.data_limit;
  counts = t.counts;
})) keeps

module _ {S : Type 0} where
  pub polled : (c : Inner S) (new : PlainStreams) (e : Option StreamEvent) (is_lost_told : Bool) → IsConnection c → IsPolled c.space.streams new e → KeepsOut c.space.streams new
      → IsConnection (record (with_streams c new) { is_lost_told = is_lost_told })
  polled c new e told whole is_polled keeps =
      let apart = told_apart c.space.streams new e is_polled in
      record {
        space = polled_space c.space new e whole.space is_polled keeps;
        of = record { side_is = ap (λ (s : PlainStreams). s.side) apart ∙ whole.of.side_is; peer_is = ap (λ (s : PlainStreams). s.peer) apart ∙ whole.of.peer_is; said = whole.of.said };
        not_lost = whole.not_lost;
        lost = whole.lost;
        drained = whole.drained;
        no_half = λ wanting.
            let no_half = whole.no_half wanting in
            record { send = ap (λ (s : PlainStreams). s.send.halves) apart ∙ no_half.send; recv = ap (λ (s : PlainStreams). s.recv.halves) apart ∙ no_half.recv };
      }
