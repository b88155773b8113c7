-- The space once the program did something with its streams.
use Rattle.std.proofs.Common.{◌≡◌, List, ap}
use Rattle.qh_loss.specs.Owed.{frames_out}
use Rattle.qh_loss.proofs.FramesOut.{all_out_kept}
use Rattle.qh_space.specs.Space.{IsSpace}
use Rattle.qh_space.specs.declared.data_space.DataSpace.{DataSpace}
use Rattle.qh_streams.specs.Streams.{PlainStreams, KeepsOut, counts_of, is_two_way}
use Rattle.qh_streams.specs.Tracked.{AreTracked, SameCounts}
use Rattle.qh_streams.specs.declared.frames.SentFrame.{SentFrame}

pub stepped : (s : DataSpace) (new : PlainStreams) → IsSpace s → ((frames : List SentFrame) → AreTracked s.streams frames → AreTracked new frames) → KeepsOut s.streams new
    → IsSpace (record s { streams = new })
stepped s new space tracked keeps = record {
  owed = record {
    tracked = tracked (frames_out s.sent) space.owed.tracked;
    out = all_out_kept s.streams new (frames_out s.sent) keeps space.owed.out;
  };
  next = space.next;
  bound = space.bound;
  acked = space.acked;
  in_order = space.in_order;
  due = space.due;
}

-- a step of the sending halves
pub same_recv : (old new : PlainStreams) → new ≡ record old { send = new.send } → new.recv ≡ old.recv
same_recv old new is = ap (λ (s : PlainStreams). s.recv) is

pub same_counts : (old new : PlainStreams) → new ≡ record old { send = new.send } → SameCounts old new
same_counts old new is = λ dir. ap (λ (s : PlainStreams). (counts_of s (is_two_way dir)).announced) is
