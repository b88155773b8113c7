-- What a log keeps of the frames that come: each item is one small change of what an application may read, write or open.
use Rattle.std.specs.Prelude.{◌≡◌, ℕ, ◌+◌, ◌≤◌, ◌^◌, min, Bool, ◌&&◌, not, List, [], ◌∷◌, ◌++◌, length, Option, Some, None, IfSome, is_some, Vec, vec_len, vec_capacity, if◌then◌else◌}
use Rattle.std.specs.Option.{option_map}
use Rattle.std.specs.declared.alloc.Global.{Global}
use Rattle.qh_base.specs.declared.stream_id.StreamId.{StreamId}
use Rattle.qh_half.specs.Send.{PlainSend}
use Rattle.qh_halves.specs.SendHalves.{send_at, half_end_acked}
use Rattle.qh_buffers.specs.SendBuffer.{taken_to}
use Rattle.qh_spec.specs.declared.sides.Dir.TheVariants.{Bi, Uni}
use Rattle.qh_streams.specs.Streams.{PlainStreams, was_opened, first_limit, IsAckedFrame}
use Rattle.qh_streams.specs.declared.frames.PeerLimits.{PeerLimits}
use Rattle.qh_streams.specs.declared.frames.SentFrame.{SentFrame}
use Rattle.qh_streams.specs.declared.frames.SentFrame.TheVariants as sent
use Rattle.qh_streams.specs.declared.frames.StreamFrame.{StreamFrame}
use Rattle.qh_streams.specs.declared.frames.StreamFrame.TheVariants as coming
use Rattle.qh_streams.specs.declared.items.Item.{Item}
use Rattle.qh_streams.specs.declared.items.Item.TheVariants as item

-- ---- a log: none if it is off

-- these items come behind the others, if it is on
abbrev pub logged : Option (List Item) → List Item → Option (List Item)
logged None more = None
logged (Some items) more = Some (items ++ more)

abbrev pub length_of : Option (List Item) → ℕ
length_of None = 0
length_of (Some items) = length items

-- ---- what frames bring

-- a stream that wasn't opened, with the peer's first limit on it
abbrev pub arrival : PlainStreams → StreamId → List Item
arrival s id = if was_opened s id.0 then [] else item.Arrived id (first_limit s id.0) ∷ []

abbrev pub end_items : (fin : Bool) → StreamId → (size : ℕ) → List Item
end_items fin id size = if fin then item.End id size ∷ [] else []

-- a frame that is taken (RFC 9000, sections 19.4, 19.5 and 19.8 to 19.11)
abbrev pub items_of : PlainStreams → StreamFrame → List Item
items_of s (coming.Stream id offset payload fin) = arrival s id ++ (item.Run id offset payload ∷ end_items fin id (offset + length payload))
items_of s (coming.Reset id code size) = arrival s id ++ (item.Reset id code size ∷ [])
items_of s (coming.Stop id code) = arrival s id ++ (item.Stop id code ∷ [])
items_of s (coming.MaxData limit) = item.Credit limit ∷ []
items_of s (coming.MaxStreamData id limit) = arrival s id ++ (item.StreamCredit id limit ∷ [])
items_of s (coming.MaxStreams dir count) = item.Count dir count ∷ []

-- the peer's first limits; a count of streams is at most 2^60 (RFC 9000, section 4.6)
abbrev pub first_items : PeerLimits → List Item
first_items peer =
    item.FirstCredits peer.bidi_remote peer.uni ∷ item.Credit peer.max_data ∷ item.Count Bi (min peer.max_bidi (2 ^ 60)) ∷ item.Count Uni (min peer.max_uni (2 ^ 60)) ∷ []

-- ---- what acknowledgements confirm

-- all bytes before this offset are acknowledged: all that were taken, if the half is done by it
abbrev pub confirmed_to : (before : PlainSend) → (after : Option PlainSend) → ℕ
confirmed_to before None = taken_to before.buffer
confirmed_to before (Some half) = half.buffer.start

-- what a half says that was there before and is so afterwards; nothing of one that was done before
abbrev pub confirmed_of : StreamId → (before after : Option PlainSend) → List Item
confirmed_of id None after = []
confirmed_of id (Some half) after = item.Confirmed id (confirmed_to half after) (half_end_acked after) ∷ []

-- A frame was acknowledged. The reset of a half is confirmed if the half is done by it.
abbrev pub confirmed_items : (old new : PlainStreams) → SentFrame → List Item
confirmed_items old new (sent.Stream id piece) = confirmed_of id (send_at old.send id.0) (send_at new.send id.0)
confirmed_items old new (sent.ResetStream id reset_frame) = if is_some (send_at old.send id.0) && not (is_some (send_at new.send id.0)) then item.ResetConfirmed id ∷ [] else []
confirmed_items old new other = []

-- these frames were acknowledged one after another, and this was confirmed by them
pub data AreConfirmed : (old new : PlainStreams) → List SentFrame → List Item → Type 0 where
  none : (s : PlainStreams) → AreConfirmed s s [] []
  more : (old mid new : PlainStreams) (fs : List SentFrame) (items : List Item) (f : SentFrame) → AreConfirmed old mid fs items → IsAckedFrame mid new f
      → AreConfirmed old new (fs ++ f ∷ []) (items ++ confirmed_items mid new f)

-- ---- a log that is lent out with room

abbrev pub Items : Type 0
Items = Vec Item Global

abbrev pub kept_in : Option (Items) → Option (List Item)
kept_in items = option_map (λ v. v.items) items

-- `count` more items can be kept without memory
abbrev pub HasRoom : Option (Items) → ℕ → Type 0
HasRoom items count = IfSome items (λ v. vec_len v + count ≤ vec_capacity v)

abbrev pub Logs : (old new : Option (Items)) → List Item → Type 0
Logs old new items = kept_in new ≡ logged (kept_in old) items
