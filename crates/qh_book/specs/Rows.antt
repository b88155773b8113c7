-- Short histories, for laws.
use Rattle.std.specs.Prelude.{true, false, List, [], ◌∷◌, Some, None}
use Rattle.qh_base.specs.declared.connection_error.ConnectionError.TheVariants.{LocallyClosed, Memory}
use Rattle.qh_base.specs.declared.path.FourTuple.{FourTuple}
use Rattle.qh_base.specs.declared.stream_id.StreamId.{StreamId}
use Rattle.qh_base.specs.declared.time.Moment.{Moment}
use Rattle.qh_book.specs.Book.{Book, first_book}
use Rattle.qh_book.specs.History.{PlainEntry}
use Rattle.qh_book.specs.declared.call.Call.{Call}
use Rattle.qh_book.specs.declared.call.Call.TheVariants as call
use Rattle.qh_book.specs.declared.item.Item.{Item}
use Rattle.qh_book.specs.declared.item.Item.TheVariants as item
use Rattle.qh_book.specs.declared.reply.Reply.{Reply}
use Rattle.qh_book.specs.declared.reply.Reply.TheVariants as reply
use Rattle.qh_spec.specs.declared.sides.Dir.TheVariants.{Bi}
use Rattle.qh_spec.specs.declared.sides.Side.TheVariants.{Client}

abbrev pub row_id : StreamId
row_id = record { 0 = 0 }

abbrev pub row_moment : Moment
row_moment = record { 0 = 0 }

-- a client that may have 100 bytes unconfirmed
abbrev pub row_book : FourTuple → Book
row_book addresses = first_book Client addresses 7 100 (Some 50) 10

abbrev pub called : {T : Type 0} → Call → Reply T → PlainEntry T
called c r = record { call = c; reply = r; items = [] }

abbrev pub turned : {T : Type 0} → List Item → PlainEntry T
turned items = record { call = call.Drive row_moment; reply = reply.Pending; items = items }

-- It waits until it is connected, opens the one stream that the peer permits, and writes as many bytes as that permits on it.
abbrev pub row_opens : {T : Type 0} → List (PlainEntry T)
row_opens = called call.Connecting reply.Pending ∷ turned (item.Connected ∷ item.FirstCredits 4 0 ∷ item.Credit 6 ∷ item.Count Bi 1 ∷ []) ∷ called call.Connecting reply.Done
    ∷ called (call.Open Bi) (reply.Opened row_id) ∷ called (call.Open Bi) reply.Pending ∷ called (call.Write row_id (1 ∷ 2 ∷ 3 ∷ 4 ∷ 5 ∷ [])) (reply.Count 4) ∷ called (call.Write row_id (5 ∷ [])) reply.Pending ∷ []

-- The peer permits more, and sends bytes and their end. Then the handles end one after another.
abbrev pub row_reads : {T : Type 0} → List (PlainEntry T)
row_reads = turned (item.StreamCredit row_id 9 ∷ item.Confirmed row_id 3 false ∷ item.Run row_id 0 (7 ∷ 8 ∷ 9 ∷ []) ∷ item.End row_id 3 ∷ []) ∷ called (call.Write row_id (5 ∷ 6 ∷ 7 ∷ [])) (reply.Count 2)
    ∷ called (call.Read row_id 2 true) (reply.Bytes 0 (7 ∷ 8 ∷ [])) ∷ called (call.Read row_id 2 true) (reply.Bytes 2 (9 ∷ [])) ∷ called (call.Read row_id 2 true) reply.Ended ∷ called (call.Read row_id 2 true) reply.Ended
    ∷ called (call.ReceivedReset row_id) (reply.Code None) ∷ called (call.Stop row_id 0) reply.ClosedStream ∷ called (call.EndSend row_id) reply.Done ∷ called (call.EndRecv row_id) reply.Done
    ∷ called call.CloseReason reply.Done ∷ called call.EndHandle reply.Done ∷ called call.CloseReason (reply.ConnectionLost LocallyClosed) ∷ []

-- The peer resets the stream, which is stopped then. The code is told, before a loss for want of memory and then.
abbrev pub row_resets : {T : Type 0} → List (PlainEntry T)
row_resets = turned (item.Connected ∷ item.FirstCredits 4 0 ∷ item.Credit 6 ∷ item.Count Bi 1 ∷ []) ∷ called (call.Open Bi) (reply.Opened row_id) ∷ turned (item.Run row_id 0 (7 ∷ []) ∷ item.Reset row_id 5 1 ∷ []) ∷ called (call.Stop row_id 0) reply.Done
    ∷ called (call.ReceivedReset row_id) (reply.Code (Some 5)) ∷ turned (item.Lost Memory ∷ []) ∷ called (call.ReceivedReset row_id) (reply.Code (Some 5)) ∷ called (call.Read row_id 2 true) reply.Ended ∷ []

-- A stream that no handle holds is read, before the connection is lost and then.
abbrev pub row_unknown : {T : Type 0} → List (PlainEntry T)
row_unknown = called (call.Read row_id 2 true) reply.ClosedStream ∷ called (call.Read row_id 0 true) reply.ClosedStream ∷ turned (item.Lost Memory ∷ []) ∷ called (call.Read row_id 2 true) reply.ClosedStream ∷ called (call.Read row_id 0 true) reply.ClosedStream ∷ []
