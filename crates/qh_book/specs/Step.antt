-- The step of a book by an entry of the history: a call with its reply, and what a turn of the driver brought.
use Rattle.std.specs.Prelude.{◌≡◌, MatchBool, true, List, [], Some, None, is_some}
use Rattle.qh_base.specs.declared.connection_error.ConnectionError.TheVariants as error
use Rattle.qh_base.specs.declared.transport_error.TransportError.{TransportError}
use Rattle.qh_book.specs.Book.{Book}
use Rattle.qh_book.specs.Closing.{ClonesHandle, Closes, EndsHandle, IsLost, TellsCloseReason}
use Rattle.qh_book.specs.Datagrams.{ReadsDatagram, SendsDatagram}
use Rattle.qh_book.specs.Interests.{registered, settled}
use Rattle.qh_book.specs.Items.{bring_all}
use Rattle.qh_book.specs.Opening.{Accepts, Connects, Opens, TellsHandshake}
use Rattle.qh_book.specs.Receiving.{EndsRecv, Reads, Stops, TellsReset}
use Rattle.qh_book.specs.Sending.{EndsSend, Finishes, Resets, SetsPriority, TellsPriority, TellsStop, Writes}
use Rattle.qh_book.specs.Values.{Gets, Sets}
use Rattle.qh_book.specs.declared.call.Call.{Call}
use Rattle.qh_book.specs.declared.call.Call.TheVariants as call
use Rattle.qh_book.specs.declared.item.Item.{Item}
use Rattle.qh_book.specs.declared.reply.Reply.{Reply}
use Rattle.qh_book.specs.declared.reply.Reply.TheVariants as reply
use Rattle.qh_spec.specs.Codes as codes

-- The book allows the reply to the call, and is this one then, but for the interest of a call that waits. A receiving half that no handle holds is
-- closed, and stays as it is.
abbrev pub Allows : {T : Type 0} → Book → Call → Reply T → Book → Type 0
Allows b call.Connecting r c = Connects b r c
Allows b call.HandshakeData r c = TellsHandshake b r c
Allows b (call.Open dir) r c = Opens b dir r c
Allows b (call.Accept dir) r c = Accepts b dir r c
Allows b (call.Read id max_length is_ordered) r c = MatchBool (b.readers id.0) (Reads b id max_length is_ordered r c) ((r ≡ reply.ClosedStream) × (c ≡ b))
Allows b (call.Write id payload) r c = Writes b id payload r c
Allows b (call.Finish id) r c = Finishes b id r c
Allows b (call.Reset id code) r c = Resets b id code r c
Allows b (call.Stop id code) r c = MatchBool (b.readers id.0) (Stops b id r c) ((r ≡ reply.ClosedStream) × (c ≡ b))
Allows b (call.Stopped id) r c = TellsStop b id r c
Allows b (call.ReceivedReset id) r c = MatchBool (b.readers id.0) (TellsReset b id r c) ((r ≡ reply.Code None) × (c ≡ b))
Allows b (call.SetPriority id priority) r c = SetsPriority b id priority r c
Allows b (call.Priority id) r c = TellsPriority b id r c
Allows b call.ReadDatagram r c = ReadsDatagram b r c
Allows b (call.SendDatagram payload wait) r c = SendsDatagram b payload wait r c
Allows b call.CloseReason r c = TellsCloseReason b r c
Allows b call.Closed r c = IsLost b r c
Allows b (call.Close now code reason) r c = Closes b r c
Allows b (call.EndSend id) r c = EndsSend b id r c
Allows b (call.EndRecv id) r c = MatchBool (b.readers id.0) (EndsRecv b id r c) ((r ≡ reply.Done) × (c ≡ b))
Allows b call.CloneHandle r c = ClonesHandle b r c
Allows b call.EndHandle r c = EndsHandle b r c
Allows b (call.Get getter) r c = Gets b getter r c
Allows b (call.Set setting) r c = Sets b setting r c
Allows b (call.Drive now) r c = ⊥

-- the step of a call that is none of the driver's; Pending registers the interest
pub record Steps {T : Type 0} (b : Book) (c : Call) (r : Reply T) (after : Book) : Type 0 where
  pub made : Book
  pub allows : Allows b c r made
  pub is_after : after ≡ registered c r made

-- the items of a turn are brought in their order, and then the interests go that have another reply than Pending
abbrev pub driven : List Item → Book → Book
driven items b = settled (bring_all items b)

-- The driver is done once the connection is drained, and so lost. After a fault of the socket the kept error is a transport error with
-- INTERNAL_ERROR.
abbrev pub Drives : {T : Type 0} → Book → List Item → Reply T → Book → Type 0
Drives b items reply.Pending c = c ≡ driven items b
Drives b items reply.Done c = (is_some c.error ≡ true) × (c ≡ driven items b)
Drives b items reply.Failed c = (e : TransportError) × (c.error ≡ Some (error.TransportError e)) × (e.code.0 ≡ codes.internal_error) × (c ≡ driven items b)
Drives b items reply.Memory c = c ≡ driven items b
Drives b items r c = ⊥

-- the step of any call, with the items that it brought
abbrev pub StepsWith : {T : Type 0} → Book → Call → Reply T → List Item → Book → Type 0
StepsWith b (call.Drive now) r items c = Drives b items r c
StepsWith b other r items c = (items ≡ []) × Steps b other r c
