-- Which forms of reply a call may have, whatever the book. `Is` says which values may be told to a call.
use Rattle.std.specs.Prelude.{◌≡◌, ◌⊎◌, ℕ, ◌<◌, ◌≤◌, Bool, true, List, [], length}
use Rattle.qh_book.specs.declared.call.Call.{Call}
use Rattle.qh_book.specs.declared.call.Call.TheVariants as call
use Rattle.qh_book.specs.declared.call.Getter.{Getter}
use Rattle.qh_book.specs.declared.call.Getter.TheVariants as getter
use Rattle.qh_book.specs.declared.reply.Reply.{Reply}
use Rattle.qh_book.specs.declared.reply.Reply.TheVariants as reply

abbrev pub MayConnect : {T : Type 0} → Reply T → Type 0
MayConnect reply.Done = Unit {0}
MayConnect (reply.ConnectionLost e) = Unit {0}
MayConnect reply.Pending = Unit {0}
MayConnect r = ⊥

abbrev pub MayTell : {T : Type 0} → (Is : Call → T → Type 0) → Reply T → Type 0
MayTell Is (reply.Told value) = Is call.HandshakeData value
MayTell Is (reply.ConnectionLost e) = Unit {0}
MayTell Is reply.Pending = Unit {0}
MayTell Is r = ⊥

abbrev pub MayOpen : {T : Type 0} → Reply T → Type 0
MayOpen (reply.Opened id) = Unit {0}
MayOpen (reply.ConnectionLost e) = Unit {0}
MayOpen reply.Pending = Unit {0}
MayOpen r = ⊥

-- One of no bytes gives none, and every other one some, or a reason why not. A half that no handle holds is closed to both.
abbrev pub MayRead : {T : Type 0} → (max_length : ℕ) → Reply T → Type 0
MayRead max_length (reply.Bytes offset bytes) = (length bytes ≤ max_length) × ((max_length ≡ 0) ⊎ (0 < length bytes))
MayRead max_length reply.Ended = 0 < max_length
MayRead max_length (reply.Reset code) = 0 < max_length
MayRead max_length reply.IllegalOrderedRead = 0 < max_length
MayRead max_length reply.ClosedStream = Unit {0}
MayRead max_length (reply.ConnectionLost e) = 0 < max_length
MayRead max_length reply.Pending = 0 < max_length
MayRead max_length r = ⊥

-- of some bytes at least one is written
abbrev pub MayWrite : {T : Type 0} → List ℕ → Reply T → Type 0
MayWrite payload (reply.Count n) = (n ≤ length payload) × ((payload ≡ []) ⊎ (0 < n))
MayWrite payload (reply.Stopped code) = Unit {0}
MayWrite payload reply.ClosedStream = Unit {0}
MayWrite payload (reply.ConnectionLost e) = Unit {0}
MayWrite payload reply.Pending = Unit {0}
MayWrite payload r = ⊥

abbrev pub MayClose : {T : Type 0} → Reply T → Type 0
MayClose reply.Done = Unit {0}
MayClose reply.ClosedStream = Unit {0}
MayClose r = ⊥

abbrev pub MayTellCode : {T : Type 0} → Reply T → Type 0
MayTellCode (reply.Code code) = Unit {0}
MayTellCode (reply.ConnectionLost e) = Unit {0}
MayTellCode reply.Pending = Unit {0}
MayTellCode r = ⊥

abbrev pub MayTellPriority : {T : Type 0} → Reply T → Type 0
MayTellPriority (reply.Priority priority) = Unit {0}
MayTellPriority reply.ClosedStream = Unit {0}
MayTellPriority r = ⊥

abbrev pub MayReadDatagram : {T : Type 0} → Reply T → Type 0
MayReadDatagram (reply.Datagram payload) = Unit {0}
MayReadDatagram (reply.ConnectionLost e) = Unit {0}
MayReadDatagram reply.Pending = Unit {0}
MayReadDatagram r = ⊥

-- one that doesn't wait has no Pending
abbrev pub MaySendDatagram : {T : Type 0} → (wait : Bool) → Reply T → Type 0
MaySendDatagram wait reply.Done = Unit {0}
MaySendDatagram wait (reply.ConnectionLost e) = Unit {0}
MaySendDatagram wait reply.Disabled = Unit {0}
MaySendDatagram wait reply.UnsupportedByPeer = Unit {0}
MaySendDatagram wait reply.TooLarge = Unit {0}
MaySendDatagram wait reply.Pending = wait ≡ true
MaySendDatagram wait r = ⊥

abbrev pub MayTellReason : {T : Type 0} → Reply T → Type 0
MayTellReason (reply.ConnectionLost e) = Unit {0}
MayTellReason reply.Done = Unit {0}
MayTellReason r = ⊥

abbrev pub MayBeLost : {T : Type 0} → Reply T → Type 0
MayBeLost (reply.ConnectionLost e) = Unit {0}
MayBeLost reply.Pending = Unit {0}
MayBeLost r = ⊥

abbrev pub IsDone : {T : Type 0} → Reply T → Type 0
IsDone reply.Done = Unit {0}
IsDone r = ⊥

abbrev pub IsMaxDatagramSize : {T : Type 0} → Reply T → Type 0
IsMaxDatagramSize (reply.MaxDatagramSize size) = Unit {0}
IsMaxDatagramSize r = ⊥

abbrev pub IsSide : {T : Type 0} → Reply T → Type 0
IsSide (reply.Side side) = Unit {0}
IsSide r = ⊥

abbrev pub IsRemoteAddress : {T : Type 0} → Reply T → Type 0
IsRemoteAddress (reply.RemoteAddress address) = Unit {0}
IsRemoteAddress r = ⊥

abbrev pub IsLocalIp : {T : Type 0} → Reply T → Type 0
IsLocalIp (reply.LocalIp address) = Unit {0}
IsLocalIp r = ⊥

abbrev pub IsNumber : {T : Type 0} → Reply T → Type 0
IsNumber (reply.Number n) = Unit {0}
IsNumber r = ⊥

abbrev pub IsTold : {T : Type 0} → (Is : T → Type 0) → Reply T → Type 0
IsTold Is (reply.Told value) = Is value
IsTold Is r = ⊥

abbrev pub MayGet : {T : Type 0} → (Is : Call → T → Type 0) → Getter → Reply T → Type 0
MayGet Is getter.MaxDatagramSize r = IsMaxDatagramSize r
MayGet Is getter.DatagramSendBufferSpace r = IsNumber r
MayGet Is getter.Side r = IsSide r
MayGet Is getter.RemoteAddress r = IsRemoteAddress r
MayGet Is getter.LocalIp r = IsLocalIp r
MayGet Is getter.StableId r = IsNumber r
MayGet Is getter.Rtt r = IsTold (Is (call.Get getter.Rtt)) r
MayGet Is getter.MinRtt r = IsTold (Is (call.Get getter.MinRtt)) r
MayGet Is getter.Stats r = IsTold (Is (call.Get getter.Stats)) r
MayGet Is getter.CongestionState r = IsTold (Is (call.Get getter.CongestionState)) r
MayGet Is getter.HandshakeData r = IsTold (Is (call.Get getter.HandshakeData)) r

abbrev pub MayDrive : {T : Type 0} → Reply T → Type 0
MayDrive reply.Pending = Unit {0}
MayDrive reply.Done = Unit {0}
MayDrive reply.Failed = Unit {0}
MayDrive reply.Memory = Unit {0}
MayDrive r = ⊥

-- a value that is told is one of these
abbrev pub IfTold : {T : Type 0} → (Is : T → Type 0) → Reply T → Type 0
IfTold Is (reply.Told value) = Is value
IfTold Is r = Unit {0}

abbrev pub MayReply : {T : Type 0} → (Is : Call → T → Type 0) → Call → Reply T → Type 0
MayReply Is call.Connecting r = MayConnect r
MayReply Is call.HandshakeData r = MayTell Is r
MayReply Is (call.Open dir) r = MayOpen r
MayReply Is (call.Accept dir) r = MayOpen r
MayReply Is (call.Read id max_length is_ordered) r = MayRead max_length r
MayReply Is (call.Write id payload) r = MayWrite payload r
MayReply Is (call.Finish id) r = MayClose r
MayReply Is (call.Reset id code) r = MayClose r
MayReply Is (call.Stop id code) r = MayClose r
MayReply Is (call.Stopped id) r = MayTellCode r
MayReply Is (call.ReceivedReset id) r = MayTellCode r
MayReply Is (call.SetPriority id priority) r = MayClose r
MayReply Is (call.Priority id) r = MayTellPriority r
MayReply Is call.ReadDatagram r = MayReadDatagram r
MayReply Is (call.SendDatagram payload wait) r = MaySendDatagram wait r
MayReply Is call.CloseReason r = MayTellReason r
MayReply Is call.Closed r = MayBeLost r
MayReply Is (call.Close now code reason) r = IsDone r
MayReply Is (call.EndSend id) r = IsDone r
MayReply Is (call.EndRecv id) r = IsDone r
MayReply Is call.CloneHandle r = IsDone r
MayReply Is call.EndHandle r = IsDone r
MayReply Is (call.Get g) r = MayGet Is g r
MayReply Is (call.Set setting) r = IsDone r
MayReply Is (call.Drive now) r = MayDrive r
