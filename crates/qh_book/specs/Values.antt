-- What the getters of a connection tell, and what its setters change.
use Rattle.std.specs.Prelude.{◌≡◌, ℕ}
use Rattle.qh_book.specs.Book.{Book, datagram_room}
use Rattle.qh_book.specs.declared.call.Getter.{Getter}
use Rattle.qh_book.specs.declared.call.Getter.TheVariants as getter
use Rattle.qh_book.specs.declared.call.Setting.{Setting}
use Rattle.qh_book.specs.declared.call.Setting.TheVariants as setting
use Rattle.qh_book.specs.declared.reply.Reply.{Reply}
use Rattle.qh_book.specs.declared.reply.Reply.TheVariants as reply

abbrev pub TellsMaxDatagramSize : {T : Type 0} → Book → Reply T → Type 0
TellsMaxDatagramSize b (reply.MaxDatagramSize size) = size ≡ b.max_datagram_size
TellsMaxDatagramSize b r = ⊥

abbrev pub TellsSide : {T : Type 0} → Book → Reply T → Type 0
TellsSide b (reply.Side side) = side ≡ b.side
TellsSide b r = ⊥

abbrev pub TellsRemoteAddress : {T : Type 0} → Book → Reply T → Type 0
TellsRemoteAddress b (reply.RemoteAddress address) = address ≡ b.addresses.remote
TellsRemoteAddress b r = ⊥

abbrev pub TellsLocalIp : {T : Type 0} → Book → Reply T → Type 0
TellsLocalIp b (reply.LocalIp address) = address ≡ b.addresses.local_ip
TellsLocalIp b r = ⊥

abbrev pub TellsNumber : {T : Type 0} → ℕ → Reply T → Type 0
TellsNumber n (reply.Number number) = number ≡ n
TellsNumber n r = ⊥

-- any value that the book doesn't have
abbrev pub TellsOther : {T : Type 0} → Reply T → Type 0
TellsOther (reply.Told value) = Unit {0}
TellsOther r = ⊥

abbrev pub TellsValue : {T : Type 0} → Book → Getter → Reply T → Type 0
TellsValue b getter.MaxDatagramSize r = TellsMaxDatagramSize b r
TellsValue b getter.DatagramSendBufferSpace r = TellsNumber (datagram_room b) r
TellsValue b getter.Side r = TellsSide b r
TellsValue b getter.RemoteAddress r = TellsRemoteAddress b r
TellsValue b getter.LocalIp r = TellsLocalIp b r
TellsValue b getter.StableId r = TellsNumber b.stable_id r
TellsValue b getter.Rtt r = TellsOther r
TellsValue b getter.MinRtt r = TellsOther r
TellsValue b getter.Stats r = TellsOther r
TellsValue b getter.CongestionState r = TellsOther r
TellsValue b getter.HandshakeData r = TellsOther r

abbrev pub Gets : {T : Type 0} → Book → Getter → Reply T → Book → Type 0
Gets b g r c = TellsValue b g r × (c ≡ b)

-- the limits that the peer is told aren't in the book
abbrev pub with_setting : Setting → Book → Book
with_setting (setting.SendWindow bytes) b = record b { send_window = bytes }
with_setting (setting.MaxConcurrentUniStreams count) b = b
with_setting (setting.MaxConcurrentBiStreams count) b = b
with_setting (setting.ReceiveWindow bytes) b = b

abbrev pub Sets : {T : Type 0} → Book → Setting → Reply T → Book → Type 0
Sets b s reply.Done c = c ≡ with_setting s b
Sets b s r c = ⊥
