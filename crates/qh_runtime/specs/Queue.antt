-- A socket in memory (own).
use Rattle.std.specs.Prelude.{ℕ, List, Option}
use Rattle.std.specs.declared.net.socket_addr.SocketAddr.{SocketAddr}
use Rattle.qh_runtime.specs.declared.runtime.Message.{Message}
use Rattle.qh_runtime.specs.declared.runtime.OutMessage.{OutMessage}

pub record PlainQueueSocket : Type 0 where
  pub addr : SocketAddr
  -- those that were given to it and not received yet, and those that were sent and not yet taken
  pub arrived : List Message
  pub departed : List OutMessage
  -- the number of calls up to the one that fails, where one does
  pub fails_in : Option ℕ
  pub faults : ℕ
