-- What an exchange makes of a link's fault, and of the loss of a connection.
use Rattle.qh_base.specs.declared.connection_error.ConnectionError.{ConnectionError}
use Rattle.qh_base.specs.declared.connection_error.ConnectionError.TheVariants as lost
use Rattle.qh_link.specs.declared.link.LinkFault.{LinkFault}
use Rattle.qh_link.specs.declared.link.LinkFault.TheVariants as fault
use Rattle.qh_pair.specs.declared.error.ExchangeError.{ExchangeError}
use Rattle.qh_pair.specs.declared.error.ExchangeError.TheVariants.{Link, Memory, TimedOut, Protocol}

abbrev pub error_of : LinkFault → ExchangeError
error_of fault.Failed = Link
error_of fault.Memory = Memory

abbrev pub error_of_loss : ConnectionError → ExchangeError
error_of_loss lost.TimedOut = TimedOut
error_of_loss lost.Memory = Memory
error_of_loss other = Protocol other
