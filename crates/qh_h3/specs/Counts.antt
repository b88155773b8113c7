-- What a QUIC implementation counts of its answers (own). A count saturates at the greatest of its type.
use Rattle.std.specs.Prelude.{ℕ, zero, suc, List, Option, Some, None, Result, Ok, Err}
use Rattle.futures.specs.declared.task.Poll.{Poll}
use Rattle.futures.specs.declared.task.Poll.TheVariants.{Ready, Pending}
use Rattle.qh_base.specs.Io.{one_more}
use Rattle.qh_h3.specs.declared.quic.error.ConnectionErrorIncoming.{ConnectionErrorIncoming}
use Rattle.qh_h3.specs.declared.quic.error.ConnectionErrorIncoming.TheVariants as lost
use Rattle.qh_h3.specs.declared.quic.error.StreamErrorIncoming.{StreamErrorIncoming}
use Rattle.qh_h3.specs.declared.quic.error.StreamErrorIncoming.TheVariants as fault

pub record Counts : Type 0 where
  -- the answers that were a fault, and the last of them; want of memory isn't one
  pub faults : ℕ
  pub last : Option StreamErrorIncoming
  -- the answers that were Pending
  pub pendings : ℕ
  -- the pieces of a stream that were given to its reader
  pub pieces : ℕ

-- a fault more
abbrev pub failing : StreamErrorIncoming → Counts → Counts
failing e c = record c { faults = one_more c.faults; last = Some e }

-- a Pending more
abbrev pub waiting : Counts → Counts
waiting c = record c { pendings = one_more c.pendings }

-- a piece more
abbrev pub taking : Counts → Counts
taking c = record c { pieces = one_more c.pieces }

-- n pieces more
abbrev pub taking_all : ℕ → Counts → Counts
taking_all zero c = c
taking_all (suc n) c = taking (taking_all n c)

-- after an error of a stream
abbrev pub with_error : StreamErrorIncoming → Counts → Counts
with_error fault.Memory c = c
with_error e c = failing e c

-- after an error of the connection
abbrev pub with_loss : ConnectionErrorIncoming → Counts → Counts
with_loss lost.Memory c = c
with_loss e c = failing (fault.ConnectionErrorIncoming e) c

module _ {T : Type 0} where
  -- after a call on a stream
  abbrev pub counted : Result T StreamErrorIncoming → Counts → Counts
  counted (Ok x) c = c
  counted (Err e) c = with_error e c

  -- after a call that may have to wait
  abbrev pub counted_poll : Poll (Result T StreamErrorIncoming) → Counts → Counts
  counted_poll (Ready r) c = counted r c
  counted_poll Pending c = waiting c

  -- after a call that waits for a stream of the peer's
  abbrev pub counted_accept : Poll (Result T ConnectionErrorIncoming) → Counts → Counts
  counted_accept (Ready (Ok x)) c = c
  counted_accept (Ready (Err e)) c = with_loss e c
  counted_accept Pending c = waiting c

-- after a read
abbrev pub counted_read : Poll (Result (Option (List ℕ)) StreamErrorIncoming) → Counts → Counts
counted_read (Ready (Ok (Some piece))) c = taking c
counted_read (Ready (Ok None)) c = c
counted_read (Ready (Err e)) c = with_error e c
counted_read Pending c = waiting c
