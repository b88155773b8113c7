use Rattle.std.proofs.Common.{◌≡◌, ◌∙◌, sym, is_some, true, false}
use Rattle.qh_halves.specs.SendHalves.{send_at}
use Rattle.qh_streams.proofs.ItemLogs.{nothing_logged, none_told}
use Rattle.qh_streams.proofs.streams.Streams.acked_and_confirmed.Goals as goal
use Rattle.qh_streams.proofs.streams.Streams.acked_and_confirmed.Goals.{else-was_there-via-then-was_there+else-not-contains, else-was_there-via-else-was_there}

pub returns-in_default-taken-clause-confirmed : goal.returns-in_default-taken-clause-confirmed
returns-in_default-taken-clause-confirmed c =
    let before = send_at c.args.self.now.send c.in-Stream.id.0 in
    let after = send_at c.acked.new.self.send c.in-Stream.id.0 in
    rw (c.in-Stream.is, none_told c.in-Stream.id before after (rw (← c.self.view_is) (sym c.taken_to-taken.ensures ∙ c.in_default-taken.is))) (nothing_logged c.args.log.now)

pub returns-else-was_there-clause-confirmed : goal.returns-else-was_there-clause-confirmed
returns-else-was_there-clause-confirmed c =
    let before = send_at c.args.self.now.send c.in-ResetStream.id.0 in
    let after = send_at c.acked-in-ResetStream.new.self.send c.in-ResetStream.id.0 in
    elim c.else-was_there.branch [
      | else-was_there-via-then-was_there+else-not-contains w ↦
          let was : is_some before ≡ true = rw (← c.self-in-ResetStream.view_is) (sym c.contains-was_there.ensures ∙ w.if-was_there.true) in
          let is : is_some after ≡ true = rw (← c.self-in-ResetStream-2.view_is) (sym w.contains.ensures ∙ w.if-not-contains.false) in
          rw (c.in-ResetStream.is, was, is) (nothing_logged c.args.log.now)
      | else-was_there-via-else-was_there w ↦
          let was : is_some before ≡ false = rw (← c.self-in-ResetStream.view_is) (sym c.contains-was_there.ensures ∙ w.if-was_there.false) in
          rw (c.in-ResetStream.is, was) (nothing_logged c.args.log.now)
    ]
