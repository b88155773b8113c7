use Rattle.std.proofs.Common.{◌≡◌, ℕ, Option, Some, None, sym, arith}
use Rattle.std.specs.Option.{IfSome, IsSome}
use Rattle.qh_streams.specs.Streams.{IsHandedOver}
use Rattle.qh_streams.specs.declared.frames.SentFrame.TheVariants.{MaxStreams}
use Rattle.qh_streams.proofs.StreamsWritten.{count_handed, limit_small}
use Rattle.qh_streams.proofs.streams.Streams.next_count.Goals as goal

pub set_counts-requires-clause-no_fewer : goal.set_counts-requires-clause-no_fewer
set_counts-requires-clause-no_fewer c = rw (← c.counts-counts.ensures.value) (record { opened = omega arith; arrived = omega arith })

some_of : (o : Option ℕ) (n : ℕ) (P : ℕ → Type 0) → IfSome o (λ v. v ≡ n) → ((v : ℕ) → v ≡ n → P v) → IfSome o P
some_of None n P e f = tt
some_of (Some v) n P e f = f v e

none_of : (o : Option ℕ) {P : Type 0} → IsSome o → o ≡ None → P
none_of None some e = cc
none_of (Some v) some e = cc

pub returns-clause-some : goal.returns-clause-some
returns-clause-some c =
    some_of c.from_u64.result c.limit-limit.result (λ (count : ℕ). (room : ℕ) → IsHandedOver c.args.self.now c.set_counts.new.self room (MaxStreams c.args.dir count)) c.from_u64.ensures.found
    (λ count count_is. count_handed c.args.self.now c.set_counts.new.self c.args.dir c.counts-counts.result c.limit-limit.result count c.counts-counts.ensures.value c.limit-limit.ensures count_is (sym c.if-not-is_due.ensures)
    (rw c.sent-announced.ensures at c.set_counts.ensures.value))

pub returns-clause-none : goal.returns-clause-none
returns-clause-none c = none_of c.from_u64.result (c.from_u64.ensures.fits.1 (limit_small c.counts-counts.result c.limit-limit.result c.counts-counts.ensures.are c.limit-limit.ensures))
