use Rattle.std.proofs.Common.{rules, refl, ap, sym, ◌≡◌, Some, arith, slice_set, length}
use Rattle.slab.specs.Slab.{Updates, with_value}
use Rattle.slab.proofs.SlabLemmas.{Updates-with_value}
use Rattle.qh_attempts.specs.Attempts.{PlainAttempt, PlainBuffers, HasInstead, HasRoomFor, attempt_at}
use Rattle.qh_attempts.proofs.Slots.{attempts_kept, total_kept, bytes_push}
use Rattle.qh_attempts.proofs.incoming_buffers.IncomingBuffers.keep.Goals as goal

pub invariant_of-self-2 : goal.invariant_of-self-2
invariant_of-self-2 g c =
    let old : PlainBuffers g.row.C.Denot = record { slots = c.self.inside.attempts.slots; numbered = c.self.inside.numbered } in
    let new : PlainBuffers g.row.C.Denot = record { slots = slice_set c.self.inside.attempts.slots c.args.key (Some c.push.new.self); numbered = c.self.inside.numbered } in
    let was : PlainAttempt g.row.C.Denot = c.in-Some.attempt.now in
    let a : PlainAttempt g.row.C.Denot = c.push.new.self in
    let there : attempt_at old c.args.key ≡ Some was = sym c.in-Some.ensures.value in
    let is : Updates c.self.inside.attempts (with_value c.self.inside.attempts c.args.key a) c.args.key (Some a) = Updates-with_value c.self.inside.attempts c.args.key a (search rules) in
    let put : HasInstead old new c.args.key (Some a) = record { there = is.changed; others = is.others } in
    let pushed = c.in_ok-push.ensures.ok in
    let more = bytes_push was a c.args.datagram (ap (λ (p : PlainAttempt g.row.C.Denot). p.datagrams) pushed) in
    let len : c.len-len.result ≡ length c.args.datagram.payload = c.len-len.ensures.value in
    let room : HasRoomFor was c.len-len.result c.self.inside.total = search rules in
    let own = room.0 in
    let limit = ap (λ (p : PlainAttempt g.row.C.Denot). p.limits.incoming_buffer_size) pushed in
    let total = c.self.invariant.1 in (
      attempts_kept old new c.args.key c.self.invariant.0 was a there put (ap (λ (p : PlainAttempt g.row.C.Denot). p.number) pushed) refl (omega (arith, more, len, own, limit)),
      omega (arith, total_kept old new c.args.key was a put there (length c.args.datagram.payload) more, len, total),
    )
