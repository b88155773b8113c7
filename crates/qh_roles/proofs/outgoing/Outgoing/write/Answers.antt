use Rattle.std.proofs.Common.{ℕ, ◌+◌, List, ◌++◌, take, drop, Ok, Err, subst}
use Rattle.qh_roles.proofs.StepLaws.{part_from, push_refused, push_written, pushed_writes}
use Rattle.qh_roles.specs.Steps.{Pushes}
use Rattle.qh_roles.specs.Streams.{Outgoing}
use Rattle.qh_roles.specs.declared.outgoing.WriteState.TheVariants as writing
use Rattle.qh_roles.proofs.outgoing.Outgoing.write.Goals as goal

pub returns-in-Ok-clause-writes : goal.returns-in-Ok-clause-writes
returns-in-Ok-clause-writes g c = rw (← c.self.view_is) (λ start before t f w.
    let rest = part_from c.self.inside.taken c.deref.result.now c.self.inside.bytes.items c.deref.ensures.value in
    let p : Pushes start before c.self.inside.stream.0 (take c.in-Ok.count (drop c.self.inside.taken c.self.inside.bytes.items)) c.push.new.connection t =
    subst (λ (bytes : List ℕ). Pushes start before c.self.inside.stream.0 (take c.in-Ok.count bytes) c.push.new.connection t) rest (c.in-Ok.ensures.pushes start before t f) in
    let o : Outgoing = record { stream = c.self.inside.stream.0; bytes = c.self.inside.bytes.items; taken = c.self.inside.taken } in
    pushed_writes start before (Ok c.end.result) (record o { taken = o.taken + c.in-Ok.count }) (take c.in-Ok.count (drop o.taken o.bytes)) c.push.new.connection c.end.new.connection t p
    (c.end.ensures.writes start before (t ++ p.acts) p.follows (push_written start before o c.in-Ok.count c.push.new.connection t w p)))

pub returns-in-Err-Blocked-clause-writes : goal.returns-in-Err-Blocked-clause-writes
returns-in-Err-Blocked-clause-writes g c = rw (← c.self.view_is) (λ start before t f w.
    push_refused start before (Ok writing.Blocked) (record { stream = c.self.inside.stream.0; bytes = c.self.inside.bytes.items; taken = c.self.inside.taken }) c.push.new.connection t
    (λ u is. is) w (c.in-Err-Blocked.ensures.pushes start before t f))

pub returns-in-Err-Memory-clause-writes : goal.returns-in-Err-Memory-clause-writes
returns-in-Err-Memory-clause-writes g c = rw (← c.self.view_is) (λ start before t f w.
    push_refused start before (Err (record {})) (record { stream = c.self.inside.stream.0; bytes = c.self.inside.bytes.items; taken = c.self.inside.taken }) c.push.new.connection t
    (λ u is. is) w (c.in-Err-Memory.ensures.pushes start before t f))

pub returns-in-Err-clause-writes : goal.returns-in-Err-clause-writes
returns-in-Err-clause-writes g c = rw (← c.self.view_is) (λ start before t f w.
    push_refused start before (Ok writing.Refused) (record { stream = c.self.inside.stream.0; bytes = c.self.inside.bytes.items; taken = c.self.inside.taken }) c.push.new.connection t
    (λ u is. is) w (c.in-Err.ensures.pushes start before t f))
