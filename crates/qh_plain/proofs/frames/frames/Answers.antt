use Rattle.std.proofs.Common.{◌≡◌, [], ◌∷◌, ◌++◌, Some, sym, ap, ◌∙◌}
use Rattle.qh_spec.specs.HttpFrame.{HttpFrame}
use Rattle.qh_plain.specs.Frames.{frame_at}
use Rattle.qh_plain.proofs.FramesRead.{one_read, shorter, no_frames, some_of}
use Rattle.qh_plain.proofs.frames.frames.Goals as goal

pub returns-in_default-clause-none : goal.returns-in_default-clause-none
returns-in_default-clause-none c =
    no_frames c.args.bytes.now c.loop-rest.rest.now c.loop-rest.frames.items
    (some_of c.loop-rest.rest.now (sym c.is_empty.ensures ∙ c.loop-rest-test.true)) (sym (c.in_default.ensures {u = tt})) c.loop-rest.invariant

pub loop-rest-smaller : goal.loop-rest-smaller
loop-rest-smaller c =
    shorter c.loop-rest.rest.now c.in-Some.after.now (record { kind = c.in-Some.kind; payload = c.in-Some.payload.now }) c.loop-rest.invariant.rest_are (sym (c.in-Some.ensures {u = tt}))

pub loop-rest-preserved : goal.loop-rest-preserved
loop-rest-preserved c =
    let read : HttpFrame = record { kind = c.in-Some.kind; payload = c.in-Some.payload.now } in
    let start : frame_at c.loop-rest.rest.now ≡ Some (read, c.in-Some.after.now) = sym (c.in-Some.ensures {u = tt}) in
    let frame : c.in_ok-frame.frame ≡ read = c.in_ok-frame.ensures in
    let items : c.push.new.self.items ≡ c.loop-rest.frames.items ++ read ∷ [] = c.in_ok-push.ensures.items ∙ ap (λ (z : HttpFrame). c.loop-rest.frames.items ++ z ∷ []) frame in
    rw items
    (one_read c.args.bytes.now c.loop-rest.rest.now c.in-Some.after.now c.loop-rest.frames.items read (some_of c.loop-rest.rest.now (sym c.is_empty.ensures ∙ c.loop-rest-test.true)) start c.loop-rest.invariant)
