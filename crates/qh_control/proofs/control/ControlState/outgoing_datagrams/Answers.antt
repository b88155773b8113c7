use Rattle.std.proofs.Common.{◌≡◌, ◌++◌, ℕ, ◌∷◌, [], List, take, sym, ap, ◌∙◌, arith}
use Rattle.std.proofs.lemmas.Bool.{eqb-false, eqb-true}
use Rattle.std.proofs.lemmas.Grind.{common_steps}
use Rattle.qh_core.specs.declared.control.ControlFrame.{ControlFrame}
use Rattle.qh_core.specs.declared.control.ControlFrame.TheVariants as sending
use Rattle.qh_datagrams.specs.Datagrams.{bytes_of}
use Rattle.qh_control.proofs.Packed.{bytes_more, packed, packed_more, sendable_packed}
use Rattle.qh_control.proofs.control.ControlState.outgoing_datagrams.Goals.{else-not-is_empty-via-then-not-is_empty+else-bytes-gt-ROOM, else-not-is_empty-via-else-not-is_empty}
use Rattle.qh_control.proofs.control.ControlState.outgoing_datagrams.Goals as goal

pub loop-index-preserved : goal.loop-index-preserved
loop-index-preserved c =
    let items = c.in_ok-push.ensures.items in
    let cases = c.in_ok-payload.ensures.cases in
    let found = c.in-Some.ensures.some in
    record {
      frames = items ∙ ap (λ (l : List ControlFrame). l ++ sending.Datagram c.in_ok-payload.payload ∷ []) c.loop-index.invariant.frames
          ∙ ap (λ (p : List ℕ). packed (take c.loop-index.index c.args.self.now.datagrams.outgoing) ++ sending.Datagram p ∷ []) cases
          ∙ sym (packed_more c.args.self.now.datagrams.outgoing c.loop-index.index c.in-Some.payload.now found);
      len = grind (arith, common_steps, c.in_ok-push.ensures.len, c.loop-index.invariant.len);
      bytes = elim c.else-not-is_empty.branch [
        | else-not-is_empty-via-then-not-is_empty+else-bytes-gt-ROOM w ↦ omega (arith, w.if-bytes-gt-ROOM.false)
        | else-not-is_empty-via-else-not-is_empty w ↦
            let empty = eqb-true _ _ (sym c.is_empty.ensures ∙ w.if-not-is_empty.false) in
            let zero : c.loop-index.bytes ≡ 0 = c.loop-index.invariant.sum ∙ ap (λ (n : ℕ). bytes_of (take n c.args.self.now.datagrams.outgoing)) (sym c.loop-index.invariant.len ∙ empty) in
            omega (arith, zero, c.len-bytes.ensures.bound)
      ];
      sum = omega (arith, c.loop-index.invariant.sum, c.len-bytes.ensures.value, bytes_more c.args.self.now.datagrams.outgoing c.loop-index.index c.in-Some.payload.now found);
      fits = λ several. elim c.else-not-is_empty.branch [
        | else-not-is_empty-via-then-not-is_empty+else-bytes-gt-ROOM w ↦ omega (arith, w.if-bytes-gt-ROOM.false)
        | else-not-is_empty-via-else-not-is_empty w ↦
            let empty = eqb-true _ _ (sym c.is_empty.ensures ∙ w.if-not-is_empty.false) in
            absurd (omega (arith, several, empty, c.loop-index.invariant.len))
      ];
    }

pub returns-in_default-clause-sendable : goal.returns-in_default-clause-sendable
returns-in_default-clause-sendable c = λ side peer may. sendable_packed side peer c.loop-index.index c.args.self.now.datagrams.outgoing c.loop-index.frames.items c.loop-index.invariant.frames may.bounded may.payloads

pub returns-then-bytes-gt-ROOM-clause-frames : goal.returns-then-bytes-gt-ROOM-clause-frames
returns-then-bytes-gt-ROOM-clause-frames c =
    let more = bytes_more c.args.self.now.datagrams.outgoing c.loop-index.index c.in-Some.payload.now c.in-Some.ensures.some in
    let some = eqb-false _ _ (sym c.is_empty.ensures ∙ c.if-not-is_empty.true) in (
      c.loop-index.index,
      c.loop-index.invariant.frames,
      λ any. omega (arith, some, c.loop-index.invariant.len),
      omega (arith, c.loop-index-test.true),
      record {
        fits = λ several. omega (arith, c.loop-index.invariant.fits several, c.loop-index.invariant.sum);
        most = λ under within. omega (arith, c.if-bytes-gt-ROOM.true, more, c.loop-index.invariant.sum, c.len-bytes.ensures.value);
      },
    )

pub returns-then-bytes-gt-ROOM-clause-sendable : goal.returns-then-bytes-gt-ROOM-clause-sendable
returns-then-bytes-gt-ROOM-clause-sendable c = λ side peer may. sendable_packed side peer c.loop-index.index c.args.self.now.datagrams.outgoing c.loop-index.frames.items c.loop-index.invariant.frames may.bounded may.payloads

pub returns-clause-sendable : goal.returns-clause-sendable
returns-clause-sendable c = λ side peer may. sendable_packed side peer c.loop-index.index c.args.self.now.datagrams.outgoing c.loop-index.frames.items c.loop-index.invariant.frames may.bounded may.payloads
