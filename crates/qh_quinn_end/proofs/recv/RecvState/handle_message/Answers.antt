use Rattle.std.proofs.Common.{ℕ, List, min, [], ◌∷◌, ◌++◌, inl, inr, refl, ap, ◌∙◌, subst, append-nil}
use Rattle.qh_quinn_end.proofs.Bringing.{on_err}
use Rattle.qh_quinn_end.proofs.Segments.{brought_then, brought_under, goes_on, none_left, positive, some_left, some_of}
use Rattle.qh_quinn_end.specs.Receiving.{AreSegments}
use Rattle.qh_quinn_end.proofs.recv.RecvState.handle_message.Goals as goal

pub returns-in_err-datagram-clause-cut : goal.returns-in_err-datagram-clause-cut
returns-in_err-datagram-clause-cut g c =
    let h = c.loop-now.invariant.brought in
    let others = some_of c.args.meta.now.stride c.loop-now.left (positive c.args.meta.now.stride c.if-meta-eq0.false) in
    on_err c.from_residual.result (record {
      done = h.0;
      left = others.0;
      some = others.2 (some_left c.is_empty.result c.loop-now.left c.is_empty.ensures c.loop-now-test.true);
      segments = h.1 others.0 others.1;
      mid = c.loop-now.endpoint;
      brought = h.2;
      undone = inl refl;
    })

pub loop-now-preserved : goal.loop-now-preserved
loop-now-preserved g c =
    let h = c.loop-now.invariant.brought in
    let e = c.in_ok-handle_datagram.ensures in
    let d = c.in_ok-datagram in
    let pos = positive c.args.meta.now.stride c.if-meta-eq0.false in
    let some = some_left c.is_empty.result c.loop-now.left c.is_empty.ensures c.loop-now-test.true in
    record {
      brought = (
        h.0 ++ d.datagram ∷ [],
        rw (d.ensures.front, d.ensures.rest) (goes_on c.args.meta.now.stride c.min.result c.args.message c.loop-now.left h.0 pos some (c.min.ensures ∙ ap (min c.args.meta.now.stride) c.len.ensures.value) h.1),
        brought_then _ _ _ _ _ h.0 d.datagram _ _ _ _ _ _ _ _ _ h.2 (brought_under _ c.loop-now.invariant.ready _ _ _ _ _ _ _ _ _ _ e.brought),
      );
      arrived = e.arrived ∙ c.loop-now.invariant.arrived;
      ready = λ r. e.ready (c.loop-now.invariant.ready r);
    }

pub returns-in_err-handle_datagram-clause-cut : goal.returns-in_err-handle_datagram-clause-cut
returns-in_err-handle_datagram-clause-cut g c =
    let h = c.loop-now.invariant.brought in
    let e = c.in_err-handle_datagram.ensures in
    let others = some_of c.args.meta.now.stride c.loop-now.left (positive c.args.meta.now.stride c.if-meta-eq0.false) in
    on_err c.from_residual-in_err-handle_datagram.result (record {
      done = h.0;
      left = others.0;
      some = others.2 (some_left c.is_empty.result c.loop-now.left c.is_empty.ensures c.loop-now-test.true);
      segments = h.1 others.0 others.1;
      mid = c.loop-now.endpoint;
      brought = rw (e.err.0, e.err.1) h.2;
      undone = elim e.unhandled [ inl same ↦ inl same | inr none ↦ inr (c.in_ok-datagram.datagram, none.0, none.1) ];
    })

pub returns-clause-brought : goal.returns-clause-brought
returns-clause-brought g c = λ pos.
    let h = c.loop-now.invariant.brought in
    let none = none_left c.is_empty.result c.loop-now.left c.is_empty.ensures c.loop-now-test.false in
    (h.0, subst (λ (ds : List (List ℕ)). AreSegments c.args.meta.now.stride c.args.message ds) (append-nil h.0) (h.1 [] (rw none AreSegments.none)), h.2)
