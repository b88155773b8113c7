use Rattle.std.proofs.Common.{◌≡◌, ◌∙◌, ℕ, true, List, Result, Ok, Err, length, take, OnErr, sym, ap, subst, arith}
use Rattle.std.specs.Result.{is_err}
use Rattle.qh_frame.proofs.FramesWritten.{on_ok}
use Rattle.qh_halves.specs.SendHalves.{send_at, half_holds}
use Rattle.qh_streams.specs.Streams.{PlainStreams}
use Rattle.qh_streams.proofs.StreamsWritten.{head_behind, piece_put}
use Rattle.qh_streams.proofs.streams.Streams.put_stream.Goals as goal

on_err : {A E : Type 0} {P : Type 0} (r : Result A E) → true ≡ is_err r → OnErr r P → P
on_err (Ok x) e p = cc
on_err (Err x) e p = p

pub returns-then-is_err-clause-err : goal.returns-then-is_err-clause-err
returns-then-is_err-clause-err c =
    let held = subst (λ (s : PlainStreams). half_holds (send_at s.send c.args.id.0) c.args.piece.now) (sym c.self.view_is) c.requires.2 in
    let kept = head_behind (send_at c.self.inside.send c.args.id.0) c.args.piece.now c.args.out.now.items c.put_stream_head.new.out.items c.args.id.0 c.unwrap-offset.result held c.in_ok-put_stream_head.ensures.ok in
    let start : c.len-start.result ≡ length c.args.out.now.items = omega arith in
    let same = on_err c.put.result c.if-is_err.ensures.value c.put.ensures.err in
    c.truncate.ensures.items ∙ ap (λ (n : ℕ). take n c.put.new.out.items) start ∙ ap (λ (l : List ℕ). take (length c.args.out.now.items) l) same ∙ kept

pub returns-clause-ok : goal.returns-clause-ok
returns-clause-ok c =
    let found = rw c.unwrap-offset.ensures at c.from_u64.ensures.found in
    let held = subst (λ (s : PlainStreams). half_holds (send_at s.send c.args.id.0) c.args.piece.now) (sym c.self.view_is) c.requires.2 in
    rw (← c.self.view_is) (piece_put (send_at c.self.inside.send c.args.id.0) c.args.piece.now c.args.out.now.items c.put_stream_head.new.out.items c.put.new.out.items c.args.id.0 c.unwrap-offset.result held found c.in_ok-put_stream_head.ensures.ok
    (on_ok c.put.result c.if-is_err.ensures.value c.put.ensures.ok))
