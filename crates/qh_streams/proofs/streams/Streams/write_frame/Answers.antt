use Rattle.std.proofs.Common.{◌≡◌, ◌∙◌, ◌++◌, ◌∷◌, [], List, Result, Err, OnErr, refl, sym, ap, arith}
use Rattle.std.proofs.lemmas.List.{append-nil}
use Rattle.std.proofs.lemmas.Result.{err_from_is_err_and}
use Rattle.qh_streams.specs.declared.frames.SentFrame.{SentFrame}
use Rattle.qh_streams.specs.Streams.{IsCutShort}
use Rattle.qh_streams.proofs.PhasesWritten.{cut_at_first, cut_at_put}
use Rattle.qh_streams.proofs.StreamsWritten.{frame_fits, held_out}
use Rattle.qh_streams.proofs.streams.Streams.write_frame.Goals as goal

pub returns-in_err-reserve-clause-cut : goal.returns-in_err-reserve-clause-cut
returns-in_err-reserve-clause-cut c = cut_at_first _ c.args.self.now c.args.self.now c.args.out.now.items _ _ refl c.reserve.ensures.items

pub returns-in_err-frame-clause-cut : goal.returns-in_err-frame-clause-cut
returns-in_err-frame-clause-cut c = cut_at_first _ c.args.self.now c.next_frame.new.self c.args.out.now.items _ _ c.in_err-frame.ensures.err c.reserve.ensures.items

pub returns-in_err-put-clause-cut : goal.returns-in_err-put-clause-cut
returns-in_err-put-clause-cut c =
    let handed = rw c.in-Some.is at c.in_ok-frame.ensures.some in
    let out = rw c.in-Some.is at c.in_ok-frame.ensures.out in
    let pushed = rw (c.push.ensures.succeeds (omega (arith, c.in_ok-reserve.ensures.ok))) at c.push.ensures.items in
    cut_at_put _ c.args.self.now c.next_frame.new.self c.args.room c.in-Some.frame _ _ _ _ handed.0 (held_out c.next_frame.new.self c.in-Some.frame out) c.in_err-put.ensures.err
    (pushed ∙ ap (λ (l : List SentFrame). l ++ (c.in-Some.frame ∷ [])) c.reserve.ensures.items)

pub returns-clause-written : goal.returns-clause-written
returns-clause-written c = λ _.
    let handed = rw c.in-Some.is at c.in_ok-frame.ensures.some in
    let put = c.in_ok-put.ensures.ok in
    let fits = frame_fits c.args.self.now c.next_frame.new.self c.args.room c.in-Some.frame handed.0 c.requires in
    let pushed = rw (c.push.ensures.succeeds (omega (arith, c.in_ok-reserve.ensures.ok))) at c.push.ensures.items in
    record {
      frame = c.in-Some.frame;
      is_of = handed.1;
      handed = handed.0;
      fits = omega (arith, fits, put.size);
      reads_back = put.is;
      out_is = put.whole;
      sent_is = pushed ∙ ap (λ (l : List SentFrame). l ++ (c.in-Some.frame ∷ [])) c.reserve.ensures.items;
      is_out = held_out c.next_frame.new.self c.in-Some.frame (rw c.in-Some.is at c.in_ok-frame.ensures.out);
    }
