use Rattle.std.proofs.Common.{◌≡◌, ◌+◌, length, ap, ◌∙◌, arith}
use Rattle.qh_control.specs.Items.{items_in}
use Rattle.qh_control.specs.declared.items.LogEntry.{LogEntry}
use Rattle.qh_control.proofs.Logs.{counted_more, streams_counted}
use Rattle.qh_control.proofs.items.count_items.Goals.{in-Own, in-Streams}
use Rattle.qh_control.proofs.items.count_items.Goals as goal

pub loop-entry-preserved : goal.loop-entry-preserved
loop-entry-preserved c =
    let more = counted_more c.args.entries.now c.loop-entry.entry-index c.entry-item.result c.loop-entry-test.true c.entry-item.is in
    let so_far = c.loop-entry.invariant in
    let sum : c.in-Some.sum ≡ c.loop-entry.count + c.match-entry.more = c.in-Some.ensures.1 in
    elim c.match-entry.branch [
      | in-Own w ↦
          let one : length (items_in c.entry-item.result) ≡ 1 = ap (λ (e : LogEntry). length (items_in e)) w.in-Own.is in
          omega (arith, more, so_far, sum, one, w.more-is)
      | in-Streams w ↦
          let many = ap (λ (e : LogEntry). length (items_in e)) w.in-Streams.is ∙ streams_counted w.in-Streams.items in
          omega (arith, more, so_far, sum, many, w.more-is, w.len-more.ensures)
    ]
