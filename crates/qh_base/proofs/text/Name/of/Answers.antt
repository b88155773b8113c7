use Rattle.std.proofs.lemmas.List.{take_min}
use Rattle.qh_base.proofs.text.Name.of.Goals as goal

pub returns : goal.returns
returns c =
    let kept = rw c.unwrap.ensures at c.try_extend_from_slice.ensures.ok in
    rw (kept, c.new-kept.ensures, c.min.ensures) (take_min 255 c.args.bytes.now)
