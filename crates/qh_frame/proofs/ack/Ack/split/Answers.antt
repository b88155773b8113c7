use Rattle.qh_frame.proofs.AckRanges.{split_covers}
use Rattle.qh_frame.specs.Plain.{ranges_of}
use Rattle.qh_frame.proofs.ack.Ack.split.Goals as goal

pub returns-clause-covers : goal.returns-clause-covers
returns-clause-covers c = λ n.
    split_covers c.args.self.now.greatest c.args.self.now.first c.first_range-range.result.least c.first_range-range.result.greatest n (ranges_of c.args.self.now) c.below.result
    c.first_range-range.ensures.greatest c.first_range-range.ensures.least c.below.ensures
