use Rattle.qh_plain.proofs.Agreement.{agree_means, means_agree}
use Rattle.qh_plain.proofs.meanings.fields.means_fields.Goals as goal

pub returns-in_ok-are_covered : goal.returns-in_ok-are_covered
returns-in_ok-are_covered c =
    let m = c.args.map.now in
    let fs = c.args.fields.now in (
      λ t. agree_means m fs (c.has_their_values.ensures.0 c.if-has_their_values.true) (c.in_ok-are_covered.ensures.0 t),
      λ means. c.in_ok-are_covered.ensures.1 (means_agree m fs means).1,
    )

pub returns-else-has_their_values : goal.returns-else-has_their_values
returns-else-has_their_values c =
    let m = c.args.map.now in
    let fs = c.args.fields.now in (
      λ t. absurd (let f = c.if-has_their_values.false in cc),
      λ means. c.has_their_values.ensures.1 (means_agree m fs means).0,
    )
