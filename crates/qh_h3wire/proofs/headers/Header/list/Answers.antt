use Rattle.std.proofs.Common.{◌≡◌, ◌++◌, List, ap, ◌∙◌, subst}
use Rattle.std.specs.List.{AllByRecursion}
use Rattle.qh_qpack.specs.SectionFault.{IsWritable}
use Rattle.qh_spec.specs.Fields.{Field, map_fields}
use Rattle.qh_h3wire.specs.HeadFields.{with_fields}
use Rattle.qh_h3wire.specs.Header.{written_fields}
use Rattle.qh_h3wire.proofs.Listed.{sendable}
use Rattle.qh_h3wire.proofs.headers.Header.list.Goals as goal

pub returns-clause-sendable : goal.returns-clause-sendable
returns-clause-sendable c =
    let head = c.self.inside in
    let listed : c.push_map.new.fields.items ≡ written_fields (with_fields head.fields head.pseudo) =
    c.in_ok-push_map.ensures.value ∙ ap (λ (z : List Field). z ++ map_fields head.fields) c.in_ok-list.ensures.value in
    let short = subst (AllByRecursion IsWritable) listed (c.in_ok-push_map.ensures.short c.in_ok-list.ensures.short) in
    rw (← c.self.view_is) (sendable head.pseudo head.fields c.in_ok-list.ensures.kinds c.in_ok-push_map.ensures.plain c.in_ok-push_map.ensures.is_map short)
