use Rattle.std.proofs.Common.{◌≡◌, ◌==◌, Bool, true, false, ◌&&◌, nat_eq, Decides, refl, ap}
use Rattle.std.specs.Ordering.{on, eq_of_both}
use Rattle.std.specs.Cmp.Lexicographic.{pointwise}
use Rattle.std.proofs.lemmas.Bool.{eqb-true, eq-eqb}
use Rattle.std.proofs.lemmas.Slice.Eq.{bytes_eq-Decides, slice_eq-Decides}
use Rattle.qh_spec.specs.Fields.{Field}
use Rattle.qh_spec.proofs.SectionLaws.{field_is}
use Rattle.qh_qpack.proofs.equality.equal_means_same.Goals as goal

both : (p q : Bool) → (p && q) ≡ true → (p ≡ true) × (q ≡ true)
both true q e = (refl, e)
both false q e = cc

joined : (p q : Bool) → p ≡ true → q ≡ true → (p && q) ≡ true
joined p q e f = rw (e, f)

abbrev same : Field → Field → Bool
same = eq_of_both (on (λ f. f.name) (pointwise nat_eq)) (on (λ f. f.value) (pointwise nat_eq))

same_decides : (f g : Field) → Decides (same f g) (f ≡ g)
same_decides f g =
    let name = bytes_eq-Decides f.name g.name in
    let value = bytes_eq-Decides f.value g.value in (
      λ e. let parts = both (pointwise nat_eq f.name g.name) (pointwise nat_eq f.value g.value) e in field_is f g (name.0 parts.0) (value.0 parts.1),
      λ e. joined (pointwise nat_eq f.name g.name) (pointwise nat_eq f.value g.value) (name.1 (ap (λ (z : Field). z.name) e)) (value.1 (ap (λ (z : Field). z.value) e)),
    )

pub returns-clause-decoded : goal.returns-clause-decoded
returns-clause-decoded c = λ a b.
    let fields = slice_eq-Decides same_decides a.fields.items b.fields.items (pointwise same a.fields.items b.fields.items) refl in (
      λ e. let parts = both (pointwise same a.fields.items b.fields.items) (a.mem_size == b.mem_size) e in (fields.0 parts.0, eqb-true a.mem_size b.mem_size parts.1),
      λ e. joined (pointwise same a.fields.items b.fields.items) (a.mem_size == b.mem_size) (fields.1 e.0) (eq-eqb a.mem_size b.mem_size e.1),
    )
