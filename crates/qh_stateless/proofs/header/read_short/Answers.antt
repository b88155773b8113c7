use Rattle.std.proofs.Common.{drop, refl, sym, ap, ◌∷◌, ◌∙◌, List, ℕ, arith}
use Rattle.std.proofs.lemmas.List.{length-take-le, take-append-drop}
use Rattle.qh_stateless.proofs.header.read_short.Goals as goal

pub returns-clause-found : goal.returns-clause-found
returns-clause-found c =
    let fits = c.if-id_len-gt-MAX_LEN.false in
    let there = c.if-id_len-rest.false in
    let size = length-take-le c.args.id_len c.in_ok-first.rest.now (omega (arith, there)) in
    record {
      rest = drop c.args.id_len c.in_ok-first.rest.now;
      whole = c.in_ok-first.ensures.cases.0 ∙ ap (λ (z : List ℕ). c.in_ok-first.first.now ∷ z) (sym (take-append-drop c.args.id_len c.in_ok-first.rest.now));
      short_form = omega (arith, c.if-first-ge128.false);
      fixed = c.if-not-is_fixed.ensures.0 refl;
      length_is = size;
      destination_fits = omega (arith, size, fits);
    }
