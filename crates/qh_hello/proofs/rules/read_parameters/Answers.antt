use Rattle.std.proofs.Common.{◌≡◌, true, false, refl}
use Rattle.qh_hello.proofs.Keeping.{are_numbers, in_range, out_of_range, breaks_ids, breaks_token, breaks_range}
use Rattle.qh_hello.specs.Refusals.{ids_of}
use Rattle.qh_hello.proofs.rules.read_parameters.Goals as goal

pub returns-then-not-has_ids-clause-err : goal.returns-then-not-has_ids-clause-err
returns-then-not-has_ids-clause-err c h are side =
    breaks_ids (ids_of c.args.used.now) h (c.if-breaks_server_only.ensures.kept refl h are side) (are_numbers h c.in-Some.numbers (c.in-Some.ensures.found h are)) (c.if-not-has_ids.ensures.other refl h are)

pub returns-in_default-token_of-clause-err : goal.returns-in_default-token_of-clause-err
returns-in_default-token_of-clause-err c h are side =
    breaks_token (ids_of c.args.used.now) h (c.if-breaks_server_only.ensures.kept refl h are side) (are_numbers h c.in-Some.numbers (c.in-Some.ensures.found h are)) (c.if-not-has_ids.ensures.yes refl h are)
    (c.in_default-token_of.ensures.none h are)

pub returns-then-not-are_in_range-clause-err : goal.returns-then-not-are_in_range-clause-err
returns-then-not-are_in_range-clause-err c h are side =
    let says = c.in-Some.ensures.found h are in
    breaks_range (ids_of c.args.used.now) h (c.if-breaks_server_only.ensures.kept refl h are side) (are_numbers h c.in-Some.numbers says) (c.if-not-has_ids.ensures.yes refl h are)
    (c.in-Some-token_of.ensures.found h are).1 (out_of_range h c.in-Some.numbers says (λ r. let wrong : false ≡ true = c.if-not-are_in_range.ensures.1 r in cc))

pub returns-clause-ok : goal.returns-clause-ok
returns-clause-ok c h are side =
    let says = c.in-Some.ensures.found h are in
    let ids = c.if-not-has_ids.ensures.yes refl h are in
    let token = c.in-Some-token_of.ensures.found h are in (
      record {
        server_only = c.if-breaks_server_only.ensures.kept refl h are side;
        numbers = are_numbers h c.in-Some.numbers says;
        ids = ids;
        token = token.1;
        range = in_range h c.in-Some.numbers says (c.if-not-are_in_range.ensures.0 refl);
      },
      c.parameters_of.ensures h says ids token.0,
    )
