use Rattle.std.proofs.Common.{ℕ, refl, subst, arith}
use Rattle.qh_packet.specs.LongHeader.{IsLongHeader}
use Rattle.qh_base.proofs.CountedBytes.{at_none}
use Rattle.qh_packet.proofs.InitialForms.{form_parts, form_from, after_counted, counted_at}
use Rattle.qh_packet.proofs.LongHeaders.{same_header}
use Rattle.qh_packet.proofs.initial.InitialForm.read.Goals as goal

pub returns-in_err-header-clause-none : goal.returns-in_err-header-clause-none
returns-in_err-header-clause-none c = at_none c.from_residual.result (λ front rest body first e i.
    let p = form_parts c.args.bytes.now front rest body first e i in
    c.in_err-header.ensures.none first 1 i.destination i.source p.after_source p.header)

pub returns-in_err-token-clause-none : goal.returns-in_err-token-clause-none
returns-in_err-token-clause-none c = at_none c.from_residual-in_err-token.result (λ front rest body first e i.
    let p = form_parts c.args.bytes.now front rest body first e i in
    let same = same_header c.args.bytes.now first 1 i.destination i.source p.after_source c.in_ok-header.header.first c.in_ok-header.header.version c.in_ok-header.header.destination.now c.in_ok-header.header.source.now
    c.in_ok-header.header.rest.now p.header c.in_ok-header.ensures.found in
    c.in_err-token.ensures.none i.token p.after_token (counted_at p.after_source c.in_ok-header.header.rest.now i.token p.after_token same.same_rest p.token_is))

pub returns-in_err-body-clause-none : goal.returns-in_err-body-clause-none
returns-in_err-body-clause-none c = at_none c.from_residual-in_err-body.result (λ front rest body first e i.
    let p = form_parts c.args.bytes.now front rest body first e i in
    let same = same_header c.args.bytes.now first 1 i.destination i.source p.after_source c.in_ok-header.header.first c.in_ok-header.header.version c.in_ok-header.header.destination.now c.in_ok-header.header.source.now
    c.in_ok-header.header.rest.now p.header c.in_ok-header.ensures.found in
    let at = counted_at p.after_source c.in_ok-header.header.rest.now i.token p.after_token same.same_rest p.token_is in
    let behind = after_counted c.in_ok-header.header.rest.now i.token p.after_token c.in_ok-token.token.now c.in_ok-token.rest.now at c.in_ok-token.ensures.found in
    c.in_err-body.ensures.none body rest (counted_at p.after_token c.in_ok-token.rest.now body rest behind p.body_is))

pub returns-clause-found : goal.returns-clause-found
returns-clause-found c =
    let of = c.if-not-is_of.ensures.0 refl in
    let type_is = of.1 in
    let header = c.in_ok-header.ensures.found in
    let low = header.long_form in
    let high = header.first_fits in
    form_from c.args.bytes.now c.in_ok-header.header.first c.in_ok-header.header.destination.now c.in_ok-header.header.source.now c.in_ok-token.token.now c.in_ok-body.body.now c.in_ok-body.rest.now
    (record {
      after_source = c.in_ok-header.header.rest.now;
      after_token = c.in_ok-token.rest.now;
      header = subst (λ (v : ℕ). IsLongHeader c.args.bytes.now c.in_ok-header.header.first v c.in_ok-header.header.destination.now c.in_ok-header.header.source.now c.in_ok-header.header.rest.now) of.0 header;
      initial_type = omega (arith, type_is, low, high);
      token_is = c.in_ok-token.ensures.found;
      body_is = c.in_ok-body.ensures.found;
    })
