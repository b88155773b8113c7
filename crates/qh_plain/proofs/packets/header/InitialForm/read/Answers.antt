use Rattle.qh_spec.specs.QuicFrames.{Counted, ShortCounted}
use Rattle.qh_plain.proofs.HeaderReads.{form_parts, form_from, same_destination, same_source, same_token, value_at}
use Rattle.qh_plain.proofs.packets.header.InitialForm.read.Goals as goal

pub returns-in_default-id-2-clause-none : goal.returns-in_default-id-2-clause-none
returns-in_default-id-2-clause-none c = λ front rest body first e i.
    let p = form_parts c.args.bytes.now front rest body first e i in
    let same = same_destination c.args.bytes.now body rest first c.in-Some.first c.in-Some.rest.now _ c.in-Some-id.rest.now p c.in-Some.ensures.found.0 c.in-Some-id.ensures.found.0 in
    c.in_default-id-2.ensures.none p.source p.after_source (value_at ShortCounted p.after_destination c.in-Some-id.rest.now p.source p.after_source same p.source_is) p.source_fits

pub returns-in_default-counted-clause-none : goal.returns-in_default-counted-clause-none
returns-in_default-counted-clause-none c = λ front rest body first e i.
    let p = form_parts c.args.bytes.now front rest body first e i in
    let same = same_source c.args.bytes.now body rest first c.in-Some.first c.in-Some.rest.now _ c.in-Some-id.rest.now _ c.in-Some-id-2.rest.now p c.in-Some.ensures.found.0 c.in-Some-id.ensures.found.0
    c.in-Some-id-2.ensures.found.0 in
    c.in_default-counted.ensures.none p.token p.after_token (value_at Counted p.after_source c.in-Some-id-2.rest.now p.token p.after_token same p.token_is)

pub returns-in_default-counted-2-clause-none : goal.returns-in_default-counted-2-clause-none
returns-in_default-counted-2-clause-none c = λ front rest body first e i.
    let p = form_parts c.args.bytes.now front rest body first e i in
    let same = same_token c.args.bytes.now body rest first c.in-Some.first c.in-Some.rest.now _ c.in-Some-id.rest.now _ c.in-Some-id-2.rest.now _ c.in-Some-counted.rest.now p c.in-Some.ensures.found.0
    c.in-Some-id.ensures.found.0 c.in-Some-id-2.ensures.found.0 c.in-Some-counted.ensures.found in
    c.in_default-counted-2.ensures.none body rest (value_at Counted p.after_token c.in-Some-counted.rest.now body rest same p.body_is)

pub returns-clause-found : goal.returns-clause-found
returns-clause-found c =
    form_from c.args.bytes.now c.in-Some-counted-2.body.now c.in-Some-counted-2.rest.now c.in-Some.first (record {
      destination = c.in-Some-id._destination.now;
      source = c.in-Some-id-2._source.now;
      token = c.in-Some-counted._token.now;
      ids = c.in-Some.rest.now;
      after_destination = c.in-Some-id.rest.now;
      after_source = c.in-Some-id-2.rest.now;
      after_token = c.in-Some-counted.rest.now;
      head = c.in-Some.ensures.found.0;
      long_header = c.in-Some.ensures.found.1;
      initial_type = c.in-Some.ensures.found.2;
      destination_is = c.in-Some-id.ensures.found.0;
      destination_fits = c.in-Some-id.ensures.found.1;
      source_is = c.in-Some-id-2.ensures.found.0;
      source_fits = c.in-Some-id-2.ensures.found.1;
      token_is = c.in-Some-counted.ensures.found;
      body_is = c.in-Some-counted-2.ensures.found;
    })
