use Rattle.std.proofs.Common.{ap, ◌∙◌}
use Rattle.qh_quinn.proofs.Begun.{IsAround, first_is, first_state, first_unused}
use Rattle.qh_quinn.specs.Readers.{reader_in}
use Rattle.qh_quinn.specs.Waiting.{interests_in}
use Rattle.qh_quinn.specs.declared.inner.StateInner.{StateInner}
use Rattle.qh_quinn.proofs.inner.StateInner.new.Goals as goal

pub returns-clause-first : goal.returns-clause-first
returns-clause-first g c =
    let s = c.forward_app_events.new.self in
    let e = c.forward_app_events.ensures in
    let law = c.times_bring.ensures.told in
    let around : IsAround c.args.connection c.args.stable_id s = record {
      stable_id_is = ap (λ (z : StateInner _). z.stable_id) e.rest;
      error = ap (λ (z : StateInner _). z.error) e.rest ∙ c.close_reason-error.ensures;
      handles = ap (λ (z : StateInner _). z.handles) e.rest;
      readers = λ k. ap (λ (z : StateInner _). reader_in z.readers k) e.rest ∙ c.new.ensures k;
      waiting = e.waiting ∙ ap interests_in c.new-2.ensures.items;
      told = e.told;
    } in
    record {
      state = first_state law c.args.connection c.args.stable_id s c.requires.begun c.requires.logging around e.whole e.due c.is_owed.ensures.open c.is_owed.ensures.closed;
      shows = λ begun. first_is law c.args.connection c.args.stable_id s begun around;
      told = e.told;
      events = ap (λ (z : StateInner _). z.events.items) e.rest ∙ c.new-3.ensures.items;
      outgoing = ap (λ (z : StateInner _). z.outgoing) e.rest;
      last_turn = ap (λ (z : StateInner _). z.last_turn) e.rest;
    }

pub returns-clause-unused : goal.returns-clause-unused
returns-clause-unused g c =
    let s = c.forward_app_events.new.self in
    let e = c.forward_app_events.ensures in
    let around : IsAround c.args.connection c.args.stable_id s = record {
      stable_id_is = ap (λ (z : StateInner _). z.stable_id) e.rest;
      error = ap (λ (z : StateInner _). z.error) e.rest ∙ c.close_reason-error.ensures;
      handles = ap (λ (z : StateInner _). z.handles) e.rest;
      readers = λ k. ap (λ (z : StateInner _). reader_in z.readers k) e.rest ∙ c.new.ensures k;
      waiting = e.waiting ∙ ap interests_in c.new-2.ensures.items;
      told = e.told;
    } in
    λ logged calm. first_unused c.times_bring.ensures.told c.args.connection c.args.stable_id s logged calm around
