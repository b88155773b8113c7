use Rattle.std.proofs.Common.{◌<◌, Some, length, refl, subst, sym, ap, ◌∙◌, arith}
use Rattle.std.proofs.lemmas.Option.{slice_get-get_or}
use Rattle.qh_roles.proofs.ClientGoes.{client_next, client_push, next_asking, push_asking}
use Rattle.qh_roles.specs.Client.{PlainClient, Asking, SpellsAsked}
use Rattle.qh_roles.proofs.client.Client.begin.Goals as goal

pub write_message-requires : goal.write_message-requires
write_message-requires c =
    let left = subst (λ (p : PlainClient). p.next < length p.requests) (sym c.self.view_is) c.requires.left in
    (c.self.invariant.0.askable c.self.inside.next c.index.result.now (slice_get-get_or c.self.inside.requests.items c.self.inside.next c.index.result.now left ∙ ap Some (sym c.index.ensures))).1

pub invariant_of-self : goal.invariant_of-self
invariant_of-self c =
    let left = subst (λ (p : PlainClient). p.next < length p.requests) (sym c.self.view_is) c.requires.left in
    (client_next _ left c.self.invariant.0, c.self.invariant.1)

pub returns-in_err-bytes-clause-asks : goal.returns-in_err-bytes-clause-asks
returns-in_err-bytes-clause-asks c = λ t at a.
    next_asking (record { requests = c.self.inside.requests.items; next = c.self.inside.next; streams = c.self.inside.streams.items; answers = c.self.inside.answers.items }) t
    (subst (λ (p : PlainClient). Asking p t) (sym c.self.view_is) a)

pub invariant_of-self-in_err-push : goal.invariant_of-self-in_err-push
invariant_of-self-in_err-push c =
    let left = subst (λ (p : PlainClient). p.next < length p.requests) (sym c.self.view_is) c.requires.left in
    rw c.in_err-push.ensures.items (client_next _ left c.self.invariant.0, c.self.invariant.1)

pub returns-in_err-push-clause-asks : goal.returns-in_err-push-clause-asks
returns-in_err-push-clause-asks c = λ t at a.
    rw c.in_err-push.ensures.items
    (next_asking (record { requests = c.self.inside.requests.items; next = c.self.inside.next; streams = c.self.inside.streams.items; answers = c.self.inside.answers.items }) t
    (subst (λ (p : PlainClient). Asking p t) (sym c.self.view_is) a))

pub invariant_of-self-2 : goal.invariant_of-self-2
invariant_of-self-2 c =
    let left = subst (λ (p : PlainClient). p.next < length p.requests) (sym c.self.view_is) c.requires.left in
    rw c.in_ok-push.ensures.items (client_push (record { requests = c.self.inside.requests.items; next = c.self.inside.next; streams = c.self.inside.streams.items; answers = c.self.inside.answers.items }) _ left refl c.self.invariant.0, c.self.invariant.1)

pub returns-clause-asks : goal.returns-clause-asks
returns-clause-asks c = λ t at a.
    let left = subst (λ (p : PlainClient). p.next < length p.requests) (sym c.self.view_is) c.requires.left in
    let here = slice_get-get_or c.self.inside.requests.items c.self.inside.next c.index.result.now left ∙ ap Some (sym c.index.ensures) in
    let next = ap (λ (p : PlainClient). p.next) c.self.view_is in
    let spelled : SpellsAsked c.self.inside.requests.items c.self.inside.next c.in_ok-bytes.bytes.items = record {
      asked = c.index.result.now;
      asked_is = here;
      is_request = (c.self.invariant.0.askable c.self.inside.next c.index.result.now here).0;
      spells = c.in_ok-bytes.ensures.spells;
    } in
    rw (c.in_ok-push.ensures.items, c.new.ensures)
    (push_asking (record { requests = c.self.inside.requests.items; next = c.self.inside.next; streams = c.self.inside.streams.items; answers = c.self.inside.answers.items }) c.args.stream.0 c.in_ok-bytes.bytes.items t
    c.self.invariant.0 (omega (arith, at, next)) spelled (subst (λ (p : PlainClient). Asking p t) (sym c.self.view_is) a))
