use Rattle.std.proofs.Common.{◌<◌, length, sym, ap, ◌∙◌, subst}
use Rattle.qh_roles.proofs.ClientGoes.{stream_at, moved_is, lost_goes, kept_goes}
use Rattle.qh_roles.specs.Client.{PlainClient}
use Rattle.qh_roles.proofs.client.Client.poll_stream.Goals as goal

pub replace-stream-requires-clause-opened : goal.replace-stream-requires-clause-opened
replace-stream-requires-clause-opened g c = (stream_at _ c.args.self.now c.args.at c.index.result.now c.self.view_is c.self.invariant.0 c.requires.within c.index.ensures).1

pub returns-in_err-state-clause-goes : goal.returns-in_err-state-clause-goes
returns-in_err-state-clause-goes g c =
    let x = stream_at _ c.args.self.now c.args.at c.index.result.now c.self.view_is c.self.invariant.0 c.requires.within c.index.ensures in
    lost_goes c.args.self.now c.replace-stream.new.self c.args.at c.index.result.now c.replace-stream.result c.advance.result c.args.connection.now c.advance.new.connection
    x.0 c.replace-stream.ensures.value x.1 c.replace-stream.ensures.replaced c.advance.ensures.stirred c.advance.ensures.advances

pub replace-done-requires-clause-opened : goal.replace-done-requires-clause-opened
replace-done-requires-clause-opened g c =
    let x = stream_at _ c.args.self.now c.args.at c.index.result.now c.self.view_is c.self.invariant.0 c.requires.within c.index.ensures in
    subst (λ (n : _). c.index.result.now.index < n) (sym (ap (λ (p : PlainClient). p.next) c.replace-stream.ensures.replaced)) x.1

pub hold-requires : goal.hold-requires
hold-requires g c =
    let x = stream_at _ c.args.self.now c.args.at c.index.result.now c.self.view_is c.self.invariant.0 c.requires.within c.index.ensures in
    record {
      within = subst (λ (n : _). c.index.result.now.index < length n)
          (sym (ap (λ (p : PlainClient). p.answers) c.replace-done.ensures.replaced ∙ ap (λ (p : PlainClient). p.answers) c.replace-stream.ensures.replaced)) x.2;
    }

pub returns-clause-goes : goal.returns-clause-goes
returns-clause-goes g c =
    let x = stream_at _ c.args.self.now c.args.at c.index.result.now c.self.view_is c.self.invariant.0 c.requires.within c.index.ensures in
    let moved = moved_is c.args.self.now c.replace-stream.new.self c.replace-done.new.self c.hold.new.self c.args.at c.index.result.now.index c.in_ok-state.state c.in_ok-state.answer
    c.replace-stream.ensures.replaced c.replace-done.ensures.replaced c.hold.ensures in
    kept_goes c.args.self.now c.hold.new.self c.args.at c.index.result.now c.replace-stream.result c.in_ok-state.state c.in_ok-state.answer c.advance.result c.args.connection.now c.advance.new.connection
    x.0 c.replace-stream.ensures.value x.1 c.in_ok-state.was moved c.advance.ensures.stirred c.advance.ensures.advances
