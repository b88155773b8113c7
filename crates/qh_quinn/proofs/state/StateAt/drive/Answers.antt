use Rattle.std.proofs.Common.{◌≡◌, ◌∙◌, Option, Some, ap, sym, subst}
use Rattle.std.specs.Option.{option_map}
use Rattle.qh_handshake.specs.Incoming.{SessionView}
use Rattle.qh_quinn.proofs.TurnRecords.{turns_kept}
use Rattle.qh_quinn.specs.Kept.{PlainState, TurnsKept}
use Rattle.qh_quinn.proofs.state.StateAt.drive.Goals as goal

pub returns-in-Some-clause-value : goal.returns-in-Some-clause-value
returns-in-Some-clause-value g c =
    let t = c.turn_kept.ensures.turned in
    let v : SessionView g.row.S.Denot = record { name = g.S.Session.name; knows = g.S.Session.knows; key = g.S.Session.key; sealed = g.S.Session.sealed; accepts = g.S.Session.accepts } in
    let inner = c.self.inside.inner in
    let before = c.in-Some.history.entries.items in
    let after = c.turn_kept.new.history.entries.items in
    let view : c.args.self.now ≡ record { inner = inner; history = Some before } = sym c.self.view_is ∙ ap (λ (h : Option _). record { inner = inner; history = option_map (λ x. x.entries.items) h }) c.in-Some.is in (
      t.0,
      (
        subst (λ (s : PlainState g.row.S.Denot g.row.S-HandshakeData.Denot). TurnsKept v s c.args.now c.args.part.now.is_held t.0 c.turn_kept.result (record { inner = c.turn_kept.new.self; history = Some after })) (sym view)
            (turns_kept v inner c.turn_kept.new.self before after c.args.now c.args.part.now.is_held t.0 c.turn_kept.result t.1),
        c.turn_kept.ensures.heard,
      ),
      t.2,
      t.3,
    )
