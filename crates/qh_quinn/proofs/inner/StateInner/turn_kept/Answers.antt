use Rattle.std.proofs.Common.{◌≡◌, ◌+◌, ◌≤◌, ◌∙◌, [], sym, ap, inl, inr, refl, arith}
use Rattle.std.specs.Option.{option_map}
use Rattle.std.specs.Prelude.{vec_len, vec_capacity}
use Rattle.qh_quinn.proofs.SendingOn.{sent_none}
use Rattle.qh_quinn.proofs.TurnRecords.{brought_is, if_ok, log_taken_sent, turn_in, turn_recorded}
use Rattle.qh_quinn.specs.declared.inner.StateInner.{StateInner}
use Rattle.qh_quinn.proofs.inner.StateInner.turn_kept.Goals as goal

pub returns-then-is_err-clause-turned : goal.returns-then-is_err-clause-turned
returns-then-is_err-clause-turned g c = ([], inr (refl, refl, refl, c.room_for_turn.ensures.same), sent_none (g.X.AsyncUdpSocket.departed c.args.socket.now), λ ready is. cc)

pub returns-clause-turned : goal.returns-clause-turned
returns-clause-turned g c =
    let t = c.turn-answer.ensures.turned in
    let k = c.keep_turn.ensures in (
      t.0,
      inl (turn_in _ c.args.self.now c.args.history.now.entries.items c.room_for_turn.new.history.entries.items c.keep_turn.new.history.entries.items c.args.now c.args.part.now.is_held t.0 c.turn-answer.result c.turn-answer.new.self c.keep_turn.new.self t.1 c.requires.kept.0
          k.taken c.room_for_turn.ensures.same (k.entry c.args.self.now c.standing-before.ensures)),
      t.2,
      t.3,
    )

pub returns-clause-kept : goal.returns-clause-kept
returns-clause-kept g c =
    let t = c.turn-answer.ensures.turned in
    let k = c.keep_turn.ensures in
    let old = c.args.self.now in
    let mid = c.turn-answer.new.self in
    let new = c.keep_turn.new.self in
    let before = c.args.history.now.entries.items in
    let room = c.room_for_turn.new.history in
    let after = c.keep_turn.new.history in
    let turn = turn_in _ old before room.entries.items after.entries.items c.args.now c.args.part.now.is_held t.0 c.turn-answer.result mid new t.1 c.requires.kept.0 k.taken c.room_for_turn.ensures.same (k.entry old c.standing-before.ensures) in
    let fits = if_ok c.room_for_turn.result (vec_len room.entries + (1 + old.handles) ≤ vec_capacity room.entries) (sym c.is_err.ensures.value ∙ c.if-is_err.false) c.room_for_turn.ensures.room in
    let handles : new.handles ≡ mid.handles = ap (λ (z : StateInner _). z.handles) k.taken in (
      turn_recorded _ old before c.args.now c.args.part.now.is_held t.0 c.turn-answer.result new after.entries.items c.requires.kept.0 turn
          (k.came ∙ ap (option_map (λ _. [])) (brought_is old.connection mid.connection t.1.items c.requires.kept.0.taken t.1.logs)),
      omega (arith, fits, k.len, k.capacity, handles, t.1.handles.0),
    )

pub returns-clause-sent : goal.returns-clause-sent
returns-clause-sent g c = λ free ready is calm. log_taken_sent c.turn-answer.new.self c.keep_turn.new.self c.keep_turn.ensures.taken (c.turn-answer.ensures.sent free ready is calm)
