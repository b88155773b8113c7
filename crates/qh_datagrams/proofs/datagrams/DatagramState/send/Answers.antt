use Rattle.std.proofs.Common.{◌+◌, ◌≤◌, length, sym, ap, ◌∙◌, arith, rules}
use Rattle.std.proofs.lemmas.Bool.{leb-true}
use Rattle.qh_datagrams.specs.Datagrams.{PlainDatagrams, bytes_of}
use Rattle.qh_datagrams.proofs.Rooms.{with_room-all}
use Rattle.qh_datagrams.proofs.datagrams.DatagramState.send.Goals as goal
use Rattle.qh_datagrams.proofs.datagrams.DatagramState.send.Goals.{else-not-drop_old-via-then-not-drop_old+else-not-has_room, else-not-drop_old-via-else-not-drop_old}

pub returns-clause-kept : goal.returns-clause-kept
returns-clause-kept c = λ keep.
    let fits : bytes_of c.args.self.now.outgoing + length c.args.payload ≤ c.args.room = elim c.else-not-drop_old.branch [
      | else-not-drop_old-via-then-not-drop_old+else-not-has_room w ↦
          let room = leb-true _ _ (sym w.has_room.ensures ∙ w.if-not-has_room.false) in
          let same = ap (λ (s : PlainDatagrams). bytes_of s.outgoing) c.self.view_is in
          omega (arith, room, same, w.len.ensures.value)
      | else-not-drop_old-via-else-not-drop_old w ↦ cc
    ] in
    (fits, rw (← with_room-all (length c.args.payload) c.args.room c.args.self.now.outgoing fits) (search rules))
