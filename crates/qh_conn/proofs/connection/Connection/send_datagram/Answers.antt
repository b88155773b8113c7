use Rattle.std.proofs.Common.{◌≡◌, List, Bool, true, false, Result, Ok, Err, ℕ, length, refl, sym, ap, ◌∙◌}
use Rattle.std.specs.Prelude.{IfErr, OnOk, is_some}
use Rattle.qh_conn.proofs.LogKept.{current_by}
use Rattle.qh_conn.specs.Whole.{IsWhole}
use Rattle.qh_conn.specs.declared.connection.Connection.{Connection}
use Rattle.qh_control.specs.Control.{IsSendable}
use Rattle.qh_control.specs.declared.control.ControlState.{ControlState}
use Rattle.qh_control.specs.declared.datagrams.DatagramFault.{DatagramFault}
use Rattle.qh_control.specs.declared.datagrams.DatagramFault.TheVariants.{Disabled, UnsupportedByPeer, TooLarge, Blocked, Memory}
use Rattle.qh_conn.proofs.connection.Connection.send_datagram.Goals as goal

-- what of it a datagram that is queued, or isn't, leaves as it is
kept_by : {A : Type 0} (f : ControlState → A) (drop_old : Bool) (P : Type 0) (old new : ControlState) (a b c : ControlState) (result : Result Unit DatagramFault) → f a ≡ f old → f b ≡ f old → f c ≡ f old
    → (drop_old ≡ false → OnOk result (P × (new ≡ a))) → (drop_old ≡ true → OnOk result (new ≡ b))
    → IfErr result (λ e. (back : List ℕ) → e ≡ Blocked back → new ≡ c) → IfErr result (λ e. ((back : List ℕ) → e ≡ Blocked back → ⊥) → new ≡ old) → f new ≡ f old
kept_by f true P old new a b c (Ok _) ia ib ic kept dropped blocked unchanged = ap f (dropped refl) ∙ ib
kept_by f false P old new a b c (Ok _) ia ib ic kept dropped blocked unchanged = ap f (kept refl).1 ∙ ia
kept_by f d P old new a b c (Err (Blocked back)) ia ib ic kept dropped blocked unchanged = ap f (blocked back refl) ∙ ic
kept_by f d P old new a b c (Err Disabled) ia ib ic kept dropped blocked unchanged = ap f (unchanged (λ back e. cc))
kept_by f d P old new a b c (Err UnsupportedByPeer) ia ib ic kept dropped blocked unchanged = ap f (unchanged (λ back e. cc))
kept_by f d P old new a b c (Err TooLarge) ia ib ic kept dropped blocked unchanged = ap f (unchanged (λ back e. cc))
kept_by f d P old new a b c (Err Memory) ia ib ic kept dropped blocked unchanged = ap f (unchanged (λ back e. cc))

control_whole : {S : Type 0} (c : Connection S) (s : ControlState) → IsWhole c → IsSendable c.core.side c.core.config.peer_datagram s → s.ids.active.id ≡ c.control.ids.active.id
    → s.log ≡ c.control.log → IsWhole (record c { control = s })
control_whole c s w sendable id log = record {
  sound = record {
    handshake = w.sound.handshake;
    side_is = w.sound.side_is;
    id_is = w.sound.id_is;
    as_long = w.sound.as_long ∙ sym (ap (λ (z : List ℕ). length z) id);
    sendable = sendable;
    ungreeted = w.sound.ungreeted;
    connected = w.sound.connected;
  };
  current = current_by c (record c { control = s }) (λ on. ap is_some (sym log) ∙ on) refl refl w.current;
  client = w.client;
}

pub returns-clause-whole : goal.returns-clause-whole
returns-clause-whole g c =
    let old = c.args.self.now in
    let e = c.send_datagram.ensures in
    control_whole old c.send_datagram.new.self c.requires (e.sendable old.core.side old.core.config.peer_datagram c.requires.sound.sendable)
    (kept_by (λ (z : ControlState). z.ids.active.id) c.args.drop_old _ old.control c.send_datagram.new.self _ _ _ c.send_datagram.result refl refl refl e.kept e.dropped e.blocked e.unchanged)
    (kept_by (λ (z : ControlState). z.log) c.args.drop_old _ old.control c.send_datagram.new.self _ _ _ c.send_datagram.result refl refl refl e.kept e.dropped e.blocked e.unchanged)
