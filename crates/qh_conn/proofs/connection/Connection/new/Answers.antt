use Rattle.std.proofs.Common.{◌≡◌, List, ℕ, true, false, length, Option, None, sym, ap, subst, ◌∙◌}
use Rattle.std.specs.Prelude.{is_some}
use Rattle.qh_conn.proofs.FirstHandshake.{said_idle}
use Rattle.qh_control.specs.Control.{IsSendable}
use Rattle.qh_control.specs.Items.{streamed}
use Rattle.qh_control.specs.declared.control.ControlState.{ControlState}
use Rattle.qh_converse.specs.Settled.{milliseconds}
use Rattle.qh_core.specs.Inner.{IsNewSpace}
use Rattle.qh_core.specs.declared.config.ConnConfig.{ConnConfig as CoreConfig}
use Rattle.qh_core.specs.declared.inner.Inner.{Inner}
use Rattle.qh_spec.specs.declared.sides.Side.{Side}
use Rattle.qh_streams.specs.declared.items.Item.{Item}
use Rattle.qh_conn.proofs.connection.Connection.new.Goals as goal

pub returns-clause-stands : goal.returns-clause-stands
returns-clause-stands g c =
    let fresh = c.in_ok-handshake.ensures.fresh in
    let ids = c.in_ok-handshake.ensures.ids in
    let core = c.new-core.result in
    let is = c.new-core.ensures.value in
    let side : core.side ≡ c.args.side = ap (λ (z : Inner _). z.side) is in
    let config : core.config ≡ c.core.result = ap (λ (z : Inner _). z.config) is in
    let space : IsNewSpace core.config core.side core.space =
    subst (λ (z : CoreConfig). IsNewSpace z core.side core.space) (sym config) (subst (λ (z : Side). IsNewSpace c.core.result z core.space) (sym side) c.new-core.ensures.space) in
    let own = ap (λ (z : CoreConfig). z.idle) (config ∙ c.core.ensures) in
    let unsettled : milliseconds core.config.idle ≡ c.in_ok-handshake.handshake.parameters.max_idle_timeout = ap milliseconds own
    ∙ sym (said_idle c.args.config c.args.side c.args.local_id c.args.key_id c.in_ok-handshake.handshake.parameters c.in_ok-handshake.ensures.said) in
    let runs : core.idle.timeout ≡ core.config.idle = ap (λ (z : Inner _). z.idle.timeout) is ∙ sym (ap (λ (z : CoreConfig). z.idle) config) in
    (fresh.0, fresh.1, λ accepts sealed. c.hears.ensures.fresh accepts sealed fresh.0 c.in_ok-handshake.handshake core fresh.1 (side ∙ sym ids.0) (ap (λ (z : Inner _). z.local_id) is ∙ sym ids.1) space c.new-core.ensures.follows unsettled (λ _. runs))

pub returns-clause-whole : goal.returns-clause-whole
returns-clause-whole g c =
    let ids = c.in_ok-handshake.ensures.ids in
    let core = c.new-core.result in
    let is = c.new-core.ensures.value in
    let side : core.side ≡ c.args.side = ap (λ (z : Inner _). z.side) is in
    let config : core.config ≡ c.core.result = ap (λ (z : Inner _). z.config) is in
    let none : core.config.peer_datagram ≡ None = ap (λ (z : CoreConfig). z.peer_datagram) (config ∙ c.core.ensures) in
    let control = c.in_ok-control.control in
    record {
      sound = record {
        handshake = c.in_ok-handshake.ensures.whole;
        side_is = side ∙ sym ids.0;
        id_is = ap (λ (z : Inner _). z.local_id) is ∙ sym ids.1;
        as_long = ap (λ (z : Inner _). length z.remote_id) is ∙ sym (ap (λ (z : ControlState). length z.ids.active.id) c.in_ok-control.ensures.state);
        sendable = subst (λ (z : Option ℕ). IsSendable core.side z control) (sym none) (c.in_ok-control.ensures.sendable core.side);
        ungreeted = λ _. none;
        connected = λ e. cc;
      };
      current = λ _. ap (λ (z : Option (List Item)). streamed z) c.new-core.ensures.space.log;
      client = λ _ greeted. let z : true ≡ false = sym greeted ∙ ap is_some ids.5 in cc;
    }
