use Rattle.std.proofs.Common.{◌≡◌, Option, Result, None, Some, Ok, Err, refl, ap}
use Rattle.std.proofs.lemmas.Result.{on_err_weaker}
use Rattle.std.specs.Prelude.{IfOk, IfSome}
use Rattle.qh_base.specs.declared.memory.Memory.{Memory as OutOfMemory}
use Rattle.qh_base.specs.declared.path.Transmit.{Transmit}
use Rattle.qh_conn.proofs.CoreLog.{failed_told, transmit_log}
use Rattle.qh_conn.proofs.InSound.{on_ok, safe_of}
use Rattle.qh_conn.proofs.LogKept.{core_goes}
use Rattle.qh_conn.proofs.OutCarries.{transmit_carries}
use Rattle.qh_conn.proofs.OutWhole.{data_sound, data_whole}
use Rattle.qh_core.proofs.MadeEnds.{transmit_made}
use Rattle.qh_core.specs.declared.inner.Inner.{Inner}
use Rattle.qh_spec.specs.declared.sides.Space.TheVariants.{Data}
use Rattle.qh_conn.proofs.SameParts.{transmit_stays}
use Rattle.qh_conn.proofs.Same.{same_core}
use Rattle.std.proofs.Common.{inr}
use Rattle.qh_conn.proofs.connection.Connection.transmit_core.Goals as goal

none_of : {P Q : Type 0} (result : Result (Option Transmit) OutOfMemory) → IfOk result (λ o. o ≡ None → P) → (P → Q) → IfOk result (λ o. o ≡ None → Q)
none_of (Ok o) h f = λ e. f (h e)
none_of (Err e) h f = tt

some_of : (P : Transmit → Type 0) (Q : Type 0) (result : Result (Option Transmit) OutOfMemory) → IfOk result (λ o. IfSome o P) → ((m : Transmit) → P m → Q) → IfOk result (λ o. IfSome o (λ m. Q))
some_of P Q (Ok (Some m)) h f = f m h
some_of P Q (Ok None) h f = tt
some_of P Q (Err e) h f = tt

pub returns-clause-none : goal.returns-clause-none
returns-clause-none g c =
    none_of c.poll_transmit.result c.poll_transmit.ensures.none (λ n. (n.0, ap (λ (z : Inner _). record c.args.self.now { core = z }) n.1.0, n.1.1))

pub returns-clause-carries : goal.returns-clause-carries
returns-clause-carries g c = λ named makes hello t p.
    let old = c.args.self.now in
    let before = c.args.buf.now.items in
    let after = c.poll_transmit.new.buf.items in
    let new = c.poll_transmit.new.self in
    let e = c.poll_transmit.ensures in
    transmit_carries g.S.Session.accepts g.S.Session.sealed before after hello c.poll_transmit.result old.handshake old.core new old.is_connected t (c.requires.whole.sound.connected c.requires.connected).0
    (λ acts part made b. c.behaves_on.ensures g.S.Session.accepts g.S.Session.sealed old.core new acts part named (λ from number h. makes from Data number h) made b)
    (λ d made short q. c.sends.ensures.sent g.S.Session.accepts g.S.Session.sealed hello d old.handshake old.core new old.is_connected t named (λ from number h. makes from Data number h) made short
    (c.requires.whole.sound.connected c.requires.connected).0 (λ _. c.requires.connected) q)
    (some_of _ _ c.poll_transmit.result e.some (λ m made. c.sends.ensures.short (g.S.Session.sealed old.core.session) c.args.now old.core new before after m made))
    (transmit_made g.S.Session.accepts g.S.Session.sealed c.args.now before after c.poll_transmit.result old.core new e.some e.read_back e.undisturbed e.none e.err e.follows e.same_end) p

pub returns-clause-safe : goal.returns-clause-safe
returns-clause-safe g c =
    let old = c.args.self.now in
    safe_of _ (data_sound old c.poll_transmit.new.self old.control old.is_control_next c.requires.whole c.poll_transmit.ensures.same_end c.requires.whole.sound.sendable refl)

pub returns-clause-whole : goal.returns-clause-whole
returns-clause-whole g c =
    let old = c.args.self.now in
    let new = c.poll_transmit.new.self in
    let e = c.poll_transmit.ensures in
    on_ok _ _ (λ log. data_whole old new old.control old.is_control_next c.requires.whole c.requires.connected e.same_end c.requires.whole.sound.sendable refl (λ on. on) log) c.poll_transmit.result
    (transmit_log _ c.args.now c.args.buf.now.items c.poll_transmit.new.buf.items _ c.poll_transmit.result old.core new e.some e.none)

pub returns-clause-log : goal.returns-clause-log
returns-clause-log g c =
    let old = c.args.self.now in
    let new = c.poll_transmit.new.self in
    on_err_weaker c.poll_transmit.result (λ h. core_goes old new (failed_told old.core new h.1)) c.poll_transmit.ensures.err

pub returns-clause-same : goal.returns-clause-same
returns-clause-same g c =
    let old = c.args.self.now in
    let e = c.poll_transmit.ensures in
    same_core g.S.Session.key old c.poll_transmit.new.self
    (transmit_stays _ c.args.now c.args.buf.now.items c.poll_transmit.new.buf.items _ _ c.poll_transmit.result old.core c.poll_transmit.new.self e.some e.none e.err)

pub returns-clause-unsent : goal.returns-clause-unsent
returns-clause-unsent g c =
    on_err_weaker c.poll_transmit.result (λ h. record { core = inr h.1; queue = record { waiting = refl; sent = refl }; rest_is = refl }) c.poll_transmit.ensures.err
