use Rattle.std.proofs.Common.{◌≡◌, ℕ, Bool, true, false, List, [], ◌∷◌, ◌++◌, Some, if◌then◌else◌, sym, ap, subst, ◌∙◌, inr}
use Rattle.qh_base.specs.declared.time.Moment.{Moment}
use Rattle.qh_conn.specs.Greeting.{IsBegunBy, IsGreetedNow, connected, with_core}
use Rattle.qh_conn.specs.declared.connection.Connection.{Connection}
use Rattle.qh_core.specs.Made.{AcceptsTags, MakesTagsOf}
use Rattle.qh_core.specs.declared.inner.Inner.{Inner}
use Rattle.qh_hello.specs.declared.transport_parameters.TransportParameters.{TransportParameters}
use Rattle.qh_core.specs.Inner.{is_client}
use Rattle.qh_spec.specs.declared.sides.Side.{Side}
use Rattle.qh_spec.specs.declared.sides.Side.TheVariants.{Client, Server}
use Rattle.qh_conn.proofs.InFed.{discarded_hears, failing, hears_fails, read_unknown}
use Rattle.qh_converse.specs.Converses.{Hears}
use Rattle.qh_handshake.specs.declared.handshake.Handshake.{Handshake}
use Rattle.qh_spec.specs.Transcript.{Act, HandedIn}
use Rattle.qh_conn.proofs.LogKept.{goes_on, stands_still}
use Rattle.qh_conn.proofs.Noted.{connected_current}
use Rattle.qh_conn.proofs.Same.{both_same}
use Rattle.qh_conn.specs.Hearing.{FailsTo}
use Rattle.qh_conn.specs.Items.{IsLogCurrent}
use Rattle.qh_conn.proofs.Noted.{any_err}
use Rattle.qh_conn.specs.Unread.{IsCompletionCut, IsGreetingCut}
use Rattle.qh_conn.proofs.connection.Connection.greet.Goals as goal

module _ {S : Type 0} where
  abbrev behind : Moment → (old : Connection S) → Inner S → TransportParameters → Side → Connection S
  behind now old core peer side = if is_client side then connected now (with_core old core peer) else with_core old core peer

  greeted : (now : Moment) (old begun new : Connection S) (peer : TransportParameters) (side : Side) → old.handshake.peer ≡ Some peer → IsBegunBy peer old.handshake old.early old.control.log old.core begun.core
      → begun ≡ with_core old begun.core peer → begun.handshake.side ≡ side → new ≡ behind now old begun.core peer side → IsGreetedNow now old new
  greeted now old begun new peer side is core rest side_is new_is = record {
    peer = peer;
    peer_is = is;
    core = begun.core;
    core_is = core;
    new_is = new_is ∙ ap (behind now old begun.core peer) (sym side_is ∙ ap (λ (z : Connection S). z.handshake.side) rest);
  }

  begun_hears : (accepts : AcceptsTags S) (sealed : MakesTagsOf S) (old begun : Connection S) (hello : List ℕ) (t : List Act) (d : List ℕ) (m : Bool) (peer : TransportParameters) → begun ≡ with_core old begun.core peer
      → Hears accepts sealed hello old.handshake begun.core m t d → Hears accepts sealed hello begun.handshake begun.core m t d
  begun_hears accepts sealed old begun hello t d m peer is p = subst (λ (z : Handshake). Hears accepts sealed hello z begun.core m t d) (sym (ap (λ (z : Connection S). z.handshake) is)) p

  side_of : (old begun : Connection S) (peer : TransportParameters) → begun ≡ with_core old begun.core peer → old.handshake.side ≡ begun.handshake.side
  side_of old begun peer is = sym (ap (λ (z : Connection S). z.handshake.side) is)

pub returns-in_ok-connect-in-Client-clause-some : goal.returns-in_ok-connect-in-Client-clause-some
returns-in_ok-connect-in-Client-clause-some g c = λ _.
    let e = c.in_ok-begin.ensures in
    greeted c.args.now c.args.self.now c.begin.new.self c.connect.new.self c.in-Some.peer Client c.in-Some.is e.core e.rest c.in-Client.is
    (c.in_ok-connect-in-Client.ensures.ok ∙ ap (λ (z : Connection _). connected c.args.now z) e.rest)

pub returns-in-Server-clause-some : goal.returns-in-Server-clause-some
returns-in-Server-clause-some g c = λ _.
    let e = c.in_ok-begin.ensures in
    greeted c.args.now c.args.self.now c.begin.new.self c.begin.new.self c.in-Some.peer Server c.in-Some.is e.core e.rest c.in-Server.is e.rest

pub returns-in_default-clause-hears : goal.returns-in_default-clause-hears
returns-in_default-clause-hears g c = λ accepts sealed hello d before t r none. (read_unknown accepts sealed hello before t d c.args.self.now none c.in_default.is r, tt)

pub returns-in_err-begin-clause-hears : goal.returns-in_err-begin-clause-hears
returns-in_err-begin-clause-hears g c = λ accepts sealed hello d before t r none. failing _ _ c.from_residual.result c.from_residual.ensures.0 (c.in_err-begin.ensures.fails accepts sealed hello d before t r none)

pub returns-in_err-connect-in-Client-clause-hears : goal.returns-in_err-connect-in-Client-clause-hears
returns-in_err-connect-in-Client-clause-hears g c = λ accepts sealed hello d before t r none.
    let begun = c.begin.new.self in
    let e = c.in_ok-begin.ensures in
    let hears = begun_hears accepts sealed c.args.self.now begun hello t d false c.in-Some.peer e.rest (e.hears accepts sealed false (λ k. let z : false ≡ true = k in cc) hello d before t r none) in
    let still = subst (λ (z : Bool). Hears accepts sealed hello begun.handshake begun.core z t d) (sym (ap (λ (z : Connection _). z.is_connected) e.rest ∙ c.requires.first.0)) hears in
    failing _ _ c.from_residual-in_err-connect-in-Client.result c.from_residual-in_err-connect-in-Client.ensures.0
    (subst (λ (z : Connection _). FailsTo accepts sealed hello z (t ++ HandedIn d ∷ [])) (sym c.in_err-connect-in-Client.ensures.err) (hears_fails accepts sealed hello begun t d still))

pub returns-in_ok-connect-in-Client-clause-hears : goal.returns-in_ok-connect-in-Client-clause-hears
returns-in_ok-connect-in-Client-clause-hears g c = λ accepts sealed hello d before t r none.
    let new = c.connect.new.self in
    let is = c.in_ok-connect-in-Client.ensures.ok in
    let hears = begun_hears accepts sealed c.args.self.now c.begin.new.self hello t d true c.in-Some.peer c.in_ok-begin.ensures.rest (c.in_ok-begin.ensures.hears accepts sealed true (λ _. side_of c.args.self.now c.begin.new.self c.in-Some.peer c.in_ok-begin.ensures.rest ∙ c.in-Client.is) hello d before t r none) in
    (discarded_hears accepts sealed hello c.begin.new.self new t d (ap (λ (z : Connection _). z.handshake) is) c.connect.ensures.made (ap (λ (z : Connection _). z.is_connected) is) hears, tt)

pub returns-in-Server-clause-hears : goal.returns-in-Server-clause-hears
returns-in-Server-clause-hears g c = λ accepts sealed hello d before t r none.
    let e = c.in_ok-begin.ensures in
    let hears = begun_hears accepts sealed c.args.self.now c.begin.new.self hello t d false c.in-Some.peer e.rest (e.hears accepts sealed false (λ k. let z : false ≡ true = k in cc) hello d before t r none) in
    (subst (λ (z : Bool). Hears accepts sealed hello c.begin.new.self.handshake c.begin.new.self.core z t d) (sym (ap (λ (z : Connection _). z.is_connected) e.rest ∙ c.requires.first.0)) hears, tt)

pub returns-in_default-clause-same : goal.returns-in_default-clause-same
returns-in_default-clause-same g c = λ before none p. p

pub returns-in_err-begin-clause-same : goal.returns-in_err-begin-clause-same
returns-in_err-begin-clause-same g c = λ before none p. c.begin.ensures.same before none p

pub returns-in_err-connect-in-Client-clause-same : goal.returns-in_err-connect-in-Client-clause-same
returns-in_err-connect-in-Client-clause-same g c = λ before none p. both_same g.S.Session.key before c.begin.new.self c.connect.new.self (c.begin.ensures.same before none p) c.connect.ensures.same

pub returns-in_ok-connect-in-Client-clause-same : goal.returns-in_ok-connect-in-Client-clause-same
returns-in_ok-connect-in-Client-clause-same g c = λ before none p. both_same g.S.Session.key before c.begin.new.self c.connect.new.self (c.begin.ensures.same before none p) c.connect.ensures.same

pub returns-in-Server-clause-same : goal.returns-in-Server-clause-same
returns-in-Server-clause-same g c = λ before none p. c.begin.ensures.same before none p

pub returns-in_default-clause-log : goal.returns-in_default-clause-log
returns-in_default-clause-log g c = stands_still c.args.self.now

pub returns-in_err-begin-clause-log : goal.returns-in_err-begin-clause-log
returns-in_err-begin-clause-log g c = c.begin.ensures.log

pub returns-in-Server-clause-log : goal.returns-in-Server-clause-log
returns-in-Server-clause-log g c = c.begin.ensures.log

pub returns-in_err-connect-in-Client-clause-log : goal.returns-in_err-connect-in-Client-clause-log
returns-in_err-connect-in-Client-clause-log g c = goes_on c.args.self.now c.begin.new.self c.connect.new.self c.begin.ensures.log c.connect.ensures.log

pub returns-in_ok-connect-in-Client-clause-log : goal.returns-in_ok-connect-in-Client-clause-log
returns-in_ok-connect-in-Client-clause-log g c = goes_on c.args.self.now c.begin.new.self c.connect.new.self c.begin.ensures.log c.connect.ensures.log

pub returns-in_ok-connect-in-Client-clause-current : goal.returns-in_ok-connect-in-Client-clause-current
returns-in_ok-connect-in-Client-clause-current g c =
    let begun = c.begin.new.self in
    subst (λ (z : Connection _). IsLogCurrent z) (sym c.in_ok-connect-in-Client.ensures.ok) (connected_current c.args.now begun (λ none. c.in_ok-begin.ensures.current (inr none)))

pub returns-in_err-begin-clause-cut : goal.returns-in_err-begin-clause-cut
returns-in_err-begin-clause-cut g c = any_err _ c.from_residual.result (c.in-Some.peer, c.in-Some.is, c.in_err-begin.ensures.cut c.args.now)

pub returns-in_err-connect-in-Client-clause-cut : goal.returns-in_err-connect-in-Client-clause-cut
returns-in_err-connect-in-Client-clause-cut g c =
    let begun = c.begin.new.self in
    let e = c.in_ok-begin.ensures in
    let client = ap is_client (side_of c.args.self.now begun c.in-Some.peer e.rest ∙ c.in-Client.is) in
    any_err _ c.from_residual-in_err-connect-in-Client.result
    (c.in-Some.peer, c.in-Some.is, IsGreetingCut.incomplete begun.core client e.core (subst (λ (z : Connection _). IsCompletionCut c.args.now z c.connect.new.self) e.rest c.in_err-connect-in-Client.ensures.cut))
