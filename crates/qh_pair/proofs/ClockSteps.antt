-- How the clock of a pair runs on, and how its ends are lost.
use Rattle.std.proofs.Common.{◌≡◌, ◌≢◌, inl, inr, ◌≤◌, Bool, true, false, List, [], ◌∷◌, ◌++◌, ℕ, Option, Some, None, Ok, Err, refl, sym, ◌∙◌, ap, subst}
use Rattle.std.specs.Prelude.{IfErr, IfOk, MatchOption, Result}
use Rattle.qh_base.specs.declared.connection_error.ConnectionError.{ConnectionError}
use Rattle.qh_base.specs.declared.connection_error.ConnectionError.TheVariants as lost
use Rattle.qh_base.specs.declared.time.Moment.{Moment}
use Rattle.qh_base.specs.declared.time.Span.{Span}
use Rattle.qh_core.specs.Inner.{with_streams}
use Rattle.qh_conn.specs.declared.config.ConnConfig.{ConnConfig}
use Rattle.qh_roles.specs.Client.{PlainClient}
use Rattle.qh_roles.specs.Server.{PlainServer}
use Rattle.qh_link.specs.Link.{fault_events, is_failed}
use Rattle.qh_link.specs.declared.link.LinkFault.{LinkFault}
use Rattle.qh_link.specs.declared.link.LinkFault.TheVariants as fault
use Rattle.qh_spec.specs.declared.sides.Side.{Side}
use Rattle.qh_spec.specs.declared.sides.Side.TheVariants.{Client, Server}
use Rattle.qh_spec.specs.Fault.{CountsFaults}
use Rattle.qh_spec.specs.Record.{PlainEntry}
use Rattle.qh_pair.specs.Clock.{HasTimedOut, IsClocked, runs, IsEndClocked, IsTimedOutAt}
use Rattle.qh_pair.specs.EndCalls.{IsUndisturbedBy}
use Rattle.qh_pair.specs.Error.{error_of, error_of_loss}
use Rattle.qh_pair.specs.Errors.{IfProtocol, IfTimedOut}
use Rattle.qh_pair.specs.Ends.{End}
use Rattle.qh_pair.specs.Pair.{PairState, told_acts}
use Rattle.qh_pair.specs.Steps.{AreNotLost, AreTicking, ClientPolled, ServerPolled, IsEndTicking, IsEndUndisturbed, IsLastOf, IsLinkError, IsNewEnd, IsTicking, KeepsTicking, ended_by, is_done}
use Rattle.qh_pair.specs.Steps.{ClientPolled as client_polled}
use Rattle.qh_pair.specs.Steps.{ServerPolled as server_polled}
use Rattle.qh_pair.specs.Turn.{IsLostWith, IsNotLost, IsProtocolLoss, IsTurnError, has_link_failed, is_link}
use Rattle.qh_pair.specs.declared.ends.Ids.{Ids}
use Rattle.qh_pair.specs.declared.error.ExchangeError.{ExchangeError}
use Rattle.qh_pair.specs.declared.error.ExchangeError.TheVariants as error

-- ---- moments

ticking_on : (idle : Option Span) (moments : List ℕ) (now : ℕ) (o : Option End) → IsEndTicking idle moments o → IsEndTicking idle (moments ++ now ∷ []) o
ticking_on idle moments now None t = tt
ticking_on idle moments now (Some c) t = record {
  first = t.first;
  rest = t.rest ++ now ∷ [];
  are = ap (λ (z : List ℕ). z ++ now ∷ []) t.are;
  since = t.since;
  timed = t.timed;
  not_timed_out = t.not_timed_out;
}

pub both_on : (p : PairState) (moments : List ℕ) (now : ℕ) → AreTicking p moments → AreTicking p (moments ++ now ∷ [])
both_on p moments now t = record {
  client = ticking_on p.config.idle moments now p.client_end t.client;
  server = ticking_on p.config.idle moments now p.server_end t.server;
}

undisturbed_idle : (idle : Option Span) (moments : List ℕ) (now : Moment) (c d : End) → IsUndisturbedBy now c d → IsLastOf moments now.0 → IsTicking idle moments c → IsTicking idle moments d
undisturbed_idle idle moments now c d u last t = record {
  first = t.first;
  rest = t.rest;
  are = t.are;
  since = elim u.since as (λ _. t.first ≤ d.core.idle.since.0) [
    | inl e ↦ subst (λ (z : Moment). t.first ≤ z.0) (sym e) t.since
    | inr e ↦
        let same : t.first ∷ t.rest ≡ last.first ∷ last.rest = sym t.are ∙ last.begin in
        let one : last.first ≡ t.first = cc in
        subst (λ (z : Moment). t.first ≤ z.0) (sym e) (subst (λ (z : ℕ). z ≤ now.0) one last.order)
  ];
  timed = u.times idle t.timed;
  not_timed_out = λ e. t.not_timed_out (u.timed_out e);
}

undisturbed_ticking : (idle : Option Span) (moments : List ℕ) (now : Moment) (old new : Option End) → IsEndUndisturbed true now idle old new → IsLastOf moments now.0
    → IsEndTicking idle moments old → IsEndTicking idle moments new
undisturbed_ticking idle moments now None None u last t = tt
undisturbed_ticking idle moments now None (Some d) u last t = record {
  first = last.first;
  rest = last.rest;
  are = last.begin;
  since = subst (λ (z : Moment). last.first ≤ z.0) (sym u.since) last.order;
  timed = u.timed;
  not_timed_out = u.timed_out;
}
undisturbed_ticking idle moments now (Some c) None u last t = absurd u
undisturbed_ticking idle moments now (Some c) (Some d) u last t = undisturbed_idle idle moments now c d u last t

pub both_keep : {T : Type 0} (now : Moment) (p : PairState) (c d : Option End) (result : Result T ExchangeError) → IsEndUndisturbed true now p.config.idle p.client_end c
    → IsEndUndisturbed (is_done result) now p.config.idle p.server_end d → IfOk result (λ _. KeepsTicking now.0 p (record p { client_end = c; server_end = d }))
both_keep now p c d (Err e) u v = tt
both_keep now p c d (Ok x) u v = λ moments last t. record {
  client = undisturbed_ticking p.config.idle moments now p.client_end c u last t.client;
  server = undisturbed_ticking p.config.idle moments now p.server_end d v last t.server;
}

none_timed_out : ◌≡◌ {A = Option ConnectionError} None (Some lost.TimedOut) → ⊥
none_timed_out e = cc

new_ticking : (side : Side) (ids : Ids) (config : ConnConfig) (now : Moment) (c : End) (moments : List ℕ) → IsNewEnd side ids config now c → IsLastOf moments now.0
    → IsTicking config.idle moments c
new_ticking side ids config now c moments new last = record {
  first = last.first;
  rest = last.rest;
  are = last.begin;
  since = subst (λ (z : Moment). last.first ≤ z.0) (sym new.since) last.order;
  timed = new.timed;
  not_timed_out = λ e. absurd (none_timed_out (sym new.not_lost ∙ e));
}

pub client_opens : (p : PairState) (now : Moment) (c : End) → IsNewEnd Client p.ids p.config now c → KeepsTicking now.0 p (record p { client_end = Some c })
client_opens p now c new = λ moments last t.
    record { client = new_ticking Client p.ids p.config now c moments new last; server = t.server }

-- a role's calls change streams alone
polled_ticking : (idle : Option Span) (moments : List ℕ) (c d : End) → d ≡ record c { core = with_streams c.core d.core.space.streams } → IsTicking idle moments c → IsTicking idle moments d
polled_ticking idle moments c d rest t = subst (λ (z : End). IsTicking idle moments z) (sym rest)
    (record {
      first = t.first;
      rest = t.rest;
      are = t.are;
      since = t.since;
      timed = record { said = t.timed.said; ungreeted = t.timed.ungreeted; greeted = t.timed.greeted };
      not_timed_out = t.not_timed_out;
    })

rests_ticking : (idle : Option Span) (moments : List ℕ) (old new : Option End) (c d : End) → old ≡ Some c → new ≡ Some d → d ≡ record c { core = with_streams c.core d.core.space.streams }
    → IsEndTicking idle moments old → IsEndTicking idle moments new
rests_ticking idle moments old new c d e f rest t =
    subst (λ (z : Option End). IsEndTicking idle moments z) (sym f)
    (polled_ticking idle moments c d rest (subst (λ (z : Option End). IsEndTicking idle moments z) e t))

client_ticking : (idle : Option Span) (moments : List ℕ) (c d : PlainClient) (old new : Option End) → ClientPolled c d old new → IsEndTicking idle moments old → IsEndTicking idle moments new
client_ticking idle moments c d old new (client_polled.went b e was now_is went) t = rests_ticking idle moments old new b e was now_is went.rest t
client_ticking idle moments c d old new (client_polled.waits same_client same_end) t = subst (λ (z : Option End). IsEndTicking idle moments z) (sym same_end) t

server_ticking : (idle : Option Span) (moments : List ℕ) (c d : PlainServer) (old new : Option End) (r s : List PlainEntry) → ServerPolled c d old new r s → IsEndTicking idle moments old → IsEndTicking idle moments new
server_ticking idle moments c d old new r s (server_polled.went b e was now_is went) t = rests_ticking idle moments old new b e was now_is went.rest t
server_ticking idle moments c d old new r s (server_polled.waits same_server same_end served) t = subst (λ (z : Option End). IsEndTicking idle moments z) (sym same_end) t

pub client_rests : (p q : PairState) (moments : List ℕ) → ClientPolled p.client q.client p.client_end q.client_end → p.server_end ≡ q.server_end → p.config ≡ q.config
    → AreTicking p moments → AreTicking q moments
client_rests p q moments polled same config t = record {
  client = subst (λ (z : ConnConfig). IsEndTicking z.idle moments q.client_end) config
      (client_ticking p.config.idle moments p.client q.client p.client_end q.client_end polled t.client);
  server = subst (λ (z : ConnConfig). IsEndTicking z.idle moments q.server_end) config (subst (λ (z : Option End). IsEndTicking p.config.idle moments z) same t.server);
}

pub roles_rest : (p q : PairState) {r s : List PlainEntry} (moments : List ℕ) → ClientPolled p.client q.client p.client_end q.client_end
    → ServerPolled p.server q.server p.server_end q.server_end r s → p.config ≡ q.config → AreTicking p moments → AreTicking q moments
roles_rest p q {r} {s} moments asked served config t = record {
  client = subst (λ (z : ConnConfig). IsEndTicking z.idle moments q.client_end) config
      (client_ticking p.config.idle moments p.client q.client p.client_end q.client_end asked t.client);
  server = subst (λ (z : ConnConfig). IsEndTicking z.idle moments q.server_end) config
      (server_ticking p.config.idle moments p.server q.server p.server_end q.server_end r s served t.server);
}

-- ---- an end's loss

to_clocked : (idle : Option Span) (moments : List ℕ) (o : Option End) → IsEndTicking idle moments o → IsEndClocked idle moments o
to_clocked idle moments None t = tt
to_clocked idle moments (Some c) t = runs t.first t.rest t.are t.since t.timed t.not_timed_out

pub both_clocked : (p : PairState) (over : Bool) (moments : List ℕ) → AreTicking p moments → IsClocked (record p { is_over = over }) moments
both_clocked p over moments t = record { client = to_clocked p.config.idle moments p.client_end t.client; server = to_clocked p.config.idle moments p.server_end t.server }

from_clocked : (idle : Option Span) (moments : List ℕ) (o : Option End) → IsEndClocked idle moments o → IsEndTicking idle moments o
from_clocked idle moments None t = tt
from_clocked idle moments (Some c) (runs first rest are since timed not) =
    record { first = first; rest = rest; are = are; since = since; timed = timed; not_timed_out = not }

pub both_ticking : (p : PairState) (over : Bool) (moments : List ℕ) → IsClocked p moments → AreTicking (record p { is_over = over }) moments
both_ticking p over moments t = record { client = from_clocked p.config.idle moments p.client_end t.client; server = from_clocked p.config.idle moments p.server_end t.server }

-- what a tick of an end keeps
pub end_keeps : (idle : Option Span) (moments : List ℕ) (old new : Option End) (result : Option ConnectionError)
    → ((i : Option Span) (ms : List ℕ) → IsEndClocked i ms old → result ≡ None → IsEndClocked i ms new)
    → MatchOption result (IsNotLost new) (λ e. IsLostWith e new) → result ≡ None → IsEndTicking idle moments old → IsEndTicking idle moments new
end_keeps idle moments old new result clocked lost none t =
    from_clocked idle moments new (clocked idle moments (to_clocked idle moments old t) none)

both_none : (client server : Option ConnectionError) (P : Type 0) → (client ≡ None → server ≡ None → P) → IfOk (ended_by client server) (λ _. P)
both_none (Some e) server P f = tt
both_none None (Some e) P f = tt
both_none None None P f = f refl refl

pub ticks_keep : (now : ℕ) (p q : PairState) (client server : Option ConnectionError)
    → ((i : Option Span) (ms : List ℕ) → IsEndClocked i ms p.client_end → client ≡ None → IsEndClocked i ms q.client_end)
    → ((i : Option Span) (ms : List ℕ) → IsEndClocked i ms p.server_end → server ≡ None → IsEndClocked i ms q.server_end)
    → MatchOption client (IsNotLost q.client_end) (λ e. IsLostWith e q.client_end) → MatchOption server (IsNotLost q.server_end) (λ e. IsLostWith e q.server_end)
    → q.config ≡ p.config → IfOk (ended_by client server) (λ _. KeepsTicking now p q)
ticks_keep now p q client server fc fs lc ls config =
    both_none client server (KeepsTicking now p q)
    (λ nc ns moments last t. record {
      client = subst (λ (z : ConnConfig). IsEndTicking z.idle moments q.client_end) (sym config) (end_keeps p.config.idle moments p.client_end q.client_end client fc lc nc t.client);
      server = subst (λ (z : ConnConfig). IsEndTicking z.idle moments q.server_end) (sym config) (end_keeps p.config.idle moments p.server_end q.server_end server fs ls ns t.server);
    })

pub ticks_go : (q : PairState) (client server : Option ConnectionError)
    → MatchOption client (IsNotLost q.client_end) (λ e. IsLostWith e q.client_end) → MatchOption server (IsNotLost q.server_end) (λ e. IsLostWith e q.server_end)
    → IfOk (ended_by client server) (λ _. AreNotLost q)
ticks_go q (Some e) server lc ls = tt
ticks_go q None (Some e) lc ls = tt
ticks_go q None None lc ls = record { client = lc; server = ls }

loss_protocol : (e : ConnectionError) (P : ConnectionError → Type 0) → (e ≢ lost.TimedOut → e ≢ lost.Memory → P e) → IfProtocol {T = Unit {0}} (Err (error_of_loss e)) P
loss_protocol lost.VersionMismatch P f = f (λ e. cc) (λ e. cc)
loss_protocol (lost.TransportError x) P f = f (λ e. cc) (λ e. cc)
loss_protocol (lost.ConnectionClosed x) P f = f (λ e. cc) (λ e. cc)
loss_protocol (lost.ApplicationClosed x) P f = f (λ e. cc) (λ e. cc)
loss_protocol lost.Reset P f = f (λ e. cc) (λ e. cc)
loss_protocol lost.TimedOut P f = tt
loss_protocol lost.LocallyClosed P f = f (λ e. cc) (λ e. cc)
loss_protocol lost.CidsExhausted P f = f (λ e. cc) (λ e. cc)
loss_protocol lost.Memory P f = tt

pub ticks_lose : (q : PairState) (client server : Option ConnectionError)
    → MatchOption client (IsNotLost q.client_end) (λ e. IsLostWith e q.client_end) → MatchOption server (IsNotLost q.server_end) (λ e. IsLostWith e q.server_end)
    → IfProtocol (ended_by client server) (λ e. IsProtocolLoss e q)
ticks_lose q (Some e) server lc ls = loss_protocol e (λ x. IsProtocolLoss x q) (λ n m. record { kept = inl lc; not_idle = n; not_memory = m })
ticks_lose q None (Some e) lc ls = loss_protocol e (λ x. IsProtocolLoss x q) (λ n m. record { kept = inr (lc, ls); not_idle = n; not_memory = m })
ticks_lose q None None lc ls = tt

loss_timed : (e : ConnectionError) (H : Type 0) → (e ≡ lost.TimedOut → H) → IfTimedOut {T = Unit {0}} (Err (error_of_loss e)) H
loss_timed lost.VersionMismatch H f = tt
loss_timed (lost.TransportError x) H f = tt
loss_timed (lost.ConnectionClosed x) H f = tt
loss_timed (lost.ApplicationClosed x) H f = tt
loss_timed lost.Reset H f = tt
loss_timed lost.TimedOut H f = f refl
loss_timed lost.LocallyClosed H f = tt
loss_timed lost.CidsExhausted H f = tt
loss_timed lost.Memory H f = tt

timed_by : (client server : Option ConnectionError) (H : Type 0) → (client ≡ Some lost.TimedOut → H) → (server ≡ Some lost.TimedOut → H) → IfTimedOut (ended_by client server) H
timed_by (Some e) server H f g = loss_timed e H (λ i. f (ap (λ (z : ConnectionError). Some z) i))
timed_by None (Some e) H f g = loss_timed e H (λ i. g (ap (λ (z : ConnectionError). Some z) i))
timed_by None None H f g = tt

pub ticks_time : (now : Moment) (p q : PairState) (client server : Option ConnectionError)
    → ((i : Option Span) (ms front : List ℕ) → IsEndClocked i ms p.client_end → ms ≡ front ++ now.0 ∷ [] → client ≡ Some lost.TimedOut → IsTimedOutAt i ms q.client_end)
    → ((i : Option Span) (ms front : List ℕ) → IsEndClocked i ms p.server_end → ms ≡ front ++ now.0 ∷ [] → server ≡ Some lost.TimedOut → IsTimedOutAt i ms q.server_end) → q.config ≡ p.config
    → (moments : List ℕ) → IsLastOf moments now.0 → AreTicking p moments → IfTimedOut (ended_by client server) (HasTimedOut q moments)
ticks_time now p q client server fc fs config moments last t =
    timed_by client server (HasTimedOut q moments)
    (λ e. record {
      side = Client;
      at = subst (λ (z : ConnConfig). IsTimedOutAt z.idle moments q.client_end) (sym config) (fc p.config.idle moments last.front (to_clocked p.config.idle moments p.client_end t.client) last.end e);
    })
    (λ e. record {
      side = Server;
      at = subst (λ (z : ConnConfig). IsTimedOutAt z.idle moments q.server_end) (sym config) (fs p.config.idle moments last.front (to_clocked p.config.idle moments p.server_end t.server) last.end e);
    })

loss_error : (e : ConnectionError) → IsTurnError (error_of_loss e)
loss_error lost.VersionMismatch = tt
loss_error (lost.TransportError x) = tt
loss_error (lost.ConnectionClosed x) = tt
loss_error (lost.ApplicationClosed x) = tt
loss_error lost.Reset = tt
loss_error lost.TimedOut = tt
loss_error lost.LocallyClosed = tt
loss_error lost.CidsExhausted = tt
loss_error lost.Memory = tt

pub ended_error : (client server : Option ConnectionError) → IfErr (ended_by client server) IsTurnError
ended_error (Some e) server = loss_error e
ended_error None (Some e) = loss_error e
ended_error None None = tt

loss_no_link : (e : ConnectionError) → is_link (error_of_loss e) ≡ false
loss_no_link lost.VersionMismatch = refl
loss_no_link (lost.TransportError x) = refl
loss_no_link (lost.ConnectionClosed x) = refl
loss_no_link (lost.ApplicationClosed x) = refl
loss_no_link lost.Reset = refl
loss_no_link lost.TimedOut = refl
loss_no_link lost.LocallyClosed = refl
loss_no_link lost.CidsExhausted = refl
loss_no_link lost.Memory = refl

pub ended_no_link : (client server : Option ConnectionError) → has_link_failed (ended_by client server) ≡ false
ended_no_link (Some e) server = loss_no_link e
ended_no_link None (Some e) = loss_no_link e
ended_no_link None None = refl

-- ---- a link's fault

pub fault_tells_nothing : (s : Side) (e : LinkFault) → told_acts s (fault_events e) ≡ []
fault_tells_nothing s fault.Failed = refl
fault_tells_nothing s fault.Memory = refl

same_failure : (e : LinkFault) → is_link (error_of e) ≡ is_failed e
same_failure fault.Failed = refl
same_failure fault.Memory = refl

pub counts_link_fault : (a b : ℕ) (e : LinkFault) → CountsFaults a b (is_failed e) → CountsFaults a b (is_link (error_of e))
counts_link_fault a b e f = subst (λ (z : Bool). CountsFaults a b z) (sym (same_failure e)) f

pub is_link_error : (e : LinkFault) → IsLinkError (error_of e)
is_link_error fault.Failed = tt
is_link_error fault.Memory = tt

pub is_turn_error : (e : ExchangeError) → IsLinkError e → IsTurnError e
is_turn_error error.Link h = tt
is_turn_error error.Memory h = tt
is_turn_error error.TimedOut h = absurd h
is_turn_error error.OutOfRounds h = absurd h
is_turn_error (error.Invalid index) h = absurd h
is_turn_error (error.Protocol x) h = absurd h

pub link_no_protocol : (T : Type 0) (e : ExchangeError) (P : ConnectionError → Type 0) → IsLinkError e → IfProtocol {T = T} (Err e) P
link_no_protocol T error.Link P h = tt
link_no_protocol T error.Memory P h = tt
link_no_protocol T error.TimedOut P h = absurd h
link_no_protocol T error.OutOfRounds P h = absurd h
link_no_protocol T (error.Invalid index) P h = absurd h
link_no_protocol T (error.Protocol x) P h = absurd h

pub link_no_timeout : (T : Type 0) (e : ExchangeError) (H : Type 0) → IsLinkError e → IfTimedOut {T = T} (Err e) H
link_no_timeout T error.Link H h = tt
link_no_timeout T error.Memory H h = tt
link_no_timeout T error.TimedOut H h = absurd h
link_no_timeout T error.OutOfRounds H h = absurd h
link_no_timeout T (error.Invalid index) H h = absurd h
link_no_timeout T (error.Protocol x) H h = absurd h
