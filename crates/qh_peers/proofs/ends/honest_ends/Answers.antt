use Rattle.std.proofs.Common.{◌∷◌, ◌++◌, [], List, refl, length, drop, ap, subst, ◌∙◌}
use Rattle.std.proofs.lemmas.List.{append-nil}
use Rattle.qh_conn.specs.declared.connection.Connection.{Connection}
use Rattle.qh_core.specs.Inner.{is_open}
use Rattle.qh_core.specs.declared.inner.Inner.{Inner}
use Rattle.qh_handshake.proofs.NoCloses.{fresh_silent}
use Rattle.qh_peers.proofs.EndFedPeers.{token_is}
use Rattle.qh_peers.proofs.HonestOn.{control_says, honest, issued_open, kept_says, queue_open, queue_says, sent_on, streams_ids, streams_open, streams_says, streams_whole}
use Rattle.qh_peers.proofs.HonestSteps.{endpoint_as, same_silent, says_on, timed_as, told_as}
use Rattle.qh_peers.proofs.RetryPackets.{retry_no_reset}
use Rattle.qh_peers.proofs.RetryTaken.{left_ids, retry_left}
use Rattle.qh_peers.specs.Ids.{KeepsFewIds}
use Rattle.qh_spec.specs.Transcript.{Act, HandedIn, HandedOut}
use Rattle.qh_peers.proofs.ends.honest_ends.Goals as goal

pub returns-clause-fresh : goal.returns-clause-fresh
returns-clause-fresh g c = λ accepts sealed config side session hello local_id remote_id addresses now x whole stands first says control. record {
  whole = whole;
  stands = stands;
  says = says;
  few = c.few_ids.ensures.fresh x config local_id remote_id addresses.remote x.control.queue.room control (ap (λ (z : Inner _). z.local_id) first.is) (ap (λ (z : Inner _). z.state) first.is);
  silent = fresh_silent x.core.side;
  up = ap (λ (z : Inner _). is_open z.state) first.is;
  not_lost = ap (λ (z : Inner _). z.error) first.is;
}

pub returns-clause-sent : goal.returns-clause-sent
returns-clause-sent g c = λ v now before after hello transmit x new t makes e same whole stands h.
    let s = sent_on (v.sealed x.core.session) now x new before after transmit t makes h.stands.begun.side_is h.whole.sound.handshake h.up e h.silent in
    honest v.accepts v.sealed hello x new t (t ++ HandedOut (drop (length before) after) ∷ []) h whole stands (says_on v.key x new same h.says)
    (c.few_ids.ensures.transmitted (v.sealed x.core.session) now x new before after transmit t makes h.whole.sound e h.few) s.silent same.side s.as_open

pub returns-clause-still : goal.returns-clause-still
returns-clause-still g c = λ accepts sealed hello x new t is whole stands h.
    honest accepts sealed hello x new t t h whole stands (queue_says x new is h.says) (c.few_ids.ensures.unsent x new t is h.few) h.silent (ap (λ (z : Connection _). z.core.side) is.rest_is) (queue_open x new is h.up)

pub returns-clause-retried : goal.returns-clause-retried
returns-clause-retried g c = λ v now d hello x new t r is same whole stands h.
    let own = (h.few.holds h.up).peers.active.token in
    let left = retry_left v now d r x new h.up (λ reset. retry_no_reset d x.control.ids.active.id x.control.ids.active.reset_token r (token_is x.control.ids.active.reset_token x.control.ids.active.id own) reset) is in
    honest v.accepts v.sealed hello x new t (t ++ HandedIn d ∷ []) h whole stands (says_on v.key x new same h.says) (c.few_ids.ensures.still x new t (HandedIn d ∷ []) refl (left_ids x new left) h.few)
    (same_silent x.core.side t (HandedIn d ∷ []) refl h.silent) same.side (record { up = ap is_open left.state ∙ h.up; error = left.error })

pub returns-clause-timed : goal.returns-clause-timed
returns-clause-timed g c = λ accepts sealed key now hello x new t is up same whole stands h.
    honest accepts sealed hello x new t t h whole stands (says_on key x new same h.says) (c.few_ids.ensures.timed_out now x new t is h.few) h.silent same.side (timed_as now x.core new.core up is.core)

pub returns-clause-told : goal.returns-clause-told
returns-clause-told g c = λ accepts sealed key hello x new event t is same whole stands h.
    honest accepts sealed hello x new t t h whole stands (says_on key x new same h.says) (c.few_ids.ensures.told x new event t is h.few) h.silent same.side (told_as x new event h.up is)

pub returns-clause-endpoint_told : goal.returns-clause-endpoint_told
returns-clause-endpoint_told g c = λ accepts sealed key hello x new event t is same whole stands h.
    honest accepts sealed hello x new t t h whole stands (says_on key x new same h.says) (c.few_ids.ensures.endpoint_told x new event t is h.few) h.silent same.side (endpoint_as x new event h.up is)

pub returns-clause-called : goal.returns-clause-called
returns-clause-called g c = λ accepts sealed hello x core acts t is quiet stands h.
    honest accepts sealed hello x (record x { core = core }) t (t ++ acts) h (streams_whole x core is h.whole) stands (streams_says x core is h.says)
    (c.few_ids.ensures.still x (record x { core = core }) t acts quiet (streams_ids x core is) h.few) (same_silent x.core.side t acts quiet h.silent) (ap (λ (z : Inner _). z.side) is) (streams_open x core is h.up)

pub returns-clause-issued : goal.returns-clause-issued
returns-clause-issued g c = λ accepts sealed key hello x new ids t own is same whole stands h.
    honest accepts sealed hello x new t t h whole stands (says_on key x new same h.says) (c.few_ids.ensures.issued ids x new t own is h.few) h.silent same.side (issued_open ids x new is h.up)

pub returns-clause-queued : goal.returns-clause-queued
returns-clause-queued g c = λ accepts sealed hello x new token t is whole stands h.
    honest accepts sealed hello x new t t h whole stands (control_says x new _ is h.says) (c.few_ids.ensures.queued x new token t is h.few) h.silent (ap (λ (z : Connection _). z.core.side) is)
    (record { up = ap (λ (z : Connection _). is_open z.core.state) is ∙ h.up; error = ap (λ (z : Connection _). z.core.error) is })

pub returns-clause-kept : goal.returns-clause-kept
returns-clause-kept g c = λ accepts sealed hello x new t ids error config shake core whole stands h.
    honest accepts sealed hello x new t t h whole stands (kept_says x new config shake core h.says) (subst (λ (u : List Act). KeepsFewIds new u) (append-nil t) (c.few_ids.ensures.still x new t [] refl ids h.few)) h.silent ids.side
    (record { up = ap is_open ids.state ∙ h.up; error = error })
