use Rattle.std.proofs.Common.{◌≡◌, List, [], ◌∷◌, ◌++◌, length, None, Some, refl, sym, ap, subst, ◌∙◌, inl, inr}
use Rattle.qh_converse.specs.Settled.{milliseconds}
use Rattle.qh_peers.proofs.EndCarried.{carried}
use Rattle.qh_peers.proofs.EndCounting.{counting_has, part_counting}
use Rattle.qh_peers.proofs.EndGreeted.{data_comes}
use Rattle.qh_peers.proofs.EndKinds.{greeted_out, kind, own_accords}
use Rattle.qh_peers.proofs.EndPeers.{idle_is, joined_ends, known_of, turned}
use Rattle.qh_peers.proofs.EndSteps.{given_so, own_token, runs_anew, says_few, stays_open, there_before, there_now}
use Rattle.qh_peers.proofs.HonestOn.{honest}
use Rattle.qh_peers.proofs.HonestSteps.{same_silent, says_on}
use Rattle.qh_peers.proofs.RetryPackets.{retry_comes}
use Rattle.qh_peers.specs.Ends.{IsRetry}
use Rattle.qh_spec.proofs.PartLaws.{alone_has_none}
use Rattle.qh_spec.specs.Parted.EndsWith.{here}
use Rattle.qh_spec.specs.Transcript.{HandedIn, handed_in}
use Rattle.qh_spec.specs.declared.sides.Space.TheVariants.{Data}
use Rattle.qh_peers.proofs.ends.two_ends.Goals as goal

pub returns-clause-turned : goal.returns-clause-turned
returns-clause-turned g c = turned

pub returns-clause-first : goal.returns-clause-first
returns-clause-first g c = λ accepts sealed key hc hq x q tc own peer sides ids ids_back key_is retries. record {
  own = own;
  peer = peer;
  sides = sides;
  ids = ids;
  ids_back = ids_back;
  key_is = key_is;
  came = λ d there. inr (retries d there);
  went = λ d there. absurd there;
}

pub returns-clause-carried : goal.returns-clause-carried
returns-clause-carried g c = carried

pub returns-clause-passed : goal.returns-clause-passed
returns-clause-passed g c = λ v now d hc hq x q new tc tq r untaken e handled same whole stands.
    carried v.accepts v.sealed v.key hc hq x q new tc tq (HandedIn d ∷ []) e same (c.retry_kept.ensures.passed v now d x new untaken handled)
    (λ b there. elim there [ inl is ↦ inr (subst (λ (z : List _). IsRetry z) is r) | inr none ↦ absurd none ])
    (c.honest_ends.ensures.retried v now d hc x new tc r handled same whole stands e.own)

pub returns-clause-knows : goal.returns-clause-knows
returns-clause-knows g c = λ accepts sealed key hc hq x q tc tq p e is. known_of accepts sealed key hc hq x q tc tq e p is

pub returns-clause-idle : goal.returns-clause-idle
returns-clause-idle g c = idle_is

pub returns-clause-early_idle : goal.returns-clause-early_idle
returns-clause-early_idle g c = λ accepts sealed hello x t own none. ap milliseconds (own.stands.begun.runs own.up) ∙ own.stands.begun.unsettled none ∙ own.says.idle

pub returns-clause-peers : goal.returns-clause-peers
returns-clause-peers g c = joined_ends

pub returns-clause-given : goal.returns-clause-given
returns-clause-given g c = λ v now d hc hq x q new tc tq named tags e among handled same whole stands.
    let so = given_so v hc hq x q tc tq e named tags now d among new handled in
    let few = says_few v hc hq x q tc tq e named tags now d among in
    let before = there_before v hc hq x q tc tq e named tags now d among in
    let after = there_now v hc hq x q tc tq e named tags now d among new so in
    let token = own_token v hc hq x q tc tq e named tags now d among new so in
    let n = length q.core.local_id in
    let ok = c.few_ids.ensures.unrefused v now d n x new tc named e.own.whole.sound before after few token e.own.few handled in
    let up = stays_open v hc hq x q tc tq e named tags now d among new
    (λ short there greeted core taken.
    c.converses.ensures.open v.accepts v.sealed (v.accepts x.core.session) named hc hq x.handshake q.handshake x.core q.core core x.is_connected q.is_connected tc tq now x.core.addresses.remote d d
    (joined_ends v.accepts v.sealed v.key hc hq x q tc tq e greeted (greeted_out v.accepts v.sealed v.key hq q tq e.peer d there)) (retry_comes tc tq e.came) (retry_comes tq tc e.went) e.own.stands e.peer.stands e.own.up e.peer.up e.peer.not_lost among
    (here d refl) short taken) handled ok in (
      honest v.accepts v.sealed hc x new tc (tc ++ HandedIn d ∷ []) e.own whole stands (says_on v.key x new same e.own.says)
          (c.few_ids.ensures.heard v now d n x new tc named e.own.whole.sound before after few token e.own.few handled) (same_silent x.core.side tc (HandedIn d ∷ []) refl e.own.silent) same.side
          (record { up = up; error = so.error up }),
      so.retry_id,
    )

pub returns-clause-restarts : goal.returns-clause-restarts
returns-clause-restarts g c = λ v now d hc hq x q new tc tq named tags takes e among counts handled.
    let so = given_so v hc hq x q tc tq e named tags now d among new handled in
    let few = says_few v hc hq x q tc tq e named tags now d among in
    let before = there_before v hc hq x q tc tq e named tags now d among in
    let after = there_now v hc hq x q tc tq e named tags now d among new so in
    let token = own_token v hc hq x q tc tq e named tags now d among new so in
    let ok = c.few_ids.ensures.unrefused v now d (length q.core.local_id) x new tc named e.own.whole.sound before after few token e.own.few handled in
    let has = counting_has (length x.core.local_id) q.core.side q.handshake.side (handed_in tc) d e.peer.stands.begun.side_is counts in
    elim (kind v.accepts v.sealed v.key hq q tq e.peer d among) [
      | inl (alone, _) ↦ absurd (alone_has_none (length x.core.local_id) counts.packet d alone counts.has counts.space_is)
      | inr (short, there) ↦
          let peer_greeted = greeted_out v.accepts v.sealed v.key hq q tq e.peer d there in
          let greeted = data_comes v.accepts v.sealed v.key hc hq x q tc tq e d among has peer_greeted in
          let joined = joined_ends v.accepts v.sealed v.key hc hq x q tc tq e greeted peer_greeted in
          runs_anew v hc hq x q tc tq e named tags now d among new short greeted
          (λ core taken.
          let up = c.converses.ensures.open v.accepts v.sealed (v.accepts x.core.session) named hc hq x.handshake q.handshake x.core q.core core x.is_connected q.is_connected tc tq now x.core.addresses.remote d d joined
          (retry_comes tc tq e.came) (retry_comes tq tc e.went) e.own.stands e.peer.stands e.own.up e.peer.up e.peer.not_lost among (here d refl) short taken in (
            up,
            c.restarts.ensures.restarted (v.accepts x.core.session) (v.sealed q.core.session) takes (λ from number bound. tags.makes from Data number bound) x.core q.core core e.own.stands.part e.peer.stands.part now
                x.core.addresses.remote d joined (λ memory. let z : None ≡ Some _ = sym e.own.not_lost ∙ memory in cc) e.own.stands.begun.behaves.follows
                (own_accords v.accepts v.sealed v.key hq q tq e.peer tags).tagged e.own.up there
                (part_counting (length x.core.local_id) q.core.side e.own.stands.part tc d e.own.stands.is_part counts) taken up,
          )) handled ok
    ]
