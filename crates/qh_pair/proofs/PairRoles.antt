-- The steps of the roles of a pair: the client asks, and the server serves.
use Rattle.std.proofs.Common.{◌≡◌, inl, inr, true, List, [], ◌++◌, ℕ, Option, Some, None, refl, sym, ◌∙◌, ap, subst, append-nil}
use Rattle.std.specs.Prelude.{is_some}
use Rattle.std.proofs.lemmas.Bool.{false≢true}
use Rattle.qh_core.proofs.MadeTogether.{streams_local}
use Rattle.qh_core.specs.Inner.{is_open, with_streams}
use Rattle.qh_core.specs.declared.inner.Inner.{Inner}
use Rattle.qh_packet.specs.Session.{PlainKeys}
use Rattle.qh_roles.proofs.Going.{went_by, went_nowhere}
use Rattle.qh_roles.specs.Client.{Asking, PlainClient}
use Rattle.qh_roles.specs.Server.{PlainServer, ServerStep, Serving}
use Rattle.qh_roles.specs.Streams.{Acted}
use Rattle.qh_spec.specs.Record.{PlainEntry}
use Rattle.qh_spec.specs.Transcript.{Act}
use Rattle.qh_spec.specs.declared.link.Event.{Event}
use Rattle.qh_spec.specs.declared.sides.Side.TheVariants.{Client, Server}
use Rattle.qh_pair.specs.Ends.{End, Stands}
use Rattle.qh_pair.specs.Pair.{IsRunning, IsRunningSoundly, PairState, id_length}
use Rattle.qh_pair.specs.Sound.{AreSoundEnds, IsGreetedAt, IsHeardAt}
use Rattle.qh_pair.specs.Steps.{ClientPolled, ClientWent, HasAcceptedAll, HasOpenedAll, HasRun, IsCounted, IsOnSide, IsStill, PairStep, ServerPolled, ServerWent}
use Rattle.qh_pair.specs.Steps.{ClientPolled as client_polled}
use Rattle.qh_pair.specs.Steps.{ServerPolled as server_polled}
use Rattle.qh_pair.specs.Turn.{IsNotLost}
use Rattle.qh_pair.proofs.EndsAt.{accepted_weak, at_acted, not_out_of_memory, on_side, opened_weak}
use Rattle.qh_pair.proofs.PairSteps.{same_refl, step_still, told_nothing}
use Rattle.qh_pair.proofs.RoleCalls.{CallLaws, RoleCalled, part_same, role_heard, role_sound, role_stands}
use Rattle.qh_pair.proofs.SameStreams.{asking_same, same_back, same_more, serving_same}

-- the ends of a pair have their sides
pub client_side : (p : PairState) → HasRun p → IsOnSide Client p.client_end
client_side p run = on_side Client p.ids p.config p.client_end run.running.client.acts run.running.client.at.stands

pub server_side : (p : PairState) → HasRun p → IsOnSide Server p.server_end
server_side p run = on_side Server p.ids p.config p.server_end run.running.server.acts run.running.server.at.stands

-- an end that isn't lost is open
abbrev pub IsUpAt : Option End → Type 0
IsUpAt o = (c : End) → o ≡ Some c → is_open c.core.state ≡ true

pub still_refl : (p : PairState) → IsCounted p → IsStill p p
still_refl p counted = record { same = same_refl p; running = λ events entries run. run; counted = counted; soundly = λ events entries s. s }

-- ---- calls of a role

core_is : (b d : End) → d ≡ record b { core = with_streams b.core d.core.space.streams } → d.core ≡ with_streams b.core d.core.space.streams
core_is b d rest = ap (λ (z : End). z.core) rest

end_is : (b d : End) → d ≡ record b { core = with_streams b.core d.core.space.streams } → d ≡ record b { core = d.core }
end_is b d rest = rest ∙ ap (λ (z : Inner PlainKeys). record b { core = z }) (sym (core_is b d rest))

-- an end that went on without a datagram knows its peer if it did
role_known : (old new : Option End) (b d : End) → old ≡ Some b → new ≡ Some d → is_some d.handshake.peer ≡ is_some b.handshake.peer → IsGreetedAt old → IsGreetedAt new
role_known old new b d was now_is same known = subst IsGreetedAt (sym now_is) (same ∙ subst IsGreetedAt was known)

-- ---- the client

-- what a client that went on did
pub record ClientDid (p q : PairState) (b d : End) (t : List Act) : Type 0 where
  pub acts : List Act
  pub called : RoleCalled b d.core acts
  pub asking : Asking q.client (t ++ acts)

client_did : (p q : PairState) (b d : End) (t : List Act) → ClientWent p.client q.client b d → b.core.space.streams.bi.opened ≡ p.client.next → Stands Client p.ids p.config (Some b) t → Asking p.client t → ClientDid p q b d t
client_did p q b d t went count stands asking =
    let since = stands.1 in
    let part = since.stands.part in
    let same = part_same Client b t since in
    let did : Acted b.core part (Asking q.client) d.core part
    = went.asks part part (went_nowhere b.core part since.stands.begun.behaves) (inr count) (asking_same p.client t part (same_back part t same) asking) in
    record {
      acts = did.acts;
      called = record {
        is = core_is b d went.rest;
        greeted = went.greeted;
        made = streams_local b.core d.core did.acts (went_by b.core part d.core did.acts did.follows);
        calls = did.calls;
      };
      asking = asking_same q.client (part ++ did.acts) (t ++ did.acts) (same_more part t did.acts same) did.holds;
    }

module _ (laws : CallLaws) (p q : PairState) (b d : End) (was : p.client_end ≡ Some b) (now_is : q.client_end ≡ Some d) (went : ClientWent p.client q.client b d) (up : is_open b.core.state ≡ true)
    (count : b.core.space.streams.bi.opened ≡ p.client.next) (after : HasOpenedAll q.client q.client_end) where
  client_at : (t : List Act) → Stands Client p.ids p.config p.client_end t → Stands Client p.ids p.config (Some b) t
  client_at t s = subst (λ (z : Option End). Stands Client p.ids p.config z t) was s

  did_of : (events : List Event) (entries : List PlainEntry) (run : IsRunning true p events entries) → ClientDid p q b d run.client.acts
  did_of events entries run = client_did p q b d run.client.acts went count (client_at run.client.acts run.client.at.stands) run.client.asking

  asks_run : (events : List Event) (entries : List PlainEntry) → IsRunning true p events entries → IsRunning true (record p { client = q.client; client_end = q.client_end }) events entries
  asks_run events entries run =
      let did = did_of events entries run in
      let stands : Stands Client p.ids p.config (Some d) (run.client.acts ++ did.acts)
      = subst (λ (z : End). Stands Client p.ids p.config (Some z) (run.client.acts ++ did.acts)) (sym (end_is b d went.rest))
      (role_stands laws Client p.ids p.config b d.core run.client.acts did.acts did.called up (client_at run.client.acts run.client.at.stands)) in
      record {
        client = record {
          acts = run.client.acts ++ did.acts;
          at = at_acted Client p.ids p.config p.client_end q.client_end events run.client.acts did.acts run.client.at did.called.calls
              (subst (λ (z : Option End). Stands Client p.ids p.config z (run.client.acts ++ did.acts)) (sym now_is) stands);
          asking = did.asking;
          opened = opened_weak q.client q.client_end after;
        };
        server = record { acts = run.server.acts; at = run.server.at; serving = run.server.serving; accepted = run.server.accepted };
      }

  asks_soundly : (events : List Event) (entries : List PlainEntry) → IsRunningSoundly p events entries → IsRunningSoundly (record p { client = q.client; client_end = q.client_end }) events entries
  unfolding asks_run did_of
  asks_soundly events entries s =
      let run : IsRunning true p events entries = s.run in
      let did = did_of events entries run in
      let t = run.client.acts in
      let u = run.server.acts in
      record {
        run = asks_run events entries run;
        sound = record {
          fits = s.sound.fits;
          lengths = s.sound.lengths;
          ends = subst (λ (z : Option End). AreSoundEnds Client p.ids p.config z p.server_end (t ++ did.acts) u) (sym now_is)
              (subst (λ (z : End). AreSoundEnds Client p.ids p.config (Some z) p.server_end (t ++ did.acts) u) (sym (end_is b d went.rest))
              (role_sound laws Client p.ids p.config b d.core p.server_end t u did.acts did.called (client_at t run.client.at.stands).0.whole
              (subst (λ (z : Option End). AreSoundEnds Client p.ids p.config z p.server_end t u) was s.sound.ends)));
          client = subst (λ (z : Option End). IsHeardAt Client (id_length p) p.config z events) (sym now_is)
              (subst (λ (z : End). IsHeardAt Client (id_length p) p.config (Some z) events) (sym (end_is b d went.rest))
              (role_heard Client (id_length p) p.config b d.core events (core_is b d went.rest) (subst (λ (z : Option End). IsHeardAt Client (id_length p) p.config z events) was s.sound.client)));
          server = s.sound.server;
        };
      }

client_count : (p q : PairState) (b d : End) → q.client_end ≡ Some d → ClientWent p.client q.client b d → b.core.error ≡ None → b.core.space.streams.bi.opened ≡ p.client.next → HasOpenedAll q.client q.client_end
client_count p q b d now_is went none count =
    let none_after : d.core.error ≡ None = ap (λ (z : End). z.core.error) went.rest ∙ none in
    let opened : d.core.space.streams.bi.opened ≡ q.client.next = elim (went.opened (inr count)) as (λ _. d.core.space.streams.bi.opened ≡ q.client.next) [ inl e ↦ absurd (not_out_of_memory d none_after e) | inr e ↦ e ] in
    let known : is_some d.handshake.peer ≡ true = ap (λ (z : End). is_some z.handshake.peer) went.rest ∙ went.greeted in
    subst (λ (z : Option End). HasOpenedAll q.client z) (sym now_is) (opened, λ unknown. absurd (false≢true (sym (ap is_some unknown) ∙ known)))

-- a client that went on at its end, which isn't lost
pub client_asks : CallLaws → (p q : PairState) → IsCounted p → IsNotLost p.client_end → IsUpAt p.client_end → ClientPolled p.client q.client p.client_end q.client_end
    → q ≡ record p { client = q.client; client_end = q.client_end } → IsStill p q
client_asks laws p q counted going up (client_polled.waits same_client same_end) is =
    subst (λ (z : PairState). IsStill p z) (sym is)
    (subst (λ (z : PlainClient). IsStill p (record p { client = z; client_end = q.client_end })) (sym same_client)
    (subst (λ (z : Option End). IsStill p (record p { client = p.client; client_end = z })) (sym same_end) (still_refl p counted)))
client_asks laws p q counted going up (client_polled.went b d was now_is went) is =
    let count : b.core.space.streams.bi.opened ≡ p.client.next = (subst (λ (z : Option End). HasOpenedAll p.client z) was counted.client).0 in
    let none : b.core.error ≡ None = subst IsNotLost was going in
    let after : HasOpenedAll q.client q.client_end = client_count p q b d now_is went none count in
    subst (λ (z : PairState). IsStill p z) (sym is)
    (record {
      same = record { requests = went.requests; places = went.places; ids = refl; config = refl; limits = refl; over = refl; known = record { client = role_known p.client_end q.client_end b d was now_is (ap (λ (z : End). is_some z.handshake.peer) went.rest); server = λ k. k } };
      running = asks_run laws p q b d was now_is went (up b was) count after;
      counted = record { client = after; server = counted.server };
      soundly = asks_soundly laws p q b d was now_is went (up b was) count after;
    })

-- ---- the server

pub record ServerDid (p q : PairState) (b d : End) (t : List Act) (entries : List PlainEntry) : Type 0 where
  pub acts : List Act
  pub called : RoleCalled b d.core acts
  pub serving : Serving q.server entries (t ++ acts)

server_did : (p q : PairState) (b d : End) (t : List Act) (entries r s : List PlainEntry) → (went : ServerWent p.server q.server b d r s) (st : ServerStep p.server q.server b.core d.core r s) → Stands Server p.ids p.config (Some b) t
    → Serving p.server entries t → ServerDid p q b d t (entries ++ st.fresh)
server_did p q b d t entries r s went st stands serving =
    let since = stands.1 in
    let part = since.stands.part in
    let same = part_same Server b t since in
    let did : Acted b.core part (Serving q.server (entries ++ st.fresh)) d.core part
    = st.does b.core part part entries (went_nowhere b.core part since.stands.begun.behaves) (serving_same p.server entries t part (same_back part t same) serving) in
    record {
      acts = did.acts;
      called = record {
        is = core_is b d went.rest;
        greeted = went.greeted;
        made = streams_local b.core d.core did.acts (went_by b.core part d.core did.acts did.follows);
        calls = did.calls;
      };
      serving = serving_same q.server (entries ++ st.fresh) (part ++ did.acts) (t ++ did.acts) (same_more part t did.acts same) did.holds;
    }

module _ (laws : CallLaws) (p q : PairState) (b d : End) (r s : List PlainEntry) (was : p.server_end ≡ Some b) (now_is : q.server_end ≡ Some d) (went : ServerWent p.server q.server b d r s) (up : is_open b.core.state ≡ true)
    (st : ServerStep p.server q.server b.core d.core r s) (after : HasAcceptedAll q.server q.server_end) where
  server_at : (t : List Act) → Stands Server p.ids p.config p.server_end t → Stands Server p.ids p.config (Some b) t
  server_at t h = subst (λ (z : Option End). Stands Server p.ids p.config z t) was h

  served_of : (events : List Event) (entries : List PlainEntry) (run : IsRunning true p events entries) → ServerDid p q b d run.server.acts (entries ++ st.fresh)
  served_of events entries run = server_did p q b d run.server.acts entries r s went st (server_at run.server.acts run.server.at.stands) run.server.serving

  serves_run : (events : List Event) (entries : List PlainEntry) → IsRunning true p events entries → IsRunning true (record p { server = q.server; server_end = q.server_end }) events (entries ++ st.fresh)
  serves_run events entries run =
      let did = served_of events entries run in
      let stands : Stands Server p.ids p.config (Some d) (run.server.acts ++ did.acts)
      = subst (λ (z : End). Stands Server p.ids p.config (Some z) (run.server.acts ++ did.acts)) (sym (end_is b d went.rest))
      (role_stands laws Server p.ids p.config b d.core run.server.acts did.acts did.called up (server_at run.server.acts run.server.at.stands)) in
      record {
        client = record { acts = run.client.acts; at = run.client.at; asking = run.client.asking; opened = run.client.opened };
        server = record {
          acts = run.server.acts ++ did.acts;
          at = at_acted Server p.ids p.config p.server_end q.server_end events run.server.acts did.acts run.server.at did.called.calls
              (subst (λ (z : Option End). Stands Server p.ids p.config z (run.server.acts ++ did.acts)) (sym now_is) stands);
          serving = did.serving;
          accepted = accepted_weak q.server q.server_end after;
        };
      }

  serves_soundly : (events : List Event) (entries : List PlainEntry) → IsRunningSoundly p events entries → IsRunningSoundly (record p { server = q.server; server_end = q.server_end }) events (entries ++ st.fresh)
  unfolding serves_run served_of
  serves_soundly events entries h =
      let run : IsRunning true p events entries = h.run in
      let did = served_of events entries run in
      let t = run.server.acts in
      let u = run.client.acts in
      record {
        run = serves_run events entries run;
        sound = record {
          fits = h.sound.fits;
          lengths = h.sound.lengths;
          ends = subst (λ (z : Option End). AreSoundEnds Server p.ids p.config z p.client_end (t ++ did.acts) u) (sym now_is)
              (subst (λ (z : End). AreSoundEnds Server p.ids p.config (Some z) p.client_end (t ++ did.acts) u) (sym (end_is b d went.rest))
              (role_sound laws Server p.ids p.config b d.core p.client_end t u did.acts did.called (server_at t run.server.at.stands).0.whole
              (subst (λ (z : Option End). AreSoundEnds Server p.ids p.config z p.client_end t u) was h.sound.ends)));
          client = h.sound.client;
          server = subst (λ (z : Option End). IsHeardAt Server (id_length p) p.config z events) (sym now_is)
              (subst (λ (z : End). IsHeardAt Server (id_length p) p.config (Some z) events) (sym (end_is b d went.rest))
              (role_heard Server (id_length p) p.config b d.core events (core_is b d went.rest) (subst (λ (z : Option End). IsHeardAt Server (id_length p) p.config z events) was h.sound.server)));
        };
      }

server_count : (p q : PairState) (b d : End) (r s : List PlainEntry) → q.server_end ≡ Some d → ServerWent p.server q.server b d r s → b.core.error ≡ None → b.core.space.streams.bi.accepted ≡ p.server.accepted → HasAcceptedAll q.server q.server_end
server_count p q b d r s now_is went none count =
    let none_after : d.core.error ≡ None = ap (λ (z : End). z.core.error) went.rest ∙ none in
    let accepted : d.core.space.streams.bi.accepted ≡ q.server.accepted = elim (went.accepted (inr count)) as (λ _. d.core.space.streams.bi.accepted ≡ q.server.accepted) [ inl e ↦ absurd (not_out_of_memory d none_after e) | inr e ↦ e ] in
    let known : is_some d.handshake.peer ≡ true = ap (λ (z : End). is_some z.handshake.peer) went.rest ∙ went.greeted in
    subst (λ (z : Option End). HasAcceptedAll q.server z) (sym now_is) (accepted, λ unknown. absurd (false≢true (sym (ap is_some unknown) ∙ known)))

server_waits : (now : ℕ) (p : PairState) (t : Option (List Event)) (r s : List PlainEntry) → IsCounted p → s ≡ r → PairStep now true p p t t r s (λ more. more ≡ [])
server_waits now p t r s counted same = subst (λ (z : List PlainEntry). PairStep now true p p t t r z (λ more. more ≡ [])) (sym same) (step_still now p p t r (λ more. more ≡ []) (still_refl p counted) refl)

-- a server that went on at its end, which isn't lost
pub server_serves : CallLaws → (now : ℕ) (p q : PairState) (t : Option (List Event)) (r s : List PlainEntry) → IsCounted p → IsNotLost p.server_end → IsUpAt p.server_end
    → ServerPolled p.server q.server p.server_end q.server_end r s → q ≡ record p { server = q.server; server_end = q.server_end } → PairStep now true p q t t r s (λ more. more ≡ [])
server_serves laws now p q t r s counted going up (server_polled.waits same_server same_end served) is =
    subst (λ (z : PairState). PairStep now true p z t t r s (λ more. more ≡ [])) (sym is)
    (subst (λ (z : PlainServer). PairStep now true p (record p { server = z; server_end = q.server_end }) t t r s (λ more. more ≡ [])) (sym same_server)
    (subst (λ (z : Option End). PairStep now true p (record p { server = p.server; server_end = z }) t t r s (λ more. more ≡ [])) (sym same_end) (server_waits now p t r s counted served)))
server_serves laws now p q t r s counted going up (server_polled.went b d was now_is went) is =
    let count : b.core.space.streams.bi.accepted ≡ p.server.accepted = (subst (λ (z : Option End). HasAcceptedAll p.server z) was counted.server).0 in
    let none : b.core.error ≡ None = subst IsNotLost was going in
    let after : HasAcceptedAll q.server q.server_end = server_count p q b d r s now_is went none count in
    let st : ServerStep p.server q.server b.core d.core r s = went.serves (inr count) in
    subst (λ (z : PairState). PairStep now true p z t t r s (λ more. more ≡ [])) (sym is)
    (record {
      same = record { requests = refl; places = refl; ids = refl; config = refl; limits = went.limits; over = refl; known = record { client = λ k. k; server = role_known p.server_end q.server_end b d was now_is (ap (λ (z : End). is_some z.handshake.peer) went.rest) } };
      more = [];
      told_is = told_nothing t;
      kind = refl;
      fresh = st.fresh;
      served_is = st.served_is;
      running = λ events entries run. subst (λ (z : List Event). IsRunning true (record p { server = q.server; server_end = q.server_end }) z (entries ++ st.fresh)) (sym (append-nil events))
          (serves_run laws p q b d r s was now_is went (up b was) st after events entries run);
      counted = λ e. record { client = counted.client; server = after };
      soundly = λ whole events entries honest by h.
          subst (λ (z : List Event). IsRunningSoundly (record p { server = q.server; server_end = q.server_end }) z (entries ++ st.fresh)) (sym (append-nil events))
          (serves_soundly laws p q b d r s was now_is went (up b was) st after events entries h);
    })

-- an end with its error as before is no more lost
pub still_goes : (old new : Option End) (b d : End) → old ≡ Some b → new ≡ Some d → d.core.error ≡ b.core.error → IsNotLost old → IsNotLost new
still_goes old new b d is_old is_new same going = subst IsNotLost (sym is_new) (same ∙ subst IsNotLost is_old going)

pub client_still_goes : (old new : PlainClient) (old_end new_end : Option End) → ClientPolled old new old_end new_end → IsNotLost old_end → IsNotLost new_end
client_still_goes old new old_end new_end (client_polled.went b d was now_is went) going = still_goes old_end new_end b d was now_is (ap (λ (z : End). z.core.error) went.rest) going
client_still_goes old new old_end new_end (client_polled.waits same_client same_end) going = subst IsNotLost (sym same_end) going

pub server_still_goes : (old new : PlainServer) (old_end new_end : Option End) (r s : List PlainEntry) → ServerPolled old new old_end new_end r s → IsNotLost old_end → IsNotLost new_end
server_still_goes old new old_end new_end r s (server_polled.went b d was now_is went) going = still_goes old_end new_end b d was now_is (ap (λ (z : End). z.core.error) went.rest) going
server_still_goes old new old_end new_end r s (server_polled.waits same_server same_end served) going = subst IsNotLost (sym same_end) going

pub client_there : (old new : PlainClient) (old_end new_end : Option End) → ClientPolled old new old_end new_end → is_some old_end ≡ true → is_some new_end ≡ true
client_there old new old_end new_end (client_polled.went b d was now_is went) there = ap is_some now_is
client_there old new old_end new_end (client_polled.waits same_client same_end) there = ap is_some same_end ∙ there

pub server_there : (old new : PlainServer) (old_end new_end : Option End) (r s : List PlainEntry) → ServerPolled old new old_end new_end r s → is_some old_end ≡ true → is_some new_end ≡ true
server_there old new old_end new_end r s (server_polled.went b d was now_is went) there = ap is_some now_is
server_there old new old_end new_end r s (server_polled.waits same_server same_end served) there = ap is_some same_end ∙ there
