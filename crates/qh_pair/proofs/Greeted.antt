-- The ends of a pair that goes on were greeted, if a datagram that greets them was given to them over an honest link.
use Rattle.std.proofs.Common.{◌≡◌, inl, inr, false, List, [], ℕ, Option, Some, None, refl, sym, ◌∙◌, ap}
use Rattle.std.specs.Prelude.{is_some}
use Rattle.std.proofs.lemmas.Bool.{false≢true}
use Rattle.qh_conn.specs.declared.config.ConnConfig.{ConnConfig}
use Rattle.qh_roles.specs.Client.{PlainClient}
use Rattle.qh_spec.specs.Honest.{IsHonest}
use Rattle.qh_spec.specs.Link.{given_to}
use Rattle.qh_spec.specs.Record.{PlainEntry}
use Rattle.qh_spec.specs.Transcript.{handed_in}
use Rattle.qh_spec.specs.declared.link.Event.{Event}
use Rattle.qh_spec.specs.declared.sides.Side.{Side}
use Rattle.qh_spec.specs.declared.sides.Side.TheVariants.{Client, Server}
use Rattle.qh_pair.specs.Ends.{End}
use Rattle.qh_pair.specs.Full.{ActOnceGreeted, AsksWhereItMay, HasAcceptedEachArrived, HasAcceptedWhatArrived, HasAskedWherePermitted, IsFullTurn}
use Rattle.qh_pair.specs.Pair.{AreGreeted, IsRunningSoundly, PairState, Running, id_length}
use Rattle.qh_pair.specs.Sound.{IsGreetedAt, IsHeardAt, WasGreeted}
use Rattle.qh_pair.proofs.Heard.{greeted_none}
use Rattle.qh_pair.proofs.PairSounds.{none_done}
use Rattle.qh_pair.proofs.Wire.{whole_in}

at_greeted : (k : ℕ) (side : Side) (config : ConnConfig) (o : Option End) (events : List Event) → (o ≡ None → given_to side events ≡ []) → IsHeardAt side k config o events → WasGreeted k side events → IsGreetedAt o
at_greeted k side config None events none h w = absurd (greeted_none k side [] events (none refl) w)
at_greeted k side config (Some c) events none h w = h.greets w

pub are_greeted : (p : PairState) (events : List Event) (entries : List PlainEntry) → p.is_over ≡ false → IsHonest events → Running p events entries → AreGreeted p events
unfolding Running
are_greeted p events entries going honest run =
    let s : IsRunningSoundly p events entries = run.soundly going honest in
    let t = s.run.client.acts in
    let u = s.run.server.acts in
    record {
      client = at_greeted (id_length p) Client p.config p.client_end events
          (λ none. sym (whole_in Client events t s.run.client.at.told) ∙ ap handed_in (none_done Client p.ids p.config p.client_end p.server_end t u s.sound.ends none)) s.sound.client;
      server = at_greeted (id_length p) Server p.config p.server_end events
          (λ none. sym (whole_in Server events u s.run.server.at.told) ∙ ap handed_in (none_done Server p.ids p.config p.server_end p.client_end u t s.sound.ends none)) s.sound.server;
    }

-- ---- a full turn

asked_all : (c : PlainClient) (o : Option End) → IsGreetedAt o → AsksWhereItMay c o → HasAskedWherePermitted c o
asked_all c None known asks = absurd known
asked_all c (Some e) known (inl none) = absurd (false≢true (sym (ap is_some none) ∙ known))
asked_all c (Some e) known (inr asks) = asks

accepted_all : (o : Option End) → IsGreetedAt o → HasAcceptedWhatArrived o → HasAcceptedEachArrived o
accepted_all None known accepts = absurd known
accepted_all (Some e) known (inl none) = absurd (false≢true (sym (ap is_some none) ∙ known))
accepted_all (Some e) known (inr accepts) = accepts

pub act_once_greeted : (p : PairState) (events turn : List Event) (entries : List PlainEntry) → p.is_over ≡ false → IsHonest events → Running p events entries → IsFullTurn p turn → ActOnceGreeted p events
act_once_greeted p events turn entries going honest run full =
    let g : AreGreeted p events = are_greeted p events entries going honest run in
    record { asks = λ w. asked_all p.client p.client_end (g.client w) full.asks; accepts = λ w. accepted_all p.server_end (g.server w) full.accepts }
