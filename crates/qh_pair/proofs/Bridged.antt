-- What a pair means, by the laws of its two ends and the bridge between them.
use Rattle.std.proofs.Common.{◌≡◌, inl, inr, ℕ, ◌*◌, Bool, false, List, length, Option, Some, None, refl}
use Rattle.std.specs.Prelude.{not, slice_get}
use Rattle.qh_conn.specs.declared.config.ConnConfig.{ConnConfig}
use Rattle.qh_roles.specs.Streams.{IsUntouched}
use Rattle.qh_spec.specs.declared.link.Event.{Event}
use Rattle.qh_spec.specs.declared.sides.Side.{Side}
use Rattle.qh_spec.specs.declared.sides.Side.TheVariants.{Client, Server}
use Rattle.qh_spec.specs.Growth.{IsAsAsked}
use Rattle.qh_spec.specs.Headline.{IsRecordedAnswer}
use Rattle.qh_spec.specs.Honest.{IsHonest}
use Rattle.qh_spec.specs.Lawful.{Lawful, ReadsMessage}
use Rattle.qh_spec.specs.Link.{other, given_to, sent_by}
use Rattle.qh_spec.specs.Lists.{In}
use Rattle.qh_spec.specs.Message.{PlainHead, Request, Response, PlainMessage, IsRequest, IsResponse}
use Rattle.qh_spec.specs.Record.{PlainEntry}
use Rattle.qh_spec.specs.Same.{SameKind}
use Rattle.qh_spec.specs.Transcript.{Act, finished, handed_in, handed_out}
use Rattle.qh_spec.specs.Whole.{IsWhole}
use Rattle.qh_spec.proofs.Bridge.{crossed, bridge}
use Rattle.qh_pair.specs.Ends.{End, Stands}
use Rattle.qh_pair.specs.Hellos.{AreGreetedAsSet, AreSaidAsSet, HaveIdsOfLength}
use Rattle.qh_pair.specs.Pair.{EndAt, IsRunning, PairState, Running, Means, id_length}
use Rattle.qh_pair.specs.declared.ends.Ids.{Ids}
use Rattle.qh_pair.proofs.Dropped.{dropped_in}
use Rattle.qh_pair.proofs.Hellos.{honest_as_set, length_set, said_as_set, set_ids}
use Rattle.qh_pair.proofs.KeptOpen.{in_lawful}
use Rattle.qh_pair.proofs.Wire.{told_nearly, told_was_given, sent_was_told}
use Rattle.qh_pair.proofs.Within.{GreetedFirst, InOrder, first_greeted}

both_requests : (a b : PlainHead) → IsRequest a → IsRequest b → SameKind a b
both_requests (Response s) b i j = absurd i
both_requests (Request m t) (Response s) i j = absurd j
both_requests (Request m t) (Request n u) i j = tt

both_responses : (a b : PlainHead) → IsResponse a → IsResponse b → SameKind a b
both_responses (Request m t) b i j = absurd i
both_responses (Response s) (Request m t) i j = absurd j
both_responses (Response s) (Response t) i j = tt

lawful_at : (side : Side) (ids : Ids) (config : ConnConfig) (o : Option End) (events : List Event) (t : List Act) → Stands side ids config o t → ((d : List ℕ) → In d (handed_in t) → In d (given_to side events))
    → HaveIdsOfLength (length ids.client) events → Lawful side (length ids.client) (length ids.client) t
lawful_at side ids config None events t s each set = in_lawful side (length ids.client) (length ids.client) t (dropped_in side t s)
lawful_at side ids config (Some c) events t s each set = s.2.lawful (length ids.client) (length_set side ids config c t events s each set)

-- an end keeps the laws, and so does one that isn't there
pub end_lawful : (w : Bool) (side : Side) (ids : Ids) (config : ConnConfig) (end : Option End) (events : List Event) (t : List Act) → HaveIdsOfLength (length ids.client) events → EndAt w side ids config end events t
    → Lawful side (length ids.client) (length ids.client) t
end_lawful w side ids config end events t set at = lawful_at side ids config end events t at.stands (told_was_given side events t (told_nearly w side events t at.told)) set

sent : (w : Bool) (side : Side) (ids : Ids) (config : ConnConfig) (end : Option End) (events : List Event) (t : List Act) → EndAt w side ids config end events t
    → (d : List ℕ) → In d (sent_by side events) → In d (handed_out t)
sent w side ids config end events t at = sent_was_told side events t (told_nearly w side events t at.told)

given : (w : Bool) (side : Side) (ids : Ids) (config : ConnConfig) (end : Option End) (events : List Event) (t : List Act) → EndAt w side ids config end events t
    → (d : List ℕ) → In d (handed_in t) → In d (given_to side events)
given w side ids config end events t at = told_was_given side events t (told_nearly w side events t at.told)

not_untouched : (w : Bool) (events : List Event) (writer : Side) (ids : Ids) (config : ConnConfig) (from to : Option End) (t r : List Act) → IsHonest events → HaveIdsOfLength (length ids.client) events
    → EndAt w writer ids config from events t → EndAt w (other writer) ids config to events r → (stream : ℕ) (n : PlainMessage) → ReadsMessage r stream n → IsUntouched t stream → ⊥
not_untouched w events writer ids config from to t r honest set wrote took stream n reads none =
    let k : ℕ = length ids.client in
    let all = (crossed events writer k k t r honest (end_lawful w writer ids config from events t set wrote) (end_lawful w (other writer) ids config to events r set took)
    (sent w writer ids config from events t wrote) (given w (other writer) ids config to events r took) stream reads.in_order reads.to_the_end).1 in
    let f : finished t stream ≡ false = none.1 in
    cc

as_asked : (w : Bool) (p : PairState) (events : List Event) (entries : List PlainEntry) → IsHonest events → HaveIdsOfLength (id_length p) events → IsRunning w p events entries → (e : PlainEntry) → In e entries
    → IsAsAsked p.client.requests e × IsWhole (id_length p) (given_to Server events) Client e.stream e.request
as_asked w p events entries honest set run e i =
    let k : ℕ = id_length p in
    let c : List Act = run.client.acts in
    let s : List Act = run.server.acts in
    let read = run.server.serving.served e i in
    elim (run.client.asking.asks e.stream) [
      | inl none ↦ absurd (not_untouched w events Client p.ids p.config p.client_end p.server_end c s honest set run.client.at run.server.at e.stream e.request read.1 none)
      | inr a ↦
          let x = bridge events Client k k c s honest
          (end_lawful w Client p.ids p.config p.client_end events c set run.client.at) (end_lawful w Server p.ids p.config p.server_end events s set run.server.at)
          (sent w Client p.ids p.config p.client_end events c run.client.at) (given w Server p.ids p.config p.server_end events s run.server.at)
          e.stream a.asked e.request a.writes read.1 (both_requests a.asked.head e.request.head a.is_request read.0) in
          (record { index = a.index; asked = a.asked; asked_is = a.asked_is; stream_is = a.stream_is; same = x.0 }, x.1)
    ]

recorded : (w : Bool) (p : PairState) (events : List Event) (entries : List PlainEntry) → IsHonest events → HaveIdsOfLength (id_length p) events → IsRunning w p events entries
    → (index : ℕ) (answer : PlainMessage) → slice_get p.client.answers index ≡ Some (Some answer) → IsRecordedAnswer (id_length p) events entries index answer
recorded w p events entries honest set run index answer at =
    let k : ℕ = id_length p in
    let c : List Act = run.client.acts in
    let s : List Act = run.server.acts in
    let read = run.client.asking.answers_are index answer at in
    elim (run.server.serving.responds (4 * index)) [
      | inl none ↦ absurd (not_untouched w events Server p.ids p.config p.server_end p.client_end s c honest set run.server.at run.client.at (4 * index) answer read.1 none)
      | inr a ↦
          let x = bridge events Server k k s c honest
          (end_lawful w Server p.ids p.config p.server_end events s set run.server.at) (end_lawful w Client p.ids p.config p.client_end events c set run.client.at)
          (sent w Server p.ids p.config p.server_end events s run.server.at) (given w Client p.ids p.config p.client_end events c run.client.at)
          (4 * index) a.entry.response answer a.writes read.1 (both_responses a.entry.response.head answer.head a.is_response read.0) in
          record { entry = a.entry; among = a.among; stream_is = a.stream_is; same = x.0; whole = x.1 }
    ]

pub means : GreetedFirst → InOrder → (p : PairState) (events : List Event) (before entries : List PlainEntry) → IsHonest events → Running p events entries → Means p events before entries
unfolding Running
means law order p events before entries honest run =
    let w : Bool = not p.is_over in
    let r : IsRunning w p events entries = run.running in
    let as_set : AreGreetedAsSet (id_length p) p.config events
    = honest_as_set w w p.ids p.config p.client_end p.server_end events r.client.acts r.server.acts honest r.client.at r.server.at in
    let set : HaveIdsOfLength (id_length p) events = set_ids (id_length p) p.config events as_set in
    record {
      served = record {
        grew = record { fresh = entries; longer = refl; once = r.server.serving.once; as_asked = λ e i. (as_asked w p events entries honest set r e i).0 };
        whole = λ e i. (as_asked w p events entries honest set r e i).1;
      };
      answered = recorded w p events entries honest set r;
      as_set = as_set;
      greeted_first = first_greeted law order w p events entries honest set r;
    }

-- what its ends said is by its settings
pub says : (p : PairState) (events : List Event) (entries : List PlainEntry) → Running p events entries → AreSaidAsSet (id_length p) p.config events
unfolding Running
says p events entries run =
    let w : Bool = not p.is_over in
    let r : IsRunning w p events entries = run.running in
    said_as_set w w p.ids p.config p.client_end p.server_end events r.client.acts r.server.acts r.client.at r.server.at
