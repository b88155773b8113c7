-- What an end sent kept within what was announced to it before, and greeted in order.
use Rattle.std.proofs.Common.{◌≡◌, inl, inr, ℕ, Bool, List, [], ◌∷◌, ◌++◌, length, Option, Some, None, refl, sym, ◌∙◌, ap, subst, append_assoc}
use Rattle.std.specs.Prelude.{not}
use Rattle.qh_conn.specs.declared.config.ConnConfig.{ConnConfig}
use Rattle.qh_converse.specs.Converses.{Converses, IsPeerLength}
use Rattle.qh_core.specs.Made.{AcceptsTags, MakesTagsOf}
use Rattle.qh_core.specs.declared.inner.Inner.{Inner}
use Rattle.qh_handshake.specs.declared.handshake.Handshake.{Handshake}
use Rattle.qh_packet.specs.Session.{PlainKeys, plain_accepts, plain_sealed}
use Rattle.qh_spec.proofs.GreetedLaws.{greeted_more, packet_more}
use Rattle.qh_spec.proofs.Members.{in_right}
use Rattle.qh_spec.proofs.TranscriptLaws.{handed_in-append, handed_out-append}
use Rattle.qh_spec.specs.Greeted.{AreBothGreeted, GreetsInOrder, HasGreetedInOrder, HasPacketOf, SentInOrder}
use Rattle.qh_spec.specs.Honest.{IsHonest}
use Rattle.qh_spec.specs.Link.{other, given_to}
use Rattle.qh_spec.specs.Lists.{In}
use Rattle.qh_spec.specs.declared.link.Event.{Event}
use Rattle.qh_spec.specs.declared.link.Event.TheVariants.{Sent}
use Rattle.qh_spec.specs.declared.sides.Side.{Side}
use Rattle.qh_spec.specs.declared.sides.Side.TheVariants.{Client, Server}
use Rattle.qh_spec.specs.declared.sides.Space.TheVariants.{Data}
use Rattle.qh_spec.specs.Record.{PlainEntry}
use Rattle.qh_spec.specs.Transcript.{Act, HandedIn, HandedOut, Wrote, Finished, Reset, Stopped, ReadBytes, ReadEnd, ReadReset, handed_in, handed_out}
use Rattle.qh_pair.specs.Ends.{End, Stands}
use Rattle.qh_pair.specs.Hellos.{AreGreetedFirst, HaveIdsOfLength}
use Rattle.qh_pair.specs.Pair.{EndAt, IsRunning, IsTold, all, unsent, KeepWithin, PairState, Running, id_length, wire, told_acts}
use Rattle.qh_pair.specs.Within.{IsWithinAnnounced, KeptWithin, TakesTo}
use Rattle.qh_pair.specs.declared.ends.Ids.{Ids}
use Rattle.qh_pair.proofs.Dropped.{dropped_in, in_sends_none}
use Rattle.qh_pair.proofs.Heard.{cut_either}
use Rattle.qh_pair.proofs.Hellos.{length_set}
use Rattle.qh_pair.proofs.Wire.{told_acts-append, told_nearly, told_was_given, whole_in, whole_out}

-- ---- where a datagram was handed out

record IsCut (t front : List Act) (d : List ℕ) : Type 0 where
  before : List Act
  after : List Act
  is : t ≡ before ++ HandedOut d ∷ after
  front_is : wire before ≡ front

skip : (a : Act) (t front : List Act) (d : List ℕ) → wire (a ∷ []) ≡ [] → ((u : List Act) → wire (a ∷ u) ≡ wire u) → IsCut t front d → IsCut (a ∷ t) front d
skip a t front d none same c = record { before = a ∷ c.before; after = c.after; is = ap (λ (z : List Act). a ∷ z) c.is; front_is = same c.before ∙ c.front_is }

keep : (a : Act) (t front : List Act) (d : List ℕ) → ((u : List Act) → wire (a ∷ u) ≡ a ∷ wire u) → IsCut t front d → IsCut (a ∷ t) (a ∷ front) d
keep a t front d same c =
    record { before = a ∷ c.before; after = c.after; is = ap (λ (z : List Act). a ∷ z) c.is; front_is = same c.before ∙ ap (λ (z : List Act). a ∷ z) c.front_is }

first_of : {x y : Act} {xs ys : List Act} → x ∷ xs ≡ y ∷ ys → x ≡ y
first_of e = cc

rest_of : {x y : Act} {xs ys : List Act} → x ∷ xs ≡ y ∷ ys → xs ≡ ys
rest_of e = cc

-- the wire of a transcript is cut where the transcript is
cut : (t front rest : List Act) (d : List ℕ) → wire t ≡ front ++ HandedOut d ∷ rest → IsCut t front d
cut [] [] rest d e = cc
cut [] (a ∷ front) rest d e = cc
cut (HandedIn x ∷ t) [] rest d e = let f : HandedIn x ≡ HandedOut d = first_of e in cc
cut (HandedIn x ∷ t) (a ∷ front) rest d e =
    subst (λ (z : Act). IsCut (HandedIn x ∷ t) (z ∷ front) d) (first_of e) (keep (HandedIn x) t front d (λ u. refl) (cut t front rest d (rest_of e)))
cut (HandedOut x ∷ t) [] rest d e =
    let f : HandedOut x ≡ HandedOut d = first_of e in
    record { before = []; after = t; is = ap (λ (z : Act). z ∷ t) f; front_is = refl }
cut (HandedOut x ∷ t) (a ∷ front) rest d e =
    subst (λ (z : Act). IsCut (HandedOut x ∷ t) (z ∷ front) d) (first_of e) (keep (HandedOut x) t front d (λ u. refl) (cut t front rest d (rest_of e)))
cut (Wrote s b ∷ t) front rest d e = skip (Wrote s b) t front d refl (λ u. refl) (cut t front rest d e)
cut (Finished s ∷ t) front rest d e = skip (Finished s) t front d refl (λ u. refl) (cut t front rest d e)
cut (Reset s c ∷ t) front rest d e = skip (Reset s c) t front d refl (λ u. refl) (cut t front rest d e)
cut (Stopped s c ∷ t) front rest d e = skip (Stopped s c) t front d refl (λ u. refl) (cut t front rest d e)
cut (ReadBytes s o b ∷ t) front rest d e = skip (ReadBytes s o b) t front d refl (λ u. refl) (cut t front rest d e)
cut (ReadEnd s ∷ t) front rest d e = skip (ReadEnd s) t front d refl (λ u. refl) (cut t front rest d e)
cut (ReadReset s c ∷ t) front rest d e = skip (ReadReset s c) t front d refl (λ u. refl) (cut t front rest d e)

told_cut : (side : Side) (events before after : List Event) (d : List ℕ) → events ≡ before ++ Sent side d ∷ after → told_acts side events ≡ told_acts side before ++ HandedOut d ∷ told_acts side after
told_cut Client events before after d e = ap (told_acts Client) e ∙ told_acts-append Client before (Sent Client d ∷ after)
told_cut Server events before after d e = ap (told_acts Server) e ∙ told_acts-append Server before (Sent Server d ∷ after)

sent_cut : (side : Side) (events before after : List Event) (t : List Act) (d : List ℕ) → IsTold side events t → events ≡ before ++ Sent side d ∷ after → IsCut t (told_acts side before) d
sent_cut side events before after t d (all w) e = cut t (told_acts side before) (told_acts side after) d (w ∙ told_cut side events before after d e)
sent_cut side events before after t d (unsent x w) e =
    cut t (told_acts side before) (told_acts side after ++ HandedOut x ∷ []) d
    (w ∙ (ap (λ (z : List Act). z ++ HandedOut x ∷ []) (told_cut side events before after d e) ∙ append_assoc (told_acts side before) (HandedOut d ∷ told_acts side after) (HandedOut x ∷ [])))

-- ---- within what was announced

-- what wasn't there handed nothing out
none_out : (side : Side) (t before after : List Act) (d : List ℕ) → handed_out t ≡ [] → t ≡ before ++ HandedOut d ∷ after → ⊥
none_out side t before after d none e =
    subst (λ (z : List (List ℕ)). In d z) (sym (handed_out-append before (HandedOut d ∷ after)) ∙ (ap handed_out (sym e) ∙ none)) (in_right d (handed_out before) (d ∷ handed_out after) (inl refl))

kept_at : (side : Side) (ids : Ids) (config : ConnConfig) (o : Option End) (t before after : List Act) (d : List ℕ) (events : List Event) → Stands side ids config o t
    → ((x : List ℕ) → In x (handed_in t) → In x (given_to side events)) → HaveIdsOfLength (length ids.client) events → t ≡ before ++ HandedOut d ∷ after
    → (id end : ℕ) → TakesTo (length ids.client) (d ∷ []) side id end → IsWithinAnnounced (length ids.client) (length ids.client) side (handed_in before) (handed_out before) d id end
kept_at side ids config None t before after d events s each set e id end takes = absurd (none_out side t before after d (in_sends_none t (dropped_in side t s)) e)
kept_at side ids config (Some c) t before after d events s each set e id end takes =
    s.2.within (length ids.client) (length_set side ids config c t events s each set) before after d e id end takes

kept : (w : Bool) (side : Side) (ids : Ids) (config : ConnConfig) (o : Option End) (events : List Event) (t : List Act) → EndAt w side ids config o events t → HaveIdsOfLength (length ids.client) events
    → (before after : List Event) (d : List ℕ) → events ≡ before ++ Sent side d ∷ after → KeptWithin (length ids.client) side before d
kept w side ids config o events t at set before after d e id end takes =
    let k : ℕ = length ids.client in
    let told : IsTold side events t = told_nearly w side events t at.told in
    let c : IsCut t (told_acts side before) d = sent_cut side events before after t d told e in
    let within = kept_at side ids config o t c.before c.after d events at.stands (told_was_given side events t told) set c.is id end takes in
    subst (λ (z : List (List ℕ)). IsWithinAnnounced k k side (given_to side before) z d id end) (whole_out side before c.before c.front_is)
    (subst (λ (z : List (List ℕ)). IsWithinAnnounced k k side z (handed_out c.before) d id end) (whole_in side before c.before c.front_is) within)

by_side : (w : Bool) (p : PairState) (events : List Event) (entries : List PlainEntry) → HaveIdsOfLength (id_length p) events → IsRunning w p events entries → (before after : List Event) (side : Side) (d : List ℕ)
    → events ≡ before ++ Sent side d ∷ after → KeptWithin (id_length p) side before d
by_side w p events entries set run before after Client d e = kept w Client p.ids p.config p.client_end events run.client.acts run.client.at set before after d e
by_side w p events entries set run before after Server d e = kept w Server p.ids p.config p.server_end events run.server.acts run.server.at set before after d e

pub keeps_within : (p : PairState) (events : List Event) (entries : List PlainEntry) → HaveIdsOfLength (id_length p) events → Running p events entries → KeepWithin (id_length p) events
unfolding Running
keeps_within p events entries set run = by_side (not p.is_over) p events entries set run.running

-- ---- greeted in order

-- what `converses` says of the order
abbrev pub InOrder : Type 0
InOrder = (accepts : AcceptsTags PlainKeys) (sealed : MakesTagsOf PlainKeys) (hello : List ℕ) (h : Handshake) (c : Inner PlainKeys) (k : Bool) (t : List Act) → Converses accepts sealed hello h c k t
    → (n : ℕ) → IsPeerLength h n → HasGreetedInOrder (length c.local_id) n c.side t

greets_more : (m n : ℕ) (side : Side) (xs ys : List (List ℕ)) (d : List ℕ) → ((x : List ℕ) → In x xs → In x ys) → GreetsInOrder m n side xs d → GreetsInOrder m n side ys d
greets_more m n side xs ys d each g = record {
  greeted = λ h. greeted_more m xs ys (other side) each (g.greeted h);
  connected = λ is h. packet_more m xs ys (other side) Data each (g.connected is h);
  answers = λ is from payload h. greeted_more m xs ys (other side) each (g.answers is from payload h);
}

order_at : InOrder → (side : Side) (ids : Ids) (config : ConnConfig) (o : Option End) (t before after : List Act) (d : List ℕ) (events : List Event) → Stands side ids config o t
    → ((x : List ℕ) → In x (handed_in t) → In x (given_to side events)) → HaveIdsOfLength (length ids.client) events → t ≡ before ++ HandedOut d ∷ after
    → GreetsInOrder (length ids.client) (length ids.client) side (handed_in before) d
order_at order side ids config None t before after d events s each set e = absurd (none_out side t before after d (in_sends_none t (dropped_in side t s)) e)
order_at order side ids config (Some c) t before after d events s each set e =
    let since = s.1 in
    let k : ℕ = length ids.client in
    let fits : IsPeerLength c.handshake k = length_set side ids config c t events s each set in
    elim (cut_either since.before since.since before after (HandedOut d) (sym since.are ∙ e)) as (λ _. GreetsInOrder k k side (handed_in before) d) [
      | inl r ↦ absurd (none_out side since.before before r.0 d (in_sends_none since.before (dropped_in side since.before since.dropped)) r.1)
      | inr r ↦
          let has : GreetsInOrder (length c.core.local_id) k c.core.side (handed_in r.0) d
          = order plain_accepts plain_sealed since.hello c.handshake c.core c.is_connected since.since since.stands k fits r.0 after d r.2 in
          let here : GreetsInOrder k k side (handed_in r.0) d
          = subst (λ (z : Side). GreetsInOrder k k z (handed_in r.0) d) s.0.side_is (subst (λ (z : ℕ). GreetsInOrder z k c.core.side (handed_in r.0) d) (ap length s.0.local_is ∙ s.0.as_long) has) in
          greets_more k k side (handed_in r.0) (handed_in before) d
          (λ x i. subst (λ (z : List (List ℕ)). In x z) (sym (ap handed_in r.1 ∙ handed_in-append since.before r.0)) (in_right x (handed_in since.before) (handed_in r.0) i)) here
    ]

pub sent_in_order : InOrder → (w : Bool) (side : Side) (ids : Ids) (config : ConnConfig) (o : Option End) (events : List Event) (t : List Act) → EndAt w side ids config o events t → HaveIdsOfLength (length ids.client) events
    → SentInOrder (length ids.client) (length ids.client) side events
sent_in_order order w side ids config o events t at set before after d e =
    let k : ℕ = length ids.client in
    let told : IsTold side events t = told_nearly w side events t at.told in
    let c : IsCut t (told_acts side before) d = sent_cut side events before after t d told e in
    subst (λ (z : List (List ℕ)). GreetsInOrder k k side z d) (whole_in side before c.before c.front_is)
    (order_at order side ids config o t c.before c.after d events at.stands (told_was_given side events t told) set c.is)

-- what `greeted_first` says
abbrev pub GreetedFirst : Type 0
GreetedFirst = (own peer : ℕ) (events before after : List Event) (side : Side) (datagram : List ℕ) → IsHonest events → SentInOrder own peer side events → SentInOrder peer own (other side) events
    → events ≡ before ++ Sent side datagram ∷ after → HasPacketOf peer (datagram ∷ []) side Data → AreBothGreeted own peer side before

both_in_order : InOrder → (w : Bool) (p : PairState) (events : List Event) (entries : List PlainEntry) → HaveIdsOfLength (id_length p) events → IsRunning w p events entries → (side : Side)
    → SentInOrder (id_length p) (id_length p) side events
both_in_order order w p events entries set run Client = sent_in_order order w Client p.ids p.config p.client_end events run.client.acts run.client.at set
both_in_order order w p events entries set run Server = sent_in_order order w Server p.ids p.config p.server_end events run.server.acts run.server.at set

pub first_greeted : GreetedFirst → InOrder → (w : Bool) (p : PairState) (events : List Event) (entries : List PlainEntry) → IsHonest events → HaveIdsOfLength (id_length p) events → IsRunning w p events entries
    → AreGreetedFirst (id_length p) events
first_greeted law order w p events entries honest set run before after side d e has =
    law (id_length p) (id_length p) events before after side d honest (both_in_order order w p events entries set run side) (both_in_order order w p events entries set run (other side)) e has
