-- The Initial packets of a datagram, taken one after another.
use Rattle.std.proofs.Common.{◌≡◌, ◌⊎◌, ℕ, Bool, true, List, [], Option, Some, None, IfSome, refl, sym, ap, ◌∙◌, inl, inr, subst}
use Rattle.std.proofs.lemmas.Option.{same_Some}
use Rattle.std.specs.Prelude.{IfErr, OnErr, OnOk, Result, Ok, Err}
use Rattle.qh_base.specs.declared.connection_error.ConnectionError.{ConnectionError}
use Rattle.qh_base.specs.declared.connection_error.ConnectionError.TheVariants.{Memory as Wanting}
use Rattle.qh_base.specs.declared.time.Moment.{Moment}
use Rattle.qh_handshake.proofs.HeldKept.{said_kept}
use Rattle.qh_handshake.specs.Handshake.{IsHandshake, IsHeld, IsSaid, KeepsHello}
use Rattle.qh_handshake.specs.Incoming.{ArePacketsTaken, Form, IsBehind, IsExpectedOf, IsHelloRead, IsInitialTaken, IsOpenedBy, IsPacketHandled, Learns, SessionView, knowing, or_learned}
use Rattle.qh_handshake.specs.Incoming.ArePacketsTaken.{done, more, ended as ended_by}
use Rattle.qh_handshake.specs.Incoming.IsInitialTaken.{gone, dropped, ended, handled}
use Rattle.qh_handshake.specs.InitialSpace.{IsInitialSpace}
use Rattle.qh_handshake.specs.Lost.{AreBegun, AreInitialsLost, IsLeft}
use Rattle.qh_handshake.specs.Lost.AreBegun.{here as here_begun, more as more_begun}
use Rattle.qh_handshake.specs.Unread.{IsHelloUnread, IsInitialUnread, IsPacketUnread}
use Rattle.qh_handshake.specs.Unread.IsInitialUnread.{packet, hello}
use Rattle.qh_handshake.specs.declared.handshake.Handshake.{Handshake}
use Rattle.qh_handshake.specs.declared.initial_space.InitialSpace.{InitialSpace}
use Rattle.qh_hello.specs.Greetings.{greeting}
use Rattle.qh_packet.specs.Initial.{BeginsWithInitial}
use Rattle.qh_packet.specs.Packet.{IsInitialOpened}
use Rattle.qh_packet.specs.Session.{AcceptsTag, SealsTag}
use Rattle.qh_spec.specs.Hello.{hello_bytes, hello_of}
use Rattle.qh_spec.specs.Link.{other}
use Rattle.qh_spec.specs.declared.sides.Side.TheVariants.{Client, Server}

-- ---- one of them

-- a handshake stays whole with another space and the id of its peer
pub heard_whole : (h : Handshake) (s new : InitialSpace) (source : List ℕ) → IsHandshake h → h.space ≡ Some s → IsInitialSpace new → KeepsHello s new → IsHandshake (knowing h source new)
heard_whole h s new source whole is space keeps = record {
  space = space;
  token = whole.token;
  source = whole.source;
  origin = whole.origin;
  validated = whole.validated;
  server = λ e. let was = whole.server e in (refl, was.1, was.2);
  greeted = λ e there. absurd (let both : ◌≡◌ {A = Option InitialSpace} None (Some s) = sym (whole.greeted e there) ∙ is in cc);
  held = λ e unread. keeps.held (subst (λ (o : Option InitialSpace). IfSome o IsHeld) is (whole.held e unread));
  said = λ e there. said_kept _ s new keeps (subst (λ (o : Option InitialSpace). IfSome o (IsSaid (hello_bytes (hello_of (greeting Server [] h.parameters))))) is (whole.said e there));
}

-- it is opened with the number that is expected
pub opened_by : {X : Type 0} (accepts : AcceptsTag) (h : Handshake) (s : InitialSpace) (f : Form) (expected : ℕ) (answer : Option X) (number_of : X → ℕ) (frames_of : X → List ℕ) → h.space ≡ Some s
    → (h.side ≡ Client → f.token ≡ []) → (h.knows_peer ≡ true → f.source ≡ h.remote_id) → IsExpectedOf s expected
    → IfSome answer (λ p. IsInitialOpened accepts (other h.side) expected f.first f.body (number_of p) (frames_of p))
    → IfSome answer (λ p. (t : InitialSpace) × (h.space ≡ Some t) × IsOpenedBy accepts h t f (number_of p) (frames_of p))
opened_by accepts h s f expected None number_of frames_of is untokened source is_expected opened = tt
opened_by accepts h s f expected (Some p) number_of frames_of is untokened source is_expected opened =
    (s, is, record { untokened = untokened; source_is = source; expected = expected; is_expected = is_expected; opened = opened })

-- it isn't opened
pub not_opened : (accepts : AcceptsTag) (now : Moment) (f : Form) (h : Handshake) → ((s : InitialSpace) → h.space ≡ Some s → (number : ℕ) (frames : List ℕ) → IsOpenedBy accepts h s f number frames → ⊥)
    → IsInitialTaken accepts now f h h None None
not_opened accepts now f h none = by_space h.space refl where
  by_space : (o : Option InitialSpace) → h.space ≡ o → IsInitialTaken accepts now f h h None None
  by_space None is = gone is refl
  by_space (Some s) is = dropped s is (none s is) refl

-- a session, as its contract names its parts
abbrev pub view_of : {S : Type 0} → (name : S → List ℕ) → (knows : S → Bool) → (key : S → List ℕ) → (sealed : S → SealsTag) → (accepts : S → AcceptsTag) → SessionView S
view_of name knows key sealed accepts = record { name = name; knows = knows; key = key; sealed = sealed; accepts = accepts }

-- it is, and its frames and the hello are taken
pub initial_ok : {S : Type 0} (v : SessionView S) (now : Moment) (f : Form) (h mid new : Handshake) (first last : S) (source : List ℕ) (number : ℕ) (frames : List ℕ) (answer : Result Unit ConnectionError)
    → (s : InitialSpace) × (h.space ≡ Some s) × IsOpenedBy (v.accepts first) h s f number frames → source ≡ f.source
    → ((s : InitialSpace) → h.space ≡ Some s → (next : InitialSpace) × IsPacketHandled now number frames s next None × (mid ≡ knowing h source next))
    → OnOk answer ((learned : Option (List ℕ)) × IsHelloRead mid new learned None × Learns v first last learned)
    → OnOk answer ((learned : Option (List ℕ)) × IsInitialTaken (v.accepts first) now f h new learned None × Learns v first last learned)
initial_ok v now f h mid new first last source number frames (Ok u) opened from heard read =
    let next = heard opened.0 opened.1 in
    let is = next.2 ∙ ap (λ (id : List ℕ). knowing h id next.0) from in
    (read.0, handled opened.0 next.0 number frames read.0 None opened.1 opened.2 next.1 (subst (λ (m : Handshake). IsHelloRead m new read.0 None) is read.1), read.2)
initial_ok v now f h mid new first last source number frames (Err e) opened from heard read = tt

-- or the hello is refused
pub initial_err : {S : Type 0} (accepts : AcceptsTag) (now : Moment) (f : Form) (h mid new : Handshake) (first last : S) (source : List ℕ) (number : ℕ) (frames : List ℕ) (answer : Result Unit ConnectionError)
    → (s : InitialSpace) × (h.space ≡ Some s) × IsOpenedBy accepts h s f number frames → source ≡ f.source
    → ((s : InitialSpace) → h.space ≡ Some s → (next : InitialSpace) × IsPacketHandled now number frames s next None × (mid ≡ knowing h source next))
    → IfErr answer (λ e. (last ≡ first) × ((e ≡ Wanting) ⊎ IsHelloRead mid new None (Some e)))
    → IfErr answer (λ e. (last ≡ first) × ((e ≡ Wanting) ⊎ IsInitialTaken accepts now f h new None (Some e)))
initial_err accepts now f h mid new first last source number frames (Ok u) opened from heard read = tt
initial_err accepts now f h mid new first last source number frames (Err e) opened from heard read = (
  read.0,
  elim read.1 [
    | inl wanting ↦ inl wanting
    | inr fault ↦
        let next = heard opened.0 opened.1 in
        let is = next.2 ∙ ap (λ (id : List ℕ). knowing h id next.0) from in
        inr (handled opened.0 next.0 number frames None (Some e) opened.1 opened.2 next.1 (subst (λ (m : Handshake). IsHelloRead m new None (Some e)) is fault))
  ],
)

-- or a frame ends the connection
pub initial_ended : (accepts : AcceptsTag) (now : Moment) (f : Form) (h mid : Handshake) (source : List ℕ) (number : ℕ) (frames : List ℕ) (e : ConnectionError)
    → (s : InitialSpace) × (h.space ≡ Some s) × IsOpenedBy accepts h s f number frames → source ≡ f.source
    → (e ≡ Wanting) ⊎ ((s : InitialSpace) → h.space ≡ Some s → (next : InitialSpace) × IsPacketHandled now number frames s next (Some e) × (mid ≡ knowing h source next))
    → (e ≡ Wanting) ⊎ IsInitialTaken accepts now f h mid None (Some e)
initial_ended accepts now f h mid source number frames e opened from (inl wanting) = inl wanting
initial_ended accepts now f h mid source number frames e opened from (inr heard) =
    let next = heard opened.0 opened.1 in
    inr (ended opened.0 next.0 number frames e opened.1 opened.2 next.1 (next.2 ∙ ap (λ (id : List ℕ). knowing h id next.0) from))

-- memory is wanting for its frames
pub heard_unread : (now : Moment) (h : Handshake) (s : InitialSpace) (number : ℕ) (frames : List ℕ) (answer : Result Unit ConnectionError) → h.space ≡ Some s
    → IfErr answer (λ e. e ≡ Wanting → IsPacketUnread now number frames s) → IfErr answer (λ e. e ≡ Wanting → (t : InitialSpace) → h.space ≡ Some t → IsPacketUnread now number frames t)
heard_unread now h s number frames (Ok u) is r = tt
heard_unread now h s number frames (Err e) is r = λ wanting t there. subst (λ (x : InitialSpace). IsPacketUnread now number frames x) (same_Some s t (sym is ∙ there)) (r wanting)

pub initial_unread : (accepts : AcceptsTag) (now : Moment) (f : Form) (h : Handshake) (number : ℕ) (frames : List ℕ) → (s : InitialSpace) × (h.space ≡ Some s) × IsOpenedBy accepts h s f number frames
    → ((s : InitialSpace) → h.space ≡ Some s → IsPacketUnread now number frames s) → IsInitialUnread accepts now f h
initial_unread accepts now f h number frames opened r = packet opened.0 number frames opened.1 opened.2 (r opened.0 opened.1)

-- or for the hello behind them
pub hello_unread : (accepts : AcceptsTag) (now : Moment) (f : Form) (h mid : Handshake) (source : List ℕ) (number : ℕ) (frames : List ℕ) (answer : Result Unit ConnectionError)
    → (s : InitialSpace) × (h.space ≡ Some s) × IsOpenedBy accepts h s f number frames → source ≡ f.source
    → ((s : InitialSpace) → h.space ≡ Some s → (next : InitialSpace) × IsPacketHandled now number frames s next None × (mid ≡ knowing h source next))
    → IfErr answer (λ e. e ≡ Wanting → IsHelloUnread mid) → IfErr answer (λ e. e ≡ Wanting → IsInitialUnread accepts now f h)
hello_unread accepts now f h mid source number frames (Ok u) opened from heard r = tt
hello_unread accepts now f h mid source number frames (Err e) opened from heard r = λ wanting.
    let next = heard opened.0 opened.1 in
    hello opened.0 next.0 number frames opened.1 opened.2 next.1
    (subst (λ (m : Handshake). IsHelloUnread m) (next.2 ∙ ap (λ (id : List ℕ). knowing h id next.0) from) (r wanting))

-- the space is left as the packet made it
pub hello_left : (f : Form) (h mid new : Handshake) (source : List ℕ) (number : ℕ) (frames : List ℕ) (now : Moment) (accepts : AcceptsTag) (answer : Result Unit ConnectionError)
    → (s : InitialSpace) × (h.space ≡ Some s) × IsOpenedBy accepts h s f number frames → source ≡ f.source
    → ((s : InitialSpace) → h.space ≡ Some s → (next : InitialSpace) × IsPacketHandled now number frames s next None × (mid ≡ knowing h source next))
    → OnErr answer (new ≡ mid) → IfErr answer (λ e. e ≡ Wanting → IsLeft f.source h new)
hello_left f h mid new source number frames now accepts (Ok u) opened from heard kept = tt
hello_left f h mid new source number frames now accepts (Err e) opened from heard kept = λ wanting.
    let next = heard opened.0 opened.1 in
    record { space = next.0; rest_is = kept ∙ next.2 ∙ ap (λ (id : List ℕ). knowing h id next.0) from }

-- ---- all of them

none_learned : (later : Option (List ℕ)) → or_learned None later ≡ later
none_learned None = refl
none_learned (Some n) = refl

learned_by_turns : (a b c : Option (List ℕ)) → or_learned a (or_learned b c) ≡ or_learned (or_learned a b) c
learned_by_turns a b None = refl
learned_by_turns a b (Some n) = refl

module _ (accepts : AcceptsTag) (now : Moment) where
  -- those behind are taken
  taken_behind : (bytes rest behind : List ℕ) (old mid new : Handshake) (learned later : Option (List ℕ)) (end : Option ConnectionError) → AreBegun accepts now bytes rest old mid learned
      → ArePacketsTaken accepts now rest behind mid new later end → ArePacketsTaken accepts now bytes behind old new (or_learned learned later) end
  taken_behind bytes rest behind old mid new learned later end (here_begun _ _) t = subst (λ (o : Option (List ℕ)). ArePacketsTaken accepts now bytes behind old new o end) (sym (none_learned later)) t
  taken_behind bytes rest behind old mid new learned later end (more_begun _ destination beyond _ f _ next _ first others b one begun) t =
      subst (λ (o : Option (List ℕ)). ArePacketsTaken accepts now bytes behind old new o end) (learned_by_turns first others later)
      (more bytes destination beyond behind f old next new first (or_learned others later) end b one (taken_behind beyond rest behind next mid new others later end begun t))

  -- one more of them is
  begun_behind : (bytes rest destination behind : List ℕ) (f : Form) (old mid new : Handshake) (learned step : Option (List ℕ)) → AreBegun accepts now bytes rest old mid learned
      → BeginsWithInitial rest f.first destination f.source f.token f.body behind → IsInitialTaken accepts now f mid new step None → AreBegun accepts now bytes behind old new (or_learned learned step)
  begun_behind bytes rest destination behind f old mid new learned step (here_begun _ _) b one =
      subst (λ (o : Option (List ℕ)). AreBegun accepts now bytes behind old new o) (sym (none_learned step)) (more_begun bytes destination behind behind f old new new step None b one (here_begun behind new))
  begun_behind bytes rest destination behind f old mid new learned step (more_begun _ before beyond _ g _ next _ first others c two begun) b one =
      subst (λ (o : Option (List ℕ)). AreBegun accepts now bytes behind old new o) (learned_by_turns first others step)
      (more_begun bytes before beyond behind g old next new first (or_learned others step) c two (begun_behind beyond rest destination behind f next mid new others step begun b one))

module _ {S : Type 0} (v : SessionView S) where
  accepts_kept : (first last : S) (learned : Option (List ℕ)) → Learns v first last learned → v.accepts last ≡ v.accepts first
  accepts_kept first last None same = ap v.accepts same
  accepts_kept first last (Some n) learns = learns.4

  learns_both : (first mid last : S) (a b : Option (List ℕ)) → Learns v first mid a → Learns v mid last b → Learns v first last (or_learned a b)
  learns_both first mid last a None before after = subst (λ (s : S). Learns v first s a) (sym after) before
  learns_both first mid last None (Some n) before after = subst (λ (s : S). Learns v s last (Some n)) before after
  learns_both first mid last (Some m) (Some n) before after = (after.0, after.1, after.2 ∙ before.2, after.3 ∙ before.3, after.4 ∙ before.4)

  -- those in front of the rest were taken, and none of them ended the connection
  pub record AreInitialsSoFar (now : Moment) (bytes rest : List ℕ) (old mid : Handshake) (first last : S) : Type 0 where
    pub learned : Option (List ℕ)
    pub learns : Learns v first last learned
    pub begun : AreBegun (v.accepts first) now bytes rest old mid learned
    pub whole : IsHandshake mid

  pub no_initials : (now : Moment) (bytes : List ℕ) (h : Handshake) (s : S) → IsHandshake h → AreInitialsSoFar now bytes bytes h h s s
  no_initials now bytes h s whole = record { learned = None; learns = refl; begun = here_begun bytes h; whole = whole }

  -- one more is taken
  pub more_initials : (now : Moment) (bytes rest behind destination : List ℕ) (f : Form) (old mid new : Handshake) (first last after : S) → AreInitialsSoFar now bytes rest old mid first last
      → BeginsWithInitial rest f.first destination f.source f.token f.body behind
      → (step : Option (List ℕ)) × IsInitialTaken (v.accepts last) now f mid new step None × Learns v last after step → IsHandshake new
      → AreInitialsSoFar now bytes behind old new first after
  more_initials now bytes rest behind destination f old mid new first last after h b t whole = record {
    learned = or_learned h.learned t.0;
    learns = learns_both first last after h.learned t.0 h.learns t.2;
    begun = begun_behind (v.accepts first) now bytes rest destination behind f old mid new h.learned t.0 h.begun b
        (subst (λ (a : AcceptsTag). IsInitialTaken a now f mid new t.0 None) (accepts_kept first last h.learned h.learns) t.1);
    whole = whole;
  }

  -- no more begins the rest
  pub all_initials : (now : Moment) (bytes rest : List ℕ) (old mid : Handshake) (first last : S) → AreInitialsSoFar now bytes rest old mid first last → IsBehind rest
      → (learned : Option (List ℕ)) × ArePacketsTaken (v.accepts first) now bytes rest old mid learned None × Learns v first last learned
  all_initials now bytes rest old mid first last h behind =
      (h.learned, taken_behind (v.accepts first) now bytes rest rest old mid mid h.learned None None h.begun (done rest mid behind), h.learns)

  -- one ends the connection
  pub ended_initials : (now : Moment) (bytes rest behind destination : List ℕ) (f : Form) (old mid new : Handshake) (first last after : S) (e : ConnectionError) → AreInitialsSoFar now bytes rest old mid first last
      → BeginsWithInitial rest f.first destination f.source f.token f.body behind → (after ≡ last) × ((e ≡ Wanting) ⊎ IsInitialTaken (v.accepts last) now f mid new None (Some e))
      → (e ≡ Wanting) ⊎ ((left : List ℕ) × (learned : Option (List ℕ)) × ArePacketsTaken (v.accepts first) now bytes left old new learned (Some e) × Learns v first after learned)
  ended_initials now bytes rest behind destination f old mid new first last after e h b (same, inl wanting) = inl wanting
  ended_initials now bytes rest behind destination f old mid new first last after e h b (same, inr t) = inr (
    behind,
    h.learned,
    taken_behind (v.accepts first) now bytes rest behind old mid new h.learned None (Some e) h.begun
        (ended_by rest destination behind f mid new None e b (subst (λ (a : AcceptsTag). IsInitialTaken a now f mid new None (Some e)) (accepts_kept first last h.learned h.learns) t)),
    subst (λ (s : S). Learns v first s h.learned) (sym same) h.learns,
  )

  -- memory is wanting for one
  pub lost_initials : (now : Moment) (bytes rest behind destination : List ℕ) (f : Form) (old mid new : Handshake) (first last after : S) → AreInitialsSoFar now bytes rest old mid first last
      → BeginsWithInitial rest f.first destination f.source f.token f.body behind → after ≡ last → IsInitialUnread (v.accepts last) now f mid → IsLeft f.source mid new
      → (learned : Option (List ℕ)) × AreInitialsLost (v.accepts first) now bytes old new learned × Learns v first after learned
  lost_initials now bytes rest behind destination f old mid new first last after h b same unread left = (
    h.learned,
    record {
      rest = rest;
      mid = mid;
      begun = h.begun;
      destination = destination;
      behind = behind;
      form = f;
      begins = b;
      unread = subst (λ (a : AcceptsTag). IsInitialUnread a now f mid) (accepts_kept first last h.learned h.learns) unread;
      left = left;
    },
    subst (λ (s : S). Learns v first s h.learned) (sym same) h.learns,
  )
