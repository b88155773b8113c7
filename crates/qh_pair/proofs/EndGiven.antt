-- What a datagram does to an end that is there.
use Rattle.std.proofs.Common.{◌≡◌, ◌≤◌, List, [], ◌∷◌, ◌++◌, ℕ, true, false, sym, subst, length}
use Rattle.std.specs.Prelude.{OnErr, OnOk, Result, Ok, Err, is_some}
use Rattle.qh_arrival.specs.Accord.{AreTags}
use Rattle.qh_base.specs.declared.time.Moment.{Moment}
use Rattle.qh_conduct.specs.Restarting.{AcceptsWhatIsMade, IsCounting}
use Rattle.qh_conn.specs.Incoming.{IsDatagramHandled}
use Rattle.qh_conn.specs.Same.{IsSameConnection}
use Rattle.qh_conn.specs.Whole.{CarriesOnBy, IsWhole, Stands as ConnStands}
use Rattle.qh_handshake.specs.Incoming.{SessionView}
use Rattle.qh_packet.proofs.Sessions.{plain_makes, plain_names}
use Rattle.qh_packet.specs.Session.{NamesTags, PlainKeys, plain_accepts, plain_sealed}
use Rattle.qh_peers.specs.Ends.{AreTwoEnds, IsHonestEnd}
use Rattle.qh_peers.specs.Greets.{AcceptsInitials, CanBeGreeted, IsGreeting, IsInitialSealed}
use Rattle.qh_spec.specs.Lists.{In}
use Rattle.qh_spec.specs.Parted.{IsInitialAlone}
use Rattle.qh_spec.specs.Tag.{tag_bytes}
use Rattle.qh_spec.specs.Transcript.{Act, HandedIn, handed_in, handed_out}
use Rattle.qh_pair.specs.EndCalls.{IsMadeBy}
use Rattle.qh_pair.specs.Ends.{End, key_of}
use Rattle.qh_pair.specs.Steps.{TakesFrom}
use Rattle.qh_pair.proofs.EndSounds.{both_given}
use Rattle.qh_pair.proofs.KeptLaws.{kept_in}

-- a plain session
abbrev pub plain_view : SessionView PlainKeys
plain_view = record { name = λ keys. keys.server_name; knows = λ keys. keys.knows_name; key = key_of; sealed = plain_sealed; accepts = plain_accepts }

pub on_ok : {A B : Type 0} (r : Result A B) (P Q : Type 0) → (P → Q) → OnOk r P → OnOk r Q
on_ok (Ok x) P Q f h = f h
on_ok (Err e) P Q f h = tt

pub on_err : {A B : Type 0} (r : Result A B) (P Q : Type 0) → (P → Q) → OnErr r P → OnErr r Q
on_err (Ok x) P Q f h = tt
on_err (Err e) P Q f h = f h

pub plain_are_tags : (keys : PlainKeys) → length keys.key_id ≤ 20 → AreTags (plain_accepts keys) (plain_sealed keys)
plain_are_tags keys short = record { names = plain_names keys short; makes = plain_makes keys short }

pub given_made : (c d : End) (x : List ℕ) → IsSameConnection key_of c d → IsWhole d → CarriesOnBy plain_accepts plain_sealed c d (HandedIn x ∷ []) → IsMadeBy c d (HandedIn x ∷ [])
given_made c d x same whole carries = record { same = same; whole = whole; carries = carries; kept = λ k t long s h. kept_in c.core.side k c d t x same s h }

-- what `two_ends` says of a datagram
abbrev pub GivenTwo : Type 0
GivenTwo = (v : SessionView PlainKeys) (now : Moment) (d own_hello peer_hello : List ℕ) (c q new : End) (tc tq : List Act) → NamesTags (v.accepts c.core.session)
    → AreTags (v.accepts q.core.session) (v.sealed q.core.session) → AreTwoEnds v.accepts v.sealed v.key own_hello peer_hello c q tc tq → In d (handed_out tq)
    → IsDatagramHandled v now d c new → IsSameConnection v.key c new → IsWhole new → ConnStands v.accepts v.sealed own_hello new (tc ++ HandedIn d ∷ [])
    → IsHonestEnd v.accepts v.sealed own_hello new (tc ++ HandedIn d ∷ []) × (new.handshake.retry_id ≡ c.handshake.retry_id)

abbrev pub RestartsTwo : Type 0
RestartsTwo = (v : SessionView PlainKeys) (now : Moment) (d own_hello peer_hello : List ℕ) (c q new : End) (tc tq : List Act) → NamesTags (v.accepts c.core.session)
    → AreTags (v.accepts q.core.session) (v.sealed q.core.session) → AcceptsWhatIsMade (v.accepts c.core.session) (v.sealed q.core.session)
    → AreTwoEnds v.accepts v.sealed v.key own_hello peer_hello c q tc tq → In d (handed_out tq) → IsCounting (length c.core.local_id) q.core.side (handed_in tc) d
    → IsDatagramHandled v now d c new → new.core.idle.since ≡ now

-- what `plain_tags` of qh_conduct says
abbrev pub TakesMade : Type 0
TakesMade = (key : List ℕ) → AcceptsWhatIsMade (plain_accepts (record { key_id = key; server_name = []; knows_name = false })) (tag_bytes key)

-- what `can_greet` says of a datagram, and `greets` of one that greets
abbrev pub GivenCan : Type 0
GivenCan = (v : SessionView PlainKeys) (now : Moment) (d own_hello peer_hello : List ℕ) (c q new : End) (tc tq : List Act) → NamesTags (v.accepts c.core.session)
    → AreTags (v.accepts q.core.session) (v.sealed q.core.session) → AreTwoEnds v.accepts v.sealed v.key own_hello peer_hello c q tc tq → In d (handed_out tq)
    → IsDatagramHandled v now d c new → CanBeGreeted c.handshake q.handshake → CanBeGreeted new.handshake q.handshake

abbrev pub GreetsTwo : Type 0
GreetsTwo = (v : SessionView PlainKeys) (now : Moment) (d own_hello peer_hello : List ℕ) (c q new : End) (tc tq : List Act) → NamesTags (v.accepts c.core.session)
    → AreTags (v.accepts q.core.session) (v.sealed q.core.session) → AcceptsInitials (v.accepts c.core.session) (v.sealed q.core.session)
    → AreTwoEnds v.accepts v.sealed v.key own_hello peer_hello c q tc tq → (IsInitialAlone d → IsInitialSealed (v.sealed q.core.session) q.core.side d) → CanBeGreeted c.handshake q.handshake
    → In d (handed_out tq) → IsGreeting (length c.core.local_id) q.core.side (handed_in tc) d → IsDatagramHandled v now d c new → is_some new.handshake.peer ≡ true

-- what `initials_sealed` says of a plain session
abbrev pub TakesInitials : Type 0
TakesInitials = (key : List ℕ) → AcceptsInitials (plain_accepts (record { key_id = key; server_name = []; knows_name = false })) (tag_bytes key)

-- the laws of two ends by which one takes a datagram of the other's
pub record TakingLaws : Type 0 where
  pub given : GivenTwo
  pub restarts : RestartsTwo
  pub made : TakesMade
  pub can : GivenCan
  pub greets : GreetsTwo
  pub initials : TakesInitials

pub given_takes : TakingLaws → (now : Moment) (c d : End) (x : List ℕ) → length c.core.session.key_id ≤ 20 → IsSameConnection key_of c d → IsWhole d
    → CarriesOnBy plain_accepts plain_sealed c d (HandedIn x ∷ []) → IsDatagramHandled plain_view now x c d → TakesFrom now c d x
given_takes laws now c d x short same whole carries handled q t u two i =
    let e = two.ends in
    let key : q.core.session.key_id ≡ c.core.session.key_id = e.key_is in
    let named = plain_names c.core.session short in
    let tags = plain_are_tags q.core.session (subst (λ (z : List ℕ). length z ≤ 20) (sym key) short) in
    let accepts : AcceptsWhatIsMade (plain_accepts c.core.session) (plain_sealed q.core.session)
    = subst (λ (z : List ℕ). AcceptsWhatIsMade (plain_accepts c.core.session) (tag_bytes z)) (sym key) (laws.made c.core.session.key_id) in
    let initials : AcceptsInitials (plain_accepts c.core.session) (plain_sealed q.core.session)
    = subst (λ (z : List ℕ). AcceptsInitials (plain_accepts c.core.session) (tag_bytes z)) (sym key) (laws.initials c.core.session.key_id) in
    let honest = laws.given plain_view now x two.hello two.peer_hello c q d t u named tags e i handled same whole (carries two.hello t e.own.stands) in
    let can = laws.can plain_view now x two.hello two.peer_hello c q d t u named tags e i handled two.greets.own in
    record {
      ends = both_given c d q t u x two honest.0 same honest.1 can i;
      restarted = λ counts. laws.restarts plain_view now x two.hello two.peer_hello c q d t u named tags accepts e i counts handled;
      greeted = λ greets. laws.greets plain_view now x two.hello two.peer_hello c q d t u named tags initials e (two.greets.peer_sealed x i) two.greets.own i greets handled;
    }
