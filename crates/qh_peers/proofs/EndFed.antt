-- What a datagram that begins with a short header does at an end, before its 1-RTT packet is looked at: it is counted.
use Rattle.std.proofs.Common.{◌≡◌, ℕ, Bool, true, false, List, [], ◌∷◌, ◌++◌, length, get_or, Option, None, Some, is_some, refl, sym, ap, subst, ◌∙◌, arith, append-nil}
use Rattle.qh_base.specs.declared.connection_error.ConnectionError.{ConnectionError}
use Rattle.qh_base.specs.declared.time.Moment.{Moment}
use Rattle.qh_conn.specs.Incoming.{HasHeard, IsFed, IsMet, IsRestarted, accepted_in}
use Rattle.qh_conn.specs.declared.connection.Connection.{Connection}
use Rattle.qh_converse.proofs.ShakeLaws.{short_behind}
use Rattle.qh_handshake.specs.Incoming.{ArePacketsTaken, IsDatagramTaken, IsRetryFor, IsSessionAfter, SessionView, received}
use Rattle.qh_handshake.specs.declared.handshake.Handshake.{Handshake}
use Rattle.qh_packet.specs.Session.{AcceptsTag}
use Rattle.qh_peers.proofs.EndKinds.{nothing_behind}
use Rattle.qh_spec.specs.Datagram.{IsInitialForm}
use Rattle.qh_spec.specs.Parted.{IsInitialAlone, IsShort}

-- ---- the handshake

pub not_retry : (h : Handshake) (d source token : List ℕ) → IsShort d → IsRetryFor h d source token → ⊥
not_retry h d source token s r =
    let first : get_or d 0 0 ≡ r.is.first = ap (λ (z : List ℕ). get_or z 0 0) r.is.header.whole in
    let long = r.is.retry_type in
    let low = s.1 in
    absurd (omega (arith, first, long, low))

-- it begins with no Initial packet
pub record IsPassed (d rest : List ℕ) (old new : Handshake) (retried learned : Option (List ℕ)) (end : Option ConnectionError) : Type 0 where
  pub rest_is : rest ≡ d
  pub new_is : new ≡ received (length d) old
  pub not_retried : retried ≡ None
  pub unlearned : learned ≡ None

packets_passed : (accepts : AcceptsTag) (now : Moment) (d rest : List ℕ) (old new : Handshake) (learned : Option (List ℕ)) (end : Option ConnectionError) → IsShort d
    → ArePacketsTaken accepts now d rest (received (length d) old) new learned end → IsPassed d rest old new None learned end
packets_passed accepts now d _ old _ _ _ s (ArePacketsTaken.done _ _ _) = record { rest_is = refl; new_is = refl; not_retried = refl; unlearned = refl }
packets_passed accepts now d rest old new _ end s (ArePacketsTaken.more _ _ after _ f _ _ _ _ _ _ begins _ _) = absurd (short_behind d s begins.front after f.body f.first begins.whole begins.form)
packets_passed accepts now d rest old new _ _ s (ArePacketsTaken.ended _ _ after f _ _ _ _ begins _) = absurd (short_behind d s begins.front after f.body f.first begins.whole begins.form)

passed_as : (accepts : AcceptsTag) (now : Moment) (d rest : List ℕ) (old new : Handshake) (retried learned : Option (List ℕ)) (end : Option ConnectionError) → end ≡ None → IsShort d
    → IsDatagramTaken accepts now d old new rest retried learned end → IsPassed d rest old new retried learned end
passed_as accepts now d _ old new _ _ _ none s (IsDatagramTaken.retry space source token may for_it e) = absurd (not_retry old d source token s for_it)
passed_as accepts now d _ old new _ _ _ none s (IsDatagramTaken.mismatch is e) = let z : Some _ ≡ None = none in cc
passed_as accepts now d _ old new _ _ _ none s (IsDatagramTaken.packets rest learned end _ _ taken) = packets_passed accepts now d rest old new learned end s taken

-- such a datagram is passed on whole
pub short_passed : (accepts : AcceptsTag) (now : Moment) (d rest : List ℕ) (old new : Handshake) (retried learned : Option (List ℕ)) → IsShort d
    → IsDatagramTaken accepts now d old new rest retried learned None → IsPassed d rest old new retried learned None
short_passed accepts now d rest old new retried learned s taken = passed_as accepts now d rest old new retried learned None refl s taken

-- ---- behind one Initial packet nothing is

no_form : (bytes : List ℕ) (first : ℕ) (body : List ℕ) → bytes ≡ [] → IsInitialForm bytes first body → ⊥
no_form bytes first body none i = let w = sym none ∙ i.whole in cc

no_front : (front rest : List ℕ) → [] ≡ front ++ rest → front ≡ []
no_front [] rest e = refl
no_front (b ∷ front) rest e = let z : [] ≡ b ∷ (front ++ rest) = e in cc

none_left : (accepts : AcceptsTag) (now : Moment) (bytes rest : List ℕ) (old new : Handshake) (learned : Option (List ℕ)) (end : Option ConnectionError) → bytes ≡ []
    → ArePacketsTaken accepts now bytes rest old new learned end → rest ≡ []
none_left accepts now bytes _ old _ _ _ none (ArePacketsTaken.done _ _ _) = none
none_left accepts now bytes rest old new _ end none (ArePacketsTaken.more _ _ after _ f _ _ _ _ _ _ begins _ _) =
    absurd (no_form begins.front f.first f.body (no_front begins.front after (sym none ∙ begins.whole)) begins.form)
none_left accepts now bytes rest old new _ _ none (ArePacketsTaken.ended _ _ _ f _ _ _ _ begins _) =
    absurd (no_form begins.front f.first f.body (no_front begins.front rest (sym none ∙ begins.whole)) begins.form)

-- and what is taken of nothing changes nothing
pub nothing_taken : (accepts : AcceptsTag) (now : Moment) (bytes rest : List ℕ) (old new : Handshake) (learned : Option (List ℕ)) (end : Option ConnectionError) → bytes ≡ []
    → ArePacketsTaken accepts now bytes rest old new learned end → new ≡ old
nothing_taken accepts now bytes _ old _ _ _ none (ArePacketsTaken.done _ _ _) = refl
nothing_taken accepts now bytes rest old new _ end none (ArePacketsTaken.more _ _ after _ f _ _ _ _ _ _ begins _ _) =
    absurd (no_form begins.front f.first f.body (no_front begins.front after (sym none ∙ begins.whole)) begins.form)
nothing_taken accepts now bytes rest old new _ _ none (ArePacketsTaken.ended _ _ _ f _ _ _ _ begins _) =
    absurd (no_form begins.front f.first f.body (no_front begins.front rest (sym none ∙ begins.whole)) begins.form)

packets_alone : (accepts : AcceptsTag) (now : Moment) (d rest : List ℕ) (old new : Handshake) (learned : Option (List ℕ)) (end : Option ConnectionError) → IsInitialAlone d
    → ArePacketsTaken accepts now d rest old new learned end → rest ≡ []
packets_alone accepts now d _ old _ _ _ a (ArePacketsTaken.done _ _ behind) = absurd (behind d [] a.body a.first (sym (append-nil d)) a.is)
packets_alone accepts now d rest old new _ end a (ArePacketsTaken.more _ _ after _ f _ mid _ _ later _ begins _ others) =
    none_left accepts now after rest mid new later end (nothing_behind d begins.front after a.first f.first a.body f.body a.is begins.form begins.whole) others
packets_alone accepts now d rest old new _ _ a (ArePacketsTaken.ended _ _ _ f _ _ _ _ begins _) =
    nothing_behind d begins.front rest a.first f.first a.body f.body a.is begins.form begins.whole

pub alone_rest : (accepts : AcceptsTag) (now : Moment) (d rest : List ℕ) (old new : Handshake) (retried learned : Option (List ℕ)) (end : Option ConnectionError) → IsInitialAlone d
    → IsDatagramTaken accepts now d old new rest retried learned end → rest ≡ []
alone_rest accepts now d _ old new _ _ _ a (IsDatagramTaken.retry _ _ _ _ _ _) = refl
alone_rest accepts now d _ old new _ _ _ a (IsDatagramTaken.mismatch _ _) = refl
alone_rest accepts now d _ old new _ _ _ a (IsDatagramTaken.packets rest learned end _ _ taken) = packets_alone accepts now d rest _ new learned end a taken

-- ---- nothing was heard
unheard_so : (h : Handshake) (size : ℕ) → HasHeard h (received size h) → ⊥
unheard_so h size (HasHeard.accepted s is more) = more (sym (ap accepted_in is))
unheard_so h size (HasHeard.greeted _ none some) = let z : false ≡ true = sym (ap is_some none) ∙ some in cc
unheard_so h size (HasHeard.retried none some) = let z : false ≡ true = sym (ap is_some none) ∙ some in cc

module _ {S : Type 0} where
  -- it is counted, and nothing else changed
  abbrev pub counted_twice : (size : ℕ) → Connection S → Connection S
  counted_twice size c = record c { handshake = received size c.handshake }

  fed_with : (v : SessionView S) (old : Connection S) (h : Handshake) (session : S) (retried learned : Option (List ℕ)) (size : ℕ) → h ≡ received size old.handshake → retried ≡ None → learned ≡ None
      → IsSessionAfter v old.core.session session retried learned → record old { handshake = h; core = record old.core { session = session } } ≡ counted_twice size old
  fed_with v old h session None None size h_is _ _ told = ap (λ (z : Handshake). record old { handshake = z; core = record old.core { session = session } }) h_is ∙ ap (λ (z : S). record old { handshake = received size old.handshake; core = record old.core { session = z } }) told
  fed_with v old h session None (Some name) size h_is _ unlearned told = let z : Some name ≡ None = unlearned in cc
  fed_with v old h session (Some id) learned size h_is not_retried unlearned told = let z : Some id ≡ None = not_retried in cc

  pub fed_same : (v : SessionView S) (now : Moment) (d rest : List ℕ) (old fed : Connection S) → IsShort d → IsFed v now d old fed rest None → (rest ≡ d) × (fed ≡ counted_twice (length d) old)
  fed_same v now d rest old fed s f =
      let p = short_passed (v.accepts old.core.session) now d rest old.handshake f.handshake f.retried f.learned s f.taken in
      (p.rest_is, f.new_is ∙ fed_with v old f.handshake f.session f.retried f.learned (length d) p.new_is p.not_retried p.unlearned f.told)

  pub restarted_same : (now : Moment) (size : ℕ) (old fed restarted : Connection S) → fed ≡ counted_twice size old → IsRestarted now old.handshake fed restarted → restarted ≡ counted_twice size old
  restarted_same now size old fed restarted is (IsRestarted.heard heard e) = absurd (unheard_so old.handshake size (subst (λ (z : Handshake). HasHeard old.handshake z) (ap (λ (z : Connection S). z.handshake) is) heard))
  restarted_same now size old fed restarted is (IsRestarted.quiet none e) = e ∙ is

  met_as : (now : Moment) (was : Bool) (size : ℕ) (old restarted met : Connection S) → was ≡ is_some old.handshake.peer → restarted ≡ counted_twice size old → IsMet now was restarted met → met ≡ counted_twice size old
  met_as now was size old restarted met same is (IsMet.before _ e) = e ∙ is
  met_as now was size old restarted met same is (IsMet.not_yet _ _ e) = e ∙ is
  met_as now was size old restarted met same is (IsMet.greeted early g) =
      let some : is_some old.handshake.peer ≡ true = ap (λ (z : Connection S). is_some z.handshake.peer) (sym is) ∙ ap is_some g.peer_is in
      let z : false ≡ true = sym early ∙ same ∙ some in cc

  pub met_same : (now : Moment) (size : ℕ) (old restarted met : Connection S) → restarted ≡ counted_twice size old → IsMet now (is_some old.handshake.peer) restarted met → met ≡ counted_twice size old
  met_same now size old restarted met is m = met_as now (is_some old.handshake.peer) size old restarted met refl is m
