-- The handshake took a datagram: what that leaves of how a connection stands to all that was done with it.
use Rattle.std.proofs.Common.{◌≡◌, ◌⊎◌, ℕ, Bool, true, false, if◌then◌else◌, List, [], ◌∷◌, ◌++◌, Option, None, Some, is_some, Result, Ok, Err, refl, sym, ap, subst, ◌∙◌, inl, inr}
use Rattle.std.specs.Prelude.{OnOk, OnErr}
use Rattle.std.specs.Result.{IsErr}
use Rattle.qh_base.specs.declared.connection_error.ConnectionError.{ConnectionError}
use Rattle.qh_base.specs.declared.connection_error.ConnectionError.TheVariants as error
use Rattle.qh_base.specs.declared.memory.Memory.{Memory as OutOfMemory}
use Rattle.qh_base.specs.declared.time.Moment.{Moment}
use Rattle.qh_conn.proofs.InHears.{hears_still}
use Rattle.qh_conn.proofs.Noted.{taken_session}
use Rattle.qh_conn.specs.Greeting.{connected, with_core}
use Rattle.qh_conn.specs.Hearing.{FailsTo, HasRead, HearsIt, StandsOrFails}
use Rattle.qh_conn.specs.Incoming.{IsFed, IsMet}
use Rattle.qh_conn.specs.Whole.{Stands}
use Rattle.qh_conn.specs.declared.connection.Connection.{Connection}
use Rattle.qh_converse.proofs.MidDatagram.{apart, discards, drops, ends_it, ends_lost, hears_it, lost, stays, unheard}
use Rattle.qh_converse.specs.Converses.{Converses, Hears}
use Rattle.qh_core.specs.Inner.{is_client, is_open}
use Rattle.qh_core.specs.Made.{AcceptsTags, IsMadeLocally, MakesTagsOf}
use Rattle.qh_core.specs.declared.inner.Inner.{Inner}
use Rattle.qh_handshake.proofs.GoingOn.{lost_goes, taken_goes}
use Rattle.qh_handshake.specs.Handshake.{IsHandshake, dropping}
use Rattle.qh_handshake.specs.Incoming.{ArePacketsTaken, IsDatagramTaken, IsSessionAfter, Learns, SessionView}
use Rattle.qh_handshake.specs.Lost.{IsLost}
use Rattle.qh_handshake.specs.declared.handshake.Handshake.{Handshake}
use Rattle.qh_handshake.specs.declared.initial_space.InitialSpace.{InitialSpace}
use Rattle.qh_hello.specs.declared.transport_parameters.TransportParameters.{TransportParameters}
use Rattle.qh_packet.specs.Session.{AcceptsTag, NamesTags}
use Rattle.qh_spec.specs.Parted.{EndsWith}
use Rattle.qh_spec.specs.Transcript.{Act, HandedIn}

-- ---- what is behind its Initial packets

packets_end : (accepts : AcceptsTag) (now : Moment) (d rest : List ℕ) (old new : Handshake) (learned : Option (List ℕ)) (end : Option ConnectionError) → ArePacketsTaken accepts now d rest old new learned end
    → EndsWith rest d
packets_end accepts now d _ old new _ _ (ArePacketsTaken.done _ _ behind) = EndsWith.here d refl
packets_end accepts now d rest old new _ end (ArePacketsTaken.more _ destination after _ f _ mid _ first later _ begins one others) =
    EndsWith.behind begins.front after d f.first f.body begins.whole begins.form (packets_end accepts now after rest mid new later end others)
packets_end accepts now d rest old new _ _ (ArePacketsTaken.ended _ destination _ f _ _ learned e begins one) =
    EndsWith.behind begins.front rest d f.first f.body begins.whole begins.form (EndsWith.here rest refl)

pub rest_ends : (accepts : AcceptsTag) (now : Moment) (d rest : List ℕ) (old new : Handshake) (retried learned : Option (List ℕ)) (end : Option ConnectionError) → (rest ≡ [] → ⊥)
    → IsDatagramTaken accepts now d old new rest retried learned end → EndsWith rest d
rest_ends accepts now d _ old new _ _ _ some (IsDatagramTaken.retry _ _ _ _ _ _) = absurd (some refl)
rest_ends accepts now d _ old new _ _ _ some (IsDatagramTaken.mismatch _ _) = absurd (some refl)
rest_ends accepts now d _ old new _ _ _ some (IsDatagramTaken.packets rest learned end _ _ taken) = packets_end accepts now d rest _ new learned end taken

-- a session that learned a name makes and takes the same tags
learns_tags : {S : Type 0} (v : SessionView S) (old new : S) (learned : Option (List ℕ)) → Learns v old new learned → (v.accepts new ≡ v.accepts old) × (v.sealed new ≡ v.sealed old)
learns_tags v old new None is = (ap v.accepts is, ap v.sealed is)
learns_tags v old new (Some name) is = (is.4, is.3)

told_same : {S : Type 0} (v : SessionView S) (s next : S) (takes : AcceptsTag) (now : Moment) (d rest : List ℕ) (old new : Handshake) (retried learned : Option (List ℕ)) (end : Option ConnectionError)
    → (rest ≡ [] → ⊥) → IsDatagramTaken takes now d old new rest retried learned end → IsSessionAfter v s next retried learned → v.accepts next ≡ v.accepts s
told_same v s next takes now d _ old new _ _ _ some (IsDatagramTaken.retry _ _ _ _ _ _) told = absurd (some refl)
told_same v s next takes now d _ old new _ _ _ some (IsDatagramTaken.mismatch _ _) told = absurd (some refl)
told_same v s next takes now d _ old new _ _ _ some (IsDatagramTaken.packets rest learned end _ _ taken) told = (learns_tags v s next learned told).0

spent : (o : Option InitialSpace) (s : InitialSpace) → o ≡ Some s → o ≡ None → ⊥
spent o s some none = let z : None ≡ Some s = sym none ∙ some in cc

-- a client that was greeted takes no Retry packet, so the session of an end that was greeted makes and takes the same tags
told_tags : {S : Type 0} (v : SessionView S) (s next : S) (takes : AcceptsTag) (now : Moment) (d rest : List ℕ) (old new : Handshake) (retried learned : Option (List ℕ)) (end : Option ConnectionError)
    → IsHandshake old → is_some old.peer ≡ true → IsDatagramTaken takes now d old new rest retried learned end → IsSessionAfter v s next retried learned
    → (v.accepts next ≡ v.accepts s) × (v.sealed next ≡ v.sealed s)
told_tags v s next takes now d _ old new _ _ _ whole greeted (IsDatagramTaken.retry space source token may for_it e) told = absurd (spent old.space space may.space (whole.greeted may.side greeted))
told_tags v s next takes now d _ old new _ _ _ whole greeted (IsDatagramTaken.mismatch is e) told = learns_tags v s next None told
told_tags v s next takes now d _ old new _ _ _ whole greeted (IsDatagramTaken.packets rest learned end _ _ taken) told = learns_tags v s next learned told

-- ---- whether the end is greeted by it

kept_or_known : (o n : Option TransportParameters) → ((p : TransportParameters) → o ≡ Some p → n ≡ Some p) → (n ≡ o) ⊎ ((o ≡ None) × ((p : TransportParameters) × (n ≡ Some p)))
kept_or_known None None keeps = inl refl
kept_or_known None (Some p) keeps = inr (refl, (p, refl))
kept_or_known (Some p) n keeps = inl (keeps p refl)

there : (o : Option TransportParameters) → is_some o ≡ true → (p : TransportParameters) × (o ≡ Some p)
there None some = let z : false ≡ true = some in cc
there (Some p) some = (p, refl)

false_true : false ≡ true → ⊥
false_true e = cc

-- an answer that is no Ok
pub failing : (P Q : Type 0) (result : Result Unit OutOfMemory) → IsErr result → Q → OnOk result P × OnErr result Q
failing P Q (Ok x) is q = absurd (false_true is)
failing P Q (Err e) is q = (tt, q)

module _ {S : Type 0} where
  pub fed_tags : (v : SessionView S) (now : Moment) (d rest : List ℕ) (old new : Connection S) (end : Option ConnectionError) → (rest ≡ [] → ⊥) → IsFed v now d old new rest end
      → NamesTags (v.accepts old.core.session) → NamesTags (v.accepts new.core.session)
  fed_tags v now d rest old new end some fed named =
      subst (λ (z : AcceptsTag). NamesTags z)
      (sym (ap (λ (z : Connection S). v.accepts z.core.session) fed.new_is
      ∙ told_same v old.core.session fed.session (v.accepts old.core.session) now d rest old.handshake fed.handshake fed.retried fed.learned end some fed.taken fed.told)) named

  session_on : (accepts : AcceptsTags S) (sealed : MakesTagsOf S) (hello : List ℕ) (h : Handshake) (c : Inner S) (s : S) (k : Bool) (t : List Act)
      → (is_some h.peer ≡ true → (accepts s ≡ accepts c.session) × (sealed s ≡ sealed c.session)) → Converses accepts sealed hello h c k t
      → Converses accepts sealed hello h (record c { session = s }) k t
  session_on accepts sealed hello h c s k t same p =
      apart accepts sealed hello h c (record c { session = s }) k t (record { rest_is = refl; opens = λ up. up; drained = λ is. is }) same p

  pub has_read : (v : SessionView S) (now : Moment) (d rest hello : List ℕ) (old new : Connection S) (end : Option ConnectionError) (t : List Act) → NamesTags (v.accepts old.core.session)
      → IsHandshake old.handshake → IsFed v now d old new rest end → Stands v.accepts v.sealed hello old t → HasRead v.accepts v.sealed hello old.handshake new t d
  has_read v now d rest hello old new end t named whole fed p =
      subst (λ (z : Connection S). HasRead v.accepts v.sealed hello old.handshake z t d) (sym fed.new_is)
      (record {
        takes = v.accepts old.core.session;
        now = now;
        rest = rest;
        retried = fed.retried;
        learned = fed.learned;
        end = end;
        named = named;
        taken = fed.taken;
        stood = session_on v.accepts v.sealed hello old.handshake old.core fed.session old.is_connected t
            (λ greeted. told_tags v old.core.session fed.session (v.accepts old.core.session) now d rest old.handshake fed.handshake fed.retried fed.learned end whole greeted fed.taken fed.told) p;
      })

  module _ (accepts : AcceptsTags S) (sealed : MakesTagsOf S) (hello : List ℕ) (before : Handshake) (t : List Act) (d : List ℕ) where
    -- a call of the end of the 1-RTT packets leaves that
    read_with : (c : Connection S) (core : Inner S) → IsMadeLocally c.core core [] → HasRead accepts sealed hello before c t d → HasRead accepts sealed hello before (record c { core = core }) t d
    read_with c core made r = record {
      takes = r.takes;
      now = r.now;
      rest = r.rest;
      retried = r.retried;
      learned = r.learned;
      end = r.end;
      named = r.named;
      taken = r.taken;
      stood = stays accepts sealed hello before c.core core c.is_connected t made r.stood;
    }

    pub read_on : (old new : Connection S) → new ≡ record old { core = new.core } → IsMadeLocally old.core new.core [] → HasRead accepts sealed hello before old t d
        → HasRead accepts sealed hello before new t d
    read_on old new e made r = subst (λ (z : Connection S). HasRead accepts sealed hello before z t d) (sym e) (read_with old new.core made r)

    read_same : (c : Connection S) → HasRead accepts sealed hello before c t d → c.handshake.peer ≡ before.peer → HearsIt accepts sealed hello c t d
    read_same c r e = hears_it accepts sealed r.takes r.now d r.rest hello before c.handshake r.retried r.learned r.end c.core c.is_connected t r.named r.taken e r.stood

    -- an end that was greeted before stays so
    pub read_known : (c : Connection S) → is_some before.peer ≡ true → HasRead accepts sealed hello before c t d → HearsIt accepts sealed hello c t d
    read_known c greeted r =
        let e = there before.peer greeted in
        read_same c r ((taken_goes r.takes r.now d r.rest before c.handshake r.retried r.learned r.end r.taken).peer e.0 e.1 ∙ sym e.1)

    pub read_unknown : (c : Connection S) → before.peer ≡ None → c.handshake.peer ≡ None → HasRead accepts sealed hello before c t d → HearsIt accepts sealed hello c t d
    read_unknown c e n r = read_same c r (n ∙ sym e)

    -- the connection ended
    pub read_ended : (c : Connection S) → (before.peer ≡ None → c.is_connected ≡ false) → is_open c.core.state ≡ false → HasRead accepts sealed hello before c t d
        → HearsIt accepts sealed hello c t d
    read_ended c early shut r =
        let goes = taken_goes r.takes r.now d r.rest before c.handshake r.retried r.learned r.end r.taken in
        elim (kept_or_known before.peer c.handshake.peer goes.peer) [
          | inl same ↦ read_same c r same
          | inr (none, (p, some)) ↦
              let k = early none in
              subst (λ (z : Bool). Hears accepts sealed hello c.handshake c.core z t d) (sym k)
              (ends_it accepts sealed r.takes r.now d r.rest hello before c.handshake r.retried r.learned r.end c.core t p r.named r.taken none some shut
              (subst (λ (z : Bool). Converses accepts sealed hello before c.core z t) k r.stood))
        ]

    -- memory is wanting where the end would begin anew
    pub read_fails : (c : Connection S) → (before.peer ≡ None → c.is_connected ≡ false) → HasRead accepts sealed hello before c t d → FailsTo accepts sealed hello c (t ++ HandedIn d ∷ [])
    read_fails c early r core made shut =
        unheard accepts sealed hello d (dropping c.handshake) core c.is_connected t
        (drops accepts sealed hello d c.handshake core c.is_connected t (read_ended (record c { core = core }) early shut (read_with c core made r)))

  pub hears_fails : (accepts : AcceptsTags S) (sealed : MakesTagsOf S) (hello : List ℕ) (c : Connection S) (t : List Act) (d : List ℕ) → HearsIt accepts sealed hello c t d → FailsTo accepts sealed hello c (t ++ HandedIn d ∷ [])
  hears_fails accepts sealed hello c t d p core made shut =
      unheard accepts sealed hello d (dropping c.handshake) core c.is_connected t
      (drops accepts sealed hello d c.handshake core c.is_connected t (hears_still c.core core made accepts sealed hello d c.handshake c.is_connected t p))

  -- memory is wanting for the handshake
  pub lost_fails : (v : SessionView S) (now : Moment) (d hello : List ℕ) (old new : Connection S) (learned : Option (List ℕ)) (t : List Act) → NamesTags (v.accepts old.core.session)
      → IsLost (v.accepts old.core.session) now d old.handshake new.handshake learned → Learns v old.core.session new.core.session learned
      → new ≡ record old { handshake = new.handshake; core = record old.core { session = new.core.session } } → (old.handshake.peer ≡ None → old.is_connected ≡ false)
      → Stands v.accepts v.sealed hello old t → FailsTo v.accepts v.sealed hello new (t ++ HandedIn d ∷ [])
  lost_fails v now d hello old new learned t named is told e early p core made shut =
      let accepts : AcceptsTags S = v.accepts in
      let sealed : MakesTagsOf S = v.sealed in
      let takes = v.accepts old.core.session in
      let k_is = ap (λ (z : Connection S). z.is_connected) e in
      let base : Converses accepts sealed hello old.handshake core old.is_connected t = stays accepts sealed hello old.handshake new.core core old.is_connected t made
      (subst (λ (z : Inner S). Converses accepts sealed hello old.handshake z old.is_connected t) (sym (ap (λ (z : Connection S). z.core) e))
      (session_on accepts sealed hello old.handshake old.core new.core.session old.is_connected t (λ _. learns_tags v old.core.session new.core.session learned told) p)) in
      let heard : Hears accepts sealed hello (dropping new.handshake) core old.is_connected t d =
      elim (kept_or_known old.handshake.peer new.handshake.peer (lost_goes takes now d old.handshake new.handshake learned is).peer) [
        | inl same ↦ lost accepts sealed takes now d hello old.handshake new.handshake learned core old.is_connected t named is same base
        | inr (none, (q, some)) ↦
            let k = early none in
            subst (λ (z : Bool). Hears accepts sealed hello (dropping new.handshake) core z t d) (sym k)
            (ends_lost accepts sealed takes now d hello old.handshake new.handshake learned core t q named is none some shut
            (subst (λ (z : Bool). Converses accepts sealed hello old.handshake core z t) k base))
      ] in
      unheard accepts sealed hello d (dropping new.handshake) core new.is_connected t (subst (λ (z : Bool). Hears accepts sealed hello (dropping new.handshake) core z t d) (sym k_is) heard)

  -- ---- the end is greeted now

  -- nothing but the end of the 1-RTT packets changed
  pub core_only : (old new : Connection S) (core : Inner S) → new ≡ record old { core = core } → new ≡ record old { core = new.core }
  core_only old new core e = e ∙ ap (λ (z : Connection S). record old { core = z.core }) (sym e)

  pub discarded_hears : (accepts : AcceptsTags S) (sealed : MakesTagsOf S) (hello : List ℕ) (c new : Connection S) (t : List Act) (d : List ℕ) → new.handshake ≡ record (dropping c.handshake) { is_validated = true }
      → IsMadeLocally c.core new.core [] → new.is_connected ≡ true → Hears accepts sealed hello c.handshake c.core true t d → HearsIt accepts sealed hello new t d
  discarded_hears accepts sealed hello c new t d handshake made connected p =
      subst (λ (z : Handshake). Hears accepts sealed hello z new.core new.is_connected t d) (sym handshake)
      (subst (λ (z : Bool). Hears accepts sealed hello (record (dropping c.handshake) { is_validated = true }) new.core z t d) (sym connected)
      (hears_still c.core new.core made accepts sealed hello d (record (dropping c.handshake) { is_validated = true }) true t (discards accepts sealed hello d c.handshake c.core true t p)))

  -- ---- the whole datagram

  greeted_session : (now : Moment) (old : Connection S) (p : TransportParameters) (core : Inner S) (b : Bool)
      → (if b then connected now (with_core old core p) else with_core old core p).core.session ≡ core.session
  greeted_session now old p core true = taken_session (with_core old core p).control.log core
  greeted_session now old p core false = refl

  -- the session is as it was
  pub met_session : (now : Moment) (was_greeted : Bool) (old new : Connection S) → IsMet now was_greeted old new → new.core.session ≡ old.core.session
  met_session now was old new (IsMet.before _ e) = ap (λ (z : Connection S). z.core.session) e
  met_session now was old new (IsMet.not_yet _ _ e) = ap (λ (z : Connection S). z.core.session) e
  met_session now was old new (IsMet.greeted _ g) = ap (λ (z : Connection S). z.core.session) g.new_is ∙ greeted_session now old g.peer g.core (is_client old.handshake.side) ∙ ap (λ (z : Inner S). z.session) g.core_is.rest_is

  -- the idle time may run anew
  pub restarted_read : (v : SessionView S) (now : Moment) (d rest hello : List ℕ) (old fed restarted : Connection S) (t : List Act) → NamesTags (v.accepts old.core.session)
      → IsHandshake old.handshake → IsFed v now d old fed rest None → restarted ≡ record fed { core = record fed.core { idle = restarted.core.idle } } → IsMadeLocally fed.core restarted.core []
      → Stands v.accepts v.sealed hello old t → HasRead v.accepts v.sealed hello old.handshake restarted t d
  restarted_read v now d rest hello old fed restarted t named whole is e made p =
      read_on v.accepts v.sealed hello old.handshake t d fed restarted (core_only fed restarted (record fed.core { idle = restarted.core.idle }) e) made
      (has_read v now d rest hello old fed None t named whole is p)

  pub met_tags : (v : SessionView S) (now : Moment) (d rest : List ℕ) (old fed restarted met : Connection S) (was_greeted : Bool) → (rest ≡ [] → ⊥) → NamesTags (v.accepts old.core.session)
      → IsFed v now d old fed rest None → restarted ≡ record fed { core = record fed.core { idle = restarted.core.idle } } → IsMet now was_greeted restarted met → NamesTags (v.accepts met.core.session)
  met_tags v now d rest old fed restarted met was some named is e meets =
      subst (λ (z : S). NamesTags (v.accepts z)) (sym (met_session now was restarted met meets ∙ ap (λ (z : Connection S). z.core.session) e)) (fed_tags v now d rest old fed None some is named)

  pub ended_stands : (v : SessionView S) (now : Moment) (d hello : List ℕ) (old mid new : Connection S) (e : ConnectionError) (t : List Act) → NamesTags (v.accepts old.core.session)
      → IsHandshake old.handshake → (e ≡ error.Memory) ⊎ ((rest : List ℕ) × IsFed v now d old mid rest (Some e)) → (e ≡ error.Memory → ⊥) → new ≡ record mid { core = new.core }
      → IsMadeLocally mid.core new.core [] → is_open new.core.state ≡ false → (old.handshake.peer ≡ None → old.is_connected ≡ false) → Stands v.accepts v.sealed hello old t
      → Stands v.accepts v.sealed hello new (t ++ HandedIn d ∷ [])
  ended_stands v now d hello old mid new e t named whole (inl wanting) fault is made shut early p = absurd (fault wanting)
  ended_stands v now d hello old mid new e t named whole (inr (rest, fed)) fault is made shut early p =
      let k = ap (λ (z : Connection S). z.is_connected) is ∙ ap (λ (z : Connection S). z.is_connected) fed.new_is in
      unheard v.accepts v.sealed hello d new.handshake new.core new.is_connected t
      (read_ended v.accepts v.sealed hello old.handshake t d new (λ none. k ∙ early none) shut
      (read_on v.accepts v.sealed hello old.handshake t d mid new is made (has_read v now d rest hello old mid (Some e) t named whole fed p)))

  pub settled_stands : (accepts : AcceptsTags S) (sealed : MakesTagsOf S) (result : Result Unit OutOfMemory) (hello : List ℕ) (mid new : Connection S) (t : List Act) → StandsOrFails accepts sealed result hello mid t
      → OnOk result (new ≡ mid) → OnErr result ((accepts : AcceptsTags S) (sealed : MakesTagsOf S) (hello : List ℕ) (t : List Act) → FailsTo accepts sealed hello mid t → Stands accepts sealed hello new t)
      → Stands accepts sealed hello new t
  settled_stands accepts sealed (Ok x) hello mid new t p is fails = subst (λ (z : Connection S). Stands accepts sealed hello z t) (sym is) p.0
  settled_stands accepts sealed (Err e) hello mid new t p is fails = fails accepts sealed hello t p.1
