-- What is known anew of all that was done with an end that is open.
use Rattle.std.proofs.Common.{◌≡◌, ◌⊎◌, inl, inr, ◌≤◌, ◌+◌, Bool, true, List, [], ◌∷◌, ◌++◌, ℕ, Some, refl, sym, ◌∙◌, ap, subst, append_assoc, append-nil, length, arith}
use Rattle.std.specs.Prelude.{is_some, sum_by}
use Rattle.qh_conduct.specs.Filled.{AreFilled}
use Rattle.qh_conn.specs.Same.{IsSameConnection}
use Rattle.qh_conn.specs.Whole.{Stands as ConnStands}
use Rattle.qh_converse.specs.Converses.{Converses, IsPeerLength}
use Rattle.qh_converse.specs.Settled.{peer_limits}
use Rattle.qh_core.specs.Follows.{HasSomething, IsWithinLimits, Reaches}
use Rattle.qh_core.specs.Follows.Reaches.{run as run_reaches, reset as reset_reaches}
use Rattle.qh_core.specs.Inner.{AreOf, is_open}
use Rattle.qh_core.specs.Made.{AcceptsTags, MakesTagsOf}
use Rattle.qh_core.specs.declared.inner.Inner.{Inner}
use Rattle.qh_halves.specs.Counts.{index_of, is_bi}
use Rattle.qh_handshake.specs.declared.handshake.Handshake.{Handshake}
use Rattle.qh_hello.specs.Greetings.{limits_of}
use Rattle.qh_hello.specs.declared.transport_parameters.TransportParameters.{TransportParameters}
use Rattle.qh_packet.specs.Session.{PlainKeys, plain_accepts, plain_sealed}
use Rattle.qh_spec.proofs.AnnouncedLaws.{permitted_more}
use Rattle.qh_spec.proofs.LawfulRows.{nothing_lawful}
use Rattle.qh_spec.proofs.Members.{in_last, in_right}
use Rattle.qh_spec.proofs.PartLaws.{alone_has_none, part_out}
use Rattle.qh_spec.proofs.TranscriptLaws.{handed_in-append, handed_out-append}
use Rattle.qh_spec.specs.Announced.{Connection, Count, Stream}
use Rattle.qh_spec.specs.Carried.{HasRun}
use Rattle.qh_spec.specs.Datagram.{HasPacket}
use Rattle.qh_spec.specs.Greeted.{AreAnnouncedFirst}
use Rattle.qh_spec.specs.Lawful.{Lawful}
use Rattle.qh_spec.specs.Link.{other}
use Rattle.qh_spec.specs.Lists.{In}
use Rattle.qh_spec.specs.Parted.{IsInitialAlone, IsPartOf}
use Rattle.qh_spec.specs.QuicFrame.{StreamFrame as Run}
use Rattle.qh_spec.specs.Transcript.{Act, HandedOut, handed_in, handed_out}
use Rattle.qh_spec.specs.declared.sides.Side.{Side}
use Rattle.qh_streams.specs.declared.frames.PeerLimits.{PeerLimits}
use Rattle.qh_transcript.specs.Within.{greatest, stream_given, count_given, data_given}
use Rattle.qh_pair.specs.Ends.{AreHandedIn, End, HasKept, StandsSince, key_of}
use Rattle.qh_pair.specs.Within.{IsWithinAnnounced, TakesTo, dir_of}
use Rattle.qh_pair.specs.Within.TakesTo.{run as by_run, reset as by_reset}
use Rattle.qh_pair.proofs.Dropped.{dropped_in, in_quiet, in_sends_none, in_since, out_since}
use Rattle.qh_pair.proofs.KeptLaws.{knows_peer, lawful_as, length_back, out_last, within_on}
use Rattle.qh_pair.proofs.Permitted.{count_first, permitted_count, permitted_data, permitted_stream, stream_first}
use Rattle.qh_pair.proofs.SameStreams.{quiet_front}

-- what `converses` says of an open end
abbrev pub LawfulOpen : Type 0
LawfulOpen = (accepts : AcceptsTags PlainKeys) (sealed : MakesTagsOf PlainKeys) (hello : List ℕ) (h : Handshake) (c : Inner PlainKeys) (k : Bool) (t : List Act) → is_open c.state ≡ true
    → Converses accepts sealed hello h c k t → (n : ℕ) → IsPeerLength h n → Lawful c.side (length c.local_id) n t

abbrev pub WithinOpen : Type 0
WithinOpen = (accepts : AcceptsTags PlainKeys) (sealed : MakesTagsOf PlainKeys) (hello : List ℕ) (h : Handshake) (c : Inner PlainKeys) (k : Bool) (t before after : List Act) (d : List ℕ) → is_open c.state ≡ true
    → Converses accepts sealed hello h c k t → t ≡ before ++ HandedOut d ∷ after → IsInitialAlone d
    ⊎ ((p : TransportParameters) × (h.peer ≡ Some p) × (c.config.peer ≡ peer_limits p) × IsWithinLimits (length c.local_id) (length h.remote_id) c.side c.config before d)

abbrev pub AnnouncedFirst : Type 0
AnnouncedFirst = (accepts : AcceptsTags PlainKeys) (sealed : MakesTagsOf PlainKeys) (hello : List ℕ) (h : Handshake) (c : Inner PlainKeys) (k : Bool) (t : List Act) (p : TransportParameters)
    → Converses accepts sealed hello h c k t → h.peer ≡ Some p → AreAnnouncedFirst (length c.local_id) (handed_in t) (other c.side) (limits_of p)

-- ---- frames

-- a datagram of one Initial packet has no frame of a stream
alone_takes_none : (n : ℕ) (x : List ℕ) (side : Side) (id end : ℕ) → IsInitialAlone x → TakesTo n (x ∷ []) side id end → ⊥
alone_takes_none n x side _ _ alone (by_run run h) =
    elim h.among as (λ _. ⊥) [ inl e ↦ alone_has_none n h.packet x alone (subst (λ (z : List ℕ). HasPacket n h.packet z) (sym e) h.has) h.space_is | inr none ↦ absurd none ]
alone_takes_none n x side id _ alone (by_reset _ code _ h) =
    elim h.among as (λ _. ⊥) [ inl e ↦ alone_has_none n h.packet x alone (subst (λ (z : List ℕ). HasPacket n h.packet z) (sym e) h.has) h.space_is | inr none ↦ absurd none ]

-- no STREAM frame of an end is empty
filled_all : (n : ℕ) (c : Inner PlainKeys) (part t : List Act) → AreFilled c part → IsPartOf part t → n ≡ length c.remote_id → (xs : List (List ℕ)) → ((d : List ℕ) → In d xs → In d (handed_out t))
    → (run : Run) → HasRun n xs c.side run → HasSomething run
filled_all n c part t filled is same xs each run h =
    elim (part_out part t is h.datagram (each h.datagram h.among)) as (λ _. HasSomething run) [
      | inr alone ↦ absurd (alone_has_none n h.packet h.datagram alone h.has h.space_is)
      | inl i ↦ filled run (record {
        datagram = h.datagram;
        among = i;
        packet = h.packet;
        has = subst (λ (z : ℕ). HasPacket z h.packet h.datagram) same h.has;
        space_is = h.space_is;
        sender_is = h.sender_is;
        frame = h.frame;
        frame_among = h.frame_among;
        is = h.is;
      })
    ]

reaches : (n : ℕ) (xs : List (List ℕ)) (side : Side) (id end : ℕ) → ((run : Run) → HasRun n xs side run → HasSomething run) → TakesTo n xs side id end → Reaches n xs side id end
reaches n xs side _ _ some (by_run run has) = run_reaches run has (some run has)
reaches n xs side id _ some (by_reset _ code _ has) = reset_reaches id code _ has

-- ---- what is kept within

-- an open end that handed out a datagram kept within what came before
out_within : WithinOpen → AnnouncedFirst → (hello : List ℕ) (d : End) (since : List Act) (x : List ℕ) → is_open d.core.state ≡ true → ConnStands plain_accepts plain_sealed hello d (since ++ HandedOut x ∷ [])
    → (n : ℕ) → IsPeerLength d.handshake n → (id end : ℕ) → TakesTo n (x ∷ []) d.core.side id end
    → IsWithinAnnounced (length d.core.local_id) n d.core.side (handed_in since) (handed_out since) x id end
out_within within announced hello d since x up stands n fits id end takes =
    let side = d.core.side in
    let k = length d.core.local_id in
    elim (within plain_accepts plain_sealed hello d.handshake d.core d.is_connected (since ++ HandedOut x ∷ []) since [] x up stands refl) as (λ _. IsWithinAnnounced k n side (handed_in since) (handed_out since) x id end) [
      | inl alone ↦ absurd (alone_takes_none n x side id end alone takes)
      | inr w ↦
          let p = w.0 in
          let greeted : is_some d.handshake.peer ≡ true = ap is_some w.1 in
          let there : n ≡ length d.handshake.remote_id = fits greeted in
          let settled = stands.begun.settled p w.1 up in
          let same : n ≡ length d.core.remote_id = there ∙ sym settled.there in
          let limits : IsWithinLimits k n side d.core.config since x = subst (λ (z : ℕ). IsWithinLimits k z side d.core.config since x) (sym there) w.3 in
          let said : AreAnnouncedFirst k (handed_in since) (other side) (limits_of p)
          = subst (λ (z : List (List ℕ)). AreAnnouncedFirst k z (other side) (limits_of p)) (handed_in-append since (HandedOut x ∷ []) ∙ append-nil (handed_in since))
          (announced plain_accepts plain_sealed hello d.handshake d.core d.is_connected (since ++ HandedOut x ∷ []) p stands w.1) in
          let of = subst (λ (z : PeerLimits). AreOf side z limits.streams) w.2 limits.of in
          let some = λ (xs : List (List ℕ)) (each : (y : List ℕ) → In y xs → In y (handed_out (since ++ HandedOut x ∷ []))).
          filled_all n d.core stands.part (since ++ HandedOut x ∷ []) stands.begun.behaves.filled stands.is_part same xs each in
          let all_out : handed_out (since ++ HandedOut x ∷ []) ≡ handed_out since ++ x ∷ [] = handed_out-append since (HandedOut x ∷ []) in
          let here = λ (y : List ℕ) (i : In y (x ∷ [])). elim i as (λ _. In y (handed_out (since ++ HandedOut x ∷ []))) [
            | inl e ↦ subst (λ (z : List ℕ). In z (handed_out (since ++ HandedOut x ∷ []))) e (subst (λ (z : List (List ℕ)). In x z) (sym all_out) (in_last x (handed_out since)))
            | inr none ↦ absurd none
          ] in
          let reached : Reaches n (x ∷ []) side id end = reaches n (x ∷ []) side id end (some (x ∷ []) here) takes in
          record {
            stream_bytes = permitted_stream k (handed_in since) (other side) (limits_of p) said limits.given limits.came id end
                (subst (λ (z : ℕ). end ≤ greatest (stream_given id) z limits.given) (stream_first side p limits.streams id of) (limits.stream_bytes id end reached));
            all_bytes = λ ends apart each. permitted_data k (handed_in since) (other side) (limits_of p) said limits.given limits.came (sum_by (λ (e : ℕ × ℕ). e.1) ends)
                (subst (λ (z : ℕ). sum_by (λ (e : ℕ × ℕ). e.1) ends ≤ greatest data_given z limits.given) (ap (λ (z : PeerLimits). z.max_data) of.peer_is)
                (limits.all_bytes ends apart (λ e i. reaches n (handed_out since ++ x ∷ []) side e.0 e.1
                (some (handed_out since ++ x ∷ []) (λ y j. subst (λ (z : List (List ℕ)). In y z) (sym all_out) j)) (each e i))));
            count = λ own.
                let c = limits.count id end reached own in
                permitted_count k (handed_in since) (other side) (limits_of p) said limits.given limits.came (is_bi id) (index_of id + 1)
                (subst (λ (z : ℕ). index_of id + 1 ≤ greatest (count_given (is_bi id)) z limits.given) (count_first side p limits.streams (is_bi id) of) (omega (arith, c)));
          }
    ]

-- the same, with more that was given before
within_more : (k n : ℕ) (side : Side) (given more sent all : List (List ℕ)) (x : List ℕ) (id end : ℕ) → ((d : List ℕ) → In d given → In d more) → sent ≡ all
    → IsWithinAnnounced k n side given sent x id end → IsWithinAnnounced k n side more all x id end
within_more k n side given more sent all x id end each same w =
    subst (λ (z : List (List ℕ)). IsWithinAnnounced k n side more z x id end) same
    (record {
      stream_bytes = permitted_more k given more (other side) (Stream id) end each w.stream_bytes;
      all_bytes = λ ends apart e. permitted_more k given more (other side) Connection _ each (w.all_bytes ends apart e);
      count = λ own. permitted_more k given more (other side) (Count (dir_of id)) (index_of id + 1) each (w.count own);
    })

-- ---- steps

-- laws of what was done since hold of all
lawful_since : (side : Side) (m n : ℕ) (before t : List Act) → AreHandedIn before → Lawful side m n t → Lawful side m n (before ++ t)
lawful_since side m n before t h l = lawful_as side m n t (before ++ t) (quiet_front t before (in_quiet before h))
    (λ d i. subst (λ (z : List (List ℕ)). In d z) (out_since before t h) i) (λ d i. in_since before t d i) l

-- one that dropped what came keeps them
pub in_lawful : (side : Side) (m n : ℕ) (t : List Act) → AreHandedIn t → Lawful side m n t
in_lawful side m n t h = subst (λ (z : List Act). Lawful side m n z) (append-nil t) (lawful_since side m n t [] h (nothing_lawful side m n))

open_lawful : LawfulOpen → (side : Side) (k : ℕ) (hello : List ℕ) (d : End) (t acts before since : List Act) → is_open d.core.state ≡ true → d.core.side ≡ side → length d.core.local_id ≡ k → t ≡ before ++ since
    → AreHandedIn before → ConnStands plain_accepts plain_sealed hello d (since ++ acts) → (n : ℕ) → IsPeerLength d.handshake n → Lawful side k n (t ++ acts)
open_lawful law side k hello d t acts before since up is_side long are h stands n fits =
    let l : Lawful d.core.side (length d.core.local_id) n (since ++ acts) = law plain_accepts plain_sealed hello d.handshake d.core d.is_connected (since ++ acts) up stands n fits in
    let whole : before ++ (since ++ acts) ≡ t ++ acts = sym (append_assoc before since acts) ∙ ap (λ (z : List Act). z ++ acts) (sym are) in
    subst (λ (z : List Act). Lawful side k n z) whole
    (lawful_since side k n before (since ++ acts) h
    (subst (λ (z : Side). Lawful z k n (since ++ acts)) is_side (subst (λ (z : ℕ). Lawful d.core.side z n (since ++ acts)) long l)))

-- calls on streams, of an end that is open then
pub kept_calls : LawfulOpen → (side : Side) (k : ℕ) (c d : End) (t acts : List Act) → IsSameConnection key_of c d → is_open d.core.state ≡ true → d.core.side ≡ side → length d.core.local_id ≡ k
    → handed_out acts ≡ [] → (s : StandsSince side c t) → ConnStands plain_accepts plain_sealed s.hello d (s.since ++ acts) → HasKept side k c t → HasKept side k d (t ++ acts)
kept_calls law side k c d t acts same up is_side long none s stands h =
    let back = λ (n : ℕ) (fits : IsPeerLength d.handshake n). length_back c.handshake d.handshake n same.handshake (knows_peer side c t s) fits in
    record {
      lawful = open_lawful law side k s.hello d t acts s.before s.since up is_side long s.are (dropped_in side s.before s.dropped) stands;
      within = within_on side k c d t acts back none h;
    }

-- a datagram goes out, of an end that is open then
pub kept_out : LawfulOpen → WithinOpen → AnnouncedFirst → (side : Side) (k : ℕ) (c d : End) (t : List Act) (x : List ℕ) → IsSameConnection key_of c d → is_open d.core.state ≡ true → d.core.side ≡ side
    → length d.core.local_id ≡ k → (s : StandsSince side c t) → ConnStands plain_accepts plain_sealed s.hello d (s.since ++ HandedOut x ∷ []) → HasKept side k c t
    → HasKept side k d (t ++ HandedOut x ∷ [])
kept_out law within announced side k c d t x same up is_side long s stands h =
    let back = λ (n : ℕ) (fits : IsPeerLength d.handshake n). length_back c.handshake d.handshake n same.handshake (knows_peer side c t s) fits in
    let dropped = dropped_in side s.before s.dropped in
    record {
      lawful = open_lawful law side k s.hello d t (HandedOut x ∷ []) s.before s.since up is_side long s.are dropped stands;
      within = λ n fits before after y e id end takes.
          elim (out_last t before after x y e) as (λ _. IsWithinAnnounced k n side (handed_in before) (handed_out before) y id end) [
            | inl r ↦ h.within n (back n fits) before r.0 y r.1 id end takes
            | inr r ↦
                let takes_x : TakesTo n (x ∷ []) d.core.side id end
                = subst (λ (z : List ℕ). TakesTo n (z ∷ []) d.core.side id end) (sym r.1) (subst (λ (z : Side). TakesTo n (y ∷ []) z id end) (sym is_side) takes) in
                let w : IsWithinAnnounced (length d.core.local_id) n d.core.side (handed_in s.since) (handed_out s.since) x id end
                = out_within within announced s.hello d s.since x up stands n fits id end takes_x in
                let v : IsWithinAnnounced k n side (handed_in s.since) (handed_out s.since) x id end
                = subst (λ (z : Side). IsWithinAnnounced k n z (handed_in s.since) (handed_out s.since) x id end) is_side
                (subst (λ (z : ℕ). IsWithinAnnounced z n d.core.side (handed_in s.since) (handed_out s.since) x id end) long w) in
                let all : before ≡ s.before ++ s.since = r.0 ∙ s.are in
                subst (λ (z : List ℕ). IsWithinAnnounced k n side (handed_in before) (handed_out before) z id end) r.1
                (within_more k n side (handed_in s.since) (handed_in before) (handed_out s.since) (handed_out before) x id end
                (λ z i. subst (λ (l : List Act). In z (handed_in l)) (sym all) (in_since s.before s.since z i))
                (sym (ap handed_out all ∙ out_since s.before s.since dropped)) v)
          ];
    }

-- an end that comes to be, behind datagrams that were dropped
pub kept_first : (side : Side) (k : ℕ) (d : End) (t : List Act) → AreHandedIn t → HasKept side k d t
kept_first side k d t h =
    let q = in_quiet t h in
    record {
      lawful = λ n fits. lawful_as side k n [] t (record { written_is = λ s. (q s).0.0; finished_is = λ s. (q s).0.1; pieces_are = λ s. (q s).1.0; ended_is = λ s. (q s).1.1 })
          (λ x i. subst (λ (z : List (List ℕ)). In x z) (in_sends_none t h) i) (λ x i. absurd i) (nothing_lawful side k n);
      within = λ n fits before after x e id end takes.
          absurd (subst (λ (z : List (List ℕ)). In x z) (sym (handed_out-append before (HandedOut x ∷ after)) ∙ (ap handed_out (sym e) ∙ in_sends_none t h)) (in_right x (handed_out before) (x ∷ handed_out after) (inl refl)));
    }
