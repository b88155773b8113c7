-- A Retry packet is none that an end of a connection hands out, and ends no handshake.
use Rattle.std.proofs.Common.{◌≡◌, ℕ, ◌+◌, ◌≤◌, true, false, List, ◌++◌, length, get_or, Option, None, Some, refl, sym, ap, subst, ◌∙◌, inl, inr, arith}
use Rattle.qh_base.specs.declared.connection_error.ConnectionError.{ConnectionError}
use Rattle.qh_base.specs.declared.shared.ResetToken.{ResetToken}
use Rattle.qh_base.specs.declared.time.Moment.{Moment}
use Rattle.qh_conn.specs.Incoming.{is_reset_by}
use Rattle.qh_converse.specs.Linked.{ComesFrom, IsOfNoEnd}
use Rattle.qh_handshake.specs.Incoming.{ArePacketsTaken, IsDatagramTaken, IsMismatch, received}
use Rattle.qh_handshake.specs.declared.handshake.Handshake.{Handshake}
use Rattle.qh_packet.specs.LongHeader.{long_head}
use Rattle.qh_packet.specs.Retry.{retry_tag_of}
use Rattle.qh_packet.specs.Session.{AcceptsTag}
use Rattle.qh_peers.proofs.EndOpen.{no_bytes}
use Rattle.qh_peers.proofs.TagEnds.{EndsIn, ends_all, ends_more, no_reset_by, retry_byte}
use Rattle.qh_peers.specs.Ends.{ComesFromOrRetry, IsRetry}
use Rattle.qh_peers.specs.Greets.{CanBeGreeted}
use Rattle.qh_spec.specs.Datagram.{HasPacket, IsInitialForm, Packet, one_rtt, initial, later}
use Rattle.qh_spec.specs.Parted.{IsShort}
use Rattle.qh_spec.specs.Transcript.{Act}
use Rattle.qh_token.specs.Reset.{reset_token_of}

-- ---- how it begins and ends

retry_first : (d : List ℕ) → IsRetry d → 240 ≤ get_or d 0 0
retry_first d r =
    let first : get_or d 0 0 ≡ r.is.first = ap (λ (z : List ℕ). get_or z 0 0) r.is.header.whole in
    let high = r.is.retry_type in
    omega (arith, first, high)

pub retry_not_short : (d : List ℕ) → IsRetry d → IsShort d → ⊥
retry_not_short d r s =
    let high = retry_first d r in
    let low = s.1 in
    absurd (omega (arith, high, low))

pub retry_behind : (d : List ℕ) → IsRetry d → (front rest body : List ℕ) (first : ℕ) → d ≡ front ++ rest → IsInitialForm front first body → ⊥
retry_behind d r front rest body first e i =
    let mine : get_or d 0 0 ≡ first = ap (λ (z : List ℕ). get_or z 0 0) (e ∙ ap (λ (z : List ℕ). z ++ rest) i.whole) in
    let high = retry_first d r in
    let low = i.initial_type in
    absurd (omega (arith, mine, high, low))

pub retry_of_none : (d : List ℕ) → IsRetry d → IsOfNoEnd d
retry_of_none d r = (retry_behind d r, retry_not_short d r)

-- what comes from the other end, or is a Retry packet, comes from the other end, or is of no end
pub retry_comes : (own peer : List Act) → ComesFromOrRetry own peer → ComesFrom own peer
retry_comes own peer came d i = elim (came d i) [ inl out ↦ inl out | inr r ↦ inr (retry_of_none d r) ]

-- what is of no end has no packet of an end's
pub none_has_none : (k : ℕ) (p : Packet) (d : List ℕ) → IsOfNoEnd d → HasPacket k p d → ⊥
none_has_none k p d none (one_rtt _ h) =
    let size = ap (λ (z : List ℕ). length z) h.whole in
    let first = ap (λ (z : List ℕ). get_or z 0 0) h.whole in
    let few = h.fits.short_number in
    none.1 (omega (arith, size), omega (arith, first, few))
none_has_none k p d none (initial front rest _ e i) = none.0 front rest (i.number_bytes ++ (i.frame_bytes ++ i.tag)) (191 + length i.number_bytes) e i.form
none_has_none k p d none (later front rest _ first body e i _) = none.0 front rest body first e i

retry_ends : (d : List ℕ) → (r : IsRetry d) → EndsIn (retry_tag_of r.original) d
retry_ends d r =
    subst (λ (z : List ℕ). EndsIn (retry_tag_of r.original) z) (sym r.is.header.whole)
    (ends_more (retry_tag_of r.original) (long_head r.is.first 1 r.destination r.source) (r.token ++ retry_tag_of r.original)
    (ends_more (retry_tag_of r.original) r.token (retry_tag_of r.original) (ends_all (retry_tag_of r.original))))

-- it doesn't end as a stateless reset does
pub retry_no_reset : (d id : List ℕ) (o : Option ResetToken) → IsRetry d → ((k : ResetToken) → o ≡ Some k → k.0 ≡ reset_token_of id) → is_reset_by o d → ⊥
retry_no_reset d id o r tokens is = no_reset_by d id o (retry_byte r.original d (retry_ends d r)) tokens is

-- ---- what it does to a handshake

-- it is no packet of version negotiation
not_negotiation : (h : Handshake) (d : List ℕ) → IsRetry d → IsMismatch h d → ⊥
not_negotiation h d r m =
    let one : get_or d 4 0 ≡ 1 = ap (λ (z : List ℕ). get_or z 4 0) r.is.header.whole in
    let zero : get_or d 4 0 ≡ 0 = ap (λ (z : List ℕ). get_or z 4 0) m.is.header.whole in
    absurd (omega (arith, one, zero))

-- It ends nothing, and what is behind it doesn't begin with a short header. The handshake knows of its peer's hello what it knew, and its peer
-- can greet it if it could.
pub record IsRetryPassed (rest : List ℕ) (old new : Handshake) (end : Option ConnectionError) : Type 0 where
  pub unended : end ≡ None
  pub long : IsShort rest → ⊥
  pub peer : new.peer ≡ old.peer
  pub can : (peer : Handshake) → CanBeGreeted old peer → CanBeGreeted new peer

packets_pass : (accepts : AcceptsTag) (now : Moment) (d rest : List ℕ) (old new : Handshake) (learned : Option (List ℕ)) (end : Option ConnectionError) → IsRetry d
    → ArePacketsTaken accepts now d rest (received (length d) old) new learned end → IsRetryPassed rest old new end
packets_pass accepts now d _ old _ _ _ r (ArePacketsTaken.done _ _ _) = record { unended = refl; long = retry_not_short d r; peer = refl; can = λ peer c. record { source = c.source; space = c.space } }
packets_pass accepts now d rest old new _ end r (ArePacketsTaken.more _ _ after _ f _ _ _ _ _ _ begins _ _) = absurd (retry_behind d r begins.front after f.body f.first begins.whole begins.form)
packets_pass accepts now d rest old new _ _ r (ArePacketsTaken.ended _ _ after f _ _ _ _ begins _) = absurd (retry_behind d r begins.front after f.body f.first begins.whole begins.form)

pub retry_passes : (accepts : AcceptsTag) (now : Moment) (d rest : List ℕ) (old new : Handshake) (retried learned : Option (List ℕ)) (end : Option ConnectionError) → IsRetry d
    → IsDatagramTaken accepts now d old new rest retried learned end → IsRetryPassed rest old new end
retry_passes accepts now d _ old new _ _ _ r (IsDatagramTaken.retry _ _ _ may _ e) = record {
  unended = refl;
  long = no_bytes;
  peer = ap (λ (h : Handshake). h.peer) e;
  can = λ peer c. subst (λ (h : Handshake). CanBeGreeted h peer) (sym e) (record { source = λ knows. let z : false ≡ true = sym may.unknown ∙ knows in cc; space = λ none. refl });
}
retry_passes accepts now d _ old new _ _ _ r (IsDatagramTaken.mismatch is _) = absurd (not_negotiation old d r is)
retry_passes accepts now d _ old new _ _ _ r (IsDatagramTaken.packets rest learned end _ _ taken) = packets_pass accepts now d rest old new learned end r taken
