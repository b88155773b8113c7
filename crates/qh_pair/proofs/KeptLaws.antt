-- What is known of all that was done with an end holds on.
use Rattle.std.proofs.Common.{◌≡◌, ◌⊎◌, inl, inr, true, false, List, [], ◌∷◌, ◌++◌, ℕ, ◌+◌, Option, Some, None, refl, sym, ◌∙◌, ap, subst, append-nil}
use Rattle.std.specs.Prelude.{length, is_some, slice_get}
use Rattle.qh_conn.specs.Same.{IsSameConnection}
use Rattle.qh_converse.specs.Converses.{IsPeerLength}
use Rattle.qh_handshake.specs.GoesOn.{GoesOn}
use Rattle.qh_handshake.specs.declared.handshake.Handshake.{Handshake}
use Rattle.qh_hello.specs.declared.transport_parameters.TransportParameters.{TransportParameters}
use Rattle.qh_spec.proofs.CarriedLaws.{carries_end_more, carries_more}
use Rattle.qh_spec.proofs.Members.{in_left, in_right}
use Rattle.qh_spec.proofs.TranscriptLaws.{handed_in-append, handed_out-append}
use Rattle.qh_spec.specs.Carried.{CarriesEnd}
use Rattle.qh_spec.specs.Lawful.{Lawful}
use Rattle.qh_spec.specs.Link.{other}
use Rattle.qh_spec.specs.Lists.{In}
use Rattle.qh_spec.specs.Transcript.{Act, HandedIn, HandedOut, handed_in, handed_out, joined}
use Rattle.qh_spec.specs.declared.sides.Side.{Side}
use Rattle.qh_pair.specs.Ends.{End, HasKept, StandsSince, key_of}
use Rattle.qh_pair.specs.Within.{IsWithinAnnounced, TakesTo}
use Rattle.qh_pair.proofs.SameStreams.{SameStreams, quiet_in, quiet_same}

-- ---- lengths

length_by : (h g : Handshake) (n : ℕ) (o : Option TransportParameters) → h.peer ≡ o → GoesOn h g → ((p : TransportParameters) → h.peer ≡ Some p → h.knows_peer ≡ true) → IsPeerLength g n
    → is_some h.peer ≡ true → n ≡ length h.remote_id
length_by h g n None e on knows fits greeted = absurd (let x : true ≡ false = sym greeted ∙ ap is_some e in cc)
length_by h g n (Some p) e on knows fits greeted = fits (ap is_some (on.peer p e)) ∙ ap length (on.known (knows p e)).1

-- what the end knows of its peer once, it knows on; so a length that may be the peer's now might have been so before
pub length_back : (h g : Handshake) (n : ℕ) → GoesOn h g → ((p : TransportParameters) → h.peer ≡ Some p → h.knows_peer ≡ true) → IsPeerLength g n → IsPeerLength h n
length_back h g n on knows fits greeted = length_by h g n h.peer refl on knows fits greeted

pub knows_peer : (side : Side) (c : End) (t : List Act) → StandsSince side c t → (p : TransportParameters) → c.handshake.peer ≡ Some p → c.handshake.knows_peer ≡ true
knows_peer side c t s p e = (s.stands.follows.sourced p e).1

-- ---- the laws of an end

-- they hold of a transcript that tells the same of streams, hands out no more, and hands in no less
pub lawful_as : (side : Side) (m n : ℕ) (t u : List Act) → SameStreams t u → ((d : List ℕ) → In d (handed_out u) → In d (handed_out t)) → ((d : List ℕ) → In d (handed_in t) → In d (handed_in u))
    → Lawful side m n t → Lawful side m n u
lawful_as side m n t u e out inn l = record {
  sent_byte = λ s o b c. ap (λ (z : List ℕ). slice_get z o) (e.written_is s) ∙ l.sent_byte s o b (carries_more n (handed_out u) (handed_out t) out side s o b c);
  sent_end = λ s k c.
      let x = l.sent_end s k (carries_end_more n (handed_out u) (handed_out t) out side s k c) in
      (e.finished_is s ∙ x.0, x.1 ∙ ap length (sym (e.written_is s)));
  read_byte = λ s at bytes k b i is. carries_more m (handed_in t) (handed_in u) inn (other side) s (at + k) b
      (l.read_byte s at bytes k b (subst (λ (z : List (ℕ × List ℕ)). In (at, bytes) z) (e.pieces_are s) i) is);
  read_end = λ s is. subst (λ (z : List (ℕ × List ℕ)). CarriesEnd m (handed_in u) (other side) s (length (joined z))) (sym (e.pieces_are s))
      (carries_end_more m (handed_in t) (handed_in u) inn (other side) s _ (l.read_end s (sym (e.ended_is s) ∙ is)));
}

pub lawful_in : (side : Side) (m n : ℕ) (t : List Act) (d : List ℕ) → Lawful side m n t → Lawful side m n (t ++ HandedIn d ∷ [])
lawful_in side m n t d l = lawful_as side m n t (t ++ HandedIn d ∷ []) (quiet_same t (HandedIn d ∷ []) (quiet_in d))
    (λ x i. subst (λ (z : List (List ℕ)). In x z) (handed_out-append t (HandedIn d ∷ []) ∙ append-nil (handed_out t)) i)
    (λ x i. subst (λ (z : List (List ℕ)). In x z) (sym (handed_in-append t (HandedIn d ∷ []))) (in_left x (handed_in t) (d ∷ []) i)) l

-- ---- where a datagram was handed out

-- acts that hand none out stand behind it
pub out_before : (t acts before after : List Act) (d : List ℕ) → handed_out acts ≡ [] → t ++ acts ≡ before ++ HandedOut d ∷ after → (rest : List Act) × (t ≡ before ++ HandedOut d ∷ rest)
out_before [] acts before after d none e =
    absurd (subst (λ (z : List (List ℕ)). In d z) (sym (handed_out-append before (HandedOut d ∷ after)) ∙ (ap handed_out (sym e) ∙ none)) (in_right d (handed_out before) (d ∷ handed_out after) (inl refl)))
out_before (a ∷ t) acts [] after d none e = (t, let h : a ≡ HandedOut d = cc in cc)
out_before (a ∷ t) acts (b ∷ before) after d none e =
    let head : a ≡ b = cc in
    let tail : t ++ acts ≡ before ++ HandedOut d ∷ after = cc in
    let x = out_before t acts before after d none tail in
    (x.0, let f : t ≡ before ++ HandedOut d ∷ x.0 = x.1 in cc)

-- ---- steps

-- acts that hand nothing out leave what was kept within
pub within_on : (side : Side) (k : ℕ) (c d : End) (t acts : List Act) → ((n : ℕ) → IsPeerLength d.handshake n → IsPeerLength c.handshake n) → handed_out acts ≡ [] → HasKept side k c t
    → (n : ℕ) → IsPeerLength d.handshake n → (before after : List Act) (x : List ℕ) → t ++ acts ≡ before ++ HandedOut x ∷ after
    → (id end : ℕ) → TakesTo n (x ∷ []) side id end → IsWithinAnnounced k n side (handed_in before) (handed_out before) x id end
within_on side k c d t acts back none h n fits before after x e id end takes =
    let r = out_before t acts before after x none e in
    h.within n (back n fits) before r.0 x r.1 id end takes

-- a datagram comes, whatever the call answers
pub kept_in : (side : Side) (k : ℕ) (c d : End) (t : List Act) (x : List ℕ) → IsSameConnection key_of c d → StandsSince side c t → HasKept side k c t → HasKept side k d (t ++ HandedIn x ∷ [])
kept_in side k c d t x same s h =
    let back = λ (n : ℕ) (fits : IsPeerLength d.handshake n). length_back c.handshake d.handshake n same.handshake (knows_peer side c t s) fits in
    record {
      lawful = λ n fits. lawful_in side k n t x (h.lawful n (back n fits));
      within = within_on side k c d t (HandedIn x ∷ []) back refl h;
    }

-- nothing is handed in or out
pub kept_still : (side : Side) (k : ℕ) (c d : End) (t : List Act) → IsSameConnection key_of c d → StandsSince side c t → HasKept side k c t → HasKept side k d (t ++ [])
kept_still side k c d t same s h =
    let back = λ (n : ℕ) (fits : IsPeerLength d.handshake n). length_back c.handshake d.handshake n same.handshake (knows_peer side c t s) fits in
    record {
      lawful = λ n fits. subst (λ (z : List Act). Lawful side k n z) (sym (append-nil t)) (h.lawful n (back n fits));
      within = within_on side k c d t [] back refl h;
    }

-- ---- where the last datagram was handed out

pub not_nothing : (front rest : List Act) (d : List ℕ) → [] ≡ front ++ HandedOut d ∷ rest → ⊥
not_nothing [] rest d e = cc
not_nothing (a ∷ front) rest d e = cc

pub out_last : (t before after : List Act) (x y : List ℕ) → t ++ HandedOut x ∷ [] ≡ before ++ HandedOut y ∷ after → ((rest : List Act) × (t ≡ before ++ HandedOut y ∷ rest)) ⊎ ((before ≡ t) × (x ≡ y))
out_last [] [] after x y e = inr (refl, (let h : HandedOut x ≡ HandedOut y = cc in cc))
out_last [] (a ∷ before) after x y e = absurd (not_nothing before after y (let f : [] ≡ before ++ HandedOut y ∷ after = cc in f))
out_last (a ∷ t) [] after x y e = inl (t, (let h : a ≡ HandedOut y = cc in cc))
out_last (a ∷ t) (b ∷ before) after x y e =
    let head : a ≡ b = cc in
    let tail : t ++ HandedOut x ∷ [] ≡ before ++ HandedOut y ∷ after = cc in
    elim (out_last t before after x y tail) as (λ _. ((rest : List Act) × (a ∷ t ≡ (b ∷ before) ++ HandedOut y ∷ rest)) ⊎ ((b ∷ before ≡ a ∷ t) × (x ≡ y))) [
      | inl r ↦ inl (r.0, (let f : t ≡ before ++ HandedOut y ∷ r.0 = r.1 in cc))
      | inr r ↦ inr ((let f : before ≡ t = r.0 in cc), r.1)
    ]
