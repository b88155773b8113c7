-- What an end does keeps the order of a handshake.
use Rattle.std.proofs.Common.{◌≡◌, inl, inr, ℕ, true, false, List, [], ◌∷◌, ◌++◌, length, sym, ap, subst, arith}
use Rattle.qh_spec.specs.Link.{other, given_to}
use Rattle.qh_spec.specs.Lists.{In}
use Rattle.qh_spec.specs.Transcript.{Act, HandedIn, HandedOut, handed_in}
use Rattle.qh_spec.specs.declared.link.Event.{Event}
use Rattle.qh_spec.specs.declared.link.Event.TheVariants.{Sent}
use Rattle.qh_spec.specs.declared.sides.Side.{Side}
use Rattle.qh_spec.specs.declared.sides.Side.TheVariants.{Server}
use Rattle.qh_spec.specs.declared.sides.Space.TheVariants.{Data}
use Rattle.qh_spec.proofs.Members.{in_left, in_right}
use Rattle.qh_spec.proofs.TranscriptLaws.{handed_in-append}
use Rattle.qh_spec.specs.Greeted.{HasPacketOf, HasCrypto, IsGreeted, GreetsInOrder, HasGreetedInOrder, SentInOrder}
use Rattle.qh_spec.specs.HandshakeOrder.{Progress, Orders}
use Rattle.qh_spec.proofs.GreetedLaws.{greeted_more, packet_more}
use Rattle.qh_spec.proofs.PartLaws.{last_or_before}

in_more_acts : (t : List Act) (a : Act) (d : List ℕ) → In d (handed_in t) → In d (handed_in (t ++ a ∷ []))
in_more_acts t a d i = subst (λ (z : List (List ℕ)). In d z) (sym (handed_in-append t (a ∷ []))) (in_left d (handed_in t) (handed_in (a ∷ [])) i)

in_last_act : (t : List Act) (g d : List ℕ) → In d (g ∷ []) → In d (handed_in (t ++ HandedIn g ∷ []))
in_last_act t g d i = subst (λ (z : List (List ℕ)). In d z) (sym (handed_in-append t (HandedIn g ∷ []))) (in_right d (handed_in t) (g ∷ []) i)

pub nothing_sent : (own peer : ℕ) (side : Side) → HasGreetedInOrder own peer side []
nothing_sent own peer side [] after d e = let l : 0 ≡ length (HandedOut d ∷ after) = ap length e in absurd (omega (arith, l))
nothing_sent own peer side (b ∷ before) after d e = let l : 0 ≡ length (b ∷ (before ++ HandedOut d ∷ after)) = ap length e in absurd (omega (arith, l))

-- what isn't handed out keeps the order
order_on : (own peer : ℕ) (side : Side) (t : List Act) (a : Act) → ((d : List ℕ) → a ≡ HandedOut d → ⊥) → HasGreetedInOrder own peer side t → HasGreetedInOrder own peer side (t ++ a ∷ [])
order_on own peer side t a silent order before after d e = elim (last_or_before t before after a (HandedOut d) e) [
  | inl h ↦ absurd (silent d h.1)
  | inr h ↦ order before h.0 d h.1
]

pub order_sent : (own peer : ℕ) (side : Side) (t : List Act) (g : List ℕ) → GreetsInOrder own peer side (handed_in t) g → HasGreetedInOrder own peer side t → HasGreetedInOrder own peer side (t ++ HandedOut g ∷ [])
order_sent own peer side t g here order before after d e = elim (last_or_before t before after (HandedOut g) (HandedOut d) e) [
  | inl h ↦
      let same : g ≡ d = (let f : HandedOut g ≡ HandedOut d = h.1 in cc) in
      subst (λ (z : List ℕ). GreetsInOrder own peer side (handed_in before) z) same (subst (λ (z : List Act). GreetsInOrder own peer side (handed_in z) g) h.0 here)
  | inr h ↦ order before h.0 d h.1
]

pub fresh_orders : (own peer : ℕ) (h : Progress) → h.is_greeted ≡ false → h.has_heard ≡ false → Orders own peer h []
fresh_orders own peer h not none = record { greeted = λ e. cc; heard = λ e. cc; order = nothing_sent own peer h.side }

pub act_orders : (own peer : ℕ) (h : Progress) (t : List Act) (a : Act) → ((d : List ℕ) → a ≡ HandedOut d → ⊥) → Orders own peer h t → Orders own peer h (t ++ a ∷ [])
act_orders own peer h t a silent p = record {
  greeted = λ e. greeted_more own (handed_in t) (handed_in (t ++ a ∷ [])) (other h.side) (λ d i. in_more_acts t a d i) (p.greeted e);
  heard = λ e. packet_more own (handed_in t) (handed_in (t ++ a ∷ [])) (other h.side) Data (λ d i. in_more_acts t a d i) (p.heard e);
  order = order_on own peer h.side t a silent p.order;
}

pub hears_orders : (own peer : ℕ) (h : Progress) (t : List Act) (d : List ℕ) → HasPacketOf own (d ∷ []) (other h.side) Data → Orders own peer h t → Orders own peer (record h { has_heard = true }) (t ++ HandedIn d ∷ [])
hears_orders own peer h t d has p =
    let on = act_orders own peer h t (HandedIn d) (λ g e. cc) p in
    record { greeted = on.greeted; heard = λ e. packet_more own (d ∷ []) (handed_in (t ++ HandedIn d ∷ [])) (other h.side) Data (λ g i. in_last_act t d g i) has; order = on.order }

pub greets_orders : (own peer : ℕ) (h : Progress) (t : List Act) (d : List ℕ) → IsGreeted own (handed_in (t ++ HandedIn d ∷ [])) (other h.side) → Orders own peer h t → Orders own peer (record h { is_greeted = true }) (t ++ HandedIn d ∷ [])
greets_orders own peer h t d has p = let on = act_orders own peer h t (HandedIn d) (λ g e. cc) p in record { greeted = λ e. has; heard = on.heard; order = on.order }

pub sends_orders : (own peer : ℕ) (h : Progress) (t : List Act) (d : List ℕ) → (HasPacketOf peer (d ∷ []) h.side Data → h.is_greeted ≡ true)
    → (h.side ≡ Server → HasPacketOf peer (d ∷ []) h.side Data → h.has_heard ≡ true)
    → (h.side ≡ Server → (from : ℕ) (payload : List ℕ) → HasCrypto peer (d ∷ []) h.side from payload → h.is_greeted ≡ true) → Orders own peer h t → Orders own peer h (t ++ HandedOut d ∷ [])
sends_orders own peer h t d greeted heard answers p =
    let more = λ (g : List ℕ) (i : In g (handed_in t)). in_more_acts t (HandedOut d) g i in
    record {
      greeted = λ e. greeted_more own (handed_in t) (handed_in (t ++ HandedOut d ∷ [])) (other h.side) more (p.greeted e);
      heard = λ e. packet_more own (handed_in t) (handed_in (t ++ HandedOut d ∷ [])) (other h.side) Data more (p.heard e);
      order = order_sent own peer h.side t d (record {
        greeted = λ x. p.greeted (greeted x);
        connected = λ s x. p.heard (heard s x);
        answers = λ s from payload x. p.greeted (answers s from payload x);
      }) p.order;
    }

-- ---- the same of events

pub none_in_order : (own peer : ℕ) (side : Side) → SentInOrder own peer side []
none_in_order own peer side [] after d e = let l : 0 ≡ length (Sent side d ∷ after) = ap length e in absurd (omega (arith, l))
none_in_order own peer side (b ∷ before) after d e = let l : 0 ≡ length (b ∷ (before ++ Sent side d ∷ after)) = ap length e in absurd (omega (arith, l))

pub quiet_in_order : (own peer : ℕ) (side : Side) (events : List Event) (e : Event) → ((d : List ℕ) → e ≡ Sent side d → ⊥) → SentInOrder own peer side events → SentInOrder own peer side (events ++ e ∷ [])
quiet_in_order own peer side events e silent order before after d f = elim (last_or_before events before after e (Sent side d) f) [
  | inl h ↦ absurd (silent d h.1)
  | inr h ↦ order before h.0 d h.1
]

pub sent_in_order : (own peer : ℕ) (side : Side) (events : List Event) (g : List ℕ) → GreetsInOrder own peer side (given_to side events) g → SentInOrder own peer side events
    → SentInOrder own peer side (events ++ Sent side g ∷ [])
sent_in_order own peer side events g here order before after d f = elim (last_or_before events before after (Sent side g) (Sent side d) f) [
  | inl h ↦
      let same : g ≡ d = (let e : Sent side g ≡ Sent side d = h.1 in cc) in
      subst (λ (z : List ℕ). GreetsInOrder own peer side (given_to side before) z) same (subst (λ (z : List Event). GreetsInOrder own peer side (given_to side z) g) h.0 here)
  | inr h ↦ order before h.0 d h.1
]
