-- How many datagrams an end was given and sent in a turn, and how many faults the link had.
use Rattle.std.proofs.Common.{◌≡◌, inl, inr, ◌≤◌, ◌<◌, ◌+◌, Bool, List, [], ◌∷◌, ◌++◌, ℕ, Some, refl, sym, ◌∙◌, ap, subst, arith, append-nil, length-append}
use Rattle.std.specs.Prelude.{length, map}
use Rattle.std.proofs.lemmas.List.{map-append}
use Rattle.qh_conduct.specs.Calls.{ToldTheSame}
use Rattle.qh_spec.specs.Fault.{CountsFaults}
use Rattle.qh_spec.proofs.EventLaws.{given_to-append}
use Rattle.qh_spec.proofs.Members.{in_split}
use Rattle.qh_spec.specs.Link.{given_to, sent_by}
use Rattle.qh_spec.specs.Lists.{In}
use Rattle.qh_spec.specs.Turns.{IsIntake, until_dry, full, IsOutput}
use Rattle.qh_spec.specs.declared.link.Event.{Event}
use Rattle.qh_spec.specs.declared.link.Event.TheVariants.{Sent, Given, Dry}
use Rattle.qh_spec.specs.declared.sides.Side.{Side}
use Rattle.qh_spec.specs.declared.sides.Side.TheVariants.{Client, Server}
use Rattle.qh_streams.specs.Streams.{PlainStreams}
use Rattle.qh_pair.specs.EndCalls.{AreGiven, AreSent}
use Rattle.qh_pair.specs.Full.{IsSentOut, OpensBy}
use Rattle.qh_pair.specs.Sound.{IsFirst}
use Rattle.qh_pair.specs.declared.ends.Ids.{Ids}
use Rattle.qh_pair.specs.Ends.{End}

-- ---- counts of datagrams

-- the link gave or took one more, and then no more
pub given_none : (side : Side) → AreGiven side 0 []
given_none side = record { datagrams = []; count_is = refl; are = refl }

pub given_more : (side : Side) (n : ℕ) (d : List ℕ) (x : List Event) → AreGiven side n x → AreGiven side (n + 1) (x ++ Given side d ∷ [])
given_more side n d x g =
    record {
      datagrams = g.datagrams ++ d ∷ [];
      count_is = (let e = g.count_is in omega (arith, e, length-append g.datagrams (d ∷ [])));
      are = ap (λ (z : List Event). z ++ Given side d ∷ []) g.are ∙ sym (map-append (λ (y : List ℕ). Given side y) g.datagrams (d ∷ []));
    }

pub given_dry : (side : Side) (n : ℕ) (x : List Event) → n < 65536 → AreGiven side n x → IsIntake side (x ++ Dry side ∷ [])
given_dry side n x below g =
    until_dry g.datagrams (let e = g.count_is in omega (arith, e)) (ap (λ (z : List Event). z ++ Dry side ∷ []) g.are)

pub given_full : (side : Side) (x : List Event) → AreGiven side 65536 x → IsIntake side x
given_full side x g = full g.datagrams g.count_is g.are

-- ---- a client's first datagram

pub opens_none : (ids : Ids) (side : Side) (There : Type 0) → OpensBy ids side [] There
opens_none ids side There d i first = absurd i

pub opens_dry : (ids : Ids) (side : Side) (x : List Event) (There : Type 0) → OpensBy ids side x There → OpensBy ids side (x ++ Dry side ∷ []) There
opens_dry ids side x There opens d i first = opens d (subst (λ (z : List (List ℕ)). In d z) (given_to-append side x (Dry side ∷ []) ∙ append-nil (given_to side x)) i) first

given_one : (side : Side) (e d : List ℕ) → In e (given_to side (Given side d ∷ [])) → d ≡ e
given_one Client e d (inl is) = is
given_one Client e d (inr none) = absurd none
given_one Server e d (inl is) = is
given_one Server e d (inr none) = absurd none

pub opens_more : (ids : Ids) (side : Side) (x : List Event) (d : List ℕ) (Old New : Type 0) → (Old → New) → (IsFirst ids d → New) → OpensBy ids side x Old → OpensBy ids side (x ++ Given side d ∷ []) New
opens_more ids side x d Old New keeps now opens e i first =
    elim (in_split e (given_to side x) (given_to side (Given side d ∷ [])) (subst (λ (z : List (List ℕ)). In e z) (given_to-append side x (Given side d ∷ [])) i)) as (λ _. New) [
      | inl l ↦ keeps (opens e l first)
      | inr r ↦ now (subst (λ (z : List ℕ). IsFirst ids z) (sym (given_one side e d r)) first)
    ]

pub sent_none : (side : Side) → AreSent side 0 []
sent_none side = record { datagrams = []; count_is = refl; are = refl }

pub sent_more : (side : Side) (n : ℕ) (d : List ℕ) (x : List Event) → AreSent side n x → AreSent side (n + 1) (x ++ Sent side d ∷ [])
sent_more side n d x g =
    record {
      datagrams = g.datagrams ++ d ∷ [];
      count_is = (let e = g.count_is in omega (arith, e, length-append g.datagrams (d ∷ [])));
      are = ap (λ (z : List Event). z ++ Sent side d ∷ []) g.are ∙ sym (map-append (λ (y : List ℕ). Sent side y) g.datagrams (d ∷ []));
    }

pub sent_all : (side : Side) (n : ℕ) (x : List Event) → n ≤ 4096 → AreSent side n x → IsOutput side x
sent_all side n x most g = record { sent = g.datagrams; few = (let e = g.count_is in omega (arith, e)); is = g.are }

sent_are : (side : Side) (ds : List (List ℕ)) → sent_by side (map (λ (d : List ℕ). Sent side d) ds) ≡ ds
sent_are side [] = refl
sent_are Client (d ∷ ds) = ap (λ (z : List (List ℕ)). d ∷ z) (sent_are Client ds)
sent_are Server (d ∷ ds) = ap (λ (z : List (List ℕ)). d ∷ z) (sent_are Server ds)

-- as many as may be sent in a turn
pub sent_full : (side : Side) (d : End) (x : List Event) → AreSent side 4096 x → IsSentOut side (Some d) x
sent_full side d x g = inl (ap length (ap (sent_by side) g.are ∙ sent_are side g.datagrams) ∙ g.count_is)

-- ---- counts of streams that are told

pub told_same : (s : PlainStreams) → ToldTheSame s s
told_same s two_way = (refl, refl)

pub told_trans : (a b c : PlainStreams) → ToldTheSame a b → ToldTheSame b c → ToldTheSame a c
told_trans a b c f g two_way = ((g two_way).0 ∙ (f two_way).0, (g two_way).1 ∙ (f two_way).1)

-- ---- counts of faults

pub counts_more : (a b c : ℕ) (is_failing : Bool) → b ≡ a → CountsFaults b c is_failing → CountsFaults a c is_failing
counts_more a b c is_failing same f = subst (λ (z : ℕ). CountsFaults z c is_failing) same f
