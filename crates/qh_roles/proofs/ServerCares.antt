-- No stream is forgotten: what a server does with its handlers keeps one for each stream, until nothing more is written of it.
use Rattle.std.proofs.Common.{◌≡◌, ◌⊎◌, ℕ, zero, suc, ◌<◌, Bool, true, false, Result, Ok, Err, IfOk, List, [], ◌∷◌, ◌++◌, length, get_or, inl, inr, refl, sym, ap, ◌∙◌, subst, arith}
use Rattle.std.proofs.Math.ListN.{set, length-set}
use Rattle.std.proofs.lemmas.Bool.{cases_Bool, cases_lt}
use Rattle.std.specs.List.{items_where_true}
use Rattle.std.specs.Prelude.{map, filter}
use Rattle.qh_halves.specs.Counts.{other_side}
use Rattle.qh_roles.proofs.ClientLists.{of_filtered}
use Rattle.qh_roles.specs.Handling.{Accepts, AreSettled, IsSettledIn, Polls}
use Rattle.qh_roles.specs.Server.{AreGoing, AreOnStreams, ForgetsNone, HasHandler, IsCaredFor, IsOn, is_done, is_going}
use Rattle.qh_roles.specs.Streams.{IsOver, KeepsOver, NoneArrived}
use Rattle.qh_roles.specs.declared.server.Handler.{Handler}
use Rattle.qh_roles.specs.declared.server.HandlerState.{HandlerState}
use Rattle.qh_base.specs.declared.memory.Memory.{Memory as OutOfMemory}
use Rattle.qh_spec.proofs.Members.{in_index, in_left, in_last, in_more}
use Rattle.qh_spec.specs.Lists.{In}
use Rattle.qh_spec.specs.StreamId.{stream_id}
use Rattle.qh_spec.specs.declared.sides.Dir.TheVariants.{Bi}
use Rattle.qh_spec.specs.declared.sides.Side.{Side}
use Rattle.qh_streams.specs.Streams.{PlainStreams, with_counts, with_accepted}

-- ---- lists

pub filter_where : {X : Type 0} (p : X → Bool) (xs : List X) → filter p xs ≡ items_where_true (map p xs) xs
filter_where p [] = refl
filter_where p (x ∷ xs) = elim (cases_Bool (p x)) [
  | inl here ↦ rw here (ap (λ (z : List _). x ∷ z) (filter_where p xs))
  | inr gone ↦ rw gone (filter_where p xs)
]

in_filtered : {X : Type 0} (p : X → Bool) (xs : List X) (x : X) → In x xs → p x ≡ true → In x (filter p xs)
in_filtered p [] x h passes = absurd h
in_filtered p (y ∷ ys) x (inl e) passes = rw (ap p e ∙ passes) (inl e)
in_filtered p (y ∷ ys) x (inr h) passes = elim (cases_Bool (p y)) [
  | inl here ↦ rw here (inr (in_filtered p ys x h passes))
  | inr gone ↦ rw gone (in_filtered p ys x h passes)
]

in_set : {X : Type 0} (xs : List X) (at : ℕ) (new x : X) → In x (set xs at new) → (new ≡ x) ⊎ In x xs
in_set [] at new x h = absurd h
in_set (y ∷ ys) zero new x (inl e) = inl e
in_set (y ∷ ys) zero new x (inr h) = inr (inr h)
in_set (y ∷ ys) (suc at) new x (inl e) = inr (inl e)
in_set (y ∷ ys) (suc at) new x (inr h) = elim (in_set ys at new x h) [ inl e ↦ inl e | inr more ↦ inr (inr more) ]

-- what stands in a list stands there still, or it was replaced
still_in : {X : Type 0} (xs : List X) (at : ℕ) (d new x : X) → at < length xs → In x xs → In x (set xs at new) ⊎ ((get_or xs at d ≡ x) × In new (set xs at new))
still_in [] at d new x within h = absurd h
still_in (y ∷ ys) zero d new x within (inl e) = inr (e, inl refl)
still_in (y ∷ ys) zero d new x within (inr h) = inl (inr h)
still_in (y ∷ ys) (suc at) d new x within (inl e) = inl (inl e)
still_in (y ∷ ys) (suc at) d new x within (inr h) = elim (still_in ys at d new x (omega arith) h) [
  | inl more ↦ inl (inr more)
  | inr one ↦ inr (one.0, inr one.1)
]

-- ---- accepting

pub accepts_same : (xs : List Handler) (s : PlainStreams) → Accepts xs xs s s
accepts_same xs s = record { each = λ k h. h; fresh = λ k low high. absurd (omega (arith, low, high)); side = refl; going = λ all. all; on = λ all. all }

pub accepts_then : (xs ys zs : List Handler) (old mid new : PlainStreams) → Accepts xs ys old mid → Accepts ys zs mid new → Accepts xs zs old new
accepts_then xs ys zs old mid new first second = record {
  each = λ k h. second.each k (first.each k h);
  fresh = λ k low high. elim (cases_lt k mid.bi.accepted) [
    | inl before ↦ second.each _ (first.fresh k low before)
    | inr behind ↦ subst (λ (side : Side). HasHandler zs (stream_id (other_side side) Bi k)) first.side (second.fresh k behind high)
  ];
  side = second.side ∙ first.side;
  going = λ all. second.going (first.going all);
  on = λ all. second.on (first.on all);
}

pub accepts_one : (xs : List Handler) (h : Handler) (old new : PlainStreams) → new ≡ with_counts old true (with_accepted old.bi) → h.stream.0 ≡ stream_id (other_side old.side) Bi old.bi.accepted → is_going h ≡ true → IsOn h.stream.0 h.state
    → Accepts xs (xs ++ h ∷ []) old new
accepts_one xs h old new is stream going on = record {
  each = λ k one. record { handler = one.handler; among = in_left one.handler xs (h ∷ []) one.among; stream_is = one.stream_is };
  fresh = λ k low high.
      let last : k ≡ old.bi.accepted = (let rose = ap (λ (s : PlainStreams). s.bi.accepted) is in omega (arith, low, high, rose)) in
      record { handler = h; among = in_last h xs; stream_is = stream ∙ ap (λ (n : ℕ). stream_id (other_side old.side) Bi n) (sym last) };
  side = ap (λ (s : PlainStreams). s.side) is;
  going = λ all x among. elim (in_more x h xs among) [ inl there ↦ all x there | inr same ↦ ap is_going (sym same) ∙ going ];
  on = λ all x among. elim (in_more x h xs among) [ inl there ↦ all x there | inr same ↦ subst (λ (z : Handler). IsOn z.stream.0 z.state) same on ];
}

-- ---- going on

pub polls_same : (xs : List Handler) (s : PlainStreams) → Polls xs xs s s
polls_same xs s = record { each = λ k h. h; settled = λ all. all; arrived = refl }

pub polled : (xs ys : List Handler) (at : ℕ) (d new : Handler) (start old next : PlainStreams) → Polls xs ys start old → at < length ys → new.stream.0 ≡ (get_or ys at d).stream.0
    → NoneArrived old next → KeepsOver old.send next.send → (IsSettledIn (get_or ys at d).stream.0 old (get_or ys at d).state → IsSettledIn new.stream.0 next new.state) → Polls xs (set ys at new) start next
polled xs ys at d new start old next so_far within same none over settled = record {
  each = λ k h.
      let one = so_far.each k h in
      elim (still_in ys at d new one.handler within one.among) [
        | inl there ↦ record { handler = one.handler; among = there; stream_is = one.stream_is }
        | inr replaced ↦ record { handler = new; among = replaced.1; stream_is = same ∙ ap (λ (z : Handler). z.stream.0) replaced.0 ∙ one.stream_is }
      ];
  settled = λ all x among.
      let before = so_far.settled all in
      elim (in_set ys at new x among) [
        | inl here ↦ subst (λ (z : Handler). IsSettledIn z.stream.0 next z.state) here (settled (before (get_or ys at d) (in_index ys at d within)))
        | inr other ↦ ((before x other).0, λ done. over x.stream.0 ((before x other).1 done))
      ];
  arrived = none ∙ so_far.arrived;
}

pub polled_twice : (xs ys : List Handler) (at : ℕ) (d new e last : Handler) (start old mid next : PlainStreams) → Polls xs ys start old → at < length ys → new.stream.0 ≡ (get_or ys at d).stream.0
    → NoneArrived old mid → KeepsOver old.send mid.send → (IsSettledIn (get_or ys at d).stream.0 old (get_or ys at d).state → IsSettledIn new.stream.0 mid new.state)
    → last.stream.0 ≡ (get_or (set ys at new) at e).stream.0
    → NoneArrived mid next → KeepsOver mid.send next.send → (IsSettledIn (get_or (set ys at new) at e).stream.0 mid (get_or (set ys at new) at e).state → IsSettledIn last.stream.0 next last.state)
    → Polls xs (set (set ys at new) at last) start next
polled_twice xs ys at d new e last start old mid next so_far within same none over settled same' none' over' settled' =
    let size = length-set ys at new in
    polled xs (set ys at new) at e last start mid next (polled xs ys at d new start old mid so_far within same none over settled) (omega (arith, size, within)) same' none' over' settled'

-- ---- the whole call

cared : (zs : List Handler) (s : PlainStreams) (k : ℕ) → AreSettled zs s → HasHandler zs k → IsCaredFor (filter is_going zs) s k
cared zs s k settled one = elim (cases_Bool (is_done one.handler.state)) [
  | inl done ↦ inr (subst (IsOver s.send) one.stream_is ((settled one.handler one.among).1 done))
  | inr on ↦ inl (record { handler = one.handler; among = in_filtered is_going zs one.handler one.among (rw on refl); stream_is = one.stream_is })
]

pub forgotten : (xs ys zs : List Handler) (old mid new : PlainStreams) → Accepts xs ys old mid → Polls ys zs mid new → new.bi.accepted ≡ mid.bi.accepted → AreGoing xs → AreOnStreams xs → ForgetsNone xs (filter is_going zs) old new
forgotten xs ys zs old mid new accepts polls count going on =
    let settled : AreSettled zs new = polls.settled (λ h among. (accepts.on on h among, λ done. absurd (let alive = accepts.going going h among in let dead = rw done at alive in cc))) in
    record {
      each = λ k h. cared zs new k settled (polls.each k (accepts.each k h));
      fresh = λ k low high. cared zs new _ settled (polls.each _ (accepts.fresh k low (omega (arith, high, count))));
      on = λ h among. (settled h (of_filtered is_going zs h among).0).0;
    }

pub all_going : (zs : List Handler) → AreGoing (filter is_going zs)
all_going zs h among = (of_filtered is_going zs h among).1

-- what was served now is answered on its stream
pub answered_on : (r : Result HandlerState OutOfMemory) (stream : ℕ) (s : PlainStreams) → IfOk r (λ state. IsOn stream state × (is_done state ≡ false)) → IfOk r (IsSettledIn stream s)
answered_on (Ok state) stream s going = (going.0, λ done. absurd (let alive = going.1 in cc))
answered_on (Err e) stream s going = tt
