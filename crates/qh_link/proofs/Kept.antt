-- What the fields of a link in memory keep, over each event.
use Rattle.std.proofs.Common.{◌≡◌, ◌⊎◌, inl, inr, ℕ, ◌+◌, ◌^◌, ◌-◌, ◌<◌, ◌≤◌, min, true, false, cond, ltb, List, [], ◌∷◌, ◌++◌, length, Some, None, refl, sym, ◌∙◌, ap, subst, arith, append_assoc, slice_get, add-one}
use Rattle.std.proofs.lemmas.List.{append-nil}
use Rattle.std.proofs.lemmas.List.Elements.{All-push}
use Rattle.std.proofs.lemmas.Bool.{cases_lt}
use Rattle.qh_spec.specs.Fault.{CountsFaults}
use Rattle.qh_spec.specs.declared.sides.Side.{Side}
use Rattle.qh_spec.specs.declared.sides.Side.TheVariants.{Client, Server}
use Rattle.qh_spec.specs.declared.link.Event.{Event}
use Rattle.qh_spec.specs.declared.link.Event.TheVariants.{Sent, Given, Dry, Round, Fault}
use Rattle.qh_spec.specs.declared.link.Upset.{Upset}
use Rattle.qh_spec.specs.Link.{other, if_same_side, given_to}
use Rattle.qh_spec.specs.Schedule.{Flight, repeated, flights, forged, due_in, due_through, send_count, round_count, copies_of, delay_of, is_failing, next_for, moment_of, IsUpset}
use Rattle.qh_link.specs.declared.ways.Postponed.{Postponed}
use Rattle.qh_link.specs.declared.ways.Ways.{Ways}
use Rattle.qh_link.specs.Ways.{ready_to, later_to, arriving, remaining}
use Rattle.qh_link.specs.ScriptLink.{late_after, IsWay, IsKept}
use Rattle.qh_link.proofs.Events.{given_to-append, round_count-append, send_count-append, scheduled_more, nothing_is_scheduled, send_count-le, round_count-le}
use Rattle.qh_link.proofs.Due.{flights_given, flights_dry, flights_round, flights_fault, through_same, through_sent}
use Rattle.qh_link.proofs.Late.{late_sent, remaining_is, arriving_is, postponed}

given_none : (es : List Event) (x : Event) (s : Side) → given_to s (x ∷ []) ≡ [] → given_to s (es ++ x ∷ []) ≡ given_to s es
given_none es x s e = given_to-append s es (x ∷ []) ∙ ap (λ (z : List (List ℕ)). given_to s es ++ z) e ∙ append-nil (given_to s es)

round_none : (es : List Event) (x : Event) → round_count (x ∷ []) ≡ 0 → round_count (es ++ x ∷ []) ≡ round_count es
round_none es x e = let h = round_count-append es (x ∷ []) in omega arith

send_none : (es : List Event) (x : Event) → send_count (x ∷ []) ≡ 0 → send_count (es ++ x ∷ []) ≡ send_count es
send_none es x e = let h = send_count-append es (x ∷ []) in omega arith

send_one : (es : List Event) (x : Event) → send_count (x ∷ []) ≡ 1 → send_count (es ++ x ∷ []) ≡ send_count es + 1
send_one es x e = let h = send_count-append es (x ∷ []) in omega arith

-- an event that puts nothing on its way, takes nothing and begins no round
way_stays : (u : List Upset) (es fs : List Event) (s : Side) (ready : List (List ℕ)) (later : List Postponed) → given_to s fs ≡ given_to s es → round_count fs ≡ round_count es → flights u fs ≡ flights u es → IsWay u es s ready later → IsWay u fs s ready later
way_stays u es fs s ready later g r f w =
    record {
      ready_is =
          ap (λ (z : List (List ℕ)). z ++ ready) g
          ∙ w.ready_is
          ∙ sym (through_same u es fs (round_count es) s f)
          ∙ ap (λ (k : ℕ). due_through u fs k s) (sym r);
      later_is =
          w.later_is
          ∙ ap (λ (z : List Flight). late_after (round_count es) s z) (sym f)
          ∙ ap (λ (k : ℕ). late_after k s (flights u fs)) (sym r);
    }

pub kept_fault : {step : ℕ} {u : List Upset} {es : List Event} {r n : ℕ} {w : Ways} → IsKept step u es r n w → is_failing u (send_count es + 1) ≡ true → IsKept step u (es ++ Fault ∷ []) r (n + 1) w
kept_fault {step} {u} {es} {r} {n} {w} k e =
    record {
      short_step = k.short_step;
      entries = k.entries;
      scheduled = scheduled_more step u es Fault k.scheduled e;
      round_is = k.round_is ∙ sym (round_none es Fault refl);
      sends_is = ap (λ (z : ℕ). z + 1) k.sends_is ∙ sym (send_one es Fault refl);
      ways_are = λ s. way_stays u es (es ++ Fault ∷ []) s (ready_to w s) (later_to w s) (given_none es Fault s refl) (round_none es Fault refl) (flights_fault u es) (k.ways_are s);
    }

-- what is next for a side is the first that is ready
slice_get-append : {X : Type 0} (xs ys : List X) → slice_get (xs ++ ys) (length xs) ≡ slice_get ys 0
slice_get-append [] ys = refl
slice_get-append (x ∷ xs) ys = slice_get-append xs ys

pub next_is : (u : List Upset) (es : List Event) (s : Side) (ready : List (List ℕ)) (later : List Postponed) → IsWay u es s ready later → next_for u es s ≡ slice_get ready 0
next_is u es s ready later w =
    ap (λ (z : List (List ℕ)). slice_get z (length (given_to s es))) (sym w.ready_is) ∙ slice_get-append (given_to s es) ready

-- the same ways as lists, in another value
way_moved : (u : List Upset) (es : List Event) (s : Side) (ready ready' : List (List ℕ)) (later later' : List Postponed) → ready' ≡ ready → later' ≡ later → IsWay u es s ready later → IsWay u es s ready' later'
way_moved u es s ready ready' later later' p q w = record { ready_is = ap (λ (z : List (List ℕ)). given_to s es ++ z) p ∙ w.ready_is; later_is = q ∙ w.later_is }

no_front : (s to : Side) (ready now : List (List ℕ)) → ready ≡ if_same_side s to [] [] ++ now → now ≡ ready
no_front Client Client ready now e = sym e
no_front Client Server ready now e = sym e
no_front Server Client ready now e = sym e
no_front Server Server ready now e = sym e

pub kept_dry : {step : ℕ} {u : List Upset} {es : List Event} {r n : ℕ} {w v : Ways} → IsKept step u es r n w → (to : Side) → ready_to w to ≡ [] → ((s : Side) → ready_to w s ≡ if_same_side s to [] [] ++ ready_to v s) → ((s : Side) → later_to v s ≡ later_to w s) → IsKept step u (es ++ Dry to ∷ []) r n v
kept_dry {step} {u} {es} {r} {n} {w} {v} k to e p q =
    record {
      short_step = k.short_step;
      entries = k.entries;
      scheduled = scheduled_more step u es (Dry to) k.scheduled (next_is u es to (ready_to w to) (later_to w to) (k.ways_are to) ∙ ap (λ (z : List (List ℕ)). slice_get z 0) e);
      round_is = k.round_is ∙ sym (round_none es (Dry to) refl);
      sends_is = k.sends_is ∙ sym (send_none es (Dry to) refl);
      ways_are = λ s. way_stays u es (es ++ Dry to ∷ []) s (ready_to v s) (later_to v s) (given_none es (Dry to) s refl) (round_none es (Dry to) refl) (flights_dry u es to)
          (way_moved u es s (ready_to w s) (ready_to v s) (later_to w s) (later_to v s) (no_front s to (ready_to w s) (ready_to v s) (p s)) (q s) (k.ways_are s));
    }

given_one : (s t : Side) (d : List ℕ) → given_to s (Given t d ∷ []) ≡ if_same_side s t (d ∷ []) []
given_one Client Client d = refl
given_one Client Server d = refl
given_one Server Client d = refl
given_one Server Server d = refl

same_front : (s : Side) (d : List ℕ) (now : List (List ℕ)) → if_same_side s s (d ∷ []) [] ++ now ≡ d ∷ now
same_front Client d now = refl
same_front Server d now = refl

way_given : (u : List Upset) (es : List Event) (s to : Side) (d : List ℕ) (ready now : List (List ℕ)) (later : List Postponed) → ready ≡ if_same_side s to (d ∷ []) [] ++ now → IsWay u es s ready later → IsWay u (es ++ Given to d ∷ []) s now later
way_given u es s to d ready now later e w =
    let x = Given to d in
    let g = given_to-append s es (x ∷ []) ∙ ap (λ (z : List (List ℕ)). given_to s es ++ z) (given_one s to d) in
    let r = round_none es x refl in
    let f = flights_given u es to d in
    record {
      ready_is =
          ap (λ (z : List (List ℕ)). z ++ now) g
          ∙ append_assoc (given_to s es) (if_same_side s to (d ∷ []) []) now
          ∙ ap (λ (z : List (List ℕ)). given_to s es ++ z) (sym e)
          ∙ w.ready_is
          ∙ sym (through_same u es (es ++ x ∷ []) (round_count es) s f)
          ∙ ap (λ (k : ℕ). due_through u (es ++ x ∷ []) k s) (sym r);
      later_is =
          w.later_is
          ∙ ap (λ (z : List Flight). late_after (round_count es) s z) (sym f)
          ∙ ap (λ (k : ℕ). late_after k s (flights u (es ++ x ∷ []))) (sym r);
    }

-- what was taken is what is next
pub next_taken : {step : ℕ} {u : List Upset} {es : List Event} {r n : ℕ} {w : Ways} → IsKept step u es r n w → (to : Side) (d : List ℕ) (now : List (List ℕ)) → ready_to w to ≡ if_same_side to to (d ∷ []) [] ++ now → next_for u es to ≡ Some d
next_taken {step} {u} {es} {r} {n} {w} k to d now e =
    next_is u es to (ready_to w to) (later_to w to) (k.ways_are to) ∙ ap (λ (z : List (List ℕ)). slice_get z 0) (e ∙ same_front to d now)

pub next_none : {step : ℕ} {u : List Upset} {es : List Event} {r n : ℕ} {w : Ways} → IsKept step u es r n w → (to : Side) → ready_to w to ≡ [] → next_for u es to ≡ None
next_none {step} {u} {es} {r} {n} {w} k to e =
    next_is u es to (ready_to w to) (later_to w to) (k.ways_are to) ∙ ap (λ (z : List (List ℕ)). slice_get z 0) e

pub kept_given : {step : ℕ} {u : List Upset} {es : List Event} {r n : ℕ} {w v : Ways} → IsKept step u es r n w → (to : Side) (d : List ℕ) → ((s : Side) → ready_to w s ≡ if_same_side s to (d ∷ []) [] ++ ready_to v s) → ((s : Side) → later_to v s ≡ later_to w s) → IsKept step u (es ++ Given to d ∷ []) r n v
kept_given {step} {u} {es} {r} {n} {w} {v} k to d p q =
    record {
      short_step = k.short_step;
      entries = k.entries;
      scheduled = scheduled_more step u es (Given to d) k.scheduled (next_taken k to d (ready_to v to) (p to));
      round_is = k.round_is ∙ sym (round_none es (Given to d) refl);
      sends_is = k.sends_is ∙ sym (send_none es (Given to d) refl);
      ways_are = λ s. way_given u es s to d (ready_to w s) (ready_to v s) (later_to v s) (p s) (way_moved u es s (ready_to w s) (ready_to w s) (later_to w s) (later_to v s) refl (q s) (k.ways_are s));
    }

way_sent : (u : List Upset) (es : List Event) (s from : Side) (d : List ℕ) (ready : List (List ℕ)) (later now : List Postponed) → now ≡ later ++ if_same_side s (other from) (repeated (cond (ltb 2048 (length d)) 0 (copies_of u (send_count es + 1))) (postponed (round_count es + 1 + delay_of u (send_count es + 1)) d)) [] → IsWay u es s ready later → IsWay u (es ++ Sent from d ∷ []) s ready now
way_sent u es s from d ready later now e w =
    let x = Sent from d in
    let r = round_none es x refl in
    record {
      ready_is =
          ap (λ (z : List (List ℕ)). z ++ ready) (given_none es x s refl)
          ∙ w.ready_is
          ∙ sym (through_sent u es from s d)
          ∙ ap (λ (k : ℕ). due_through u (es ++ x ∷ []) k s) (sym r);
      later_is =
          e
          ∙ ap (λ (z : List Postponed). z ++ if_same_side s (other from) (repeated (cond (ltb 2048 (length d)) 0 (copies_of u (send_count es + 1))) (postponed (round_count es + 1 + delay_of u (send_count es + 1)) d)) []) w.later_is
          ∙ sym (late_sent u es from s d)
          ∙ ap (λ (k : ℕ). late_after k s (flights u (es ++ x ∷ []))) (sym r);
    }

pub kept_sent : {step : ℕ} {u : List Upset} {es : List Event} {r n : ℕ} {w v : Ways} → IsKept step u es r n w → (from : Side) (d : List ℕ) (copies round : ℕ) → is_failing u (send_count es + 1) ≡ false → copies ≡ cond (ltb 2048 (length d)) 0 (copies_of u (n + 1)) → round ≡ r + 1 + delay_of u (n + 1) → ((s : Side) → ready_to v s ≡ ready_to w s) → ((s : Side) → later_to v s ≡ later_to w s ++ if_same_side s (other from) (repeated copies (postponed round d)) []) → IsKept step u (es ++ Sent from d ∷ []) r (n + 1) v
kept_sent {step} {u} {es} {r} {n} {w} {v} k from d copies round e ec er p q =
    let x = Sent from d in
    let n1 : n + 1 ≡ send_count es + 1 = ap (λ (z : ℕ). z + 1) k.sends_is in
    let c : copies ≡ cond (ltb 2048 (length d)) 0 (copies_of u (send_count es + 1)) = ec ∙ ap (λ (z : ℕ). cond (ltb 2048 (length d)) 0 (copies_of u z)) n1 in
    let t : round ≡ round_count es + 1 + delay_of u (send_count es + 1) = er ∙ ap (λ (z : ℕ). z + 1 + delay_of u (n + 1)) k.round_is ∙ ap (λ (z : ℕ). round_count es + 1 + delay_of u z) n1 in
    record {
      short_step = k.short_step;
      entries = k.entries;
      scheduled = scheduled_more step u es x k.scheduled e;
      round_is = k.round_is ∙ sym (round_none es x refl);
      sends_is = n1 ∙ sym (send_one es x refl);
      ways_are = λ s. way_sent u es s from d (ready_to v s) (later_to w s) (later_to v s)
          (q s
          ∙ ap (λ (z : ℕ). later_to w s ++ if_same_side s (other from) (repeated z (postponed round d)) []) c
          ∙ ap (λ (z : ℕ). later_to w s ++ if_same_side s (other from) (repeated (cond (ltb 2048 (length d)) 0 (copies_of u (send_count es + 1))) (postponed z d)) []) t)
          (way_moved u es s (ready_to w s) (ready_to v s) (later_to w s) (later_to w s) (p s) refl (k.ways_are s));
    }

round_one : (es : List Event) (m : ℕ) → round_count (es ++ Round m ∷ []) ≡ round_count es + 1
round_one es m = round_count-append es (Round m ∷ [])

through_next : (u : List Upset) (es : List Event) (r : ℕ) (s : Side) → due_through u es (r + 1) s ≡ due_through u es r s ++ due_in u es (r + 1) s
through_next u es r s = rw add-one refl

way_round : (u : List Upset) (es : List Event) (s : Side) (m : ℕ) (ready now : List (List ℕ)) (later left : List Postponed) → now ≡ ready ++ (arriving (round_count es + 1) later ++ forged u (round_count es + 1) s) → left ≡ remaining (round_count es + 1) later → IsWay u es s ready later → IsWay u (es ++ Round m ∷ []) s now left
way_round u es s m ready now later left e l w =
    let x = Round m in
    let f = flights_round u es m in
    let r = round_one es m in
    let due = ap (arriving (round_count es + 1)) w.later_is ∙ arriving_is (round_count es) s (flights u es) in
    record {
      ready_is =
          ap (λ (z : List (List ℕ)). z ++ now) (given_none es x s refl)
          ∙ ap (λ (z : List (List ℕ)). given_to s es ++ z) e
          ∙ sym (append_assoc (given_to s es) ready (arriving (round_count es + 1) later ++ forged u (round_count es + 1) s))
          ∙ ap (λ (z : List (List ℕ)). z ++ (arriving (round_count es + 1) later ++ forged u (round_count es + 1) s)) w.ready_is
          ∙ ap (λ (z : List (List ℕ)). due_through u es (round_count es) s ++ (z ++ forged u (round_count es + 1) s)) due
          ∙ sym (through_next u es (round_count es) s)
          ∙ sym (through_same u es (es ++ x ∷ []) (round_count es + 1) s f)
          ∙ ap (λ (k : ℕ). due_through u (es ++ x ∷ []) k s) (sym r);
      later_is =
          l
          ∙ ap (remaining (round_count es + 1)) w.later_is
          ∙ remaining_is (round_count es) s (flights u es)
          ∙ ap (λ (z : List Flight). late_after (round_count es + 1) s z) (sym f)
          ∙ ap (λ (k : ℕ). late_after k s (flights u (es ++ x ∷ []))) (sym r);
    }

pub kept_round : {step : ℕ} {u : List Upset} {es : List Event} {r n : ℕ} {w v : Ways} → IsKept step u es r n w → (m : ℕ) → m ≡ moment_of step (r + 1) → ((s : Side) → ready_to v s ≡ ready_to w s ++ (arriving (r + 1) (later_to w s) ++ forged u (r + 1) s)) → ((s : Side) → later_to v s ≡ remaining (r + 1) (later_to w s)) → IsKept step u (es ++ Round m ∷ []) (r + 1) n v
kept_round {step} {u} {es} {r} {n} {w} {v} k m e p q =
    let x = Round m in
    let r1 : r + 1 ≡ round_count es + 1 = ap (λ (z : ℕ). z + 1) k.round_is in
    record {
      short_step = k.short_step;
      entries = k.entries;
      scheduled = scheduled_more step u es x k.scheduled (e ∙ ap (λ (z : ℕ). moment_of step z) r1);
      round_is = r1 ∙ sym (round_one es m);
      sends_is = k.sends_is ∙ sym (send_none es x refl);
      ways_are = λ s. way_round u es s m (ready_to w s) (ready_to v s) (later_to w s) (later_to v s)
          (p s ∙ ap (λ (z : ℕ). ready_to w s ++ (arriving z (later_to w s) ++ forged u z s)) r1)
          (q s ∙ ap (λ (z : ℕ). remaining z (later_to w s)) r1)
          (k.ways_are s);
    }

kept_unused : {step : ℕ} {u : List Upset} {r n : ℕ} {w : Ways} → (x : Upset) → IsUpset x → IsKept step u [] r n w → IsKept step (u ++ x ∷ []) [] r n w
kept_unused {step} {u} {r} {n} {w} x h k =
    record {
      short_step = k.short_step;
      entries = All-push IsUpset u x k.entries h;
      scheduled = nothing_is_scheduled step (u ++ x ∷ []);
      round_is = k.round_is;
      sends_is = k.sends_is;
      ways_are = λ s. record { ready_is = (k.ways_are s).ready_is; later_is = (k.ways_are s).later_is };
    }

-- before anything happened, the schedule may grow
pub kept_upset : {step : ℕ} {u : List Upset} {es : List Event} {r n : ℕ} {w : Ways} → IsKept step u es r n w → es ≡ [] → (x : Upset) → IsUpset x → IsKept step (u ++ x ∷ []) es r n w
kept_upset {step} {u} {es} {r} {n} {w} k e x h =
    subst (λ (z : List Event). IsKept step (u ++ x ∷ []) z r n w) (sym e)
    (kept_unused x h (subst (λ (z : List Event). IsKept step u z r n w) e k))

pub kept_new : (step : ℕ) (w : Ways) → step ≤ 10000 → ((s : Side) → ready_to w s ≡ []) → ((s : Side) → later_to w s ≡ []) → IsKept step [] [] 0 0 w
kept_new step w l p q =
    record {
      short_step = l;
      entries = λ k d h. absurd (omega arith);
      scheduled = nothing_is_scheduled step [];
      round_is = refl;
      sends_is = refl;
      ways_are = λ s. record { ready_is = p s; later_is = q s };
    }

-- the counts stay below the length of the list of events
pub sends_below : {step : ℕ} {u : List Upset} {es : List Event} {r n : ℕ} {w : Ways} → IsKept step u es r n w → n ≤ length es
sends_below {step} {u} {es} {r} {n} {w} k = let h = send_count-le es in let e : n ≡ send_count es = k.sends_is in omega arith

pub rounds_below : {step : ℕ} {u : List Upset} {es : List Event} {r n : ℕ} {w : Ways} → IsKept step u es r n w → r ≤ length es
rounds_below {step} {u} {es} {r} {n} {w} k = let h = round_count-le es in let e : r ≡ round_count es = k.round_is in omega arith

-- a count that saturates
pub counts_one : (old now : ℕ) → old < 2 ^ 64 → now ≡ min (2 ^ 64 - 1) (old + 1) → CountsFaults old now true
counts_one old now l e =
    record {
      stays = omega arith;
      cause = λ h. elim (cases_lt (old + 1) (2 ^ 64)) as (λ z. (old < now) ⊎ (now ≡ 2 ^ 64 - 1)) [ inl a ↦ inl (omega arith) | inr b ↦ inr (omega arith) ];
      still = λ h. absurd (let both : true ≡ false = h in cc);
    }
