-- Runs of calls in a history that grows.
use Rattle.std.proofs.Common.{◌≡◌, ℕ, suc, ◌+◌, ◌<◌, ◌≤◌, List, [], ◌∷◌, ◌++◌, length, refl, sym, ap, ◌∙◌, subst, arith, append_assoc, append-nil, length-append}
use Rattle.qh_lock.specs.Places.{StartsWith, AreBelow, AreAbove, IsAscending, times, once_below}
use Rattle.qh_lock.specs.Seats.{Seated, without_half, other_half}
use Rattle.qh_lock.proofs.Counts.{starts_length, times_append}
use Rattle.qh_lock.proofs.Orders.{below_seen, below_append}
use Rattle.lock_rows.specs.declared.added.Added.{Added}
use Rattle.lock_rows.specs.Replays.{added}
use Rattle.lock_rows.specs.Calls.{EndsWith, IsCallAt, AreCallsAt, AreFrom, IsRun, Ran, BothRan, HasBoth}

pub starts_more : (k h s : List Added) → StartsWith k h → StartsWith h s → StartsWith k s
starts_more k h s a b = (b.0 ++ a.0, a.1 ∙ (ap (λ (l : List Added). l ++ a.0) b.1 ∙ append_assoc s b.0 a.0))

call_more : (log more : List Added) (p thread number : ℕ) → StartsWith more log → IsCallAt log p thread number → IsCallAt more p thread number
call_more log more p thread number s c = (c.0, c.1, c.2 ++ s.0, c.3, s.1 ∙ (ap (λ (l : List Added). l ++ s.0) c.4 ∙ append_assoc (c.0 ++ added thread number c.1 ∷ []) c.2 s.0))

calls_more : (log more : List Added) (ps : List ℕ) (thread number : ℕ) → StartsWith more log → AreCallsAt log ps thread number → AreCallsAt more ps thread number
calls_more log more [] thread number s c = tt
calls_more log more (p ∷ ps) thread number s c = (call_more log more p thread number s c.0, calls_more log more ps thread (suc number) s c.1)

calls_append : (log : List Added) (ps qs : List ℕ) (thread from to : ℕ) → from + length ps ≡ to → AreCallsAt log ps thread from → AreCallsAt log qs thread to → AreCallsAt log (ps ++ qs) thread from
calls_append log [] qs thread from to e c d = subst (AreCallsAt log qs thread) (let n : to ≡ from = omega arith in n) d
calls_append log (p ∷ ps) qs thread from to e c d = (c.0, calls_append log ps qs thread (suc from) to (omega arith) c.1 d)

from_append : (k : ℕ) (xs ys : List ℕ) → AreFrom k xs → AreFrom k ys → AreFrom k (xs ++ ys)
from_append k [] ys p q = q
from_append k (x ∷ xs) ys p q = (p.0, from_append k xs ys p.1 q)

from_less : (j k : ℕ) (xs : List ℕ) → j ≤ k → AreFrom k xs → AreFrom j xs
from_less j k [] le p = tt
from_less j k (x ∷ xs) le p = (omega (arith, p.0), from_less j k xs le p.1)

above_append : (x k : ℕ) (xs ys : List ℕ) → AreAbove x xs → x < k → AreFrom k ys → AreAbove x (xs ++ ys)
above_append x k [] [] p l q = tt
above_append x k [] (y ∷ ys) p l q = (omega (arith, q.0), above_append x k [] ys tt l q.1)
above_append x k (z ∷ zs) ys p l q = (p.0, above_append x k zs ys p.1 l q)

ascends_append : (k : ℕ) (xs ys : List ℕ) → AreBelow k xs → AreFrom k ys → IsAscending xs → IsAscending ys → IsAscending (xs ++ ys)
ascends_append k [] ys b f p q = q
ascends_append k (x ∷ xs) ys b f p q = (above_append x k xs ys p.0 b.0 f, ascends_append k xs ys b.1 f p.1 q)

run_more : (log more : List Added) (first thread from to : ℕ) (ps : List ℕ) → StartsWith more log → IsRun log first thread from to ps → IsRun more first thread from to ps
run_more log more first thread from to ps s r = record { later = r.later; below = below_seen more log ps s r.below; up = r.up; calls = calls_more log more ps thread from s r.calls; count = r.count }

-- two runs of a thread, of which the second came when the history had at least the first
run_append : (log more : List Added) (first thread from middle to : ℕ) (ps qs : List ℕ) → first ≤ length log → StartsWith more log → IsRun log first thread from middle ps → IsRun more (length log) thread middle to qs
    → IsRun more first thread from to (ps ++ qs)
run_append log more first thread from middle to ps qs le s p q =
    let p' = run_more log more first thread from middle ps s p in record {
      later = from_append first ps qs p.later (from_less first (length log) qs le q.later);
      below = below_append (length more) ps qs p'.below q.below;
      up = ascends_append (length log) ps qs p.below q.later p.up q.up;
      calls = calls_append more ps qs thread from middle p.count p'.calls q.calls;
      count = (let a = p.count in let b = q.count in omega (arith, length-append ps qs));
    }

-- one call is a run
run_one : (before : List Added) (thread number reply : ℕ) → IsRun (before ++ added thread number reply ∷ []) (length before) thread number (number + 1) (length before ∷ [])
run_one before thread number reply = record {
  later = (omega arith, tt);
  below = (omega (arith, length-append before (added thread number reply ∷ [])), tt);
  up = (tt, tt);
  calls = ((before, reply, [], refl, sym (append-nil (before ++ added thread number reply ∷ []))), tt);
  count = omega arith;
}

pub ran_none : (s : Seated Added) (thread from : ℕ) → Ran s s thread from from
ran_none s thread from = ([], ([], sym (append-nil s.seen)), sym (append-nil s.own), record { later = tt; below = tt; up = tt; calls = tt; count = omega arith })

pub ran_more : (s t u : Seated Added) (thread from to reply : ℕ) → Ran s t thread from to → EndsWith t u (added thread to reply) → Ran s u thread from (to + 1)
ran_more s t u thread from to reply r e =
    let before = e.0 in
    let front : StartsWith before s.seen = starts_more before t.seen s.seen e.1 r.1 in
    let grown : StartsWith u.seen before = (added thread to reply ∷ [], e.2) in
    let one = subst (λ (log : List Added). IsRun log (length before) thread to (to + 1) (length before ∷ [])) (sym e.2) (run_one before thread to reply) in
    let mine = run_more t.seen before (length s.seen) thread from to r.0 e.1 r.3 in (
      r.0 ++ length before ∷ [],
      starts_more u.seen before s.seen grown front,
      e.3 ∙ (ap (λ (l : List ℕ). l ++ length before ∷ []) r.2 ∙ append_assoc s.own r.0 (length before ∷ [])),
      run_append before u.seen (length s.seen) thread from to (to + 1) r.0 (length before ∷ []) (starts_length before s.seen front) grown mine one,
    )

pub both_ran : (s t t' u : Seated Added) (from to : ℕ) → Ran (without_half s) t 1 from to → Ran (other_half s) t' 2 from to → StartsWith u.seen t.seen → StartsWith u.seen t'.seen → u.own ≡ t.own ++ t'.own → BothRan s u from to
both_ran s t t' u from to a b p q own = (
  a.0,
  b.0,
  starts_more u.seen t.seen s.seen p a.1,
  own ∙ (λ i. a.2 i ++ b.2 i),
  run_more t.seen u.seen (length s.seen) 1 from to a.0 p a.3,
  run_more t'.seen u.seen (length s.seen) 2 from to b.0 q b.3,
)

-- after two rounds from an empty history, where each place is one of the seat's own
pub has_both : (s t u : Seated Added) (middle end : ℕ) → s.seen ≡ [] → s.own ≡ [] → BothRan s t 0 middle → BothRan t u middle end → ((n : ℕ) → times n u.own ≡ once_below n (length u.seen)) → HasBoth u.seen end
has_both s t u middle end none none_own a b each =
    let low : length s.seen ≡ 0 = ap length none in
    let own : u.own ≡ (((([] ++ a.0) ++ a.1) ++ b.0) ++ b.1) = b.3 ∙ ap (λ (l : List ℕ). (l ++ b.0) ++ b.1) (a.3 ∙ ap (λ (l : List ℕ). (l ++ a.0) ++ a.1) none_own) in
    let one = run_append t.seen u.seen (length s.seen) 1 0 middle end a.0 b.0 (omega arith) b.2 a.4 b.4 in
    let two = run_append t.seen u.seen (length s.seen) 2 0 middle end a.1 b.1 (omega arith) b.2 a.5 b.5 in (
      a.0 ++ b.0,
      a.1 ++ b.1,
      subst (λ (k : ℕ). IsRun u.seen k 1 0 end (a.0 ++ b.0)) low one,
      subst (λ (k : ℕ). IsRun u.seen k 2 0 end (a.1 ++ b.1)) low two,
      λ n.
          let w = each n in
          let o : times n u.own ≡ times n ((((([] ++ a.0) ++ a.1) ++ b.0) ++ b.1)) = ap (times n) own in
          omega (arith, times_append n ((a.0 ++ a.1) ++ b.0) b.1, times_append n (a.0 ++ a.1) b.0, times_append n a.0 a.1, times_append n a.0 b.0, times_append n a.1 b.1),
    )
