-- A call that waits has a waker.
use Rattle.std.proofs.Common.{◌≡◌, ◌⊎◌, ℕ, zero, suc, ◌<◌, Bool, true, List, [], ◌∷◌, ◌++◌, length, slice_set, Option, None, Some, refl, sym, ap, subst, ◌∙◌, inl, inr, arith}
use Rattle.std.specs.Arc.{arc_value}
use Rattle.std.specs.Prelude.{IsSomeAnd, slice_get}
use Rattle.futures.specs.Task.{Holds, Keeps, Lasting, Wakes}
use Rattle.futures.specs.declared.task.context.Context.{Context}
use Rattle.futures.specs.declared.task.waker.Waker.{Waker}
use Rattle.qh_book.specs.Interests.{is_same}
use Rattle.qh_book.specs.declared.interest.Interest.{Interest}
use Rattle.qh_quinn.specs.Waiting.{HasWaker, HearsDriver, IsHeard, interests_in}
use Rattle.qh_quinn.specs.declared.waiting.Waiting.{Waiting}

get_set : (ws : List Waiting) (at : ℕ) (w : Waiting) → at < length ws → slice_get (slice_set ws at w) at ≡ Some w
get_set [] at w bound = absurd (omega (arith, bound))
get_set (v ∷ ws) zero w bound = refl
get_set (v ∷ ws) (suc at) w bound = get_set ws at w (omega (arith, bound))

-- the waker that a registration left stands at its place
pub armed_heard : (ws : List Waiting) (at : ℕ) (w : Waiting) (cx : Context) (lacks : Bool) → at < length ws → (lacks ≡ true) ⊎ IsSomeAnd w.waker (λ k. Wakes k cx)
    → (lacks ≡ true) ⊎ IsSomeAnd (slice_get (slice_set ws at w) at) (λ v. IsSomeAnd v.waker (λ k. Wakes k cx))
armed_heard ws at w cx lacks bound (inl none) = inl none
armed_heard ws at w cx lacks bound (inr some) = inr (rw (get_set ws at w bound) some)

-- of the two lists of calls the second has the waker, and the first the call
found_both : (old new : List Waiting) (at : ℕ) (i : Interest) (cx : Context) → interests_in new ≡ interests_in old → IsSomeAnd (slice_get old at) (λ w. is_same w.interest i ≡ true)
    → IsSomeAnd (slice_get new at) (λ w. IsSomeAnd w.waker (λ k. Wakes k cx)) → (w : Waiting) × (slice_get new at ≡ Some w) × (is_same w.interest i ≡ true) × IsSomeAnd w.waker (λ k. Wakes k cx)
found_both [] new at i cx same is has = absurd is
found_both (v ∷ old) [] at i cx same is has = absurd has
found_both (v ∷ old) (w ∷ new) zero i cx same is has = (w, refl, subst (λ (j : Interest). is_same j i ≡ true) (sym (first_of same)) is, has)
  where
    first_of : w.interest ∷ interests_in new ≡ v.interest ∷ interests_in old → w.interest ≡ v.interest
    first_of e = cc
found_both (v ∷ old) (w ∷ new) (suc at) i cx same is has = found_both old new at i cx (rest_of same) is has
  where
    rest_of : w.interest ∷ interests_in new ≡ v.interest ∷ interests_in old → interests_in new ≡ interests_in old
    rest_of e = cc

held_by : (ws : List Waiting) (at : ℕ) (i : Interest) (cx : Context) (w : Waiting) → slice_get ws at ≡ Some w → is_same w.interest i ≡ true → (o : Option Waker) → w.waker ≡ o → IsSomeAnd o (λ k. Wakes k cx) → HasWaker i cx ws
held_by ws at i cx w there same None has some = absurd some
held_by ws at i cx w there same (Some k) has some = record { place = at; entry = w; there = there; same = same; waker = k; has = has; wakes = some }

pub heard_at : (old new : List Waiting) (at : ℕ) (i : Interest) (before after : Context) → interests_in new ≡ interests_in old → IsSomeAnd (slice_get old at) (λ w. is_same w.interest i ≡ true)
    → (after.lacks_waker ≡ true) ⊎ IsSomeAnd (slice_get new at) (λ w. IsSomeAnd w.waker (λ k. Wakes k before)) → IsHeard i before after new
heard_at old new at i before after same is (inl none) = inl none
heard_at old new at i before after same is (inr has) = let f = found_both old new at i before same is has in inr (held_by new at i before f.0 f.1 f.2 f.0.waker refl f.3)

-- the last of a list
pub last_is : (ws : List Waiting) (w : Waiting) (i : Interest) → is_same w.interest i ≡ true → IsSomeAnd (slice_get (ws ++ w ∷ []) (length ws)) (λ v. is_same v.interest i ≡ true)
last_is [] w i same = same
last_is (v ∷ ws) w i same = last_is ws w i same

-- a waker of the task is of the task as it was polled first
still_wakes : (old mid : Context) → Keeps old mid → (k : Waker) → Wakes k mid → Wakes k old
unfolding Holds
still_wakes old mid keeps k wakes =
    let same = keeps (Lasting.same_task old) refl in
    (wakes.0 ∙ sym (ap (λ (cx : Context). cx.turn.task) same), wakes.1 ∙ sym (ap (λ (cx : Context). (arc_value cx.route.now).origin) same))

pub hears_still : (driver : Option Waker) (old mid new : Context) → Keeps old mid → HearsDriver driver mid new → HearsDriver driver old new
hears_still driver old mid new keeps (inl none) = inl none
hears_still None old mid new keeps (inr has) = absurd has
hears_still (Some k) old mid new keeps (inr has) = inr (still_wakes old mid keeps k has)
