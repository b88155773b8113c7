-- The ids of a peer that announces few, none of which is to be retired: a new one is added, and there are never more than eight.
use Rattle.std.proofs.Common.{◌≡◌, ◌≢◌, ℕ, ◌+◌, ◌-◌, ◌<◌, ◌≤◌, ◌==◌, nat_lt, nat_le, cond, not, max, true, false, Bool, List, [], ◌∷◌, ◌++◌, length, filter, map, All, refl, sym, ap, ◌∙◌, subst, arith}
use Rattle.std.specs.Prelude.{◌&&◌}
use Rattle.std.proofs.lemmas.Bool.{both_ways, cond_both, eqb-false, le-leb, le-ltb, or_parts}
use Rattle.std.proofs.lemmas.List.Elements.{All-head, All-tail, All-weaker}
use Rattle.qh_cids.proofs.Queues.{All-not_found, All-with_cid, IsRising-with_cid, length-with_cid}
use Rattle.qh_cids.specs.CidQueue.{Handled, IsRising, PlainCids, added, gone, handled, handled_to, has_sequence, held, is_late, is_repeated, limit, raised, settled, succeeded, with_cid}
use Rattle.qh_cids.specs.declared.cid_queue.RemoteCid.{RemoteCid}
use Rattle.qh_peers.specs.Ids.{AreFewIds, IsFewId}

-- ---- how many there are

-- as many rising sequences as there are numbers between two bounds, at most
rising_few : (low high : ℕ) (cids : List RemoteCid) → IsRising cids → All (λ (cid : RemoteCid). low ≤ cid.sequence) cids → All (λ (cid : RemoteCid). cid.sequence < high) cids → length cids ≤ high - low
rising_few low high [] rising above below = omega arith
rising_few low high (cid ∷ cids) rising above below =
    let first : low ≤ cid.sequence = All-head (λ (c : RemoteCid). low ≤ c.sequence) cid cids above in
    let under : cid.sequence < high = All-head (λ (c : RemoteCid). c.sequence < high) cid cids below in
    let later = rising_few (cid.sequence + 1) high cids rising.1
    (All-weaker (λ (c : RemoteCid). cid.sequence < c.sequence) (λ (c : RemoteCid). cid.sequence + 1 ≤ c.sequence) (λ c less. omega (arith, less)) cids rising.0)
    (All-tail (λ (c : RemoteCid). c.sequence < high) cid cids below) in
    omega (arith, first, under, later)

pub few_held : (q : PlainCids) → AreFewIds q → held q ≤ limit
few_held q few =
    let all = with_cid q.active q.waiting in
    let below = All-with_cid (λ (c : RemoteCid). c.sequence < 8) q.active q.waiting few.active.below (All-weaker IsFewId (λ (c : RemoteCid). c.sequence < 8) (λ c is. is.below) q.waiting few.waiting) in
    let most = rising_few 0 8 all (IsRising-with_cid q.active q.waiting few.others few.rising)
    (All-weaker (λ (c : RemoteCid). c.sequence < 8) (λ (c : RemoteCid). 0 ≤ c.sequence) (λ c is. omega arith) all below) below in
    omega (arith, most, length-with_cid q.active q.waiting)

-- ---- none is to be retired

none_below : (cids : List RemoteCid) → map (λ (cid : RemoteCid). cid.sequence) (filter (λ (cid : RemoteCid). nat_lt cid.sequence 0) cids) ≡ []
none_below [] = refl
none_below (cid ∷ cids) =
    ap (λ (b : Bool). map (λ (c : RemoteCid). c.sequence) (cond b (cid ∷ filter (λ (c : RemoteCid). nat_lt c.sequence 0) cids) (filter (λ (c : RemoteCid). nat_lt c.sequence 0) cids))) (le-ltb cid.sequence 0 (omega arith))
    ∙ none_below cids

all_above : (cids : List RemoteCid) → filter (λ (cid : RemoteCid). nat_le 0 cid.sequence) cids ≡ cids
all_above [] = refl
all_above (cid ∷ cids) =
    ap (λ (b : Bool). cond b (cid ∷ filter (λ (c : RemoteCid). nat_le 0 c.sequence) cids) (filter (λ (c : RemoteCid). nat_le 0 c.sequence) cids)) (le-leb 0 cid.sequence (omega arith))
    ∙ ap (λ (cs : List RemoteCid). cid ∷ cs) (all_above cids)

raised_none : (q : PlainCids) → q.retire_prior_to ≡ 0 → raised 0 q ≡ q
raised_none q none =
    ap (λ (cs : List RemoteCid). record { active = q.active; waiting = cs; retire_prior_to = 0 }) (all_above q.waiting)
    ∙ ap (λ (n : ℕ). record { active = q.active; waiting = q.waiting; retire_prior_to = n }) (sym none)

-- the ids, and what is to be retired, if the one in use stays
abbrev stays : PlainCids → List ℕ → Handled
stays q retired = record { cids = q; retired = retired; has_new_active = false }

settled_none : (q : PlainCids) (retired : List ℕ) → q.retire_prior_to ≡ 0 → settled q retired ≡ stays q retired
settled_none q retired none =
    ap (λ (b : Bool). cond b (succeeded q q.waiting retired) (stays q retired)) (le-ltb q.active.sequence q.retire_prior_to (omega (arith, none)))

not_late : (cid : RemoteCid) (q : PlainCids) → q.retire_prior_to ≡ 0 → is_late cid q ≡ false
not_late cid q none = ap (λ (b : Bool). b && not (cid.sequence == q.active.sequence)) (le-ltb cid.sequence q.retire_prior_to (omega (arith, none)))

-- ---- an id comes that retires none

by_test : (P : Handled → Type 0) (b : Bool) (x y : Handled) → (b ≡ true → P x) → (b ≡ false → P y) → P (cond b x y)
by_test P b x y first second = cond_both b x y P first second

-- the id in use stays, and none is to be retired later
pub record StaysInUse (q : PlainCids) (h : Handled) : Type 0 where
  pub active : h.cids.active ≡ q.active
  pub none_retired : h.cids.retire_prior_to ≡ 0

stays_raised : (q : PlainCids) (retired : List ℕ) → StaysInUse q (settled (raised 0 q) retired)
stays_raised q retired = subst (λ (h : Handled). StaysInUse q h) (sym (settled_none (raised 0 q) retired refl)) (record { active = refl; none_retired = refl })

in_use : (q : PlainCids) (cid : RemoteCid) → q.retire_prior_to ≡ 0 → StaysInUse q (handled_to cid 0 q)
in_use q cid none =
    by_test (λ (h : Handled). StaysInUse q h) (is_late cid q) _ _ (λ late. absurd (both_ways (is_late cid q) (not_late cid q none) late))
    (λ _. by_test (λ (h : Handled). StaysInUse q h) (is_repeated cid.sequence q) _ _ (λ _. stays_raised q (gone 0 q))
    (λ _. by_test (λ (h : Handled). StaysInUse q h) (length cid.id == length q.active.id) _ _
    (λ _. subst (λ (h : Handled). StaysInUse q h) (sym (settled_none (added cid (raised 0 q)) (gone 0 q) refl)) (record { active = refl; none_retired = refl }))
    (λ _. stays_raised q (gone 0 q ++ cid.sequence ∷ []))))

-- it is one of few, and as long as the others
pub record StayFew (q : PlainCids) (h : Handled) : Type 0 where
  pub few : AreFewIds h.cids
  pub none_retired : h.retired ≡ []

added_few : (q : PlainCids) (cid : RemoteCid) → AreFewIds q → IsFewId cid → is_repeated cid.sequence q ≡ false → AreFewIds (added cid q)
added_few q cid few new is_new =
    let parts = or_parts (cid.sequence == q.active.sequence) (has_sequence cid.sequence q.waiting) is_new in
    record {
      none_retired = few.none_retired;
      active = few.active;
      waiting = All-with_cid IsFewId cid q.waiting new few.waiting;
      rising = IsRising-with_cid cid q.waiting (All-not_found cid.sequence q.waiting parts.1) few.rising;
      others = All-with_cid (λ (c : RemoteCid). c.sequence ≢ q.active.sequence) cid q.waiting (eqb-false cid.sequence q.active.sequence parts.0) few.others;
    }

stay_few : (q : PlainCids) (cid : RemoteCid) → AreFewIds q → IsFewId cid → length cid.id ≡ length q.active.id → StayFew q (handled_to cid 0 q)
stay_few q cid few new long =
    let same = raised_none q few.none_retired in
    by_test (λ (h : Handled). StayFew q h) (is_late cid q) _ _ (λ late. absurd (both_ways (is_late cid q) (not_late cid q few.none_retired) late))
    (λ _. by_test (λ (h : Handled). StayFew q h) (is_repeated cid.sequence q) _ _
    (λ _. subst (λ (h : Handled). StayFew q h) (sym (settled_none (raised 0 q) (gone 0 q) refl))
    (record { few = subst (λ (z : PlainCids). AreFewIds z) (sym same) few; none_retired = none_below q.waiting }))
    (λ is_new. by_test (λ (h : Handled). StayFew q h) (length cid.id == length q.active.id) _ _
    (λ _. subst (λ (h : Handled). StayFew q h) (sym (settled_none (added cid (raised 0 q)) (gone 0 q) refl))
    (record { few = subst (λ (z : PlainCids). AreFewIds (added cid z)) (sym same) (added_few q cid few new is_new); none_retired = none_below q.waiting }))
    (λ other. absurd (eqb-false (length cid.id) (length q.active.id) other long))))

-- what a frame makes of the ids that retires none
handled_none : (P : Handled → Type 0) (q : PlainCids) (cid : RemoteCid) (prior : ℕ) → q.retire_prior_to ≡ 0 → prior ≡ 0 → P (handled_to cid 0 q) → P (handled cid prior q)
handled_none P q cid prior none is p =
    let zero : max q.retire_prior_to prior ≡ 0 = omega (arith, none, is) in
    subst (λ (n : ℕ). P (handled_to cid n q)) (sym zero) p

pub handled_in_use : (q : PlainCids) (cid : RemoteCid) (prior : ℕ) → q.retire_prior_to ≡ 0 → prior ≡ 0 → StaysInUse q (handled cid prior q)
handled_in_use q cid prior none is = handled_none (λ (h : Handled). StaysInUse q h) q cid prior none is (in_use q cid none)

pub handled_few : (q : PlainCids) (cid : RemoteCid) (prior : ℕ) → prior ≡ 0 → AreFewIds q → IsFewId cid → length cid.id ≡ length q.active.id → StayFew q (handled cid prior q)
handled_few q cid prior is few new long = handled_none (λ (h : Handled). StayFew q h) q cid prior few.none_retired is (stay_few q cid few new long)
