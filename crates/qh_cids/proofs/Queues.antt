-- The ids of the peer's that wait.
use Rattle.std.proofs.Common.{◌≡◌, ◌≢◌, ℕ, ◌+◌, ◌^◌, ◌<◌, ◌≤◌, ◌==◌, nat_lt, nat_le, cond, ltb, not, false, Bool, List, [], ◌∷◌, length, get_or, filter, map, insert, All, IsSome, IsTrue, unwrap_or, Some, None}
use Rattle.std.proofs.Common.{refl, sym, ap, ◌∙◌, subst, one-add, arith}
use Rattle.std.specs.List.{position_or_len}
use Rattle.std.proofs.lemmas.Bool.{cond_both, ltb-true, ltb-false, leb-true, eqb-false, lt-leb, le-leb, not-true, not-false, or_parts}
use Rattle.std.proofs.lemmas.Bool.Decides.{nat_tests}
use Rattle.std.proofs.lemmas.List.{length-map}
use Rattle.std.proofs.lemmas.List.Elements.{All-cons, All-nil, All-head, All-tail, All-filter, All-weaker, All-map, All-push, filter_passes}
use Rattle.std.proofs.lemmas.List.Filters.{length-filter_both}
use Rattle.qh_cids.specs.CidQueue.{PlainCids, AreFitting, IsQueue, MayWait, IsRising, held, limit, has_sequence, is_repeated, gone, raised, added, settled, succeeded, with_cid}
use Rattle.qh_cids.specs.declared.cid_queue.RemoteCid.{RemoteCid}

-- ---- an id in its place

pub insert_in_place : (cid : RemoteCid) (cids : List RemoteCid) → insert cids (position_or_len (λ other. nat_lt cid.sequence other.sequence) cids) cid ≡ with_cid cid cids
insert_in_place cid [] = refl
insert_in_place cid (next ∷ later) =
    cond_both (not (nat_lt cid.sequence next.sequence)) (1 + position_or_len (λ other. nat_lt cid.sequence other.sequence) later) 0
    (λ place. insert (next ∷ later) place cid ≡ with_cid cid (next ∷ later))
    (λ e. rw (not-true (nat_lt cid.sequence next.sequence) e, one-add) (ap (λ rest. next ∷ rest) (insert_in_place cid later)))
    (λ e. rw (not-false (nat_lt cid.sequence next.sequence) e) refl)

position_or_len-le : (test : RemoteCid → Bool) (cids : List RemoteCid) → position_or_len test cids ≤ length cids
position_or_len-le test [] = omega arith
position_or_len-le test (cid ∷ cids) = cond_both (not (test cid)) (1 + position_or_len test cids) 0 (λ place. place ≤ length (cid ∷ cids)) (λ e. omega (arith, position_or_len-le test cids)) (λ e. omega arith)

pub unwrapped_place : (test : RemoteCid → Bool) (cids : List RemoteCid)
    → (position_or_len test cids ≤ length cids) × (unwrap_or (cond (ltb (position_or_len test cids) (length cids)) (Some (position_or_len test cids)) None) (length cids) ≡ position_or_len test cids)
unwrapped_place test cids =
    let within = position_or_len-le test cids in (
      within,
      cond_both (ltb (position_or_len test cids) (length cids)) (Some (position_or_len test cids)) None (λ found. unwrap_or found (length cids) ≡ position_or_len test cids)
          (λ e. refl)
          (λ e. omega (arith, ltb-false (position_or_len test cids) (length cids) e)),
    )

pub length-with_cid : (cid : RemoteCid) (cids : List RemoteCid) → length (with_cid cid cids) ≡ length cids + 1
length-with_cid cid [] = refl
length-with_cid cid (next ∷ later) =
    cond_both (nat_lt cid.sequence next.sequence) (cid ∷ next ∷ later) (next ∷ with_cid cid later) (λ cids. length cids ≡ length (next ∷ later) + 1)
    (λ e. omega arith) (λ e. omega (arith, length-with_cid cid later))

pub All-with_cid : (P : RemoteCid → Type 0) (cid : RemoteCid) (cids : List RemoteCid) → P cid → All P cids → All P (with_cid cid cids)
All-with_cid P cid [] here all = All-cons P cid [] here all
All-with_cid P cid (next ∷ later) here all =
    cond_both (nat_lt cid.sequence next.sequence) (cid ∷ next ∷ later) (next ∷ with_cid cid later) (λ cids. All P cids)
    (λ e. All-cons P cid (next ∷ later) here all)
    (λ e. All-cons P next (with_cid cid later) (All-head P next later all) (All-with_cid P cid later here (All-tail P next later all)))

pub IsRising-filter : (test : RemoteCid → Bool) (cids : List RemoteCid) → IsRising cids → IsRising (filter test cids)
IsRising-filter test [] rising = rising
IsRising-filter test (cid ∷ cids) rising =
    cond_both (test cid) (cid ∷ filter test cids) (filter test cids) IsRising
    (λ e. (All-filter test (λ later. cid.sequence < later.sequence) cids rising.0, IsRising-filter test cids rising.1))
    (λ e. IsRising-filter test cids rising.1)

pub IsRising-with_cid : (cid : RemoteCid) (cids : List RemoteCid) → All (λ other. other.sequence ≢ cid.sequence) cids → IsRising cids → IsRising (with_cid cid cids)
IsRising-with_cid cid [] others rising = (All-nil (λ later. cid.sequence < later.sequence), rising)
IsRising-with_cid cid (next ∷ later) others rising =
    let differs : next.sequence ≢ cid.sequence = All-head (λ other. other.sequence ≢ cid.sequence) next later others in
    cond_both (nat_lt cid.sequence next.sequence) (cid ∷ next ∷ later) (next ∷ with_cid cid later) IsRising
    (λ e. let lower = ltb-true cid.sequence next.sequence e in (
      All-cons (λ other. cid.sequence < other.sequence) next later lower
          (All-weaker (λ other. next.sequence < other.sequence) (λ other. cid.sequence < other.sequence) (λ x h. omega arith) later rising.0),
      rising,
    ))
    (λ e. let higher : next.sequence < cid.sequence = omega (arith, ltb-false cid.sequence next.sequence e, differs) in (
      All-with_cid (λ other. next.sequence < other.sequence) cid later higher rising.0,
      IsRising-with_cid cid later (All-tail (λ other. other.sequence ≢ cid.sequence) next later others) rising.1,
    ))

pub from_below : (a n : ℕ) → nat_le n a ≡ not (nat_lt a n)
from_below a n = grind (arith, nat_tests)

-- none has a sequence that isn't found
pub All-not_found : (n : ℕ) (cids : List RemoteCid) → has_sequence n cids ≡ false → All (λ other. other.sequence ≢ n) cids
All-not_found n [] none = All-nil (λ other. other.sequence ≢ n)
All-not_found n (cid ∷ cids) none =
    let parts = or_parts (cid.sequence == n) (has_sequence n cids) none in
    All-cons (λ other. other.sequence ≢ n) cid cids (eqb-false cid.sequence n parts.0) (All-not_found n cids parts.1)

-- ---- how many are held

held_succeeded : (q : PlainCids) (cids : List RemoteCid) (retired : List ℕ) → 0 < length cids → held (succeeded q cids retired).cids ≡ length cids
held_succeeded q [] retired some = absurd (omega arith)
held_succeeded q (first ∷ later) retired some = omega arith

-- where some wait, all of them are held, and the one in use if it stays
pub held_settled : (q : PlainCids) (retired : List ℕ) → 0 < length q.waiting
    → held (settled q retired).cids ≡ length q.waiting + cond (nat_le q.retire_prior_to q.active.sequence) 1 0
held_settled q retired some =
    cond_both (nat_lt q.active.sequence q.retire_prior_to) (succeeded q q.waiting retired) (record { cids = q; retired = retired; has_new_active = false })
    (λ h. held h.cids ≡ length q.waiting + cond (nat_le q.retire_prior_to q.active.sequence) 1 0)
    (λ e. rw (lt-leb q.retire_prior_to q.active.sequence (ltb-true q.active.sequence q.retire_prior_to e)) (omega (arith, held_succeeded q q.waiting retired some)))
    (λ e. rw (le-leb q.retire_prior_to q.active.sequence (ltb-false q.active.sequence q.retire_prior_to e)) refl)

held_succeeded-le : (q : PlainCids) (cids : List RemoteCid) (retired : List ℕ) → q.waiting ≡ cids → held (succeeded q cids retired).cids ≤ held q
held_succeeded-le q [] retired same = omega arith
held_succeeded-le q (first ∷ later) retired same = omega (arith, ap length same)

-- no more are held than wait, besides the one in use
pub held_settled-le : (q : PlainCids) (retired : List ℕ) → held (settled q retired).cids ≤ held q
held_settled-le q retired =
    cond_both (nat_lt q.active.sequence q.retire_prior_to) (succeeded q q.waiting retired) (record { cids = q; retired = retired; has_new_active = false }) (λ h. held h.cids ≤ held q)
    (λ e. held_succeeded-le q q.waiting retired refl)
    (λ e. omega arith)

-- with one that is added, those that wait are held, it, and the one in use if it stays
pub held_added : (cid : RemoteCid) (n : ℕ) (q : PlainCids) (retired : List ℕ)
    → held (settled (added cid (raised n q)) retired).cids ≡ length (filter (λ cid. nat_le n cid.sequence) q.waiting) + 1 + cond (nat_le n q.active.sequence) 1 0
held_added cid n q retired =
    let more = length-with_cid cid (filter (λ cid. nat_le n cid.sequence) q.waiting) in
    omega (arith, more, held_settled (added cid (raised n q)) retired (omega (arith, more)))

-- ---- what holds at any time

sound_succeeded : (q : PlainCids) (cids : List RemoteCid) (retired : List ℕ) → q.waiting ≡ cids → IsRising cids → All (MayWait q) cids
    → AreFitting q → held (succeeded q cids retired).cids ≤ limit → IsQueue (succeeded q cids retired).cids
sound_succeeded q [] retired none rising each fitting within = record { within = within; rising = subst IsRising (sym none) rising; each = subst (All (MayWait q)) (sym none) each; in_use = λ low. none; fitting = fitting }
sound_succeeded q (first ∷ later) retired none rising each fitting within =
    let fits = subst (All (λ (cid : RemoteCid). cid.sequence < 2 ^ 62)) none fitting.1 in
    let head = All-head (MayWait q) first later each in
    let tail = All-tail (MayWait q) first later each in
    record {
      within = within;
      rising = rising.1;
      each = λ k d in'. let here = tail k d in' in record { kept = here.kept; other = λ same. absurd (omega (arith, rising.0 k d in', same)); as_long = here.as_long ∙ sym head.as_long; has_token = here.has_token };
      in_use = λ low. absurd (omega (arith, head.kept, low));
      fitting = (All-head (λ (cid : RemoteCid). cid.sequence < 2 ^ 62) first later fits, All-tail (λ (cid : RemoteCid). cid.sequence < 2 ^ 62) first later fits);
    }

pub IsQueue-settled : (q : PlainCids) (retired : List ℕ) → IsRising q.waiting → All (MayWait q) q.waiting
    → AreFitting q → held (settled q retired).cids ≤ limit → IsQueue (settled q retired).cids
IsQueue-settled q retired rising each fitting =
    cond_both (nat_lt q.active.sequence q.retire_prior_to) (succeeded q q.waiting retired) (record { cids = q; retired = retired; has_new_active = false }) (λ h. held h.cids ≤ limit → IsQueue h.cids)
    (λ e within. sound_succeeded q q.waiting retired refl rising each fitting within)
    (λ e within. record { within = within; rising = rising; each = each; in_use = λ low. absurd (omega (arith, ltb-false q.active.sequence q.retire_prior_to e, low)); fitting = fitting })

-- all below n are to be retired
pub All-raised : (n : ℕ) (q : PlainCids) → All (MayWait q) q.waiting → All (MayWait (raised n q)) (raised n q).waiting
All-raised n q each k d in' =
    let above = filter_passes (λ cid. nat_le n cid.sequence) q.waiting k d in' in
    let here = All-filter (λ cid. nat_le n cid.sequence) (MayWait q) q.waiting each k d in' in
    record { kept = leb-true n _ above; other = here.other; as_long = here.as_long; has_token = here.has_token }

AreFitting-raised : (n : ℕ) (q : PlainCids) → AreFitting q → AreFitting (raised n q)
AreFitting-raised n q fitting = (fitting.0, All-filter (λ cid. nat_le n cid.sequence) (λ cid. cid.sequence < 2 ^ 62) q.waiting fitting.1)

AreFitting-added : (cid : RemoteCid) (n : ℕ) (q : PlainCids) → cid.sequence < 2 ^ 62 → AreFitting q → AreFitting (added cid (raised n q))
AreFitting-added cid n q fits fitting = (fitting.0, All-with_cid (λ cid. cid.sequence < 2 ^ 62) cid (raised n q).waiting fits (AreFitting-raised n q fitting).1)

pub length_both : (n : ℕ) (cids : List RemoteCid) → length (filter (λ cid. nat_le n cid.sequence) cids) + length (map (λ cid. cid.sequence) (filter (λ cid. nat_lt cid.sequence n) cids)) ≡ length cids
length_both n cids =
    omega (arith, length-map (filter (λ cid. nat_lt cid.sequence n) cids) (λ cid. cid.sequence), length-filter_both (λ cid. nat_lt cid.sequence n) (λ cid. nat_le n cid.sequence) (λ cid. from_below cid.sequence n) cids)

pub held_raised : (n : ℕ) (q : PlainCids) → length (gone n q) + held (raised n q) ≡ held q
held_raised n q = omega (arith, length_both n q.waiting)

pub IsQueue-raised : (n : ℕ) (q : PlainCids) (retired : List ℕ) → IsQueue q → IsQueue (settled (raised n q) retired).cids
IsQueue-raised n q retired sound =
    IsQueue-settled (raised n q) retired (IsRising-filter (λ cid. nat_le n cid.sequence) q.waiting sound.rising) (All-raised n q sound.each)
    (AreFitting-raised n q sound.fitting) (omega (arith, held_settled-le (raised n q) retired, held_raised n q, sound.within))

-- an id is added that is none of them
pub All-added : (cid : RemoteCid) (n : ℕ) (q : PlainCids) → All (MayWait q) q.waiting → MayWait (raised n q) cid → All (MayWait (added cid (raised n q))) (added cid (raised n q)).waiting
All-added cid n q each may k d in' =
    let here = All-with_cid (MayWait (raised n q)) cid (raised n q).waiting may (All-raised n q each) k d in' in
    record { kept = here.kept; other = here.other; as_long = here.as_long; has_token = here.has_token }

pub IsQueue-added : (cid : RemoteCid) (n : ℕ) (q : PlainCids) (retired : List ℕ) → IsQueue q → MayWait (raised n q) cid → cid.sequence < 2 ^ 62 → has_sequence cid.sequence q.waiting ≡ false
    → held (settled (added cid (raised n q)) retired).cids ≤ limit → IsQueue (settled (added cid (raised n q)) retired).cids
IsQueue-added cid n q retired sound may fits new within =
    let others = All-filter (λ other. nat_le n other.sequence) (λ other. other.sequence ≢ cid.sequence) q.waiting (All-not_found cid.sequence q.waiting new) in
    IsQueue-settled (added cid (raised n q)) retired (IsRising-with_cid cid (raised n q).waiting others (IsRising-filter (λ other. nat_le n other.sequence) q.waiting sound.rising))
    (All-added cid n q sound.each may) (AreFitting-added cid n q fits sound.fitting) within

-- ---- what is retired, and what comes into use

-- a sequence that neither the one in use has nor one that waits
pub record IsOther (q : PlainCids) (n : ℕ) : Type 0 where
  pub unused : n ≢ q.active.sequence
  pub unkept : All (λ cid. cid.sequence ≢ n) q.waiting

All-spared : (q : PlainCids) (cids : List RemoteCid) (retired : List ℕ) → q.waiting ≡ cids → All (MayWait q) cids → All (IsOther q) retired
    → All (λ n. n ≢ (succeeded q cids retired).cids.active.sequence) (succeeded q cids retired).retired
All-spared q [] retired same each others = All-weaker (IsOther q) (λ n. n ≢ q.active.sequence) (λ n other. other.unused) retired others
All-spared q (first ∷ later) retired same each others =
    All-push (λ n. n ≢ first.sequence) retired q.active.sequence
    (All-weaker (IsOther q) (λ n. n ≢ first.sequence) (λ n other e. All-head (λ cid. cid.sequence ≢ n) first later (subst (All (λ cid. cid.sequence ≢ n)) same other.unkept) (sym e)) retired others)
    (λ e. (All-head (MayWait q) first later each).other (sym e))

-- what is retired isn't in use
pub All-settled : (q : PlainCids) (retired : List ℕ) → All (MayWait q) q.waiting → All (IsOther q) retired
    → All (λ n. n ≢ (settled q retired).cids.active.sequence) (settled q retired).retired
All-settled q retired each others =
    cond_both (nat_lt q.active.sequence q.retire_prior_to) (succeeded q q.waiting retired) (record { cids = q; retired = retired; has_new_active = false }) (λ h. All (λ n. n ≢ h.cids.active.sequence) h.retired)
    (λ e. All-spared q q.waiting retired refl each others)
    (λ e. All-weaker (IsOther q) (λ n. n ≢ q.active.sequence) (λ n other. other.unused) retired others)

IsSome-succeeded : (q : PlainCids) (cids : List RemoteCid) (retired : List ℕ) → All (MayWait q) cids → IsTrue (succeeded q cids retired).has_new_active → IsSome (succeeded q cids retired).cids.active.reset_token
IsSome-succeeded q [] retired each new = absurd (cc)
IsSome-succeeded q (first ∷ later) retired each new = (All-head (MayWait q) first later each).has_token

-- the token of one that comes into use is known
pub IsSome-settled : (q : PlainCids) (retired : List ℕ) → All (MayWait q) q.waiting → IsTrue (settled q retired).has_new_active → IsSome (settled q retired).cids.active.reset_token
IsSome-settled q retired each =
    cond_both (nat_lt q.active.sequence q.retire_prior_to) (succeeded q q.waiting retired) (record { cids = q; retired = retired; has_new_active = false })
    (λ h. IsTrue h.has_new_active → IsSome h.cids.active.reset_token)
    (λ e. IsSome-succeeded q q.waiting retired each)
    (λ e new. absurd (cc))

-- those that go are others then, also than one that is added
pub All-gone : (n : ℕ) (q : PlainCids) → All (MayWait q) q.waiting → All (IsOther (raised n q)) (gone n q)
All-gone n q each =
    All-map (IsOther (raised n q)) (λ (cid : RemoteCid). cid.sequence) (filter (λ cid. nat_lt cid.sequence n) q.waiting)
    (λ k d in'.
    let below = filter_passes (λ cid. nat_lt cid.sequence n) q.waiting k d in' in
    let here = All-filter (λ cid. nat_lt cid.sequence n) (MayWait q) q.waiting each k d in' in
    record { unused = here.other; unkept = λ j e inside. let above = leb-true n _ (filter_passes (λ cid. nat_le n cid.sequence) q.waiting j e inside) in λ same. absurd (omega (arith, ltb-true _ n below, above, same)) })

pub All-gone_added : (cid : RemoteCid) (n : ℕ) (q : PlainCids) → All (MayWait q) q.waiting → n ≤ cid.sequence → All (IsOther (added cid (raised n q))) (gone n q)
All-gone_added cid n q each above k d in' =
    let below = All-map (λ m. m < n) (λ (other : RemoteCid). other.sequence) (filter (λ other. nat_lt other.sequence n) q.waiting)
    (λ k d in'. ltb-true _ n (filter_passes (λ other. nat_lt other.sequence n) q.waiting k d in')) k d in' in
    let here = All-gone n q each k d in' in
    record { unused = here.unused; unkept = All-with_cid (λ other. other.sequence ≢ get_or (gone n q) k d) cid (raised n q).waiting (λ same. absurd (omega (arith, below, above, same))) here.unkept }

-- a sequence that isn't repeated is another one, also once all below n are retired
pub IsOther-new : (m n : ℕ) (q : PlainCids) → is_repeated m q ≡ false → IsOther (raised n q) m
IsOther-new m n q new =
    let parts = or_parts (m == q.active.sequence) (has_sequence m q.waiting) new in
    record { unused = eqb-false m q.active.sequence parts.0; unkept = All-filter (λ cid. nat_le n cid.sequence) (λ cid. cid.sequence ≢ m) q.waiting (All-not_found m q.waiting parts.1) }

-- ---- what is retired fits into frames

All-fitting_succeeded : (q : PlainCids) (cids : List RemoteCid) (retired : List ℕ) → q.active.sequence < 2 ^ 62 → All (λ n. n < 2 ^ 62) retired → All (λ n. n < 2 ^ 62) (succeeded q cids retired).retired
All-fitting_succeeded q [] retired fits each = each
All-fitting_succeeded q (first ∷ later) retired fits each = All-push (λ n. n < 2 ^ 62) retired q.active.sequence each fits

pub All-fitting_settled : (q : PlainCids) (retired : List ℕ) → q.active.sequence < 2 ^ 62 → All (λ n. n < 2 ^ 62) retired → All (λ n. n < 2 ^ 62) (settled q retired).retired
All-fitting_settled q retired fits each =
    cond_both (nat_lt q.active.sequence q.retire_prior_to) (succeeded q q.waiting retired) (record { cids = q; retired = retired; has_new_active = false }) (λ h. All (λ n. n < 2 ^ 62) h.retired)
    (λ e. All-fitting_succeeded q q.waiting retired fits each)
    (λ e. each)

pub All-fitting_gone : (n : ℕ) (q : PlainCids) → AreFitting q → All (λ m. m < 2 ^ 62) (gone n q)
All-fitting_gone n q fitting =
    All-map (λ m. m < 2 ^ 62) (λ (cid : RemoteCid). cid.sequence) (filter (λ cid. nat_lt cid.sequence n) q.waiting)
    (All-filter (λ cid. nat_lt cid.sequence n) (λ cid. cid.sequence < 2 ^ 62) q.waiting fitting.1)
