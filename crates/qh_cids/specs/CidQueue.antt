-- The connection ids that the peer issued and that weren't retired (RFC 9000, sections 5.1.1, 5.1.2 and 19.15).
use Rattle.std.specs.Prelude.{◌≡◌, ◌≢◌, ℕ, ◌+◌, ◌^◌, ◌<◌, ◌≤◌, ◌==◌, nat_lt, nat_le, max, Bool, true, false, not, ◌&&◌, ◌||◌, List, [], ◌∷◌, ◌++◌, length, filter, map, All, IsSome, if◌then◌else◌, ⊤}
use Rattle.std.specs.List.{list_any}
use Rattle.qh_cids.specs.declared.cid_queue.RemoteCid.{RemoteCid}

-- the one that is in use, the others in the order of their sequences, and the sequence below which all are to be retired
pub record PlainCids : Type 0 where
  pub active : RemoteCid
  pub waiting : List RemoteCid
  pub retire_prior_to : ℕ

-- how many are held, and at most how many, as this end's hello says (own)
abbrev pub held : PlainCids → ℕ
held q = length q.waiting + 1

abbrev pub limit : ℕ
limit = 8

-- each has a lower sequence than those behind it
abbrev pub IsRising : List RemoteCid → Type 0
IsRising [] = ⊤
IsRising (cid ∷ cids) = All (λ later. cid.sequence < later.sequence) cids × IsRising cids

-- an id that may wait: it isn't to be retired, it isn't the one in use but is as long as that (own), and its frame bore a token
pub record MayWait (q : PlainCids) (cid : RemoteCid) : Type 0 where
  pub kept : q.retire_prior_to ≤ cid.sequence
  pub other : cid.sequence ≢ q.active.sequence
  pub as_long : length cid.id ≡ length q.active.id
  pub has_token : IsSome cid.reset_token

-- each sequence fits into a frame
abbrev pub AreFitting : PlainCids → Type 0
AreFitting q = (q.active.sequence < 2 ^ 62) × All (λ cid. cid.sequence < 2 ^ 62) q.waiting

-- what holds at any time. One that is to be retired is in use only if no other waits (own)
pub record IsQueue (q : PlainCids) : Type 0 where
  pub within : held q ≤ limit
  pub rising : IsRising q.waiting
  pub each : All (MayWait q) q.waiting
  pub in_use : q.active.sequence < q.retire_prior_to → q.waiting ≡ []
  pub fitting : AreFitting q

-- ---- what a NEW_CONNECTION_ID frame makes of the ids

-- the ids after it, the sequences that are to be retired by RETIRE_CONNECTION_ID frames, in order, and whether another id is in use
pub record Handled : Type 0 where
  pub cids : PlainCids
  pub retired : List ℕ
  pub has_new_active : Bool

-- an id comes late whose sequence is below what earlier frames said is to be retired (RFC 9000, section 19.15).
-- The one in use doesn't (own): no packet that bears an id as its destination may retire it (RFC 9000, section 19.16)
abbrev pub is_late : RemoteCid → PlainCids → Bool
is_late cid q = nat_lt cid.sequence q.retire_prior_to && not (cid.sequence == q.active.sequence)

-- whether one of them has this sequence
abbrev pub has_sequence : ℕ → List RemoteCid → Bool
has_sequence n = list_any (λ cid. cid.sequence == n)

-- whether the one in use has this sequence, or one that waits
abbrev pub is_repeated : ℕ → PlainCids → Bool
is_repeated n q = (n == q.active.sequence) || has_sequence n q.waiting

-- all below n are to be retired: the sequences of those that wait and go, in order, and the ids without them
abbrev pub gone : ℕ → PlainCids → List ℕ
gone n q = map (λ cid. cid.sequence) (filter (λ cid. nat_lt cid.sequence n) q.waiting)

abbrev pub raised : ℕ → PlainCids → PlainCids
raised n q = record { active = q.active; waiting = filter (λ cid. nat_le n cid.sequence) q.waiting; retire_prior_to = n }

-- with an id in its place in the order of the sequences
abbrev pub with_cid : RemoteCid → List RemoteCid → List RemoteCid
with_cid cid [] = cid ∷ []
with_cid cid (next ∷ later) = if nat_lt cid.sequence next.sequence then cid ∷ next ∷ later else next ∷ with_cid cid later

abbrev pub added : RemoteCid → PlainCids → PlainCids
added cid q = record q { waiting = with_cid cid q.waiting }

-- the first of these, which are those that wait, comes into use, and the one that was is to be retired. If none waits it stays in use (own)
abbrev pub succeeded : PlainCids → List RemoteCid → List ℕ → Handled
succeeded q [] retired = record { cids = q; retired = retired; has_new_active = false }
succeeded q (first ∷ later) retired =
    record { cids = record q { active = first; waiting = later }; retired = retired ++ q.active.sequence ∷ []; has_new_active = true }

-- that happens where the one in use is below what is to be retired (RFC 9000, section 5.1.2)
abbrev pub settled : PlainCids → List ℕ → Handled
settled q retired =
    if nat_lt q.active.sequence q.retire_prior_to then succeeded q q.waiting retired
    else record { cids = q; retired = retired; has_new_active = false }

-- A frame bears this id, and from now on all below n are to be retired.
--   If the id comes late, it is to be retired, and nothing else changes.
--   Otherwise those go that wait and are below n, and then:
--   if its sequence is known, it isn't added (RFC 9000, section 19.15), whatever it says besides (own);
--   if it is as long as the one in use, it is added;
--   if it isn't, it isn't kept, and is to be retired (own).
abbrev pub handled_to : RemoteCid → ℕ → PlainCids → Handled
handled_to cid n q =
    if is_late cid q then record { cids = q; retired = cid.sequence ∷ []; has_new_active = false }
    else if is_repeated cid.sequence q then settled (raised n q) (gone n q)
    else if length cid.id == length q.active.id then settled (added cid (raised n q)) (gone n q)
    else settled (raised n q) (gone n q ++ cid.sequence ∷ [])

-- A frame bears this id, and says that all below n are to be retired: so are all below what earlier frames said.
abbrev pub handled : RemoteCid → ℕ → PlainCids → Handled
handled cid n q = handled_to cid (max q.retire_prior_to n) q
