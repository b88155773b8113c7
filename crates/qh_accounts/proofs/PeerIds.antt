-- The ids of the peer's streams, and the counts of their directions.
use Rattle.std.proofs.Common.{◌≡◌, ◌⊎◌, ℕ, ◌==◌, Bool, true, false, if◌then◌else◌, refl, sym, ap, ◌∙◌, arith, inl, inr}
use Rattle.std.proofs.lemmas.Bool.{false≢true, cases_Bool, eqb-true}
use Rattle.qh_spec.specs.StreamId.{stream_id}
use Rattle.qh_spec.specs.declared.sides.Dir.{Dir}
use Rattle.qh_spec.specs.declared.sides.Dir.TheVariants.{Bi, Uni}
use Rattle.qh_spec.specs.declared.sides.Side.{Side}
use Rattle.qh_spec.specs.declared.sides.Side.TheVariants.{Client, Server}
use Rattle.qh_halves.specs.declared.counts.StreamCounts.{StreamCounts}
use Rattle.qh_halves.specs.Counts.{is_own, is_bi, index_of, other_side}
use Rattle.qh_streams.specs.Streams.{PlainStreams, counts_of, with_counts, is_two_way}
use Rattle.qh_streams.proofs.StreamsOpened.{bi_id, index_id}

-- the peer's id of a direction and an index
abbrev pub peer_id : Side → Dir → ℕ → ℕ
peer_id side dir n = stream_id (other_side side) dir n

pub not_own : (side : Side) (dir : Dir) (n : ℕ) → is_own side (peer_id side dir n) ≡ false
not_own Client Bi n = grind arith
not_own Client Uni n = grind arith
not_own Server Bi n = grind arith
not_own Server Uni n = grind arith

pub peer_bi : (side : Side) (dir : Dir) (n : ℕ) → is_bi (peer_id side dir n) ≡ is_two_way dir
peer_bi side dir n = bi_id (other_side side) dir n

pub peer_index : (side : Side) (dir : Dir) (n : ℕ) → index_of (peer_id side dir n) ≡ n
peer_index side dir n = index_id (other_side side) dir n

-- each id of the peer's is that of its direction and index
by_parts : (side : Side) (two_way : Bool) (id : ℕ) → is_own side id ≡ false → is_bi id ≡ two_way → id ≡ peer_id side (if two_way then Bi else Uni) (index_of id)
by_parts Client true id own bi = grind (arith, own, bi)
by_parts Client false id own bi = grind (arith, own, bi)
by_parts Server true id own bi = grind (arith, own, bi)
by_parts Server false id own bi = grind (arith, own, bi)

pub peer_parts : (side : Side) (dir : Dir) (id : ℕ) → is_own side id ≡ false → is_two_way dir ≡ is_bi id → id ≡ peer_id side dir (index_of id)
peer_parts side Bi id own bi = by_parts side true id own (sym bi)
peer_parts side Uni id own bi = by_parts side false id own (sym bi)

-- a stream of this end's is none of the peer's
pub own_apart : (side : Side) (dir : Dir) (n id : ℕ) → is_own side id ≡ true → (peer_id side dir n == id) ≡ false
own_apart side dir n id own = elim (cases_Bool (peer_id side dir n == id)) [
  | inl same ↦ absurd (false≢true (sym (not_own side dir n) ∙ ap (is_own side) (eqb-true (peer_id side dir n) id same) ∙ own))
  | inr apart ↦ apart
]

-- streams of two directions are apart, and of two indices
pub other_dir_apart : (side : Side) (dir : Dir) (n id : ℕ) → (is_bi id ≡ is_two_way dir → ⊥) → (peer_id side dir n == id) ≡ false
other_dir_apart side dir n id other = elim (cases_Bool (peer_id side dir n == id)) [
  | inl same ↦ absurd (other (ap is_bi (sym (eqb-true (peer_id side dir n) id same)) ∙ peer_bi side dir n))
  | inr apart ↦ apart
]

pub other_index_apart : (side : Side) (dir : Dir) (n m : ℕ) → (n == m) ≡ false → (peer_id side dir n == peer_id side dir m) ≡ false
other_index_apart Client Bi n m apart = grind (arith, apart)
other_index_apart Client Uni n m apart = grind (arith, apart)
other_index_apart Server Bi n m apart = grind (arith, apart)
other_index_apart Server Uni n m apart = grind (arith, apart)

-- the counts of a direction, if those of one direction are others now
pub counts_now : (s : PlainStreams) (a b : Bool) (c : StreamCounts) → ((b ≡ a) × (counts_of (with_counts s a c) b ≡ c)) ⊎ ((b ≡ a → ⊥) × (counts_of (with_counts s a c) b ≡ counts_of s b))
counts_now s true true c = inl (refl, refl)
counts_now s false false c = inl (refl, refl)
counts_now s true false c = inr (false≢true, refl)
counts_now s false true c = inr (λ e. false≢true (sym e), refl)
