-- Bytes that are placed at offsets make one list at most.
use Rattle.std.proofs.Common.{◌≡◌, ◌≢◌, ◌↔◌, inl, inr, ℕ, zero, suc, ◌+◌, ◌<◌, ◌≤◌, List, [], ◌∷◌, ◌++◌, length, take, get_or, Option, Some, None, length-append, refl, sym, ap, ◌∙◌, subst, arith}
use Rattle.std.specs.Prelude.{slice_get, Result, IfOk, IfSome, IfNone}
use Rattle.std.specs.List.{AllByRecursion}
use Rattle.std.proofs.lemmas.List.{take_all, take_more}
use Rattle.std.proofs.lemmas.Option.{slice_get-get_or, IfSome_then}
use Rattle.std.proofs.lemmas.Result.{IfOk-weaker}
use Rattle.qh_spec.specs.Lists.{In}
use Rattle.qh_spec.specs.Carried.{Carries, CarriesEnd}
use Rattle.qh_spec.specs.Message.{PlainMessage}
use Rattle.qh_spec.specs.Spelling.{Spells}
use Rattle.qh_spec.specs.Whole.{IsWholeStream, IsWhole}
use Rattle.qh_spec.specs.declared.sides.Side.{Side}
use Rattle.qh_spec.proofs.Members.{same_list, in_at, in_index, get_split, in_more}
use Rattle.qh_plain.specs.Placed.{AreFrom, IsAt, IsOnlyEnd, IsEmptyAt, AreWhole}

-- what holds of each element holds of this one
pub each_is : {X : Type 0} (P : X → Type 0) (xs : List X) (x : X) → AllByRecursion P xs → In x xs → P x
each_is P [] x a h = absurd h
each_is P (y ∷ xs) x a (inl e) = subst P e a.0
each_is P (y ∷ xs) x a (inr h) = each_is P xs x a.1 h

pub each_from : {X : Type 0} (P : X → Type 0) (xs : List X) → ((x : X) → In x xs → P x) → AllByRecursion P xs
each_from P [] p = tt
each_from P (x ∷ xs) p = (p x (inl refl), each_from P xs (λ y h. p y (inr h)))

-- the first end, where all are the same
pub only_end_is : (ends : List ℕ) (e : ℕ) → slice_get ends 0 ≡ Some e → AllByRecursion (λ o. o ≡ e) ends → IsOnlyEnd ends e
only_end_is ends e f a = (in_at ends 0 e f, λ o h. each_is (λ z. z ≡ e) ends o a h)

pub no_only_end : (ends : List ℕ) (e : ℕ) → slice_get ends 0 ≡ Some e → (AllByRecursion (λ o. o ≡ e) ends → ⊥) → (end : ℕ) → IsOnlyEnd ends end → ⊥
no_only_end ends e f n end is =
    let first : e ≡ end = is.1 e (in_at ends 0 e f) in
    n (each_from (λ o. o ≡ e) ends (λ o h. is.1 o h ∙ sym first))

pub no_end_at_all : (ends : List ℕ) → ends ≡ [] → (end : ℕ) → IsOnlyEnd ends end → ⊥
no_end_at_all ends e end is = subst (λ (z : List ℕ). In end z) e is.0

at_last : (placed : List (ℕ × ℕ)) (byte offset o b k : ℕ) → o ≡ offset + k → slice_get (byte ∷ []) k ≡ Some b → In (offset, byte) placed → In (o, b) placed
at_last placed byte offset o b zero e f here =
    let same : byte ≡ b = cc in
    let there : o ≡ offset = omega (arith, e) in
    rw (there, ← same) here
at_last placed byte offset o b (suc k) e f here = cc

-- one byte more
pub one_placed : (placed : List (ℕ × ℕ)) (bytes : List ℕ) (offset byte : ℕ) → length bytes ≡ offset → AreFrom placed bytes → In (offset, byte) placed → AreFrom placed (bytes ++ byte ∷ [])
one_placed placed bytes offset byte l from here o b e =
    elim (get_split bytes (byte ∷ []) o b e) [
      | inl before ↦ from o b before
      | inr r ↦ at_last placed byte offset o b r.0 (let m = r.1 in omega (arith, m, l)) r.2 here
    ]

-- bytes that are whole have one at each offset below the end
pub gap_is_not_whole : (placed : List (ℕ × ℕ)) (ends : List ℕ) (end offset : ℕ) → IsOnlyEnd ends end → offset < end → IsEmptyAt placed offset
    → (bytes : List ℕ) → AreWhole placed ends bytes → ⊥
gap_is_not_whole placed ends end offset is l empty bytes w =
    let same : length bytes ≡ end = is.1 (length bytes) w.end.0 in
    let within : offset < length bytes = omega (arith, same, l) in
    empty (get_or bytes offset 0) (w.all offset (get_or bytes offset 0) (slice_get-get_or bytes offset 0 within))

-- and are those that were gathered
gathered_is : (placed : List (ℕ × ℕ)) (ends : List ℕ) (end : ℕ) (found bytes : List ℕ) → IsOnlyEnd ends end → length found ≡ end → AreFrom placed found
    → AreWhole placed ends bytes → found ≡ bytes
gathered_is placed ends end found bytes is l from w =
    let same : length bytes ≡ end = is.1 (length bytes) w.end.0 in
    same_list found bytes (l ∙ sym same) (λ o b e. w.only o b (from o b e))

pub contradiction_is_not_whole : (placed : List (ℕ × ℕ)) (ends : List ℕ) (end : ℕ) (found : List ℕ) → IsOnlyEnd ends end → length found ≡ end → AreFrom placed found
    → (AllByRecursion (IsAt found) placed → ⊥) → (bytes : List ℕ) → AreWhole placed ends bytes → ⊥
contradiction_is_not_whole placed ends end found is l from n bytes w =
    let same = gathered_is placed ends end found bytes is l from w in
    n (each_from (IsAt found) placed (λ p h. rw same (w.only p.0 p.1 h)))

pub gathered_is_whole : (placed : List (ℕ × ℕ)) (ends : List ℕ) (end : ℕ) (found : List ℕ) → IsOnlyEnd ends end → length found ≡ end → AreFrom placed found
    → AllByRecursion (IsAt found) placed → AreWhole placed ends found
gathered_is_whole placed ends end found is l from a = record {
  all = from;
  only = λ o b h. each_is (IsAt found) placed (o, b) a h;
  end = subst (IsOnlyEnd ends) (sym l) is;
}

none_then : {V : Type 0} (o : Option V) (P Q : Type 0) → IfNone o P → (P → Q) → IfNone o Q
none_then None P Q h f = f h
none_then (Some v) P Q h f = h

module _ (id_length : ℕ) (datagrams : List (List ℕ)) (sender : Side) (stream : ℕ) where
  -- what datagrams carry, as a list
  pub record AreCarried (placed : List (ℕ × ℕ)) (ends : List ℕ) : Type 0 where
    pub bytes_found : (offset byte : ℕ) → In (offset, byte) placed → Carries id_length datagrams sender stream offset byte
    pub bytes_all : (offset byte : ℕ) → Carries id_length datagrams sender stream offset byte → In (offset, byte) placed
    pub ends_found : (end : ℕ) → In end ends → CarriesEnd id_length datagrams sender stream end
    pub ends_all : (end : ℕ) → CarriesEnd id_length datagrams sender stream end → In end ends

  pub whole_carried : (placed : List (ℕ × ℕ)) (ends bytes : List ℕ) → AreCarried placed ends → AreWhole placed ends bytes → IsWholeStream id_length datagrams sender stream bytes
  whole_carried placed ends bytes c w = record {
    all = λ o b e. c.bytes_found o b (w.all o b e);
    only = λ o b h. w.only o b (c.bytes_all o b h);
    ends = c.ends_found (length bytes) w.end.0;
    once = λ e h. w.end.1 e (c.ends_all e h);
  }

  pub carried_whole : (placed : List (ℕ × ℕ)) (ends bytes : List ℕ) → AreCarried placed ends → IsWholeStream id_length datagrams sender stream bytes → AreWhole placed ends bytes
  carried_whole placed ends bytes c w = record {
    all = λ o b e. c.bytes_all o b (w.all o b e);
    only = λ o b h. w.only o b (c.bytes_found o b h);
    end = (c.ends_all (length bytes) w.ends, λ e h. w.once e (c.ends_found e h));
  }

  -- a stream has one list of bytes
  pub whole_is_one : (bytes others : List ℕ) → IsWholeStream id_length datagrams sender stream bytes → IsWholeStream id_length datagrams sender stream others → bytes ≡ others
  whole_is_one bytes others p q = same_list bytes others (q.once (length bytes) p.ends) (λ o b e. q.only o b (p.all o b e))

  pub whole_spells : (bytes : List ℕ) (m : PlainMessage) → IsWholeStream id_length datagrams sender stream bytes → Spells bytes m ↔ IsWhole id_length datagrams sender stream m
  whole_spells bytes m p = (
    λ s. record { bytes = bytes; stream_is = p; spells = s },
    λ w. subst (λ (z : List ℕ). Spells z m) (whole_is_one w.bytes bytes w.stream_is p) w.spells,
  )

  -- what is found and what isn't, of what is carried
  pub found_whole : {V E : Type 0} (items : V → List ℕ) (placed : List (ℕ × ℕ)) (ends : List ℕ) (r : Result (Option V) E) → AreCarried placed ends
      → IfOk r (λ o. IfSome o (λ v. AreWhole placed ends (items v))) → IfOk r (λ o. IfSome o (λ v. IsWholeStream id_length datagrams sender stream (items v)))
  found_whole items placed ends r c h =
      IfOk-weaker r (λ o. IfSome o (λ v. AreWhole placed ends (items v))) (λ o. IfSome o (λ v. IsWholeStream id_length datagrams sender stream (items v)))
      (λ o some. IfSome_then o some (λ v w. whole_carried placed ends (items v) c w)) h

  pub none_whole : {V E : Type 0} (placed : List (ℕ × ℕ)) (ends : List ℕ) (r : Result (Option V) E) → AreCarried placed ends
      → IfOk r (λ o. IfNone o ((bytes : List ℕ) → AreWhole placed ends bytes → ⊥)) → IfOk r (λ o. IfNone o ((bytes : List ℕ) → IsWholeStream id_length datagrams sender stream bytes → ⊥))
  none_whole placed ends r c h =
      IfOk-weaker r (λ o. IfNone o ((bytes : List ℕ) → AreWhole placed ends bytes → ⊥)) (λ o. IfNone o ((bytes : List ℕ) → IsWholeStream id_length datagrams sender stream bytes → ⊥))
      (λ o none. none_then o ((bytes : List ℕ) → AreWhole placed ends bytes → ⊥) ((bytes : List ℕ) → IsWholeStream id_length datagrams sender stream bytes → ⊥) none
      (λ n bytes w. n bytes (carried_whole placed ends bytes c w))) h

-- nothing is placed at an offset by the first of what is placed, and one more
pub one_elsewhere : (placed : List (ℕ × ℕ)) (i offset : ℕ) (p : ℕ × ℕ) → i < length placed → p ≡ get_or placed i p → p.0 ≢ offset → IsEmptyAt (take i placed) offset
    → IsEmptyAt (take (i + 1) placed) offset
one_elsewhere placed i offset p l e n none byte h =
    let more : take (i + 1) placed ≡ take i placed ++ p ∷ [] = take_more placed i p l ∙ ap (λ (z : ℕ × ℕ). take i placed ++ z ∷ []) (sym e) in
    elim (in_more (offset, byte) p (take i placed) (subst (λ (z : List (ℕ × ℕ)). In (offset, byte) z) more h)) [
      | inl before ↦ none byte before
      | inr same ↦ n (ap (λ (z : ℕ × ℕ). z.0) same)
    ]

pub here_placed : (placed : List (ℕ × ℕ)) (i offset byte : ℕ) (p : ℕ × ℕ) → i < length placed → p ≡ get_or placed i p → p.0 ≡ offset → p.1 ≡ byte → In (offset, byte) placed
here_placed placed i offset byte p l e a b =
    subst (λ (z : ℕ). In (offset, z) placed) b
    (subst (λ (z : ℕ). In (z, p.1) placed) a (subst (λ (z : ℕ × ℕ). In z placed) (sym e) (in_index placed i p l)))

pub nowhere_placed : (placed : List (ℕ × ℕ)) (i offset : ℕ) → length placed ≤ i → IsEmptyAt (take i placed) offset → IsEmptyAt placed offset
nowhere_placed placed i offset l none = subst (λ (z : List (ℕ × ℕ)). IsEmptyAt z offset) (take_all i placed l) none

-- the bytes that were gathered so far, and one more
pub gathered_more : (placed : List (ℕ × ℕ)) (bytes : List ℕ) (offset byte : ℕ) → length bytes ≡ offset → length (bytes ++ byte ∷ []) ≡ offset + 1
gathered_more placed bytes offset byte l = omega (arith, l, length-append bytes (byte ∷ []))

again : {X : Type 0} (xs : List X) (i : ℕ) (d e : X) → i < length xs → get_or xs i d ≡ get_or xs i e
again [] i d e h = absurd (omega arith)
again (x ∷ xs) zero d e h = refl
again (x ∷ xs) (suc i) d e h = again xs i d e (omega arith)

-- an element that was read within the list is the one that is read with any default
pub read_again : {X : Type 0} (xs : List X) (i : ℕ) (d : X) → i < length xs → get_or xs i d ≡ get_or xs i (get_or xs i d)
read_again [] i d h = refl
read_again (x ∷ xs) zero d h = refl
read_again (x ∷ xs) (suc i) d h = again xs i d (get_or xs i d) (omega arith)
