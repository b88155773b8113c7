-- The frames that went out, and those that were lost, one after another.
use Rattle.std.proofs.Common.{◌≡◌, ℕ, zero, suc, ◌+◌, ◌<◌, ◌≤◌, Bool, true, false, not, List, [], ◌∷◌, ◌++◌, length, filter, map, take, drop, get_or, cond, refl, sym, ap, append_assoc, append-nil, length-append, length-drop, arith, ◌∙◌}
use Rattle.std.proofs.lemmas.List.{length-map}
use Rattle.std.specs.List.{remove}
use Rattle.std.proofs.Math.Seq.{get_or-append_seam}
use Rattle.std.proofs.lemmas.List.{drop_all, drop_more, take-append-drop, take_all}
use Rattle.std.proofs.lemmas.List.Elements.{filter-append, filter_more}
use Rattle.qh_control.specs.declared.queue.SentControl.{SentControl}
use Rattle.qh_core.specs.declared.control.ControlFrame.{ControlFrame}

remove_seam : {X : Type 0} (xs : List X) (y : X) (ys : List X) → remove (xs ++ y ∷ ys) (length xs) ≡ xs ++ ys
remove_seam [] y ys = refl
remove_seam (x ∷ xs) y ys = ap (λ rest. x ∷ rest) (remove_seam xs y ys)

pub remove_first : {X : Type 0} (xs : List X) → remove xs 0 ≡ drop 1 xs
remove_first [] = refl
remove_first (x ∷ xs) = refl

-- what is at an index, whatever stands for what isn't there
pub get_or_same : {X : Type 0} (xs : List X) (i : ℕ) (d e : X) → i < length xs → get_or xs i d ≡ get_or xs i e
get_or_same [] i d e within = absurd (omega (arith, within))
get_or_same (x ∷ xs) zero d e within = refl
get_or_same (x ∷ xs) (suc i) d e within = get_or_same xs i d e (omega (arith, within))

-- the first k frames were looked at: those that are out still stand before the others, and the lost ones wait
pub record LostSoFar (out : ℕ → Bool) (k index : ℕ) (old now : List SentControl) (before waiting : List ControlFrame) : Type 0 where
  pub sent_is : now ≡ filter (λ (s : SentControl). out s.number) (take k old) ++ drop k old
  pub index_is : index ≡ length (filter (λ (s : SentControl). out s.number) (take k old))
  pub waiting_is : waiting ≡ before ++ map (λ (s : SentControl). s.frame) (filter (λ (s : SentControl). not (out s.number)) (take k old))

pub none_looked_at : (out : ℕ → Bool) (old : List SentControl) (before : List ControlFrame) → LostSoFar out 0 0 old old before before
none_looked_at out old before = record { sent_is = refl; index_is = refl; waiting_is = sym (append-nil before) }

-- the next one
split : (out : ℕ → Bool) (k index : ℕ) (old now : List SentControl) (before waiting : List ControlFrame) (d : SentControl) → k < length old → LostSoFar out k index old now before waiting
    → now ≡ filter (λ (s : SentControl). out s.number) (take k old) ++ get_or old k d ∷ drop (k + 1) old
split out k index old now before waiting d within so_far = so_far.sent_is ∙ ap (λ rest. filter (λ (s : SentControl). out s.number) (take k old) ++ rest) (drop_more old k d within)

pub index_within : (out : ℕ → Bool) (k index : ℕ) (old now : List SentControl) (before waiting : List ControlFrame) → k < length old → LostSoFar out k index old now before waiting → index < length now
index_within out k index old now before waiting within so_far =
    omega (arith, within, so_far.index_is, ap length so_far.sent_is, length-append (filter (λ (s : SentControl). out s.number) (take k old)) (drop k old), length-drop k old)

pub next_is : (out : ℕ → Bool) (k index : ℕ) (old now : List SentControl) (before waiting : List ControlFrame) (d : SentControl) → k < length old → LostSoFar out k index old now before waiting
    → get_or now index d ≡ get_or old k d
next_is out k index old now before waiting d within so_far =
    ap (λ (l : List SentControl). get_or l index d) (split out k index old now before waiting d within so_far)
    ∙ ap (λ (i : ℕ). get_or (filter (λ (s : SentControl). out s.number) (take k old) ++ get_or old k d ∷ drop (k + 1) old) i d) so_far.index_is
    ∙ get_or-append_seam (filter (λ (s : SentControl). out s.number) (take k old)) (get_or old k d) (drop (k + 1) old) d

-- one more looked at: the tests keep it or don't
more_out : (out : ℕ → Bool) (k : ℕ) (old : List SentControl) (d : SentControl) → k < length old → out (get_or old k d).number ≡ true
    → (filter (λ (s : SentControl). out s.number) (take (k + 1) old) ≡ filter (λ (s : SentControl). out s.number) (take k old) ++ get_or old k d ∷ [])
    × (filter (λ (s : SentControl). not (out s.number)) (take (k + 1) old) ≡ filter (λ (s : SentControl). not (out s.number)) (take k old))
more_out out k old d within is_out = (
  filter_more (λ (s : SentControl). out s.number) old k d within ∙ ap (λ (b : Bool). filter (λ (s : SentControl). out s.number) (take k old) ++ cond b (get_or old k d ∷ []) []) is_out,
  filter_more (λ (s : SentControl). not (out s.number)) old k d within ∙ ap (λ (b : Bool). filter (λ (s : SentControl). not (out s.number)) (take k old) ++ cond (not b) (get_or old k d ∷ []) []) is_out
      ∙ append-nil _,
)

more_lost : (out : ℕ → Bool) (k : ℕ) (old : List SentControl) (d : SentControl) → k < length old → out (get_or old k d).number ≡ false
    → (filter (λ (s : SentControl). out s.number) (take (k + 1) old) ≡ filter (λ (s : SentControl). out s.number) (take k old))
    × (filter (λ (s : SentControl). not (out s.number)) (take (k + 1) old) ≡ filter (λ (s : SentControl). not (out s.number)) (take k old) ++ get_or old k d ∷ [])
more_lost out k old d within is_lost = (
  filter_more (λ (s : SentControl). out s.number) old k d within ∙ ap (λ (b : Bool). filter (λ (s : SentControl). out s.number) (take k old) ++ cond b (get_or old k d ∷ []) []) is_lost
      ∙ append-nil _,
  filter_more (λ (s : SentControl). not (out s.number)) old k d within ∙ ap (λ (b : Bool). filter (λ (s : SentControl). not (out s.number)) (take k old) ++ cond (not b) (get_or old k d ∷ []) []) is_lost,
)

pub one_stays : (out : ℕ → Bool) (k index after : ℕ) (old now new : List SentControl) (before waiting later : List ControlFrame) (d : SentControl) → k < length old → LostSoFar out k index old now before waiting
    → out (get_or now index d).number ≡ true → after ≡ index + 1 → new ≡ now → later ≡ waiting → LostSoFar out (k + 1) after old new before later
one_stays out k index after old now new before waiting later d within so_far is_out next same_sent same_waiting =
    let same = next_is out k index old now before waiting d within so_far in
    let more = more_out out k old d within (ap (λ (s : SentControl). out s.number) (sym same) ∙ is_out) in
    record {
      sent_is = same_sent ∙ split out k index old now before waiting d within so_far ∙ sym (append_assoc (filter (λ (s : SentControl). out s.number) (take k old)) (get_or old k d ∷ []) (drop (k + 1) old))
          ∙ ap (λ (l : List SentControl). l ++ drop (k + 1) old) (sym more.0);
      index_is = omega (arith, next, so_far.index_is, ap length more.0, length-append (filter (λ (s : SentControl). out s.number) (take k old)) (get_or old k d ∷ []));
      waiting_is = same_waiting ∙ so_far.waiting_is ∙ ap (λ (l : List SentControl). before ++ map (λ (s : SentControl). s.frame) l) (sym more.1);
    }

map_push : (xs : List SentControl) (x : SentControl) → map (λ (s : SentControl). s.frame) (xs ++ x ∷ []) ≡ map (λ (s : SentControl). s.frame) xs ++ x.frame ∷ []
map_push [] x = refl
map_push (y ∷ xs) x = ap (λ rest. y.frame ∷ rest) (map_push xs x)

pub one_lost : (out : ℕ → Bool) (k index after : ℕ) (old now new : List SentControl) (before waiting more_waiting : List ControlFrame) (d : SentControl) → k < length old → LostSoFar out k index old now before waiting
    → out (get_or now index d).number ≡ false → new ≡ remove now index → more_waiting ≡ waiting ++ (get_or now index d).frame ∷ [] → after ≡ index → LostSoFar out (k + 1) after old new before more_waiting
one_lost out k index after old now new before waiting more_waiting d within so_far is_lost removed appended next =
    let same = next_is out k index old now before waiting d within so_far in
    let more = more_lost out k old d within (ap (λ (s : SentControl). out s.number) (sym same) ∙ is_lost) in
    record {
      sent_is = removed ∙ ap (λ (l : List SentControl). remove l index) (split out k index old now before waiting d within so_far)
          ∙ ap (λ (i : ℕ). remove (filter (λ (s : SentControl). out s.number) (take k old) ++ get_or old k d ∷ drop (k + 1) old) i) so_far.index_is
          ∙ remove_seam (filter (λ (s : SentControl). out s.number) (take k old)) (get_or old k d) (drop (k + 1) old)
          ∙ ap (λ (l : List SentControl). l ++ drop (k + 1) old) (sym more.0);
      index_is = omega (arith, next, so_far.index_is, ap length more.0);
      waiting_is = appended ∙ ap (λ (l : List ControlFrame). l ++ (get_or now index d).frame ∷ []) so_far.waiting_is
          ∙ append_assoc before _ _
          ∙ ap (λ (s : SentControl). before ++ (map (λ (s : SentControl). s.frame) (filter (λ (s : SentControl). not (out s.number)) (take k old)) ++ s.frame ∷ [])) same
          ∙ ap (λ (l : List ControlFrame). before ++ l) (sym (map_push (filter (λ (s : SentControl). not (out s.number)) (take k old)) (get_or old k d)))
          ∙ ap (λ (l : List SentControl). before ++ map (λ (s : SentControl). s.frame) l) (sym more.1);
    }

-- no more were lost among the first ones than in all
length_filter_take : (p : SentControl → Bool) (k : ℕ) (xs : List SentControl) → length (filter p (take k xs)) ≤ length (filter p xs)
length_filter_take p k xs =
    let whole = ap (λ (l : List SentControl). length (filter p l)) (sym (take-append-drop k xs)) ∙ ap length (filter-append p (take k xs) (drop k xs)) in
    omega (arith, whole, length-append (filter p (take k xs)) (filter p (drop k xs)))

-- one more has room
pub has_room : (out : ℕ → Bool) (k index room : ℕ) (old now : List SentControl) (before waiting : List ControlFrame) (d : SentControl) → k < length old → LostSoFar out k index old now before waiting
    → out (get_or now index d).number ≡ false → length before + length (filter (λ (s : SentControl). not (out s.number)) old) ≤ room → length waiting < room
has_room out k index room old now before waiting d within so_far is_lost fits =
    let same = next_is out k index old now before waiting d within so_far in
    let more = more_lost out k old d within (ap (λ (s : SentControl). out s.number) (sym same) ∙ is_lost) in
    omega (
      arith,
      fits,
      length_filter_take (λ (s : SentControl). not (out s.number)) (k + 1) old,
      ap length more.1,
      length-append (filter (λ (s : SentControl). not (out s.number)) (take k old)) (get_or old k d ∷ []),
      ap length so_far.waiting_is,
      length-append before (map (λ (s : SentControl). s.frame) (filter (λ (s : SentControl). not (out s.number)) (take k old))),
      length-map (filter (λ (s : SentControl). not (out s.number)) (take k old)) (λ (s : SentControl). s.frame),
    )

pub record AllLooked (out : ℕ → Bool) (old now : List SentControl) (before waiting : List ControlFrame) : Type 0 where
  pub sent_is : now ≡ filter (λ (s : SentControl). out s.number) old
  pub waiting_is : waiting ≡ before ++ map (λ (s : SentControl). s.frame) (filter (λ (s : SentControl). not (out s.number)) old)

pub all_looked_at : (out : ℕ → Bool) (k index : ℕ) (old now : List SentControl) (before waiting : List ControlFrame) → length old ≤ k → LostSoFar out k index old now before waiting → AllLooked out old now before waiting
all_looked_at out k index old now before waiting over so_far = record {
  sent_is = so_far.sent_is ∙ ap (λ (l : List SentControl). filter (λ (s : SentControl). out s.number) l ++ drop k old) (take_all k old over)
      ∙ ap (λ (l : List SentControl). filter (λ (s : SentControl). out s.number) old ++ l) (drop_all k old over) ∙ append-nil _;
  waiting_is = so_far.waiting_is ∙ ap (λ (l : List SentControl). before ++ map (λ (s : SentControl). s.frame) (filter (λ (s : SentControl). not (out s.number)) l)) (take_all k old over);
}
