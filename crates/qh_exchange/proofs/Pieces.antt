-- Texts that are read and written piece by piece.
use Rattle.std.proofs.Common.{◌≡◌, inl, inr, ℕ, ◌+◌, ◌<◌, ◌≤◌, List, [], ◌∷◌, ◌++◌, length, take, drop, Option, Some, Result, refl, sym, ap, ◌∙◌, subst, arith, append_assoc, append-nil, length-append, length-drop}
use Rattle.std.specs.Prelude.{Bool, true, false, option_map, Ok, Err, IfErr}
use Rattle.std.proofs.lemmas.List.{take-append-drop}
use Rattle.qh_spec.specs.Fault.{Rose}
use Rattle.qh_spec.specs.Script.{max_script}
use Rattle.qh_exchange.specs.Reading.{HasRead, IsInput, all, front, IsAppended, IsWritten, whole, cut, WritesText, all_written, front_written, IsPiece, IsAtEnd}

-- ---- reading

-- a text was read in so many pieces
pub record ReadSoFar (before now : Option (List ℕ)) (text : List ℕ) (faults_before faults_now count : ℕ) : Type 0 where
  pub read : HasRead before now text
  pub still : faults_now ≡ faults_before
  pub many : count ≤ length text

pub read_none : (before : Option (List ℕ)) (faults : ℕ) → ReadSoFar before before [] faults faults 0
read_none before faults = record { read = λ left e. (left, refl, e); still = refl; many = omega arith }

pub read_more : (before now after : Option (List ℕ)) (text next : List ℕ) (f g h count : ℕ) → ReadSoFar before now text f g count → IsPiece now after text next
    → h ≡ g → ReadSoFar before after next f h (count + 1)
read_more before now after text next f g h count r p l =
    let many = r.many in
    let some = p.some in
    record {
      read = λ left e.
          let x = r.read left e in
          let y = p.read x.0 x.2 in
          (y.0, x.1 ∙ ap (λ (z : List ℕ). text ++ z) y.1 ∙ sym (append_assoc text p.bytes y.0) ∙ ap (λ (z : List ℕ). z ++ y.0) (sym p.is), y.2);
      still = l ∙ r.still;
      many = rw p.is (omega (arith, length-append text p.bytes));
    }

pub read_all : (before now after : Option (List ℕ)) (text next : List ℕ) (f g h count : ℕ) → ReadSoFar before now text f g count → (next ≡ text) × IsAtEnd now after × (h ≡ g)
    → IsInput before after next × (h ≡ f)
read_all before now after text next f g h count r end = (
  all
      (λ left e.
      let x = r.read left e in
      let y = end.1 x.0 x.2 in
      (x.1 ∙ ap (λ (z : List ℕ). text ++ z) y.0 ∙ append-nil text ∙ sym end.0, y.1)),
  end.2 ∙ r.still,
)

pub read_long : (before now : Option (List ℕ)) (text : List ℕ) (f g count : ℕ) → ReadSoFar before now text f g count → max_script < length text → IsInput before now text × (g ≡ f)
read_long before now text f g count r l = (front r.read l, r.still)

pub rose_after : (f g h : ℕ) → f ≤ g → Rose g h → Rose f h
rose_after f g h l (inl r) = inl (omega arith)
rose_after f g h l (inr e) = inr e

-- bytes were read behind a text, and not kept
pub unread_more : (before now after : Option (List ℕ)) (text : List ℕ) (f g h count : ℕ) → ReadSoFar before now text f g count
    → (bytes : List ℕ) × (0 < length bytes) × HasRead now after bytes × (h ≡ g) → (all : List ℕ) × (0 < length all) × HasRead before after all × (h ≡ f)
unread_more before now after text f g h count r p =
    let some = p.1 in (
      text ++ p.0,
      omega (arith, length-append text p.0),
      λ left e. let x = r.read left e in let y = p.2 x.0 x.2 in (y.0, x.1 ∙ ap (λ (z : List ℕ). text ++ z) y.1 ∙ sym (append_assoc text p.0 y.0), y.2),
      p.3 ∙ r.still,
    )

-- what holds anyway is said of an error
pub at_err : {V E : Type 0} (r : Result V E) (P : Type 0) → P → IfErr r (λ (_ : E). P)
at_err (Ok v) P p = tt
at_err (Err e) P p = p

-- ---- writing

-- a front of the text was written in so many pieces, and this rest is left
pub record WrittenSoFar (text rest : List ℕ) (before now : Option (List ℕ)) (faults_before faults_now count : ℕ) : Type 0 where
  pub done : List ℕ
  pub is : text ≡ done ++ rest
  pub appended : IsAppended before now done
  pub stays : faults_before ≤ faults_now
  pub few : count + length rest ≤ length text

pub written_none : (text : List ℕ) (before : Option (List ℕ)) (faults : ℕ) → WrittenSoFar text text before before faults faults 0
written_none text before faults = record {
  done = [];
  is = refl;
  appended = λ w e. e ∙ ap Some (sym (append-nil w));
  stays = omega arith;
  few = omega arith;
}

appended_more : (before now after : Option (List ℕ)) (done piece : List ℕ) → IsAppended before now done → after ≡ option_map (λ (xs : List ℕ). xs ++ piece) now
    → IsAppended before after (done ++ piece)
appended_more before now after done piece p e w b =
    e ∙ ap (option_map (λ (xs : List ℕ). xs ++ piece)) (p w b) ∙ ap Some (append_assoc w done piece)

pub written_more : (text rest : List ℕ) (before now after : Option (List ℕ)) (f g h count n : ℕ) → WrittenSoFar text rest before now f g count → 0 < n → n ≤ length rest
    → after ≡ option_map (λ (xs : List ℕ). xs ++ take n rest) now → g ≤ h → WrittenSoFar text (drop n rest) before after f h (count + 1)
written_more text rest before now after f g h count n p some fits e l =
    let stays = p.stays in
    let few = p.few in
    record {
      done = p.done ++ take n rest;
      is = p.is ∙ ap (λ (z : List ℕ). p.done ++ z) (sym (take-append-drop n rest)) ∙ sym (append_assoc p.done (take n rest) (drop n rest));
      appended = appended_more before now after p.done (take n rest) p.appended e;
      stays = omega arith;
      few = omega (arith, length-drop n rest);
    }

nothing_left : (rest : List ℕ) → length rest ≡ 0 → rest ≡ []
nothing_left [] e = refl
nothing_left (b ∷ bs) e = absurd (omega arith)

pub written_all : (text rest : List ℕ) (before now : Option (List ℕ)) (f g count : ℕ) → WrittenSoFar text rest before now f g count → length rest ≡ 0
    → WritesText text before now f g true
written_all text rest before now f g count p e =
    let same : text ≡ p.done = p.is ∙ ap (λ (z : List ℕ). p.done ++ z) (nothing_left rest e) ∙ append-nil p.done in
    all_written (subst (IsAppended before now) (sym same) p.appended) p.stays

pub written_cut : (text rest : List ℕ) (before now after : Option (List ℕ)) (f g h count : ℕ) → WrittenSoFar text rest before now f g count
    → after ≡ option_map (λ (xs : List ℕ). xs ++ []) now → Rose g h → WritesText text before after f h false
written_cut text rest before now after f g h count p e r =
    front_written p.done rest p.is
    (subst (IsAppended before after) (append-nil p.done) (appended_more before now after p.done [] p.appended e))
    (rose_after f g h p.stays r)

-- ---- one text behind another

pub written_nothing : (before : Option (List ℕ)) (faults : ℕ) → WritesText [] before before faults faults true
written_nothing before faults = all_written (λ w e. e ∙ ap Some (sym (append-nil w))) (omega arith)

appended_both : (before now after : Option (List ℕ)) (a b : List ℕ) → IsAppended before now a → IsAppended now after b → IsAppended before after (a ++ b)
appended_both before now after a b p q w e = q (w ++ a) (p w e) ∙ ap Some (append_assoc w a b)

-- the text that was written, by another name
pub written_as : (a b : List ℕ) (before now : Option (List ℕ)) (f g : ℕ) (r : Bool) → a ≡ b → WritesText a before now f g r → WritesText b before now f g r
written_as a b before now f g r e w = subst (λ (z : List ℕ). WritesText z before now f g r) e w

-- the sink failed in the first text
pub cut_first : (a b : List ℕ) (before now : Option (List ℕ)) (f g : ℕ) (r : Bool) → r ≡ false → WritesText a before now f g r → WritesText (a ++ b) before now f g false
cut_first a b before now f g r e (all_written p l) = cc
cut_first a b before now f g r e (front_written x y s p l) = front_written x (y ++ b) (ap (λ (z : List ℕ). z ++ b) s ∙ append_assoc x y b) p l

-- the second text behind the first, which was written
pub then_second : (a b : List ℕ) (before now after : Option (List ℕ)) (f g h : ℕ) (r q : Bool) → r ≡ true → WritesText a before now f g r → WritesText b now after g h q
    → WritesText (a ++ b) before after f h q
then_second a b before now after f g h r q e (all_written p l) (all_written s m) = all_written (appended_both before now after a b p s) (omega arith)
then_second a b before now after f g h r q e (all_written p l) (front_written x y t s m) =
    front_written (a ++ x) y (ap (λ (z : List ℕ). a ++ z) t ∙ sym (append_assoc a x y)) (appended_both before now after a x p s) (rose_after f g h l m)
then_second a b before now after f g h r q e (front_written x y t s m) w = cc

-- ---- what was written, by its status

pub written_status : (status : ℕ) (text : List ℕ) (before after : Option (List ℕ)) (f g : ℕ) (r : Bool) → r ≡ true → WritesText text before after f g r
    → IsWritten status text before after f g status
written_status status text before after f g r e (all_written p l) = whole p
written_status status text before after f g r e (front_written x y t s m) = cc

pub written_eleven : (status : ℕ) (text : List ℕ) (before after : Option (List ℕ)) (f g : ℕ) (r : Bool) → r ≡ false → WritesText text before after f g r
    → IsWritten status text before after f g 11
written_eleven status text before after f g r e (all_written p l) = cc
written_eleven status text before after f g r e (front_written x y t s m) = cut x y t s m
