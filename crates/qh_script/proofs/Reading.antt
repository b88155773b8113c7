-- Lines that make one state of another, as far as a text was read.
use Rattle.std.proofs.Common.{◌≡◌, ℕ, ◌+◌, ◌<◌, ◌≤◌, List, [], ◌∷◌, ◌++◌, length, refl, sym, ap, ◌∙◌, subst, arith, append_assoc, append-nil, length-append}
use Rattle.qh_spec.specs.Lines.{lines, InTurn}
use Rattle.qh_script.specs.Script.{IsFirstRefused}

push : {S : Type 0} (makes : List ℕ → S → S → Type 0) (ls : List (List ℕ)) (l : List ℕ) (s mid t : S) → InTurn makes ls s mid → makes l mid t → InTurn makes (ls ++ l ∷ []) s t
push {S} makes [] l s mid t p q = (t, subst (λ (m : S). makes l m t) p q, refl)
push makes (k ∷ ls) l s mid t p q = (p.0, p.1, push makes ls l p.0 mid t p.2 q)

-- how far the lines of a text were taken
pub record Seen {S : Type 0} (makes : List ℕ → S → S → Type 0) (text rest : List ℕ) (old now : S) (count : ℕ) : Type 0 where
  pub seen : List (List ℕ)
  pub is : lines text ≡ seen ++ lines rest
  pub taken : InTurn makes seen old now
  pub counted : count ≡ length seen
  pub room : count + length rest ≤ length text

pub seen_none : {S : Type 0} (makes : List ℕ → S → S → Type 0) (text : List ℕ) (s : S) → Seen makes text text s s 0
seen_none makes text s = record { seen = []; is = refl; taken = refl; counted = refl; room = omega arith }

pub seen_more : {S : Type 0} (makes : List ℕ → S → S → Type 0) (text rest line behind : List ℕ) (old now next : S) (n : ℕ) → Seen makes text rest old now n
    → lines rest ≡ line ∷ lines behind → length behind < length rest → makes line now next → Seen makes text behind old next (n + 1)
seen_more makes text rest line behind old now next n p cut shorter taken =
    let room = p.room in
    let counted = p.counted in
    record {
      seen = p.seen ++ line ∷ [];
      is = p.is ∙ ap (λ (z : List (List ℕ)). p.seen ++ z) cut ∙ sym (append_assoc p.seen (line ∷ []) (lines behind));
      taken = push makes p.seen line old now next p.taken taken;
      counted = omega (arith, length-append p.seen (line ∷ []));
      room = omega arith;
    }

pub seen_refused : {S : Type 0} (makes : List ℕ → S → S → Type 0) (text rest line behind : List ℕ) (old now : S) (n : ℕ) → Seen makes text rest old now n
    → lines rest ≡ line ∷ lines behind → ((t : S) → makes line now t → ⊥) → IsFirstRefused makes text old (n + 1)
seen_refused makes text rest line behind old now n p cut never = record {
  front = p.seen;
  line = line;
  rest = lines behind;
  mid = now;
  is = p.is ∙ ap (λ (z : List (List ℕ)). p.seen ++ z) cut;
  taken = p.taken;
  refused = never;
  count = ap (λ (m : ℕ). m + 1) p.counted;
}

seen_lines : {S : Type 0} (makes : List ℕ → S → S → Type 0) (text rest : List ℕ) (old now : S) (n : ℕ) (p : Seen makes text rest old now n) → length rest ≡ 0 → lines text ≡ p.seen
seen_lines makes text [] old now n p none = p.is ∙ append-nil p.seen
seen_lines makes text (b ∷ rest) old now n p none = absurd (omega arith)

pub seen_all : {S : Type 0} (makes : List ℕ → S → S → Type 0) (text rest : List ℕ) (old now : S) (n : ℕ) → Seen makes text rest old now n → length rest ≡ 0
    → InTurn makes (lines text) old now
seen_all makes text rest old now n p none =
    subst (λ (ls : List (List ℕ)). InTurn makes ls old now) (sym (seen_lines makes text rest old now n p none)) p.taken

pub seen_count : {S : Type 0} (makes : List ℕ → S → S → Type 0) (text rest : List ℕ) (old now : S) (n : ℕ) → Seen makes text rest old now n → length rest ≡ 0
    → n ≡ length (lines text)
seen_count makes text rest old now n p none = p.counted ∙ ap (λ (ls : List (List ℕ)). length ls) (sym (seen_lines makes text rest old now n p none))

joined : {S : Type 0} (makes : List ℕ → S → S → Type 0) (ls ms : List (List ℕ)) (s mid t : S) → InTurn makes ls s mid → InTurn makes ms mid t → InTurn makes (ls ++ ms) s t
joined {S} makes [] ms s mid t p q = subst (λ (m : S). InTurn makes ms m t) p q
joined makes (l ∷ ls) ms s mid t p q = (p.0, p.1, joined makes ls ms p.0 mid t p.2 q)

-- what is known of the rest of a text, as it is of the whole
pub rest_refused : {S : Type 0} (makes : List ℕ → S → S → Type 0) (text rest : List ℕ) (old now : S) (n m : ℕ) → Seen makes text rest old now n → IsFirstRefused makes rest now m
    → IsFirstRefused makes text old (n + m)
rest_refused makes text rest old now n m p q =
    let counted = p.counted in
    let count = q.count in
    record {
      front = p.seen ++ q.front;
      line = q.line;
      rest = q.rest;
      mid = q.mid;
      is = p.is ∙ ap (λ (z : List (List ℕ)). p.seen ++ z) q.is ∙ sym (append_assoc p.seen q.front (q.line ∷ q.rest));
      taken = joined makes p.seen q.front old now q.mid p.taken q.taken;
      refused = q.refused;
      count = omega (arith, length-append p.seen q.front);
    }

pub rest_taken : {S : Type 0} (makes : List ℕ → S → S → Type 0) (text rest : List ℕ) (old now t : S) (n : ℕ) → Seen makes text rest old now n → InTurn makes (lines rest) now t
    → InTurn makes (lines text) old t
rest_taken makes text rest old now t n p q =
    subst (λ (ls : List (List ℕ)). InTurn makes ls old t) (sym p.is) (joined makes p.seen (lines rest) old now t p.taken q)
