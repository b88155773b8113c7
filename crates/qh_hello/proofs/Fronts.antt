-- The hello that begins some bytes.
use Rattle.std.proofs.Common.{◌≡◌, ℕ, ◌-◌, List, [], ◌∷◌, ◌++◌, length, take, drop, refl, sym, ap, ◌∙◌, arith, subst, append_assoc, append-nil, length-append}
use Rattle.std.proofs.lemmas.List.{take_at}
use Rattle.qh_hello.proofs.Readings.{counted_agree, counted_from, counted_whole}
use Rattle.qh_hello.specs.Parts.{IsCounted, IsHelloForm}
use Rattle.qh_spec.proofs.Cuts.{halves}
use Rattle.qh_spec.specs.Hello.{Hello, IsHello, hello_byte}

-- more bytes may follow
counted_more : (bytes value rest more : List ℕ) → IsCounted bytes value rest → IsCounted (bytes ++ more) value (rest ++ more)
counted_more bytes value rest more c =
    counted_from (bytes ++ more) c.1.0 value (rest ++ more)
    (ap (λ (z : List ℕ). z ++ more) (counted_whole bytes value rest c) ∙ append_assoc c.1.0 (value ++ rest) more ∙ ap (λ (z : List ℕ). c.1.0 ++ z) (append_assoc value rest more)) c.1.2

-- what stands behind the first byte of a hello that begins some bytes
behind_first : (first : ℕ) (behind front rest : List ℕ) → first ∷ behind ≡ front ++ rest → (f : IsHelloForm front) → behind ≡ f.behind ++ rest
behind_first first behind front rest e f = ap (λ (z : List ℕ). drop 1 z) (e ∙ ap (λ (z : List ℕ). z ++ rest) f.whole)

pub no_name_yet : (bytes : List ℕ) (first : ℕ) (behind : List ℕ) → bytes ≡ first ∷ behind → ((value rest : List ℕ) → IsCounted behind value rest → ⊥)
    → (front rest : List ℕ) → bytes ≡ front ++ rest → IsHelloForm front → ⊥
no_name_yet bytes first behind is never front rest e f =
    let there = behind_first first behind front rest (sym is ∙ e) f in
    never f.name (f.counted ++ rest) (subst (λ (z : List ℕ). IsCounted z f.name (f.counted ++ rest)) (sym there) (counted_more f.behind f.name f.counted rest f.name_is))

pub no_parameters_yet : (bytes : List ℕ) (first : ℕ) (behind name counted : List ℕ) → bytes ≡ first ∷ behind → IsCounted behind name counted → ((value rest : List ℕ) → IsCounted counted value rest → ⊥)
    → (front rest : List ℕ) → bytes ≡ front ++ rest → IsHelloForm front → ⊥
no_parameters_yet bytes first behind name counted is c never front rest e f =
    let there = behind_first first behind front rest (sym is ∙ e) f in
    let d = subst (λ (z : List ℕ). IsCounted z f.name (f.counted ++ rest)) (sym there) (counted_more f.behind f.name f.counted rest f.name_is) in
    let same = counted_agree behind f.name (f.counted ++ rest) name counted d c in
    never f.parameter_bytes rest (subst (λ (z : List ℕ). IsCounted z f.parameter_bytes rest) same.1 (counted_more f.counted f.parameter_bytes [] rest f.parameters_are))

pub form_here : (bytes : List ℕ) (first : ℕ) (behind name counted parameters rest : List ℕ) → bytes ≡ first ∷ behind → IsCounted behind name counted → IsCounted counted parameters rest
    → (more : List ℕ) × (bytes ≡ take (length bytes - length rest) bytes ++ more) × IsHelloForm (take (length bytes - length rest) bytes)
form_here bytes first behind name counted parameters rest is c d =
    let middle : List ℕ = d.1.0 ++ parameters in
    let tail : counted ≡ middle ++ rest = counted_whole counted parameters rest d ∙ sym (append_assoc d.1.0 parameters rest) in
    let inner : List ℕ = c.1.0 ++ (name ++ middle) in
    let after : behind ≡ inner ++ rest =
    counted_whole behind name counted c ∙ ap (λ (z : List ℕ). c.1.0 ++ (name ++ z)) tail ∙ ap (λ (z : List ℕ). c.1.0 ++ z) (sym (append_assoc name middle rest)) ∙ sym (append_assoc c.1.0 (name ++ middle) rest) in
    let whole : bytes ≡ (first ∷ inner) ++ rest = is ∙ ap (λ (z : List ℕ). first ∷ z) after in
    let total = ap length whole in
    let parts = length-append (first ∷ inner) rest in
    let size : length bytes - length rest ≡ length (first ∷ inner) = omega (arith, total, parts) in
    let front : take (length bytes - length rest) bytes ≡ first ∷ inner = ap (λ (z : List ℕ). take (length bytes - length rest) z) whole ∙ take_at (first ∷ inner) rest (length bytes - length rest) (sym size) in
    let form : IsHelloForm (first ∷ inner) = record {
      first = first;
      behind = inner;
      name = name;
      counted = middle;
      parameter_bytes = parameters;
      whole = refl;
      name_is = counted_from inner c.1.0 name middle refl c.1.2;
      parameters_are = counted_from middle d.1.0 parameters [] (ap (λ (z : List ℕ). d.1.0 ++ z) (sym (append-nil parameters))) d.1.2;
    } in
    (rest, whole ∙ ap (λ (z : List ℕ). z ++ rest) (sym front), subst IsHelloForm (sym front) form)

-- ---- what has the form of a hello

pub form_of_hello : (bytes : List ℕ) (h : Hello) → IsHello bytes h → IsHelloForm bytes
form_of_hello bytes h i = record {
  first = hello_byte h.sender;
  behind = i.name_length ++ (h.server_name ++ (i.parameters_length ++ i.parameter_bytes));
  name = h.server_name;
  counted = i.parameters_length ++ i.parameter_bytes;
  parameter_bytes = i.parameter_bytes;
  whole = i.whole;
  name_is = counted_from _ i.name_length h.server_name (i.parameters_length ++ i.parameter_bytes) refl i.name_is;
  parameters_are = counted_from _ i.parameters_length i.parameter_bytes [] (ap (λ (z : List ℕ). i.parameters_length ++ z) (sym (append-nil i.parameter_bytes))) i.length_is;
}

pub forms_agree : (a b x y : List ℕ) → IsHelloForm a → IsHelloForm b → a ++ x ≡ b ++ y → (a ≡ b) × (x ≡ y)
forms_agree a b x y f g e =
    let heads : f.first ∷ (f.behind ++ x) ≡ g.first ∷ (g.behind ++ y) = ap (λ (z : List ℕ). z ++ x) (sym f.whole) ∙ e ∙ ap (λ (z : List ℕ). z ++ y) g.whole in
    let behind : g.behind ++ y ≡ f.behind ++ x = sym (ap (λ (z : List ℕ). drop 1 z) heads) in
    let other : IsCounted (f.behind ++ x) g.name (g.counted ++ y) = subst (λ (z : List ℕ). IsCounted z g.name (g.counted ++ y)) behind (counted_more g.behind g.name g.counted y g.name_is) in
    let names = counted_agree (f.behind ++ x) f.name (f.counted ++ x) g.name (g.counted ++ y) (counted_more f.behind f.name f.counted x f.name_is) other in
    let last : IsCounted (f.counted ++ x) g.parameter_bytes y = subst (λ (z : List ℕ). IsCounted z g.parameter_bytes y) (sym names.1) (counted_more g.counted g.parameter_bytes [] y g.parameters_are) in
    let rest : x ≡ y = (counted_agree (f.counted ++ x) f.parameter_bytes x g.parameter_bytes y (counted_more f.counted f.parameter_bytes [] x f.parameters_are) last).1 in
    let total = ap length e in
    let left = length-append a x in
    let right = length-append b y in
    let same = ap length rest in
    ((halves a x b y (omega (arith, total, left, right, same)) e).0, rest)
