-- A section's bytes have one list of fields.
use Rattle.std.proofs.Common.{◌≡◌, ℕ, ◌+◌, ◌-◌, ◌^◌, ◌<◌, ◌≤◌, nat_lt, true, false, List, [], ◌∷◌, ◌++◌, length, Option, Some, get_or, refl, sym, ap, ◌∙◌, arith, subst, cond}
use Rattle.std.proofs.lemmas.Bool.{lt-ltb, le-ltb}
use Rattle.qh_spec.specs.Fields.{Field}
use Rattle.qh_spec.specs.PrefixInteger.{IsPrefixed, short, long}
use Rattle.qh_spec.specs.Section.{Form, Indexed, Named, NamedNever, Literal, LiteralNever, lead_of, bits_of, IsString, IsNamedField, IsLiteralField, FollowsInteger, IsLine, AreLines, IsSection}
use Rattle.qh_spec.proofs.Cuts.{halves, inner, prefixed_agree, empty_front}

strings_agree : (a x b y s t : List ℕ) → IsString a s → IsString b t → a ++ x ≡ b ++ y → (s ≡ t) × (x ≡ y)
strings_agree a x b y s t p q e =
    let whole : (p.start ++ s) ++ x ≡ (q.start ++ t) ++ y = ap (λ (z : List ℕ). z ++ x) (sym p.whole) ∙ e ∙ ap (λ (z : List ℕ). z ++ y) q.whole in
    let r = prefixed_agree 0 7 p.start (s ++ x) q.start (t ++ y) (length s) (length t) p.count q.count (inner p.start s x q.start t y whole) in
    halves s x t y r.0 r.1

-- the form that a first byte tells
unfoldable pub form_at : ℕ → Form
form_at b = cond (nat_lt b 40) Literal (cond (nat_lt b 56) LiteralNever (cond (nat_lt b 96) Named (cond (nat_lt b 128) NamedNever Indexed)))

first_byte : (lead bits : ℕ) (a x : List ℕ) (n : ℕ) → 0 < 2 ^ bits → IsPrefixed lead bits a n → (lead ≤ get_or (a ++ x) 0 0) × (get_or (a ++ x) 0 0 < lead + 2 ^ bits)
first_byte lead bits a x n some (short p is) =
    let first : get_or (a ++ x) 0 0 ≡ lead + n = ap (λ (z : List ℕ). get_or (z ++ x) 0 0) is in
    (omega arith, omega arith)
first_byte lead bits a x n some (long more over is c s f) =
    let first : get_or (a ++ x) 0 0 ≡ lead + (2 ^ bits - 1) = ap (λ (z : List ℕ). get_or (z ++ x) 0 0) is in
    (omega arith, omega arith)

pub form_is : (form : Form) (a x : List ℕ) (n : ℕ) → IsPrefixed (lead_of form) (bits_of form) a n → form_at (get_or (a ++ x) 0 0) ≡ form
unfolding form_at
form_is Indexed a x n p =
    let first = first_byte 192 6 a x n (omega arith) p in
    let b : ℕ = get_or (a ++ x) 0 0 in
    let t : nat_lt b 40 ≡ false = le-ltb b 40 (omega (arith, first.0)) in
    let u : nat_lt b 56 ≡ false = le-ltb b 56 (omega (arith, first.0)) in
    let v : nat_lt b 96 ≡ false = le-ltb b 96 (omega (arith, first.0)) in
    let w : nat_lt b 128 ≡ false = le-ltb b 128 (omega (arith, first.0)) in
    rw (t, u, v, w)
form_is Named a x n p =
    let first = first_byte 80 4 a x n (omega arith) p in
    let b : ℕ = get_or (a ++ x) 0 0 in
    let t : nat_lt b 40 ≡ false = le-ltb b 40 (omega (arith, first.0)) in
    let u : nat_lt b 56 ≡ false = le-ltb b 56 (omega (arith, first.0)) in
    let v : nat_lt b 96 ≡ true = lt-ltb b 96 (omega (arith, first.1)) in
    rw (t, u, v)
form_is NamedNever a x n p =
    let first = first_byte 112 4 a x n (omega arith) p in
    let b : ℕ = get_or (a ++ x) 0 0 in
    let t : nat_lt b 40 ≡ false = le-ltb b 40 (omega (arith, first.0)) in
    let u : nat_lt b 56 ≡ false = le-ltb b 56 (omega (arith, first.0)) in
    let v : nat_lt b 96 ≡ false = le-ltb b 96 (omega (arith, first.0)) in
    let w : nat_lt b 128 ≡ true = lt-ltb b 128 (omega (arith, first.1)) in
    rw (t, u, v, w)
form_is Literal a x n p =
    let first = first_byte 32 3 a x n (omega arith) p in
    let b : ℕ = get_or (a ++ x) 0 0 in
    let t : nat_lt b 40 ≡ true = lt-ltb b 40 (omega (arith, first.1)) in
    rw t
form_is LiteralNever a x n p =
    let first = first_byte 48 3 a x n (omega arith) p in
    let b : ℕ = get_or (a ++ x) 0 0 in
    let t : nat_lt b 40 ≡ false = le-ltb b 40 (omega (arith, first.0)) in
    let u : nat_lt b 56 ≡ true = lt-ltb b 56 (omega (arith, first.1)) in
    rw (t, u)

-- a field from its two parts
pub field_is : (f g : Field) → f.name ≡ g.name → f.value ≡ g.value → f ≡ g
field_is f g a b = ap (λ (z : List ℕ × List ℕ). record { name = z.0; value = z.1 }) (let p : (f.name, f.value) ≡ (g.name, g.value) = cc in p)

named_agree : (n : ℕ) (a x b y : List ℕ) (f g : Field) → IsNamedField n a f → IsNamedField n b g → a ++ x ≡ b ++ y → (f ≡ g) × (x ≡ y)
named_agree n a x b y f g p q e =
    let row : ◌≡◌ {A = Option Field} (Some p.row) (Some q.row) = sym p.found ∙ q.found in
    let one : p.row ≡ q.row = cc in
    let name : f.name ≡ g.name = p.name ∙ ap (λ (r : Field). r.name) one ∙ sym q.name in
    let r = strings_agree a x b y f.value g.value p.value q.value e in
    (field_is f g name r.0, r.1)

literal_agree : (n : ℕ) (a x b y : List ℕ) (f g : Field) → IsLiteralField n a f → IsLiteralField n b g → a ++ x ≡ b ++ y → (f ≡ g) × (x ≡ y)
literal_agree n a x b y f g p q e =
    let whole : (f.name ++ p.value_bytes) ++ x ≡ (g.name ++ q.value_bytes) ++ y = ap (λ (z : List ℕ). z ++ x) (sym p.whole) ∙ e ∙ ap (λ (z : List ℕ). z ++ y) q.whole in
    let cut = halves f.name (p.value_bytes ++ x) g.name (q.value_bytes ++ y) (sym p.name ∙ q.name) (inner f.name p.value_bytes x g.name q.value_bytes y whole) in
    let r = strings_agree p.value_bytes x q.value_bytes y f.value g.value p.value q.value cut.1 in
    (field_is f g cut.0 r.0, r.1)

follows_agree : (form : Form) (n : ℕ) (a x b y : List ℕ) (f g : Field) → FollowsInteger form n a f → FollowsInteger form n b g → a ++ x ≡ b ++ y → (f ≡ g) × (x ≡ y)
follows_agree Indexed n a x b y f g p q e =
    let row : ◌≡◌ {A = Option Field} (Some f) (Some g) = sym p.1 ∙ q.1 in
    let one : f ≡ g = cc in
    (one, ap (λ (z : List ℕ). z ++ x) (sym p.0) ∙ e ∙ ap (λ (z : List ℕ). z ++ y) q.0)
follows_agree Named n a x b y f g p q e = named_agree n a x b y f g p q e
follows_agree NamedNever n a x b y f g p q e = named_agree n a x b y f g p q e
follows_agree Literal n a x b y f g p q e = literal_agree n a x b y f g p q e
follows_agree LiteralNever n a x b y f g p q e = literal_agree n a x b y f g p q e

-- the integer and what follows it, of two lines of one form
rest_agree : (form other : Form) → form ≡ other → (m n : ℕ) (a r x b s y : List ℕ) (f g : Field) → IsPrefixed (lead_of form) (bits_of form) a m → IsPrefixed (lead_of other) (bits_of other) b n
    → FollowsInteger form m r f → FollowsInteger other n s g → a ++ (r ++ x) ≡ b ++ (s ++ y) → (f ≡ g) × (x ≡ y)
rest_agree form other same m n a r x b s y f g p q u v e =
    let q' : IsPrefixed (lead_of form) (bits_of form) b n = subst (λ (z : Form). IsPrefixed (lead_of z) (bits_of z) b n) (sym same) q in
    let v' : FollowsInteger form n s g = subst (λ (z : Form). FollowsInteger z n s g) (sym same) v in
    let i = prefixed_agree (lead_of form) (bits_of form) a (r ++ x) b (s ++ y) m n p q' e in
    let u' : FollowsInteger form n r f = subst (λ (z : ℕ). FollowsInteger form z r f) i.0 u in
    follows_agree form n r x s y f g u' v' i.1

-- no line begins another
pub lines_agree : (a x b y : List ℕ) (f g : Field) → IsLine a f → IsLine b g → a ++ x ≡ b ++ y → (f ≡ g) × (x ≡ y)
lines_agree a x b y f g p q e =
    let whole : (p.start ++ p.rest) ++ x ≡ (q.start ++ q.rest) ++ y = ap (λ (z : List ℕ). z ++ x) (sym p.whole) ∙ e ∙ ap (λ (z : List ℕ). z ++ y) q.whole in
    let cut : p.start ++ (p.rest ++ x) ≡ q.start ++ (q.rest ++ y) = inner p.start p.rest x q.start q.rest y whole in
    let same : p.form ≡ q.form = sym (form_is p.form p.start (p.rest ++ x) p.number p.integer) ∙ ap (λ (z : List ℕ). form_at (get_or z 0 0)) cut ∙ form_is q.form q.start (q.rest ++ y) q.number q.integer in
    rest_agree p.form q.form same p.number q.number p.start p.rest x q.start q.rest y f g p.integer q.integer p.follows q.follows cut

-- an integer has a byte, and so has a line
prefixed_some : (lead bits : ℕ) (n : ℕ) (x : List ℕ) → IsPrefixed lead bits [] n → ⊥
prefixed_some lead bits n x (short p is) = cc
prefixed_some lead bits n x (long more over is c s f) = cc

pub no_empty_line : (f : Field) → IsLine [] f → ⊥
no_empty_line f p =
    let none : p.start ≡ [] = empty_front p.start p.rest p.whole in
    prefixed_some (lead_of p.form) (bits_of p.form) p.number [] (subst (λ (z : List ℕ). IsPrefixed (lead_of p.form) (bits_of p.form) z p.number) none p.integer)

no_line_here : (f : Field) (line rest : List ℕ) → [] ≡ line ++ rest → IsLine line f → ⊥
no_line_here f line rest e p = no_empty_line f (subst (λ (z : List ℕ). IsLine z f) (empty_front line rest e) p)

pub fields_agree : (bytes : List ℕ) (fs gs : List Field) → AreLines bytes fs → AreLines bytes gs → fs ≡ gs
fields_agree bytes [] [] p q = refl
fields_agree bytes [] (g ∷ gs) p q = absurd (no_line_here g q.0 q.1 (sym p ∙ q.2) q.3)
fields_agree bytes (f ∷ fs) [] p q = absurd (no_line_here f p.0 p.1 (sym q ∙ p.2) p.3)
fields_agree bytes (f ∷ fs) (g ∷ gs) p q =
    let r = lines_agree p.0 p.1 q.0 q.1 f g p.3 q.3 (sym p.2 ∙ q.2) in
    let s : fs ≡ gs = fields_agree p.1 fs gs p.4 (subst (λ (z : List ℕ). AreLines z gs) (sym r.1) q.4) in
    let h : f ≡ g = r.0 in
    cc

pub section_is_one : (bytes : List ℕ) (fs gs : List Field) → IsSection bytes fs → IsSection bytes gs → fs ≡ gs
section_is_one bytes fs gs p q =
    let both : 0 ∷ 0 ∷ p.0 ≡ 0 ∷ 0 ∷ q.0 = sym p.1 ∙ q.1 in
    let lines : p.0 ≡ q.0 = cc in
    fields_agree p.0 fs gs p.2 (subst (λ (z : List ℕ). AreLines z gs) (sym lines) q.2)
