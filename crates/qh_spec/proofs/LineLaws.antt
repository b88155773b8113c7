-- A text says one thing as a line of a script.
use Rattle.std.proofs.Common.{◌≡◌, ℕ, suc, ◌+◌, ◌%◌, ◌^◌, ◌<◌, ◌≤◌, ◌==◌, Bool, true, false, not, ◌&&◌, List, [], ◌∷◌, ◌++◌, codes, decimal, nat_lt, bytes_eq, IsTrue, All, if◌then◌else◌, refl, sym, ap, ◌∙◌, subst, arith, inl, inr, ne_eqb, lt-ltb}
use Rattle.std.specs.List.{list_all}
use Rattle.std.proofs.lemmas.Bool.{false≢true}
use Rattle.std.proofs.lemmas.Fmt.{decimal_injective, decimal_by_steps}
use Rattle.std.proofs.lemmas.List.Folds.{list_all-append}
use Rattle.http_header.specs.Token.{IsToken, is_token_byte, lowercase}
use Rattle.http_header.proofs.TokenLemmas.{token_byte_range}
use Rattle.http_uri.specs.Grammar.{IsUriText}
use Rattle.qh_spec.specs.declared.link.Select.{Select}
use Rattle.qh_spec.specs.declared.link.Select.TheVariants as select
use Rattle.qh_spec.specs.declared.link.Upset.{Upset}
use Rattle.qh_spec.specs.declared.link.Upset.TheVariants.{Lose, Twice, Late, Fail, Forge}
use Rattle.qh_spec.specs.declared.script.Setting.{Setting}
use Rattle.qh_spec.specs.declared.script.Setting.TheVariants.{Section, RequestBody, Response, Cap, Bidi, Window, Idle, Rtt, Rounds, Step}
use Rattle.qh_spec.specs.declared.sides.Side.{Side}
use Rattle.qh_spec.specs.declared.sides.Side.TheVariants.{Client, Server}
use Rattle.qh_spec.specs.Lines.{IsHexDigit, IsHex}
use Rattle.qh_spec.specs.Message.{PlainTarget}
use Rattle.qh_spec.specs.ScriptLine.{Line, Request, Field, Trailer, Body, Fill, Set, RetryOn, GreaseOff, Disturb, setting_word, setting_bound, IsSelect, one, all, each, side_word, IsNamedValue, IsUpset, lose, twice, late, fail, forge, Says, request, field, trailer, body, fill, set, retry, grease, disturb, IsLine, empty, worded}
use Rattle.qh_spec.proofs.TargetReading.{target_one}

-- Texts without a space.
abbrev pub is_solid : List ℕ → Bool
is_solid text = list_all (λ b. not (b == 32)) text

both_left : (x y : Bool) → (x && y) ≡ true → x ≡ true
both_left true y e = refl
both_left false y e = e

both_right : (x y : Bool) → (x && y) ≡ true → y ≡ true
both_right true y e = e
both_right false y e = absurd (false≢true e)

solid_rest : (b : ℕ) (bs : List ℕ) → is_solid (b ∷ bs) ≡ true → is_solid bs ≡ true
solid_rest b bs e = both_right (not (b == 32)) (is_solid bs) e

solid_first : (b : ℕ) (bs : List ℕ) → is_solid (b ∷ bs) ≡ true → b ≡ 32 → ⊥
solid_first b bs e is =
    let e' : not (32 == 32) ≡ true = subst (λ (x : ℕ). not (x == 32) ≡ true) is (both_left (not (b == 32)) (is_solid bs) e) in
    false≢true e'

pub not_solid : (front rest : List ℕ) → is_solid (front ++ 32 ∷ rest) ≡ true → ⊥
not_solid [] rest e = false≢true e
not_solid (b ∷ front) rest e = not_solid front rest (solid_rest b (front ++ 32 ∷ rest) e)

-- cut at the first space
pub split_first : (a b x y : List ℕ) → is_solid a ≡ true → is_solid b ≡ true → a ++ 32 ∷ x ≡ b ++ 32 ∷ y → (a ≡ b) × (x ≡ y)
split_first [] [] x y s t e = let rest : x ≡ y = cc in (refl, rest)
split_first [] (q ∷ b) x y s t e = let space : q ≡ 32 = cc in absurd (solid_first q b t space)
split_first (p ∷ a) [] x y s t e = let space : p ≡ 32 = cc in absurd (solid_first p a s space)
split_first (p ∷ a) (q ∷ b) x y s t e =
    let first : p ≡ q = cc in
    let rest : a ++ 32 ∷ x ≡ b ++ 32 ∷ y = cc in
    let r = split_first a b x y (solid_rest p a s) (solid_rest q b t) rest in
    (let same : a ≡ b = r.0 in cc, r.1)

-- cut at the last space
split_last : (a b x y : List ℕ) → is_solid x ≡ true → is_solid y ≡ true → a ++ 32 ∷ x ≡ b ++ 32 ∷ y → (a ≡ b) × (x ≡ y)
split_last [] [] x y s t e = let rest : x ≡ y = cc in (refl, rest)
split_last [] (q ∷ b) x y s t e = let rest : x ≡ b ++ 32 ∷ y = cc in absurd (not_solid b y (subst (λ (z : List ℕ). is_solid z ≡ true) rest s))
split_last (p ∷ a) [] x y s t e = let rest : y ≡ a ++ 32 ∷ x = cc in absurd (not_solid a x (subst (λ (z : List ℕ). is_solid z ≡ true) rest t))
split_last (p ∷ a) (q ∷ b) x y s t e =
    let first : p ≡ q = cc in
    let rest : a ++ 32 ∷ x ≡ b ++ 32 ∷ y = cc in
    let r = split_last a b x y s t rest in
    (let same : a ≡ b = r.0 in cc, r.1)

solid_token : (bs : List ℕ) → All (λ b. IsTrue (is_token_byte b)) bs → is_solid bs ≡ true
solid_token [] h = refl
solid_token (b ∷ bs) h =
    let here = token_byte_range b (h 0 0 (omega arith)) in
    let other : (b == 32) ≡ false = ne_eqb b 32 (omega arith) in
    rw other (solid_token bs (λ k d lt. h (suc k) d (omega arith)))

-- Decimal numbers.
passes_decimal : (test : ℕ → Bool) → ((d : ℕ) → d < 10 → test (48 + d) ≡ true) → (n : ℕ) → n < 2 ^ 64 → list_all test (decimal n) ≡ true
passes_decimal test ok n h =
    decimal_by_steps (λ m ds. list_all test ds ≡ true) (λ m lt. rw (ok m lt) refl)
    (λ m ds ge p. rw (list_all-append test ds ((48 + m % 10) ∷ []), p, ok (m % 10) (omega arith)) refl) n h

pub solid_decimal : (n : ℕ) → n < 2 ^ 64 → is_solid (decimal n) ≡ true
solid_decimal n h = passes_decimal (λ b. not (b == 32)) (λ d lt. rw (ne_eqb (48 + d) 32 (omega arith)) refl) n h

-- no byte past the digits
abbrev is_low : List ℕ → Bool
is_low text = list_all (λ b. nat_lt b 58) text

low_decimal : (n : ℕ) → n < 2 ^ 64 → is_low (decimal n) ≡ true
low_decimal n h = passes_decimal (λ b. nat_lt b 58) (λ d lt. lt-ltb (48 + d) 58 (omega arith)) n h

bound_low : (x : Setting) (n : ℕ) → n < setting_bound x → n < 2 ^ 64
bound_low Section n h = omega arith
bound_low RequestBody n h = omega arith
bound_low Response n h = omega arith
bound_low Cap n h = omega arith
bound_low Bidi n h = omega arith
bound_low Window n h = omega arith
bound_low Idle n h = omega arith
bound_low Rtt n h = omega arith
bound_low Rounds n h = omega arith
bound_low Step n h = omega arith

not_all : (k : ℕ) → k < 2 ^ 64 → codes "all" ≡ decimal k → ⊥
not_all k h e = false≢true (ap is_low e ∙ low_decimal k h)

not_each : (k : ℕ) (rest : List ℕ) → k < 2 ^ 64 → codes "each " ++ rest ≡ decimal k → ⊥
not_each k rest h e = false≢true (ap is_low e ∙ low_decimal k h)

select_one : (text : List ℕ) (s t : Select) → IsSelect text s → IsSelect text t → s ≡ t
select_one text s t (one k e l h) (one j f m i) = ap select.One (decimal_injective k j (omega arith) (omega arith) (sym e ∙ f))
select_one text s t (one k e l h) (all f) = absurd (not_all k (omega arith) (sym f ∙ e))
select_one text s t (one k e l h) (each j f m i) = absurd (not_each k (decimal j) (omega arith) (sym f ∙ e))
select_one text s t (all e) (one k f l h) = absurd (not_all k (omega arith) (sym e ∙ f))
select_one text s t (all e) (all f) = refl
select_one text s t (all e) (each j f m i) = let no : codes "all" ≡ codes "each " ++ decimal j = sym e ∙ f in absurd cc
select_one text s t (each j e m i) (one k f l h) = absurd (not_each k (decimal j) (omega arith) (sym e ∙ f))
select_one text s t (each j e m i) (all f) = let no : codes "all" ≡ codes "each " ++ decimal j = sym f ∙ e in absurd cc
select_one text s t (each j e m i) (each k f l h) =
    let both : codes "each " ++ decimal j ≡ codes "each " ++ decimal k = sym e ∙ f in
    let rest : decimal j ≡ decimal k = cc in
    ap select.Each (decimal_injective j k (omega arith) (omega arith) rest)

-- Hexadecimal texts.
digit_one : (c v w : ℕ) → IsHexDigit c v → IsHexDigit c w → v ≡ w
digit_one c v w (inl p) (inl q) = omega arith
digit_one c v w (inl p) (inr q) = elim q.2 [ inl e ↦ omega arith | inr e ↦ omega arith ]
digit_one c v w (inr p) (inl q) = elim p.2 [ inl e ↦ omega arith | inr e ↦ omega arith ]
digit_one c v w (inr p) (inr q) =
    elim p.2 [ inl e ↦ elim q.2 [ inl f ↦ omega arith | inr f ↦ omega arith ] | inr e ↦ elim q.2 [ inl f ↦ omega arith | inr f ↦ omega arith ] ]

hex_one : (text a b : List ℕ) → IsHex text a → IsHex text b → a ≡ b
hex_one [] [] [] p q = refl
hex_one [] [] (y ∷ b) p q = absurd q
hex_one [] (x ∷ a) b p q = absurd p
hex_one (c ∷ []) [] b p q = absurd p
hex_one (c ∷ []) (x ∷ a) b p q = absurd p
hex_one (c ∷ d ∷ text) [] b p q = absurd p
hex_one (c ∷ d ∷ text) (x ∷ a) [] p q = absurd q
hex_one (c ∷ d ∷ text) (x ∷ a) (y ∷ b) p q =
    let high : p.0 ≡ q.0 = digit_one c p.0 q.0 p.2 q.2 in
    let low : p.1 ≡ q.1 = digit_one d p.1 q.1 p.3 q.3 in
    let first : x ≡ y = omega (arith, p.4, q.4) in
    let rest : a ≡ b = hex_one text a b p.5 q.5 in
    cc

solid_side : (s : Side) → is_solid (side_word s) ≡ true
solid_side Client = refl
solid_side Server = refl

side_one : (s t : Side) → side_word s ≡ side_word t → s ≡ t
side_one Client Client e = refl
side_one Server Server e = refl
side_one Client Server e = absurd (false≢true (ap (bytes_eq (codes "server")) e))
side_one Server Client e = absurd (false≢true (ap (bytes_eq (codes "client")) e))

-- What a word tells of the line that begins with it.
data Kind : Type 0 where
  AsRequest : Kind
  AsField : Kind
  AsTrailer : Kind
  AsBody : Kind
  AsFill : Kind
  AsSet : Setting → Kind
  AsRetry : Kind
  AsGrease : Kind
  AsLose : Kind
  AsTwice : Kind
  AsLate : Kind
  AsFail : Kind
  AsForge : Kind

abbrev first_of : List ℕ → List (List ℕ × Kind) → Kind
first_of word [] = AsRequest
first_of word (row ∷ rows) = if bytes_eq word row.0 then row.1 else first_of word rows

abbrev kind : List ℕ → Kind
kind word =
    first_of word
    ((codes "field", AsField) ∷ (codes "trailer", AsTrailer) ∷ (codes "body", AsBody) ∷ (codes "fill", AsFill) ∷ (codes "section", AsSet Section)
    ∷ (codes "requestbody", AsSet RequestBody) ∷ (codes "response", AsSet Response) ∷ (codes "cap", AsSet Cap) ∷ (codes "bidi", AsSet Bidi)
    ∷ (codes "window", AsSet Window) ∷ (codes "idle", AsSet Idle) ∷ (codes "rtt", AsSet Rtt) ∷ (codes "rounds", AsSet Rounds)
    ∷ (codes "step", AsSet Step) ∷ (codes "retry", AsRetry) ∷ (codes "grease", AsGrease) ∷ (codes "drop", AsLose) ∷ (codes "twice", AsTwice)
    ∷ (codes "late", AsLate) ∷ (codes "fail", AsFail) ∷ (codes "forge", AsForge) ∷ [])

record MeansRequest (text : List ℕ) (l : Line) : Type 0 where
  method : List ℕ
  uri : List ℕ
  target : PlainTarget
  is : text ≡ method ++ (codes " " ++ uri)
  token : IsToken method
  spelled : IsUriText uri target.scheme target.authority target.path_and_query
  says : l ≡ Request method target

record MeansNamed (text : List ℕ) (of : List ℕ → List ℕ → Line) (l : Line) : Type 0 where
  name : List ℕ
  value : List ℕ
  is : IsNamedValue text name value
  says : l ≡ of (lowercase name) value

record MeansNumber (text : List ℕ) (of : ℕ → Line) (l : Line) : Type 0 where
  n : ℕ
  is : text ≡ decimal n
  bound : n < 2 ^ 64
  says : l ≡ of n

record MeansSelect (text : List ℕ) (of : Select → Upset) (l : Line) : Type 0 where
  which : Select
  is : IsSelect text which
  says : l ≡ Disturb (of which)

record MeansLate (text : List ℕ) (l : Line) : Type 0 where
  chosen : List ℕ
  which : Select
  n : ℕ
  is : text ≡ chosen ++ (codes " " ++ decimal n)
  select : IsSelect chosen which
  bound : n ≤ 1000
  says : l ≡ Disturb (Late which n)

record MeansForge (text : List ℕ) (l : Line) : Type 0 where
  round : ℕ
  side : Side
  hex : List ℕ
  bytes : List ℕ
  is : text ≡ decimal round ++ (codes " " ++ (side_word side ++ (codes " " ++ hex)))
  bound : round < 2 ^ 63
  spelled : IsHex hex bytes
  says : l ≡ Disturb (Forge round side bytes)

abbrev Means : Kind → List ℕ → Line → Type 0
Means AsRequest text l = MeansRequest text l
Means AsField text l = MeansNamed text Field l
Means AsTrailer text l = MeansNamed text Trailer l
Means AsBody text l = l ≡ Body text
Means AsFill text l = MeansNumber text Fill l
Means (AsSet x) text l = MeansNumber text (Set x) l
Means AsRetry text l = l ≡ RetryOn
Means AsGrease text l = l ≡ GreaseOff
Means AsLose text l = MeansSelect text Lose l
Means AsTwice text l = MeansSelect text Twice l
Means AsLate text l = MeansLate text l
Means AsFail text l = MeansNumber text (λ n. Disturb (Fail n)) l
Means AsForge text l = MeansForge text l

kind_set : (x : Setting) → kind (setting_word x) ≡ AsSet x
kind_set Section = refl
kind_set RequestBody = refl
kind_set Response = refl
kind_set Cap = refl
kind_set Bidi = refl
kind_set Window = refl
kind_set Idle = refl
kind_set Rtt = refl
kind_set Rounds = refl
kind_set Step = refl

solid_set : (x : Setting) → is_solid (setting_word x) ≡ true
solid_set Section = refl
solid_set RequestBody = refl
solid_set Response = refl
solid_set Cap = refl
solid_set Bidi = refl
solid_set Window = refl
solid_set Idle = refl
solid_set Rtt = refl
solid_set Rounds = refl
solid_set Step = refl

record Meaning (word text : List ℕ) (l : Line) : Type 0 where
  solid : is_solid word ≡ true
  means : Means (kind word) text l

at_word : (w word text : List ℕ) (l : Line) → word ≡ w → is_solid w ≡ true → Means (kind w) text l → Meaning word text l
at_word w word text l e s m = record { solid = subst (λ (z : List ℕ). is_solid z ≡ true) (sym e) s; means = subst (λ (z : List ℕ). Means (kind z) text l) (sym e) m }

upset_meaning : (word text : List ℕ) (u : Upset) → IsUpset word text u → Meaning word text (Disturb u)
upset_meaning word text _ (lose which w is) = at_word (codes "drop") word text _ w refl (record { which = which; is = is; says = refl })
upset_meaning word text _ (twice which w is) = at_word (codes "twice") word text _ w refl (record { which = which; is = is; says = refl })
upset_meaning word text _ (late chosen which n w is s low high) =
    at_word (codes "late") word text _ w refl (record { chosen = chosen; which = which; n = n; is = is; select = s; bound = high; says = refl })
upset_meaning word text _ (fail k w is low high) =
    at_word (codes "fail") word text _ w refl (record { n = k; is = is; bound = omega arith; says = refl })
upset_meaning word text _ (forge round side hex bytes w is low high spelled some few) =
    at_word (codes "forge") word text _ w refl
    (record { round = round; side = side; hex = hex; bytes = bytes; is = is; bound = high; spelled = spelled; says = refl })

meaning : (word text : List ℕ) (l : Line) → Says word text l → Meaning word text l
meaning word text _ (request method uri target w is token spelled) =
    at_word (codes "request") word text _ w refl
    (record { method = method; uri = uri; target = target; is = is; token = token; spelled = spelled; says = refl })
meaning word text _ (field name value w is) = at_word (codes "field") word text _ w refl (record { name = name; value = value; is = is; says = refl })
meaning word text _ (trailer name value w is) = at_word (codes "trailer") word text _ w refl (record { name = name; value = value; is = is; says = refl })
meaning word text _ (body w) = at_word (codes "body") word text _ w refl refl
meaning word text _ (fill n w is bound) = at_word (codes "fill") word text _ w refl (record { n = n; is = is; bound = omega arith; says = refl })
meaning word text _ (set x n w is bound) =
    at_word (setting_word x) word text _ w (solid_set x)
    (subst (λ (k : Kind). Means k text (Set x n)) (sym (kind_set x)) (record { n = n; is = is; bound = bound_low x n bound; says = refl }))
meaning word text _ (retry w is) = at_word (codes "retry") word text _ w refl refl
meaning word text _ (grease w is) = at_word (codes "grease") word text _ w refl refl
meaning word text _ (disturb u is) = upset_meaning word text u is

no_word : (word behind : List ℕ) → [] ≡ word ++ 32 ∷ behind → ⊥
no_word [] behind e = absurd cc
no_word (b ∷ word) behind e = absurd cc

-- a word of a setting and a number say nothing else
pub set_only : (x : Setting) (n : ℕ) (l : Line) → n < 2 ^ 64 → IsLine (setting_word x ++ 32 ∷ decimal n) l → l ≡ Set x n
set_only x n _ bound (empty e) = absurd (no_word (setting_word x) (decimal n) (sym e))
set_only x n l bound (worded word behind _ is says) =
    let m = meaning word behind l says in
    let cut = split_first (setting_word x) word (decimal n) behind (solid_set x) m.solid is in
    let means : Means (AsSet x) behind l =
    subst (λ (k : Kind). Means k behind l) (kind_set x) (subst (λ (z : List ℕ). Means (kind z) behind l) (sym cut.0) m.means) in
    means.says ∙ ap (Set x) (decimal_injective means.n n means.bound bound (sym means.is ∙ sym cut.1))

request_one : (text : List ℕ) (l m : Line) → MeansRequest text l → MeansRequest text m → l ≡ m
request_one text l m p q =
    let cut = split_first p.method q.method p.uri q.uri (solid_token p.method p.token.1) (solid_token q.method q.token.1) (sym p.is ∙ q.is) in
    let methods : p.method ≡ q.method = cut.0 in
    let spelled = subst (λ (z : List ℕ). IsUriText z p.target.scheme p.target.authority p.target.path_and_query) cut.1 p.spelled in
    let targets : p.target ≡ q.target = target_one q.uri p.target q.target spelled q.spelled in
    p.says ∙ ap (λ (z : List ℕ). Request z p.target) methods ∙ ap (Request q.method) targets ∙ sym q.says

named_one : (text : List ℕ) (of : List ℕ → List ℕ → Line) (l m : Line) → MeansNamed text of l → MeansNamed text of m → l ≡ m
named_one text of l m p q =
    let cut = split_first p.name q.name p.value q.value (solid_token p.name p.is.name_is.0.1) (solid_token q.name q.is.name_is.0.1) (sym p.is.is ∙ q.is.is) in
    p.says ∙ ap (λ (z : List ℕ). of (lowercase z) p.value) cut.0 ∙ ap (of (lowercase q.name)) cut.1 ∙ sym q.says

number_one : (text : List ℕ) (of : ℕ → Line) (l m : Line) → MeansNumber text of l → MeansNumber text of m → l ≡ m
number_one text of l m p q = p.says ∙ ap of (decimal_injective p.n q.n p.bound q.bound (sym p.is ∙ q.is)) ∙ sym q.says

chosen_one : (text : List ℕ) (of : Select → Upset) (l m : Line) → MeansSelect text of l → MeansSelect text of m → l ≡ m
chosen_one text of l m p q = p.says ∙ ap (λ (z : Select). Disturb (of z)) (select_one text p.which q.which p.is q.is) ∙ sym q.says

late_one : (text : List ℕ) (l m : Line) → MeansLate text l → MeansLate text m → l ≡ m
late_one text l m p q =
    let cut =
    split_last p.chosen q.chosen (decimal p.n) (decimal q.n) (solid_decimal p.n (omega (arith, p.bound))) (solid_decimal q.n (omega (arith, q.bound))) (sym p.is ∙ q.is) in
    let numbers : p.n ≡ q.n = decimal_injective p.n q.n (omega (arith, p.bound)) (omega (arith, q.bound)) cut.1 in
    let selects = select_one q.chosen p.which q.which (subst (λ (z : List ℕ). IsSelect z p.which) cut.0 p.select) q.select in
    p.says ∙ ap (λ (z : Select). Disturb (Late z p.n)) selects ∙ ap (λ (z : ℕ). Disturb (Late q.which z)) numbers ∙ sym q.says

forge_one : (text : List ℕ) (l m : Line) → MeansForge text l → MeansForge text m → l ≡ m
forge_one text l m p q =
    let behind_p : List ℕ = side_word p.side ++ (codes " " ++ p.hex) in
    let behind_q : List ℕ = side_word q.side ++ (codes " " ++ q.hex) in
    let cut =
    split_first (decimal p.round) (decimal q.round) behind_p behind_q (solid_decimal p.round (omega (arith, p.bound))) (solid_decimal q.round (omega (arith, q.bound)))
    (sym p.is ∙ q.is) in
    let rounds : p.round ≡ q.round = decimal_injective p.round q.round (omega (arith, p.bound)) (omega (arith, q.bound)) cut.0 in
    let words = split_first (side_word p.side) (side_word q.side) p.hex q.hex (solid_side p.side) (solid_side q.side) cut.1 in
    let sides : p.side ≡ q.side = side_one p.side q.side words.0 in
    let bytes : p.bytes ≡ q.bytes = hex_one q.hex p.bytes q.bytes (subst (λ (z : List ℕ). IsHex z p.bytes) words.1 p.spelled) q.spelled in
    p.says ∙ ap (λ (z : ℕ). Disturb (Forge z p.side p.bytes)) rounds ∙ ap (λ (z : Side). Disturb (Forge q.round z p.bytes)) sides
    ∙ ap (λ (z : List ℕ). Disturb (Forge q.round q.side z)) bytes ∙ sym q.says

means_one : (k : Kind) (text : List ℕ) (l m : Line) → Means k text l → Means k text m → l ≡ m
means_one AsRequest text l m p q = request_one text l m p q
means_one AsField text l m p q = named_one text Field l m p q
means_one AsTrailer text l m p q = named_one text Trailer l m p q
means_one AsBody text l m p q = p ∙ sym q
means_one AsFill text l m p q = number_one text Fill l m p q
means_one (AsSet x) text l m p q = number_one text (Set x) l m p q
means_one AsRetry text l m p q = p ∙ sym q
means_one AsGrease text l m p q = p ∙ sym q
means_one AsLose text l m p q = chosen_one text Lose l m p q
means_one AsTwice text l m p q = chosen_one text Twice l m p q
means_one AsLate text l m p q = late_one text l m p q
means_one AsFail text l m p q = number_one text (λ n. Disturb (Fail n)) l m p q
means_one AsForge text l m p q = forge_one text l m p q

says_one : (word text other rest : List ℕ) (l m : Line) → Says word text l → Says other rest m → word ++ 32 ∷ text ≡ other ++ 32 ∷ rest → l ≡ m
says_one word text other rest l m p q e =
    let a = meaning word text l p in
    let b = meaning other rest m q in
    let cut = split_first word other text rest a.solid b.solid e in
    let moved = subst (λ (z : List ℕ). Means (kind z) text l) cut.0 a.means in
    means_one (kind other) rest l m (subst (λ (z : List ℕ). Means (kind other) z l) cut.1 moved) b.means

-- a text is one line
pub line_one : (text : List ℕ) (l m : Line) → IsLine text l → IsLine text m → l ≡ m
line_one text _ _ (empty e) (empty f) = refl
line_one text _ m (empty e) (worded word behind _ is says) = absurd (no_word word behind (sym e ∙ is))
line_one text l _ (worded word behind _ is says) (empty e) = absurd (no_word word behind (sym e ∙ is))
line_one text l m (worded word behind _ is says) (worded other rest _ at tells) = says_one word behind other rest l m says tells (sym is ∙ at)
