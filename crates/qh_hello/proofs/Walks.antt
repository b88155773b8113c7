-- A walk over parameters: what is left of them, and what went before.
use Rattle.std.proofs.Common.{◌≡◌, inl, inr, ℕ, ◌==◌, Bool, true, false, cond, List, [], ◌∷◌, ◌++◌, length, Some, None, refl, sym, ap, ◌∙◌, arith, subst, append_assoc, append-nil}
use Rattle.std.specs.Prelude.{map, not, ◌||◌}
use Rattle.std.specs.BTreeMap.{is_at}
use Rattle.std.specs.Cmp.{unsigned_tied}
use Rattle.std.specs.Ordering.{nat_cmp}
use Rattle.std.proofs.lemmas.Bool.{cases_Bool, eq-eqb, ne_eqb, eqb-true, or_parts}
use Rattle.std.proofs.lemmas.List.{map-append}
use Rattle.qh_hello.specs.Parts.{HasDistinctFront}
use Rattle.qh_spec.proofs.HelloLaws.{parameter_agrees, no_parameter_here}
use Rattle.qh_spec.proofs.Members.{distinct_more}
use Rattle.qh_spec.specs.Hello.{Parameter, IsParameter, AreParameters, value_of}
use Rattle.qh_spec.specs.Lists.{In, Distinct}

-- no parameter begins these bytes
abbrev pub NoneBegins : List ℕ → Type 0
NoneBegins bytes = (p : Parameter) (rest : List ℕ) → IsParameter bytes p rest → ⊥

-- the parameters that are left begin with the one that was read
pub next_left : (rest mid : List ℕ) (p : Parameter) (left : List Parameter) → IsParameter rest p mid → AreParameters rest left
    → (more : List Parameter) × (left ≡ p ∷ more) × AreParameters mid more
next_left rest mid p [] i are = absurd (no_parameter_here p mid (subst (λ (z : List ℕ). IsParameter z p mid) are i))
next_left rest mid p (q ∷ left) i are =
    let r = parameter_agrees rest q p are.0 mid are.1 i in
    let same : q ≡ p = r.0 in
    (left, (let e : q ∷ left ≡ p ∷ left = cc in e), subst (λ (z : List ℕ). AreParameters z left) r.1 are.2)

pub none_left : (rest : List ℕ) (left : List Parameter) → NoneBegins rest → AreParameters rest left → left ≡ []
none_left rest [] never are = refl
none_left rest (p ∷ left) never are = absurd (never p are.0 are.1)

-- ---- whether there are parameters

-- the bytes are parameters if and only if the rest is
pub record IsBehind (bytes rest : List ℕ) : Type 0 where
  pub back : (left : List Parameter) → AreParameters rest left → (ps : List Parameter) × AreParameters bytes ps
  pub on : (ps : List Parameter) → AreParameters bytes ps → (left : List Parameter) × AreParameters rest left

pub behind_start : (bytes : List ℕ) → IsBehind bytes bytes
behind_start bytes = record { back = λ left are. (left, are); on = λ ps are. (ps, are) }

pub behind_more : (bytes rest mid : List ℕ) (p : Parameter) → IsBehind bytes rest → IsParameter rest p mid → IsBehind bytes mid
behind_more bytes rest mid p b i = record {
  back = λ left are. b.back (p ∷ left) (mid, i, are);
  on = λ ps are. (let l = b.on ps are in let r = next_left rest mid p l.0 i l.1 in (r.0, r.2));
}

pub is_nil : (xs : List ℕ) → true ≡ (length xs == 0) → xs ≡ []
is_nil [] e = refl
is_nil (x ∷ xs) e = let none = eqb-true (length (x ∷ xs)) 0 (sym e) in absurd (omega arith)

pub is_some : (xs : List ℕ) → false ≡ (length xs == 0) → xs ≡ [] → ⊥
is_some xs e nil =
    let t : (length xs == 0) ≡ true = ap (λ (z : List ℕ). length z == 0) nil in
    let wrong : false ≡ true = e ∙ t in
    cc

pub behind_all : (bytes rest : List ℕ) → IsBehind bytes rest → true ≡ (length rest == 0) → (ps : List Parameter) × AreParameters bytes ps
behind_all bytes rest b e = b.back [] (is_nil rest e)

pub behind_cut : (bytes rest : List ℕ) → IsBehind bytes rest → false ≡ (length rest == 0) → NoneBegins rest → (ps : List Parameter) → AreParameters bytes ps → ⊥
behind_cut bytes rest b e never ps are =
    let l = b.on ps are in
    let none : l.0 ≡ [] = none_left rest l.0 never l.1 in
    let nil : rest ≡ [] = subst (λ (z : List Parameter). AreParameters rest z) none l.1 in
    is_some rest e nil

-- ---- the value of an id

-- it is that of the parameters that are left
abbrev pub HasLeft : List ℕ → ℕ → List Parameter → Type 0
HasLeft rest id ps = (left : List Parameter) × AreParameters rest left × (value_of id ps ≡ value_of id left)

pub left_skips : (rest mid value : List ℕ) (id n : ℕ) (ps : List Parameter) → IsParameter rest (record { id = n; value = value }) mid → (n ≡ id → ⊥) → HasLeft rest id ps → HasLeft mid id ps
left_skips rest mid value id n ps i other l =
    let p : Parameter = record { id = n; value = value } in
    let r = next_left rest mid p l.0 i l.1 in
    let no_match : (n == id) ≡ false = ne_eqb n id other in
    let skip : value_of id (p ∷ r.0) ≡ value_of id r.0 = rw no_match refl in
    (r.0, r.2, l.2 ∙ ap (value_of id) r.1 ∙ skip)

pub left_found : (rest mid value : List ℕ) (id n : ℕ) (ps : List Parameter) → IsParameter rest (record { id = n; value = value }) mid → n ≡ id → HasLeft rest id ps → Some value ≡ value_of id ps
left_found rest mid value id n ps i same l =
    let p : Parameter = record { id = n; value = value } in
    let r = next_left rest mid p l.0 i l.1 in
    let is_match : (n == id) ≡ true = eq-eqb n id same in
    let here : value_of id (p ∷ r.0) ≡ Some value = rw is_match refl in
    sym (l.2 ∙ ap (value_of id) r.1 ∙ here)

pub left_none : (rest : List ℕ) (id : ℕ) (ps : List Parameter) → NoneBegins rest → HasLeft rest id ps → None ≡ value_of id ps
left_none rest id ps never l = sym (l.2 ∙ ap (value_of id) (none_left rest l.0 never l.1))

-- ---- ids that are repeated

abbrev pub ids_of : List Parameter → List ℕ
ids_of ps = map (λ (p : Parameter). p.id) ps

-- one of them has this id
abbrev pub has_id : ℕ → List Parameter → Bool
has_id id [] = false
has_id id (p ∷ ps) = (p.id == id) || has_id id ps

has_not : (id : ℕ) (ps : List Parameter) → has_id id ps ≡ false → In id (ids_of ps) → ⊥
has_not id [] e i = i
has_not id (p ∷ ps) e (inl same) =
    let parts = or_parts (p.id == id) (has_id id ps) e in
    let t : (p.id == id) ≡ true = eq-eqb p.id id same in
    let wrong : true ≡ false = sym t ∙ parts.0 in
    cc
has_not id (p ∷ ps) e (inr i) = has_not id ps (or_parts (p.id == id) (has_id id ps) e).1 i

has_in : (id : ℕ) (ps : List Parameter) → has_id id ps ≡ true → In id (ids_of ps)
has_in id [] e = cc
has_in id (p ∷ ps) e =
    elim (cases_Bool (p.id == id)) [
      | inl t ↦ inl (eqb-true p.id id t)
      | inr t ↦ inr (has_in id ps (let on : has_id id (p ∷ ps) ≡ has_id id ps = rw t refl in sym on ∙ e))
    ]

has_more : (q : ℕ) (front : List Parameter) (p : Parameter) → has_id q (front ++ p ∷ []) ≡ cond (p.id == q) true (has_id q front)
has_more q [] p = elim (cases_Bool (p.id == q)) [ inl t ↦ rw t refl | inr t ↦ rw t refl ]
has_more q (f ∷ fs) p =
    let on = has_more q fs p in
    elim (cases_Bool (f.id == q)) [
      | inl t ↦ elim (cases_Bool (p.id == q)) [ inl u ↦ rw (t, u) refl | inr u ↦ rw (t, u) refl ]
      | inr t ↦ rw t on
    ]

-- the ids of the parameters before the rest were seen, and none of them is repeated
pub record HasSeen (rest : List ℕ) (seen : ℕ → Bool) (ps : List Parameter) : Type 0 where
  pub front : List Parameter
  pub left : List Parameter
  pub whole : ps ≡ front ++ left
  pub are : AreParameters rest left
  pub seen_are : (q : ℕ) → seen q ≡ has_id q front
  pub distinct : Distinct (ids_of front)

pub seen_none : (bytes : List ℕ) (seen : ℕ → Bool) (ps : List Parameter) → ((q : ℕ) → seen q ≡ false) → AreParameters bytes ps → HasSeen bytes seen ps
seen_none bytes seen ps none are = record { front = []; left = ps; whole = refl; are = are; seen_are = none; distinct = tt }

not_true : (b : Bool) → true ≡ not b → b ≡ false
not_true true h = cc
not_true false h = refl

not_false : (b : Bool) → false ≡ not b → b ≡ true
not_false true h = refl
not_false false h = cc

pub seen_more : (rest mid value : List ℕ) (n : ℕ) (old new : ℕ → Bool) (ps : List Parameter) → IsParameter rest (record { id = n; value = value }) mid
    → ((q : ℕ) → new q ≡ cond (is_at (nat_cmp n) q) true (old q)) → true ≡ not (old n) → HasSeen rest old ps → HasSeen mid new ps
seen_more rest mid value n old new ps i news fresh s =
    let p : Parameter = record { id = n; value = value } in
    let r = next_left rest mid p s.left i s.are in
    let absent : has_id n s.front ≡ false = sym (s.seen_are n) ∙ not_true (old n) fresh in
    let ids : ids_of (s.front ++ p ∷ []) ≡ ids_of s.front ++ n ∷ [] = map-append (λ (f : Parameter). f.id) s.front (p ∷ []) in
    record {
      front = s.front ++ p ∷ [];
      left = r.0;
      whole = s.whole ∙ ap (λ (z : List Parameter). s.front ++ z) r.1 ∙ sym (append_assoc s.front (p ∷ []) r.0);
      are = r.2;
      seen_are = λ q. news q ∙ ap (λ (z : Bool). cond z true (old q)) (unsigned_tied n q) ∙ ap (λ (z : Bool). cond (n == q) true z) (s.seen_are q) ∙ sym (has_more q s.front p);
      distinct = subst Distinct (sym ids) (distinct_more (ids_of s.front) n s.distinct (has_not n s.front absent));
    }

twice : (xs ys : List ℕ) (x : ℕ) → Distinct (xs ++ x ∷ ys) → In x xs → ⊥
twice [] ys x d i = i
twice (z ∷ xs) ys x d (inl e) = d.0 (there xs (sym e))
  where
    there : (zs : List ℕ) → x ≡ z → In z (zs ++ x ∷ ys)
    there [] e = inl e
    there (w ∷ zs) e = inr (there zs e)
twice (z ∷ xs) ys x d (inr i) = twice xs ys x d.1 i

pub seen_twice : (rest mid value : List ℕ) (n : ℕ) (old : ℕ → Bool) (ps : List Parameter) → IsParameter rest (record { id = n; value = value }) mid
    → false ≡ not (old n) → HasSeen rest old ps → Distinct (ids_of ps) → ⊥
seen_twice rest mid value n old ps i again s d =
    let p : Parameter = record { id = n; value = value } in
    let r = next_left rest mid p s.left i s.are in
    let there : has_id n s.front ≡ true = sym (s.seen_are n) ∙ not_false (old n) again in
    let ids : ids_of ps ≡ ids_of s.front ++ n ∷ ids_of r.0 =
    ap ids_of (s.whole ∙ ap (λ (z : List Parameter). s.front ++ z) r.1) ∙ map-append (λ (f : Parameter). f.id) s.front (p ∷ r.0) in
    twice (ids_of s.front) (ids_of r.0) n (subst Distinct ids d) (has_in n s.front there)

-- none of the ids before the next one is repeated
pub seen_before : (rest mid value : List ℕ) (n : ℕ) (seen : ℕ → Bool) (ps : List Parameter) → IsParameter rest (record { id = n; value = value }) mid → HasSeen rest seen ps → HasDistinctFront ps
seen_before rest mid value n seen ps i s =
    let p : Parameter = record { id = n; value = value } in
    let r = next_left rest mid p s.left i s.are in
    record { front = s.front; next = p; rest = r.0; whole = s.whole ∙ ap (λ (z : List Parameter). s.front ++ z) r.1; distinct = s.distinct }

pub seen_all : (rest : List ℕ) (seen : ℕ → Bool) (ps : List Parameter) → NoneBegins rest → HasSeen rest seen ps → Distinct (ids_of ps)
seen_all rest seen ps never s =
    let none : s.left ≡ [] = none_left rest s.left never s.are in
    let all : ps ≡ s.front = s.whole ∙ ap (λ (z : List Parameter). s.front ++ z) none ∙ append-nil s.front in
    subst (λ (z : List Parameter). Distinct (ids_of z)) (sym all) s.distinct
