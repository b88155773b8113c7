-- Messages that are the same are written alike.
use Rattle.std.proofs.Common.{◌≡◌, inl, inr, ℕ, ◌+◌, ◌<◌, suc, Bool, cond, min, List, [], ◌∷◌, length, refl, sym, ap, ◌∙◌, arith, Option, Some, None}
use Rattle.std.specs.Prelude.{bytes_eq, flat_map, All, IfSome, codes}
use Rattle.std.proofs.lemmas.Bool.{cases_Bool}
use Rattle.std.proofs.lemmas.List.{length-map}
use Rattle.std.proofs.lemmas.List.Elements.{All-head, All-tail}
use Rattle.std.proofs.lemmas.List.Sorted.{sum_by-IsPermutation}
use Rattle.std.proofs.lemmas.Slice.Eq.{bytes_eq-Decides}
use Rattle.http_header.specs.FieldValue.{FieldValue}
use Rattle.http_header.specs.HeaderMap.{Entry, Entries, keys, entry_at, get_all, IsUnique, IsHeaderMap}
use Rattle.qh_spec.specs.Message.{PlainTarget, PlainHead, Request, Response, PlainMessage, target_text}
use Rattle.qh_spec.specs.Report.{in_byte_order, value_line, name_lines, map_lines, trailer_lines, head_text, body_lines, block}
use Rattle.qh_spec.specs.Same.{SameFields, SameTrailers, SameTarget, SameHead, SameMessage}
use Rattle.qh_spec.proofs.ReportLaws.{times, times_cons, order_moves, ordered_all, one_order}

-- ---- how often a map has a name

unique_tail : (e : Entry FieldValue) (m : Entries FieldValue) → IsUnique (e ∷ m) → IsUnique m
unique_tail e m u = λ i j a b s. let same : suc i ≡ suc j = u (suc i) (suc j) (omega arith) (omega arith) s in omega (arith, same)

unique_head : (e : Entry FieldValue) (m : Entries FieldValue) → IsUnique (e ∷ m) → (j : ℕ) → j < length m → (entry_at m j).0 ≡ e.0 → ⊥
unique_head e m u j l s = let same : suc j ≡ 0 = u (suc j) 0 (omega arith) (omega arith) s in omega (arith, same)

none_there : (n : List ℕ) (m : Entries FieldValue) → ((j : ℕ) → j < length m → (entry_at m j).0 ≡ n → ⊥) → times n (keys m) ≡ 0
none_there n [] far = refl
none_there n (e ∷ m) far =
    elim (cases_Bool (bytes_eq e.0 n)) [
      | inl t ↦ absurd (far 0 (omega arith) ((bytes_eq-Decides e.0 n).0 t))
      | inr u ↦
          times_cons n e.0 (keys m) ∙ ap {B = ℕ} (λ (b : Bool). cond b 1 0 + times n (keys m)) u
          ∙ omega (arith, none_there n m (λ j l s. far (suc j) (omega arith) s))
    ]

times_there : (n : List ℕ) (m : Entries FieldValue) → IsUnique m → All (λ e. 0 < length e.1) m → times n (keys m) ≡ min 1 (length (get_all m n))
times_there n [] u f = refl
times_there n (e ∷ m) u f =
    elim (cases_Bool (bytes_eq e.0 n)) [
      | inl t ↦
          let same : e.0 ≡ n = (bytes_eq-Decides e.0 n).0 t in
          let none : times n (keys m) ≡ 0 = none_there n m (λ j l s. unique_head e m u j l (s ∙ sym same)) in
          let some : 0 < length e.1 = All-head (λ (z : Entry FieldValue). 0 < length z.1) e m f in
          let count : 1 + times n (keys m) ≡ min 1 (length e.1) = omega (arith, none, some) in
          times_cons n e.0 (keys m) ∙ ap {B = ℕ} (λ (b : Bool). cond b 1 0 + times n (keys m)) t ∙ count
          ∙ ap {B = ℕ} (λ (b : Bool). min 1 (length (cond b e.1 (get_all m n)))) (sym t)
      | inr t ↦
          let rest = times_there n m (unique_tail e m u) (All-tail (λ (z : Entry FieldValue). 0 < length z.1) e m f) in
          let count : 0 + times n (keys m) ≡ min 1 (length (get_all m n)) = omega (arith, rest) in
          times_cons n e.0 (keys m) ∙ ap {B = ℕ} (λ (b : Bool). cond b 1 0 + times n (keys m)) t ∙ count
          ∙ ap {B = ℕ} (λ (b : Bool). min 1 (length (cond b e.1 (get_all m n)))) (sym t)
    ]

-- ---- maps

same_times : (a b : Entries FieldValue) → IsHeaderMap a → IsHeaderMap b → SameFields a b → (n : List ℕ) → times n (keys a) ≡ times n (keys b)
same_times a b x y s n =
    let bytes = λ (v : FieldValue). v.bytes in
    let lengths : length (get_all a n) ≡ length (get_all b n) = sym (length-map (get_all a n) bytes) ∙ ap length (s n) ∙ length-map (get_all b n) bytes in
    times_there n a x.unique x.filled ∙ ap (min 1) lengths ∙ sym (times_there n b y.unique y.filled)

times_ordered : (n : List ℕ) (ns : List (List ℕ)) → times n (in_byte_order ns) ≡ times n ns
times_ordered n ns = let f = λ (z : List ℕ). cond {A = ℕ} (bytes_eq z n) 1 0 in sum_by-IsPermutation f ns (in_byte_order ns) (order_moves ns)

same_order : (a b : Entries FieldValue) → IsHeaderMap a → IsHeaderMap b → SameFields a b → in_byte_order (keys a) ≡ in_byte_order (keys b)
same_order a b x y s =
    one_order (in_byte_order (keys a)) (in_byte_order (keys b)) (ordered_all (keys a)) (ordered_all (keys b))
    (λ n. times_ordered n (keys a) ∙ same_times a b x y s n ∙ sym (times_ordered n (keys b)))

flat_map_alike : (f g : List ℕ → List ℕ) → ((n : List ℕ) → f n ≡ g n) → (ns : List (List ℕ)) → flat_map f ns ≡ flat_map g ns
flat_map_alike f g h [] = refl
flat_map_alike f g h (n ∷ ns) = let a = h n in let b = flat_map_alike f g h ns in cc

pub same_lines : (word : List ℕ) (a b : Entries FieldValue) → IsHeaderMap a → IsHeaderMap b → SameFields a b → map_lines word a ≡ map_lines word b
same_lines word a b x y s =
    ap (flat_map (name_lines word a)) (same_order a b x y s)
    ∙ flat_map_alike (name_lines word a) (name_lines word b) (λ n. ap (flat_map (value_line word n)) (s n)) (in_byte_order (keys b))

same_trailers : (a b : Option (Entries FieldValue)) → IfSome a IsHeaderMap → IfSome b IsHeaderMap → SameTrailers a b → trailer_lines a ≡ trailer_lines b
same_trailers None None x y s = refl
same_trailers None (Some b) x y s = absurd s
same_trailers (Some a) None x y s = absurd s
same_trailers (Some a) (Some b) x y s = same_lines (codes "trailer") a b x y s

-- ---- messages

same_text : (t u : PlainTarget) → SameTarget t u → target_text t ≡ target_text u
same_text t u s = let a = s.scheme in let b = s.authority in let c = s.path in let d = s.query in cc

pub same_head : (a b : PlainHead) → SameHead a b → head_text a ≡ head_text b
same_head (Request m t) (Request n u) s = let a = s.0 in let b = same_text t u s.1 in cc
same_head (Request m t) (Response c) s = absurd s
same_head (Response c) (Request m t) s = absurd s
same_head (Response c) (Response d) s = let a : c ≡ d = s in cc

pub same_block : (word : List ℕ) (stream : ℕ) (m n : PlainMessage) → IsHeaderMap m.fields → IsHeaderMap n.fields → IfSome m.trailers IsHeaderMap
    → IfSome n.trailers IsHeaderMap → SameMessage m n → block word stream m ≡ block word stream n
same_block word stream m n x y v w s =
    let head : head_text m.head ≡ head_text n.head = same_head m.head n.head s.head in
    let fields : map_lines (codes "field") m.fields ≡ map_lines (codes "field") n.fields = same_lines (codes "field") m.fields n.fields x y s.fields in
    let body : body_lines m.body ≡ body_lines n.body = ap body_lines s.body in
    let trailers : trailer_lines m.trailers ≡ trailer_lines n.trailers = same_trailers m.trailers n.trailers v w s.trailers in
    cc
