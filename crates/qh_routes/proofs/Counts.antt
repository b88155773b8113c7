-- How many ids are issued is how many entries their map has.
use Rattle.std.proofs.Common.{◌≡◌, ℕ, false, cond, List, [], ◌∷◌, ◌++◌, length, refl, arith}
use Rattle.std.specs.List.{sum_by}
use Rattle.std.proofs.lemmas.List.Sums.{sum_by-append, sum_by-cons}
use Rattle.qh_routes.specs.declared.connection_index.RouteDatagramTo.{RouteDatagramTo}
use Rattle.qh_routes.specs.declared.connection_index.RouteDatagramTo.TheVariants.{Connection}
use Rattle.qh_routes.specs.Index.{Maps, itself, pair_key, part, reset_key, routes_of}
use Rattle.qh_routes.specs.Routes.{RouteKey, initial, is_issued_key, issued, issued_count, remote}

abbrev weight : RouteKey × RouteDatagramTo → ℕ
weight r = cond (is_issued_key r.0) 1 0

all_count : {X : Type 0} (target : X → RouteDatagramTo) (es : List (List ℕ × X)) → sum_by weight (part issued target es) ≡ length es
all_count target [] = refl
all_count target (e ∷ es) = let more = all_count target es in omega (arith, more, sum_by-cons weight (issued e.0, target e.1) (part issued target es))

none_count : {K X : Type 0} (key : K → RouteKey) (target : X → RouteDatagramTo) → ((k : K) → is_issued_key (key k) ≡ false) → (es : List (K × X)) → sum_by weight (part key target es) ≡ 0
none_count key target other [] = refl
none_count key target other (e ∷ es) = let more = none_count key target other es in let here : weight (key e.0, target e.1) ≡ 0 = rw (other e.0) refl in omega (arith, more, here, sum_by-cons weight (key e.0, target e.1) (part key target es))

pub issued_are : (m : Maps) → issued_count (routes_of m) ≡ length m.ids
issued_are m =
    let a = all_count Connection m.ids in
    let b = none_count initial itself (λ k. refl) m.initials in
    let c = none_count pair_key Connection (λ k. refl) m.pairs in
    let d = none_count remote Connection (λ k. refl) m.remotes in
    let e = none_count reset_key Connection (λ k. refl) m.tokens in
    omega (
      arith,
      a,
      b,
      c,
      d,
      e,
      sum_by-append weight (part issued Connection m.ids) (part initial itself m.initials ++ (part pair_key Connection m.pairs ++ (part remote Connection m.remotes ++ part reset_key Connection m.tokens))),
      sum_by-append weight (part initial itself m.initials) (part pair_key Connection m.pairs ++ (part remote Connection m.remotes ++ part reset_key Connection m.tokens)),
      sum_by-append weight (part pair_key Connection m.pairs) (part remote Connection m.remotes ++ part reset_key Connection m.tokens),
      sum_by-append weight (part remote Connection m.remotes) (part reset_key Connection m.tokens),
    )
