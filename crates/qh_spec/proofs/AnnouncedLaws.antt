-- One value of a limit is announced, and more datagrams announce no less.
use Rattle.std.proofs.Common.{◌≡◌, ◌≤◌, ℕ, List, arith}
use Rattle.qh_spec.specs.Announced.{Limit, Announces, first, later, IsAnnounced, IsPermitted, limit_frame}
use Rattle.qh_spec.specs.Lists.{In}
use Rattle.qh_spec.specs.declared.sides.Side.{Side}
use Rattle.qh_spec.specs.declared.sides.Space.TheVariants.{Data}
use Rattle.qh_spec.proofs.GreetedLaws.{whole_more, frame_more}

pub announces_more : (k : ℕ) (xs ys : List (List ℕ)) (s : Side) (limit : Limit) (n : ℕ) → ((d : List ℕ) → In d xs → In d ys) → Announces k xs s limit n → Announces k ys s limit n
announces_more k xs ys s limit n f (first l a e) = first l (record { hello = a.hello; carried = whole_more k xs ys s a.hello f a.carried; says = a.says }) e
announces_more k xs ys s limit n f (later has) = later (frame_more k xs ys s Data (limit_frame limit n) f has)

pub announced_one : (k : ℕ) (xs : List (List ℕ)) (s : Side) (limit : Limit) (m n : ℕ) → IsAnnounced k xs s limit m → IsAnnounced k xs s limit n → m ≡ n
announced_one k xs s limit m n p q = let a = q.greatest m p.announces in let b = p.greatest n q.announces in omega (arith, a, b)

pub announced_more : (k : ℕ) (xs ys : List (List ℕ)) (s : Side) (limit : Limit) (m n : ℕ) → ((d : List ℕ) → In d xs → In d ys)
    → IsAnnounced k xs s limit m → IsAnnounced k ys s limit n → m ≤ n
announced_more k xs ys s limit m n f p q = q.greatest m (announces_more k xs ys s limit m f p.announces)

pub permitted_within : (k : ℕ) (xs : List (List ℕ)) (s : Side) (limit : Limit) (amount n : ℕ) → IsAnnounced k xs s limit n → IsPermitted k xs s limit amount → amount ≤ n
permitted_within k xs s limit amount n p q = let a = p.greatest q.value q.announces in let b = q.within in omega (arith, a, b)

pub permits : (k : ℕ) (xs : List (List ℕ)) (s : Side) (limit : Limit) (amount n : ℕ) → IsAnnounced k xs s limit n → amount ≤ n → IsPermitted k xs s limit amount
permits k xs s limit amount n p l = record { value = n; announces = p.announces; within = l }

pub permitted_more : (k : ℕ) (xs ys : List (List ℕ)) (s : Side) (limit : Limit) (amount : ℕ) → ((d : List ℕ) → In d xs → In d ys)
    → IsPermitted k xs s limit amount → IsPermitted k ys s limit amount
permitted_more k xs ys s limit amount f p = record { value = p.value; announces = announces_more k xs ys s limit p.value f p.announces; within = p.within }
