-- The orders of the maps tell all keys apart, and so do their routes.
use Rattle.std.proofs.Common.{◌≡◌, ◌&&◌, ◌==◌, ◌-◌, ℕ, Bool, true, false, List, length, take, replicate, bytes_eq, [], Some, None, refl, sym, ap, ◌∙◌}
use Rattle.std.specs.declared.cmp.Ordering.{Ordering}
use Rattle.std.specs.declared.cmp.Ordering.TheVariants.{Less, Equal, Greater}
use Rattle.std.specs.Option.{option_cmp}
use Rattle.std.specs.Ordering.{nat_cmp, ordering_then, eq_by_cmp, is_eq}
use Rattle.std.specs.Cmp.Lexicographic.{slice_cmp}
use Rattle.std.specs.declared.net.ip_addr.IpAddr.{IpAddr}
use Rattle.std.specs.declared.net.ip_addr.IpAddr.TheVariants as Ip
use Rattle.std.specs.declared.net.socket_addr.SocketAddr.{SocketAddr}
use Rattle.std.specs.declared.net.socket_addr.SocketAddr.TheVariants.{V4, V6}
use Rattle.std.specs.Net.Addr.{ipv4_octets, ipv6_segments}
use Rattle.std.specs.Net.Socket.{v4_ip, v4_port, v6_ip, v6_port, v6_flowinfo, v6_scope_id}
use Rattle.std.specs.contracts.net.ip_addr.IpAddrOrd.TheImpl as ip_order
use Rattle.std.specs.contracts.net.socket_addr.SocketAddrOrd.TheImpl.Laws as socket_laws
use Rattle.std.proofs.lemmas.Bool.{eqb-true}
use Rattle.std.proofs.lemmas.Cmp.{eq_by_cmp_equiv}
use Rattle.std.proofs.lemmas.List.{take_at}
use Rattle.std.proofs.lemmas.Map.Lookups.{CmpEqualImpliesEq, exact_pairs, exact_unsigned, exact_bytes}
use Rattle.std.proofs.lemmas.Slice.Eq.{bytes_eq-Decides}
use Rattle.qh_base.specs.ConnectionId.{zero_padded}
use Rattle.qh_base.specs.declared.path.FourTuple.{FourTuple}
use Rattle.qh_base.specs.contracts.shared.ConnectionIdOrd.TheImpl.Laws as id_laws
use Rattle.qh_base.specs.contracts.shared.ConnectionIdEq.TheImpl.Laws as id_eq_laws
use Rattle.qh_routes.specs.contracts.route_keys.PathKeyOrd.TheImpl.Laws as path_laws
use Rattle.qh_routes.specs.contracts.route_keys.ResetKeyOrd.TheImpl.Laws as reset_laws
use Rattle.qh_routes.specs.declared.route_keys.PathKey.{PathKey}
use Rattle.qh_routes.specs.declared.route_keys.ResetKey.{ResetKey}
use Rattle.qh_routes.specs.Index.{id_eq, id_cmp, path_cmp, socket_cmp, reset_cmp, pair_key, reset_key}
use Rattle.qh_routes.specs.Routes.{RouteKey, issued, initial, pair, remote, reset}
use Rattle.qh_routes.proofs.Parts.{AreKeys}

-- ---- ids

front : (a : List ℕ) → take (length a) (zero_padded a) ≡ a
front a = take_at a (replicate (20 - length a) 0) (length a) refl

exact_ids : CmpEqualImpliesEq id_cmp
exact_ids a b h =
    let both = exact_pairs nat_cmp (slice_cmp nat_cmp) exact_unsigned exact_bytes (length a, zero_padded a) (length b, zero_padded b) h in
    sym (front a) ∙ ap (λ (p : ℕ × List ℕ). take p.0 p.1) both ∙ front b

both : (p q : Bool) → (p && q) ≡ true → (p ≡ true) × (q ≡ true)
both true q e = (refl, e)
both false q e = cc

equal_ids : (a b : List ℕ) → id_eq a b ≡ true → a ≡ b
equal_ids a b e =
    let parts = both (length a == length b) (bytes_eq (zero_padded a) (zero_padded b)) e in
    let lengths = eqb-true (length a) (length b) parts.0 in
    let bytes = (bytes_eq-Decides (zero_padded a) (zero_padded b)).0 parts.1 in
    sym (front a) ∙ ap (take (length a)) bytes ∙ ap (λ (n : ℕ). take n (zero_padded b)) lengths ∙ front b

-- ---- addresses

exact_sockets : CmpEqualImpliesEq socket_cmp
exact_sockets (V4 x) (V4 y) h =
    ap (λ (p : List ℕ × ℕ). V4 (record { ip = record { octets = p.0 }; port = p.1 }))
    (exact_pairs (slice_cmp nat_cmp) nat_cmp exact_bytes exact_unsigned (ipv4_octets (v4_ip x), v4_port x) (ipv4_octets (v4_ip y), v4_port y) h)
exact_sockets (V4 x) (V6 y) h = cc
exact_sockets (V6 x) (V4 y) h = cc
exact_sockets (V6 x) (V6 y) h =
    ap (λ (p : List ℕ × (ℕ × (ℕ × ℕ))). V6 (record { ip = record { segments = p.0 }; port = p.1.0; flowinfo = p.1.1.0; scope_id = p.1.1.1 }))
    (exact_pairs (slice_cmp nat_cmp) (λ p q. ordering_then (nat_cmp p.0 q.0) (ordering_then (nat_cmp p.1.0 q.1.0) (nat_cmp p.1.1 q.1.1))) exact_bytes
    (exact_pairs nat_cmp (λ p q. ordering_then (nat_cmp p.0 q.0) (nat_cmp p.1 q.1)) exact_unsigned (exact_pairs nat_cmp nat_cmp exact_unsigned exact_unsigned))
    (ipv6_segments (v6_ip x), (v6_port x, (v6_flowinfo x, v6_scope_id x))) (ipv6_segments (v6_ip y), (v6_port y, (v6_flowinfo y, v6_scope_id y))) h)

exact_ips : CmpEqualImpliesEq ((ip_order.ghosts).cmp)
exact_ips (Ip.V4 x) (Ip.V4 y) h = ap (λ (o : List ℕ). Ip.V4 (record { octets = o })) (exact_bytes (ipv4_octets x) (ipv4_octets y) h)
exact_ips (Ip.V4 x) (Ip.V6 y) h = cc
exact_ips (Ip.V6 x) (Ip.V4 y) h = cc
exact_ips (Ip.V6 x) (Ip.V6 y) h = ap (λ (s : List ℕ). Ip.V6 (record { segments = s })) (exact_bytes (ipv6_segments x) (ipv6_segments y) h)

-- the parts of an order by two
first_part : (a b : Ordering) → ordering_then a b ≡ Equal → (a ≡ Equal) × (b ≡ Equal)
first_part Less b h = cc
first_part Equal b h = (refl, h)
first_part Greater b h = cc

exact_options : CmpEqualImpliesEq (option_cmp ((ip_order.ghosts).cmp))
exact_options None None h = refl
exact_options None (Some y) h = cc
exact_options (Some x) None h = cc
exact_options (Some x) (Some y) h = ap (λ (ip : IpAddr). Some ip) (exact_ips x y h)

exact_paths : CmpEqualImpliesEq path_cmp
exact_paths a b h =
    let parts = first_part (socket_cmp a.remote b.remote) (option_cmp ((ip_order.ghosts).cmp) a.local_ip b.local_ip) h in
    let remotes = exact_sockets a.remote b.remote parts.0 in
    let locals = exact_options a.local_ip b.local_ip parts.1 in
    λ i. record { remote = remotes i; local_ip = locals i }

exact_resets : CmpEqualImpliesEq reset_cmp
exact_resets a b h =
    let parts = first_part (socket_cmp a.remote b.remote) (slice_cmp nat_cmp a.token.0 b.token.0) h in
    let remotes = exact_sockets a.remote b.remote parts.0 in
    let tokens = exact_bytes a.token.0 b.token.0 parts.1 in
    λ i. record { remote = remotes i; token = record { 0 = tokens i } }

-- ---- the keys of the five maps

is_equal : (o : Ordering) → is_eq o ≡ true → o ≡ Equal
is_equal Less e = cc
is_equal Equal e = refl
is_equal Greater e = cc

by_order : {K : Type 0} (cmp : K → K → Ordering) → CmpEqualImpliesEq cmp → (a b : K) → eq_by_cmp cmp a b ≡ true → a ≡ b
by_order cmp exact a b e = exact a b (is_equal (cmp a b) e)

pub issued_exact : (a b : List ℕ) → issued a ≡ issued b → a ≡ b
issued_exact a b e = cc

pub initial_exact : (a b : List ℕ) → initial a ≡ initial b → a ≡ b
initial_exact a b e = cc

remote_exact : (a b : SocketAddr) → remote a ≡ remote b → a ≡ b
remote_exact a b e = cc

four_exact : (a b : FourTuple) → pair a ≡ pair b → a ≡ b
four_exact a b e = cc

pair_exact : (a b : PathKey) → pair_key a ≡ pair_key b → a ≡ b
pair_exact a b e =
    ap (λ (f : FourTuple). record { remote = f.remote; local_ip = f.local_ip })
    (four_exact (record { remote = a.remote; local_ip = a.local_ip }) (record { remote = b.remote; local_ip = b.local_ip }) e)

abbrev address_part : RouteKey → SocketAddr → SocketAddr
address_part (reset r t) other = r
address_part k other = other

abbrev token_part : RouteKey → List ℕ
token_part (reset r t) = t
token_part k = []

reset_exact : (a b : ResetKey) → reset_key a ≡ reset_key b → a ≡ b
reset_exact a b e =
    let remotes : a.remote ≡ b.remote = ap (λ k. address_part k a.remote) e in
    let tokens : a.token.0 ≡ b.token.0 = ap token_part e in
    λ i. record { remote = remotes i; token = record { 0 = tokens i } }

pub keys_of_ids : AreKeys (List ℕ) id_eq issued
keys_of_ids = record { laws = id_eq_laws.laws-law; exact = equal_ids; key_exact = issued_exact }

pub keys_of_initials : AreKeys (List ℕ) (eq_by_cmp id_cmp) initial
keys_of_initials = record { laws = eq_by_cmp_equiv id_laws.total-law; exact = by_order id_cmp exact_ids; key_exact = initial_exact }

pub keys_of_pairs : AreKeys PathKey (eq_by_cmp path_cmp) pair_key
keys_of_pairs = record { laws = eq_by_cmp_equiv path_laws.total-law; exact = by_order path_cmp exact_paths; key_exact = pair_exact }

pub keys_of_remotes : AreKeys SocketAddr (eq_by_cmp socket_cmp) remote
keys_of_remotes = record { laws = eq_by_cmp_equiv socket_laws.total-law; exact = by_order socket_cmp exact_sockets; key_exact = remote_exact }

pub keys_of_tokens : AreKeys ResetKey (eq_by_cmp reset_cmp) reset_key
keys_of_tokens = record { laws = eq_by_cmp_equiv reset_laws.total-law; exact = by_order reset_cmp exact_resets; key_exact = reset_exact }
