-- A connection id's bytes give back how it is kept.
use Rattle.std.proofs.Common.{◌≡◌, ℕ, List, length, take, sym, ap, ◌∙◌, arith}
use Rattle.std.proofs.lemmas.List.{length-take-le}
use Rattle.qh_base.specs.declared.shared.ConnectionId.TheInside.{Inside}
use Rattle.qh_base.specs.ConnectionId.{IsConnectionId, zero_padded}

pub same_id : (id : Inside) → IsConnectionId id.len id.bytes → ◌≡◌ {A = Inside} (record { len = length (take id.len id.bytes); bytes = zero_padded (take id.len id.bytes) }) id
same_id id h =
    ap (λ (n : ℕ). record { len = n; bytes = zero_padded (take id.len id.bytes) }) (length-take-le id.len id.bytes (omega (arith, h.room, h.short)))
    ∙ ap (λ (kept : List ℕ). record { len = id.len; bytes = kept }) (sym h.rest)
