use Rattle.std.proofs.Common.{◌≡◌, ℕ, ◌≤◌, List, length, take, Option, Some, None, sym, arith}
use Rattle.std.specs.Option.{option_map, IfSome, IfNone}
use Rattle.qh_spec.specs.Varint.{IsVarint}
use Rattle.qh_base.specs.Varint.{varint_at}
use Rattle.qh_base.proofs.Varints.{IsBytes, read_spelled, none_spelled}
use Rattle.qh_base.proofs.varint.get_varint.Goals as goal

found_of : (r : Option (ℕ × ℕ)) (bytes : List ℕ) → IsBytes bytes → option_map (λ f. (f.0, f.1)) r ≡ varint_at bytes
    → IfSome r (λ f. (f.1 ≤ length bytes) × IsVarint (take f.1 bytes) f.0)
found_of None bytes are e = tt
found_of (Some f) bytes are e = let reads = read_spelled bytes f are (sym e) in (reads.fits, reads.spelled)

none_of : (r : Option (ℕ × ℕ)) (bytes : List ℕ) → option_map (λ f. (f.0, f.1)) r ≡ varint_at bytes
    → IfNone r ((n k : ℕ) → IsVarint (take k bytes) n → ⊥)
none_of None bytes e = none_spelled bytes (sym e)
none_of (Some f) bytes e = tt

pub returns-clause-found : goal.returns-clause-found
returns-clause-found c = found_of c.varint_of.result c.args.bytes.now (λ i. omega (arith, c.type_inv.bytes i)) c.varint_of.ensures

pub returns-clause-none : goal.returns-clause-none
returns-clause-none c = none_of c.varint_of.result c.args.bytes.now c.varint_of.ensures
