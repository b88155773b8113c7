-- Worked hellos as they are written.
use Rattle.std.proofs.Common.{◌≡◌, ℕ, List, Some, None, refl, arith}
use Rattle.qh_spec.specs.Hello.{hello_bytes, hello_of, IsSayable}
use Rattle.qh_spec.specs.HelloRows.{full_greeting, full_bytes, plain_greeting, plain_bytes}
use Rattle.qh_spec.specs.Varint.{varint}
use Rattle.qh_spec.specs.declared.sides.Side.TheVariants.{Server}
use Rattle.qh_spec.proofs.HelloRows.{not_client}

pub full_written : hello_bytes (hello_of full_greeting) ≡ full_bytes
unfolding varint
full_written = refl

pub plain_written : hello_bytes (hello_of plain_greeting) ≡ plain_bytes
unfolding varint
plain_written = refl

pub full_sayable : IsSayable full_greeting
full_sayable = record {
  name = omega arith;
  client = λ e. not_client Server refl e;
  original_id = omega arith;
  idle = omega arith;
  reset_token = refl;
  limits = record { max_data = omega arith; bidi_local = omega arith; bidi_remote = omega arith; uni = omega arith; max_bidi = omega arith; max_uni = omega arith };
  some_ids = omega arith;
  id_limit = omega arith;
  source_id = omega arith;
  retry_id = omega arith;
  datagram = omega arith;
}

pub plain_sayable : IsSayable plain_greeting
plain_sayable = record {
  name = omega arith;
  client = λ e. (refl, refl, refl);
  original_id = tt;
  idle = omega arith;
  reset_token = tt;
  limits = record { max_data = omega arith; bidi_local = omega arith; bidi_remote = omega arith; uni = omega arith; max_bidi = omega arith; max_uni = omega arith };
  some_ids = omega arith;
  id_limit = omega arith;
  source_id = omega arith;
  retry_id = tt;
  datagram = tt;
}

pub one_id_not : IsSayable (record plain_greeting { id_limit = 1 }) → ⊥
one_id_not s = let l = s.some_ids in omega (arith, l)

pub token_not : (token : List ℕ) → IsSayable (record plain_greeting { reset_token = Some token }) → ⊥
token_not token s = let e : Some token ≡ None = (s.client refl).1 in absurd (let wrong = e in cc)
