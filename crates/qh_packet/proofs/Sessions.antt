-- How the parts of a tag are joined, and that a plain session makes and takes tags alone.
use Rattle.std.proofs.Common.{◌≡◌, ℕ, ◌-◌, ◌≤◌, min, List, ◌++◌, length, take, replicate, refl, ap, ◌∙◌, arith, Bool, true, false, not}
use Rattle.std.proofs.lemmas.List.{take_min, take-replicate}
use Rattle.std.proofs.lemmas.Slice.Eq.{bytes_eq-Decides}
use Rattle.qh_spec.specs.Tag.{padded, tag_bytes}
use Rattle.qh_packet.specs.Session.{MakesTags, NamesTags, PlainKeys, plain_accepts, plain_sealed}

-- a front and zeros behind it
pub pads : (size : ℕ) (bytes : List ℕ) → size ≤ 16
    → take (min size (length bytes)) bytes ++ take (size - min size (length bytes)) (replicate 16 0) ≡ padded size bytes
pads size bytes short =
    let left : size - min size (length bytes) ≡ size - length bytes = omega arith in
    ap (λ (xs : List ℕ). xs ++ take (size - min size (length bytes)) (replicate 16 0)) (take_min size bytes)
    ∙ ap (λ (n : ℕ). take size bytes ++ take n (replicate 16 0)) left
    ∙ ap (λ (xs : List ℕ). take size bytes ++ xs) (take-replicate (size - length bytes) 16 0 (omega arith))

pub not-false : (b : Bool) → false ≡ not b → b ≡ true
not-false true e = refl
not-false false e = cc

pub plain_names : (keys : PlainKeys) → length keys.key_id ≤ 20 → NamesTags (plain_accepts keys)
plain_names keys short = λ from space number tag bound e.
    record { key_id = keys.key_id; short = short; bound = bound; is = (bytes_eq-Decides tag (tag_bytes keys.key_id from space number)).0 e }

pub plain_makes : (keys : PlainKeys) → length keys.key_id ≤ 20 → MakesTags (plain_sealed keys)
plain_makes keys short = λ from space number bound. record { key_id = keys.key_id; short = short; bound = bound; is = refl }
