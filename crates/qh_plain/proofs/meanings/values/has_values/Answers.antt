use Rattle.std.proofs.Common.{◌≡◌, sym, ap, ◌∙◌, List, ℕ}
use Rattle.http_header.specs.FieldValue.{FieldValue}
use Rattle.qh_spec.specs.Meaning.{values_of}
use Rattle.qh_spec.specs.Same.{bytes_under}
use Rattle.qh_plain.specs.Values.{bytes_of}
use Rattle.qh_plain.proofs.Values.{plain_expected}
use Rattle.qh_plain.proofs.meanings.values.has_values.Goals as goal

pub returns : goal.returns
returns c =
    let m = c.args.map.now in
    let fs = c.args.fields.now in
    let name = c.args.name.now in
    let under : bytes_of c.iter.result ≡ bytes_under m name = ap (λ (z : List FieldValue). bytes_of z) (c.iter.ensures ∙ c.get_all.ensures.value) in
    let given : values_of c.as_bytes.result.now fs ≡ values_of name fs = ap (λ (z : List ℕ). values_of z fs) c.as_bytes.ensures.value in
    plain_expected m fs name c.are_values.result c.as_bytes.ensures.valid
    (λ t. sym under ∙ c.are_values.ensures.0 t ∙ given, λ e. c.are_values.ensures.1 (under ∙ e ∙ sym given))
