use Rattle.std.proofs.Common.{List, ℕ, Option, Err, inr, ap, ◌∙◌, subst}
use Rattle.std.specs.Option.{option_map, is_some}
use Rattle.http_header.specs.FieldValue.{FieldValue}
use Rattle.qh_h3wire.specs.HeadParts.{IsTargetAnswer}
use Rattle.qh_h3wire.proofs.Requests.{host_bytes}
use Rattle.qh_h3wire.proofs.headers.request_parts.Goals as goal

pub returns-in-Err : goal.returns-in-Err
returns-in-Err c =
    let h = host_bytes c.get.result ∙ ap (option_map (λ (v : FieldValue). v.bytes)) c.get.ensures.value in
    inr (ap is_some c.in-Some.is, subst (λ (z : Option (List ℕ)). IsTargetAnswer (Err c.in-Err.fault) c.args.pseudo.scheme c.args.pseudo.authority c.args.pseudo.path z) h c.in-Err.ensures)
