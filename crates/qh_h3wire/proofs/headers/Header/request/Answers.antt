use Rattle.std.proofs.Common.{◌≡◌, Option, Some, None, List, ℕ, Bor, ap, ◌∙◌}
use Rattle.std.specs.Option.{option_map}
use Rattle.http_header.specs.FieldValue.{FieldValue}
use Rattle.http_uri.specs.Uri.{uri_authority}
use Rattle.qh_h3wire.specs.Header.{map_host}
use Rattle.qh_h3wire.specs.HeaderFault.{authority_fault}
use Rattle.qh_h3wire.proofs.Requests.{faulty, host_bytes}
use Rattle.qh_h3wire.proofs.Targets.{makes_own_target}
use Rattle.qh_h3wire.proofs.headers.Header.request.Goals as goal

pub returns-in-Some-clause-missing : goal.returns-in-Some-clause-missing
returns-in-Some-clause-missing c =
    let h = host_bytes c.get.result ∙ ap (option_map (λ (v : FieldValue). v.bytes)) c.get.ensures.value in
    let e : Some c.in-Some.fault ≡ authority_fault (uri_authority c.args.uri) (map_host c.args.fields) = c.in-Some.ensures ∙ ap (λ (z : Option (List ℕ)). authority_fault z (option_map (λ (v : Bor FieldValue). v.now.bytes) c.get.result)) c.authority.ensures ∙ ap (authority_fault (uri_authority c.args.uri)) h in
    (faulty _ (uri_authority c.args.uri) (map_host c.args.fields) c.in-Some.fault e).missing

pub returns-in-Some-clause-contradicted : goal.returns-in-Some-clause-contradicted
returns-in-Some-clause-contradicted c =
    let h = host_bytes c.get.result ∙ ap (option_map (λ (v : FieldValue). v.bytes)) c.get.ensures.value in
    let e : Some c.in-Some.fault ≡ authority_fault (uri_authority c.args.uri) (map_host c.args.fields) = c.in-Some.ensures ∙ ap (λ (z : Option (List ℕ)). authority_fault z (option_map (λ (v : Bor FieldValue). v.now.bytes) c.get.result)) c.authority.ensures ∙ ap (authority_fault (uri_authority c.args.uri)) h in
    (faulty _ (uri_authority c.args.uri) (map_host c.args.fields) c.in-Some.fault e).contradicted

pub returns-in-None-clause-target : goal.returns-in-None-clause-target
returns-in-None-clause-target c =
    let h = host_bytes c.get.result ∙ ap (option_map (λ (v : FieldValue). v.bytes)) c.get.ensures.value in
    let e : None ≡ authority_fault (uri_authority c.args.uri) (map_host c.args.fields) = c.in-None.ensures ∙ ap (λ (z : Option (List ℕ)). authority_fault z (option_map (λ (v : Bor FieldValue). v.now.bytes) c.get.result)) c.authority.ensures ∙ ap (authority_fault (uri_authority c.args.uri)) h in
    rw c.request_head.ensures (makes_own_target c.args.method c.args.uri c.args.fields e)
