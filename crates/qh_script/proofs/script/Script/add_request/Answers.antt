use Rattle.std.proofs.Common.{◌≡◌, List, ℕ, Some, refl, subst}
use Rattle.qh_spec.specs.Message.{target_of}
use Rattle.qh_spec.specs.Script.{applied}
use Rattle.qh_spec.specs.ScriptLine as says
use Rattle.qh_script.proofs.script.Script.add_request.Goals as goal

pub returns : goal.returns
returns c =
    let target = target_of c.in_ok-uri.uri in (
      says.Request c.args.method.now target,
      (target, c.requires.method, c.in_ok-uri.ensures, refl),
      subst (λ (m : List ℕ). applied (says.Request m target) c.args.self.now ≡ Some c.push_request.new.self) c.in_ok-method.ensures c.in_ok-push_request.ensures,
    )
