use Rattle.std.proofs.Common.{subst}
use Rattle.qh_script.specs.Tokens.{RefusesTokens}
use Rattle.qh_exchange.specs.Program.{TokensEnd, refused, wanting}
use Rattle.qh_exchange.proofs.Endings.{ends_by, looked_ends}
use Rattle.qh_exchange.proofs.tokens.run_commands.Goals as goal

pub returns-in-Ok : goal.returns-in-Ok
returns-in-Ok c = looked_ends _ _ _ _ c.in-Ok.ensures.commands c.look_at_all.ensures

pub returns-in-Err-Refused : goal.returns-in-Err-Refused
returns-in-Err-Refused c =
    let line = subst (RefusesTokens c.args.text.now) c.in-Err-Refused.field-0-is c.in-Err-Refused.ensures.refused in
    ends_by (TokensEnd c.args.text.now) c.bare.result _ _ c.bare.ensures.text c.bare.ensures.last (refused _ line)

pub returns-in-Err-Memory : goal.returns-in-Err-Memory
returns-in-Err-Memory c =
    let commands = subst (RefusesTokens c.args.text.now) c.in-Err-Memory.field-0-is c.in-Err-Memory.ensures.refused in
    ends_by (TokensEnd c.args.text.now) c.bare-in-Err-Memory.result _ _ c.bare-in-Err-Memory.ensures.text c.bare-in-Err-Memory.ensures.last (wanting commands.0 commands.1 commands.2)
