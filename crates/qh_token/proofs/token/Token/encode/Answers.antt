use Rattle.std.proofs.Common.{◌++◌, ap, arith, ◌∙◌}
use Rattle.qh_token.proofs.Writing.{not_err, token_short, written_parts}
use Rattle.qh_token.proofs.token.Token.encode.Goals as goal
use Rattle.qh_token.specs.Parts.{value_of_parts}
use Rattle.qh_token.specs.Token.{IsToken, token_bytes, value_of}

is_token : (c : goal.Else-is_err) → IsToken (token_bytes (value_of c.args.self.now)) (value_of c.args.self.now)
is_token c = written_parts (value_of_parts c.parts.result) (value_of c.args.self.now) c.parts.ensures.value (not_err c.put.result c.put.ensures.are c.if-is_err.ensures.value) c.parts.ensures.allowed

pub returns-clause-is : goal.returns-clause-is
returns-clause-is c = is_token c

pub returns-clause-short : goal.returns-clause-short
returns-clause-short c =
    let items = not_err c.put.result c.put.ensures.ok c.if-is_err.ensures.value in
    let short = token_short c.args.out.now.items c.put.new.out.items (token_bytes (value_of c.args.self.now)) (value_of c.args.self.now) (items ∙ ap (λ z. c.args.out.now.items ++ token_bytes z) c.parts.ensures.value) (is_token c) in
    omega (arith, short)
