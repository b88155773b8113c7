use Rattle.qh_spec.proofs.TokenTexts.{token_line_one, one_log, one_list, one_refusal, not_both, judged}
use Rattle.qh_spec.proofs.laws.tokens.commands.Goals as goal

pub returns-clause-one_line : goal.returns-clause-one_line
returns-clause-one_line c = token_line_one

pub returns-clause-one_log : goal.returns-clause-one_log
returns-clause-one_log c = one_log

pub returns-clause-one_list : goal.returns-clause-one_list
returns-clause-one_list c = one_list

pub returns-clause-one_refusal : goal.returns-clause-one_refusal
returns-clause-one_refusal c = one_refusal

pub returns-clause-either : goal.returns-clause-either
returns-clause-either c = not_both

pub returns-clause-judged : goal.returns-clause-judged
returns-clause-judged c = judged
