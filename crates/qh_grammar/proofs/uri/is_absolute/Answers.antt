use Rattle.std.proofs.Common.{◌+◌}
use Rattle.qh_grammar.proofs.Uris.{no_scheme, no_authority, tail_ends, absolute_made, tail_told, behind}
use Rattle.qh_grammar.proofs.uri.is_absolute.Goals as goal

pub returns-then-not-is_scheme : goal.returns-then-not-is_scheme
returns-then-not-is_scheme c =
    (λ f. absurd cc, λ h. absurd (no_scheme c.args.text.now c.args.scheme_len c.requires.len (c.is_scheme.ensures.no c.if-not-is_scheme.true) h))

pub returns-then-not-is_authority : goal.returns-then-not-is_authority
returns-then-not-is_authority c = (
  λ f. absurd cc,
  λ h. absurd (no_authority c.args.text.now c.args.scheme_len c.authority_run-end.result c.requires.len c.authority_run-end.ensures.value
      (c.is_authority.ensures.no c.if-not-is_authority.true) h),
)

pub is_tail-requires : goal.is_tail-requires
is_tail-requires c = tail_ends (behind c.args.text.now (c.args.scheme_len + 3)) c.authority_run-end.result c.authority_run-end.ensures.value

pub returns : goal.returns
returns c = (
  λ yes. absolute_made c.args.text.now c.args.scheme_len c.authority_run-end.result c.requires.has c.requires.len
      (c.is_scheme.ensures.yes c.if-not-is_scheme.false) (c.is_authority.ensures.yes c.if-not-is_authority.false) (c.is_tail.ensures.0 yes),
  λ h. c.is_tail.ensures.1 (tail_told c.args.text.now c.args.scheme_len c.authority_run-end.result c.requires.len c.authority_run-end.ensures.value h),
)
