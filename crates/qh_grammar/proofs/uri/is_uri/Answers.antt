use Rattle.std.proofs.Common.{rules}
use Rattle.std.proofs.lemmas.Bool.{false≢true}
use Rattle.http_uri.specs.Grammar.{StartsOrigin, IsPathInput, IsAuthority}
use Rattle.qh_grammar.specs.Uri.{IsAbsolute, IsUri}
use Rattle.qh_grammar.proofs.Uris.{tested, origin_uri, no_origin_uri, absolute_uri, no_absolute_uri, authority_uri, no_authority_uri}
use Rattle.qh_grammar.proofs.uri.is_uri.Goals as goal

pub returns-then-starts_origin : goal.returns-then-starts_origin
returns-then-starts_origin c =
    let text = c.args.text.now in
    let start : StartsOrigin text = c.starts_origin.ensures.0 c.if-starts_origin.true in
    tested (IsPathInput text) (IsUri text) c.is_path_input.result c.is_path_input.ensures.yes (origin_uri text c.if-text-gt-MAX_URI.false start)
    (λ f. no_origin_uri text start (c.is_path_input.ensures.no f))

pub returns-in-Some : goal.returns-in-Some
returns-in-Some c =
    let text = c.args.text.now in
    let other : ¬ (StartsOrigin text) = λ s. false≢true (search rules) in
    tested (IsAbsolute text) (IsUri text) c.is_absolute.result c.is_absolute.ensures.0 (absolute_uri text c.if-text-gt-MAX_URI.false)
    (λ f. no_absolute_uri text other c.in-Some.ensures.found.0 (search rules))

pub returns-in-None : goal.returns-in-None
returns-in-None c =
    let text = c.args.text.now in
    let other : ¬ (StartsOrigin text) = λ s. false≢true (search rules) in
    tested (IsAuthority text) (IsUri text) c.is_authority.result c.is_authority.ensures.yes (authority_uri text c.if-text-gt-MAX_URI.false other)
    (λ f. no_authority_uri text other c.in-None.ensures.found (c.is_authority.ensures.no f))
