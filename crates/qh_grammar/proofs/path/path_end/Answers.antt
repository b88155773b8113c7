use Rattle.std.proofs.Common.{refl, ap, ◌∙◌, rules}
use Rattle.std.proofs.lemmas.List.{take_rest}
use Rattle.std.specs.List.{prefix_len}
use Rattle.http_uri.specs.ByteClasses.{is_query_byte}
use Rattle.http_uri.proofs.PathLemmas.{scan_path, scan_bad_path, scan_query, scan_bad_query}
use Rattle.qh_grammar.proofs.path.path_end.Goals as goal

pub returns-then-is_end-clause-value : goal.returns-then-is_end-clause-value
returns-then-is_end-clause-value c =
    (65535, scan_path _ _ c.path_run-path.ensures.value (search rules) c.if-text-gt-MAX_PATH.false (c.if-not-starts_path.ensures.0 refl) (c.if-is_end.ensures.yes refl))

pub returns-then-text-path-ne63-clause-value : goal.returns-then-text-path-ne63-clause-value
returns-then-text-path-ne63-clause-value c =
    let more = c.if-is_end.ensures.no refl in
    scan_bad_path _ _ c.path_run-path.ensures.value more.0 more.1 c.if-text-path-ne63.true

pub returns-then-is_end-2-clause-value : goal.returns-then-is_end-2-clause-value
returns-then-is_end-2-clause-value c =
    let run = c.query_run.ensures.value ∙ ap (prefix_len is_query_byte) (take_rest c.args.text.now _) in (
      c.path_run-path.result,
      scan_query _ _ c.path_run-path.ensures.value (c.if-is_end.ensures.no refl).0 c.if-text-path-ne63.false _ run
          c.if-text-gt-MAX_PATH.false (c.if-not-starts_path.ensures.0 refl) (c.if-is_end-2.ensures.yes refl),
    )

pub returns-else-is_end-2-clause-value : goal.returns-else-is_end-2-clause-value
returns-else-is_end-2-clause-value c =
    let run = c.query_run.ensures.value ∙ ap (prefix_len is_query_byte) (take_rest c.args.text.now _) in
    let more = c.if-is_end-2.ensures.no refl in
    scan_bad_query _ _ c.path_run-path.ensures.value (c.if-is_end.ensures.no refl).0 c.if-text-path-ne63.false _ run more.0 more.1
