use Rattle.std.proofs.Common.{ℕ, ◌++◌, List, [], ◌∷◌, is_some, Option, refl, sym, ap, ◌∙◌, subst}
use Rattle.qh_buffers.specs.Ranges.{PlainRange, paired, before, above, joined, IsAdded}
use Rattle.qh_buffers.proofs.PairedRanges.{reached_found}
use Rattle.qh_buffers.proofs.JoinedRanges.{grown_added, last_added, put_added}
use Rattle.qh_buffers.proofs.range_set.btree_range_set.insert_into.Goals as goal

pub returns-in-Some-clause-ok : goal.returns-in-Some-clause-ok
returns-in-Some-clause-ok c =
    let es = c.args.ranges.now.entries in
    let s = c.args.range.start in
    let e = c.args.range.end in
    let r : PlainRange = record { start = s; end = e } in
    let f : ℕ × ℕ = (c.in-Some.last.start, c.in-Some.last.end) in
    let last = c.in-Some.ensures in
    let is = c.set_last_end.ensures last.0 f last.1 ∙ ap (λ (n : ℕ). last.0 ++ (f.0, n) ∷ []) c.max.ensures in
    subst (λ (l : List (ℕ × ℕ)). IsAdded (paired es) (paired l) r) (sym is) (last_added es last.0 f s c.requires.apart last.1 last.2 e last.3 c.requires.some)

pub returns-in_default-reaching-clause-ok : goal.returns-in_default-reaching-clause-ok
returns-in_default-reaching-clause-ok c =
    let es = c.args.ranges.now.entries in
    let s = c.args.range.start in
    let e = c.args.range.end in
    let r : PlainRange = record { start = s; end = e } in
    let is = c.absorb.ensures ∙ ap (λ (l : List (ℕ × ℕ)). before s l ++ joined s e (above s l)) c.in_ok-insert.ensures.entries in
    subst (λ (l : List (ℕ × ℕ)). IsAdded (paired es) (paired l) r) (sym is) (put_added es s e c.requires.apart (c.in_default-reaching.ensures.none refl) c.requires.some)

pub absorb-requires-2 : goal.absorb-requires-2
absorb-requires-2 c =
    let some = c.in-Some-reaching.ensures.some in
    ap (λ (o : Option ℕ). is_some o) (reached_found c.args.ranges.now.entries some.0 (c.in-Some-reaching.earlier.start, c.in-Some-reaching.earlier.end) c.args.range.start c.requires.apart some.1)

pub returns-clause-ok : goal.returns-clause-ok
returns-clause-ok c =
    let es = c.args.ranges.now.entries in
    let s = c.args.range.start in
    let e = c.args.range.end in
    let r : PlainRange = record { start = s; end = e } in
    let some = c.in-Some-reaching.ensures.some in
    let f : ℕ × ℕ = (c.in-Some-reaching.earlier.start, c.in-Some-reaching.earlier.end) in
    let is = c.absorb-2.ensures ∙ ap (λ (n : ℕ). before f.0 es ++ joined f.0 n (above f.0 es)) c.max-2.ensures in
    subst (λ (l : List (ℕ × ℕ)). IsAdded (paired es) (paired l) r) (sym is) (grown_added es some.0 f s e c.requires.apart some.1 some.2 c.requires.some)
