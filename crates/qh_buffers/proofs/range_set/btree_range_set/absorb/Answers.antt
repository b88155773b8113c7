use Rattle.std.proofs.Common.{◌≡◌, ℕ, ◌++◌, List, Option, is_some, true, max, refl, sym, ap, ◌∙◌, arith}
use Rattle.qh_buffers.specs.Ranges.{before, above, joined}
use Rattle.qh_buffers.proofs.PairedLists.{sorted_rises, above_found, first_above, other_is, removed, written}
use Rattle.qh_buffers.proofs.JoinedRanges.{joined_more}
use Rattle.qh_buffers.proofs.range_set.btree_range_set.absorb.Goals as goal

pub loop-next-smaller : goal.loop-next-smaller
loop-next-smaller c =
    let es = c.loop-next.ranges.entries in
    let some = c.in-Some.ensures.some in
    let found = above_found es some.0 0 c.args.start (c.in-Some.next.start, c.in-Some.next.end) (sorted_rises es c.in-Some.ensures.ordered) some.1 in
    let there : is_some c.remove.result ≡ true = ap (λ (o : Option ℕ). is_some o) (c.remove.ensures.value ∙ found) in
    let less = rw there at c.remove.ensures.len in
    omega (arith, less)

pub loop-next-preserved : goal.loop-next-preserved
loop-next-preserved c =
    let es = c.loop-next.ranges.entries in
    let start = c.args.start in
    let some = c.in-Some.ensures.some in
    let f : ℕ × ℕ = (c.in-Some.next.start, c.in-Some.next.end) in
    let gone = removed es some.0 0 start f (sorted_rises es c.in-Some.ensures.ordered) some.1 in
    let later = first_above es some.0 start f some.1 in
    let kept = c.remove.ensures.updates.2 start (other_is f.0 start (λ same. omega (arith, later, same))) in
    record {
      there = ap (λ (o : Option ℕ). is_some o) kept ∙ c.loop-next.invariant.there;
      front = ap (before start) c.remove.ensures.entries ∙ gone.before_is ∙ c.loop-next.invariant.front;
      rest = ap (λ (n : ℕ). joined start n (above start c.remove.new.self.entries)) c.max-end.ensures
          ∙ ap (joined start (max c.loop-next.end f.1)) (ap (above start) c.remove.ensures.entries ∙ gone.above_is)
          ∙ sym (joined_more (above start es) some.0 f start c.loop-next.end some.1 some.2)
          ∙ c.loop-next.invariant.rest;
    }

pub returns-in-Some-get_mut : goal.returns-in-Some-get_mut
returns-in-Some-get_mut c =
    let es = c.loop-next.ranges.entries in
    let start = c.args.start in
    let end = c.loop-next.end in
    let write = written es 0 start end (sorted_rises es c.in_default.ensures.ordered) c.loop-next.invariant.there in
    (c.get_mut.follows.holds end).0
    ∙ write
    ∙ ap (λ (l : List (ℕ × ℕ)). before start es ++ l) (sym (c.in_default.ensures.none refl) ∙ c.loop-next.invariant.rest)
    ∙ ap (λ (l : List (ℕ × ℕ)). l ++ joined start c.args.end (above start c.args.ranges.now.entries)) c.loop-next.invariant.front
