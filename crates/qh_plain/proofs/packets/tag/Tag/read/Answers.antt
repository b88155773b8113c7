use Rattle.std.proofs.Common.{◌≡◌, arith, false, true, refl}
use Rattle.qh_plain.proofs.TagReads.{tag_tells, tag_laid_out, tag_from}
use Rattle.qh_plain.proofs.packets.tag.Tag.read.Goals as goal

pub returns-in_default-clause-none : goal.returns-in_default-clause-none
returns-in_default-clause-none c = λ s x n t. c.in_default.ensures.none _ _ _ _ _ _ (tag_laid_out c.args.bytes.now s x n t)

pub returns-in_default-side_of-clause-none : goal.returns-in_default-side_of-clause-none
returns-in_default-side_of-clause-none c = λ s x n t.
    c.in_default-side_of.ensures.none s (tag_tells c.args.bytes.now _ _ _ _ _ _ s x n t c.in-Some.ensures.found).sender_is

pub returns-in_default-space_of-clause-none : goal.returns-in_default-space_of-clause-none
returns-in_default-space_of-clause-none c = λ s x n t.
    c.in_default-space_of.ensures.none x (tag_tells c.args.bytes.now _ _ _ _ _ _ s x n t c.in-Some.ensures.found).space_is

pub returns-then-number-clause-none : goal.returns-then-number-clause-none
returns-then-number-clause-none c = λ s x n t.
    let told = tag_tells c.args.bytes.now _ _ _ _ _ _ s x n t c.in-Some.ensures.found in
    let number = told.number_is in
    let small = told.small in
    omega arith

pub returns-then-not-has_key-clause-none : goal.returns-then-not-has_key-clause-none
returns-then-not-has_key-clause-none c = λ s x n t.
    let told = tag_tells c.args.bytes.now _ _ _ _ _ _ s x n t c.in-Some.ensures.found in
    let both : false ≡ true = c.if-not-has_key.ensures.1 told.key in
    cc

pub returns-clause-found : goal.returns-clause-found
returns-clause-found c =
    tag_from c.args.bytes.now _ _ _ _ _ _ _ _ c.in-Some.ensures.found c.in-Some-side_of.ensures.found c.in-Some-space_of.ensures.found (omega arith) (c.if-not-has_key.ensures.0 refl)
