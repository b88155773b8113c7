use Rattle.std.proofs.Common.{ℕ, List, subst}
use Rattle.std.specs.Prelude.{IfOk, IfSome, IfNone}
use Rattle.qh_plain.specs.Placed.{AreWhole}
use Rattle.qh_plain.proofs.Placed.{AreCarried, found_whole, none_whole}
use Rattle.qh_plain.proofs.messages.whole.whole_stream.Goals as goal

pub returns-clause-found : goal.returns-clause-found
returns-clause-found c =
    let placed = c.in_ok-carried.carried.bytes.items in
    let ends = c.in_ok-carried.carried.ends.items in
    let are : AreCarried c.args.id_length c.args.datagrams.now c.args.sender c.args.stream placed ends =
    record { bytes_found = c.in_ok-carried.ensures.bytes_found; bytes_all = c.in_ok-carried.ensures.bytes_all; ends_found = c.in_ok-carried.ensures.ends_found; ends_all = c.in_ok-carried.ensures.ends_all } in
    found_whole c.args.id_length c.args.datagrams.now c.args.sender c.args.stream (λ v. v.items) placed ends c.whole_of.result are
    (subst (λ (z : List ℕ). IfOk c.whole_of.result (λ o. IfSome o (λ v. AreWhole placed z v.items))) c.as_slice-2.ensures.value
    (subst (λ (z : List (ℕ × ℕ)). IfOk c.whole_of.result (λ o. IfSome o (λ v. AreWhole z c.as_slice-2.result.now v.items))) c.as_slice.ensures.value c.whole_of.ensures.found))

pub returns-clause-none : goal.returns-clause-none
returns-clause-none c =
    let placed = c.in_ok-carried.carried.bytes.items in
    let ends = c.in_ok-carried.carried.ends.items in
    let are : AreCarried c.args.id_length c.args.datagrams.now c.args.sender c.args.stream placed ends =
    record { bytes_found = c.in_ok-carried.ensures.bytes_found; bytes_all = c.in_ok-carried.ensures.bytes_all; ends_found = c.in_ok-carried.ensures.ends_found; ends_all = c.in_ok-carried.ensures.ends_all } in
    none_whole c.args.id_length c.args.datagrams.now c.args.sender c.args.stream placed ends c.whole_of.result are
    (subst (λ (z : List ℕ). IfOk c.whole_of.result (λ o. IfNone o ((bytes : List ℕ) → AreWhole placed z bytes → ⊥))) c.as_slice-2.ensures.value
    (subst (λ (z : List (ℕ × ℕ)). IfOk c.whole_of.result (λ o. IfNone o ((bytes : List ℕ) → AreWhole z c.as_slice-2.result.now bytes → ⊥))) c.as_slice.ensures.value c.whole_of.ensures.none))
