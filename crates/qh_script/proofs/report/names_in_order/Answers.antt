use Rattle.std.proofs.Common.{rules, ◌≡◌, map}
use Rattle.std.specs.Cmp.Lexicographic.{slice_cmp}
use Rattle.std.specs.Ordering.{nat_cmp, is_lt}
use Rattle.std.proofs.lemmas.Cmp.{nat_list_cmp_total}
use Rattle.std.proofs.lemmas.Iterator.Consumers.{map_from_collect, YieldsList-from_first}
use Rattle.std.proofs.lemmas.List.Sorted.{answers_always, ranks_by}
use Rattle.std.proofs.lemmas.Result.{IfOk-at_ok}
use Rattle.http_header.specs.HeaderMap.{keys}
use Rattle.qh_script.proofs.Reports.{names_ordered}
use Rattle.qh_script.proofs.report.names_in_order.Goals as goal

pub returns : goal.returns
returns c =
    let made = map_from_collect c.collect.result c.collect.ensures.ran (YieldsList-from_first (λ name. name.now) (λ it. it) (keys c.args.fields.now) c.keys.ensures.value) in
    let sorted = c.in_ok-sort_by.ensures.sorted (λ a b. is_lt (slice_cmp nat_cmp a.now b.now)) (ranks_by nat_list_cmp_total (λ name. name.now)) (answers_always _ _ _ (λ f a r g h. search rules)) in
    names_ordered (λ name. name.now) c.in_ok-names.names.items c.sort_by.new.self.items (keys c.args.fields.now)
    (IfOk-at_ok (λ w. map (λ name. name.now) w.items ≡ keys c.args.fields.now) c.in_ok-names.was made)
    c.in_ok-sort_by.ensures.permutation sorted
