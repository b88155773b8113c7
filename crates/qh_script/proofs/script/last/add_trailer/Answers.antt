use Rattle.std.proofs.Common.{◌-◌, vec_len, refl, arith}
use Rattle.qh_spec.specs.Script.{with_trailer}
use Rattle.qh_script.proofs.Changes.{last_changed, last_refused}
use Rattle.qh_script.proofs.script.last.add_trailer.Goals as goal

pub returns-clause-taken : goal.returns-clause-taken
returns-clause-taken c =
    let old = c.args.requests.now in
    last_changed c.with_one_trailer.result (with_trailer c.args.name c.args.value.bytes) old.items c.in-Some.last.now c.with_one_trailer.new.message (vec_len old - 1)
    (omega (arith, c.in-Some.ensures.variant.0 refl)) c.in-Some.ensures.value c.with_one_trailer.ensures.taken

pub returns-clause-refused : goal.returns-clause-refused
returns-clause-refused c =
    let old = c.args.requests.now in
    last_refused c.with_one_trailer.result (with_trailer c.args.name c.args.value.bytes) old.items c.in-Some.last.now (vec_len old - 1)
    (omega (arith, c.in-Some.ensures.variant.0 refl)) c.in-Some.ensures.value c.with_one_trailer.ensures.refused
