use Rattle.std.proofs.Common.{ℕ, List, [], ◌∷◌, subst}
use Rattle.qh_hello.proofs.Puts.{map_ok, last_put}
use Rattle.qh_hello.specs.Put.{IsPut}
use Rattle.qh_spec.specs.ParameterIds as parameter_ids
use Rattle.qh_hello.proofs.write.put_last.Goals as goal

pub returns : goal.returns
returns c =
    map_ok c.put_number_if_some.result c.put_number_if_some.ensures
    (last_put c.args.out.now.items c.put_number.new.out.items c.put_bytes.new.out.items c.put_id_if_some.new.out.items c.put_number_if_some.new.out.items _ _ _ _ c.in_ok-put_number.ensures
    (subst (λ (z : List ℕ). IsPut c.put_number.new.out.items c.put_bytes.new.out.items (record { id = parameter_ids.initial_source_connection_id; value = z } ∷ [])) c.bytes.ensures.value c.in_ok-put_bytes.ensures)
    c.in_ok-put_id_if_some.ensures)
