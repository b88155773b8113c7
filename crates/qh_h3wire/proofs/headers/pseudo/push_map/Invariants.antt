use Rattle.std.proofs.Common.{◌≡◌, ◌++◌, List, ℕ, map}
use Rattle.std.specs.List.{AllByRecursion}
use Rattle.http_header.specs.FieldValue.{FieldValue}
use Rattle.qh_qpack.specs.SectionFault.{IsWritable}
use Rattle.qh_spec.specs.Fields.{Field, map_fields}
use Rattle.qh_h3wire.specs.HeadFields.{IsPlainField}
use Rattle.qh_h3wire.proofs.headers.pseudo.push_map.Given as goal

-- the fields of these pairs
abbrev pub pair_fields : List (List ℕ × FieldValue) → List Field
pair_fields pairs = map (λ (p : List ℕ × FieldValue). record { name = p.0; value = p.1.bytes }) pairs

-- the fields so far, and those that are left
abbrev pub invariant-loop-name : goal.invariant-loop-name
invariant-loop-name l = record {
  value : l.fields.items ++ pair_fields l.name-iterator ≡ l.fn.fields.items ++ map_fields l.fn.map;
  plain : AllByRecursion IsPlainField (pair_fields l.name-iterator) → AllByRecursion IsPlainField (map_fields l.fn.map);
  short : AllByRecursion IsWritable l.fn.fields.items → AllByRecursion IsWritable l.fields.items;
}
