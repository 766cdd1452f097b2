use Rattle.std.proofs.Common.{refl}
use Rattle.olk_spec.proofs.Computed.{computed}
use Rattle.olk_spec.specs.Vectors_patterns.{Vectors_patterns}

pub vectors_patterns : Vectors_patterns
unfolding computed
vectors_patterns = record {
  an_open_group_alone = refl;
  an_open_group_beside_a_prefix = refl;
  an_open_group_beside_true = refl;
  an_open_group_beside_false = refl;
  an_open_group_beside_a_schema = refl;
  an_open_group_beside_false_and_a_name = refl;
  an_open_group_beside_a_schema_and_a_name = refl;
  an_open_group_beside_false_and_15_names = refl;
  an_open_group_beside_a_schema_and_15_names = refl;
  a_look_behind_alone = refl;
  a_look_behind_beside_a_prefix = refl;
  a_look_behind_beside_true = refl;
  a_look_behind_beside_false = refl;
  a_look_behind_beside_a_schema = refl;
  a_look_behind_beside_false_and_a_name = refl;
  a_look_behind_beside_a_schema_and_a_name = refl;
  a_look_behind_beside_false_and_15_names = refl;
  a_look_behind_beside_a_schema_and_15_names = refl;
}
