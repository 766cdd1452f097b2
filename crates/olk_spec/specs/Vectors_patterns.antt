-- Patterns that the matcher refuses, beside each neighbour.
use Rattle.std.specs.Prelude.{◌∷◌, []}
use Rattle.olk_spec.specs.Answers.{Is_refused}

pub record Vectors_patterns : Type 0 where
  pub an_open_group_alone : Is_refused "{\"patternProperties\":{\"a(\":{}}}" ("\"a(\" is not a \"regex\" @ \"\", /patternProperties/a(" ∷ [])
  pub an_open_group_beside_a_prefix : Is_refused "{\"patternProperties\":{\"a(\":{},\"^x\":{}}}" ("\"a(\" is not a \"regex\" @ \"\", /patternProperties/a(" ∷ [])
  pub an_open_group_beside_true : Is_refused "{\"patternProperties\":{\"a(\":{}},\"additionalProperties\":true}" ("\"a(\" is not a \"regex\" @ \"\", /patternProperties/a(" ∷ [])
  pub an_open_group_beside_false : Is_refused "{\"patternProperties\":{\"a(\":{}},\"additionalProperties\":false}" ("\"a(\" is not a \"regex\" @ \"\", /patternProperties/a(" ∷ [])
  pub an_open_group_beside_a_schema : Is_refused "{\"patternProperties\":{\"a(\":{}},\"additionalProperties\":{\"type\":\"integer\"}}" ("\"a(\" is not a \"regex\" @ \"\", /patternProperties/a(" ∷ [])
  pub an_open_group_beside_false_and_a_name : Is_refused "{\"patternProperties\":{\"a(\":{}},\"additionalProperties\":false,\"properties\":{\"foo\":{}}}" ("\"a(\" is not a \"regex\" @ \"\", /patternProperties/a(" ∷ [])
  pub an_open_group_beside_a_schema_and_a_name : Is_refused "{\"patternProperties\":{\"a(\":{}},\"additionalProperties\":{\"type\":\"integer\"},\"properties\":{\"foo\":{}}}" ("\"a(\" is not a \"regex\" @ \"\", /patternProperties/a(" ∷ [])
  pub an_open_group_beside_false_and_15_names : Is_refused "{\"patternProperties\":{\"a(\":{}},\"additionalProperties\":false,\"properties\":{\"p0\":{},\"p1\":{},\"p2\":{},\"p3\":{},\"p4\":{},\"p5\":{},\"p6\":{},\"p7\":{},\"p8\":{},\"p9\":{},\"p10\":{},\"p11\":{},\"p12\":{},\"p13\":{},\"p14\":{}}}" ("\"a(\" is not a \"regex\" @ \"\", /patternProperties/a(" ∷ [])
  pub an_open_group_beside_a_schema_and_15_names : Is_refused "{\"patternProperties\":{\"a(\":{}},\"additionalProperties\":{\"type\":\"integer\"},\"properties\":{\"p0\":{},\"p1\":{},\"p2\":{},\"p3\":{},\"p4\":{},\"p5\":{},\"p6\":{},\"p7\":{},\"p8\":{},\"p9\":{},\"p10\":{},\"p11\":{},\"p12\":{},\"p13\":{},\"p14\":{}}}" ("\"a(\" is not a \"regex\" @ \"\", /patternProperties/a(" ∷ [])
  pub a_look_behind_alone : Is_refused "{\"patternProperties\":{\"(?<=a)b\":{}}}" ("\"(?<=a)b\" is not a \"regex\" @ \"\", /patternProperties/(?<=a)b" ∷ [])
  pub a_look_behind_beside_a_prefix : Is_refused "{\"patternProperties\":{\"(?<=a)b\":{},\"^x\":{}}}" ("\"(?<=a)b\" is not a \"regex\" @ \"\", /patternProperties/(?<=a)b" ∷ [])
  pub a_look_behind_beside_true : Is_refused "{\"patternProperties\":{\"(?<=a)b\":{}},\"additionalProperties\":true}" ("\"(?<=a)b\" is not a \"regex\" @ \"\", /patternProperties/(?<=a)b" ∷ [])
  pub a_look_behind_beside_false : Is_refused "{\"patternProperties\":{\"(?<=a)b\":{}},\"additionalProperties\":false}" ("\"(?<=a)b\" is not a \"regex\" @ \"\", /patternProperties/(?<=a)b" ∷ [])
  pub a_look_behind_beside_a_schema : Is_refused "{\"patternProperties\":{\"(?<=a)b\":{}},\"additionalProperties\":{\"type\":\"integer\"}}" ("\"(?<=a)b\" is not a \"regex\" @ \"\", /patternProperties/(?<=a)b" ∷ [])
  pub a_look_behind_beside_false_and_a_name : Is_refused "{\"patternProperties\":{\"(?<=a)b\":{}},\"additionalProperties\":false,\"properties\":{\"foo\":{}}}" ("\"(?<=a)b\" is not a \"regex\" @ \"\", /patternProperties/(?<=a)b" ∷ [])
  pub a_look_behind_beside_a_schema_and_a_name : Is_refused "{\"patternProperties\":{\"(?<=a)b\":{}},\"additionalProperties\":{\"type\":\"integer\"},\"properties\":{\"foo\":{}}}" ("\"(?<=a)b\" is not a \"regex\" @ \"\", /patternProperties/(?<=a)b" ∷ [])
  pub a_look_behind_beside_false_and_15_names : Is_refused "{\"patternProperties\":{\"(?<=a)b\":{}},\"additionalProperties\":false,\"properties\":{\"p0\":{},\"p1\":{},\"p2\":{},\"p3\":{},\"p4\":{},\"p5\":{},\"p6\":{},\"p7\":{},\"p8\":{},\"p9\":{},\"p10\":{},\"p11\":{},\"p12\":{},\"p13\":{},\"p14\":{}}}" ("\"(?<=a)b\" is not a \"regex\" @ \"\", /patternProperties/(?<=a)b" ∷ [])
  pub a_look_behind_beside_a_schema_and_15_names : Is_refused "{\"patternProperties\":{\"(?<=a)b\":{}},\"additionalProperties\":{\"type\":\"integer\"},\"properties\":{\"p0\":{},\"p1\":{},\"p2\":{},\"p3\":{},\"p4\":{},\"p5\":{},\"p6\":{},\"p7\":{},\"p8\":{},\"p9\":{},\"p10\":{},\"p11\":{},\"p12\":{},\"p13\":{},\"p14\":{}}}" ("\"(?<=a)b\" is not a \"regex\" @ \"\", /patternProperties/(?<=a)b" ∷ [])
