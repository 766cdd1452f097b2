-- What keywords find and show where their schema is a branch of a member's.
use Rattle.std.specs.Prelude.{◌∷◌, []}
use Rattle.olk_spec.specs.Answers.{Holds, Fails}
use Rattle.olk_spec.specs.Forms.{Has_tree}

pub record Rows_inside : Type 0 where
  pub each_keyword_that_accepts : Holds "{\"properties\":{\"a\":{\"allOf\":[{\"additionalProperties\":true,\"allOf\":[true],\"anyOf\":[true,false],\"dependencies\":{\"b\":{\"type\":\"object\"},\"c\":[\"b\"]},\"dependentRequired\":{\"b\":[\"c\"]},\"dependentSchemas\":{\"b\":true},\"else\":false,\"if\":true,\"not\":false,\"oneOf\":[false,true],\"patternProperties\":{\"^b\":true},\"properties\":{\"c\":true},\"propertyDependencies\":{\"c\":{\"t\":true}},\"propertyNames\":{\"maxLength\":1},\"required\":[\"b\"],\"then\":true,\"type\":\"object\"}]}}}" "{\"a\":{\"b\":1,\"c\":\"t\"}}"
  pub each_keyword_that_accepts_shown : Has_tree "{\"properties\":{\"a\":{\"allOf\":[{\"additionalProperties\":true,\"allOf\":[true],\"anyOf\":[true,false],\"dependencies\":{\"b\":{\"type\":\"object\"},\"c\":[\"b\"]},\"dependentRequired\":{\"b\":[\"c\"]},\"dependentSchemas\":{\"b\":true},\"else\":false,\"if\":true,\"not\":false,\"oneOf\":[false,true],\"patternProperties\":{\"^b\":true},\"properties\":{\"c\":true},\"propertyDependencies\":{\"c\":{\"t\":true}},\"propertyNames\":{\"maxLength\":1},\"required\":[\"b\"],\"then\":true,\"type\":\"object\"}]}}}" "{\"a\":{\"b\":1,\"c\":\"t\"}}" "\"\" @ \"\"(/properties @ \"\" names [\"a\"](/properties/a @ /a(/properties/a/allOf @ /a(/properties/a/allOf/0 @ /a(/properties/a/allOf/0/allOf @ /a(/properties/a/allOf/0/allOf/0 @ /a))(/properties/a/allOf/0/anyOf @ /a(/properties/a/allOf/0/anyOf/0 @ /a))(/properties/a/allOf/0/dependencies @ /a(/properties/a/allOf/0/dependencies/b @ /a(/properties/a/allOf/0/dependencies/b/type @ /a))(/properties/a/allOf/0/dependencies @ /a))(/properties/a/allOf/0/dependentRequired @ /a(/properties/a/allOf/0/dependentRequired @ /a))(/properties/a/allOf/0/dependentSchemas @ /a(/properties/a/allOf/0/dependentSchemas/b @ /a))(/properties/a/allOf/0/if @ /a(/properties/a/allOf/0/if @ /a)(/properties/a/allOf/0/then @ /a))(/properties/a/allOf/0/not @ /a)(/properties/a/allOf/0/oneOf @ /a(/properties/a/allOf/0/oneOf/1 @ /a))(/properties/a/allOf/0/patternProperties @ /a names [\"b\"](/properties/a/allOf/0/patternProperties/^b @ /a/b))(/properties/a/allOf/0/properties @ /a names [\"c\"](/properties/a/allOf/0/properties/c @ /a/c))(/properties/a/allOf/0/propertyDependencies @ /a(/properties/a/allOf/0/propertyDependencies/c/t @ /a))(/properties/a/allOf/0/propertyNames @ /a(/properties/a/allOf/0/propertyNames @ /a(/properties/a/allOf/0/propertyNames/maxLength @ /a))(/properties/a/allOf/0/propertyNames @ /a(/properties/a/allOf/0/propertyNames/maxLength @ /a)))(/properties/a/allOf/0/required @ /a)(/properties/a/allOf/0/type @ /a)))))"
  pub each_keyword_that_refuses : Fails "{\"properties\":{\"a\":{\"allOf\":[{\"additionalProperties\":true,\"allOf\":[false],\"anyOf\":[false],\"dependencies\":{\"b\":false,\"c\":[\"x\"]},\"dependentRequired\":{\"b\":[\"y\"]},\"dependentSchemas\":{\"b\":false},\"else\":false,\"if\":false,\"not\":true,\"oneOf\":[false,false],\"patternProperties\":{\"^b\":false},\"properties\":{\"c\":false},\"propertyDependencies\":{\"c\":{\"t\":false}},\"propertyNames\":{\"const\":\"b\"},\"required\":[\"z\"],\"then\":true,\"type\":\"null\"}]}}}" "{\"a\":{\"b\":1,\"c\":\"t\"}}" ("\"b\" was expected @ /a, /properties/a/allOf/0/propertyNames/const" ∷ "\"x\" is a required property @ /a, /properties/a/allOf/0/dependencies" ∷ "\"y\" is a required property @ /a, /properties/a/allOf/0/dependentRequired" ∷ "\"z\" is a required property @ /a, /properties/a/allOf/0/required" ∷ "False schema does not allow \"t\" @ /a/c, /properties/a/allOf/0/properties/c" ∷ "False schema does not allow 1 @ /a/b, /properties/a/allOf/0/patternProperties/^b" ∷ "False schema does not allow {\"b\":1,\"c\":\"t\"} @ /a, /properties/a/allOf/0/allOf/0" ∷ "False schema does not allow {\"b\":1,\"c\":\"t\"} @ /a, /properties/a/allOf/0/dependencies/b" ∷ "False schema does not allow {\"b\":1,\"c\":\"t\"} @ /a, /properties/a/allOf/0/dependentSchemas/b" ∷ "False schema does not allow {\"b\":1,\"c\":\"t\"} @ /a, /properties/a/allOf/0/else" ∷ "False schema does not allow {\"b\":1,\"c\":\"t\"} @ /a, /properties/a/allOf/0/propertyDependencies/c/t" ∷ "true is not allowed for {\"b\":1,\"c\":\"t\"} @ /a, /properties/a/allOf/0/not" ∷ "{\"b\":1,\"c\":\"t\"} is not of type \"null\" @ /a, /properties/a/allOf/0/type" ∷ "{\"b\":1,\"c\":\"t\"} is not valid under any of the schemas listed in the 'anyOf' keyword @ /a, /properties/a/allOf/0/anyOf [{False schema does not allow {\"b\":1,\"c\":\"t\"} @ /a, /properties/a/allOf/0/anyOf/0;}]" ∷ "{\"b\":1,\"c\":\"t\"} is not valid under any of the schemas listed in the 'oneOf' keyword @ /a, /properties/a/allOf/0/oneOf [{False schema does not allow {\"b\":1,\"c\":\"t\"} @ /a, /properties/a/allOf/0/oneOf/0;}{False schema does not allow {\"b\":1,\"c\":\"t\"} @ /a, /properties/a/allOf/0/oneOf/1;}]" ∷ [])
  pub each_keyword_that_refuses_shown : Has_tree "{\"properties\":{\"a\":{\"allOf\":[{\"additionalProperties\":true,\"allOf\":[false],\"anyOf\":[false],\"dependencies\":{\"b\":false,\"c\":[\"x\"]},\"dependentRequired\":{\"b\":[\"y\"]},\"dependentSchemas\":{\"b\":false},\"else\":false,\"if\":false,\"not\":true,\"oneOf\":[false,false],\"patternProperties\":{\"^b\":false},\"properties\":{\"c\":false},\"propertyDependencies\":{\"c\":{\"t\":false}},\"propertyNames\":{\"const\":\"b\"},\"required\":[\"z\"],\"then\":true,\"type\":\"null\"}]}}}" "{\"a\":{\"b\":1,\"c\":\"t\"}}" "\"\" @ \"\" invalid(/properties @ \"\" invalid(/properties/a @ /a invalid(/properties/a/allOf @ /a invalid(/properties/a/allOf/0 @ /a invalid(/properties/a/allOf/0/allOf @ /a invalid(/properties/a/allOf/0/allOf/0 @ /a invalid error falseSchema: False schema does not allow {\"b\":1,\"c\":\"t\"}))(/properties/a/allOf/0/anyOf @ /a invalid(/properties/a/allOf/0/anyOf/0 @ /a invalid error falseSchema: False schema does not allow {\"b\":1,\"c\":\"t\"}))(/properties/a/allOf/0/dependencies @ /a invalid(/properties/a/allOf/0/dependencies/b @ /a invalid error falseSchema: False schema does not allow {\"b\":1,\"c\":\"t\"})(/properties/a/allOf/0/dependencies @ /a invalid error required: \"x\" is a required property))(/properties/a/allOf/0/dependentRequired @ /a invalid(/properties/a/allOf/0/dependentRequired @ /a invalid error required: \"y\" is a required property))(/properties/a/allOf/0/dependentSchemas @ /a invalid(/properties/a/allOf/0/dependentSchemas/b @ /a invalid error falseSchema: False schema does not allow {\"b\":1,\"c\":\"t\"}))(/properties/a/allOf/0/if @ /a invalid(/properties/a/allOf/0/else @ /a invalid error falseSchema: False schema does not allow {\"b\":1,\"c\":\"t\"}))(/properties/a/allOf/0/not @ /a invalid error not: true is not allowed for {\"b\":1,\"c\":\"t\"})(/properties/a/allOf/0/oneOf @ /a invalid(/properties/a/allOf/0/oneOf/0 @ /a invalid error falseSchema: False schema does not allow {\"b\":1,\"c\":\"t\"})(/properties/a/allOf/0/oneOf/1 @ /a invalid error falseSchema: False schema does not allow {\"b\":1,\"c\":\"t\"}))(/properties/a/allOf/0/patternProperties @ /a invalid(/properties/a/allOf/0/patternProperties/^b @ /a/b invalid error falseSchema: False schema does not allow 1))(/properties/a/allOf/0/properties @ /a invalid(/properties/a/allOf/0/properties/c @ /a/c invalid error falseSchema: False schema does not allow \"t\"))(/properties/a/allOf/0/propertyDependencies @ /a invalid(/properties/a/allOf/0/propertyDependencies/c/t @ /a invalid error falseSchema: False schema does not allow {\"b\":1,\"c\":\"t\"}))(/properties/a/allOf/0/propertyNames @ /a invalid(/properties/a/allOf/0/propertyNames @ /a(/properties/a/allOf/0/propertyNames/const @ /a))(/properties/a/allOf/0/propertyNames @ /a invalid(/properties/a/allOf/0/propertyNames/const @ /a invalid error const: \"b\" was expected)))(/properties/a/allOf/0/required @ /a invalid error required: \"z\" is a required property)(/properties/a/allOf/0/type @ /a invalid error type: {\"b\":1,\"c\":\"t\"} is not of type \"null\")))))"
  pub too_many_branches_and_any_member_or_name : Fails "{\"properties\":{\"a\":{\"allOf\":[{\"additionalProperties\":false,\"oneOf\":[true,true,false],\"propertyNames\":false}]}}}" "{\"a\":{\"b\":1}}" ("False schema does not allow 1 @ /a, /properties/a/allOf/0/additionalProperties" ∷ "False schema does not allow {\"b\":1} @ /a, /properties/a/allOf/0/propertyNames" ∷ "{\"b\":1} is valid under more than one of the schemas listed in the 'oneOf' keyword @ /a, /properties/a/allOf/0/oneOf [{}{}{False schema does not allow {\"b\":1} @ /a, /properties/a/allOf/0/oneOf/2;}]" ∷ [])
  pub too_many_branches_and_any_member_or_name_shown : Has_tree "{\"properties\":{\"a\":{\"allOf\":[{\"additionalProperties\":false,\"oneOf\":[true,true,false],\"propertyNames\":false}]}}}" "{\"a\":{\"b\":1}}" "\"\" @ \"\" invalid(/properties @ \"\" invalid(/properties/a @ /a invalid(/properties/a/allOf @ /a invalid(/properties/a/allOf/0 @ /a invalid(/properties/a/allOf/0/additionalProperties @ /a invalid error falseSchema: False schema does not allow 1)(/properties/a/allOf/0/oneOf @ /a invalid error oneOf: more than one subschema succeeded(/properties/a/allOf/0/oneOf/0 @ /a)(/properties/a/allOf/0/oneOf/1 @ /a))(/properties/a/allOf/0/propertyNames @ /a invalid error falseSchema: False schema does not allow {\"b\":1})))))"
  pub a_choice_of_none_and_two_missing_names : Fails "{\"properties\":{\"a\":{\"allOf\":[{\"anyOf\":[],\"oneOf\":[],\"properties\":{\"b\":{}},\"required\":[\"x\",\"y\"]}]}}}" "{\"a\":{\"b\":1}}" ("\"x\" is a required property @ /a, /properties/a/allOf/0/required" ∷ "\"y\" is a required property @ /a, /properties/a/allOf/0/required" ∷ "{\"b\":1} is not valid under any of the schemas listed in the 'anyOf' keyword @ /a, /properties/a/allOf/0/anyOf []" ∷ "{\"b\":1} is not valid under any of the schemas listed in the 'oneOf' keyword @ /a, /properties/a/allOf/0/oneOf []" ∷ [])
  pub a_choice_of_none_and_two_missing_names_shown : Has_tree "{\"properties\":{\"a\":{\"allOf\":[{\"anyOf\":[],\"oneOf\":[],\"properties\":{\"b\":{}},\"required\":[\"x\",\"y\"]}]}}}" "{\"a\":{\"b\":1}}" "\"\" @ \"\" invalid(/properties @ \"\" invalid(/properties/a @ /a invalid(/properties/a/allOf @ /a invalid(/properties/a/allOf/0 @ /a invalid(/properties/a/allOf/0/anyOf @ /a invalid)(/properties/a/allOf/0/oneOf @ /a invalid)(/properties/a/allOf/0/properties @ /a invalid(/properties/a/allOf/0/properties/b @ /a/b)(/properties/a/allOf/0/required @ /a invalid error required: \"x\" is a required property error required: \"y\" is a required property))))))"
  pub unexpected_members_and_a_missing_name : Fails "{\"properties\":{\"a\":{\"allOf\":[{\"additionalProperties\":false,\"properties\":{\"b\":{}},\"required\":[\"x\"]}]}}}" "{\"a\":{\"b\":1,\"u\":2}}" ("\"x\" is a required property @ /a, /properties/a/allOf/0/required" ∷ "Additional properties are not allowed ('u' was unexpected) @ /a, /properties/a/allOf/0/additionalProperties" ∷ [])
  pub unexpected_members_and_a_missing_name_shown : Has_tree "{\"properties\":{\"a\":{\"allOf\":[{\"additionalProperties\":false,\"properties\":{\"b\":{}},\"required\":[\"x\"]}]}}}" "{\"a\":{\"b\":1,\"u\":2}}" "\"\" @ \"\" invalid(/properties @ \"\" invalid(/properties/a @ /a invalid(/properties/a/allOf @ /a invalid(/properties/a/allOf/0 @ /a invalid(/properties/a/allOf/0/additionalProperties @ /a invalid error additionalProperties: Additional properties are not allowed ('u' was unexpected)(/properties/a/allOf/0/properties/b @ /a/b)(/properties/a/allOf/0/required @ /a invalid error required: \"x\" is a required property))))))"
  pub matches_and_additional_members : Holds "{\"properties\":{\"a\":{\"allOf\":[{\"additionalProperties\":{},\"patternProperties\":{\"^m\":{}}}]}}}" "{\"a\":{\"m\":1,\"x\":2,\"y\":3}}"
  pub matches_and_additional_members_shown : Has_tree "{\"properties\":{\"a\":{\"allOf\":[{\"additionalProperties\":{},\"patternProperties\":{\"^m\":{}}}]}}}" "{\"a\":{\"m\":1,\"x\":2,\"y\":3}}" "\"\" @ \"\"(/properties @ \"\" names [\"a\"](/properties/a @ /a(/properties/a/allOf @ /a(/properties/a/allOf/0 @ /a(/properties/a/allOf/0/additionalProperties @ /a names [\"x\",\"y\"](/properties/a/allOf/0/patternProperties/^m @ /a/m)(/properties/a/allOf/0/additionalProperties @ /a/x)(/properties/a/allOf/0/additionalProperties @ /a/y)(/properties/a/allOf/0/patternProperties @ /a names [\"m\"]))))))"
  pub declared_matching_and_additional_members : Fails "{\"properties\":{\"a\":{\"allOf\":[{\"additionalProperties\":{\"type\":\"null\"},\"patternProperties\":{\"^m\":{}},\"properties\":{\"b\":{}}}]}}}" "{\"a\":{\"b\":1,\"m\":2,\"x\":3}}" ("3 is not of type \"null\" @ /a/x, /properties/a/allOf/0/additionalProperties/type" ∷ [])
  pub declared_matching_and_additional_members_shown : Has_tree "{\"properties\":{\"a\":{\"allOf\":[{\"additionalProperties\":{\"type\":\"null\"},\"patternProperties\":{\"^m\":{}},\"properties\":{\"b\":{}}}]}}}" "{\"a\":{\"b\":1,\"m\":2,\"x\":3}}" "\"\" @ \"\" invalid(/properties @ \"\" invalid(/properties/a @ /a invalid(/properties/a/allOf @ /a invalid(/properties/a/allOf/0 @ /a invalid(/properties/a/allOf/0/additionalProperties @ /a invalid(/properties/a/allOf/0/properties/b @ /a/b)(/properties/a/allOf/0/patternProperties/^m @ /a/m)(/properties/a/allOf/0/additionalProperties @ /a/x invalid(/properties/a/allOf/0/additionalProperties/type @ /a/x invalid error type: 3 is not of type \"null\")))))))"
