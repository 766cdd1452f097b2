-- How many items `contains` is to accept.
use Rattle.std.specs.Prelude.{◌∷◌, []}
use Prim.Native.String.{String as Quoted}
use Rattle.olk_document_spec.specs.Answers.{Fails, Holds}

abbrev pub one_or_more : Quoted
one_or_more = "{\"contains\":{\"const\":1},\"minContains\":1}"

abbrev pub two_or_more : Quoted
two_or_more = "{\"contains\":{\"const\":1},\"minContains\":2}"

abbrev pub none_or_more : Quoted
none_or_more = "{\"contains\":{\"const\":1},\"minContains\":0}"

abbrev pub one_at_most : Quoted
one_at_most = "{\"contains\":{\"const\":1},\"maxContains\":1}"

abbrev pub none_or_one : Quoted
none_or_one = "{\"contains\":{\"const\":1},\"minContains\":0,\"maxContains\":1}"

abbrev pub one_to_three : Quoted
one_to_three = "{\"contains\":{\"const\":1},\"minContains\":1,\"maxContains\":3}"

abbrev pub three_and_one_at_most : Quoted
three_and_one_at_most = "{\"contains\":{\"const\":1},\"minContains\":3,\"maxContains\":1}"

pub record Rows_bounds : Type 0 where
  pub one_or_more_holds_0 : Holds one_or_more "[1]"
  pub one_or_more_holds_1 : Holds one_or_more "[1,2]"
  pub one_or_more_holds_2 : Holds one_or_more "[1,1]"
  pub one_or_more_fails_0 : Fails one_or_more "[]" ("None of [] are valid under the given schema @ \"\", /contains" ∷ [])
  pub one_or_more_fails_1 : Fails one_or_more "[2]" ("None of [2] are valid under the given schema @ \"\", /contains" ∷ [])
  pub two_or_more_holds_0 : Holds two_or_more "[1,1]"
  pub two_or_more_holds_1 : Holds two_or_more "[1,1,1]"
  pub two_or_more_holds_2 : Holds two_or_more "[1,2,1]"
  pub two_or_more_fails_0 : Fails two_or_more "[]" ("None of [] are valid under the given schema @ \"\", /contains" ∷ [])
  pub two_or_more_fails_1 : Fails two_or_more "[1]" ("None of [1] are valid under the given schema @ \"\", /contains" ∷ [])
  pub two_or_more_fails_2 : Fails two_or_more "[1,2]" ("None of [1,2] are valid under the given schema @ \"\", /contains" ∷ [])
  pub none_or_more_holds_0 : Holds none_or_more "[]"
  pub none_or_more_holds_1 : Holds none_or_more "[2]"
  pub none_or_more_holds_2 : Holds none_or_more "[1]"
  pub one_at_most_holds_0 : Holds one_at_most "[1]"
  pub one_at_most_holds_1 : Holds one_at_most "[1,2]"
  pub one_at_most_fails_0 : Fails one_at_most "[]" ("None of [] are valid under the given schema @ \"\", /contains" ∷ [])
  pub one_at_most_fails_1 : Fails one_at_most "[1,1]" ("None of [1,1] are valid under the given schema @ \"\", /contains" ∷ [])
  pub one_at_most_fails_2 : Fails one_at_most "[1,2,1]" ("None of [1,2,1] are valid under the given schema @ \"\", /contains" ∷ [])
  pub none_or_one_holds_0 : Holds none_or_one "[]"
  pub none_or_one_holds_1 : Holds none_or_one "[1]"
  pub none_or_one_fails_0 : Fails none_or_one "[1,1]" ("None of [1,1] are valid under the given schema @ \"\", /contains" ∷ [])
  pub one_to_three_holds_0 : Holds one_to_three "[1]"
  pub one_to_three_holds_1 : Holds one_to_three "[1,1,1]"
  pub one_to_three_fails_0 : Fails one_to_three "[]" ("None of [] are valid under the given schema @ \"\", /contains" ∷ [])
  pub one_to_three_fails_1 : Fails one_to_three "[1,1,1,1]" ("None of [1,1,1,1] are valid under the given schema @ \"\", /contains" ∷ [])
  pub three_and_one_at_most_fails_0 : Fails three_and_one_at_most "[]" ("None of [] are valid under the given schema @ \"\", /contains" ∷ [])
  pub three_and_one_at_most_fails_1 : Fails three_and_one_at_most "[1]" ("None of [1] are valid under the given schema @ \"\", /contains" ∷ [])
  pub three_and_one_at_most_fails_2 : Fails three_and_one_at_most "[1,1,1]" ("None of [1,1,1] are valid under the given schema @ \"\", /contains" ∷ [])
  pub two_point_nought_is_two_holds : Holds "{\"contains\":{\"const\":1},\"minContains\":2.0}" "[1,1]"
  pub two_point_nought_is_two_fails : Fails "{\"contains\":{\"const\":1},\"minContains\":2.0}" "[1]" ("None of [1] are valid under the given schema @ \"\", /contains" ∷ [])
  pub least_alone_says_nothing : Holds "{\"minContains\":1}" "[]"
  pub most_alone_says_nothing : Holds "{\"maxContains\":1}" "[1,2]"
  pub bounds_ask_nothing_of_an_object : Holds "{\"contains\":{\"const\":1},\"minContains\":2}" "{\"a\":1}"
