-- Patterns: those with a test of their own, those that the matcher answers, and those that it leaves unfinished.
use Rattle.std.specs.Prelude.{◌∷◌, [], true, false, codes}
use Prim.Native.String.{String as Quoted}
use Rattle.olk_spec.specs.Literals.{starts_with_text, ends_with_text, equals_text, is_one_of, has_no_whitespace}
use Rattle.olk_spec.specs.Answers.{Holds, Fails, Refuses, Holds_under, Fails_under, Cuts_to, Is_pattern, Is_no_pattern}
use Rattle.olk_spec.specs.Forms.{Are_white_space, Are_no_white_space}

abbrev pub closed : Quoted
closed = "{\"additionalProperties\":false,\"properties\":{\"foo\":{\"type\":\"string\"},\"barbaz\":{\"type\":\"integer\",\"multipleOf\":3}},\"patternProperties\":{\"^bar\":{\"type\":\"integer\",\"minimum\":5},\"spam$\":{\"type\":\"integer\",\"maximum\":10}}}"

abbrev pub slow_declared : Quoted
slow_declared = "{\"properties\":{\"ax\":{}},\"patternProperties\":{\"(slow)x\":{\"type\":\"integer\"}},\"additionalProperties\":false}"

abbrev pub slow_alone : Quoted
slow_alone = "{\"patternProperties\":{\"(slow)x\":{\"type\":\"integer\"}}}"

abbrev pub no_whitespace : Quoted
no_whitespace = "{\"patternProperties\":{\"^\\\\S*$\":false}}"

abbrev pub slow_false : Quoted
slow_false = "{\"patternProperties\":{\"(slow)a\":false}}"

abbrev pub slow_closed : Quoted
slow_closed = "{\"patternProperties\":{\"(slow)x\":{}},\"additionalProperties\":false}"

abbrev pub closed_suffix : Quoted
closed_suffix = "{\"properties\":{\"a\":{},\"bspam\":{}},\"patternProperties\":{\"spam$\":{}},\"additionalProperties\":false}"

abbrev pub patterns_65 : Quoted
patterns_65 = "{\"additionalProperties\":false,\"properties\":{\"m64\":{}},\"patternProperties\":{\"m00\":{},\"m01\":{},\"m02\":{},\"m03\":{},\"m04\":{},\"m05\":{},\"m06\":{},\"m07\":{},\"m08\":{},\"m09\":{},\"m10\":{},\"m11\":{},\"m12\":{},\"m13\":{},\"m14\":{},\"m15\":{},\"m16\":{},\"m17\":{},\"m18\":{},\"m19\":{},\"m20\":{},\"m21\":{},\"m22\":{},\"m23\":{},\"m24\":{},\"m25\":{},\"m26\":{},\"m27\":{},\"m28\":{},\"m29\":{},\"m30\":{},\"m31\":{},\"m32\":{},\"m33\":{},\"m34\":{},\"m35\":{},\"m36\":{},\"m37\":{},\"m38\":{},\"m39\":{},\"m40\":{},\"m41\":{},\"m42\":{},\"m43\":{},\"m44\":{},\"m45\":{},\"m46\":{},\"m47\":{},\"m48\":{},\"m49\":{},\"m50\":{},\"m51\":{},\"m52\":{},\"m53\":{},\"m54\":{},\"m55\":{},\"m56\":{},\"m57\":{},\"m58\":{},\"m59\":{},\"m60\":{},\"m61\":{},\"m62\":{},\"m63\":{},\"m64\":{}}}"

abbrev pub patterns_66 : Quoted
patterns_66 = "{\"additionalProperties\":false,\"properties\":{\"m64\":{}},\"patternProperties\":{\"(slow)m64\":false,\"m00\":{},\"m01\":{},\"m02\":{},\"m03\":{},\"m04\":{},\"m05\":{},\"m06\":{},\"m07\":{},\"m08\":{},\"m09\":{},\"m10\":{},\"m11\":{},\"m12\":{},\"m13\":{},\"m14\":{},\"m15\":{},\"m16\":{},\"m17\":{},\"m18\":{},\"m19\":{},\"m20\":{},\"m21\":{},\"m22\":{},\"m23\":{},\"m24\":{},\"m25\":{},\"m26\":{},\"m27\":{},\"m28\":{},\"m29\":{},\"m30\":{},\"m31\":{},\"m32\":{},\"m33\":{},\"m34\":{},\"m35\":{},\"m36\":{},\"m37\":{},\"m38\":{},\"m39\":{},\"m40\":{},\"m41\":{},\"m42\":{},\"m43\":{},\"m44\":{},\"m45\":{},\"m46\":{},\"m47\":{},\"m48\":{},\"m49\":{},\"m50\":{},\"m51\":{},\"m52\":{},\"m53\":{},\"m54\":{},\"m55\":{},\"m56\":{},\"m57\":{},\"m58\":{},\"m59\":{},\"m60\":{},\"m61\":{},\"m62\":{},\"m63\":{},\"m64\":{}}}"

pub record Rows_patterns : Type 0 where
  pub all_four_faults_are_told : Fails closed "{\"bar\":4,\"spam\":11,\"foo\":3,\"faz\":1}" ("11 is greater than the maximum of 10 @ /spam, /patternProperties/spam$/maximum" ∷ "3 is not of type \"string\" @ /foo, /properties/foo/type" ∷ "4 is less than the minimum of 5 @ /bar, /patternProperties/^bar/minimum" ∷ "Additional properties are not allowed ('faz' was unexpected) @ \"\", /additionalProperties" ∷ [])
  pub a_declared_name_meets_its_patterns_too : Fails closed "{\"barbaz\":3}" ("3 is less than the minimum of 5 @ /barbaz, /patternProperties/^bar/minimum" ∷ [])
  pub all_unexpected_names_are_told : Fails closed "{\"faz\":1,\"haz\":1}" ("Additional properties are not allowed ('faz', 'haz' were unexpected) @ \"\", /additionalProperties" ∷ [])
  pub the_first_unexpected_name_is_kept : Cuts_to closed "{\"faz\":1,\"haz\":1}" ("Additional properties are not allowed ('faz' was unexpected) @ \"\", /additionalProperties" ∷ [])
  pub an_unfinished_match_that_counts : Fails_under true slow_declared "{\"ax\":\"t\"}" ("\"t\" is not of type \"integer\" @ /ax, /patternProperties/(slow)x/type" ∷ [])
  pub an_unfinished_match_that_does_not_count : Holds_under false slow_declared "{\"ax\":\"t\"}"
  pub alone_an_unfinished_match_counts : Fails_under true slow_alone "{\"ax\":\"t\",\"b\":\"t\"}" ("\"t\" is not of type \"integer\" @ /ax, /patternProperties/(slow)x/type" ∷ [])
  pub alone_an_unfinished_match_does_not_count : Holds_under false slow_alone "{\"ax\":\"t\",\"b\":\"t\"}"
  pub a_finished_match_counts_under_both : Fails "{\"patternProperties\":{\"x\":{\"type\":\"integer\"}}}" "{\"ax\":\"t\",\"b\":\"t\"}" ("\"t\" is not of type \"integer\" @ /ax, /patternProperties/x/type" ∷ [])
  pub a_space_is_white_space : Holds no_whitespace "{\"a b\":1}"
  pub a_byte_order_mark_is_white_space : Holds no_whitespace "{\"a\\ufeffb\":1}"
  pub a_name_without_white_space_matches : Fails no_whitespace "{\"ab\":1}" ("False schema does not allow 1 @ /ab, /patternProperties/^\\S*$" ∷ [])
  pub a_name_is_additional_if_nothing_holds_or_matches_it : Fails "{\"properties\":{\"foo\":{}},\"patternProperties\":{\"^bar\":{}},\"additionalProperties\":false}" "{\"foo\":1,\"barn\":2,\"faz\":3}" ("Additional properties are not allowed ('faz' was unexpected) @ \"\", /additionalProperties" ∷ [])
  pub a_suffix_stands_at_the_end : Fails "{\"patternProperties\":{\"spam$\":false}}" "{\"xspam\":1,\"spamx\":2}" ("False schema does not allow 1 @ /xspam, /patternProperties/spam$" ∷ [])
  pub next_line_is_no_white_space : Refuses no_whitespace "{\"\\u0085\":1}"
  pub a_line_separator_is_white_space : Holds no_whitespace "{\"\\u2028\":1}"
  pub the_first_and_last_of_each_run_are_white_space : Are_white_space (0x9 ∷ 0xd ∷ 0x20 ∷ 0xa0 ∷ 0x1680 ∷ 0x2000 ∷ 0x200a ∷ 0x2028 ∷ 0x2029 ∷ 0x202f ∷ 0x205f ∷ 0x3000 ∷ 0xfeff ∷ [])
  pub all_25_characters_are_white_space : Are_white_space (0x9 ∷ 0xa ∷ 0xb ∷ 0xc ∷ 0xd ∷ 0x20 ∷ 0xa0 ∷ 0x1680 ∷ 0x2000 ∷ 0x2001 ∷ 0x2002 ∷ 0x2003 ∷ 0x2004 ∷ 0x2005 ∷ 0x2006 ∷ 0x2007 ∷ 0x2008 ∷ 0x2009 ∷ 0x200a ∷ 0x2028 ∷ 0x2029 ∷ 0x202f ∷ 0x205f ∷ 0x3000 ∷ 0xfeff ∷ [])
  pub their_neighbours_are_no_white_space : Are_no_white_space (0x8 ∷ 0xe ∷ 0x1f ∷ 0x21 ∷ 0x85 ∷ 0x9f ∷ 0xa1 ∷ 0x167f ∷ 0x1681 ∷ 0x180e ∷ 0x1fff ∷ 0x200b ∷ 0x2027 ∷ 0x202a ∷ 0x202e ∷ 0x2030 ∷ 0x205e ∷ 0x2060 ∷ 0x2fff ∷ 0x3001 ∷ 0xfefe ∷ 0xff00 ∷ [])
  pub an_exact_name_is_no_prefix : Holds "{\"patternProperties\":{\"^a$\":false}}" "{\"ab\":1}"
  pub alternatives_are_no_prefixes : Holds "{\"patternProperties\":{\"^(a|b)$\":false}}" "{\"ab\":1}"
  pub the_third_alternative_matches : Fails "{\"patternProperties\":{\"^(a|b|c)$\":false}}" "{\"c\":1}" ("False schema does not allow 1 @ /c, /patternProperties/^(a|b|c)$" ∷ [])
  pub an_unfinished_match_of_the_text_itself_counts : Fails_under true slow_false "{\"a\":1}" ("False schema does not allow 1 @ /a, /patternProperties/(slow)a" ∷ [])
  pub an_unfinished_match_inside_a_name_counts : Fails_under true slow_false "{\"ba\":1}" ("False schema does not allow 1 @ /ba, /patternProperties/(slow)a" ∷ [])
  pub a_name_is_not_additional_if_an_unfinished_match_counts : Holds_under true slow_closed "{\"x\":1}"
  pub a_name_is_additional_if_an_unfinished_match_does_not_count : Fails_under false slow_closed "{\"x\":1}" ("Additional properties are not allowed ('x' was unexpected) @ \"\", /additionalProperties" ∷ [])
  pub two_patterns_are_both_asked : Holds "{\"patternProperties\":{\"^x\":{},\"spam$\":{\"type\":\"integer\"}}}" "{\"x1\":\"t\"}"
  pub declared_and_matching_names_are_expected : Holds closed_suffix "{\"a\":1,\"bspam\":2}"
  pub a_matching_name_is_expected : Holds closed_suffix "{\"a\":1,\"xspam\":1}"
  pub the_last_of_65_patterns_matches : Holds patterns_65 "{\"m64\":1}"
  pub the_first_of_66_patterns_does_not_count : Holds_under false patterns_66 "{\"m64\":1}"
  pub the_first_of_66_patterns_counts : Fails_under true patterns_66 "{\"m64\":1}" ("False schema does not allow 1 @ /m64, /patternProperties/(slow)m64" ∷ [])
  pub a_name_that_a_false_schema_refuses_is_not_additional : Fails "{\"patternProperties\":{\"^a\":false},\"additionalProperties\":false}" "{\"a\":1}" ("False schema does not allow 1 @ /a, /patternProperties/^a" ∷ [])
  pub the_case_of_letters_counts : Holds "{\"patternProperties\":{\"^foo\":false,\"foo$\":false,\"^foo$\":false,\"^(foo|bar)$\":false}}" "{\"Foo\":1}"
  pub the_end_is_behind_a_line_feed : Holds "{\"patternProperties\":{\"spam$\":false,\"^spam$\":false,\"^(spam|a)$\":false}}" "{\"spam\\n\":1}"
  pub prefix_of_letters : Is_pattern "^foo" (starts_with_text (codes "foo"))
  pub prefix_with_a_hyphen : Is_pattern "^x-" (starts_with_text (codes "x-"))
  pub prefix_with_a_slash : Is_pattern "^path/to" (starts_with_text (codes "path/to"))
  pub prefix_with_an_escaped_slash : Is_pattern "^\\/" (starts_with_text (codes "/"))
  pub exact_letters : Is_pattern "^foo$" (equals_text (codes "foo"))
  pub exact_with_an_escaped_dollar : Is_pattern "^\\$ref$" (equals_text (codes "$ref"))
  pub prefix_that_ends_in_a_dollar : Is_pattern "^foo\\$" (starts_with_text (codes "foo$"))
  pub alternatives : Is_pattern "^(a|b)$" (is_one_of (codes "a" ∷ codes "b" ∷ []))
  pub no_white_space : Is_pattern "^\\S*$" (has_no_whitespace)
  pub suffix_of_letters : Is_pattern "spam$" (ends_with_text (codes "spam"))
  pub prefix_of_all_special_characters : Is_pattern "^\\\\\\^\\$\\.\\*\\+\\?\\(\\)\\[\\]\\{\\}\\|" (starts_with_text (codes "\\^$.*+?()[]{}|"))
  pub prefix_of_other_characters : Is_pattern "^a b\"#,:;<=>@_!&'~`%/-Ã©" (starts_with_text (codes "a b\"#,:;<=>@_!&'~`%/-Ã©"))
  pub suffix_that_is_a_dollar : Is_pattern "\\$$" (ends_with_text (codes "$"))
  pub letters_alone_are_no_test : Is_no_pattern "foo"
  pub an_anchor_alone_is_no_test : Is_no_pattern "^"
  pub two_anchors_are_no_test : Is_no_pattern "^$"
  pub one_alternative_is_no_test : Is_no_pattern "^(a)$"
  pub a_star_is_no_test : Is_no_pattern "^foo.*"
  pub a_plus_is_no_test : Is_no_pattern "^foo+"
  pub a_question_mark_is_no_test : Is_no_pattern "^foo?"
  pub a_class_is_no_test : Is_no_pattern "^[a-z]"
  pub open_alternatives_are_no_test : Is_no_pattern "^foo|bar"
  pub a_closing_brace_is_no_test : Is_no_pattern "^a}"
  pub a_closing_bracket_is_no_test : Is_no_pattern "^a]"
  pub a_group_is_no_test : Is_no_pattern "^foo(bar)"
  pub a_number_in_braces_is_no_test : Is_no_pattern "^a{2}"
  pub a_digit_is_no_test : Is_no_pattern "^foo\\d"
  pub a_word_character_is_no_test : Is_no_pattern "^a\\w"
  pub an_escaped_hyphen_is_no_test : Is_no_pattern "^a\\-"
  pub an_escaped_dollar_is_no_suffix : Is_no_pattern "foo\\$"
  pub a_dollar_alone_is_no_suffix : Is_no_pattern "$"
  pub a_group_is_no_suffix : Is_no_pattern "(a)$"
  pub a_dot_is_no_suffix : Is_no_pattern "fo.o$"
