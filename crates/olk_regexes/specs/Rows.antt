-- How patterns are read: each production of the syntax, and what is refused.
use Rattle.std.specs.Prelude.{◌≡◌, true, false, [], ◌∷◌, Some, None, codes}
use Rattle.olk_regexes.specs.Language.{blank, one, seq, alt, star}
use Rattle.olk_regexes.specs.Sets.{range, digits, no_digits, words, no_words, spaces, no_spaces, line_ends}
use Rattle.olk_regexes.specs.Counts.{counts}
use Rattle.ucd_category.specs.declared.GeneralCategory.TheVariants.{UppercaseLetter, DecimalNumber}
use Rattle.ucd_category.specs.declared.GeneralCategoryGroup.TheVariants.{Letter}
use Rattle.olk_regexes.specs.declared.category.Category.TheVariants.{Single, Group}
use Rattle.olk_regexes.specs.declared.class.Characters.TheVariants.{Property}
use Rattle.olk_regexes.specs.Escapes.{char}
use Rattle.olk_regexes.specs.Syntax.{start, finish, of_item, parse, rule}

pub record Rows_read : Type 0 where
  pub nothing : parse (codes "") ≡ Some blank
  pub characters : parse (codes "ab") ≡ Some (seq (of_item (char 97)) (of_item (char 98)))
  pub more_characters : parse (codes "abc") ≡ Some (seq (of_item (char 97)) (seq (of_item (char 98)) (of_item (char 99))))
  pub a_choice : parse (codes "a|b") ≡ Some (alt (of_item (char 97)) (of_item (char 98)))
  pub choices_from_the_left : parse (codes "a|b|c") ≡ Some (alt (alt (of_item (char 97)) (of_item (char 98))) (of_item (char 99)))
  pub an_empty_choice : parse (codes "a|") ≡ Some (alt (of_item (char 97)) blank)
  pub edges : parse (codes "^a$") ≡ Some (seq start (seq (of_item (char 97)) finish))
  pub any_times : parse (codes "a*") ≡ Some (star (of_item (char 97)))
  pub at_least_once : parse (codes "a+") ≡ Some (seq (of_item (char 97)) (star (of_item (char 97))))
  pub at_most_once : parse (codes "a?") ≡ Some (alt (of_item (char 97)) blank)
  pub lazily_any_times : parse (codes "a*?") ≡ Some (star (of_item (char 97)))
  pub lazily_at_least_once : parse (codes "a+?") ≡ Some (seq (of_item (char 97)) (star (of_item (char 97))))
  pub lazily_at_most_once : parse (codes "a??") ≡ Some (alt (of_item (char 97)) blank)
  pub twice : parse (codes "a{2}") ≡ Some (seq (of_item (char 97)) (of_item (char 97)))
  pub twice_or_more : parse (codes "a{2,}") ≡ Some (seq (of_item (char 97)) (seq (of_item (char 97)) (star (of_item (char 97)))))
  pub one_to_three : parse (codes "a{1,3}") ≡ Some (seq (of_item (char 97)) (alt (seq (of_item (char 97)) (alt (of_item (char 97)) blank)) blank))
  pub never : parse (codes "a{0}") ≡ Some blank
  pub lazily_twice : parse (codes "a{2}?") ≡ Some (seq (of_item (char 97)) (of_item (char 97)))
  pub once_is_itself : parse (codes "a{1,1}") ≡ Some (of_item (char 97))
  pub any_character : parse (codes ".") ≡ Some (one true line_ends)
  pub a_group : parse (codes "(ab)*") ≡ Some (star (seq (of_item (char 97)) (of_item (char 98))))
  pub a_group_that_is_not_kept : parse (codes "(?:ab)*") ≡ Some (star (seq (of_item (char 97)) (of_item (char 98))))
  pub an_empty_group : parse (codes "()") ≡ Some blank
  pub digits : parse (codes "\\d") ≡ Some (one false digits)
  pub no_digits : parse (codes "\\D") ≡ Some (one false no_digits)
  pub words : parse (codes "\\w") ≡ Some (one false words)
  pub no_words : parse (codes "\\W") ≡ Some (one false no_words)
  pub spaces : parse (codes "\\s") ≡ Some (one false spaces)
  pub no_spaces : parse (codes "\\S") ≡ Some (one false no_spaces)
  pub a_tab : parse (codes "\\t") ≡ Some (of_item (char 9))
  pub a_line_feed : parse (codes "\\n") ≡ Some (of_item (char 10))
  pub a_vertical_tab : parse (codes "\\v") ≡ Some (of_item (char 11))
  pub a_form_feed : parse (codes "\\f") ≡ Some (of_item (char 12))
  pub a_carriage_return : parse (codes "\\r") ≡ Some (of_item (char 13))
  pub a_null : parse (codes "\\0") ≡ Some (of_item (char 0))
  pub two_digits : parse (codes "\\x4a") ≡ Some (of_item (char 74))
  pub four_digits : parse (codes "\\u004A") ≡ Some (of_item (char 74))
  pub digits_in_braces : parse (codes "\\u{1F600}") ≡ Some (of_item (char 128512))
  pub leading_zeros : parse (codes "\\u{0000000041}") ≡ Some (of_item (char 65))
  pub two_surrogates : parse (codes "\\ud83d\\ude00") ≡ Some (of_item (char 128512))
  pub one_surrogate : parse (codes "\\ud83d") ≡ Some (of_item (char 55357))
  pub a_control : parse (codes "\\cA") ≡ Some (of_item (char 1))
  pub a_control_by_a_small_letter : parse (codes "\\cz") ≡ Some (of_item (char 26))
  pub a_dot : parse (codes "\\.") ≡ Some (of_item (char 46))
  pub a_slash : parse (codes "\\/") ≡ Some (of_item (char 47))
  pub a_bar : parse (codes "\\|") ≡ Some (of_item (char 124))
  pub a_bare_slash : parse (codes "/") ≡ Some (of_item (char 47))
  pub a_bare_hyphen : parse (codes "-") ≡ Some (of_item (char 45))
  pub a_class : parse (codes "[ab]") ≡ Some (one false (range 97 97 ∷ range 98 98 ∷ []))
  pub a_range : parse (codes "[a-c]") ≡ Some (one false (range 97 99 ∷ []))
  pub a_negated_class : parse (codes "[^a-c]") ≡ Some (one true (range 97 99 ∷ []))
  pub an_empty_class : parse (codes "[]") ≡ Some (one false [])
  pub a_class_of_all : parse (codes "[^]") ≡ Some (one true [])
  pub a_hyphen_first : parse (codes "[-a]") ≡ Some (one false (range 45 45 ∷ range 97 97 ∷ []))
  pub a_hyphen_last : parse (codes "[a-]") ≡ Some (one false (range 97 97 ∷ range 45 45 ∷ []))
  pub a_set_in_a_class : parse (codes "[\\d_]") ≡ Some (one false (range 48 57 ∷ range 95 95 ∷ []))
  pub a_backspace : parse (codes "[\\b]") ≡ Some (one false (range 8 8 ∷ []))
  pub a_hyphen_by_an_escape : parse (codes "[a\\-c]") ≡ Some (one false (range 97 97 ∷ range 45 45 ∷ range 99 99 ∷ []))
  pub punctuation_in_a_class : parse (codes "[.*^$(|]") ≡ Some (one false (range 46 46 ∷ range 42 42 ∷ range 94 94 ∷ range 36 36 ∷ range 40 40 ∷ range 124 124 ∷ []))
  pub a_range_of_escapes : parse (codes "[\\x61-\\u{63}]") ≡ Some (one false (range 97 99 ∷ []))
  pub a_range_of_controls : parse (codes "[\\cA-\\cZ]") ≡ Some (one false (range 1 26 ∷ []))
  pub a_category : parse (codes "\\p{Lu}") ≡ Some (one false (Property (Single UppercaseLetter) false ∷ []))
  pub a_group_of_categories : parse (codes "\\p{Letter}") ≡ Some (one false (Property (Group Letter) false ∷ []))
  pub no_category : parse (codes "\\P{L}") ≡ Some (one false (Property (Group Letter) true ∷ []))
  pub a_category_by_another_name : parse (codes "\\p{digit}") ≡ Some (one false (Property (Single DecimalNumber) false ∷ []))
  pub a_category_with_the_property : parse (codes "\\p{General_Category=Nd}") ≡ Some (one false (Property (Single DecimalNumber) false ∷ []))
  pub a_category_with_the_short_name_of_the_property : parse (codes "\\p{gc=Nd}") ≡ Some (one false (Property (Single DecimalNumber) false ∷ []))
  pub a_category_in_a_class : parse (codes "[\\p{Nd}_]") ≡ Some (one false (Property (Single DecimalNumber) false ∷ range 95 95 ∷ []))
  pub no_category_in_a_negated_class : parse (codes "[^\\P{Nd}]") ≡ Some (one true (Property (Single DecimalNumber) true ∷ []))
  pub large_counts : counts (codes "{9000000,10000000}") ≡ Some ((1000000, Some 1000000), [])
  pub no_look_ahead : rule (codes "a") ≡ Some (of_item (char 97), None)
  pub a_look_ahead_at_the_start : rule (codes "^(?!a)b") ≡ Some (seq start (of_item (char 98)), Some (seq start (of_item (char 97))))
  pub alternatives_ahead : rule (codes "^(?!a$|b)c$") ≡ Some (seq start (seq (of_item (char 99)) finish), Some (seq start (alt (seq (of_item (char 97)) finish) (of_item (char 98)))))
  pub a_group_ahead : rule (codes "^(?!(a)*)") ≡ Some (seq start blank, Some (seq start (star (of_item (char 97)))))

-- What is not of the syntax, and what of it is not read: assertions but `^` and `$`, references, names, and properties other than General_Category.
pub record Rows_refused : Type 0 where
  pub two_quantifiers : parse (codes "a**") ≡ None
  pub a_quantifier_alone : parse (codes "*") ≡ None
  pub a_quantifier_in_a_group : parse (codes "(?:+)") ≡ None
  pub a_quantifier_of_an_edge : parse (codes "^*") ≡ None
  pub a_brace_alone : parse (codes "{") ≡ None
  pub a_brace_that_closes : parse (codes "}") ≡ None
  pub a_bracket_that_closes : parse (codes "]") ≡ None
  pub an_open_brace : parse (codes "a{") ≡ None
  pub no_least : parse (codes "a{,2}") ≡ None
  pub most_below_least : parse (codes "a{2,1}") ≡ None
  pub an_open_group : parse (codes "(a") ≡ None
  pub a_closed_group : parse (codes "a)") ≡ None
  pub an_open_class : parse (codes "[a") ≡ None
  pub a_range_backwards : parse (codes "[b-a]") ≡ None
  pub a_range_from_a_set : parse (codes "[\\d-a]") ≡ None
  pub a_range_to_a_set : parse (codes "[a-\\d]") ≡ None
  pub a_backslash_alone : parse (codes "\\") ≡ None
  pub an_unknown_escape : parse (codes "\\a") ≡ None
  pub an_escaped_hyphen : parse (codes "\\-") ≡ None
  pub one_digit : parse (codes "\\x4") ≡ None
  pub three_digits : parse (codes "\\u004") ≡ None
  pub a_code_too_large : parse (codes "\\u{110000}") ≡ None
  pub no_code : parse (codes "\\u{}") ≡ None
  pub digits_behind_a_null : parse (codes "\\00") ≡ None
  pub a_reference : parse (codes "(a)\\1") ≡ None
  pub a_named_reference : parse (codes "\\k<a>") ≡ None
  pub a_boundary : parse (codes "\\b") ≡ None
  pub no_boundary : parse (codes "\\B") ≡ None
  pub an_unknown_property : parse (codes "\\p{Foo}") ≡ None
  pub a_category_in_small_letters : parse (codes "\\p{l}") ≡ None
  pub a_category_with_more_behind_it : parse (codes "\\p{Lu1}") ≡ None
  pub a_script : parse (codes "\\p{Script=Greek}") ≡ None
  pub a_binary_property : parse (codes "\\p{Alphabetic}") ≡ None
  pub no_name_of_a_property : parse (codes "\\p{}") ≡ None
  pub no_value_of_a_property : parse (codes "\\p{gc=}") ≡ None
  pub an_open_property : parse (codes "\\p{L") ≡ None
  pub a_property_without_braces : parse (codes "\\pL") ≡ None
  pub a_range_from_a_property : parse (codes "[\\p{L}-z]") ≡ None
  pub a_range_to_a_property : parse (codes "[a-\\p{L}]") ≡ None
  pub a_control_alone : parse (codes "\\c") ≡ None
  pub a_control_by_a_digit : parse (codes "\\c1") ≡ None
  pub a_control_by_a_digit_in_a_class : parse (codes "[\\c1]") ≡ None
  pub a_look_ahead : parse (codes "(?=a)") ≡ None
  pub a_negative_look_ahead : parse (codes "(?!a)") ≡ None
  pub a_look_behind : parse (codes "(?<=a)") ≡ None
  pub a_negative_look_behind : parse (codes "(?<!a)") ≡ None
  pub a_named_group : parse (codes "(?<a>b)") ≡ None
  pub flags : parse (codes "(?i:a)") ≡ None
  pub a_positive_look_ahead : rule (codes "^(?=a)b") ≡ None
  pub a_look_ahead_anywhere : rule (codes "(?!a)b") ≡ None
  pub a_look_ahead_inside : rule (codes "^a(?!b)") ≡ None
  pub a_look_ahead_in_a_group : rule (codes "(^(?!a)b)") ≡ None
  pub two_look_aheads : rule (codes "^(?!a)(?!b)c") ≡ None
  pub a_look_ahead_beside_another : rule (codes "^(?!a)b|c") ≡ None
  pub a_quantifier_of_a_look_ahead : rule (codes "^(?!a)*") ≡ None
  pub an_open_look_ahead : rule (codes "^(?!a") ≡ None
  pub a_look_behind_at_the_start : rule (codes "^(?<!a)b") ≡ None
