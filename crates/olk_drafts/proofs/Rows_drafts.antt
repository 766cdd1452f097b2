use Rattle.std.proofs.Common.{refl}
use Rattle.serde_json.proofs.OnLiterals.{serde_json_on_literals}
use Rattle.olk_drafts.specs.Translated.{translated_at}
use Rattle.olk_drafts.specs.Rows_drafts.{Rows_drafts}

pub rows_drafts : Rows_drafts
unfolding serde_json_on_literals translated_at
rows_drafts = record {
  a_list_of_items_is_prefix_items = refl;
  a_list_inside_is_one_too = refl;
  additional_items_say_nothing_beside_a_schema = refl;
  today_a_list_of_items_stays = refl;
  keywords_beside_a_reference_say_nothing = refl;
  from_2019_on_they_are_read = refl;
  a_property_of_that_name_is_no_reference = refl;
  a_minimum_may_be_excluded = refl;
  a_maximum_may_be_included = refl;
  a_truth_value_alone_says_nothing = refl;
  in_draft_6_both_are_bounds = refl;
  an_id_is_renamed = refl;
  draft_4_has_no_const = refl;
  draft_6_has_no_condition = refl;
  draft_7_has_no_dependent_schemas = refl;
  prefix_items_came_last = refl;
  what_is_no_schema_stays = refl;
  and_so_do_names_that_are_required = refl;
  a_name_of_no_keyword_may_hold_a_schema = refl;
  entries_of_entries_are_schemas = refl;
  branches_are_schemas = refl;
  draft_4_has_integers_of_its_own = refl;
  and_so_has_a_list_of_kinds = refl;
  inside_it_they_are_its_own_too = refl;
  other_kinds_stay = refl;
  a_property_of_that_name_is_no_kind = refl;
  data_is_no_kind = refl;
  in_draft_6_integers_are_those_of_today = refl;
}
