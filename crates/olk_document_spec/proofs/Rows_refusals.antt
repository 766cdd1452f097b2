use Rattle.std.proofs.Common.{refl}
use Rattle.olk_document_spec.proofs.Computed.{computed}
use Rattle.olk_document_spec.specs.Rows_refusals.{Rows_refusals}

pub rows_refusals : Rows_refusals
unfolding computed
rows_refusals = record {
  each_keyword_builds = refl;
  bounds_alone_build = refl;
  what_is_not_read_builds = refl;
  a_member_of_that_name_builds = refl;
  as_many_as_may_be_build = refl;
  one_place_twice_builds = refl;
  prefix_items_are_a_list = refl;
  prefix_items_are_schemas = refl;
  items_is_a_schema = refl;
  contains_is_a_schema = refl;
  what_stands_inside_is_read = refl;
  a_least_bound_is_whole = refl;
  a_most_bound_is_whole = refl;
  a_reference_is_a_text = refl;
  a_reference_names_a_place = refl;
  an_anchor_names_no_place = refl;
  another_document_is_not_read = refl;
  a_percent_sign_is_not_read = refl;
  a_tilde_is_followed_by_a_digit = refl;
  a_pointer_begins_with_a_slash = refl;
  a_reference_leads_to_itself = refl;
  one_more_than_may_be = refl;
  the_root_leads_back_to_itself = refl;
  two_lead_to_each_other = refl;
  what_is_named_is_read = refl;
  what_is_named_is_a_schema = refl;
}
