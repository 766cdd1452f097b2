use Rattle.std.proofs.Common.{refl}
use Rattle.olk_drafts.specs.Rows_paths.{Rows_paths}

pub rows_paths : Rows_paths
rows_paths = record {
  beside_the_file = refl;
  beside_a_file_at_the_top = refl;
  beside_the_main_file = refl;
  below_its_folder = refl;
  with_a_dot_before = refl;
  the_file_itself = refl;
  three_dots_are_a_name = refl;
  no_folder_above = refl;
  no_folder_above_behind_another = refl;
  no_scheme = refl;
  no_other_host = refl;
  no_root = refl;
  no_query = refl;
  no_percent_sign = refl;
  no_backslash = refl;
  no_folder_for_a_file = refl;
  no_dot_behind = refl;
}
