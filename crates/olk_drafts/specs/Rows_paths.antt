-- The files to which paths lead from a file, which is the main one where its name is empty.
use Rattle.std.specs.Prelude.{◌≡◌, Some, None, codes}
use Prim.Native.String.{String as Quoted}
use Rattle.olk_drafts.specs.Sources.{file_at}

abbrev pub Leads : Quoted → Quoted → Quoted → Type 0
Leads f p g = file_at (codes f) (codes p) ≡ Some (codes g)

abbrev pub Leads_nowhere : Quoted → Quoted → Type 0
Leads_nowhere f p = file_at (codes f) (codes p) ≡ None

pub record Rows_paths : Type 0 where
  pub beside_the_file : Leads "a/b.json" "c.json" "a/c.json"
  pub beside_a_file_at_the_top : Leads "b.json" "c.json" "c.json"
  pub beside_the_main_file : Leads "" "c.json" "c.json"
  pub below_its_folder : Leads "a/b/c.json" "d/e.json" "a/b/d/e.json"
  pub with_a_dot_before : Leads "a/b.json" "./c.json" "a/c.json"
  pub the_file_itself : Leads "a/b.json" "" "a/b.json"
  pub three_dots_are_a_name : Leads "" "..." "..."
  pub no_folder_above : Leads_nowhere "a/b.json" "../c.json"
  pub no_folder_above_behind_another : Leads_nowhere "" "a/../c.json"
  pub no_scheme : Leads_nowhere "" "http://a.example/c.json"
  pub no_other_host : Leads_nowhere "" "//a.example/c.json"
  pub no_root : Leads_nowhere "" "/c.json"
  pub no_query : Leads_nowhere "" "c.json?d"
  pub no_percent_sign : Leads_nowhere "" "c%20d.json"
  pub no_backslash : Leads_nowhere "" "a\\c.json"
  pub no_folder_for_a_file : Leads_nowhere "" "a/"
  pub no_dot_behind : Leads_nowhere "" "a/./c.json"
