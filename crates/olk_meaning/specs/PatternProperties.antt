-- What the entries of `patternProperties` ask for, over their raw data.
use Rattle.std.specs.Prelude.{ℕ, ◌+◌, ◌*◌, Bool, false, not, cond, ◌&&◌, List, [], map, length, sum_by, Some, None}
use Rattle.std.specs.List.{list_all, flat_map}
use Rattle.serde_json.specs.Data.{Data, string}
use Rattle.olk_spec.specs.Names.{Name, Text, Path, ◌//◌, filter_once, put_if}
use Rattle.olk_spec.specs.Faults.{Fault, Regex}
use Rattle.olk_spec.specs.Costs.{Cost, no_cost}
use Rattle.olk_spec.specs.Schemas.{members, is_object}
use Rattle.olk_spec.specs.Meanings.{matches, is_open}
use Rattle.olk_meaning.specs.Steps.{Steps, accepts, asks, report, tree}
use Rattle.olk_meaning.specs.Told.{KeywordTold}
use Rattle.olk_spec.specs.{Malformed.refusal, World.World, Tree.result}

module _ (W : World) where
  -- the members of v whose names the pattern matches
  abbrev pub matched_members : Bool → Text → Data → List (Name × Data)
  matched_members u t v = filter_once (λ x. matches W u t x.0) (members v)

  -- how many matchers a pattern asks of a name
  abbrev pub pattern_asks : Text → ℕ
  pattern_asks t = cond (is_open W t) 1 0

  -- the patterns of d that the matcher is asked for
  abbrev pub open_names : Data → List Text
  open_names d = filter_once (is_open W) (map (λ e. e.0) (members d))

  -- a pattern that does not build, below the place of its keyword
  abbrev pub pattern_faults : Path → Text → List Fault
  pattern_faults L t = put_if (is_open W t && not (W.builds t)) (refusal Regex (string t) (L // t)) []

  -- what reading counts: a matcher for each pattern that has no test
  abbrev pub matcher_made : Text → Cost
  matcher_made t = cond (is_open W t) (record no_cost { pattern_places = 1 }) no_cost

  abbrev pub matchers_made : Data → Cost
  matchers_made d = record no_cost { pattern_places = length (open_names d) }

  -- and each of these matchers asked of each of the names that are declared beside them
  abbrev pub names_asked : List (Name × Data) → Data → Cost
  names_asked fs d = record no_cost { table_asks = length fs * length (open_names d) }

-- `patternProperties` of these entries, where it has a validator of its own: each matcher is asked each member's name, and where the pattern matches, its schema is asked
abbrev pub patterns_told : {W : World} → Steps W → List (Name × Data) → KeywordTold
patterns_told {W} I es = record {
  verdict = λ u v. list_all (λ e. list_all (λ x. accepts I u e.1 x.1) (matched_members W u e.0 v)) es;
  asked = λ u v. sum_by (λ e. sum_by (λ x. pattern_asks W e.0 + cond (matches W u e.0 x.0) (asks I u e.1 x.1) 0) (members v)) es;
  faults = λ u v L Q. flat_map (λ e. flat_map (λ x. report I u e.1 x.1 (L // e.0) (Q // x.0)) (matched_members W u e.0 v)) es;
  shown = λ u v L Q. result L Q (cond (is_object v) (Some (flat_map (λ e. map (λ x. x.0) (matched_members W u e.0 v)) es)) None) false []
      (flat_map (λ e. map (λ x. tree I u e.1 x.1 (L // e.0) (Q // x.0)) (matched_members W u e.0 v)) es);
}
