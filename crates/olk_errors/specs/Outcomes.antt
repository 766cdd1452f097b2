-- What asking comes to: of a node, of branches, of branches of which one is to accept, of declared members, of members' names, of members whose names patterns match, of members that `additionalProperties` asks, of names that are wanted, of a leaf, of a body.
use Rattle.std.specs.Prelude.{◌≡◌, ◌⊎◌, ◌<◌, ℕ, ◌==◌, Bool, true, false, not, ◌&&◌, cond, List, [], ◌++◌, map, Option, Some, None, is_none, is_some, option_map, option_to_list}
use Rattle.std.specs.List.{flat_map}
use Rattle.serde_json.specs.Data.{Data, string}
use Rattle.olk_spec.specs.Names.{Name, Path, ◌//◌, put_if, is_empty}
use Rattle.olk_spec.specs.World.{Says, reads_as}
use Rattle.olk_spec.specs.Faults.{Fault, Kind, fault, AdditionalProperties, Leaf, OneOfNotValid, OneOfMultipleValid, IsLikeKind, Context, context}
use Rattle.olk_spec.specs.Accepts.{missing}
use Rattle.olk_spec.specs.Schemas.{members}
use Rattle.olk_spec.specs.Reports.{required_faults, unexpected_faults, fault_if, wrapped}
use Rattle.olk_reports.specs.Errors.{kind_of}
use Rattle.olk_reports.specs.declared.error.ValidationErrorKind.{ValidationErrorKind}
use Rattle.olk_base.specs.declared.traits.Leaf as leaf
use Rattle.olk_base.specs.Compiled.{pattern_answers}
use Rattle.olk_base.specs.declared.pattern.CompiledPattern.{CompiledPattern}
use Rattle.olk_tree.specs.Questions.{Question, always, conditional, every}
use Rattle.olk_tree.specs.Matched.{is_match, matching, match_question}
use Rattle.olk_tree.specs.Additional.{Sides, known_or, matching_from, additional_means, additional_report, additional_first}
use Rattle.olk_tree.specs.Firsts.{first_of, head_of}
use Rattle.olk_tree.specs.OneOf.{one_of_report}
use Rattle.olk_tree.specs.Visited.{Declared}
use Rattle.olk_tree.specs.Properties.{properties_mean, properties_report, properties_first}
use Rattle.olk_tree.specs.PropertyNames.{names_mean, names_report, names_first}
use Rattle.olk_tree.specs.PatternProperties.{matched_mean, matched_report, matched_first, patterns_mean, patterns_report, patterns_first}
use Rattle.olk_tree.specs.Bodies.{body_means, body_report, body_first}
use Rattle.olk_tree.specs.declared.node.Body.{Body}
use Rattle.olk_errors.specs.Found.{Outcome}

-- each of a list, one after the other
abbrev pub of_each : {X : Type 0} → Bool → (X → Question) → (X → List Fault) → (X → List Fault) → List X → Outcome
of_each u q s f xs = record { accepts = (every q xs).accepts u; first = first_of s xs; all = flat_map f xs }

-- one fault of its own, in that case
abbrev pub own : Bool → Bool → Kind → Data → Path → Path → Outcome
own accepts case k v P Q = record { accepts = accepts; first = fault_if case k v P Q; all = fault_if case k v P Q }

-- branches of which n accept, and just one is to
abbrev pub of_one_of : ℕ → Context → Data → Path → Path → Outcome
of_one_of n c v P Q = record { accepts = n == 1; first = one_of_report n c v P Q; all = one_of_report n c v P Q }

-- the kind of error that these are told by, if by any; the branches find the faults in the lists
abbrev pub IsKindOfOneOf : ℕ → List (List Fault) → Option ValidationErrorKind → Type 0
IsKindOfOneOf n fss None = n ≡ 1
IsKindOfOneOf n fss (Some k) = ((n ≡ 0) × IsLikeKind (kind_of k) (OneOfNotValid (context fss))) ⊎ ((1 < n) × IsLikeKind (kind_of k) (OneOfMultipleValid (context fss)))

-- names that are wanted
abbrev pub of_names : List Name → Data → Path → Path → Outcome
of_names ns v P Q = record { accepts = is_empty (missing ns v); first = head_of (required_faults ns v P Q); all = required_faults ns v P Q }

module _ {N : Type 0} (m : N → Data → Question) (s r : N → Bool → Data → Path → List Fault) (u : Bool) where
  abbrev pub of_node : N → Data → Path → Outcome
  of_node n v Q = record { accepts = (m n v).accepts u; first = s n u v Q; all = r n u v Q }

  abbrev pub of_branches : List N → Data → Path → Outcome
  of_branches ns v Q = of_each u (λ n. m n v) (λ n. s n u v Q) (λ n. r n u v Q) ns

  -- members, each with what is declared at its name
  abbrev pub of_declared : List (Declared N) → Path → Outcome
  of_declared ds Q = of_each u (λ d. m d.node d.value) (λ d. s d.node u d.value (Q // d.name)) (λ d. r d.node u d.value (Q // d.name)) ds

  abbrev pub of_properties : List (Name × N) → Data → Path → Outcome
  of_properties es v Q = record { accepts = (properties_mean m es v).accepts u; first = properties_first s u es v Q; all = properties_report r u es v Q }

  -- a member's name, and the names of all members, told of the object
  abbrev pub of_asked_name : N → Data → Name → Path → Outcome
  of_asked_name n v x Q = record { accepts = (m n (string x)).accepts u; first = map (wrapped v Q) (s n u (string x) Q); all = map (wrapped v Q) (r n u (string x) Q) }

  abbrev pub of_asked_names : N → Data → Path → Outcome
  of_asked_names n v Q = record { accepts = (names_mean m n v).accepts u; first = names_first s u n v Q; all = names_report r u n v Q }

  -- each member, with the same
  abbrev pub of_values : N → Data → Path → Outcome
  of_values n v Q = of_each u (λ x. m n x.1) (λ x. s n u x.1 (Q // x.0)) (λ x. r n u x.1 (Q // x.0)) (members v)

  abbrev pub of_body : Path → Body N → Data → Path → Outcome
  of_body P b v Q = record { accepts = (body_means m b v).accepts u; first = body_first (λ k. s k u) P b v Q; all = body_report (λ k. r k u) P b v Q }

-- members whose names patterns match, each asked of the pattern's node
module _ {R N : Type 0} (answers : R → Name → Says) (costs : R → Bool) (m : N → Data → Question) (s r : N → Bool → Data → Path → List Fault) (u : Bool) where
  -- a pattern and a member
  abbrev pub of_match : CompiledPattern R → N → Name → Data → Path → Outcome
  of_match p n x w Q = record {
    accepts = (conditional (match_question answers costs p x) (m n w) (always true)).accepts u;
    first = cond (is_match answers u p x) (s n u w (Q // x)) [];
    all = cond (is_match answers u p x) (r n u w (Q // x)) [];
  }

  -- a pattern and all members
  abbrev pub of_matched : CompiledPattern R → N → Data → Path → Outcome
  of_matched p n v Q = record { accepts = (matched_mean answers costs m p n v).accepts u; first = matched_first answers s u p n v Q; all = matched_report answers r u p n v Q }

  -- all patterns and a member
  abbrev pub of_matching : List (CompiledPattern R × N) → Name → Data → Path → Outcome
  of_matching es x w Q = record {
    accepts = (every (λ e. conditional (match_question answers costs e.0 x) (m e.1 w) (always true)) es).accepts u;
    first = first_of (λ e. s e.1 u w (Q // x)) (matching answers u es x);
    all = flat_map (λ e. r e.1 u w (Q // x)) (matching answers u es x);
  }

  -- all patterns and all members
  abbrev pub of_patterns : List (CompiledPattern R × N) → Data → Path → Outcome
  of_patterns es v Q = record { accepts = (patterns_mean answers costs m es v).accepts u; first = patterns_first answers s u es v Q; all = patterns_report answers r u es v Q }

-- what is declared at a name, if anything is
abbrev pub declared_nodes : {N : Type 0} → Option (ℕ × N) → List N
declared_nodes d = option_to_list (option_map (λ f. f.1) d)

-- a member with this declared at its name, and what else speaks of it
module _ {R N : Type 0} (answers : R → Name → Says) (u : Bool) (S : Sides R N) (d : Option (ℕ × N)) (x : Name) where
  -- nothing spoke of it, and of the patterns from this index on none does
  abbrev pub unspoken_from : Bool → ℕ → List (CompiledPattern R × N) → Bool
  unspoken_from spoken i es = not spoken && is_empty (matching_from answers S d x u i es)

  abbrev pub asked_from : Bool → ℕ → List (CompiledPattern R × N) → List N
  asked_from spoken i es = matching_from answers S d x u i es ++ cond (unspoken_from spoken i es) (option_to_list S.rest) []

  abbrev pub asked_at : List N
  asked_at = declared_nodes d ++ asked_from (is_some d) 0 S.patterns

  abbrev pub unexpected_at : Bool
  unexpected_at = is_none S.rest && unspoken_from (is_some d) 0 S.patterns

module _ {R N : Type 0} (answers : R → Name → Says) (u : Bool) where
  -- the node of a pattern of which this is known, if the pattern matches
  abbrev pub if_matched : Says → CompiledPattern R → N → Name → List N
  if_matched known p n x = put_if (reads_as u (known_or known (pattern_answers answers p x))) n []

-- the fault of names that are not expected, told together
abbrev pub unexpected_fault : List Name → Data → Path → Path → Fault
unexpected_fault ns v P Q = fault (AdditionalProperties ns) v Q P

-- this one, if there are such names
abbrev pub of_unexpected : List Name → Data → Path → Path → Outcome
of_unexpected ns v P Q = own (is_empty ns) (not (is_empty ns)) (AdditionalProperties ns) v P Q

-- a false schema over the first member, if there is one
abbrev pub of_no_members : Data → Path → Path → Outcome
of_no_members v P Q = record { accepts = is_empty (members v); first = unexpected_faults false (members v) v P Q; all = unexpected_faults false (members v) v P Q }

-- members, with neighbours of `additionalProperties` beside it, which stands at P
module _ {R N : Type 0} (answers : R → Name → Says) (costs : R → Bool) (m : N → Data → Question) (s r : N → Bool → Data → Path → List Fault) (u : Bool) (S : Sides R N) where
  abbrev pub of_asked_members : Data → Path → Path → Outcome
  of_asked_members v P Q = record { accepts = (additional_means answers costs m S v).accepts u; first = additional_first answers S u v Q true P s; all = additional_report answers S u v Q true P r }

module _ {K : Type 0} (l : leaf.Ghosts K) where
  abbrev pub of_leaf : K → Data → Path → Path → Outcome
  of_leaf k v P Q = record { accepts = is_empty (l.finds k v); first = map (λ t. fault (Leaf (l.keyword_of k) t) v Q P) (l.finds k v); all = map (λ t. fault (Leaf (l.keyword_of k) t) v Q P) (l.finds k v) }
