-- What `properties` means and reports, over the members that it meets.
use Rattle.std.proofs.Common.{◌≡◌, Bool, List, [], ◌∷◌, ◌++◌, Option, Some, None, true, option_to_list, refl, sym, ap, ◌∙◌}
use Rattle.std.specs.List.{flat_map}
use Rattle.serde_json.specs.Data.{Data, Members, null, object}
use Rattle.serde_json.specs.Find.{as_object}
use Rattle.olk_spec.specs.Names.{Name, Path, ◌//◌, lookup_name}
use Rattle.olk_spec.specs.Faults.{Fault}
use Rattle.olk_spec.specs.Schemas.{listed, members}
use Rattle.olk_tree.specs.Questions.{Question, always, both, every}
use Rattle.olk_tree.specs.Firsts.{or_else, first_of}
use Rattle.olk_tree.specs.Properties.{properties_mean, properties_report, properties_first}
use Rattle.olk_tree.specs.Visited.{Declared, declared_as, members_declared, names_met, left_of}
use Rattle.olk_tree.specs.declared.declared.DeclaredMembers.{DeclaredMembers}
use Rattle.olk_tree.proofs.Questions.{every-nothing, every-flat_map}
use Rattle.olk_tree.proofs.Faults.{none_of, first_of-nothing, first_of-flat_map, flat_map-flat_map}

pub object_is : (v : Data) (ms : Members) → Some ms ≡ as_object v → object ms ≡ v
object_is null ms e = cc
object_is _ ms e = cc

pub no_members : (v : Data) → None ≡ as_object v → members v ≡ []
no_members (object ms) e = cc
no_members _ e = refl

module _ {N : Type 0} (ms : Members) where
  abbrev met_at : Name × N → Option Data → List (Declared N)
  met_at e o = flat_map (λ v. declared_as e.0 e.1 v) (option_to_list o)

  module _ (m : N → Data → Question) where
    mean_at : (e : Name × N) (o : Option Data) → every (λ d. m d.node d.value) (met_at e o) ≡ every (m e.1) (option_to_list o)
    mean_at e None = refl
    mean_at e (Some v) = refl

    means_at : (es : List (Name × N)) → every (λ e. every (λ d. m d.node d.value) (met_at e (lookup_name e.0 (listed ms)))) es ≡ properties_mean m es (object ms)
    means_at [] = refl
    means_at (e ∷ es) = λ i. both (mean_at e (lookup_name e.0 (listed ms)) i) (means_at es i)

    pub means_of_met : (es : List (Name × N)) → every (λ d. m d.node d.value) (names_met es (listed ms)) ≡ properties_mean m es (object ms)
    means_of_met es = every-flat_map _ _ es ∙ means_at es

    -- the same member by member
    module _ (es : List (Name × N)) where
      mean_if_declared : (x : Name × Data) (o : Option N) → every (λ n. m n x.1) (option_to_list o) ≡ every (λ d. m d.node d.value) (flat_map (λ n. declared_as x.0 n x.1) (option_to_list o))
      mean_if_declared x None = refl
      mean_if_declared x (Some n) = refl

      mean_each : (xs : List (Name × Data)) → every (λ x. every (λ n. m n x.1) (option_to_list (lookup_name x.0 es))) xs ≡ every (λ d. m d.node d.value) (members_declared es xs)
      mean_each xs = (λ i. every (λ x. mean_if_declared x (lookup_name x.0 es) i) xs) ∙ sym (every-flat_map _ _ xs)

      pub means_of_members : names_met es (listed ms) ≡ members_declared es (listed ms) → every (λ x. every (λ n. m n x.1) (option_to_list (lookup_name x.0 es)))
          (listed ms) ≡ properties_mean m es (object ms)
      means_of_members agree = mean_each (listed ms) ∙ ap (every _) (sym agree) ∙ means_of_met es

  module _ (f : N → Bool → Data → Path → List Fault) (u : Bool) (Q : Path) where
    abbrev pub fault_at : Declared N → List Fault
    fault_at d = f d.node u d.value (Q // d.name)

    report_at : (e : Name × N) (o : Option Data) → flat_map fault_at (met_at e o) ≡ flat_map (λ x. f e.1 u x (Q // e.0)) (option_to_list o)
    report_at e None = refl
    report_at e (Some v) = refl

    reports_at : (es : List (Name × N)) → flat_map (λ e. flat_map fault_at (met_at e (lookup_name e.0 (listed ms)))) es ≡ properties_report f u es (object ms) Q
    reports_at [] = refl
    reports_at (e ∷ es) = λ i. report_at e (lookup_name e.0 (listed ms)) i ++ reports_at es i

    pub report_of_met : (es : List (Name × N)) → flat_map fault_at (names_met es (listed ms)) ≡ properties_report f u es (object ms) Q
    report_of_met es = flat_map-flat_map fault_at _ es ∙ reports_at es

    first_at : (e : Name × N) (o : Option Data) → first_of fault_at (met_at e o) ≡ first_of (λ x. f e.1 u x (Q // e.0)) (option_to_list o)
    first_at e None = refl
    first_at e (Some v) = refl

    firsts_at : (es : List (Name × N)) → first_of (λ e. first_of fault_at (met_at e (lookup_name e.0 (listed ms)))) es ≡ properties_first f u es (object ms) Q
    firsts_at [] = refl
    firsts_at (e ∷ es) = λ i. or_else (first_at e (lookup_name e.0 (listed ms)) i) (firsts_at es i)

    pub first_of_met : (es : List (Name × N)) → first_of fault_at (names_met es (listed ms)) ≡ properties_first f u es (object ms) Q
    first_of_met es = first_of-flat_map fault_at _ es ∙ firsts_at es

  -- ---- over what a walk has left at its start

  module _ (es : List (Name × N)) {w v : DeclaredMembers N} (same : w ≡ v) (whole : left_of v ≡ names_met es (listed ms)) where
    pub means_of_walk : (m : N → Data → Question) → every (λ d. m d.node d.value) (left_of w) ≡ properties_mean m es (object ms)
    means_of_walk m = ap (every (λ d. m d.node d.value)) (ap left_of same ∙ whole) ∙ means_of_met m es

    module _ (f : N → Bool → Data → Path → List Fault) (u : Bool) (Q : Path) where
      pub report_of_walk : flat_map (fault_at f u Q) (left_of w) ≡ properties_report f u es (object ms) Q
      report_of_walk = ap (flat_map (fault_at f u Q)) (ap left_of same ∙ whole) ∙ report_of_met f u Q es

      pub first_of_walk : first_of (fault_at f u Q) (left_of w) ≡ properties_first f u es (object ms) Q
      first_of_walk = ap (first_of (fault_at f u Q)) (ap left_of same ∙ whole) ∙ first_of_met f u Q es

-- ---- of what is no object

module _ {N : Type 0} (es : List (Name × N)) (v : Data) (none : None ≡ as_object v) where
  pub means_nothing : (m : N → Data → Question) → properties_mean m es v ≡ always true
  means_nothing m = ap (λ ms. every (λ e. every (m e.1) (option_to_list (lookup_name e.0 ms))) es) (no_members v none) ∙ every-nothing es

  module _ (f : N → Bool → Data → Path → List Fault) (u : Bool) (Q : Path) where
    pub reports_nothing : properties_report f u es v Q ≡ []
    reports_nothing = ap (λ ms. flat_map (λ e. flat_map (λ x. f e.1 u x (Q // e.0)) (option_to_list (lookup_name e.0 ms))) es) (no_members v none) ∙ none_of es

    pub first_nothing : properties_first f u es v Q ≡ []
    first_nothing = ap (λ ms. first_of (λ e. first_of (λ x. f e.1 u x (Q // e.0)) (option_to_list (lookup_name e.0 ms))) es) (no_members v none) ∙ first_of-nothing es
