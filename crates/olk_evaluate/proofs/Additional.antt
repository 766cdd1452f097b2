-- What is shown beside `additionalProperties`, of what is collected.
use Rattle.std.proofs.Common.{◌≡◌, Result, Bool, true, false, not, ◌&&◌, ◌||◌, cond, List, [], ◌∷◌, ◌++◌, map, Option, Some, None, is_none, is_some, refl, sym, ap, subst, append_assoc, ◌∙◌}
use Rattle.std.specs.Prelude.{⊤}
use Rattle.std.specs.declared.alloc.AllocError.{AllocError}
use Rattle.std.specs.List.{flat_map}
use Rattle.std.proofs.lemmas.List.Folds.{list_all-append}
use Rattle.std.proofs.lemmas.List.{map-append}
use Rattle.std.proofs.lemmas.Simd.{map-map}
use Rattle.std.proofs.Math.Bool.{and_assoc, and_comm}
use Rattle.olk_spec.proofs.Walks.{and_middle}
use Rattle.serde_json.specs.Data.{Data, Members, object}
use Rattle.serde_json.specs.Find.{as_object}
use Rattle.olk_spec.specs.Names.{Name, Path, ◌//◌, filter_once, put_if, is_empty}
use Rattle.olk_spec.specs.World.{Says, unmatched}
use Rattle.olk_spec.specs.Faults.{Fault}
use Rattle.olk_spec.specs.Reports.{unexpected_faults, required_faults}
use Rattle.olk_spec.specs.Schemas.{listed, has}
use Rattle.olk_spec.specs.Accepts.{missing}
use Rattle.olk_spec.specs.Tree.{Tree, node, no_tree, described, result, plain, erring}
use Rattle.olk_tree.specs.Questions.{Question, always, every}
use Rattle.olk_tree.specs.Additional.{Sides, Held, known_by, nodes_matching, nodes_asked, is_additional, is_unexpected, faults_of_unexpected, additional_names, matched_names, additional_annotation, matches_child, additional_tree, repeats, member_means, additional_means, required_text, required_place}
use Rattle.olk_tree.specs.AdditionalAgreement.{member_accepted}
use Rattle.olk_tree.specs.AdditionalProperties.{additional_properties_answers}
use Rattle.olk_tree.specs.Shown.{missing_trees}
use Rattle.olk_tree.proofs.Members_met.{object_is}
use Rattle.olk_reports.specs.Evaluations.{AddsErrors, Shown, shown, nothing_shown, shown_of, annotated, with_children, node_at}
use Rattle.olk_reports.specs.declared.evaluation.EvaluationResult.{EvaluationResult}
use Rattle.olk_check.proofs.Together.{each_is_all}
use Rattle.olk_evaluate.specs.Shows.{Shows}
use Rattle.olk_evaluate.specs.Wanted.{Wanted, IsShown, ShowsMore, wanted, accepted, refused, lacking_trees}
use Rattle.olk_evaluate.specs.Additional.{Collects, names_of, nodes_wanted, members_found, has_properties, has_patterns, has_neighbours, shows_matches, place_of_patterns, required_of, wanted_beside, matches_shown, rest_annotation, named_faults, annotated_if, places_wanted, Completes}
use Rattle.olk_evaluate.specs.declared.EvaluationContext.{EvaluationContext}
use Rattle.olk_evaluate.specs.declared.additional_members.Collected.{Collected}
use Rattle.olk_evaluate.specs.declared.sides.Beside.{Beside}
use Rattle.olk_evaluate.proofs.Children.{trees_wanted, all_wanted, same_trees, shown_as, shows_nothing, shows_none, shows_both, shows_one, from_nothing}
use Rattle.olk_evaluate.proofs.OwnErrors.{all_there, complete_shown}
use Rattle.olk_evaluate.proofs.Shows.{shows_weaker}
use Rattle.olk_evaluate.proofs.Patterns.{no_object, nothing_each}

-- ---- names, trees and verdicts of the members

module _ {X : Type 0} (p : X → Bool) where
  none_of_those : (xs : List X) → filter_once (λ x. false && p x) xs ≡ []
  none_of_those [] = refl
  none_of_those (x ∷ xs) = none_of_those xs

  all_of_those : ((x : X) → p x ≡ true) → (xs : List X) → filter_once p xs ≡ xs
  all_of_those h [] = refl
  all_of_those h (x ∷ xs) = (λ i. put_if (h x i) x (all_of_those h xs i))

  names_of_those : {B : Type 0} (f : X → B) (xs : List X) → flat_map (λ x. put_if (p x) (f x) []) xs ≡ map f (filter_once p xs)
  names_of_those f [] = refl
  names_of_those f (x ∷ xs) = ap (λ l. put_if (p x) (f x) [] ++ l) (names_of_those f xs) ∙ by (p x)
    where
      by : (b : Bool) → put_if b (f x) [] ++ map f (filter_once p xs) ≡ map f (put_if b x (filter_once p xs))
      by true = refl
      by false = refl

each_if : {X B : Type 0} (f : X → List B) (b : Bool) (xs : List X) → flat_map (λ x. cond b (f x) []) xs ≡ cond b (flat_map f xs) []
each_if f true xs = refl
each_if f false xs = nothing_each xs

-- ---- trees that are to be valid

all_accepted : (ts : List Tree) → all_wanted (accepted ts) ≡ true
all_accepted [] = refl
all_accepted (t ∷ ts) = all_accepted ts

pub no_match_shown : (ns : List Name) (P Q : Path) (s : Shown) → true ≡ is_empty ns → ShowsMore (accepted (matches_shown ns P Q)) s s
no_match_shown [] P Q s e = shows_none s
no_match_shown (n ∷ ns) P Q s e = cc

pub some_matches_shown : (ns : List Name) (P Q : Path) {s r old new : Shown} → false ≡ is_empty ns → s ≡ nothing_shown → r ≡ annotated ns s → new ≡ with_children (node_at P Q r ∷ []) old
    → ShowsMore (accepted (matches_shown ns P Q)) old new
some_matches_shown [] P Q e none names below = cc
some_matches_shown (n ∷ ns) P Q {old = old} e none names below =
    let child : IsShown (node P Q true (Some (n ∷ ns)) [] no_tree, true) (node_at P Q (annotated (n ∷ ns) nothing_shown)) = record { like = (refl, refl, refl, refl, tt, tt); verdict = refl } in
    shows_one child (below ∙ ap (λ r. with_children (node_at P Q r ∷ []) old) (names ∙ ap (annotated (n ∷ ns)) none))

faults_emptiness : (b : Bool) (xs : List (Name × Data)) (v : Data) (P Q : Path) → is_empty (unexpected_faults b xs v P Q) ≡ is_empty xs
faults_emptiness b [] v P Q = refl
faults_emptiness true (x ∷ xs) v P Q = refl
faults_emptiness false (x ∷ xs) v P Q = refl

module _ {R N : Type 0} (answers : R → Name → Says) (t : N → Bool → Data → Path → Tree) (m : N → Data → Question) (u : Bool) (Q : Path) (S : Sides R N) (named : Bool) where
  abbrev is_left : Name × Data → Bool
  is_left x = is_additional answers S u x.0

  abbrev nodes_at : Name × Data → List N
  nodes_at x = nodes_asked answers S u x.0

  names_left : (xs : List (Name × Data)) → (members_found answers t m u Q S named xs).additional ≡ map (λ x. x.0) (filter_once is_left xs)
  names_left xs = names_of_those is_left (λ x. x.0) xs

  names_matched : (xs : List (Name × Data)) → (members_found answers t m u Q S named xs).matched ≡ cond named (flat_map (λ x. map (λ e. x.0) (nodes_matching answers S u x.0)) xs) []
  names_matched xs = each_if (λ x. map (λ e. x.0) (nodes_matching answers S u x.0)) named xs

  trees_there : (xs : List (Name × Data)) → trees_wanted (members_found answers t m u Q S named xs).wanted ≡ flat_map (λ x. map (λ e. t e u x.1 (Q // x.0)) (nodes_at x)) xs
  trees_there [] = refl
  trees_there (x ∷ xs) = map-append (λ w. w.0) (nodes_wanted t m u Q x.0 x.1 (nodes_at x)) (members_found answers t m u Q S named xs).wanted
      ∙ (λ i. map-map (λ w. w.0) (λ e. wanted t m u e x.1 (Q // x.0)) (nodes_at x) i ++ trees_there xs i)

  all_accept : (n : Name) (x : Data) (ns : List N) → all_wanted (nodes_wanted t m u Q n x ns) ≡ (every (λ e. m e x) ns).accepts u
  all_accept n x [] = refl
  all_accept n x (e ∷ ns) = ap (λ b. (m e x).accepts u && b) (all_accept n x ns)

  module _ (costs : R → Bool) where
    abbrev means_at : Name × Data → Question
    means_at x = member_means answers costs m S x.0 x.1

    members_accepted : (xs : List (Name × Data)) → (is_empty (filter_once (λ x. is_unexpected answers S u x.0) xs) && all_wanted (members_found answers t m u Q S named xs).wanted) ≡
        (every means_at xs).accepts u
    members_accepted [] = refl
    members_accepted (x ∷ xs) =
        (λ i. none_more (is_unexpected answers S u x.0) i && list_all-append (λ w. w.1) (nodes_wanted t m u Q x.0 x.1 (nodes_at x)) (members_found answers t m u Q S named xs).wanted i)
        ∙ and_middle (not (is_unexpected answers S u x.0)) (is_empty (filter_once (λ y. is_unexpected answers S u y.0) xs))
        (all_wanted (nodes_wanted t m u Q x.0 x.1 (nodes_at x))) (all_wanted (members_found answers t m u Q S named xs).wanted)
        ∙ (λ i. (and_comm (not (is_unexpected answers S u x.0)) (all_wanted (nodes_wanted t m u Q x.0 x.1 (nodes_at x)))
        ∙ ap (λ b. b && not (is_unexpected answers S u x.0)) (all_accept x.0 x.1 (nodes_at x)) ∙ sym (member_accepted answers costs m S x.0 x.1 u)) i && members_accepted xs i)
      where
        none_more : (b : Bool) → is_empty (put_if b x (filter_once (λ y. is_unexpected answers S u y.0) xs)) ≡ (not b && is_empty (filter_once (λ y. is_unexpected answers S u y.0) xs))
        none_more true = refl
        none_more false = refl

  -- ---- of an object

  module _ (costs : R → Bool) (ms : Members) (P M : Path) (declares patterned : Bool) (required : List Name) (place : Path) where
    abbrev Fits : Data → Shown → Type 0
    Fits w r = IsShown (
      additional_tree answers S u w Q declares patterned P M (λ n. t n u) (missing_trees required w place Q),
      (additional_means answers costs m S w).accepts u && is_empty (missing required w),
    ) (node_at P Q r)

    abbrev members_wanted : List Wanted
    members_wanted = (members_found answers t m u Q S named (listed ms)).wanted

    abbrev matches_here : List Tree
    matches_here = matches_child answers S u (object ms) Q declares patterned M

    abbrev lacking : List Tree
    lacking = lacking_trees required (object ms) (object ms) place Q

    abbrev all_wants : List Wanted
    all_wants = members_wanted ++ (accepted matches_here ++ refused lacking)

    abbrev faults_here : List Fault
    faults_here = faults_of_unexpected answers S u (object ms) Q (declares || patterned) P

    abbrev annotation_here : Option (List Name)
    annotation_here = additional_annotation answers S u (object ms) Q declares patterned

    trees_are : trees_wanted all_wants ≡ flat_map (λ x. map (λ e. t e u x.1 (Q // x.0)) (nodes_at x)) (listed ms) ++ matches_here ++ lacking
    trees_are = map-append (λ w. w.0) members_wanted (accepted matches_here ++ refused lacking)
        ∙ ap (λ l. trees_wanted members_wanted ++ l) (map-append (λ w. w.0) (accepted matches_here) (refused lacking))
        ∙ sym (append_assoc (trees_wanted members_wanted) (trees_wanted (accepted matches_here)) (trees_wanted (refused lacking)))
        ∙ (λ i. trees_there (listed ms) i ++ same_trees true matches_here i ++ same_trees false lacking i)

    wants_verdict : all_wanted all_wants ≡ (all_wanted members_wanted && is_empty (missing required (object ms)))
    wants_verdict = list_all-append (λ w. w.1) members_wanted (accepted matches_here ++ refused lacking)
        ∙ ap (λ b. all_wanted members_wanted && b) (list_all-append (λ w. w.1) (accepted matches_here) (refused lacking)
        ∙ (λ i. all_accepted matches_here i && all_there required (object ms) (object ms) place Q i))

    verdict_is : repeats (object ms) ≡ false → (is_empty faults_here && all_wanted all_wants) ≡ ((additional_means answers costs m S (object ms)).accepts u && is_empty (missing required (object ms)))
    verdict_is distinct =
        (λ i. faults_emptiness (declares || patterned) (filter_once (λ x. is_unexpected answers S u x.0) (listed ms)) (object ms) P Q i && wants_verdict i)
        ∙ sym (and_assoc (is_empty (filter_once (λ x. is_unexpected answers S u x.0) (listed ms))) (all_wanted members_wanted) (is_empty (missing required (object ms))))
        ∙ ap (λ b. b && is_empty (missing required (object ms))) (members_accepted costs (listed ms) ∙ ap (λ q. q.accepts u) (each_is_all answers costs m S (object ms) distinct))

    -- children that show all that is wanted, annotated and with own errors then
    pub object_shown : {o q r : Shown} → o ≡ nothing_shown → ShowsMore all_wants o q → AddsErrors faults_here (annotated_if annotation_here q) r → repeats (object ms) ≡ false → Fits (object ms) r
    object_shown none all errors distinct =
        shown_as (complete_shown P Q faults_here annotation_here all_wants all.added (from_nothing none all) errors all.shown)
        (λ i. result P Q annotation_here false (described faults_here) (trees_are i)) (verdict_is distinct)

-- ---- beside others

not_one : (p q : Bool) → not (cond p (not q) q) ≡ cond p q (not q)
not_one true true = refl
not_one true false = refl
not_one false true = refl
not_one false false = refl

cond_both : {X : Type 0} (p q : Bool) (x : Option X) → cond p (cond q x None) None ≡ cond (p && q) x None
cond_both true q x = refl
cond_both false q x = refl

matches_as : (shows : Bool) (ns : List Name) (P Q : Path) → cond shows (matches_shown (cond shows ns []) P Q) [] ≡ put_if (shows && not (is_empty ns)) (node P Q true (Some ns) [] no_tree) []
matches_as true ns P Q = refl
matches_as false ns P Q = refl

module _ {R N : Type 0} (answers : R → Name → Says) (t : N → Bool → Data → Path → Tree) (m : N → Data → Question) (u : Bool) (Q : Path) (S : Sides R N) (b : Beside) where
  -- names that are told are those of members that are not expected
  named_unexpected : (has_neighbours b || is_some S.rest) ≡ true → (xs : List (Name × Data)) (v : Data) (P : Path)
      → cond (is_some S.rest) [] (named_faults (map (λ x. x.0) (filter_once (λ x. is_additional answers S u x.0) xs)) v P Q) ≡ unexpected_faults (has_neighbours b) (filter_once (λ x. is_unexpected answers S u x.0) xs) v P Q
  named_unexpected expects xs v P = by S.rest (has_neighbours b) expects
    where
      left : List (Name × Data)
      left = filter_once (λ x. is_additional answers S u x.0) xs

      told : (ys : List (Name × Data)) → named_faults (map (λ x. x.0) ys) v P Q ≡ unexpected_faults true ys v P Q
      told [] = refl
      told (y ∷ ys) = refl

      by : (o : Option N) (c : Bool) → (c || is_some o) ≡ true
          → cond (is_some o) [] (named_faults (map (λ x. x.0) left) v P Q) ≡ unexpected_faults c (filter_once (λ x. is_none o && is_additional answers S u x.0) xs) v P Q
      by None true e = told left
      by None false e = cc
      by (Some r) c e = ap (λ l. unexpected_faults c l v P Q) (sym (none_of_those (λ x. is_additional answers S u x.0) xs))

  module _ (costs : R → Bool) (ms : Members) (c : Collected) {o s : Shown} (collects : Collects (members_found answers t m u Q S (shows_matches b) (listed ms)) c o s)
      (expects : (has_neighbours b || is_some S.rest) ≡ true) (none : o ≡ nothing_shown) where
    abbrev FitsAt : Path → Data → Shown → Type 0
    FitsAt P w r = IsShown (wanted_beside answers costs t m S b u w P Q) (node_at P Q r)

    abbrev names_shown : List Name
    names_shown = additional_names answers S u (object ms) Q

    left_is : names_of c.additional.items ≡ names_shown
    left_is = collects.additional ∙ names_left answers t m u Q S (shows_matches b) (listed ms)

    abbrev annotation_shown : Option (List Name)
    annotation_shown = additional_annotation answers S u (object ms) Q (has_properties b) (has_patterns b)

    annotation_as : cond (is_some S.rest) (rest_annotation b (names_of c.additional.items)) None ≡ annotation_shown
    annotation_as = (λ i. cond (is_some S.rest) (cond (not_one (has_properties b) (has_patterns b) i || not (is_empty (left_is i))) (Some (left_is i)) None) None)
        ∙ cond_both (is_some S.rest) (cond (has_properties b) (has_patterns b) (not (has_patterns b)) || not (is_empty names_shown)) (Some names_shown)

    faults_as : (P : Path) → cond (is_some S.rest) [] (named_faults (names_of c.additional.items) (object ms) P Q) ≡ faults_of_unexpected answers S u (object ms) Q (has_neighbours b) P
    faults_as P = ap (λ ns. cond (is_some S.rest) [] (named_faults ns (object ms) P Q)) left_is ∙ named_unexpected expects (listed ms) (object ms) P

    matches_are : cond (shows_matches b) (matches_shown (names_of c.matched.items) (place_of_patterns b) Q) []
        ≡ matches_child answers S u (object ms) Q (has_properties b) (has_patterns b) (place_of_patterns b)
    matches_are = ap (λ ns. cond (shows_matches b) (matches_shown ns (place_of_patterns b) Q) []) (collects.matched ∙ names_matched answers t m u Q S (shows_matches b) (listed ms))
        ∙ matches_as (shows_matches b) (matched_names answers S u (object ms) Q) (place_of_patterns b) Q

    object_beside : {q r : Shown} → ShowsMore (places_wanted b (names_of c.matched.items) (object ms) (object ms) Q) s q → Completes b (is_some S.rest) (names_of c.additional.items) (object ms) q r
        → repeats (object ms) ≡ false → (P : Path) → FitsAt P (object ms) r
    object_beside {q} {r} places completes distinct P =
        object_shown answers t m u Q S (shows_matches b) costs ms P (place_of_patterns b) (has_properties b) (has_patterns b) (required_text (required_of b)) (required_place (required_of b)) none
        (shows_both collects.shown (subst (λ ts. ShowsMore (accepted ts ++ refused (lacking_trees (required_text (required_of b)) (object ms) (object ms) (required_place (required_of b)) Q)) s q) matches_are places))
        (subst (λ fs. AddsErrors fs (annotated_if annotation_shown q) r) (faults_as P)
        (subst (λ a. AddsErrors (cond (is_some S.rest) [] (named_faults (names_of c.additional.items) (object ms) P Q)) (annotated_if a q) r) annotation_as (completes P Q)))
        distinct

    -- of v, which is that object
    pub beside_shown : {q r : Shown} (v : Data) → Some ms ≡ as_object v → ShowsMore (places_wanted b (names_of c.matched.items) v (object ms) Q) s q
        → Completes b (is_some S.rest) (names_of c.additional.items) v q r → repeats (object ms) ≡ false → (P : Path) → FitsAt P v r
    beside_shown {q} {r} v is places completes distinct P =
        subst (λ w. ShowsMore (places_wanted b (names_of c.matched.items) w (object ms) Q) s q → Completes b (is_some S.rest) (names_of c.additional.items) w q r → FitsAt P w r) (object_is v ms is)
        (λ p d. object_beside p d distinct P) places completes

-- ---- of a validator

-- what is shown of the sides that it lends, at its place
module _ {R N : Type 0} (answers : R → Name → Says) (costs : R → Bool) (t : N → Bool → Data → Path → Tree) (m : N → Data → Question) (b : Beside) (v : Data) (P : Path) where
  pub shows_lent : {S T : Sides R N} {r : Result ⊤ AllocError} {from to : EvaluationContext} (o : EvaluationResult) → S ≡ T
      → Shows r from to (λ u _. (P : Path) → IsShown (wanted_beside answers costs t m S b u v P from.path) (node_at P from.path (shown_of o)))
      → Shows r from to (λ u _. IsShown (wanted_beside answers costs t m T b u v P from.path) (node_at P from.path (shown_of o)))
  shows_lent {from = from} o same h =
      shows_weaker h (λ u so _ shown. subst (λ S. IsShown (wanted_beside answers costs t m S b u v P from.path) (node_at P from.path (shown_of o))) same (shown P))

-- what a validator shows that holds the same
module _ {R N : Type 0} (answers : R → Name → Says) (costs : R → Bool) (t : N → Bool → Data → Path → Tree) (m : N → Data → Question) (v : Data) where
  abbrev held_wanted : Held R N → Bool → Path → Wanted
  held_wanted h u Q = ((additional_properties_answers answers costs h).tree m t u v Q, ((additional_properties_answers answers costs h).means m v).accepts u)

  pub shows_held : {h k : Held R N} {r : Result ⊤ AllocError} {from to : EvaluationContext} (o : EvaluationResult) → h ≡ k
      → Shows r from to (λ u _. IsShown (held_wanted h u from.path) (node_at h.location from.path (shown_of o)))
      → Shows r from to (λ u _. IsShown (held_wanted k u from.path) (node_at k.location from.path (shown_of o)))
  shows_held {r = r} {from} {to} o = subst (λ k. Shows r from to (λ u _. IsShown (held_wanted k u from.path) (node_at k.location from.path (shown_of o))))

-- ---- of what is no object

module _ {R N : Type 0} (answers : R → Name → Says) (S : Sides R N) (u : Bool) (P M Q : Path) (names : List Name) (place : Path) (v : Data) (none : None ≡ as_object v) where
  abbrev lacking_here : List Tree
  lacking_here = missing_trees names v place Q

  none_missing : missing names v ≡ []
  none_missing = (λ i. filter_once (λ n. no_object v none i && not (has n v)) names) ∙ none_of_those (λ n. not (has n v)) names

  module _ {s : Shown} (h : s ≡ shown true None [] []) where
    pub other_shown : (declares patterned : Bool) (t : N → Data → Path → Tree) (costs : R → Bool) (m : N → Data → Question)
        → IsShown (additional_tree answers S u v Q declares patterned P M t lacking_here, (additional_means answers costs m S v).accepts u && is_empty (missing names v)) (node_at P Q s)
    other_shown declares patterned t costs m = shows_nothing P Q h (nothing v none) (λ i. accepted_all v none i && is_empty (none_missing i))
      where
        no_match : (b c : Bool) (w : Tree) → put_if (b && not c && false) w [] ≡ []
        no_match true true w = refl
        no_match true false w = refl
        no_match false true w = refl
        no_match false false w = refl

        none_lacking : lacking_here ≡ []
        none_lacking = ap (λ ns. put_if (not (is_empty ns)) (erring place Q (required_faults names v place Q)) []) none_missing

        alone : result P Q None false [] (put_if (patterned && not declares && false) (node M Q true (Some []) [] no_tree) [] ++ lacking_here) ≡ plain P Q []
        alone = λ i. result P Q None false [] (no_match patterned declares (node M Q true (Some []) [] no_tree) i ++ none_lacking i)

        nothing : (w : Data) → None ≡ as_object w → additional_tree answers S u w Q declares patterned P M t lacking_here ≡ plain P Q []
        nothing (object ms) e = cc
        nothing w e = alone

        accepted_all : (w : Data) → None ≡ as_object w → (additional_means answers costs m S w).accepts u ≡ true
        accepted_all (object ms) e = cc
        accepted_all w e = refl

-- ---- `false` alone

-- nothing is asked of a member, and each of them is left
abbrev nothing_beside : Sides ⊤ ⊤
nothing_beside = record { declared = []; patterns = []; known = known_by None; rest = None }

abbrev nothing_says : ⊤ → Name → Says
nothing_says r n = unmatched

abbrev nothing_costs : ⊤ → Bool
nothing_costs r = false

abbrev nothing_means : ⊤ → Data → Question
nothing_means n v = always true

abbrev nothing_shows : ⊤ → Bool → Data → Path → Tree
nothing_shows n u v Q = plain [] Q []

module _ (u : Bool) (v : Data) (P Q : Path) {s : Shown} (none : s ≡ nothing_shown) where
  abbrev FitsFalse : Data → Shown → Type 0
  FitsFalse w r = IsShown (
    additional_tree nothing_says nothing_beside u w Q false false P [] (λ n. nothing_shows n u) (missing_trees [] w [] Q),
    (additional_means nothing_says nothing_costs nothing_means nothing_beside w).accepts u && is_empty (missing [] w),
  ) (node_at P Q r)

  -- the first of all members is told
  pub false_shown : (ms : Members) {r : Shown} → Some ms ≡ as_object v → AddsErrors (unexpected_faults false (listed ms) v P Q) s r → repeats (object ms) ≡ false → FitsFalse v r
  false_shown ms {r} is errors distinct = subst (λ w. AddsErrors (unexpected_faults false (listed ms) w P Q) s r → FitsFalse w r) (object_is v ms is) (λ told.
      object_shown nothing_says nothing_shows nothing_means u Q nothing_beside false nothing_costs ms P [] false false [] [] none
      (subst (λ ws. ShowsMore (ws ++ []) s s) (sym (nothing_each (listed ms))) (shows_none s))
      (subst (λ xs. AddsErrors (unexpected_faults false xs (object ms) P Q) s r) (sym (all_of_those (λ x. true) (λ x. refl) (listed ms))) told)
      distinct) errors

  pub other_false_shown : None ≡ as_object v → FitsFalse v s
  other_false_shown is = other_shown nothing_says nothing_beside u P [] Q [] [] v is none false false (λ n. nothing_shows n u) nothing_costs nothing_means
