-- Children beside those that are wanted.
use Rattle.std.proofs.Common.{◌≡◌, ℕ, ◌==◌, arith, Bool, true, false, not, ◌&&◌, List, [], ◌∷◌, ◌++◌, map, length, Option, None, append_assoc, refl, sym, ap, subst, ◌∙◌}
use Rattle.std.specs.List.{list_all}
use Rattle.std.proofs.lemmas.Bool.Decides.{nat_tests}
use Rattle.std.proofs.lemmas.List.{append-nil}
use Rattle.std.proofs.lemmas.List.Folds.{list_all-append}
use Rattle.std.proofs.lemmas.Simd.{map-map}
use Rattle.std.proofs.Math.Bool.{and-true, and_assoc}
use Rattle.olk_spec.proofs.Refused_trees.{same_validity}
use Rattle.olk_spec.specs.Names.{Name, Path, filter_once, put_if, is_empty}
use Rattle.olk_spec.specs.Tree.{Tree, Trees, trees_from, IsLikeTree, AreLikeTrees, AreTold, Described, is_valid, result_node, result, plain}
use Rattle.olk_reports.specs.Evaluations.{Shown, shown, nothing_shown, node_at, with_children}
use Rattle.serde_json.specs.Data.{Data, string}
use Rattle.olk_spec.specs.Schemas.{members}
use Rattle.olk_tree.specs.Questions.{Question, every}
use Rattle.olk_tree.specs.Shown.{branch_trees, name_trees}
use Rattle.olk_evaluate.specs.Wanted.{Wanted, AreShown, IsShown, ShowsMore, wanted, each_wanted}

-- whether a list is empty, by its length
pub emptiness_of : {X Y : Type 0} (f : X → Y) (xs : List X) {n : ℕ} {b : Bool} → n ≡ length xs → b ≡ (n == 0) → b ≡ is_empty (map f xs)
emptiness_of f [] len e = e ∙ ap (λ n. n == 0) len
emptiness_of f (x ∷ xs) {n} len e = e ∙ grind (arith, nat_tests)

-- ---- the tree of a result

pub like_result : (P Q : Path) (b b' : Bool) (a : Option (List Name)) (es es' : List Described) (ts ts' : Trees)
    → b' ≡ b → AreTold es es' → AreLikeTrees ts ts' → IsLikeTree (result_node P Q b a es ts) (result_node P Q b' a es' ts')
like_result P Q true true a es es' ts ts' valid own below = (refl, refl, refl, refl, own, below)
like_result P Q true false a es es' ts ts' valid own below = cc
like_result P Q false true a es es' ts ts' valid own below = cc
like_result P Q false false a es es' ts ts' valid own below = (refl, refl, refl, refl, own, below)

valid_result : (P Q : Path) (b : Bool) (a : Option (List Name)) (es : List Described) (ts : Trees) → is_valid (result_node P Q b a es ts) ≡ b
valid_result P Q true a es ts = refl
valid_result P Q false a es ts = refl

pub valid_shown : (P Q : Path) (s : Shown) (b : Bool) (a : Option (List Name)) (es : List Described) (ts : List Tree) → s ≡ shown b a es ts → is_valid (node_at P Q s) ≡ b
valid_shown P Q s b a es ts e = ap (λ r. is_valid (node_at P Q r)) e ∙ valid_result P Q b a es (trees_from ts)

-- ---- children

abbrev pub trees_wanted : List Wanted → List Tree
trees_wanted = map (λ w. w.0)

abbrev pub all_wanted : List Wanted → Bool
all_wanted = list_all (λ w. w.1)

pub like_children : (ws : List Wanted) (ts : List Tree) → AreShown ws ts → AreLikeTrees (trees_from (trees_wanted ws)) (trees_from ts)
like_children [] [] h = tt
like_children [] (t ∷ ts) h = absurd h
like_children (w ∷ ws) [] h = absurd h
like_children (w ∷ ws) (t ∷ ts) h = (h.0.like, like_children ws ts h.1)

pub all_valid : (ws : List Wanted) (ts : List Tree) → AreShown ws ts → list_all is_valid ts ≡ all_wanted ws
all_valid [] [] h = refl
all_valid [] (t ∷ ts) h = absurd h
all_valid (w ∷ ws) [] h = absurd h
all_valid (w ∷ ws) (t ∷ ts) h = λ i. h.0.verdict i && all_valid ws ts h.1 i

-- what is like a tree is valid where the tree is
pub all_wanted_valid : (ws : List Wanted) (ts : List Tree) → AreShown ws ts → list_all is_valid ts ≡ list_all is_valid (trees_wanted ws)
all_wanted_valid [] [] h = refl
all_wanted_valid [] (t ∷ ts) h = absurd h
all_wanted_valid (w ∷ ws) [] h = absurd h
all_wanted_valid (w ∷ ws) (t ∷ ts) h = λ i. same_validity w.0 t h.0.like i && all_wanted_valid ws ts h.1 i

pub told_emptiness : (ds es : List Described) → AreTold ds es → is_empty es ≡ is_empty ds
told_emptiness [] [] h = refl
told_emptiness [] (e ∷ es) h = absurd h
told_emptiness (d ∷ ds) [] h = absurd h
told_emptiness (d ∷ ds) (e ∷ es) h = refl

pub same_trees : (b : Bool) (ts : List Tree) → trees_wanted (map (λ t. (t, b)) ts) ≡ ts
same_trees b [] = refl
same_trees b (t ∷ ts) = ap (λ l. t ∷ l) (same_trees b ts)

-- what is wanted under other names
pub shown_as : {t u : Tree} {b c : Bool} {s : Tree} → IsShown (t, b) s → t ≡ u → b ≡ c → IsShown (u, c) s
shown_as {s = s} h e f = subst (λ w. IsShown w s) (λ i. (e i, f i)) h

-- a result with the annotation, the own errors and the children that are wanted
pub result_shown : (P Q : Path) (a : Option (List Name)) (refuses : Bool) (ds own : List Described) (ws : List Wanted) (cs : List Tree) {s : Shown}
    → s ≡ shown (is_empty own && not refuses && list_all is_valid cs) a own cs → AreTold ds own → AreShown ws cs
    → IsShown (result P Q a refuses ds (trees_wanted ws), is_empty ds && not refuses && all_wanted ws) (node_at P Q s)
result_shown P Q a refuses ds own ws cs {s} e told h = record {
  like = subst (λ r. IsLikeTree (result P Q a refuses ds (trees_wanted ws)) (node_at P Q r)) (sym e)
      (like_result P Q (is_empty ds && not refuses && list_all is_valid (trees_wanted ws)) (is_empty own && not refuses && list_all is_valid cs) a ds own
      (trees_from (trees_wanted ws)) (trees_from cs) (λ i. told_emptiness ds own told i && not refuses && all_wanted_valid ws cs h i) told (like_children ws cs h));
  verdict =
      valid_shown P Q s (is_empty own && not refuses && list_all is_valid cs) a own cs e
      ∙ (λ i. told_emptiness ds own told i && not refuses && all_valid ws cs h i);
}

-- ---- children more

pub no_children : (s : Shown) → with_children [] s ≡ s
no_children (shown b a es us) = λ i. shown (and-true b i) a es (append-nil us i)

pub more_children : (ts us : List Tree) (s : Shown) → with_children us (with_children ts s) ≡ with_children (ts ++ us) s
more_children ts us (shown b a es cs) = λ i. shown
    ((and_assoc b (list_all is_valid ts) (list_all is_valid us) ∙ ap (λ c. b && c) (sym (list_all-append is_valid ts us))) i) a es (append_assoc cs ts us i)

pub shown_append : (ws vs : List Wanted) (ts us : List Tree) → AreShown ws ts → AreShown vs us → AreShown (ws ++ vs) (ts ++ us)
shown_append [] vs [] us h k = k
shown_append [] vs (t ∷ ts) us h k = absurd h
shown_append (w ∷ ws) vs [] us h k = absurd h
shown_append (w ∷ ws) vs (t ∷ ts) us h k = (h.0, shown_append ws vs ts us h.1 k)

pub shows_none : (s : Shown) → ShowsMore [] s s
shows_none s = record { added = []; is = sym (no_children s); shown = tt }

pub shows_both : {ws vs : List Wanted} {a b c : Shown} → ShowsMore ws a b → ShowsMore vs b c → ShowsMore (ws ++ vs) a c
shows_both {ws} {vs} {a} h k = record {
  added = h.added ++ k.added;
  is = k.is ∙ ap (with_children k.added) h.is ∙ more_children h.added k.added a;
  shown = shown_append ws vs h.added k.added h.shown k.shown;
}

-- below a result that shows nothing yet
pub from_nothing : {ws : List Wanted} {s r : Shown} → s ≡ nothing_shown → (h : ShowsMore ws s r) → r ≡ shown (list_all is_valid h.added) None [] h.added
from_nothing none h = h.is ∙ ap (with_children h.added) none

-- of those that pass, one is next, or it is not among them
pub those_next : {X : Type 0} (f : X → Bool) {left rest : List X} {x : X} {b : Bool} → left ≡ x ∷ rest → b ≡ f x → filter_once f left ≡ put_if b x (filter_once f rest)
those_next f {rest = rest} {x} next e = ap (filter_once f) next ∙ ap (λ b. put_if b x (filter_once f rest)) (sym e)

-- ---- one child more

-- what is shown at places that have other names
pub shown_there : {w : Wanted} {P R Q S : Path} (s : Shown) → P ≡ R → Q ≡ S → IsShown w (node_at R S s) → IsShown w (node_at P Q s)
shown_there {w} s p q h = subst (IsShown w) (λ i. node_at (sym p i) (sym q i) s) h

-- a node that is made at a path, and put below
pub put_at : (P : Path) (s o : Shown) {Q R : Path} {r : Shown} {t : Tree} → t ≡ node_at P Q s → Q ≡ R → r ≡ with_children (t ∷ []) o → r ≡ with_children (node_at P R s ∷ []) o
put_at P s o made same added = added ∙ ap (λ t. with_children (t ∷ []) o) (made ∙ ap (λ Q. node_at P Q s) same)

pub shows_one : {w : Wanted} {t : Tree} {o r : Shown} → IsShown w t → r ≡ with_children (t ∷ []) o → ShowsMore (w ∷ []) o r
shows_one {t = t} h is = record { added = t ∷ []; is = is; shown = (h, tt) }

-- from what shows the same
pub shows_from : {ws : List Wanted} {o m r : Shown} → m ≡ o → ShowsMore ws m r → ShowsMore ws o r
shows_from {ws} {r = r} same h = subst (λ s. ShowsMore ws s r) same h

-- valid exactly if all children are
pub plain_shown : (P Q : Path) (ws : List Wanted) {cs : List Tree} {s : Shown} → AreShown ws cs → s ≡ shown (list_all is_valid cs) None [] cs
    → IsShown (plain P Q (trees_wanted ws), all_wanted ws) (node_at P Q s)
plain_shown P Q ws {cs} h e = result_shown P Q None false [] [] ws cs e tt h

-- where nothing is wanted
pub shows_nothing : (P Q : Path) {s : Shown} {t : Tree} {b : Bool} → s ≡ shown true None [] [] → t ≡ plain P Q [] → b ≡ true → IsShown (t, b) (node_at P Q s)
shows_nothing P Q h e f = shown_as (plain_shown P Q [] {cs = []} tt h) (sym e) (sym f)

module _ {N : Type 0} (t : N → Bool → Data → Path → Tree) (m : N → Data → Question) (u : Bool) (v : Data) (Q : Path) where
  pub branches_wanted : (ns : List N) → trees_wanted (each_wanted t m u ns v Q) ≡ branch_trees (λ n. t n u) v Q ns
  branches_wanted ns = map-map (λ w. w.0) (λ n. wanted t m u n v Q) ns

  every_wanted : (ns : List N) → all_wanted (each_wanted t m u ns v Q) ≡ (every (λ n. m n v) ns).accepts u
  every_wanted [] = refl
  every_wanted (n ∷ ns) = ap (λ b. (m n v).accepts u && b) (every_wanted ns)

  -- what each of these nodes shows, and nothing else
  abbrev pub ShowsEach : List N → Shown → Type 0
  ShowsEach ns s = (P : Path) → IsShown (plain P Q (branch_trees (λ n. t n u) v Q ns), (every (λ n. m n v) ns).accepts u) (node_at P Q s)

  pub shows_each : (ns : List N) {s r : Shown} → s ≡ nothing_shown → ShowsMore (each_wanted t m u ns v Q) s r → ShowsEach ns r
  shows_each ns none h P = shown_as (plain_shown P Q (each_wanted t m u ns v Q) h.shown (from_nothing none h)) (ap (plain P Q) (branches_wanted ns)) (every_wanted ns)

  -- where there is no branch
  pub shows_no_branch : (ns : List N) {s : Shown} → ns ≡ [] → s ≡ nothing_shown → ShowsEach ns s
  shows_no_branch ns {s} empty none = shows_each ns none (subst (λ l. ShowsMore (each_wanted t m u l v Q) s s) (sym empty) (shows_none s))

module _ {N : Type 0} (t : N → Bool → Data → Path → Tree) (m : N → Data → Question) (u : Bool) (n : N) (P Q : Path) where
  -- what is wanted of the names of members
  abbrev names_wanted : List (Name × Data) → List Wanted
  names_wanted = map (λ x. wanted t m u n (string x.0) Q)

  names_verdicts : (ms : List (Name × Data)) → all_wanted (names_wanted ms) ≡ (every (λ x. m n (string x.0)) ms).accepts u
  names_verdicts [] = refl
  names_verdicts (x ∷ ms) = ap (λ b. (m n (string x.0)).accepts u && b) (names_verdicts ms)

  -- a child for each name of w, which is v
  pub names_shown : (v w : Data) → w ≡ v → {s r : Shown} → s ≡ nothing_shown → ShowsMore (names_wanted (members w)) s r
      → IsShown (plain P Q (name_trees (λ k. t k u) v Q n), (every (λ x. m n (string x.0)) (members v)).accepts u) (node_at P Q r)
  names_shown v w same none h = shown_as (plain_shown P Q (names_wanted (members w)) h.shown (from_nothing none h))
      (ap (plain P Q) (map-map (λ x. x.0) (λ x. wanted t m u n (string x.0) Q) (members w)) ∙ ap (λ d. plain P Q (name_trees (λ k. t k u) d Q n)) same)
      (names_verdicts (members w) ∙ ap (λ d. (every (λ x. m n (string x.0)) (members d)).accepts u) same)

  -- where there is no member
  pub no_name_shown : (v : Data) → members v ≡ [] → (s : Shown) → ShowsMore (names_wanted (members v)) s s
  no_name_shown v none s = subst (λ ms. ShowsMore (names_wanted ms) s s) (sym none) (shows_none s)
