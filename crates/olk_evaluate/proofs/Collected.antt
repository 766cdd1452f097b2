-- What is collected of members, one after another.
use Rattle.std.proofs.Common.{◌≡◌, ℕ, Bor, ◌+◌, Bool, true, false, not, ◌&&◌, ◌||◌, cond, List, [], ◌∷◌, ◌++◌, map, Option, Some, None, is_none, is_some, option_map, option_to_list, drop, append_assoc, refl, sym, ap, subst, ◌∙◌}
use Rattle.std.proofs.lemmas.List.{append-nil}
use Rattle.serde_json.specs.Data.{Data}
use Rattle.olk_spec.specs.Names.{Name, Path, put_if, is_empty}
use Rattle.olk_spec.specs.World.{Says, reads_as}
use Rattle.olk_spec.specs.Tree.{Tree}
use Rattle.olk_base.specs.Lawful.{Asking}
use Rattle.olk_base.specs.Compiled.{pattern_answers}
use Rattle.olk_base.specs.declared.pattern.CompiledPattern.{CompiledPattern}
use Rattle.olk_tree.specs.Questions.{Question}
use Rattle.olk_tree.specs.Additional.{Sides, known_at, known_or, is_matched_by, matching_from}
use Rattle.olk_reports.specs.Evaluations.{Shown}
use Rattle.olk_evaluate.specs.Wanted.{Wanted, ShowsMore}
use Rattle.olk_evaluate.specs.Additional.{Found, Collects, CollectsMore, names_of, nodes_wanted, member_found}
use Rattle.olk_evaluate.specs.declared.additional_members.Collected.{Collected}
use Rattle.olk_evaluate.specs.Shows.{Kept}
use Rattle.olk_evaluate.proofs.Children.{shows_none, shows_both}
use Rattle.olk_check.specs.Asks.{IsAnswer}
use Rattle.olk_check.proofs.Asked.{answer_first, answer_then}
use Rattle.olk_evaluate.proofs.Shows.{kept_then, as_before}

abbrev pub nothing_found : Found
nothing_found = record { wanted = []; additional = []; matched = [] }

abbrev pub both_found : Found → Found → Found
both_found f g = record { wanted = f.wanted ++ g.wanted; additional = f.additional ++ g.additional; matched = f.matched ++ g.matched }

pub collects_nothing : (a : Collected) (s : Shown) → CollectsMore nothing_found a a s s
collects_nothing a s = record { additional = sym (append-nil (names_of a.additional.items)); matched = sym (append-nil (names_of a.matched.items)); shown = shows_none s }

-- one more list behind two
behind : {X : Type 0} {all before : List X} (xs ys zs : List X) → before ≡ xs ++ ys → all ≡ before ++ zs → all ≡ xs ++ (ys ++ zs)
behind xs ys zs h k = k ∙ ap (λ l. l ++ zs) h ∙ append_assoc xs ys zs

pub collects_both : {f g : Found} {a b c : Collected} {s r q : Shown} → CollectsMore f a b s r → CollectsMore g b c r q → CollectsMore (both_found f g) a c s q
collects_both {f} {g} {a} h k = record {
  additional = behind (names_of a.additional.items) f.additional g.additional h.additional k.additional;
  matched = behind (names_of a.matched.items) f.matched g.matched h.matched k.matched;
  shown = shows_both h.shown k.shown;
}

-- ---- what is left adds up to all

pub record Grows (all left : Found) (old new : Collected) (s r : Shown) : Type 0 where
  pub goes_on : (end : Collected) (q : Shown) → CollectsMore left new end r q → CollectsMore all old end s q

module _ {all : Found} {a b : Collected} {s r : Shown} where
  grows_more : {left rest : Found} {c : Collected} {q : Shown} (here : Found) → both_found here rest ≡ left → Grows all left a b s r → CollectsMore here b c r q → Grows all rest a c s q
  grows_more here parts h k = record { goes_on = λ end e l. h.goes_on end e (subst (λ f. CollectsMore f b end r e) parts (collects_both k l)) }

  grows_last : {left : Found} {c : Collected} {q : Shown} (here : Found) → left ≡ here → Grows all left a b s r → CollectsMore here b c r q → CollectsMore all a c s q
  grows_last {c = c} {q} here last h k = h.goes_on c q (subst (λ f. CollectsMore f b c r q) (sym last) k)

-- what is collected from nothing
pub collects_all : {f : Found} {a b : Collected} {o s r : Shown} → a.additional.items ≡ [] → a.matched.items ≡ [] → CollectsMore f a b s r → ShowsMore f.wanted o r → Collects f b o r
collects_all {f} no_name no_match h shown = record {
  additional = h.additional ∙ ap (λ l. names_of l ++ f.additional) no_name;
  matched = h.matched ∙ ap (λ l. names_of l ++ f.matched) no_match;
  shown = shown;
}

-- ---- a member

-- a member, and what speaks of it
pub record Member (R N : Type 0) : Type 0 where
  pub answers : R → Name → Says
  pub tree : N → Bool → Data → Path → Tree
  pub means : N → Data → Question
  pub asking : Asking
  pub path : Path
  pub sides : Sides R N
  pub named : Bool
  pub declared : Option (ℕ × N)
  pub name : Name
  pub value : Data

module _ {R N : Type 0} (w : Member R N) (u : Bool) where
  abbrev pub all_found : Found
  all_found = member_found w.answers w.tree w.means u w.path w.sides w.named w.declared w.name w.value

  abbrev wanted_of : List N → List Wanted
  wanted_of = nodes_wanted w.tree w.means u w.path w.name w.value

  -- what is declared at its name
  abbrev pub declared_here : Found
  declared_here = record { wanted = wanted_of (option_to_list (option_map (λ f. f.1) w.declared)); additional = []; matched = [] }

  -- a pattern's node, if the pattern matches
  abbrev pub match_here : N → Bool → Found
  match_here e b = record { wanted = wanted_of (put_if b e []); additional = []; matched = cond w.named (put_if b w.name []) [] }

  -- the rest, where nothing else speaks of it
  abbrev pub rest_here : Found
  rest_here = record { wanted = wanted_of (option_to_list w.sides.rest); additional = w.name ∷ []; matched = [] }

  -- what is left, where these nodes are asked and something else speaks of it or nothing does
  abbrev left_with : Bool → Bool → List N → Found
  left_with shows spoken ns = record {
    wanted = wanted_of (ns ++ cond (not spoken && is_empty ns) (option_to_list w.sides.rest) []);
    additional = put_if (not spoken && is_empty ns) w.name [];
    matched = cond shows (map (λ e. w.name) ns) [];
  }

  abbrev matching : ℕ → List (CompiledPattern R × N) → List N
  matching i es = matching_from w.answers w.sides w.declared w.name u i es

  -- what is left from a pattern on
  abbrev pub patterns_left : Bool → ℕ → List (CompiledPattern R × N) → Found
  patterns_left spoken i es = left_with w.named spoken (matching i es)

  pub after_declared : both_found declared_here (patterns_left (is_some w.declared) 0 w.sides.patterns) ≡ all_found
  after_declared = by w.declared (matching 0 w.sides.patterns)
    where
      by : (d : Option (ℕ × N)) (ns : List N) → both_found (record { wanted = wanted_of (option_to_list (option_map (λ f. f.1) d)); additional = []; matched = [] })
          (left_with w.named (is_some d) ns)
          ≡ record {
            wanted = wanted_of (option_to_list (option_map (λ f. f.1) d) ++ (ns ++ cond (is_none d && is_empty ns) (option_to_list w.sides.rest) []));
            additional = put_if (is_none d && is_empty ns) w.name [];
            matched = cond w.named (map (λ e. w.name) ns) [];
          }
      by None ns = refl
      by (Some f) ns = refl

  match_or_not : (shows spoken b : Bool) (e : N) (ns : List N)
      → both_found (record { wanted = wanted_of (put_if b e []); additional = []; matched = cond shows (put_if b w.name []) [] }) (left_with shows (spoken || b) ns) ≡ left_with shows spoken (put_if b e ns)
  match_or_not true true true e ns = refl
  match_or_not true true false e ns = refl
  match_or_not true false true e ns = refl
  match_or_not true false false e ns = refl
  match_or_not false true true e ns = refl
  match_or_not false true false e ns = refl
  match_or_not false false true e ns = refl
  match_or_not false false false e ns = refl

  left_at_end : (shows : Bool) → left_with shows true [] ≡ nothing_found
  left_at_end true = refl
  left_at_end false = refl

  rest_at_end : (shows : Bool) → left_with shows false [] ≡ rest_here
  rest_at_end true = refl
  rest_at_end false = refl

  module _ (spoken : Bool) (i : ℕ) {es : List (CompiledPattern R × N)} where
    pub after_pattern : {e : CompiledPattern R × N} {more : List (CompiledPattern R × N)} {b : Bool} → es ≡ e ∷ more → b ≡ is_matched_by w.answers
        w.sides w.declared w.name u i e.0 → both_found (match_here e.1 b) (patterns_left (spoken || b) (i + 1) more) ≡ patterns_left spoken i es
    after_pattern {e} {more} {b} next is = match_or_not w.named spoken b e.1 (matching (i + 1) more)
        ∙ ap (λ c. left_with w.named spoken (put_if c e.1 (matching (i + 1) more))) is
        ∙ ap (patterns_left spoken i) (sym next)

    pub spoken_of : es ≡ [] → spoken ≡ true → patterns_left spoken i es ≡ nothing_found
    spoken_of none is = ap (patterns_left spoken i) none ∙ ap (λ b. left_with w.named b []) is ∙ left_at_end w.named

    pub left_to_rest : es ≡ [] → spoken ≡ false → patterns_left spoken i es ≡ rest_here
    left_to_rest none is = ap (patterns_left spoken i) none ∙ ap (λ b. left_with w.named b []) is ∙ rest_at_end w.named

-- what is declared and the patterns before i are done
pub record OnTheWay {R N : Type 0} (w : Member R N) (spoken : Bool) (i : ℕ) (P : Path) (b : Asking) (old new : Collected) (s r : Shown) : Type 0 where
  pub kept : Kept w.path P w.asking b
  pub grows : (u : Bool) → IsAnswer w.asking b u → Grows (all_found w u) (patterns_left w u spoken i (drop i w.sides.patterns)) old new s r

module _ {R N : Type 0} {w : Member R N} {s r : Shown} where
  pub declared_done : {spoken : Bool} {P : Path} {b : Asking} {old : Collected} → spoken ≡ is_some w.declared
      → ((u : Bool) → IsAnswer w.asking b u → ShowsMore (nodes_wanted w.tree w.means u w.path w.name w.value (option_to_list (option_map (λ f. f.1) w.declared))) s r)
      → Kept w.path P w.asking b → OnTheWay w spoken 0 P b old old s r
  declared_done {old = old} is shown kept = record {
    kept = kept;
    grows = λ u so. grows_more (declared_here w u) (ap (λ s. both_found (declared_here w u) (patterns_left w u s 0 w.sides.patterns)) is ∙ after_declared w u) (record { goes_on = λ end q k. k })
        (record { additional = sym (append-nil (names_of old.additional.items)); matched = sym (append-nil (names_of old.matched.items)); shown = shown u so });
  }

  module _ {spoken : Bool} {i : ℕ} {P : Path} {b : Asking} {old new : Collected} (loop : OnTheWay w spoken i P b old new s r) where
    name_if : (shows matches : Bool) → cond (matches && shows) (w.name ∷ []) [] ≡ cond shows (put_if matches w.name []) []
    name_if true true = refl
    name_if true false = refl
    name_if false true = refl
    name_if false false = refl

    pub pattern_done : {e : CompiledPattern R × N} {known : Says} {matches : Bool} {S : Path} {c : Asking} {newer : Collected} {q : Shown}
        → drop i w.sides.patterns ≡ e ∷ drop (i + 1) w.sides.patterns → known ≡ known_at w.sides w.declared i
        → ((u : Bool) → IsAnswer b c u → matches ≡ reads_as u (known_or known (pattern_answers w.answers e.0 w.name)))
        → ((u : Bool) → IsAnswer b c u → ShowsMore (nodes_wanted w.tree w.means u P w.name w.value (put_if matches e.1 [])) r q)
        → newer.additional.items ≡ new.additional.items → names_of newer.matched.items ≡ names_of new.matched.items ++ cond (matches && w.named) (w.name ∷ []) []
        → Kept P S b c → OnTheWay w (spoken || matches) (i + 1) S c old newer s q
    pattern_done {e} {known} {matches} {q = q} next is verdict found same names kept = record {
      kept = kept_then loop.kept kept;
      grows = λ u so. let now = answer_then loop.kept.only kept.only so in grows_more (match_here w u e.1 matches)
          (after_pattern w u spoken i next (verdict u now ∙ (λ j. reads_as u (known_or (is j) (pattern_answers w.answers e.0 w.name)))))
          (loop.grows u (answer_first loop.kept.only kept.only so)) (record {
            additional = ap names_of same ∙ sym (append-nil (names_of new.additional.items));
            matched = names ∙ ap (λ l. names_of new.matched.items ++ l) (name_if w.named matches);
            shown = as_before (λ Q. ShowsMore (nodes_wanted w.tree w.means u Q w.name w.value (put_if matches e.1 [])) r q) loop.kept (found u now);
          });
    }

    pub patterns_done : {u : Bool} → drop i w.sides.patterns ≡ [] → spoken ≡ true → IsAnswer w.asking b u → CollectsMore (all_found w u) old new s r
    patterns_done {u} none is so = grows_last nothing_found (spoken_of w u spoken i none is) (loop.grows u so) (collects_nothing new r)

    pub rest_done : {u : Bool} {newer : Collected} {q : Shown} → drop i w.sides.patterns ≡ [] → spoken ≡ false
        → names_of newer.additional.items ≡ names_of new.additional.items ++ w.name ∷ [] → newer.matched.items ≡ new.matched.items
        → IsAnswer w.asking b u → ShowsMore (nodes_wanted w.tree w.means u P w.name w.value (option_to_list w.sides.rest)) r q → CollectsMore (all_found w u) old newer s q
    rest_done {u} {q = q} none is name same so found = grows_last (rest_here w u) (left_to_rest w u spoken i none is) (loop.grows u so) (record {
      additional = name;
      matched = ap names_of same ∙ sym (append-nil (names_of new.matched.items));
      shown = as_before (λ Q. ShowsMore (nodes_wanted w.tree w.means u Q w.name w.value (option_to_list w.sides.rest)) r q) loop.kept found;
    })

-- what stands at a name, as it is lent and as it is
pub same_nodes : {N : Type 0} (d : Option (ℕ × Bor N)) → option_to_list (option_map (λ f. f.1.now) d) ≡ option_to_list (option_map {T = ℕ × N} (λ f. f.1) (option_map (λ f. (f.0, f.1.now)) d))
same_nodes None = refl
same_nodes (Some f) = refl
