-- What holds `if`, with `then` and `else`.
use Rattle.std.proofs.Common.{◌≡◌, ◌≤◌, ℕ, ◌+◌, Bool, true, false, not, cond, ◌&&◌, ◌||◌, List, [], ◌∷◌, ◌++◌, map, codes, sum_by, is_some, Option, Some, None, option_to_list, IsPermutation, bytes_eq}
use Rattle.std.proofs.Common.{refl, sym, ◌∙◌, ap, subst, arith, append-nil, true≢false, subst₂}
use Rattle.std.specs.List.{list_all, flat_map}
use Rattle.std.specs.Option.{IfSome, IfNone}
use Rattle.std.proofs.lemmas.List.Sums.{sum_by-append, sum_by-cons}
use Rattle.std.proofs.Math.Bool.{or-true, and-true}
use Rattle.serde_json.specs.Data.{Data, Members}
use Rattle.olk_spec.specs.Names.{Name, Path, ◌//◌, lookup_name, put_if}
use Rattle.olk_spec.specs.Faults.{Fault, ◌∼◌, like_empty}
use Rattle.olk_spec.specs.Tree.{Tree, plain}
use Rattle.olk_base.specs.Kit.{Kit}
use Rattle.olk_tree.specs.Questions.{Question, always, conditional, of_asked}
use Rattle.olk_tree.specs.Shown.{branch_trees, if_tree}
use Rattle.olk_meaning.specs.Chosen.{if_form}
use Rattle.olk_meaning.specs.Members.{member_accepts, member_asks, member_report, member_child, member_standing}
use Rattle.olk_meaning.specs.Conditions.{is_condition}
use Rattle.olk_meaning.specs.Plans.{Planned, plan_of, is_case, tells_members, head, claims}
use Rattle.olk_meaning.proofs.Claims.{members_found, claims_condition, claims_itself, heads_elsewhere, never_taken}
use Rattle.olk_meaning.proofs.Facts.{all_there, sum_there, find_there}
use Rattle.olk_build.specs.Forms.{IsFormOfIf, IsIf}
use Rattle.olk_build.specs.Standing.{which, Covers, FillsPlace, is_taken}
use Rattle.olk_build.specs.Making.{KeywordsMean, MakesCondition, MakesPart}
use Rattle.olk_build.proofs.Choosing.{filled_as}
use Rattle.olk_build.proofs.Held.{question, shown, found}
use Rattle.olk_build.proofs.Together.{MeanClaim, claim_by_name, means_permuted, means_nothing}
use Rattle.olk_build.proofs.Formed.{last_stands, just_one_formed, case_formed, if_formed, stand_as, if_placed, case_as}
use Rattle.std.proofs.{lemmas.List.Folds.list_all-append, lemmas.Grind.flat_map-append}
use Rattle.olk_spec.specs.{Schemas.listed, Malformed.has_repeat}
use Rattle.olk_tree.specs.{Validators.answers_of, declared.node.KeywordOver.KeywordOver, Answers.Answers}
use Rattle.olk_meaning.proofs.{Listed.names_of, AdditionalProperties.either_way, Standing.if_stands, Rows.Rows}
use Rattle.olk_build.specs.{declared.part.Cases.Cases, declared.part.TakenNeighbours.TakenNeighbours}
use Rattle.olk_tree.specs.declared.node.KeywordOver.TheVariants as keyword
use Rattle.olk_meaning.proofs.Conditions as fact
use Rattle.olk_build.specs.declared.shape.Shape.TheVariants as shape
use Rattle.olk_meaning.specs.Steps.{accepts, asks, report, tree, validators}
use Rattle.olk_tree.specs.Steps.{StandsBy, StepsOf}

pub form_is_if : {K R N : Type 0} (L : Path) (n : N) (t e : Option N) (k : KeywordOver K R N) → IsFormOfIf L n t e k → IsIf L (is_some t) (is_some e) k
form_is_if L n (Some t) None (keyword.IfThen k) f = f.2
form_is_if L n None (Some e) (keyword.IfElse k) f = f.2
form_is_if L n (Some t) (Some e) (keyword.IfThenElse k) f = f.3
form_is_if L n t e k f = absurd f

pub if_of_form : {K R N : Type 0} (r : Option (KeywordOver K R N)) (L : Path) (n : N) (cs : Cases N) → IfSome r (IsFormOfIf L n cs.then_schema cs.else_schema)
    → IfSome r (IsIf L (is_some cs.then_schema) (is_some cs.else_schema))
if_of_form None L n cs f = tt
if_of_form (Some k) L n cs f = form_is_if L n cs.then_schema cs.else_schema k f

module _ {K R N : Type 0} {o : Kit K R} (I : StepsOf o) (answers : N → Answers) where
  -- ---- what stands where the condition says, or nothing

  abbrev Case : Path → N → Data → Type 0
  Case L n d = StandsBy I answers n d L

  filled_formed : (c : Option N) (a : Option Data) (L : Path) → FillsPlace (Case L) c a → case_formed I answers c ≡ true
  filled_formed None None L h = refl
  filled_formed (Some n) (Some d) L h = h.formed
  filled_formed _ _ L h = absurd h

  abbrev case_question : Option N → Data → Question
  case_question None v = always true
  case_question (Some n) v = (answers n).means v

  abbrev case_found : Bool → Option N → Data → Path → List Fault
  case_found u None v Q = []
  case_found u (Some n) v Q = (answers n).report u v Q

  module _ (L : Path) (n : N) where
    form_means : (t e : Option N) (k : KeywordOver K R N) → IsFormOfIf L n t e k → (v : Data) → question I answers k v ≡ conditional ((answers n).means v) (case_question t v) (case_question e v)
    unfolding answers_of
    form_means (Some t) None (keyword.IfThen k) f v = λ i. conditional ((answers (f.0 i)).means v) ((answers (f.1 i)).means v) (always true)
    form_means None (Some e) (keyword.IfElse k) f v = λ i. conditional ((answers (f.0 i)).means v) (always true) ((answers (f.1 i)).means v)
    form_means (Some t) (Some e) (keyword.IfThenElse k) f v = λ i. conditional ((answers (f.0 i)).means v) ((answers (f.1 i)).means v) ((answers (f.2 i)).means v)
    form_means t e k f v = absurd f

    form_finds : (t e : Option N) (k : KeywordOver K R N) → IsFormOfIf L n t e k → (u : Bool) (v : Data) (Q : Path) → found I answers u k v Q ≡ cond
        (((answers n).means v).accepts u) (case_found u t v Q) (case_found u e v Q)
    unfolding answers_of
    form_finds (Some t) None (keyword.IfThen k) f u v Q = λ i. cond (((answers (f.0 i)).means v).accepts u) ((answers (f.1 i)).report u v Q) []
    form_finds None (Some e) (keyword.IfElse k) f u v Q = λ i. cond (((answers (f.0 i)).means v).accepts u) [] ((answers (f.1 i)).report u v Q)
    form_finds (Some t) (Some e) (keyword.IfThenElse k) f u v Q = λ i. cond (((answers (f.0 i)).means v).accepts u) ((answers (f.1 i)).report u v Q) ((answers (f.2 i)).report u v Q)
    form_finds t e k f u v Q = absurd f

    form_shows : (t e : Option N) (k : KeywordOver K R N) → IsFormOfIf L n t e k → (u : Bool) (v : Data) (Q : Path) → shown I answers u k v Q ≡ if_tree
        (λ n. (answers n).tree u) v Q (((answers n).means v).accepts u) L n (option_to_list t) (option_to_list e)
    unfolding answers_of
    form_shows (Some t) None (keyword.IfThen k) f u v Q = λ i. if_tree (λ n. (answers n).tree u) v Q (((answers (f.0 i)).means v).accepts u) (f.2 i) (f.0 i) (f.1 i ∷ []) []
    form_shows None (Some e) (keyword.IfElse k) f u v Q = λ i. if_tree (λ n. (answers n).tree u) v Q (((answers (f.0 i)).means v).accepts u) (f.2 i) (f.0 i) [] (f.1 i ∷ [])
    form_shows (Some t) (Some e) (keyword.IfThenElse k) f u v Q = λ i. if_tree (λ n. (answers n).tree u) v Q (((answers (f.0 i)).means v).accepts u) (f.3 i) (f.0 i) (f.1 i ∷ []) (f.2 i ∷ [])
    form_shows t e k f u v Q = absurd f

  -- ---- what the schema there says, or nothing

  module _ (u : Bool) (v : Data) where
    abbrev case_verdict : Option Data → Bool
    case_verdict None = true
    case_verdict (Some d) = accepts I.steps u d v

    abbrev case_asked : Option Data → ℕ
    case_asked None = 0
    case_asked (Some d) = asks I.steps u d v

    abbrev case_report : Option Data → Path → Path → List Fault
    case_report None L Q = []
    case_report (Some d) L Q = report I.steps u d v L Q

    abbrev case_trees : Option Data → Path → Path → List Tree
    case_trees None L Q = []
    case_trees (Some d) L Q = tree I.steps u d v L Q ∷ []

    case_accepts : (t : Option N) (a : Option Data) (L : Path) → FillsPlace (Case L) t a → (case_question t v).accepts u ≡ case_verdict a
    case_accepts None None L h = refl
    case_accepts (Some n) (Some d) L h = h.verdict u v
    case_accepts _ _ L h = absurd h

    case_asks : (t : Option N) (a : Option Data) (L : Path) → FillsPlace (Case L) t a → (case_question t v).asks of_asked u ≤ case_asked a
    case_asks None None L h = omega arith
    case_asks (Some n) (Some d) L h = h.asks_within u v
    case_asks _ _ L h = absurd h

    case_finds : (t : Option N) (a : Option Data) (L Q : Path) → FillsPlace (Case L) t a → case_found u t v Q ∼ case_report a L Q
    case_finds None None L Q h = like_empty
    case_finds (Some n) (Some d) L Q h = h.faults u v Q
    case_finds _ _ L Q h = absurd h

    case_shows : (t : Option N) (a : Option Data) (L Q : Path) → FillsPlace (Case L) t a → branch_trees (λ n. (answers n).tree u) v Q (option_to_list t) ≡ case_trees a L Q
    case_shows None None L Q h = refl
    case_shows (Some n) (Some d) L Q h = ap (λ t. t ∷ []) (h.evaluation u v Q)
    case_shows _ _ L Q h = absurd h

    shown_where : (b : Bool) (a : Option Data) (L Q : Path) → fact.case_shown I.steps u v b L Q a ≡ cond b (case_trees a L Q) []
    shown_where true None L Q = refl
    shown_where false None L Q = refl
    shown_where true (Some d) L Q = refl
    shown_where false (Some d) L Q = refl

  -- ---- one of two, as what the test chooses

  one_verdict : (c x y : Bool) → cond c x y ≡ (cond c x true && cond (not c) y true)
  one_verdict true x y = sym (and-true x)
  one_verdict false x y = refl

  one_asked : (c : Bool) (n x y m a b : ℕ) → n ≤ m → x ≤ a → y ≤ b → n + cond c x y + 0 ≤ m + (cond c a 0 + cond (not c) b 0)
  one_asked true n x y m a b p q r = omega (arith, p, q)
  one_asked false n x y m a b p q r = omega (arith, p, r)

  one_found : (c : Bool) (x y a b : List Fault) → x ∼ a → y ∼ b → (cond c x y ++ []) ∼ (cond c a [] ++ cond (not c) b [])
  one_found true x y a b p q = subst₂ (λ l r. l ∼ r) (sym (append-nil x)) (sym (append-nil a)) p
  one_found false x y a b p q = subst (λ l. l ∼ b) (sym (append-nil y)) q

  one_shown : (c : Bool) (t : Tree) (x y : List Tree) → cond c (t ∷ x) y ≡ (put_if c t [] ++ cond c x [] ++ cond (not c) y [])
  one_shown true t x y = sym (append-nil (t ∷ x))
  one_shown false t x y = refl

  -- ---- the rows of the members that are there

  abbrev rows : Name → Option Data → Rows
  rows k a = map (λ d. (k, d)) (option_to_list a)

  module _ (ms : Members) (d : Data) (there : lookup_name (codes "if") (listed ms) ≡ Some d) where
    module _ (u : Bool) (v : Data) where
      abbrev tested : Bool
      tested = accepts I.steps u d v

      abbrev row_accepts : Name × Data → Bool
      row_accepts m = member_accepts I.steps ms m (which o ms m) u v

      abbrev row_asks : Name × Data → ℕ
      row_asks m = member_asks I.steps ms m (which o ms m) u v

      -- the keyword k asks what stands there where c holds
      module _ (k : Name) (c : Bool) (asked : (e : Data) → fact.AskedWhere I.steps ms u v c k e) where
        rows_accept : (a : Option Data) → list_all row_accepts (rows k a) ≡ cond c (case_verdict u v a) true
        rows_accept = all_there (λ e. (k, e)) row_accepts (λ a. cond c (case_verdict u v a) true) (sym (either_way c true)) (λ e. (asked e).verdict)

        rows_ask : (a : Option Data) → sum_by row_asks (rows k a) ≡ cond c (case_asked u v a) 0
        rows_ask = sum_there (λ e. (k, e)) row_asks (λ a. cond c (case_asked u v a) 0) (sym (either_way c 0)) (λ e. (asked e).asked)

        rows_report : (P Q : Path) (a : Option Data) → flat_map (λ m. member_report I.steps ms m (which o ms m) u v P Q) (rows k a) ≡ cond c (case_report u v a (P // k) Q) []
        rows_report P Q = find_there (λ e. (k, e)) (λ m. member_report I.steps ms m (which o ms m) u v P Q) (λ a. cond c (case_report u v a (P // k) Q) []) (sym (either_way c [])) (λ e. (asked e).faults P Q)

      then_asked : (e : Data) → fact.AskedWhere I.steps ms u v tested (codes "then") e
      then_asked e = fact.then_where I.steps ms u v e tested (fact.if_holds I.steps ms u v d there)

      else_asked : (e : Data) → fact.AskedWhere I.steps ms u v (not tested) (codes "else") e
      else_asked e = fact.else_where I.steps ms u v e (not tested) (fact.if_fails I.steps ms u v d there)

    -- ---- all three

    module _ (P : Path) (distinct : has_repeat (names_of (listed ms)) ≡ false) (read_here : is_condition ms ≡ true) where
      abbrev at_then : Option Data
      at_then = lookup_name (codes "then") (listed ms)

      abbrev at_else : Option Data
      at_else = lookup_name (codes "else") (listed ms)

      abbrev three : Rows
      three = (codes "if", d) ∷ rows (codes "then") at_then ++ rows (codes "else") at_else

      module _ (L : Path) (n : N) (t e : Option N) (k : KeywordOver K R N) (place : L ≡ P // codes "if") (form : IsFormOfIf L n t e k) (stands : StandsBy I answers n d L)
          (then_stands : FillsPlace (Case (P // codes "then")) t at_then) (else_stands : FillsPlace (Case (P // codes "else")) e at_else) where
        mean_together : Covers I answers ms (k ∷ []) three P
        mean_together = record {
          verdict = λ u v. and-true _ ∙ ap (λ q. q.accepts u) (form_means L n t e k form v)
              ∙ (λ i. cond (stands.verdict u v i) (case_accepts u v t _ _ then_stands i) (case_accepts u v e _ _ else_stands i))
              ∙ one_verdict (tested u v) (case_verdict u v at_then) (case_verdict u v at_else)
              ∙ (λ i. sym (rows_accept u v (codes "then") (tested u v) (then_asked u v) at_then) i && sym (rows_accept u v (codes "else") (not (tested u v)) (else_asked u v) at_else) i)
              ∙ sym (list_all-append (row_accepts u v) (rows (codes "then") at_then) (rows (codes "else") at_else));
          asks_within = λ u v.
              let q = ap (λ q. q.asks of_asked u) (form_means L n t e k form v) ∙ ap (λ b. ((answers n).means v).asks of_asked u + cond b ((case_question t v).asks of_asked u) ((case_question e v).asks of_asked u)) (stands.verdict u v) in
              let w = one_asked (tested u v) (((answers n).means v).asks of_asked u) ((case_question t v).asks of_asked u) ((case_question e v).asks of_asked u) (asks I.steps u d v) (case_asked u v at_then) (case_asked u v at_else) (stands.asks_within u v) (case_asks u v t _ _ then_stands) (case_asks u v e _ _ else_stands) in
              let s = sum_by-cons (row_asks u v) (codes "if", d) (rows (codes "then") at_then ++ rows (codes "else") at_else) in
              let r = sum_by-append (row_asks u v) (rows (codes "then") at_then) (rows (codes "else") at_else) in
              let i = fact.if_asks_beside I.steps ms u v d there read_here in
              let x = rows_ask u v (codes "then") (tested u v) (then_asked u v) at_then in
              let y = rows_ask u v (codes "else") (not (tested u v)) (else_asked u v) at_else in
              omega (arith, q, w, s, r, i, x, y);
          faults = λ u v Q. subst₂ (λ l r. l ∼ r)
              (ap (λ l. l ++ []) (sym (form_finds L n t e k form u v Q ∙ ap (λ b. cond b (case_found u t v Q) (case_found u e v Q)) (stands.verdict u v))))
              ((λ i. sym (rows_report u v (codes "then") (tested u v) (then_asked u v) P Q at_then) i ++ sym (rows_report u v (codes "else") (not (tested u v)) (else_asked u v) P Q at_else) i)
              ∙ sym (flat_map-append (λ m. member_report I.steps ms m (which o ms m) u v P Q) (rows (codes "then") at_then) (rows (codes "else") at_else)))
              (one_found (tested u v) _ _ _ _ (case_finds u v t _ _ Q then_stands) (case_finds u v e _ _ Q else_stands));
        }

        shown_together : (u : Bool) (v : Data) (Q : Path) → shown I answers u k v Q ∷ [] ≡ flat_map (λ m. member_child I.steps ms m (which o ms m) u v P Q) ((codes "if", d) ∷ [])
        shown_together u v Q = ap (λ t. t ∷ []) (form_shows L n t e k form u v Q
            ∙ (λ i. plain (place i) Q (cond (stands.verdict u v i) (subst_tree u v Q i ∷ case_shows u v t _ _ Q then_stands i)
            (case_shows u v e _ _ Q else_stands i)))
            ∙ ap (plain (P // codes "if") Q) (one_shown (tested u v) (tree I.steps u d v (P // codes "if") Q) (case_trees u v at_then (P // codes "then") Q)
            (case_trees u v at_else (P // codes "else") Q)
            ∙ (λ i. put_if (tested u v) (tree I.steps u d v (P // codes "if") Q) [] ++ sym (shown_where u v (tested u v) at_then (P // codes "then") Q) i ++ sym (shown_where u v (not (tested u v)) at_else (P // codes "else") Q) i)))
            ∙ sym (append-nil _ ∙ fact.if_shows_beside I.steps ms u v d read_here P Q)
          where
            subst_tree : (u : Bool) (v : Data) (Q : Path) → (answers n).tree u v Q ≡ tree I.steps u d v (P // codes "if") Q
            subst_tree u v Q = stands.evaluation u v Q ∙ ap (λ M. tree I.steps u d v M Q) place

        placed_together : flat_map (stand_as I answers) (k ∷ []) ≡ flat_map (λ m. member_standing I.steps ms m (which o ms m) P) ((codes "if", d) ∷ [])
        placed_together = append-nil (stand_as I answers k) ∙ if_placed I answers L n t e k form
            ∙ (λ i. (place i, if_form (filled_as _ t _ then_stands i) (filled_as _ e _ else_stands i))
            ∷ ((stands.forms ∙ ap (validators I.steps d) place) i ++ case_as I answers t _ _ then_stands i ++ case_as I answers e _ _ else_stands i))
            ∙ sym (append-nil _ ∙ if_stands I.steps ms P d read_here)

        -- `if` means itself, `then` and `else`
        pub means_condition : (p : Planned) → p.condition ≡ true → MeanClaim I answers ms p (k ∷ []) (codes "if", d) P
        means_condition p plans = means_permuted I answers ms P (k ∷ []) three (claims (head p) (listed ms) (codes "if", d)) ((codes "if", d) ∷ [])
            (subst (λ l. IsPermutation l (claims (head p) (listed ms) (codes "if", d)))
            (λ i. (codes "if", d) ∷ members_found ms distinct (codes "then") at_then refl i ++ members_found ms distinct (codes "else") at_else refl i)
            (claims_condition ms distinct p plans d there)) (record {
              covers = mean_together;
              shows = λ clean u v Q. shown_together u v Q;
              formed = just_one_formed I answers k (if_formed I answers L n t e k form stands.formed (filled_formed t _ _ then_stands)
                  (filled_formed e _ _ else_stands));
              forms = λ clean. placed_together;
            })

  -- ---- what is made of the nodes

  none_stands : (a : Option Data) (L : Path) → FillsPlace (Case L) None a → a ≡ None
  none_stands None L h = refl
  none_stands (Some d) L h = absurd h

  pub makes_condition : (k : KeywordOver K R N) (L : Path) (n : N) (cs : Cases N) → IsFormOfIf L n cs.then_schema cs.else_schema k → MakesCondition I answers L n cs (k ∷ [])
  makes_condition k L n cs form ms d P place stands cases distinct there read_here =
      means_condition ms d there P distinct read_here L n cs.then_schema cs.else_schema k place form stands cases.0 cases.1 (plan_of ms) read_here

  -- where there is neither, `if` is not read
  pub makes_no_condition : (L : Path) (n : N) (cs : Cases N) → cs.then_schema ≡ None → cs.else_schema ≡ None → MakesCondition I answers L n cs []
  makes_no_condition L n cs p q ms d P place stands cases distinct there read_here =
      let a = none_stands _ (P // codes "then") (subst (λ t. FillsPlace (Case (P // codes "then")) t (lookup_name (codes "then") (listed ms))) p cases.0) in
      let b = none_stands _ (P // codes "else") (subst (λ t. FillsPlace (Case (P // codes "else")) t (lookup_name (codes "else") (listed ms))) q cases.1) in
      absurd (true≢false (sym read_here ∙ (λ i. is_some (there i) && (is_some (a i) || is_some (b i)))))

  pub makes_if : (r : Option (KeywordOver K R N)) (L : Path) (n : N) (cs : Cases N) → IfNone r (cs.then_schema ≡ None) → IfNone r (cs.else_schema ≡ None)
      → IfSome r (IsFormOfIf L n cs.then_schema cs.else_schema) → MakesCondition I answers L n cs (option_to_list r)
  makes_if None L n cs p q form = makes_no_condition L n cs p q
  makes_if (Some k) L n cs p q form = makes_condition k L n cs form

  -- the part of `if`, whose node this is
  pub part_of_if : {L P : Path} {n : N} {ks : List (KeywordOver K R N)} {p : Planned} (before ns : List N) (t : TakenNeighbours R N) → ns ≡ before ++ n ∷ []
      → MakesCondition I answers L n t.cases ks → MakesPart I answers shape.If L ns t P p ks
  part_of_if before ns t split make ms m place named fits stand cases beside distinct there chosen untaken =
      claim_by_name I answers named chosen place there (λ at_if found. make ms m.1 _ at_if (last_stands I answers before split stand) (cases refl) distinct found fits)

  case_is_taken : (p : Planned) (ms : Members) (k : Name) → is_case k ≡ true → is_condition ms ≡ true → p ≡ plan_of ms → is_taken p k ≡ false → {X : Type 0} → X
  case_is_taken p ms k case fits chosen untaken =
      absurd (true≢false (sym ((λ i. (p.restricted && tells_members k) || (ap (λ q. q.condition) chosen ∙ fits) i && case i) ∙ or-true (p.restricted && tells_members k)) ∙ untaken))

  module _ {L P : Path} {ks : List (KeywordOver K R N)} {p : Planned} (ns : List N) (t : TakenNeighbours R N) where
    -- what `if` takes does not stay
    pub part_of_then : MakesPart I answers shape.Then L ns t P p ks
    part_of_then ms m place named fits stand cases beside distinct there chosen untaken = case_is_taken p ms (codes "then") refl fits chosen (ap (is_taken p) (sym named) ∙ untaken)

    pub part_of_else : MakesPart I answers shape.Else L ns t P p ks
    part_of_else ms m place named fits stand cases beside distinct there chosen untaken = case_is_taken p ms (codes "else") refl fits chosen (ap (is_taken p) (sym named) ∙ untaken)

  -- none of the three has a keyword of its own where `if` is not read
  pub part_of_unpaired : {L P : Path} {p : Planned} (ns : List N) (t : TakenNeighbours R N) → MakesPart I answers shape.Unpaired L ns t P p []
  part_of_unpaired {L} {P} ns t ms m place named fits stand cases beside distinct there chosen untaken =
      let nothing = fact.unpaired_means_nothing I.steps ms m named fits (ap is_some there) in
      subst (λ q. MeanClaim I answers ms q [] m P) (sym chosen) (subst (λ rows. KeywordsMean I answers ms [] rows (m ∷ []) P) (sym
      (claims_itself ms distinct (head (plan_of ms)) m (heads_elsewhere (plan_of ms) m.0 (apart_from (codes "properties") refl refl refl)
      (apart_from (codes "required") refl refl refl) (λ e. absurd (true≢false (sym e ∙ fits)))
      (never_taken (plan_of ms) m.0 (apart_from (codes "additionalProperties") refl refl refl) (apart_from (codes "properties") refl refl refl) (apart_from
      (codes "patternProperties") refl refl refl) (apart_from (codes "required") refl refl refl))) there)) (means_nothing I answers ms P m nothing))
    where
      apart_from : (n : Name) → bytes_eq n (codes "if") ≡ false → bytes_eq n (codes "then") ≡ false → bytes_eq n (codes "else") ≡ false → bytes_eq n m.0 ≡ false
      apart_from n a b c = fact.of_conditional (λ k. bytes_eq n k ≡ false) a b c m.0 named
