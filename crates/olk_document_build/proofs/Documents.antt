-- A document, and the places that its references name, round by round: what stands for each, and what is told of it.
use Rattle.std.proofs.Common.{◌≡◌, ◌≢◌, ℕ, zero, suc, ◌+◌, ◌<◌, ◌≤◌, ◌⊎◌, inl, inr, ⊎_elim, Bool, true, false, cond, List, [], ◌∷◌, ◌++◌, map, drop, length, Contains, Option, Some, None, option_map, option_to_list, refl, sym, ◌∙◌, ap, subst, arith, append-nil}
use Rattle.std.specs.List.{flat_map}
use Rattle.std.proofs.lemmas.List.Elements.{Contains-append_left, Contains-append_right, Contains-append_cases}
use Rattle.serde_json.specs.Data.{Data}
use Rattle.olk_spec.specs.Names.{Text}
use Rattle.olk_spec.specs.Faults.{Fault}
use Rattle.olk_spec.specs.World.{World}
use Rattle.olk_spec.specs.Schemas.{answer_for}
use Rattle.olk_spec.proofs.Each.{Each, Each-any, Each-implies, Each-flat_map}
use Rattle.olk_base.specs.Count.{Counts}
use Rattle.olk_base.specs.Kit.{Kit}
use Rattle.olk_reports.specs.declared.error.BuildError.{BuildError}
use Rattle.olk_meaning.specs.Steps.{meaning, malformations_at, validators}
use Rattle.olk_build.specs.Building.{IsBuilt}
use Rattle.olk_build.specs.Refusing.{TellsOneOf}
use Rattle.olk_build.proofs.Spending.{tells}
use Rattle.olk_document_spec.specs.Documents.{place_named, targets, reference_limit}
use Rattle.olk_document_spec.specs.Malformed.{references_read, malformations_under, malformed_targets, document_malformations}
use Rattle.olk_document_spec.specs.Steps.{meaning_under}
use Rattle.olk_documents.specs.Nodes.{answers}
use Rattle.olk_documents.specs.declared.node.DocumentNode.{DocumentNode}
use Rattle.olk_document_meaning.specs.Places.{Referred, document_standing_step, standing_targets}
use Rattle.olk_document_meaning.proofs.Document_steps.{followed}
use Rattle.olk_document_meaning.proofs.References.{IsToldBy, clean_carried, told_carried, not_followed_by_either, nothing_is_told, place_told}
use Rattle.olk_document_build.specs.Documents.{told, references_behind, faults_behind, StandsFrom, AreTargets, IsDocument}
use Rattle.olk_document_build.specs.Kits.{document_of}
use Rattle.olk_document_build.specs.Targets.{target_of, IsTarget, StandsUnder, TargetsStand}
use Rattle.olk_document_build.specs.declared.targets.Targets.{Targets}

-- ---- lists

module _ {X : Type 0} where
  pub nothing_there : (x : X) → Contains [] x → ⊥
  nothing_there x c = let l = c.1 in absurd (omega arith)

  pub Each-contains : (xs : List X) → Each (Contains xs) xs
  Each-contains [] = tt
  Each-contains (x ∷ xs) = ((0, omega arith, refl), Each-implies (Contains xs) (Contains (x ∷ xs)) (λ y c. Contains-append_right (x ∷ []) xs y c) xs (Each-contains xs))

  pub contained_each : (P : X → Type 0) (xs : List X) → Each P xs → (x : X) → Contains xs x → P x
  contained_each P [] h x c = absurd (nothing_there x c)
  contained_each P (y ∷ ys) h x (zero, l, e) = subst P e h.0
  contained_each P (y ∷ ys) h x (suc k, l, e) = contained_each P ys h.1 x (k, omega arith, e)

module _ {X Y : Type 0} where
  -- what is there for one of them is there for all
  pub Contains-flat_map : (f : X → List Y) (xs : List X) (x : X) (y : Y) → Contains xs x → Contains (f x) y → Contains (flat_map f xs) y
  Contains-flat_map f xs x y c d = contained_each (λ z. Contains (f z) y → Contains (flat_map f xs) y) xs (every xs) x c d
    where
      every : (zs : List X) → Each (λ z. Contains (f z) y → Contains (flat_map f zs) y) zs
      every [] = tt
      every (z ∷ zs) = (
        Contains-append_left (f z) (flat_map f zs) y,
        Each-implies _ _ (λ w h c. Contains-append_right (f z) (flat_map f zs) y (h c)) zs (every zs),
      )

  -- what is there for all is there for one of them
  pub from_each : (P : Y → Type 0) (f : X → List Y) (xs : List X) → Each (λ x. (y : Y) → Contains (f x) y → P y) xs → (y : Y) → Contains (flat_map f xs) y → P y
  from_each P f [] h y c = absurd (nothing_there y c)
  from_each P f (x ∷ xs) h y c = ⊎_elim (h.0 y) (from_each P f xs h.1 y) (Contains-append_cases (f x) (flat_map f xs) y c)

-- ---- what is told of references

module _ (W : World) (D : Data) where
  -- what is told of a reference is told of the schema that it is read in
  told_where_read : (k : ℕ) (d : Data) (P : Text) (f : Fault) → Contains (faults_behind W D k (references_read W d)) f → Contains (malformations_under W (malformed_targets W D k) d P) f
  told_where_read k d P = from_each (Contains (malformations_under W (malformed_targets W D k) d P)) (λ t. told (malformed_targets W D k t)) (references_read W d)
      (Each-implies _ _ (λ t h. each t h (malformed_targets W D k t) refl) (references_read W d) (place_told W (malformed_targets W D k) d P))
    where
      each : (t : Text) → ((fs : List Fault) → malformed_targets W D k t ≡ Some fs → (f : Fault) → Contains fs f → Contains (malformations_under W (malformed_targets W D k) d P) f)
          → (r : Option (List Fault)) → malformed_targets W D k t ≡ r → (f : Fault) → Contains (told r) f → Contains (malformations_under W (malformed_targets W D k) d P) f
      each t h None e f c = absurd (nothing_there f c)
      each t h (Some fs) e f c = h fs e f c

  -- what is wrong at a place, where the references in it are followed so many times
  at_its_place : (k : ℕ) (t : Text) {d : Data} → place_named D t ≡ Some d → malformed_targets W D (suc k) t ≡ Some (malformations_under W (malformed_targets W D k) d (drop 1 t))
  unfolding malformed_targets
  at_its_place k t e = ap (option_map (λ d. malformations_under W (malformed_targets W D k) d (drop 1 t))) e

  pub at_no_place : (k : ℕ) (t : Text) → place_named D t ≡ None → malformed_targets W D k t ≡ None
  unfolding malformed_targets
  at_no_place zero t e = refl
  at_no_place (suc k) t e = ap (option_map (λ d. malformations_under W (malformed_targets W D k) d (drop 1 t))) e

  module _ (ts : List Text) {t : Text} (c : Contains ts t) {d : Data} (e : place_named D t ≡ Some d) where
    told_of_place : (k : ℕ) (f : Fault) → Contains (malformations_under W (malformed_targets W D k) d (drop 1 t)) f → Contains (faults_behind W D (suc k) ts) f
    told_of_place k f m = Contains-flat_map (λ s. told (malformed_targets W D (suc k) s)) ts t f c (subst (λ r. Contains (told r) f) (sym (at_its_place k t e)) m)

    read_behind : (s : Text) → Contains (references_read W d) s → Contains (references_behind W D ts) s
    read_behind s m = Contains-flat_map (λ s. flat_map (references_read W) (option_to_list (place_named D s))) ts t s c
        (subst (λ r. Contains (flat_map (references_read W) (option_to_list r)) s) (sym e) (Contains-append_left (references_read W d) [] s m))

  -- what is told of the references behind some texts is told of these
  pub told_before : (k : ℕ) (ts : List Text) (f : Fault) → Contains (faults_behind W D k (references_behind W D ts)) f → Contains (faults_behind W D (suc k) ts) f
  told_before k ts = from_each (Contains (faults_behind W D (suc k) ts)) (λ s. told (malformed_targets W D k s)) (references_behind W D ts)
      (Each-flat_map Told (λ t. flat_map (references_read W) (option_to_list (place_named D t))) ts
      (Each-implies (Contains ts) _ (λ t c. each t c (place_named D t) refl) ts (Each-contains ts)))
    where
      Told : Text → Type 0
      Told s = (f : Fault) → Contains (told (malformed_targets W D k s)) f → Contains (faults_behind W D (suc k) ts) f

      each : (t : Text) → Contains ts t → (r : Option Data) → place_named D t ≡ r → Each Told (flat_map (references_read W) (option_to_list r))
      each t c None e = tt
      each t c (Some d) e = Each-flat_map Told (references_read W) (d ∷ []) (
        Each-implies (Contains (references_read W d)) Told
            (λ s m f g. told_of_place ts c e k f (told_where_read k d (drop 1 t) f (Contains-flat_map (λ s. told (malformed_targets W D k s)) (references_read W d) s f m g)))
            (references_read W d) (Each-contains (references_read W d)),
        tt,
      )

-- ---- by the targets that there are

module _ {K R : Type 0} (o : Kit K R) (D : Data) where
  abbrev W : World
  W = o.world

  -- what references name, as far as there are targets, where they are followed so many times
  abbrev pub known : Targets K R → ℕ → Referred
  known T m = record {
    means = (followed W D m).means;
    refuses = λ t. option_map (λ n. []) (target_of T t);
    stands = (followed W D m).stands;
    of_a_name = (followed W D m).of_a_name;
  }

  module _ {k : ℕ} {ts : List Text} {T : Targets K R} (h : AreTargets o D k ts T) where
    -- the targets stand for that
    pub known_stand : (m : ℕ) → k ≤ m → TargetsStand o (known T m) T
    known_stand m l t = by (target_of T t) refl
      where
        by : (r : Option (DocumentNode K R)) → target_of T t ≡ r → StandsUnder o (known T m) t r
        by None e = ap (option_map (λ n. [])) e
        by (Some n) e = let s = h.stand t n e m l in record {
          target = s.target;
          named = s.named;
          verdict = s.verdict;
          asks_within = s.asks_within;
          faults = s.faults;
          evaluation = s.evaluation;
          formed = s.formed;
          forms = s.forms;
          clean = ap (option_map (λ n. [])) e;
        }

    -- nothing is wrong with a schema, if nothing is by the targets
    known_clean : (m : ℕ) → k ≤ m → (d : Data) (P : Text) → malformations_under W (known T m).refuses d P ≡ [] → malformations_under W (malformed_targets W D m) d P ≡ []
    known_clean m l d P = clean_carried W (known T m).refuses (malformed_targets W D m) d P (Each-any _ (λ t. by t (target_of T t) refl) (references_read W d))
      where
        by : (t : Text) (r : Option (DocumentNode K R)) → target_of T t ≡ r → (known T m).refuses t ≡ Some [] → malformed_targets W D m t ≡ Some []
        by t None e p = let q : None ≡ Some [] = sym (ap (option_map (λ n. [])) e) ∙ p in cc
        by t (Some n) e p = (h.stand t n e m l).clean

    -- what is wrong with a schema by the targets is wrong with it, where each reference in it is one of these texts
    known_told : (d : Data) (P : Text) → ((t : Text) → Contains (references_read W d) t → Contains ts t)
        → (f : Fault) → Contains (malformations_under W (known T k).refuses d P) f → Contains (malformations_under W (malformed_targets W D k) d P) f
    known_told d P among = told_carried W (known T k).refuses (malformed_targets W D k) d P
        (Each-implies (Contains (references_read W d)) _ (λ t c. by t c (target_of T t) refl) (references_read W d) (Each-contains (references_read W d)))
      where
        by : (t : Text) → Contains (references_read W d) t → (r : Option (DocumentNode K R)) → target_of T t ≡ r → IsToldBy ((known T k).refuses t) (malformed_targets W D k t)
        by t c None e = not_followed_by_either ((known T k).refuses t) (malformed_targets W D k t) (ap (option_map (λ n. [])) e) (h.others t (among t c) e)
        by t c (Some n) e = nothing_is_told ((known T k).refuses t) (malformed_targets W D k t) (ap (option_map (λ n. [])) e)

  module _ {k : ℕ} {T : Targets K R} where
    -- ---- the place that a text names

    -- a node that is built for it stands for it, where references are followed once more
    pub place_is_target : {ts : List Text} {n : DocumentNode K R} (t : Text) {d : Data} → AreTargets o D k ts T → place_named D t ≡ Some d → (m : ℕ) → k ≤ m → {old new : Counts}
        → IsBuilt (document_of o (known T m)) (answers o) n d (drop 1 t) old new → IsTarget o (followed W D (suc m)) n t
    unfolding targets malformed_targets standing_targets meaning_under malformations_under meaning malformations_at validators
    place_is_target t {d} h e m l b = record {
      target = λ u. record { place = drop 1 t; meaning = meaning_under W u (targets W u D m) d };
      named = λ u. ap (λ r. map (λ d. record { place = drop 1 t; meaning = meaning_under W u (targets W u D m) d }) (option_to_list r)) e;
      verdict = b.stands.verdict;
      asks_within = b.stands.asks_within;
      faults = b.stands.faults;
      evaluation = b.stands.evaluation;
      formed = b.stands.formed;
      forms = b.stands.forms ∙ sym (append-nil _) ∙ sym (ap (λ r. flat_map (λ d. answer_for (document_standing_step (standing_targets W D m) W) d (drop 1 t)) (option_to_list r)) e);
      clean = at_its_place W D m t e ∙ ap (λ fs. Some fs) (known_clean h m l d (drop 1 t) b.clean);
    }

    -- where it is refused, this is told of the text
    pub place_refused : (us : List Text) (t : Text) {d : Data} → AreTargets o D k (references_behind W D us) T → Contains us t → place_named D t ≡ Some d
        → (e : BuildError) → TellsOneOf (malformations_at (document_of o (known T k)).steps d (drop 1 t)) e → TellsOneOf (faults_behind W D (suc k) us) e
    unfolding malformations_under malformations_at
    place_refused us t {d} h c p e = tells _ _ (λ f m. told_of_place W D us c p k f (known_told h d (drop 1 t) (read_behind W D us c p) f m)) e

  -- ---- the document

  module _ {T : Targets K R} (h : AreTargets o D reference_limit (references_read W D) T) where
    pub document_built : {n : DocumentNode K R} {old new : Counts} → IsBuilt (document_of o (known T reference_limit)) (answers o) n D [] old new → IsDocument o D n
    unfolding meaning_under malformations_under meaning malformations_at
    document_built b = record {
      verdict = b.stands.verdict;
      asks_within = b.stands.asks_within;
      faults = b.stands.faults;
      evaluation = b.stands.evaluation;
      place = b.stands.place;
      formed = b.stands.formed;
      clean = known_clean h reference_limit (omega arith) D [] b.clean;
    }

    pub document_refused : (e : BuildError) → TellsOneOf (malformations_at (document_of o (known T reference_limit)).steps D []) e → TellsOneOf (document_malformations W D) e
    unfolding malformations_under malformations_at
    document_refused = tells _ _ (known_told h D [] (λ t c. c))

  pub references_refused : (e : BuildError) → TellsOneOf (faults_behind W D reference_limit (references_read W D)) e → TellsOneOf (document_malformations W D) e
  references_refused = tells _ _ (told_where_read W D reference_limit D [])
