-- What is spent and told, one thing after another: each is built, or refused, or memory is wanted.
use Rattle.std.proofs.Common.{◌≡◌, List, ◌∷◌, ◌++◌, Contains, Result, IfErr, IsErrAnd, [], refl, sym, ◌∙◌, ap, subst, arith, append-nil, append_assoc}
use Rattle.std.specs.declared.alloc.AllocError.{AllocError}
use Rattle.std.specs.List.{flat_map, AllZip}
use Rattle.std.proofs.lemmas.List.Elements.{Contains-append_left, Contains-append_right}
use Rattle.olk_spec.specs.Faults.{Fault}
use Rattle.olk_spec.specs.Costs.{Cost, no_cost, ◌⊕◌, total_cost, one_place}
use Rattle.olk_base.specs.Count.{Counts, raised_by, count_compiled}
use Rattle.olk_base.proofs.CountLemmas.{raised_by_none, raised_by_sum, raised_zero}
use Rattle.olk_reports.specs.declared.error.BuildError.{BuildError}
use Rattle.olk_reports.specs.declared.error.BuildError.TheVariants.{Refused, Memory}
use Rattle.olk_build.specs.Refusing.{counted, Spends, IsAtMost, SpendsWithin, TellsOneOf, Refuses, ArePaid}
use Rattle.olk_spec.proofs.CostSums.{sum_first, total_cost-append, sum_last}
use Rattle.std.proofs.{lemmas.Grind.flat_map-append, lemmas.Result.err_from_is_err_and, lemmas.Slice.Zip.all_zipped_more}

-- ---- what is spent and told, one thing after another

at_most : (c d : Cost) → IsAtMost c (c ⊕ d)
at_most c d = record { places = omega arith; leaf_places = omega arith; pattern_places = omega arith; table_asks = omega arith }

at_most_before : (b c d : Cost) → IsAtMost c d → IsAtMost (b ⊕ c) (b ⊕ d)
at_most_before b c d h =
    record { places = omega (arith, h.places); leaf_places = omega (arith, h.leaf_places); pattern_places = omega (arith, h.pattern_places); table_asks = omega (arith, h.table_asks) }

at_most_through : (b c d : Cost) → IsAtMost b c → IsAtMost c d → IsAtMost b d
at_most_through b c d h k =
    record {
      places = omega (arith, h.places, k.places);
      leaf_places = omega (arith, h.leaf_places, k.leaf_places);
      pattern_places = omega (arith, h.pattern_places, k.pattern_places);
      table_asks = omega (arith, h.table_asks, k.table_asks);
    }

-- ---- one spending after another

pub spends_nothing : (a : Counts) → Spends a a no_cost
spends_nothing a = sym (raised_by_none a)

pub spends_append : (a b d : Counts) (x y : Cost) → Spends a b x → Spends b d y → Spends a d (x ⊕ y)
spends_append a b d x y h k = k ∙ ap (λ z. raised_by z (counted y)) h ∙ raised_by_sum a (counted x) (counted y)

pub spends_same : (a b : Counts) (x y : Cost) → x ≡ y → Spends a b x → Spends a b y
spends_same a b x y e h = subst (Spends a b) e h

pub spends_place : (a b : Counts) → b ≡ count_compiled a → Spends a b one_place
spends_place a b e = e ∙ rw (raised_zero a.leaves, raised_zero a.made, raised_zero a.asked, raised_zero a.unfinished) refl

pub within_after : (a b d : Counts) (x y : Cost) → Spends a b x → SpendsWithin b d y → SpendsWithin a d (x ⊕ y)
within_after a b d x y h k = record { spent = x ⊕ k.spent; exactly = spends_append a b d x k.spent h k.exactly; within = at_most_before x k.spent y k.within }

pub within_before : (a b : Counts) (x y : Cost) → SpendsWithin a b x → SpendsWithin a b (x ⊕ y)
within_before a b x y h = record { spent = h.spent; exactly = h.exactly; within = at_most_through h.spent x (x ⊕ y) h.within (at_most x y) }

pub within_exactly : {a b : Counts} {x : Cost} → Spends a b x → SpendsWithin a b x
within_exactly {x} h = record { spent = x; exactly = h; within = record { places = omega arith; leaf_places = omega arith; pattern_places = omega arith; table_asks = omega arith } }

pub within_same : {a b : Counts} {x y : Cost} → x ≡ y → SpendsWithin a b x → SpendsWithin a b y
within_same {a} {b} e h = subst (SpendsWithin a b) e h

pub within_nothing : {a : Counts} {x : Cost} → SpendsWithin a a x
within_nothing {a} {x} = within_same (sum_first x) (within_before a a no_cost x (within_exactly (spends_nothing a)))

-- ---- what is told

-- one of these is one of those
pub tells : (fs gs : List Fault) → ((f : Fault) → Contains fs f → Contains gs f) → (e : BuildError) → TellsOneOf fs e → TellsOneOf gs e
tells fs gs h (Refused r) t = h _ t
tells fs gs h (Memory m) t = tt

pub tells_left : (fs gs : List Fault) (e : BuildError) → TellsOneOf fs e → TellsOneOf (fs ++ gs) e
tells_left fs gs e t = tells fs (fs ++ gs) (λ f h. Contains-append_left fs gs f h) e t

pub tells_right : (fs gs : List Fault) (e : BuildError) → TellsOneOf gs e → TellsOneOf (fs ++ gs) e
tells_right fs gs e t = tells gs (fs ++ gs) (λ f h. Contains-append_right fs gs f h) e t

pub tells_same : {fs gs : List Fault} → fs ≡ gs → (e : BuildError) → TellsOneOf fs e → TellsOneOf gs e
tells_same p e t = subst (λ l. TellsOneOf l e) p t

pub tells_memory : (fs : List Fault) {m : AllocError} (e : BuildError) → e ≡ Memory m → TellsOneOf fs e
tells_memory fs e p = subst (TellsOneOf fs) (sym p) tt

-- ---- nothing is built

pub refuses_memory : {fs : List Fault} {x : Cost} {a b : Counts} → SpendsWithin a b x → {m : AllocError} (e : BuildError) → e ≡ Memory m → Refuses fs x a b e
refuses_memory {fs} h e p = record { tells = tells_memory fs e p; spends = h }

-- what holds of the error holds of the result that leaves by a `?`
pub exit : {T : Type 0} (G : BuildError → Type 0) (r : Result T BuildError) (Q : BuildError → Type 0) → IsErrAnd r Q → ((e : BuildError) → Q e → G e) → IfErr r G
exit G r Q h k = let p = err_from_is_err_and r h in subst (λ z. IfErr z G) (sym p.1) (k p.0 p.2)

-- and what holds of f, where the error is f
pub exit_with : {T : Type 0} (G : BuildError → Type 0) (r : Result T BuildError) (f : BuildError) → IsErrAnd r (λ e. e ≡ f) → G f → IfErr r G
exit_with G r f h k = exit G r _ h (λ e q. subst G (sym q) k)

-- one of the things that are gone through is refused
module _ {X : Type 0} (f : X → List Fault) (c : X → Cost) (all : List X) (a b : Counts) where
  pub refuses_among : (done : List X) (x : X) (rest : List X) (m : Counts) (e : BuildError) → done ++ x ∷ rest ≡ all → Spends a m (total_cost c done)
      → Refuses (f x) (c x) m b e → Refuses (flat_map f all) (total_cost c all) a b e
  refuses_among done x rest m e p h r = record {
    tells = tells_same (sym (flat_map-append f done (x ∷ rest)) ∙ ap (flat_map f) p) e (tells_right (flat_map f done) (flat_map f (x ∷ rest)) e (tells_left (f x) (flat_map f rest) e r.tells));
    spends = within_same (sym (total_cost-append c done (x ∷ rest)) ∙ ap (total_cost c) p)
        (within_after a m b (total_cost c done) (total_cost c (x ∷ rest)) h (within_before m b (c x) (total_cost c rest) r.spends));
  }

  pub memory_among : (done rest : List X) {m : AllocError} (e : BuildError) → e ≡ Memory m → done ++ rest ≡ all → Spends a b (total_cost c done) → Refuses (flat_map f all) (total_cost c all) a b e
  memory_among done rest e q p h = refuses_memory (within_same (sym (total_cost-append c done rest) ∙ ap (total_cost c) p)
      (within_before a b (total_cost c done) (total_cost c rest) (within_exactly h))) e q

-- ---- going through things one after the other: each is built, or refused, or memory is wanted

-- what is wrong with a thing, what it costs, and what stands for things
module _ {X N : Type 0} (wrong : X → List Fault) (costs : X → Cost) (Stand : List N → List X → Type 0) (all : List X) (a : Counts) where
  -- those that are done are paid, and the others are left
  pub record SoFar (ns : List N) (left : List X) (m : Counts) : Type 0 where
    pub done : List X
    pub built : ArePaid wrong costs Stand ns done a m
    pub whole : done ++ left ≡ all

module _ {X N : Type 0} {wrong : X → List Fault} {costs : X → Cost} {Stand : List N → List X → Type 0} {all : List X} {a : Counts} {ns : List N} {left : List X} where
  pub none_so_far : Stand ns [] → left ≡ all → SoFar wrong costs Stand all a ns left a
  none_so_far h e = record { done = []; built = record { stand = h; clean = refl; spends = spends_nothing a }; whole = e }

  module _ {m : Counts} (h : SoFar wrong costs Stand all a ns left m) where
    pub all_so_far : left ≡ [] → ArePaid wrong costs Stand ns all a m
    all_so_far e = subst (λ xs. ArePaid wrong costs Stand ns xs a m) (sym (append-nil h.done) ∙ ap (λ l. h.done ++ l) (sym e) ∙ h.whole) h.built

    pub memory_so_far : {w : AllocError} (e : BuildError) → e ≡ Memory w → Refuses (flat_map wrong all) (total_cost costs all) a m e
    memory_so_far e q = memory_among wrong costs all a m h.done left e q h.whole h.built.spends

    -- the next of them
    module _ {x : X} {rest : List X} (next : left ≡ x ∷ rest) where
      there : h.done ++ x ∷ rest ≡ all
      there = ap (λ l. h.done ++ l) (sym next) ∙ h.whole

      behind : (h.done ++ x ∷ []) ++ rest ≡ all
      behind = append_assoc h.done (x ∷ []) rest ∙ there

      pub refused_so_far : {b : Counts} {e : BuildError} → Refuses (wrong x) (costs x) m b e → Refuses (flat_map wrong all) (total_cost costs all) a b e
      refused_so_far {b} {e} r = refuses_among wrong costs all a b h.done x rest m e there h.built.spends r

      module _ {b : Counts} (s : Spends m b (costs x)) where
        spent : Spends a b (total_cost costs (h.done ++ x ∷ []))
        spent = spends_same a b _ _ (sym (total_cost-append costs h.done (x ∷ []) ∙ ap (λ c. total_cost costs h.done ⊕ c) (sum_last (costs x))))
            (spends_append a m b (total_cost costs h.done) (costs x) h.built.spends s)

        pub one_more_so_far : {new : List N} → Stand new (h.done ++ x ∷ []) → wrong x ≡ [] → SoFar wrong costs Stand all a new rest b
        one_more_so_far stand right = record {
          done = h.done ++ x ∷ [];
          built = record { stand = stand; clean = flat_map-append wrong h.done (x ∷ []) ∙ (λ i. h.built.clean i ++ (right i ++ [])); spends = spent };
          whole = behind;
        }

        -- it is built, and then memory is wanted
        pub memory_past : {w : AllocError} (e : BuildError) → e ≡ Memory w → Refuses (flat_map wrong all) (total_cost costs all) a b e
        memory_past e q = memory_among wrong costs all a b (h.done ++ x ∷ []) rest e q behind spent

-- the next is paid, and one thing stands for it
module _ {X N : Type 0} (R : N → X → Type 0) {wrong : X → List Fault} {costs : X → Cost} {all : List X} {a : Counts} {ns : List N} {left : List X} {m : Counts} (h : SoFar wrong costs (λ ns xs. AllZip R ns xs) all a ns left m) where
  pub one_more_pair : {x : X} {rest : List X} {b : Counts} {n : N} {new : List N} → left ≡ x ∷ rest → new ≡ ns ++ n ∷ [] → Spends m b (costs x) → R n x → wrong x ≡ []
      → SoFar wrong costs (λ ns xs. AllZip R ns xs) all a new rest b
  one_more_pair {x} {n = n} next q s r right = one_more_so_far h next s (subst (λ l. AllZip R l (h.done ++ x ∷ [])) (sym q) (all_zipped_more R ns h.done n x h.built.stand r)) right
