-- The meaning of `additionalProperties` without patterns beside it is that of declared names and the rest.
use Rattle.std.proofs.Common.{◌≡◌, Bool, true, false, ◌&&◌, cond, List, [], ◌∷◌, length, nat_eq, Option, None, refl, sym, ap, ◌∙◌, arith}
use Rattle.std.specs.Prelude.{⊤}
use Rattle.serde_json.specs.Data.{Data}
use Rattle.olk_spec.specs.Names.{Name, is_empty}
use Rattle.olk_spec.specs.Schemas.{members}
use Rattle.olk_spec.specs.World.{Says, unmatched}
use Rattle.olk_tree.specs.Questions.{Question, always, both, every}
use Rattle.olk_tree.specs.Additional.{Sides, additional_means, others_mean, member_means, known_by, repeats}
use Rattle.olk_tree.specs.Maps.{mapped}
use Rattle.olk_tree.proofs.Questions.{both_last}
use Rattle.olk_tree.specs.declared.properties_map.PropertiesMap.{PropertiesMap}
use Rattle.olk_check.specs.Unpatterned.{unpatterned, alone, names_mean, values_mean, declared_mean, alone_mean}
use Rattle.olk_check.proofs.Together.{each_is_all}
use Rattle.olk_check.proofs.Unpatterned.{unpatterned_means, alone_means}

abbrev no_answers : ⊤ → Name → Says
no_answers r n = unmatched

abbrev no_costs : ⊤ → Bool
no_costs r = false

module _ {N : Type 0} (m : N → Data → Question) where
  pub names_declared : (p : PropertiesMap N) (rest : Option N) (v : Data) → repeats v ≡ false → names_mean m (mapped p) rest v ≡ declared_mean m p rest v
  names_declared p rest v distinct = unpatterned_means m no_answers no_costs (known_by None) p rest v ∙ each_is_all no_answers no_costs m (unpatterned p rest (known_by None)) v distinct

  pub names_alone : (p : PropertiesMap N) (rest : Option N) (v : Data) → repeats v ≡ false → names_mean m (mapped p) rest v ≡ both (declared_mean m p rest v) (always true)
  names_alone p rest v distinct = names_declared p rest v distinct ∙ sym (both_last (declared_mean m p rest v))

  pub values_alone : (n : N) (v : Data) → repeats v ≡ false → values_mean m n v ≡ both (alone_mean m n v) (always true)
  values_alone n v distinct = alone_means m no_answers no_costs (known_by None) n v ∙ each_is_all no_answers no_costs m (alone n (known_by None)) v distinct ∙ sym (both_last (alone_mean m n v))

pub length_zero : {X : Type 0} (xs : List X) → nat_eq (length xs) 0 ≡ is_empty xs
length_zero [] = refl
length_zero (x ∷ xs) = grind arith

and_true : (x : Bool) → x ≡ (x && true)
and_true true = refl
and_true false = refl

refuses : {X : Type 0} (q : X → Question) (u : Bool) → ((x : X) → (q x).accepts u ≡ false) → (xs : List X) → is_empty xs ≡ (every q xs).accepts u
refuses q u h [] = refl
refuses q u h (x ∷ xs) = sym (ap (λ b. b && (every q xs).accepts u) (h x))

either : (b : Bool) (p q : Question) (u e : Bool) → e ≡ p.accepts u → e ≡ q.accepts u → e ≡ (cond b p q).accepts u
either true p q u e h k = h
either false p q u e h k = k

abbrev nothing_means : ⊤ → Data → Question
nothing_means n w = always true

abbrev nothing_beside : Sides ⊤ ⊤
nothing_beside = record { declared = []; patterns = []; known = known_by None; rest = None }

-- where nothing stands beside it and there is no rest
pub no_member : (v : Data) (u : Bool) → is_empty (members v) ≡ (both (additional_means {R = ⊤} {N = ⊤} no_answers no_costs nothing_means nothing_beside v) (always true)).accepts u
no_member v u = either (repeats v) _ _ u _ (refuses (λ x. others_mean no_answers no_costs nothing_means nothing_beside x.0 x.1) u (λ x. refl) (members v))
    (refuses (λ x. member_means no_answers no_costs nothing_means nothing_beside x.0 x.1) u (λ x. refl) (members v)) ∙ and_true _
