-- The members whose names a literal pattern matches.
use Rattle.std.proofs.Common.{◌≡◌, Bool, true, false, cond, List, [], ◌∷◌, map, Option, Some, None, option_to_list, bytes_eq, String, Global, string_bytes, refl, ap, ◌∙◌, arith}
use Rattle.std.specs.List.{flat_map}
use Rattle.std.proofs.Math.Bool.{and-true}
use Rattle.serde_json.specs.Data.{Data, Members, object}
use Rattle.olk_spec.specs.Names.{Name, lookup_name}
use Rattle.olk_spec.specs.World.{Says, matched, unmatched}
use Rattle.olk_spec.specs.Malformed.{has_repeat}
use Rattle.olk_spec.specs.Schemas.{listed, at}
use Rattle.olk_spec.proofs.Walks.{Distinct, Distinct-from, at_lookup}
use Rattle.olk_base.specs.declared.pattern.CompiledPattern.TheVariants.{Exact}
use Rattle.olk_tree.specs.Questions.{Question, always, conditional, said_to, every, of_asked, of_unfinished}
use Rattle.olk_tree.specs.PatternProperties.{matched_mean}
use Rattle.olk_tree.proofs.Questions.{alike, every-flat_map}

module _ (q : Data → Question) where
  -- what a test that costs nothing decides
  if_passed : (b : Bool) (x : Data) → every q (cond b (x ∷ []) []) ≡ conditional (said_to false (cond b matched unmatched)) (q x) (always true)
  if_passed true x = alike (λ u. and-true _) (elim [ of_asked ↦ λ u. omega arith | of_unfinished ↦ λ u. omega arith ])
  if_passed false x = alike (λ u. refl) (elim [ of_asked ↦ λ u. omega arith | of_unfinished ↦ λ u. omega arith ])

  found : (o : Option Data) → option_to_list o ≡ flat_map (λ x. x ∷ []) (option_to_list o)
  found None = refl
  found (Some x) = refl

  at_name : (t : Name) (ms : List (Name × Data)) → Distinct ms → every q (option_to_list (lookup_name t ms)) ≡ every
      (λ x. conditional (said_to false (cond (bytes_eq t x.0) matched unmatched)) (q x.1) (always true)) ms
  at_name t ms d =
      ap (every q) (found _ ∙ at_lookup (λ x. x ∷ []) t ms d)
      ∙ every-flat_map q (λ x. cond (bytes_eq t x.0) (x.1 ∷ []) []) ms
      ∙ (λ i. every (λ x. if_passed (bytes_eq t x.0) x.1 i) ms)

module _ {R N : Type 0} (answers : R → Name → Says) (costs : R → Bool) (m : N → Data → Question) (n : N) (ms : Members) where
  -- an exact text matches the one member that a look-up finds
  pub exact_mean : (s : String Global) → has_repeat (map (λ x. x.0) (listed ms)) ≡ false → every (m n) (at (string_bytes s) (object ms)) ≡ matched_mean answers costs m (Exact s) n (object ms)
  exact_mean s distinct = at_name (m n) (string_bytes s) (listed ms) (Distinct-from _ distinct)
