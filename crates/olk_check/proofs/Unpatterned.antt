-- Members that declared names and the rest speak of, and no patterns.
use Rattle.std.proofs.Common.{◌≡◌, ℕ, ◌+◌, ◌<◌, length, Bool, false, List, [], ◌∷◌, map, Option, Some, None, option_map, refl, sym, ap, ◌∙◌, is_some, arith}
use Rattle.std.specs.List.{enumerate_from, zip}
use denote.Ref.{Bor}
use mathlib.Core.Bool.{true≢false}
use Rattle.std.specs.Option.{option_copied}
use Rattle.std.proofs.Math.Bool.{and-true}
use Rattle.olk_meaning.proofs.Facts.{nothing_first, nothing_last}
use Rattle.serde_json.specs.Data.{Data}
use Rattle.olk_spec.specs.Names.{Name, lookup_name}
use Rattle.olk_spec.specs.World.{Says}
use Rattle.olk_spec.specs.Schemas.{members}
use Rattle.olk_base.specs.Lawful.{Asking}
use Rattle.olk_tree.specs.Questions.{Question, every}
use Rattle.olk_tree.specs.Additional.{placed, rest_means, member_means, member_means_at, means_in_turn}
use Rattle.olk_tree.specs.Maps.{mapped, keys_in, nodes_in, placed_entries}
use Rattle.olk_tree.proofs.Walked.{zip_parts}
use Rattle.olk_tree.specs.declared.properties_map.PropertiesMap.{PropertiesMap}
use Rattle.olk_tree.proofs.Maps.{lookup_name-zip}
use Rattle.olk_tree.proofs.Crowded.{one_too_many}
use Rattle.olk_tree.proofs.Merge.{Rising}
use Rattle.olk_check.specs.Asks.{Asks}
use Rattle.olk_check.proofs.Asked.{settles, unasked}
use Rattle.olk_check.specs.Unpatterned.{unpatterned, alone, declared_or_rest, names_mean, values_mean}

pub nothing_else : {A : Type 0} (o : Option (Bor A)) → is_some o ≡ false → None ≡ option_copied o
nothing_else None e = refl
nothing_else (Some r) e = absurd (true≢false e)

module _ {N : Type 0} (m : N → Data → Question) where
  -- where nothing else is expected and members are more than declared names
  pub crowded : (rest : Option N) → None ≡ rest → (es : List (Name × N)) (ms : List (Name × Data)) → Rising es → Rising ms → length es < length ms
      → (a : Asking) → Asks a a (every (λ x. declared_or_rest m rest x.1 (lookup_name x.0 es)) ms) false
  crowded rest none es ms r s l a = rw (← none)
      (settles (every (λ x. declared_or_rest m None x.1 (lookup_name x.0 es)) ms) false (unasked a false)
      (λ u e. sym (one_too_many (λ o x. declared_or_rest m None x o) u (λ x. refl) es ms r s l)) (λ k u e. omega arith))

  module _ {R : Type 0} (answers : R → Name → Says) (costs : R → Bool) (known : ℕ → ℕ → Says) where
    without_places : (i : ℕ) (ns : List N) → map (λ f. f.1) (enumerate_from i ns) ≡ ns
    without_places i [] = refl
    without_places i (n ∷ ns) = ap (λ l. n ∷ l) (without_places (i + 1) ns)

    module _ (p : PropertiesMap N) (rest : Option N) where
      at_declared : (d : Option (ℕ × N)) (n : Name) (x : Data) → member_means_at answers costs m (unpatterned p rest known) d n x ≡ declared_or_rest m rest x (option_map (λ f. f.1) d)
      at_declared None n x = λ i. record { accepts = (rest_means m x rest).accepts; asks = λ k u. nothing_first ((rest_means m x rest).asks k u) i }
      at_declared (Some f) n x = λ i. record { accepts = λ u. and-true ((m f.1 x).accepts u) i; asks = λ k u. nothing_last ((m f.1 x).asks k u) i }

      found_placed : (n : Name) → lookup_name n (mapped p) ≡ option_map (λ f. f.1) (lookup_name n (placed_entries (mapped p)))
      found_placed n =
          ap (lookup_name n) (sym (zip_parts (mapped p))) ∙ ap (λ l. lookup_name n (zip (keys_in (mapped p)) l)) (sym (without_places 0 (nodes_in (mapped p))))
          ∙ lookup_name-zip (λ f. f.1) n (keys_in (mapped p)) (placed (nodes_in (mapped p)))

      member_declared : (n : Name) (x : Data) → declared_or_rest m rest x (lookup_name n (mapped p)) ≡ member_means answers costs m (unpatterned p rest known) n x
      member_declared n x = ap (declared_or_rest m rest x) (found_placed n) ∙ sym (at_declared (lookup_name n (placed_entries (mapped p))) n x)

      -- where no patterns stand there
      pub unpatterned_means : (v : Data) → names_mean m (mapped p) rest v ≡ means_in_turn answers costs m (unpatterned p rest known) v
      unpatterned_means v = λ i. every (λ x. member_declared x.0 x.1 i) (members v)

    -- where nothing stands beside the rest
    module _ (rest : N) where
      at_rest : (n : Name) (x : Data) → m rest x ≡ member_means answers costs m (alone rest known) n x
      at_rest n x = sym (λ i. record { accepts = (m rest x).accepts; asks = λ k u. nothing_first ((m rest x).asks k u) i })

      pub alone_means : (v : Data) → values_mean m rest v ≡ means_in_turn answers costs m (alone rest known) v
      alone_means v = λ i. every (λ x. at_rest x.0 x.1 i) (members v)
