-- Patterns beside the nodes of their entries.
use Rattle.std.proofs.Common.{◌≡◌, List, ◌++◌, zip, sym, subst, subst₂}
use Rattle.std.specs.declared.alloc.AllocError.{AllocError}
use Rattle.serde_json.specs.Data.{Data}
use Rattle.olk_spec.specs.Names.{Name, Path}
use Rattle.olk_tree.specs.Answers.{Answers}
use Rattle.olk_build.specs.Reading.{PatternsAreRead, RefusesPatterns}
use Rattle.olk_build.proofs.Spending.{tells_left, tells_right, within_before, within_after, within_exactly, spends_append, refuses_memory}
use Rattle.olk_build.specs.Standing.{EntriesStand}
use Rattle.olk_build.proofs.Choosing.{both_stand}
use Rattle.olk_build.specs.Building.{AreBuilt, RefusesEach, PatternsAreBuilt, RefusesPatternEntries}
use Rattle.olk_base.specs.{Count.Counts, Kit.Kit, declared.pattern.CompiledPattern.CompiledPattern}
use Rattle.olk_reports.specs.{declared.error.BuildError.BuildError, declared.error.BuildError.TheVariants.Memory}
use Rattle.olk_tree.specs.Steps.{StepsOf}

module _ {K R N : Type 0} {o : Kit K R} (I : StepsOf o) (answers : N → Answers) (es : List (Name × Data)) (l L : Path) (place : l ≡ L) (a : Counts) where
  -- a pattern is refused
  pub refuses_pattern : (b : Counts) {x : BuildError} → RefusesPatterns o es l a b x → (e : BuildError) → e ≡ x → RefusesPatternEntries I es L a b e
  refuses_pattern b {x} h e q = subst₂ (λ M y. RefusesPatternEntries I es M a b y) place (sym q) record {
    tells = tells_left _ _ x h.tells;
    spends = within_before a b _ _ h.spends;
  }

  module _ (ps : List (CompiledPattern R)) (m b : Counts) (read : PatternsAreRead o ps es l a m) where
    there : PatternsAreRead o ps es L a m
    there = subst (λ M. PatternsAreRead o ps es M a m) place read

    -- the patterns are read, and a subschema is refused
    pub refuses_node : {x : BuildError} → RefusesEach I es L m b x → (e : BuildError) → e ≡ x → RefusesPatternEntries I es L a b e
    refuses_node {x} h e q = subst (RefusesPatternEntries I es L a b) (sym q) record {
      tells = tells_right _ _ x h.tells;
      spends = within_after a m b _ _ there.spends h.spends;
    }

    module _ (ns : List N) (built : AreBuilt I answers ns es L m b) where
      pub patterns_built : (entries : List (CompiledPattern R × N)) → entries ≡ zip ps ns → PatternsAreBuilt I answers entries es L a b
      patterns_built entries e = record {
        stand = subst (λ l. EntriesStand I answers l es L) (sym e) (both_stand I answers ps ns es L there.stand built.stand);
        clean = λ i. there.clean i ++ built.clean i;
        spends = spends_append a m b _ _ there.spends built.spends;
      }

      -- there is no memory for the entries
      pub refuses_entries : {x : AllocError} (e : BuildError) → e ≡ Memory x → RefusesPatternEntries I es L a b e
      refuses_entries e q = refuses_memory (within_exactly (spends_append a m b _ _ there.spends built.spends)) e q
