use Rattle.olk_base.specs.Kit.{kit}
use Rattle.olk_build.specs.Reading.{IsPattern}
use Rattle.olk_build.proofs.Spending.{exit, exit_with, refuses_memory, within_nothing, none_so_far, all_so_far, refused_so_far, one_more_pair, memory_past}
use Rattle.olk_build.proofs.ReadEntries.{listed_alike}
use Rattle.olk_build.proofs.pattern_properties.patterns_of_entries.Goals as goal

pub returns-in_err-patterns-clause-refused : goal.returns-in_err-patterns-clause-refused
returns-in_err-patterns-clause-refused g c = exit _ _ _ c.from_residual.ensures.1 (refuses_memory within_nothing)

pub loop-pattern-init : goal.loop-pattern-init
loop-pattern-init g c =
    record {
      so_far = none_so_far (rw c.in_ok-patterns.ensures.items tt) (listed_alike c.into_iter-pattern-iterator.ensures.into_iter_gives.0);
      next = tt;
      ends = tt;
    }

pub returns-in_err-compiled-clause-refused : goal.returns-in_err-compiled-clause-refused
returns-in_err-compiled-clause-refused g c =
    exit_with _ _ _ c.from_residual-in_err-compiled.ensures.1 (refused_so_far c.loop-pattern.invariant.so_far (listed_alike c.in-Some.ensures.steps) c.in_err-compiled.ensures.refused)

pub loop-pattern-preserved : goal.loop-pattern-preserved
loop-pattern-preserved g c =
    record {
      so_far = one_more_pair (λ p e. IsPattern (kit g.L.Leaf.Leaf g.M.Engine.RegexEngine) p e.0) c.loop-pattern.invariant.so_far (listed_alike c.in-Some.ensures.steps)
          c.in_ok-append.ensures.items c.in_ok-compiled.ensures.spends c.in_ok-compiled.ensures.pattern c.in_ok-compiled.ensures.right;
      next = tt;
      ends = tt;
    }

pub returns-in_err-append-clause-refused : goal.returns-in_err-append-clause-refused
returns-in_err-append-clause-refused g c =
    exit _ _ _ c.from_residual-in_err-append.ensures.1 (memory_past c.loop-pattern.invariant.so_far (listed_alike c.in-Some.ensures.steps) c.in_ok-compiled.ensures.spends)

pub returns-clause-read : goal.returns-clause-read
returns-clause-read g c = all_so_far c.loop-pattern.invariant.so_far (listed_alike c.in-None.ensures.steps.0)
