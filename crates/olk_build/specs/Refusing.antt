-- Refusals, what they count, and the error that building ends with where it stops.
use Rattle.std.specs.Prelude.{◌≡◌, ◌≤◌, ⊤, List, [], Contains}
use Rattle.std.specs.List.{flat_map}
use Rattle.olk_spec.specs.Faults.{Fault}
use Rattle.olk_spec.specs.Costs.{Cost, total_cost}
use Rattle.olk_base.specs.Count.{Counts, raised_by}
use Rattle.olk_reports.specs.declared.error.BuildError.TheVariants.{Refused, Memory}
use Rattle.olk_reports.specs.{Errors.fault_of, declared.error.BuildError.BuildError}
use Rattle.olk_build.specs.declared.refusal.Reason.{Reason}
use Rattle.olk_build.specs.declared.refusal.Reason.TheVariants as reason

-- ---- what a build counts

abbrev pub counted : Cost → Counts
counted c = record { compiled = c.places; leaves = c.leaf_places; made = c.pattern_places; asked = c.table_asks; unfinished = 0 }

-- exactly the cost, and at most the cost
abbrev pub Spends : Counts → Counts → Cost → Type 0
Spends old new c = new ≡ raised_by old (counted c)

pub record IsAtMost (c d : Cost) : Type 0 where
  pub places : c.places ≤ d.places
  pub leaf_places : c.leaf_places ≤ d.leaf_places
  pub pattern_places : c.pattern_places ≤ d.pattern_places
  pub table_asks : c.table_asks ≤ d.table_asks

pub record SpendsWithin (old new : Counts) (c : Cost) : Type 0 where
  pub spent : Cost
  pub exactly : Spends old new spent
  pub within : IsAtMost spent c

-- ---- what is told where nothing is built

-- one of these faults, or a lack of memory
abbrev pub TellsOneOf : List Fault → BuildError → Type 0
TellsOneOf fs (Refused e) = Contains fs (fault_of e)
TellsOneOf fs (Memory m) = ⊤

pub record Refuses (fs : List Fault) (c : Cost) (old new : Counts) (e : BuildError) : Type 0 where
  pub tells : TellsOneOf fs e
  pub spends : SpendsWithin old new c

-- ---- one thing after another, by what is wrong with each, what it costs, and what stands for them

module _ {X N : Type 0} (wrong : X → List Fault) (costs : X → Cost) (Stand : List N → List X → Type 0) where
  -- these stand for those, of which nothing is wrong, and are paid
  pub record ArePaid (ns : List N) (xs : List X) (old new : Counts) : Type 0 where
    pub stand : Stand ns xs
    pub clean : flat_map wrong xs ≡ []
    pub spends : Spends old new (total_cost costs xs)

-- The error that building ends with where it stops.
abbrev pub error_of : Reason → BuildError
error_of (reason.Refused e) = Refused e.value
error_of (reason.Memory m) = Memory m
