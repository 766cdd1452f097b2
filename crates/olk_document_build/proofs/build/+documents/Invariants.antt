use Rattle.serde_json.specs.View.{items_view, members_view}
use Rattle.olk_spec.specs.Malformed.{items_list}
use Rattle.olk_spec.specs.Schemas.{listed, numbered}
use Rattle.olk_build.specs.Building.{entries_read}
use Rattle.olk_build.proofs.Built.{EntriesSoFar, InnerSoFar, branches_from}
use Rattle.olk_document_build.specs.Targets.{ByTargets, answers_by, TargetsStand}
use Rattle.olk_document_build.proofs.build.+documents.Given as goal
use Rattle.std.proofs.Common.{◌≡◌, ◌++◌, List, String, Global}
use Rattle.serde_json.specs.declared.value.Value.{Value}
use Rattle.olk_base.specs.Kit.{kit}
use Rattle.olk_meaning.specs.Plans.{planned}
use Rattle.olk_document_meaning.specs.Places.{Referred}
use Rattle.olk_document_build.proofs.Object.{ObjectSoFar}

-- the nodes so far are built for those of the entries so far that are read
abbrev pub invariant-compile_entries-loop-name : goal.invariant-compile_entries-loop-name
invariant-compile_entries-loop-name g l = record {
  so_far : ByTargets g.L.Leaf.Leaf g.M.Engine.RegexEngine l.fn.targets (λ I. EntriesSoFar I (answers_by I) l.fn.place
      (entries_read l.passes_arrays (listed (members_view l.map.entries))) l.fn.meter l.nodes.items (entries_read l.passes_arrays (listed (members_view l.name-iterator))) l.meter);
  next : (goal.iterator-compile_entries-loop-name g).can_next l.name-iterator;
  ends : (goal.iterator-compile_entries-loop-name g).is_finite l.name-iterator;
}

abbrev pub invariant-compile_inner_entries-loop-name : goal.invariant-compile_inner_entries-loop-name
invariant-compile_inner_entries-loop-name g l = record {
  so_far : ByTargets g.L.Leaf.Leaf g.M.Engine.RegexEngine l.fn.targets (λ I. InnerSoFar I (answers_by I) l.fn.place (listed (members_view l.map.entries)) l.fn.meter l.nodes.items
      (listed (members_view l.name-iterator)) l.meter);
  next : (goal.iterator-compile_inner_entries-loop-name g).can_next l.name-iterator;
  ends : (goal.iterator-compile_inner_entries-loop-name g).is_finite l.name-iterator;
}

abbrev pub invariant-compile_branches-loop-i : goal.invariant-compile_branches-loop-i
invariant-compile_branches-loop-i g l =
    ByTargets g.L.Leaf.Leaf g.M.Engine.RegexEngine l.fn.targets (λ I. EntriesSoFar I (answers_by I) l.fn.place (numbered (items_list (items_view l.items.items))) l.fn.meter l.nodes.items (branches_from l.i l.schema-items) l.meter)

-- the keywords so far mean what the members so far do; the entries so far, which the next is none of, bound its size
abbrev pub invariant-compile_object-loop-name : goal.invariant-compile_object-loop-name
invariant-compile_object-loop-name g l = record {
  so_far : (F : Referred) → TargetsStand (kit g.L.Leaf.Leaf g.M.Engine.RegexEngine) F l.targets → ObjectSoFar (kit g.L.Leaf.Leaf g.M.Engine.RegexEngine) F (members_view l.members.entries) l.fn.location
      (planned l.plan) l.fn.meter l.keywords.items l.more.items (listed (members_view l.name-iterator)) l.meter;
  before : List (String Global × Value);
  entries : before ++ l.name-iterator ≡ l.members.entries;
  next : (goal.iterator-compile_object-loop-name g).can_next l.name-iterator;
  ends : (goal.iterator-compile_object-loop-name g).is_finite l.name-iterator;
}
