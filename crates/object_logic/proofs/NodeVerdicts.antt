-- A place that stands for a schema answers for the schema.
use Rattle.std.proofs.Common.{Bool, true, false, sym, ◌∙◌, arith}
use Rattle.serde_json.specs.Data.{Data}
use Rattle.olk_spec.specs.Names.{Path}
use Rattle.olk_base.specs.Lawful.{Asking}
use Rattle.olk_base.specs.Kit.{Kit}
use Rattle.olk_spec.specs.Meaning.{accepts}
use Rattle.object_logic.specs.Nodes.{answers, StandsFor}
use Rattle.object_logic.specs.declared.node.SchemaNode.{SchemaNode}
use Rattle.olk_tree.specs.Questions.{of_asked}
use Rattle.olk_check.specs.Asks.{Asks, AsksSchema, IsCertain}

pub of_schema : {K R : Type 0} {o : Kit K R} {n : SchemaNode K R} {S : Data} {P : Path} {v : Data} {a b : Asking} {r : Bool} → StandsFor o n S P
    → Asks a b ((answers o n).means v) r → AsksSchema o.world S v a b r
of_schema {v = v} {a = a} s h = record {
  only = h.only;
  asked_to = let within = s.asks_within a.answer v in let x = h.asked_to in omega arith;
  unfinished_to = let within = s.asks_within a.answer v in let x = h.unfinished_to of_asked in omega arith;
  verdict = h.verdict ∙ s.verdict a.answer v;
  certain = λ e l. sym (s.verdict true v) ∙ sym (h.certain e l true) ∙ h.certain e l false ∙ s.verdict false v;
}

pub certain_of_schema : {K R : Type 0} {o : Kit K R} {n : SchemaNode K R} {S : Data} {P : Path} (v : Data) {a b : Asking} → StandsFor o n S P
    → IsCertain a b ((answers o n).means v).accepts → IsCertain a b (λ u. accepts o.world u S v)
certain_of_schema v s h = record { same = λ e l. sym (s.verdict true v) ∙ h.same e l ∙ s.verdict false v }
