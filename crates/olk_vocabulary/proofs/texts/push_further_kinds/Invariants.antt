use Rattle.std.proofs.Common.{◌≡◌, ◌++◌, drop, map, string_bytes, ℕ, List}
use Rattle.olk_vocabulary.specs.declared.kinds.Kind.{Kind}
use Rattle.olk_vocabulary.specs.Keywords.{led, told_kind}
use Rattle.olk_vocabulary.specs.Leaves.{kind_value}
use Rattle.olk_vocabulary.proofs.texts.push_further_kinds.Given as goal

abbrev kind_text : Kind → List ℕ
kind_text k = told_kind (kind_value k)

abbrev pub invariant-loop-kind : goal.invariant-loop-kind
invariant-loop-kind l = string_bytes l.text ++ led (map kind_text (drop l.kind-index l.kinds)) ≡ string_bytes l.initial.text ++ led (map kind_text l.kinds)
