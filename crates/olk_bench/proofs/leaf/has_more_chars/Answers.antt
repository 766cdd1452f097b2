use Rattle.std.proofs.Common.{chars, length, sym, ap, ◌∙◌, arith}
use Rattle.std.specs.Option.{is_some}
use Rattle.std.proofs.lemmas.Bool.{le-ltb}
use Rattle.std.proofs.lemmas.Iterator.{YieldsList-from_chars}
use Rattle.std.proofs.lemmas.Iterator.Consumers.{nth_from_yields_List}
use Rattle.olk_spec.proofs.Maps.{is_some-map}
use Rattle.olk_bench.proofs.Counted.{is_some-slice_get, length-chars-le}
use Rattle.olk_bench.proofs.leaf.has_more_chars.Goals as goal

pub returns-then-count-text : goal.returns-then-count-text
returns-then-count-text c =
    let text = c.args.text.now in
    let char_there = nth_from_yields_List c.nth.result c.nth.new.self c.args.count c.nth.ensures.ran (YieldsList-from_chars text c.utf8.text c.chars.ensures.rest) in
    c.is_some.ensures ∙ is_some-map (λ x. x) c.nth.result ∙ ap is_some char_there ∙ is_some-slice_get (chars text) c.args.count

pub returns-else-count-text : goal.returns-else-count-text
returns-else-count-text c =
    let few_bytes = c.if-count-text.false in
    let few_chars = length-chars-le c.args.text.now c.utf8.text in
    le-ltb c.args.count _ few_bytes ∙ sym (le-ltb c.args.count (length (chars c.args.text.now)) (omega arith))
