use Rattle.std.proofs.Common.{◌≡◌, map-id, sym, ◌∙◌, subst}
use Rattle.std.proofs.lemmas.Iterator.{YieldsList-from_chars}
use Rattle.std.proofs.lemmas.Iterator.Consumers.{YieldsList-end}
use Rattle.std.specs.Str.{chars}
use Rattle.olk_regexes.specs.Marks.{expr, matches}
use Rattle.olk_regexes.specs.Search.{finds}
use Rattle.olk_regexes.specs.Language.{framed}
use Rattle.olk_regexes.proofs.Found.{found_init, found_more, found_end}
use Rattle.olk_regexes.proofs.search.search_with.Goals as goal

pub loop-c-init : goal.loop-c-init
loop-c-init c = (
  c.read-found.auto.marks ∙ c.requires.sized,
  found_init c.args.regex.now c.args.empty c.read-found.result.ended c.args.marks.now c.read-found.new.marks c.requires.unset c.read-found.ensures.reads,
  c.read-found.ensures.dead,
)

pub loop-c-preserved : goal.loop-c-preserved
loop-c-preserved c = (
  c.read-found-in-loop-c.auto.marks ∙ c.loop-c.invariant.0,
  found_more c.args.regex.now c.args.empty c.loop-c.found.ended c.read-found-in-loop-c.result.ended c.loop-c.yielded c.in-Some.c c.loop-c.marks
      c.read-found-in-loop-c.new.marks c.loop-c.invariant.1 c.read-found-in-loop-c.ensures.reads,
  c.read-found-in-loop-c.ensures.dead,
)

pub returns : goal.returns
returns c =
    let t = YieldsList-end (YieldsList-from_chars c.args.text.now c.utf8.text cc) c.loop-c.yielded _ c.loop-c.yielded_by _ _ c.in-None.is c.next.ensures.steps in
    let e : c.loop-c.yielded ≡ chars c.args.text.now = sym (map-id c.loop-c.yielded) ∙ t.0 in
    subst (λ x. c.read.result.ended ≡ finds (matches (expr c.args.regex.now)) (framed x)) e
    (found_end c.args.regex.now c.args.empty c.loop-c.found.ended c.read.result.ended c.loop-c.yielded c.loop-c.marks c.read.new.marks
    c.loop-c.invariant.1 c.read.ensures.reads c.requires.empty)
