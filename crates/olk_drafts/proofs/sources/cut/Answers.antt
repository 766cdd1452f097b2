use Rattle.std.proofs.Common.{◌==◌}
use Rattle.std.proofs.lemmas.Str.Pattern.{split_once_first}
use Rattle.olk_drafts.proofs.Paths.{all_before, none_after}
use Rattle.olk_drafts.proofs.sources.cut.Goals as goal

pub returns-in-Some-clause-before : goal.returns-in-Some-clause-before
returns-in-Some-clause-before c =
    let found = rw c.in-Some.is at (split_once_first c.args.at c.args.text.now c.split_once.result c.split_once.ensures.cases c.requires) in
    found.1

pub returns-in-Some-clause-behind : goal.returns-in-Some-clause-behind
returns-in-Some-clause-behind c =
    let found = rw c.in-Some.is at (split_once_first c.args.at c.args.text.now c.split_once.result c.split_once.ensures.cases c.requires) in
    found.2

pub returns-in-None-clause-before : goal.returns-in-None-clause-before
returns-in-None-clause-before c =
    let found = rw c.in-None.is at (split_once_first c.args.at c.args.text.now c.split_once.result c.split_once.ensures.cases c.requires) in
    all_before (λ b. b == c.args.at) c.args.text.now found

pub returns-in-None-clause-behind : goal.returns-in-None-clause-behind
returns-in-None-clause-behind c =
    let found = rw c.in-None.is at (split_once_first c.args.at c.args.text.now c.split_once.result c.split_once.ensures.cases c.requires) in
    none_after (λ b. b == c.args.at) c.args.text.now found
