use Rattle.std.proofs.Common.{sym, ◌∙◌, arith}
use Rattle.olk_regexes.proofs.Reading.{atom_simple}
use Rattle.olk_regexes.proofs.reader.+reader.Goals as goal

pub read_atom-returns-in_ok-read_simple-in_default : goal.read_atom-returns-in_ok-read_simple-in_default
read_atom-returns-in_ok-read_simple-in_default t c =
    c.in_ok-read_simple-in_default.ensures ∙ sym (atom_simple c.args.steps c.args.c c.args.text.now (omega arith) (λ e. omega arith))
