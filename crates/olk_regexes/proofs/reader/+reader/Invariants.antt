use Rattle.olk_regexes.proofs.reader.+reader.Given as goal

abbrev pub decreases-read_alternatives : goal.decreases-read_alternatives
decreases-read_alternatives l = l.steps

abbrev pub decreases-read_atom : goal.decreases-read_atom
decreases-read_atom l = l.steps

abbrev pub decreases-read_choice : goal.decreases-read_choice
decreases-read_choice l = l.steps

abbrev pub decreases-read_item : goal.decreases-read_item
decreases-read_item l = l.steps

abbrev pub decreases-read_sequence : goal.decreases-read_sequence
decreases-read_sequence l = l.steps
