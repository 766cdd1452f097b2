-- What is counted while schemas are built and asked. A count stays at the largest `u64`.
use Rattle.std.specs.Prelude.{ℕ, ◌+◌, ◌-◌, ◌^◌, min, max}

pub record Counts : Type 0 where
  -- schemas that were compiled, leaves and matchers that were made, matchers that were asked, and matches that were left unfinished
  pub compiled : ℕ
  pub leaves : ℕ
  pub made : ℕ
  pub asked : ℕ
  pub unfinished : ℕ

abbrev pub no_counts : Counts
no_counts = record { compiled = 0; leaves = 0; made = 0; asked = 0; unfinished = 0 }

-- n more, up to the largest `u64`; no count is past it, and one that were would stay
abbrev pub raised : ℕ → ℕ → ℕ
raised count n = min (count + n) (max count (2 ^ 64 - 1))

abbrev pub raised_by : Counts → Counts → Counts
raised_by c d = record {
  compiled = raised c.compiled d.compiled;
  leaves = raised c.leaves d.leaves;
  made = raised c.made d.made;
  asked = raised c.asked d.asked;
  unfinished = raised c.unfinished d.unfinished;
}

-- both together
abbrev pub sum_of : Counts → Counts → Counts
sum_of c d = record {
  compiled = c.compiled + d.compiled;
  leaves = c.leaves + d.leaves;
  made = c.made + d.made;
  asked = c.asked + d.asked;
  unfinished = c.unfinished + d.unfinished;
}

-- one more of one kind
abbrev pub count_compiled : Counts → Counts
count_compiled c = record c { compiled = raised c.compiled 1 }

abbrev pub count_leaf : Counts → Counts
count_leaf c = record c { leaves = raised c.leaves 1 }

abbrev pub count_made : Counts → Counts
count_made c = record c { made = raised c.made 1 }

abbrev pub count_asked : Counts → Counts
count_asked c = record c { asked = raised c.asked 1 }

abbrev pub count_unfinished : Counts → Counts
count_unfinished c = record c { unfinished = raised c.unfinished 1 }
