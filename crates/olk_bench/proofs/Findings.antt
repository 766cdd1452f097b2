-- The text of a leaf is the only one that it finds.
use Rattle.std.proofs.Common.{◌≡◌, ◌++◌, ℕ, List, ◌∷◌, [], true, false, Bool, refl, arith, true≢false}
use Rattle.std.specs.Prelude.{codes, Contains}
use Rattle.serde_json.specs.Data.{Num, unsigned, negative, Data, number, string}
use Rattle.serde_json.specs.Written.{number_text}
use Rattle.olk_spec.specs.Names.{Text, is_empty}
use Rattle.olk_spec.specs.Bench.{unless, shown, minimum_faults, maximum_faults, multiple_faults, shorter_faults, longer_faults}
use Rattle.olk_bench.specs.Leaves.{leaf_finds, leaf_text}
use Rattle.olk_bench.specs.declared.leaf.BenchLeaf.{BenchLeaf}
use Rattle.olk_bench.specs.declared.leaf.BenchLeaf.TheVariants as leaf

pub unless_text : (ok : Bool) (t : Text) → is_empty (unless ok t) ≡ false → unless ok t ≡ t ∷ []
unless_text true t h = absurd (true≢false h)
unless_text false t h = refl

minimum_text : (m : Num) (v : Data) → is_empty (minimum_faults (number m) v) ≡ false → minimum_faults (number m) v ≡ (shown v ++ codes " is less than the minimum of " ++ number_text m) ∷ []
minimum_text m (number (unsigned n)) h = unless_text _ _ h
minimum_text m (number (negative z)) h = unless_text _ _ h
minimum_text m v h = absurd (true≢false h)

maximum_text : (m : Num) (v : Data) → is_empty (maximum_faults (number m) v) ≡ false → maximum_faults (number m) v ≡ (shown v ++ codes " is greater than the maximum of " ++ number_text m) ∷ []
maximum_text m (number (unsigned n)) h = unless_text _ _ h
maximum_text m (number (negative z)) h = unless_text _ _ h
maximum_text m v h = absurd (true≢false h)

multiple_text : (m : ℕ) (v : Data) → is_empty (multiple_faults (number (unsigned m)) v) ≡ false → multiple_faults (number (unsigned m)) v ≡
    (shown v ++ codes " is not a multiple of " ++ number_text (unsigned m)) ∷ []
multiple_text m (number (unsigned n)) h = unless_text _ _ h
multiple_text m (number (negative z)) h = unless_text _ _ h
multiple_text m v h = absurd (true≢false h)

shorter_text : (m : ℕ) (v : Data) → is_empty (shorter_faults (number (unsigned m)) v) ≡ false → shorter_faults (number (unsigned m)) v ≡
    (shown v ++ codes " is shorter than " ++ number_text (unsigned m) ++ codes " characters") ∷ []
shorter_text m (string s) h = unless_text _ _ h
shorter_text m v h = absurd (true≢false h)

longer_text : (m : ℕ) (v : Data) → is_empty (longer_faults (number (unsigned m)) v) ≡ false → longer_faults (number (unsigned m)) v ≡
    (shown v ++ codes " is longer than " ++ number_text (unsigned m) ++ codes " characters") ∷ []
longer_text m (string s) h = unless_text _ _ h
longer_text m v h = absurd (true≢false h)

pub finds_text : (l : BenchLeaf) (v : Data) → is_empty (leaf_finds l v) ≡ false → leaf_finds l v ≡ leaf_text l v ∷ []
finds_text (leaf.Minimum n) v h = minimum_text _ v h
finds_text (leaf.Maximum n) v h = maximum_text _ v h
finds_text (leaf.MultipleOf d) v h = multiple_text _ v h
finds_text (leaf.MinLength n) v h = shorter_text n v h
finds_text (leaf.MaxLength n) v h = longer_text n v h
finds_text _ v h = unless_text _ _ h

pub Contains-only : (texts : List Text) (t s : Text) → texts ≡ t ∷ [] → s ≡ t → Contains texts s
Contains-only texts t s e f = rw (e, f) (0, omega arith, refl)
