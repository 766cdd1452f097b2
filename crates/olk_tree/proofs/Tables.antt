-- Tables of what patterns say: filled row by row, asked once for each name.
use Rattle.std.proofs.Common.{◌≡◌, ℕ, ◌+◌, ◌*◌, ◌<◌, ◌≤◌, Bool, true, false, cond, List, [], ◌∷◌, ◌++◌, length, get_or, take, map, Option, Some, None, Result, Ok, Err, ap, sym, subst, ◌∙◌, inl, inr, arith}
use Rattle.std.specs.Prelude.{◌≢◌, slice_get, IsSomeAnd, OnErr}
use Rattle.std.specs.List.{AllZip, filter_map, cons_option, range_with_len}
use Rattle.std.specs.Option.{option_map_or}
use Rattle.std.proofs.lemmas.Bool.{cases_eq}
use Rattle.std.proofs.lemmas.Option.{MatchOption-at_some, same_Some, slice_get_within, slice_get-get_or, slice_get_past}
use Rattle.std.proofs.lemmas.List.{take_more, append-nil, get_or-map, length-map, map-id, map-append}
use Rattle.std.proofs.lemmas.List.Sums.{count_by_more_yes, count_by_more_no}
use Rattle.std.proofs.lemmas.List.Elements.{filter_map-append}
use Rattle.std.proofs.lemmas.List.FromFn.{map-range_with_len_more}
use Rattle.std.proofs.lemmas.Slice.Zip.{AllZip-left, AllZip-long, all_zipped_more}
use native.Mathlib.Nat.{add-mul, mul-le-mul_right}
use Rattle.olk_spec.specs.Names.{Name}
use Rattle.olk_spec.specs.World.{Says, unmatched, unfinished}
use Rattle.olk_base.specs.Count.{Counts}
use Rattle.olk_base.specs.Compiled.{pattern_answers, pattern_costs}
use Rattle.olk_base.specs.Lawful.{count_ask}
use Rattle.olk_base.specs.declared.pattern.CompiledPattern.{CompiledPattern}
use Rattle.olk_base.proofs.CountLemmas.{raised_by_none, raised_by_sum, count_asked_is}
use Rattle.olk_tree.specs.declared.sorted_name.SortedName.{SortedName}
use Rattle.olk_tree.specs.declared.pattern_table.PatternIndex.{PatternIndex}
use Rattle.olk_tree.specs.Sorted.{name_of}
use Rattle.olk_tree.specs.Tables.{patterns_of, Row, row_says, HasWord, Table, table_says, index_said, indices_below, IsRowOf, IsTableOf, how_many_cost, count_asks, AsksAtMost}

-- ---- how asks add up

pub no_asks : (c : Counts) → count_asks 0 c ≡ c
no_asks c = raised_by_none c

pub asks_asks : (m n : ℕ) (c : Counts) → count_asks n (count_asks m c) ≡ count_asks (m + n) c
asks_asks m n c = raised_by_sum c _ _

ask_counts : (b : Bool) (c : Counts) → count_ask b c ≡ count_asks (cond b 1 0) c
ask_counts true c = count_asked_is c
ask_counts false c = sym (no_asks c)

module _ (cost names : ℕ) (old before after : Counts) (k : ℕ) (so_far : before ≡ count_asks (k * cost) old) where
  pub asks_a_name : after ≡ count_asks cost before → after ≡ count_asks ((k + 1) * cost) old
  asks_a_name e = e ∙ ap (count_asks cost) so_far ∙ asks_asks (k * cost) cost old ∙ ap (λ m. count_asks m old) (omega (arith, add-mul k 1 cost))

  pub stops_before : k < names → after ≡ before → AsksAtMost (names * cost) old after
  stops_before lt e = record { times = k * cost; exactly = e ∙ so_far; within = mul-le-mul_right cost (omega arith) }

  pub stops_behind : k < names → after ≡ count_asks cost before → AsksAtMost (names * cost) old after
  stops_behind lt e = record { times = (k + 1) * cost; exactly = asks_a_name e; within = mul-le-mul_right cost (omega arith) }

-- ---- the indices of patterns, one by one

module _ (says : ℕ → Says) (k : ℕ) where
  one_index_more : indices_below says (k + 1) ≡ indices_below says k ++ filter_map (λ i. index_said i (says i)) (k ∷ [])
  one_index_more =
      ap (filter_map (λ i. index_said i (says i))) (sym (map-id _) ∙ map-range_with_len_more (λ i. i) 0 k k (omega arith) ∙ ap (λ is. is ++ k ∷ []) (map-id _))
      ∙ filter_map-append (λ i. index_said i (says i)) (range_with_len 0 k) (k ∷ [])

  pub index_told : (x : PatternIndex) → Some x ≡ index_said k (says k) → indices_below says k ++ x ∷ [] ≡ indices_below says (k + 1)
  index_told x e = ap (λ o. indices_below says k ++ cons_option o []) e ∙ sym one_index_more

  pub index_untold : None ≡ index_said k (says k) → indices_below says k ≡ indices_below says (k + 1)
  index_untold e = sym (append-nil (indices_below says k)) ∙ ap (λ o. indices_below says k ++ cons_option o []) e ∙ sym one_index_more

-- ---- patterns that have nodes beside them

module _ {R N : Type 0} (es : List (CompiledPattern R × N)) where
  pub as_many_patterns : length (patterns_of es) ≡ length es
  as_many_patterns = length-map es (λ e. e.0)

  pub pattern_here : (k : ℕ) (e : CompiledPattern R × N) → k < length es → e ≡ get_or es k e → e.0 ≡ get_or (patterns_of es) k e.0
  pattern_here k e lt is = ap (λ x. x.0) is ∙ sym (get_or-map (λ x. x.0) es k e e.0 lt)

-- ---- a row, pattern by pattern

module _ {R : Type 0} (answers : R → Name → Says) (costs : R → Bool) (patterns : List (CompiledPattern R)) (n : Name) where
  -- the first k patterns were asked
  pub record IsAskedTo (old : Counts) (k : ℕ) (row : Row) (new : Counts) : Type 0 where
    pub words : (i : ℕ) → i < length patterns → HasWord i row
    pub noted : (i : ℕ) (e : CompiledPattern R) → i < k → slice_get patterns i ≡ Some e → row_says row i ≡ pattern_answers answers e n
    pub blank : (i : ℕ) → k ≤ i → row_says row i ≡ unmatched
    pub asked : new ≡ count_asks (how_many_cost costs (take k patterns)) old

  one_more : (k : ℕ) (d : CompiledPattern R) → k < length patterns → (b : Bool) → pattern_costs costs (get_or patterns k d) ≡ b → how_many_cost costs
      (take k patterns) + cond b 1 0 ≡ how_many_cost costs (take (k + 1) patterns)
  one_more k d lt true e = sym (count_by_more_yes _ patterns k d lt e)
  one_more k d lt false e = omega (arith, count_by_more_no (pattern_costs costs) patterns k d lt e)

  module _ (old : Counts) (k : ℕ) (row row' : Row) (new new' : Counts) (e : CompiledPattern R) (so_far : IsAskedTo old k row new) (lt : k < length patterns) (is : e ≡ get_or patterns k e) where
    asked_once_more : new' ≡ count_ask (pattern_costs costs e) new → new' ≡ count_asks (how_many_cost costs (take (k + 1) patterns)) old
    asked_once_more counts =
        counts
        ∙ ask_counts (pattern_costs costs e) new
        ∙ ap (count_asks _) so_far.asked
        ∙ asks_asks _ _ old
        ∙ ap (λ m. count_asks m old) (one_more k e lt (pattern_costs costs e) (ap (λ x. pattern_costs costs x) (sym is)))

    noted_once_more : row_says row' k ≡ pattern_answers answers e n → ((i : ℕ) → i ≢ k → row_says row' i ≡ row_says row i) → (i : ℕ) (x : CompiledPattern R)
        → i < k + 1 → slice_get patterns i ≡ Some x → row_says row' i ≡ pattern_answers answers x n
    noted_once_more here others i x le at =
        elim (cases_eq i k) [
          | inl same ↦
              ap (row_says row') same
              ∙ here
              ∙ ap (λ y. pattern_answers answers y n) (is ∙ same_Some (get_or patterns k e) x (sym (slice_get-get_or patterns k e lt) ∙ ap (slice_get patterns) (sym same) ∙ at))
          | inr other ↦ others i other ∙ so_far.noted i x (omega arith) at
        ]

    pub asked_more : row_says row' k ≡ pattern_answers answers e n → ((i : ℕ) → i ≢ k → row_says row' i ≡ row_says row i) → ((i : ℕ) → HasWord i row → HasWord i row')
        → new' ≡ count_ask (pattern_costs costs e) new → IsAskedTo old (k + 1) row' new'
    asked_more here others words counts = record {
      words = λ i l. words i (so_far.words i l);
      noted = noted_once_more here others;
      blank = λ i l. others i (omega arith) ∙ so_far.blank i (omega arith);
      asked = asked_once_more counts;
    }

  pub all_noted : (old : Counts) (k : ℕ) (row : Row) (new : Counts) → length patterns ≤ k → IsAskedTo old k row new → IsRowOf answers patterns n row
  all_noted old k row new all so_far i e at = so_far.noted i e (omega (arith, slice_get_within patterns i e at)) at

-- ---- a table, row by row

module _ {R : Type 0} (answers : R → Name → Says) (patterns : List (CompiledPattern R)) (t : Table) (rows : AllZip (IsRowOf answers patterns) t.names t.rows) where
  says_of_row : (i : ℕ) (n : Name) (e : CompiledPattern R) (o : Option Row) → IsSomeAnd o (IsRowOf answers patterns n) → slice_get patterns i ≡ Some e
      → option_map_or (λ r. row_says r i) o unfinished ≡ pattern_answers answers e n
  says_of_row i n e (Some r) h at = h i e at
  says_of_row i n e None h at = absurd h

  says : (p i : ℕ) (n : Name) (e : CompiledPattern R) → slice_get t.names p ≡ Some n → slice_get patterns i ≡ Some e → table_says t p i ≡ pattern_answers answers e n
  says p i n e name at =
      says_of_row i n e (slice_get t.rows p) (MatchOption-at_some (Unit {0}) (λ x. IsSomeAnd (slice_get t.rows p) (IsRowOf answers patterns x)) n name
      (AllZip-left (IsRowOf answers patterns) t.names t.rows rows p)) at

  pub is_table : t.patterns ≡ length patterns → IsTableOf answers patterns t
  is_table count = record { says = says; count = λ some. count }

  pub nothing_else : (p i : ℕ) → length t.names ≤ p → table_says t p i ≡ unfinished
  nothing_else p i le = ap (λ o. option_map_or (λ r. row_says r i) o unfinished) (slice_get_past t.rows p (omega (arith, AllZip-long (IsRowOf answers patterns) t.names t.rows rows)))

-- a row more, of the next name
pub row_told : {R : Type 0} (answers : R → Name → Says) (patterns : List (CompiledPattern R)) (names : List SortedName) (k : ℕ) (name : SortedName)
    (rows : List Row) (row : Row) → k < length names → name ≡ get_or names k name → AllZip (IsRowOf answers patterns) (map name_of (take k names)) rows
    → IsRowOf answers patterns (name_of name) row → AllZip (IsRowOf answers patterns) (map name_of (take (k + 1) names)) (rows ++ row ∷ [])
row_told answers patterns names k name rows row lt is so_far more =
    let next : map name_of (take (k + 1) names) ≡ map name_of (take k names) ++ name_of name ∷ [] =
    ap (map name_of) (take_more names k name lt ∙ ap (λ s. take k names ++ s ∷ []) (sym is)) ∙ map-append name_of (take k names) (name ∷ []) in
    subst (λ ns. AllZip (IsRowOf answers patterns) ns (rows ++ row ∷ [])) (sym next)
    (all_zipped_more _ _ rows _ row so_far more)

-- what is so where nothing is given
pub on_err : {T E P : Type 0} (r : Result T E) → P → OnErr r P
on_err (Ok x) h = tt
on_err (Err e) h = h
